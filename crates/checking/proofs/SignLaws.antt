-- Laws on signs one behind the other: how many stand there, and that the check sees behind many what it sees behind one.
use mathlib.Core.Path.{◌≡◌, refl, sym, ap, ◌∙◌}
use mathlib.Core.Bool.{Bool, true, false}
use mathlib.Core.List.{List}
use Prim.Native.Nat.{ℕ, zero, suc, ◌+◌, ◌-◌}
use native.Mathlib.Omega.{arith}
use lib.Dec.{eqb}
use lib.ListN.{get_or}
use borrow.Author.Tests.{eqb-true, eq-eqb, ne_eqb}
use Rattle.tokens.specs.Token.{MINUS}
use Rattle.tokens.specs.Descent.{Read, read, ends, then, read_operand}
use Rattle.tokens.specs.SingleFault.{lower, wanting_fault}
use Rattle.checking.specs.Fault.{Sight, sight}
use Rattle.checking.specs.SightNumber.{signed_sight, signs_behind}
use Rattle.tokens.specs.ArmLaws.{minus-arm}

module _ (s : List ℕ) (k p t n : ℕ) (e : t ≡ get_or s (p + 1) 0) where
  pub behind-none : (t ≡ MINUS → ⊥) → n + signs_behind s k p ≡ n
  unfolding signs_behind
  behind-none h = go k
    where
      go : (j : ℕ) → n + signs_behind s j p ≡ n
      go zero = omega arith
      go (suc j) = simp (signs_behind, ne_eqb (get_or s (p + 1) 0) MINUS (λ q. h (e ∙ q))) (omega arith)

  pub behind-one : (i q m : ℕ) → (k ≡ 0 → ⊥) → t ≡ MINUS → i ≡ k - 1 → q ≡ p + 1 → m ≡ n + 1 → n + signs_behind s k p ≡ m + signs_behind s i q
  unfolding signs_behind
  behind-one i q m ne h x y z = rw (x, y, z) (go k ne)
    where
      go : (j : ℕ) → (j ≡ 0 → ⊥) → n + signs_behind s j p ≡ n + 1 + signs_behind s (j - 1) (p + 1)
      go zero f = absurd (f refl)
      go (suc j) f = let w : suc j - 1 ≡ j = omega arith in rw w (simp (signs_behind, eq-eqb (get_or s (p + 1) 0) MINUS (sym e ∙ h)) (omega arith))

pub behind-spent : (s : List ℕ) (k p n : ℕ) → k ≡ 0 → n + signs_behind s k p ≡ n
unfolding signs_behind
behind-spent s k p n z = rw z (omega arith)

-- what stands behind two signs is seen as behind one
twice : (x : Read Sight) → then (then x (signed_sight false)) (signed_sight false) ≡ then x (signed_sight false)
unfolding lower wanting_fault
twice (read a q) = refl
twice (ends k) = refl

-- ---- behind all the signs that stand there, as behind the first

module _ (s : List ℕ) where
  from_one : (m p : ℕ) → get_or s p 0 ≡ MINUS → then (read_operand s sight m (p + 1)) (signed_sight false) ≡ read_operand s sight (suc m) p
  unfolding sight
  from_one m p e = let w : suc m - 1 ≡ m = omega arith in rw w at (minus-arm s sight (suc m) p MINUS (λ z. omega arith) (sym e) refl)

  from_all : (m p n r q : ℕ) → get_or s p 0 ≡ MINUS → n ≡ signs_behind s m p → r ≡ m - n → q ≡ p + n + 1 → then (read_operand s sight r q) (signed_sight false) ≡ read_operand s sight (suc m) p
  unfolding signs_behind
  from_all zero p n r q e a b c = let y : r ≡ zero = omega arith in let z : q ≡ p + 1 = omega arith in rw (y, z) (from_one zero p e)
  from_all (suc m) p n r q e a b c = go (eqb (get_or s (p + 1) 0) MINUS) refl (from_all m (p + 1) (signs_behind s m (p + 1)) r q)
    where
      go : (t : Bool) → eqb (get_or s (p + 1) 0) MINUS ≡ t → (get_or s (p + 1) 0 ≡ MINUS → signs_behind s m (p + 1) ≡ signs_behind s m (p + 1) → r ≡ m - signs_behind s m (p + 1) → q ≡ p + 1 + signs_behind s m (p + 1) + 1 → then (read_operand s sight r q) (signed_sight false) ≡ read_operand s sight (suc m) (p + 1)) → then (read_operand s sight r q) (signed_sight false) ≡ read_operand s sight (suc (suc m)) p
      go false h f =
          let w : n ≡ 0 = a ∙ simp (signs_behind, h) in
          let y : r ≡ suc m = omega arith in
          let z : q ≡ p + 1 = omega arith in
          rw (y, z) (from_one (suc m) p e)
      go true h f =
          let w : n ≡ 1 + signs_behind s m (p + 1) = a ∙ simp (signs_behind, h) in
          sym (twice (read_operand s sight r q)) ∙ ap (λ (x : Read Sight). then x (signed_sight false)) (f (eqb-true _ _ h) refl (omega arith) (omega arith)) ∙ from_one (suc m) p e

  pub signs-arm : (k p t n r q : ℕ) → (k ≡ 0 → ⊥) → t ≡ get_or s p 0 → t ≡ MINUS → n ≡ signs_behind s (k - 1) p → r ≡ k - 1 - n → q ≡ p + n + 1 → then (read_operand s sight r q) (signed_sight false) ≡ read_operand s sight k p
  signs-arm zero p t n r q ne e h a b c = absurd (ne refl)
  signs-arm (suc m) p t n r q ne e h a b c = let w : suc m - 1 ≡ m = omega arith in from_all m p n r q (sym e ∙ h) (rw w at a) (rw w at b) c
