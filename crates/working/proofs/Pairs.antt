-- Laws on pairs: what a pair says by the test of the code, what was paired is said again, and the laws of Answers for what is said.
use mathlib.Core.Path.{◌≡◌, refl, sym, ap, ◌∙◌}
use mathlib.Core.Bool.{Bool, true, false}
use Prim.Native.Nat.{ℕ, suc, ◌+◌, ◌*◌, ◌-◌, ◌/◌, ◌%◌, ◌<◌}
use native.Mathlib.Omega.{arith}
use lib.Dec.{ltb}
use lib.IntN.{ℤ, pos, negsuc}
use mir.Syntax.{w32}
use mir.Val.{SFits, to_z, of_z}
use borrow.Author.Tests.{eq-eqb, ne_eqb}
use Rattle.tokens.specs.Token.{set_size, room}
use Rattle.values.specs.declared.codes.Alarm.{Alarm}
use Rattle.values.specs.Codes.{code_of}
use Rattle.values.specs.CodeLaws.{code-byte}
use Rattle.std.specs.Prelude.{Result}
use Rattle.values.specs.SignedLaws.{back}
use Rattle.values.specs.Complement.{twos_complement, signed}
use Rattle.values.specs.ComplementLaws.{signed_back}
use Rattle.tokens.specs.Descent.{Answer, Read, read, ends, then, up_to}
use Rattle.tokens.specs.ReadStepLaws as answers
use Rattle.tokens.specs.RowLaws.{Says}
use Rattle.working.specs.Pair.{pair_of, alarm_of, next_of, value_of, alarm_in, said}
use Rattle.working.specs.Operators.{from_worked}

-- the number that bits stand for
pub bits-signed : (n : ℕ) → to_z w32 n ≡ signed n
unfolding signed
bits-signed n = go (ltb n 2147483648) refl
  where
    go : (b : Bool) → ltb n 2147483648 ≡ b → to_z w32 n ≡ signed n
    go true e = simp (signed, e)
    go false e = let m : 4294967296 - suc n ≡ 4294967295 - n = omega arith in simp (signed, e, m)

twos-bits : {v : ℤ} → SFits w32 v → twos_complement v < 4294967296
unfolding twos_complement
twos-bits {v = pos n} h = let l : n < 2147483648 = h.sfits in omega arith
twos-bits {v = negsuc n} h = omega arith

-- the pair w, whose next place is i
module _ (w : ℕ) {i : ℕ} (e : i ≡ next_of w) where
  pub in-room : i < room
  in-room = omega arith

  pub said-stop : i ≡ 0 → said w ≡ ends (alarm_in w)
  unfolding said
  said-stop h = simp (said, eq-eqb (next_of w) 0 (sym e ∙ h))

  module _ {v : ℤ} (g : v ≡ value_of w) where
    pub said-value : (i ≡ 0 → ⊥) → said w ≡ read v i
    unfolding said
    said-value h = rw (g, e) (simp (said, ne_eqb (next_of w) 0 (λ z. h (e ∙ z))))

    -- what it says goes into a step
    pub enters : (f : ℤ → ℕ → Read ℤ) {x : Read ℤ} → (i ≡ 0 → ⊥) → x ≡ f v i → x ≡ then (said w) f
    enters f h k = answers.enters f (said-value h) k

  -- an alarm passes through a step
  pub passes : (f : ℤ → ℕ → Read ℤ) → i ≡ 0 → said w ≡ then (said w) f
  passes f h = answers.passes f (said-stop h)

pub pairs-say : Says said value_of (λ (w : ℕ). alarm_in w)
pairs-say = record { stops = λ w e h. said-stop w e h; reads = λ w e h. said-value w e refl h }

-- what was paired is said again
pub pair-said : {v : ℤ} (p : ℕ) → SFits w32 v → 0 < p → p < room → said (pair_of v p) ≡ read v p
unfolding pair_of value_of
pair-said {v} p h l m =
    let n = twos_complement v in
    let b : (n * room + p % room) / room % 4294967296 ≡ n = omega (arith, twos-bits h) in
    let e : p ≡ (n * room + p % room) % room = omega arith in
    said-value (pair_of v p) e (sym (ap signed b ∙ signed_back h)) (λ z. omega arith)

pub alarm-said : (a : Alarm) → said (alarm_of (code_of a)) ≡ ends (code_of a)
alarm-said a = by_code (code_of a) (code-byte a)
  where
    by_code : (k : ℕ) → k < 256 → said (alarm_of k) ≡ ends k
    by_code k l =
        let b : k * room / room % 256 ≡ k = omega arith in
        let e : 0 ≡ k * room % room = omega arith in
        said-stop (alarm_of k) e refl ∙ ap ends b

-- one more is the next place
pub next-said : (w : ℕ) {i : ℕ} → i ≡ next_of w → i < set_size → said (w + 1) ≡ read (value_of w) (i + 1)
unfolding value_of
next-said w {i} f l =
    let b : (w + 1) / room ≡ w / room = omega arith in
    let e : i + 1 ≡ (w + 1) % room = omega arith in
    said-value (w + 1) e (sym (ap (λ (n : ℕ). signed (n % 4294967296)) b)) (λ z. omega arith)

-- x is the pair of v and p, and v is z
pub pairs : {x : ℕ} {v z : ℤ} (p : ℕ) → x ≡ pair_of (to_z w32 (of_z w32 v)) p → SFits w32 v → v ≡ z → 0 < p → p < room → said x ≡ read z p
pairs p e h f l m = ap said (e ∙ ap (λ (u : ℤ). pair_of u p) (back w32 h)) ∙ pair-said p h l m ∙ ap (λ (u : ℤ). read u p) f

-- x is what a working gives, and that is an answer
pub gives : {x : Read ℤ} {v w : Result ℤ Alarm} {y : Answer ℤ} (q : ℕ) → x ≡ up_to (from_worked v) q → v ≡ w → y ≡ from_worked w → x ≡ up_to y q
gives q e f g = e ∙ ap (λ (u : Result ℤ Alarm). up_to (from_worked u) q) f ∙ ap (λ (u : Answer ℤ). up_to u q) (sym g)
