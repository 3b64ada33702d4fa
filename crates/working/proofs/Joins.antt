-- What the operators of each level join, and the pair of what they give.
use mathlib.Core.Path.{◌≡◌, sym, ap, ◌∙◌}
use mathlib.Core.Bool.{Bool, true}
use Prim.Native.Nat.{ℕ, ◌≤◌, ◌<◌}
use native.Mathlib.Omega.{arith}
use borrow.Author.Tests.{ne_eqb}
use lib.IntN.{ℤ}
use mir.Syntax.{w32}
use mir.Val.{SFits, to_z, of_z}
use Rattle.values.specs.declared.codes.Alarm.{Alarm}
use Rattle.std.specs.Prelude.{Result}
use Rattle.values.specs.Value.{sum_of, difference_of, product_of, quotient_of}
use Rattle.values.specs.SignedLaws.{both}
use Rattle.tokens.specs.Token.{room, SAME, OTHER, LESS, MORE, ATMOST, ATLEAST, PLUS, MINUS, TIMES, OVER, AND, XOR, is_factor, is_term, is_compare, is_logic}
use Rattle.tokens.specs.Descent.{Answer, good, Read, then, up_to}
use Rattle.tokens.specs.BetweenLaws.{inside}
use Rattle.working.specs.Pair.{pair_of, next_of, value_of, said}
use Rattle.working.specs.Operators.{from_worked, yes_no, is_yes, join_truths, join_logic, join_values}
use Rattle.working.proofs.Pairs as pair

module _ (o : ℕ) (a b : ℤ) where
  pub times : o ≡ TIMES → join_values o a b ≡ from_worked (product_of a b)
  unfolding join_values
  times h = rw h

  pub over : is_factor o ≡ true → (o ≡ TIMES → ⊥) → join_values o a b ≡ from_worked (quotient_of a b)
  unfolding join_values
  over h f = let i = inside TIMES OVER o h in let e : o ≡ OVER = omega (arith, i.0, i.1) in rw e

  pub plus : o ≡ PLUS → join_values o a b ≡ from_worked (sum_of a b)
  unfolding join_values
  plus h = rw h

  pub minus : is_term o ≡ true → (o ≡ PLUS → ⊥) → join_values o a b ≡ from_worked (difference_of a b)
  unfolding join_values
  minus h f = let i = inside PLUS MINUS o h in let e : o ≡ MINUS = omega (arith, i.0, i.1) in rw e

  module _ (t : o ≡ TIMES → ⊥) (v : o ≡ OVER → ⊥) (p : o ≡ PLUS → ⊥) (m : o ≡ MINUS → ⊥) where
    truths : join_values o a b ≡ good (yes_no (join_truths o a b))
    unfolding join_values
    truths = simp (join_values, ne_eqb o TIMES t, ne_eqb o OVER v, ne_eqb o PLUS p, ne_eqb o MINUS m)

  pub compared : is_compare o ≡ true → join_values o a b ≡ good (yes_no (join_truths o a b))
  compared h = let i = inside SAME ATLEAST o h in truths (λ e. omega (arith, i.1)) (λ e. omega (arith, i.1)) (λ e. omega (arith, i.1)) (λ e. omega (arith, i.1))

  only-logic : AND ≤ o → join_truths o a b ≡ join_logic o (is_yes a) (is_yes b)
  unfolding join_truths
  only-logic l =
      simp (join_truths, ne_eqb o SAME (λ e. omega arith), ne_eqb o OTHER (λ e. omega arith), ne_eqb o LESS (λ e. omega arith), ne_eqb o MORE (λ e. omega arith), ne_eqb o ATMOST (λ e. omega arith), ne_eqb o ATLEAST (λ e. omega arith))

  pub in_row : is_logic o ≡ true → join_values o a b ≡ good (yes_no (join_logic o (is_yes a) (is_yes b)))
  in_row h =
      let i = inside AND XOR o h in
      let l = i.0 in
      truths (λ e. omega arith) (λ e. omega arith) (λ e. omega arith) (λ e. omega arith) ∙ ap (λ (x : Bool). good (yes_no x)) (only-logic l)

-- a, the operator o, and the value v that the pair w says behind it, up to i
module _ (o : ℕ) (a : ℤ) (w : ℕ) {v : ℤ} {i : ℕ} (e : i ≡ next_of w) (ne : i ≡ 0 → ⊥) (g : v ≡ value_of w) where
  -- f works them: r says what it gave
  pub join-worked : (f : ℤ → ℤ → Result ℤ Alarm) {x : Result ℤ Alarm} {r : Read ℤ} → SFits w32 a → SFits w32 v → x ≡ f (to_z w32 (of_z w32 a)) (to_z w32 (of_z w32 v)) → ((0 < i) × (i < room) → r ≡ up_to (from_worked x) i) → join_values o a v ≡ from_worked (f a v) → r ≡ then (said w) (λ z q. up_to (join_values o a z) q)
  join-worked f ha hv h s j = pair.enters w e g (λ z q. up_to (join_values o a z) q) ne (pair.gives i (s (omega (arith, ne), pair.in-room w e)) (h ∙ both f ha hv) j)

  -- they give the yes/no u: y is its pair
  pub join-told : {u z : ℤ} {y : ℕ} → y ≡ pair_of (to_z w32 (of_z w32 z)) i → SFits w32 z → z ≡ u → join_values o a v ≡ good u → said y ≡ then (said w) (λ z q. up_to (join_values o a z) q)
  join-told p hz h j = pair.enters w e g (λ z q. up_to (join_values o a z) q) ne (pair.pairs i p hz h (omega (arith, ne)) (pair.in-room w e) ∙ ap (λ (x : Answer ℤ). up_to x i) (sym j))
