-- Laws of values: what follows from the definitions of Value.
use Rattle.std.specs.Prelude.{◌≡◌, refl, Bool, true, false, cond, ◌||◌, ◌⊎◌, ◌≤◌, eqb, ℤ, pos, negsuc, nat_abs, neg_ℤ, ◌-ℤ◌, Result, Ok, Err}
use Rattle.std.proofs.Common.{◌∙◌, inl, inr, arith, SFits, eqb-true, eq-eqb, ne_eqb, leb-true, le-leb}
use Rattle.std.proofs.Math.IntN.{+ℤ_invr}
use Rattle.std.specs.Int.{w32}
use Rattle.values.specs.declared.codes.Alarm.{Alarm}
use Rattle.values.specs.declared.codes.Alarm.TheVariants.{ZeroDivisor, NotAllowed}
use Rattle.values.specs.Value.{top, unit, in_range, valued, sum_of, difference_of, product_of, quotient_of, negation_of, less_than, equal_to, output_of, feed_of, sign_of}
use Rattle.values.specs.Numbers.{clash, abs_neg, no_difference, fits-abs}

-- ---- equality is what it says

-- values that compare as equal are the same
pub equal-same : (a b : ℤ) → equal_to a b ≡ true → a ≡ b
unfolding equal_to
equal-same a b h = no_difference a b (eqb-true (nat_abs (a -ℤ b)) 0 h)

-- the same values compare as equal
pub same-equal : {a b : ℤ} → a ≡ b → equal_to a b ≡ true
unfolding equal_to
same-equal {a} {b} e = eq-eqb (nat_abs (a -ℤ b)) 0 (rw (e, +ℤ_invr b))

-- different values do not
pub other-equal : (a b : ℤ) → (a ≡ b → ⊥) → equal_to a b ≡ false
unfolding equal_to
other-equal a b f = ne_eqb (nat_abs (a -ℤ b)) 0 (λ e. f (no_difference a b e))

-- ---- the range

-- a value in range is at most the top, either way
pub range-abs : (z : ℤ) → in_range z ≡ true → nat_abs z ≤ top
unfolding in_range
range-abs z h = leb-true (nat_abs z) top h

-- and a number at most the top, either way, is in range
pub abs-range : (z : ℤ) → nat_abs z ≤ top → in_range z ≡ true
unfolding in_range
abs-range z h = le-leb (nat_abs z) top h

-- a value in range fits 32 bits
pub range-fits : (z : ℤ) → in_range z ≡ true → SFits w32 z
range-fits z h = fits-abs w32 z (omega (arith, range-abs z h))

-- what working gives is in range whenever it is a value
abbrev pub Ranged : Result ℤ Alarm → Type 0
Ranged w = (v : ℤ) → w ≡ Ok v → in_range v ≡ true

-- a number in range is its own value
pub valued-value : (z : ℤ) → in_range z ≡ true → valued z ≡ Ok z
unfolding valued
valued-value z h = rw h

-- a number that is taken as a value is in range
pub valued-in-range : (z : ℤ) → Ranged (valued z)
unfolding valued
valued-in-range z v e = by-test (in_range z) refl
  where
    by-test : (b : Bool) → in_range z ≡ b → in_range v ≡ true
    by-test true p = let f = rw p at e in let k : z ≡ v = cc in rw (← k) p
    by-test false p = let f = rw p at e in clash (cc)

-- a sum that is a value is in range
pub sum-in-range : (a b : ℤ) → Ranged (sum_of a b)
unfolding sum_of
sum-in-range a b = valued-in-range _

-- a difference that is a value is in range
pub difference-in-range : (a b : ℤ) → Ranged (difference_of a b)
unfolding difference_of
difference-in-range a b = valued-in-range _

-- a product that is a value is in range
pub product-in-range : (a b : ℤ) → Ranged (product_of a b)
unfolding product_of
product-in-range a b = valued-in-range _

divided : (b : Bool) (z : ℤ) → Ranged (cond b (Err ZeroDivisor) (valued z))
divided true z v e = clash (cc)
divided false z v e = valued-in-range z v e

-- a quotient that is a value is in range
pub quotient-in-range : (a b : ℤ) → Ranged (quotient_of a b)
unfolding quotient_of
quotient-in-range a b = divided (eqb (nat_abs b) 0) _

-- a negative that is a value is in range
pub negation-in-range : (a : ℤ) → Ranged (negation_of a)
unfolding negation_of
negation-in-range a = valued-in-range _

-- the negative of a value in range never alarms
pub negation-value : (a : ℤ) → in_range a ≡ true → negation_of a ≡ Ok (neg_ℤ a)
unfolding negation_of
negation-value a h = valued-value (neg_ℤ a) (abs-range (neg_ℤ a) (rw (abs_neg a) (range-abs a h)))

-- ---- what the targets make of a value

taken-same : (b : Bool) (v w : ℤ) → cond b (Ok v) (Err NotAllowed) ≡ Ok w → w ≡ v
taken-same true v w e = cc
taken-same false v w e = clash (cc)

-- an output that takes a value takes it as it is
pub output-same : (v w : ℤ) → output_of v ≡ Ok w → w ≡ v
unfolding output_of
output-same v w = taken-same (equal_to v (pos 0) || equal_to v (pos unit)) v w

-- an output takes only 0 and 1
pub output-either : (v w : ℤ) → output_of v ≡ Ok w → (w ≡ pos 0) ⊎ (w ≡ pos unit)
unfolding output_of
output-either v w e = by_tests_lem (equal_to v (pos 0)) (equal_to v (pos unit)) refl refl
  where
    by_tests_lem : (a b : Bool) → equal_to v (pos 0) ≡ a → equal_to v (pos unit) ≡ b → (w ≡ pos 0) ⊎ (w ≡ pos unit)
    by_tests_lem true b p q = inl (output-same v w e ∙ equal-same v (pos 0) p)
    by_tests_lem false true p q = inr (output-same v w e ∙ equal-same v (pos unit) q)
    by_tests_lem false false p q = let f = rw (p, q) at e in clash (cc)

-- FA takes a value as it is
pub feed-same : (v w : ℤ) → feed_of v ≡ Ok w → w ≡ v
unfolding feed_of
feed-same v w = taken-same (less_than (pos 0) v) v w

-- the sign is in range
pub sign-in-range : (v : ℤ) → in_range (sign_of v) ≡ true
unfolding sign_of in_range
sign-in-range v = by_tests_lem (less_than v (pos 0)) (less_than (pos 0) v)
  where
    by_tests_lem : (a b : Bool) → in_range (cond a (negsuc 0) (cond b (pos 1) (pos 0))) ≡ true
    by_tests_lem true b = refl
    by_tests_lem false true = refl
    by_tests_lem false false = refl
