-- Laws of curves: what follows from the definitions of Curve.
use Rattle.std.specs.Prelude.{◌≡◌, refl, Bool, true, false, cond, ℤ, pos, negsuc, Result, Ok, Err}
use Rattle.std.proofs.Common.{ap, le_refl, arith, ltb-false, le-ltb}
use Rattle.values.specs.declared.codes.Alarm.{Alarm}
use Rattle.values.specs.declared.codes.Alarm.TheVariants.{OutOfRange}
use Rattle.values.specs.declared.curve.Curve.{Curve}
use Rattle.values.specs.Value.{in_range, valued, sum_of, product_of, less_than}
use Rattle.values.specs.Numbers.{clash}
use Rattle.values.specs.ValueLaws.{Ranged, sum-in-range}
use Rattle.values.specs.Curve.{◌times◌, ◌plus◌, polynomial_of, limited_to, limits, curve_of}

-- ---- limits

-- what holds of both limits, and of a value that is neither below the one nor above the other, holds of a value held between them
pub limited-holds : (P : ℤ → Type 0) (l u y : ℤ) → P l → P u → (less_than y l ≡ false → less_than u y ≡ false → P y) → P (limited_to l u y)
unfolding limited_to
limited-holds P l u y pl pu py = by_tests_lem (less_than y l) (less_than u y) refl refl
  where
    by_tests_lem : (a b : Bool) → less_than y l ≡ a → less_than u y ≡ b → P (cond a l (cond b u y))
    by_tests_lem true b p q = pl
    by_tests_lem false true p q = pu
    by_tests_lem false false p q = py p q

-- no number is below itself
pub not-below-itself : (z : ℤ) → less_than z z ≡ false
unfolding less_than
not-below-itself (pos n) = le-ltb n n (le_refl n)
not-below-itself (negsuc n) = le-ltb n n (le_refl n)

-- neither below the lower limit nor above the upper one
abbrev pub Between : ℤ → ℤ → ℤ → Type 0
Between l u y = (less_than y l ≡ false) × (less_than u y ≡ false)

-- what holds of a curve's value is shown of the polynomial's, held between the limits
limits-holds : (P : ℤ → Type 0) (c : Curve) (w : Result ℤ Alarm) (y : ℤ) → limits c w ≡ Ok y → ((v : ℤ) → w ≡ Ok v → P (limited_to c.lower c.upper v)) → P y
limits-holds P c (Ok v) y e f = let k : limited_to c.lower c.upper v ≡ y = cc in rw (← k) (f v refl)
limits-holds P c (Err k) y e f = clash (cc)

-- A CURVE'S VALUE LIES BETWEEN ITS LIMITS, where the lower one is not above the upper one
pub curve-limited : (c : Curve) (x y : ℤ) → less_than c.upper c.lower ≡ false → curve_of c x ≡ Ok y → Between c.lower c.upper y
unfolding curve_of
curve-limited c x y h e =
    limits-holds (Between l u) c (polynomial_of c x) y e
    (λ v g. limited-holds (Between l u) l u v (not-below-itself l, h) (h, not-below-itself u) (λ p q. (p, q)))
  where
    l : ℤ
    l = c.lower

    u : ℤ
    u = c.upper

-- between the limits the polynomial's value stays as it is
pub curve-between : (c : Curve) (x y : ℤ) → polynomial_of c x ≡ Ok y → Between c.lower c.upper y → curve_of c x ≡ Ok y
unfolding curve_of limited_to
curve-between c x y e h = rw (e, h.0, h.1)

-- numbers of which neither is below the other are the same
pub neither-below : (a b : ℤ) → less_than a b ≡ false → less_than b a ≡ false → a ≡ b
unfolding less_than
neither-below (pos m) (pos n) p q = let e : m ≡ n = omega (arith, ltb-false m n p, ltb-false n m q) in ap pos e
neither-below (pos m) (negsuc n) p q = clash (cc)
neither-below (negsuc m) (pos n) p q = clash (cc)
neither-below (negsuc m) (negsuc n) p q = let e : m ≡ n = omega (arith, ltb-false n m p, ltb-false m n q) in ap negsuc e

-- with equal limits a curve is flat
pub curve-flat : (c : Curve) (x y : ℤ) → c.upper ≡ c.lower → curve_of c x ≡ Ok y → y ≡ c.lower
unfolding curve_of
curve-flat c x y h e =
    limits-holds (λ (z : ℤ). z ≡ c.lower) c (polynomial_of c x) y e
    (λ v g. limited-holds (λ (z : ℤ). z ≡ c.lower) c.lower c.upper v refl h (λ p q. neither-below v c.lower p (rw h at q)))

-- ---- the steps

-- where each of the six steps gives a value, the limits hold the last of them
pub curve-steps :
    (c : Curve) (x p q r s t y : ℤ) →
    product_of c.a3 x ≡ Ok p →
    sum_of p c.a2 ≡ Ok q →
    product_of q x ≡ Ok r →
    sum_of r c.a1 ≡ Ok s →
    product_of s x ≡ Ok t →
    sum_of t c.a0 ≡ Ok y →
    curve_of c x ≡ Ok (limited_to c.lower c.upper y)
unfolding curve_of polynomial_of
curve-steps c x p q r s t y e3 f2 e2 f1 e1 f0 = rw (e3, f2, e2, f1, e1, f0)

-- ---- the range

plus-in-range : (w : Result ℤ Alarm) (a : ℤ) → Ranged (w plus a)
plus-in-range (Ok y) a = sum-in-range y a
plus-in-range (Err k) a = λ v e. clash (cc)

-- a polynomial's value is in range
pub polynomial-in-range : (c : Curve) (x : ℤ) → Ranged (polynomial_of c x)
unfolding polynomial_of
polynomial-in-range c x = plus-in-range _ c.a0

-- and so is a curve's, where its limits are
pub curve-in-range : (c : Curve) (x : ℤ) → in_range c.lower ≡ true → in_range c.upper ≡ true → Ranged (curve_of c x)
unfolding curve_of
curve-in-range c x hl hu y e =
    limits-holds Within c (polynomial_of c x) y e
    (λ v g. limited-holds Within c.lower c.upper v hl hu (λ p q. polynomial-in-range c x v g))
  where
    Within : ℤ → Type 0
    Within z = in_range z ≡ true

-- ---- alarms

-- no alarm but 30
abbrev pub Only30 : Result ℤ Alarm → Type 0
Only30 w = (k : Alarm) → w ≡ Err k → k ≡ OutOfRange

valued-30 : (z : ℤ) → Only30 (valued z)
unfolding valued
valued-30 z k e = by-test (in_range z) e
  where
    by-test : (b : Bool) → cond b (Ok z) (Err OutOfRange) ≡ Err k → k ≡ OutOfRange
    by-test true f = clash (cc)
    by-test false f = cc

times-30 : (w : Result ℤ Alarm) (x : ℤ) → Only30 w → Only30 (w times x)
unfolding product_of
times-30 (Ok y) x h = valued-30 _
times-30 (Err k) x h = h

plus-30 : (w : Result ℤ Alarm) (a : ℤ) → Only30 w → Only30 (w plus a)
unfolding sum_of
plus-30 (Ok y) a h = valued-30 _
plus-30 (Err k) a h = h

limits-30 : (c : Curve) (w : Result ℤ Alarm) → Only30 w → Only30 (limits c w)
limits-30 c (Ok y) h = λ k e. clash (cc)
limits-30 c (Err j) h = h

-- a curve raises no alarm but 30
pub curve-alarm : (c : Curve) (x : ℤ) → Only30 (curve_of c x)
unfolding curve_of polynomial_of
curve-alarm c x =
    limits-30 c _ (plus-30 _ c.a0 (times-30 _ x (plus-30 _ c.a1 (times-30 _ x (plus-30 _ c.a2 (times-30 (Ok c.a3) x λ k e. clash (cc)))))))
