-- Laws of what a marker takes (document 02, Req 02): the nearest whole unit, halves away from zero; it is whole, and in range.
use Rattle.std.specs.Prelude.{◌≡◌, refl, Bool, true, false, ℕ, zero, suc, ◌+◌, ◌*◌, ◌/◌, ◌-◌, ◌≤◌, ℤ, pos, negsuc, nat_abs, neg_ℤ, ◌-ℤ◌, ◌*ℤ◌, Ok}
use Rattle.std.proofs.Common.{sym, ap, ◌∙◌, arith}
use Rattle.std.specs.Int.Signed.{quot_z}
use Rattle.values.specs.Size.{is_negative, signed_number}
use Rattle.values.specs.Value.{unit, half, in_range, whole_units, nearest_size, nearest_units, marker_of}
use Rattle.values.specs.Numbers.{clash, abs-mul, abs-quot}
use Rattle.values.specs.SizeLaws.{signed-size, sign-and-size, negative-quotient, one-sign, sizes-apart}
use Rattle.values.specs.ValueLaws.{Ranged, range-abs, abs-range}

-- ---- the nearest, halves away from zero

distance : (v : ℤ) → nat_abs (nearest_units v -ℤ v) ≡ (nearest_size (nat_abs v) - nat_abs v) + (nat_abs v - nearest_size (nat_abs v))
unfolding nearest_units
distance v = ap (λ (z : ℤ). nat_abs (nearest_units v -ℤ z)) (sym (sign-and-size v)) ∙ one-sign (is_negative v) (nearest_size (nat_abs v)) (nat_abs v)

-- at most half a unit away
pub nearest : (v : ℤ) → nat_abs (nearest_units v -ℤ v) ≤ half
nearest v = omega (arith, distance v)

whole-size : (w : ℤ) → whole_units w ≡ w → nat_abs w ≡ nat_abs w / unit * unit
unfolding whole_units
whole-size w e = sym (ap nat_abs e) ∙ abs-mul (quot_z w (pos unit)) (pos unit) ∙ ap (λ (n : ℕ). n * unit) (abs-quot w (pos unit))

-- no whole number is nearer
pub none-nearer : (v w : ℤ) → whole_units w ≡ w → nat_abs (nearest_units v -ℤ v) ≤ nat_abs (w -ℤ v)
none-nearer v w e = omega (arith, distance v, whole-size w e, sizes-apart w v)

negative-nearest : (n : ℕ) → nearest_units (neg_ℤ (pos n)) ≡ neg_ℤ (pos (nearest_size n))
unfolding nearest_units
negative-nearest zero = refl
negative-nearest (suc n) = refl

-- of two that are as near, the one further from zero
pub halves-away : (n : ℕ) → (nearest_units (pos (n * unit + half)) ≡ pos (suc n * unit)) × (nearest_units (neg_ℤ (pos (n * unit + half))) ≡ neg_ℤ (pos (suc n * unit)))
unfolding nearest_units
halves-away n =
    let e : nearest_size (n * unit + half) ≡ suc n * unit = omega arith in
    (ap pos e, negative-nearest (n * unit + half) ∙ ap (λ (m : ℕ). neg_ℤ (pos m)) e)

-- ---- whole

units-quotient : (q : ℤ) → quot_z (q *ℤ pos unit) (pos unit) ≡ q
units-quotient (pos n) = let e : n * unit / unit ≡ n = omega arith in ap pos e
units-quotient (negsuc n) = let e : suc n * unit / unit ≡ suc n = omega arith in negative-quotient (suc n * unit) unit ∙ ap (λ (m : ℕ). neg_ℤ (pos m)) e

-- a number of units has no fraction
units-whole : (q : ℤ) → whole_units (q *ℤ pos unit) ≡ q *ℤ pos unit
unfolding whole_units
units-whole q = ap (λ (z : ℤ). z *ℤ pos unit) (units-quotient q)

signed_units : (negative : Bool) (n : ℕ) → signed_number negative (n * unit) ≡ signed_number negative n *ℤ pos unit
signed_units true zero = refl
signed_units true (suc n) = refl
signed_units false n = refl

nearest-whole : (v : ℤ) → whole_units (nearest_units v) ≡ nearest_units v
unfolding nearest_units
nearest-whole v =
    let n = (nat_abs v + half) / unit in
    let e = signed_units (is_negative v) n in
    rw e (units-whole (signed_number (is_negative v) n))

-- ---- in range

-- rounding leaves no value's range: the top is whole
pub nearest-in-range : (v : ℤ) → in_range v ≡ true → in_range (nearest_units v) ≡ true
unfolding nearest_units
nearest-in-range v h = abs-range _ (omega (arith, range-abs v h, signed-size (is_negative v) (nearest_size (nat_abs v))))

-- ---- what a marker takes

-- of a value no alarm comes
pub marker-in-range : (v : ℤ) → in_range v ≡ true → marker_of v ≡ Ok (nearest_units v)
unfolding marker_of
marker-in-range v h = rw h

marker-told : (v w : ℤ) → marker_of v ≡ Ok w → (in_range v ≡ true) × (w ≡ nearest_units v)
unfolding marker_of
marker-told v w e = by-test (in_range v) refl
  where
    by-test : (b : Bool) → in_range v ≡ b → (in_range v ≡ true) × (w ≡ nearest_units v)
    by-test true p = let f = rw p at e in (p, cc)
    by-test false p = let f = rw p at e in clash (cc)

-- it is whole
pub marker-whole : (v w : ℤ) → marker_of v ≡ Ok w → whole_units w ≡ w
marker-whole v w e = rw (marker-told v w e).1 (nearest-whole v)

-- and in range
pub marker-ranged : (v : ℤ) → Ranged (marker_of v)
marker-ranged v w e = let t = marker-told v w e in rw t.1 (nearest-in-range v t.0)
