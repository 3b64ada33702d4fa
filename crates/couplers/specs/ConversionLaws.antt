-- Laws of the conversion: a number of volts by the three fields of its bits; every multiple of one eighth is exact; the nearest, halves to even. Nothing is assumed.
use Rattle.std.specs.Prelude.{◌≡◌, refl, Bool, true, false, cond, not, T, leb, ltb, eqb, ℤ, pos, nat_abs, Float, Some, None, Result, Ok, Err}
use Rattle.std.proofs.Common.{sym, ap, subst, ◌∙◌, add-mul, add-zero, one-mul, mod-lt, div-add-mod', mul_assoc, mul_right_comm, mul-le-mul, mod-eq_of_lt, le-div_iff_mul-le, lt_of_lt_of_le, arith, leb→le, eqb→eq, pow-add, pow_pos, pow_mono, shl_lt, ltb-true, ltb-false, lt-ltb, le-ltb, le-leb, ne_eqb, eq-eqb}
use Prim.Native.Nat.{ℕ, zero, suc, ◌+◌, ◌-◌, ◌*◌, ◌/◌, ◌%◌, ◌^◌, ◌≤◌, ◌<◌, compare, Ordering}
use Rattle.std.proofs.Math.Nat.{div-eq_of_lt}
use Rattle.std.proofs.Math.Dec.{is_le, compare_is_eq, nleb→lt}
use Rattle.std.specs.Float.{nan, inf, fin, binary32}
use Rattle.std.specs.Float.Ieee.{up, down, odd, nearest, round, of_bits, of_fields, to_bits, fits}
use Rattle.std.specs.Float.Ieee.Nearest.{closest, closest_same}
use Rattle.std.specs.Float.Ieee.Exact.{HasValue, odd_sign, round_exact}
use Rattle.std.specs.Float.Ieee.Fits.{down_pos, round-fits}
use Rattle.std.specs.Float.Ieee.Bits.{of_bits-to_bits}
use Rattle.std.proofs.lemmas.Bool.{lt-leb}
use Rattle.values.specs.Numbers.{clash}
use Rattle.values.specs.Size.{signed_number}
use Rattle.values.specs.SizeLaws.{signed-size}
use Rattle.values.specs.Value.{top, unit, in_range, valued}
use Rattle.std.specs.Result.{result_ok}
use Rattle.values.specs.declared.codes.Alarm.{Alarm}
use Rattle.values.specs.declared.codes.Alarm.TheVariants.{OutOfRange}
use Rattle.couplers.specs.Conversion.{nearest_even, signed_thousandths, thousandths_of, value_of}

-- ---- nearest, halves to even

-- the library's rounding of a fraction is the same
nearest-closest : (n d : ℕ) → nearest_even n d ≡ closest n d
unfolding nearest_even
nearest-closest n d = go (compare (n % d * 2) d) (leb→le (n % d * 2) d) (nleb→lt (n % d * 2) d) (eqb→eq (n % d * 2) d) (λ e. eq-eqb (n % d * 2) d e)
  where
    go : (o : Ordering) → (T (is_le o) → n % d * 2 ≤ d) → (T (not (is_le o)) → d < n % d * 2) → (T (compare_is_eq o) → n % d * 2 ≡ d) → (n % d * 2 ≡ d → compare_is_eq o ≡ true) →
        cond (ltb (n % d * 2) d) (n / d) (cond (ltb d (n % d * 2)) (n / d + 1) (n / d + n / d % 2)) ≡ nearest (n / d) o
    go Ordering.lt h k e f = let l : n % d * 2 ≤ d = h tt in let x : n % d * 2 ≡ d → ⊥ = λ p. let z : false ≡ true = f p in absurd (subst (λ (b : Bool). T (not b)) z tt) in rw (lt-ltb (n % d * 2) d (omega arith))
    go Ordering.eq h k e f = let p : n % d * 2 ≡ d = e tt in rw (le-ltb (n % d * 2) d (omega arith), le-ltb d (n % d * 2) (omega arith))
    go Ordering.gt h k e f = let l : d < n % d * 2 = k tt in rw (le-ltb (n % d * 2) d (omega arith), lt-ltb d (n % d * 2) l) (omega arith)

-- equal fractions are rounded to the same
nearest-same : (a b c d : ℕ) → 0 < b → 0 < d → a * d ≡ c * b → nearest_even a b ≡ nearest_even c d
nearest-same a b c d x y h = nearest-closest a b ∙ closest_same a b c d x y h ∙ sym (nearest-closest c d)

-- less than a half is 0
nearest-none : (a b : ℕ) → a * 2 < b → nearest_even a b ≡ 0
unfolding nearest_even
nearest-none a b h =
    let l : a < b = omega arith in
    rw (mod-eq_of_lt l, div-eq_of_lt l, lt-ltb (a * 2) b h)

nearest-least : (a b : ℕ) → a / b ≤ nearest_even a b
unfolding nearest_even
nearest-least a b = go (ltb (a % b * 2) b) (ltb b (a % b * 2))
  where
    go : (x y : Bool) → a / b ≤ cond x (a / b) (cond y (a / b + 1) (a / b + a / b % 2))
    go true y = omega arith
    go false true = omega arith
    go false false = omega arith

-- the code's way: the sign put back by the arithmetic of values
pub signed-by-value : (negative : Bool) (size : ℕ) {w : Result ℤ Alarm} → valued (signed_number negative size) ≡ w → signed_thousandths negative size ≡ result_ok w
unfolding valued in_range signed_thousandths
signed-by-value negative size e = rw (← e, signed-size negative size) (go (leb size top))
  where
    go : (b : Bool) → cond b (Some (signed_number negative size)) None ≡ result_ok (cond b (Ok (signed_number negative size)) (Err OutOfRange))
    go true = refl
    go false = refl

-- ---- a float that is a / c, with the sign s

convert-value : (x : Float) (s : Bool) (a c : ℕ) → 0 < c → HasValue x s a c → thousandths_of x ≡ signed_thousandths s (nearest_even (a * 1000) c)
unfolding thousandths_of
convert-value nan s a c h v = absurd v
convert-value (inf t) s a c h v = absurd v
convert-value (fin t m e) s a c h v =
    let k : m * up e * 1000 * c ≡ a * 1000 * down e = mul_right_comm (m * up e) 1000 c ∙ ap (λ (z : ℕ). z * 1000) v.1 ∙ mul_right_comm a (down e) 1000 in
    rw (v.0, nearest-same (m * up e * 1000) (down e) (a * 1000) c (down_pos e) h k)

convert-odd : (s : Bool) (q k : ℕ) → thousandths_of (odd 24 s q k 149) ≡ signed_thousandths s (nearest_even (q * 2 ^ k * 1000) (2 ^ 149))
convert-odd s q k = convert-value (odd 24 s q k 149) s (q * 2 ^ k) (2 ^ 149) (pow_pos 149) (odd_sign 24 s q k 149)

-- ---- a number by the three fields of its bits: sign, exponent, digits

-- the numbers here are too long for the search: p stands for a power of two
low_end : (p z : ℕ) → 0 < p → z ≤ 16777216 * p → z * 1000 * 2 < 68719476736 * p
low_end p z h l = omega arith

high_end : (p z : ℕ) → 8388608 * p ≤ z → 1048576000 * (8 * p) ≤ z * 1000
high_end p z l = omega arith

zero-signed : (s : Bool) → Some (signed_number s 0) ≡ Some (pos 0)
zero-signed true = refl
zero-signed false = refl

-- less than half a thousandth
convert-none : (s : Bool) (q k : ℕ) → q ≤ 16777216 → k ≤ 113 → thousandths_of (odd 24 s q k 149) ≡ Some (pos 0)
unfolding signed_thousandths
convert-none s q k h l =
    let g : q * 2 ^ k ≤ 16777216 * 2 ^ 113 = mul-le-mul h (pow_mono l) in
    convert-odd s q k ∙ rw (nearest-none (q * 2 ^ k * 1000) (2 ^ 149) (low_end (2 ^ 113) (q * 2 ^ k) (pow_pos 113) g)) (zero-signed s)

-- 2^20 volts and more
convert-far : (s : Bool) (q k : ℕ) → 8388608 ≤ q → 146 ≤ k → thousandths_of (odd 24 s q k 149) ≡ None
unfolding signed_thousandths
convert-far s q k h l =
    let g : 8388608 * 2 ^ 146 ≤ q * 2 ^ k = mul-le-mul h (pow_mono l) in
    let a = q * 2 ^ k * 1000 in
    let d : 1048576000 ≤ a / 2 ^ 149 = (le-div_iff_mul-le (pow_pos 149)).1 (high_end (2 ^ 146) (q * 2 ^ k) g) in
    let f : top < nearest_even a (2 ^ 149) = more (a / 2 ^ 149) (nearest_even a (2 ^ 149)) d (nearest-least a (2 ^ 149)) in
    convert-odd s q k ∙ rw (lt-leb (nearest_even a (2 ^ 149)) top f)
  where
    more : (x y : ℕ) → 1048576000 ≤ x → x ≤ y → top < y
    more x y u v = omega arith

pub too_small : (s : Bool) (x t : ℕ) → x < 115 → t < 8388608 → thousandths_of (of_fields binary32 s x t) ≡ Some (pos 0)
unfolding of_fields
too_small s zero t h l = convert-none s t 0 (omega arith) (omega arith)
too_small s (suc k) t h l = rw (ne_eqb (suc k) 255 (λ e. omega arith)) (convert-none s (8388608 + t) k (omega arith) (omega arith))

-- the infinities and NaN too
pub too-great : (s : Bool) (x t : ℕ) → 146 < x → thousandths_of (of_fields binary32 s x t) ≡ None
unfolding of_fields thousandths_of
too-great s zero t h = absurd (omega arith)
too-great s (suc k) t h = go (eqb (suc k) 255) (eqb t 0)
  where
    go : (b c : Bool) → thousandths_of (cond b (cond c (inf s) nan) (odd 24 s (8388608 + t) k 149)) ≡ None
    go true true = refl
    go true false = refl
    go false c = convert-far s (8388608 + t) k (omega arith) (omega arith)

-- between them
pub between : (s : Bool) (x t : ℕ) → 115 ≤ x → x ≤ 146 → thousandths_of (of_fields binary32 s x t) ≡ signed_thousandths s (nearest_even ((8388608 + t) * 1000) (2 ^ (150 - x)))
unfolding of_fields
between s zero t h l = absurd (omega arith)
between s (suc k) t h l =
    let q = 8388608 + t in
    let j = 150 - suc k in
    let w : k + j ≡ 149 = omega arith in
    let p : 2 ^ k * 2 ^ j ≡ 2 ^ 149 = sym (pow-add 2 k j) ∙ ap (λ (z : ℕ). 2 ^ z) w in
    let e : q * 2 ^ k * 1000 * 2 ^ j ≡ q * 1000 * 2 ^ 149 =
    ap (λ (z : ℕ). z * 2 ^ j) (mul_right_comm q (2 ^ k) 1000) ∙ mul_assoc (q * 1000) (2 ^ k) (2 ^ j) ∙ ap (λ (z : ℕ). q * 1000 * z) p in
    rw (ne_eqb (suc k) 255 (λ e. omega arith))
    (convert-odd s q k ∙ ap (signed_thousandths s) (nearest-same (q * 2 ^ k * 1000) (2 ^ 149) (q * 1000) (2 ^ j) (pow_pos 149) (pow_pos j) e))

-- the fields of a number's bits
pub by-fields : (x : Float) → T (fits binary32 x) → (b : ℕ) → b ≡ to_bits binary32 x → of_fields binary32 (leb 2147483648 b) (b % 2147483648 / 8388608) (b % 8388608) ≡ x
unfolding of_bits
by-fields x h b e = rw e (of_bits-to_bits binary32 x h)

-- EVERY MULTIPLE OF ONE EIGHTH WITHIN RANGE CONVERTS WITHOUT LOSS: k eighths of a volt, with a sign, are 125 · k thousandths with that sign
eight : (k : ℕ) → nearest_even (k * unit) 8 ≡ k * 125
unfolding nearest_even
eight k =
    let z : k * 1000 % 8 ≡ 0 = omega arith in
    rw z (omega arith)

pub eighths-exact : (x : Float) (negative : Bool) (k : ℕ) → HasValue x negative k 8 → k * 125 ≤ top → thousandths_of x ≡ Some (signed_number negative (k * 125))
unfolding signed_thousandths
eighths-exact x negative k v h = convert-value x negative k 8 (omega arith) v ∙ rw (eight k, le-leb (k * 125) top h)

-- and each of them is a number of the format
pub eighths-held : (negative : Bool) (k : ℕ) → k * 125 ≤ top → T (fits binary32 (round binary32 negative k 8)) × HasValue (round binary32 negative k 8) negative k 8
eighths-held negative k h =
    let small : k < 2 ^ 23 = omega arith in
    let far : k * 2 ^ 146 < 2 ^ (149 + suc 127) = lt_of_lt_of_le (shl_lt 23 146 small) (pow_mono {i = 23 + 146} {j = 149 + suc 127} (omega arith)) in
    let same : k * 2 ^ 149 ≡ k * 2 ^ 146 * 8 = ap (λ (z : ℕ). k * z) (pow-add 2 146 3) ∙ sym (mul_assoc k (2 ^ 146) 8) in
    (round-fits binary32 negative k 8, round_exact binary32 negative k 8 k 146 (omega arith) (omega arith) far same)

-- what a number converts to is a value
pub value-in-range : (x : Float) → in_range (value_of (thousandths_of x)) ≡ true
unfolding thousandths_of signed_thousandths in_range
value-in-range nan = refl
value-in-range (inf negative) = refl
value-in-range (fin negative m e) = go (leb (nearest_even (m * up e * unit) (down e)) top) refl
  where
    go : (b : Bool) → leb (nearest_even (m * up e * unit) (down e)) top ≡ b → in_range (value_of (cond b (Some (signed_number negative (nearest_even (m * up e * unit) (down e)))) None)) ≡ true
    go true h = rw (signed-size negative (nearest_even (m * up e * unit) (down e)), h)
    go false h = refl

-- ---- the nearest, halves to even

-- q is a whole number nearest to n / d: they are at most a half apart, and where they are just that q is even
pub record Nearest (n d q : ℕ) : Type 0 where
  pub not-above : 2 * (q * d) ≤ 2 * n + d
  pub not-below : 2 * n ≤ 2 * (q * d) + d
  pub even-above : 2 * (q * d) ≡ 2 * n + d → q % 2 ≡ 0
  pub even-below : 2 * n ≡ 2 * (q * d) + d → q % 2 ≡ 0

-- t is q times d
near : (n d q t : ℕ) → q * d ≡ t → 2 * t ≤ 2 * n + d → 2 * n ≤ 2 * t + d → (2 * t ≡ 2 * n + d → q % 2 ≡ 0) → (2 * n ≡ 2 * t + d → q % 2 ≡ 0) → Nearest n d q
near n d q t e a b f g = record { not-above = rw e a; not-below = rw e b; even-above = λ h. f (rw e at h); even-below = λ h. g (rw e at h) }

one_more_lem : (a d p : ℕ) → a * d ≡ p → (a + 1) * d ≡ p + d
one_more_lem a d p e = add-mul a 1 d ∙ rw (e, one-mul d)

-- p is the whole part times d
near_even : (n d p : ℕ) → 0 < d → n / d * d ≡ p → p + n % d ≡ n → Nearest n d (nearest_even n d)
unfolding nearest_even
near_even n d p h i j = go (ltb (n % d * 2) d) (ltb d (n % d * 2)) refl refl
  where
    tie : (z : ℕ) → n / d % 2 ≡ z → n % d * 2 ≡ d → Nearest n d (n / d + z)
    tie zero g l = near n d (n / d + 0) p (ap (λ (x : ℕ). x * d) (add-zero (n / d)) ∙ i) (omega arith) (omega arith) (λ w. omega arith) (λ w. omega arith)
    tie (suc zero) g l = near n d (n / d + 1) (p + d) (one_more_lem (n / d) d p i) (omega arith) (omega arith) (λ w. omega arith) (λ w. omega arith)
    tie (suc (suc z)) g l = absurd (omega arith)

    go : (x y : Bool) → ltb (n % d * 2) d ≡ x → ltb d (n % d * 2) ≡ y → Nearest n d (cond x (n / d) (cond y (n / d + 1) (n / d + n / d % 2)))
    go true y e f =
        let l : n % d * 2 < d = ltb-true _ _ e in
        near n d (n / d) p i (omega arith) (omega arith) (λ w. absurd (omega arith)) (λ w. absurd (omega arith))
    go false true e f =
        let l : d < n % d * 2 = ltb-true _ _ f in
        let k : n % d < d = mod-lt n {m = d} h in
        near n d (n / d + 1) (p + d) (one_more_lem (n / d) d p i) (omega arith) (omega arith) (λ w. absurd (omega arith)) (λ w. absurd (omega arith))
    go false false e f =
        let a : d ≤ n % d * 2 = ltb-false _ _ e in
        let b : n % d * 2 ≤ d = ltb-false _ _ f in
        tie (n / d % 2) refl (omega arith)

same-thousandths : {v w : ℤ} → Some v ≡ Some w → v ≡ w
same-thousandths h = cc

-- THE NEAREST, HALVES TO EVEN: of m · 2^e volts that convert the size is the nearest number of thousandths, and the sign is theirs
pub nearest-even : (negative : Bool) (m : ℕ) (e v : ℤ) → thousandths_of (fin negative m e) ≡ Some v → (v ≡ signed_number negative (nat_abs v)) × Nearest (m * up e * unit) (down e) (nat_abs v)
unfolding thousandths_of signed_thousandths
nearest-even negative m e v = go (nearest_even (m * up e * unit) (down e)) (near_even (m * up e * unit) (down e) (m * up e * unit / down e * down e) (down_pos e) refl (div-add-mod' (m * up e * unit) (down e)))
  where
    by-test : (q : ℕ) (b : Bool) → Nearest (m * up e * unit) (down e) q → cond b (Some (signed_number negative q)) None ≡ Some v → (v ≡ signed_number negative (nat_abs v)) × Nearest (m * up e * unit) (down e) (nat_abs v)
    by-test q true near h =
        let p : signed_number negative q ≡ v = same-thousandths h in
        let s : nat_abs v ≡ q = ap nat_abs (sym p) ∙ signed-size negative q in
        rw s (sym p, near)
    by-test q false near h = clash (cc)

    go : (q : ℕ) → Nearest (m * up e * unit) (down e) q → signed_thousandths negative q ≡ Some v → (v ≡ signed_number negative (nat_abs v)) × Nearest (m * up e * unit) (down e) (nat_abs v)
    go q near h = by-test q (leb q top) near h
