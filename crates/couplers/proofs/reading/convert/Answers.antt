-- By the exponent's field, each return is what the fields of the bits are heard as.
use mathlib.Core.Path.{◌≡◌, refl, sym, ap, subst, ◌∙◌}
use native.Mathlib.Omega.{arith}
use lib.Dec.{T, leb}
use Prim.Native.Nat.{ℕ, ◌+◌, ◌-◌, ◌*◌, ◌/◌, ◌%◌, ◌^◌, ◌≤◌, ◌<◌}
use native.Mathlib.Nat.{mod-eq_of_lt, one-mul}
use lib.Pow.{pow_pos, pow_mono}
use mathlib.Core.Bool.{Bool, true}
use lib.Ieee.{Float, nan, inf, fin, binary32, fits, is_nan, to_bits, of_fields}
use Rattle.couplers.specs.Conversion.{thousandths_of, signed_thousandths, nearest_even}
use Rattle.std.specs.Prelude.{None}
use Rattle.couplers.specs.ConversionLaws.{too_small, too-great, between, by-fields}
use Rattle.couplers.proofs.reading.convert.Goals as goal

-- the fields of a number's bits
abbrev field : Float → ℕ
field x = to_bits binary32 x % 2147483648 / 8388608

abbrev digits : Float → ℕ
digits x = to_bits binary32 x % 8388608

abbrev negative : Float → Bool
negative x = leb 2147483648 (to_bits binary32 x)

-- an f32 is of the format
whole : (x : Float) → fits binary32 x ≡ true → thousandths_of (of_fields binary32 (negative x) (field x) (digits x)) ≡ thousandths_of x
whole x h = ap thousandths_of (by-fields x (subst T (sym h) tt) (to_bits binary32 x) refl)

nan-converted : (x : Float) → true ≡ is_nan x → None ≡ thousandths_of x
unfolding thousandths_of is_nan
nan-converted nan h = refl
nan-converted (inf s) h = absurd (subst T h tt)
nan-converted (fin s m e) h = absurd (subst T h tt)

-- 1 shifted by 4 to 35 places
shifted : (x : ℕ) → 115 ≤ x → x ≤ 146 → (1 * 2 ^ (150 - x) % 18446744073709551616 ≡ 2 ^ (150 - x)) × (0 < 2 ^ (150 - x)) × (2 ^ (150 - x) ≤ 34359738368)
shifted x h l =
    let g : 2 ^ (150 - x) ≤ 34359738368 = pow_mono {i = 150 - x} {j = 35} (omega arith) in
    (rw (one-mul (2 ^ (150 - x))) (mod-eq_of_lt (omega arith)), pow_pos (150 - x), g)

pub returns-then-is_nan : goal.returns-then-is_nan
returns-then-is_nan c = nan-converted c.args.x (sym c.if-is_nan.true ∙ c.is_nan.ensures.value)

pub returns-then-field-ge-TOO_GREAT : goal.returns-then-field-ge-TOO_GREAT
returns-then-field-ge-TOO_GREAT c =
    let x = c.args.x in
    sym (too-great (negative x) (field x) (digits x) (omega (arith, c.if-field-ge-TOO_GREAT.true))) ∙ whole x c.well_formed.0.1

pub returns-then-field-lt-LEAST : goal.returns-then-field-lt-LEAST
returns-then-field-lt-LEAST c =
    let x = c.args.x in
    sym (too_small (negative x) (field x) (digits x) c.if-field-lt-LEAST.true (omega arith)) ∙ whole x c.well_formed.0.1

pub nearest-requires : goal.nearest-requires
nearest-requires c =
    let (e, p, g) = shifted (field c.args.x) c.if-field-lt-LEAST.false (omega (arith, c.if-field-ge-TOO_GREAT.false)) in
    rw e (p, (omega arith, omega arith))

pub returns : goal.returns
returns c =
    let x = c.args.x in
    let l : field x ≤ 146 = omega (arith, c.if-field-ge-TOO_GREAT.false) in
    let (e, p, g) = shifted (field x) c.if-field-lt-LEAST.false l in
    c.signed_thousandths.ensures
    ∙ ap (signed_thousandths (negative x)) (c.nearest.ensures ∙ ap (nearest_even ((8388608 + digits x) * 1000)) e)
    ∙ sym (between (negative x) (field x) (digits x) c.if-field-lt-LEAST.false l)
    ∙ whole x c.well_formed.0.1
