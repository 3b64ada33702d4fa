-- A number of volts in thousandths (document 02, Req 05). Definitions only; ConversionLaws has what follows from them.
use Rattle.std.specs.Prelude.{Bool, cond, ℕ, ◌+◌, ◌*◌, ◌/◌, ◌%◌, leb, ltb, ℤ, pos, Float, Option, Some, None}
use Rattle.std.specs.Option.{unwrap_or}
use Rattle.std.specs.Float.{nan, inf, fin, binary32}
use Rattle.std.specs.Float.Ieee.{up, down, nan_bits, of_bits}
use Rattle.values.specs.Size.{signed_number}
use Rattle.values.specs.Value.{top, unit}
use Rattle.couplers.specs.declared.reading.Reading.{Reading}
use Rattle.couplers.specs.declared.reading.Reading.TheVariants.{Volts, Break}

-- n / d to the nearest whole number, halves to even
unfoldable pub nearest_even : ℕ → ℕ → ℕ
nearest_even n d = cond (ltb (n % d * 2) d) (n / d) (cond (ltb d (n % d * 2)) (n / d + 1) (n / d + n / d % 2))

-- so many thousandths with their sign, if they are a value
unfoldable pub signed_thousandths : Bool → ℕ → Option ℤ
signed_thousandths negative size = cond (leb size top) (Some (signed_number negative size)) None

-- a number of volts, m · 2^e with its sign, in thousandths: nearest, halves to even; NaN, the infinities and what is then out of range are a fault
unfoldable pub thousandths_of : Float → Option ℤ
thousandths_of nan = None
thousandths_of (inf negative) = None
thousandths_of (fin negative m e) = signed_thousandths negative (nearest_even (m * up e * unit) (down e))

-- the value of a number that converts; 0 of a fault
abbrev pub value_of : Option ℤ → ℤ
value_of x = unwrap_or x (pos 0)

-- the reading that a pattern of 32 bits stands for; a NaN's counts as a break
unfoldable pub reading_of : ℕ → Reading
reading_of b = cond (nan_bits binary32 b) Break (Volts (of_bits binary32 b))
