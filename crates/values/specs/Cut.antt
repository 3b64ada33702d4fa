-- Product and quotient in the open (document 02, Req 04): size by size, the cut, then the sign. CutLaws shows that they are those of Value.
-- Definitions only.
use Rattle.std.specs.Prelude.{Bool, cond, not, ℕ, ◌*◌, ◌/◌, eqb, ℤ, nat_abs, Result, Err}
use Rattle.std.specs.Bool.{beq}
use Rattle.values.specs.Size.{is_negative, signed_number}
use Rattle.values.specs.declared.codes.Alarm.{Alarm}
use Rattle.values.specs.declared.codes.Alarm.TheVariants.{ZeroDivisor}
use Rattle.values.specs.Value.{unit, valued}

-- THE CUT: what is left over of a size is dropped; the sign is put back behind it, so a number is cut toward zero, whatever its sign
abbrev pub cut_size : ℕ → ℕ → ℕ
cut_size size by = size / by

-- a product or quotient is below zero if one of its two numbers is and the other is not
abbrev pub differ : Bool → Bool → Bool
differ a b = not (beq a b)

unfoldable pub product_by_size : ℤ → ℤ → Result ℤ Alarm
product_by_size a b = valued (signed_number (differ (is_negative a) (is_negative b)) (cut_size (nat_abs a * nat_abs b) unit))

unfoldable pub quotient_by_size : ℤ → ℤ → Result ℤ Alarm
quotient_by_size a b = cond (eqb (nat_abs b) 0) (Err ZeroDivisor) (valued (signed_number (differ (is_negative a) (is_negative b)) (cut_size (nat_abs a * unit) (nat_abs b))))
