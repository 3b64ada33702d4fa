-- Values: whole numbers of thousandths, and the working with them (document 01, "Values and time"; document 02, Req 02).
-- Definitions only; ValueLaws and MarkerLaws have what follows from them.
use Rattle.std.specs.Prelude.{Bool, cond, ◌||◌, ℕ, ◌+◌, ◌*◌, ◌/◌, eqb, leb, ℤ, pos, negsuc, nat_abs, neg_ℤ, ◌+ℤ◌, ◌-ℤ◌, ◌*ℤ◌, Result, Ok, Err}
use Rattle.std.specs.Int.Signed.{lt_z, quot_z}
use Rattle.values.specs.Size.{is_negative, signed_number}
use Rattle.values.specs.declared.codes.Alarm.{Alarm}
use Rattle.values.specs.declared.codes.Alarm.TheVariants.{OutOfRange, ZeroDivisor, NotAllowed}

-- the greatest value; the least is its negative
abbrev pub top : ℕ
top = 1000000000

-- the thousandths of a unit
abbrev pub unit : ℕ
unit = 1000

-- half a unit
abbrev pub half : ℕ
half = 500

-- from -1,000,000,000 to 1,000,000,000
unfoldable pub in_range : ℤ → Bool
in_range z = leb (nat_abs z) top

-- an exact number of thousandths as a value; outside the range alarm 30
unfoldable pub valued : ℤ → Result ℤ Alarm
valued z = cond (in_range z) (Ok z) (Err OutOfRange)

unfoldable pub sum_of : ℤ → ℤ → Result ℤ Alarm
sum_of a b = valued (a +ℤ b)

unfoldable pub difference_of : ℤ → ℤ → Result ℤ Alarm
difference_of a b = valued (a -ℤ b)

-- a·b/1000, cut toward zero, and only then held to the range
unfoldable pub product_of : ℤ → ℤ → Result ℤ Alarm
product_of a b = valued (quot_z (a *ℤ b) (pos unit))

-- a·1000/b, cut toward zero; a zero divisor gives alarm 31
unfoldable pub quotient_of : ℤ → ℤ → Result ℤ Alarm
quotient_of a b = cond (eqb (nat_abs b) 0) (Err ZeroDivisor) (valued (quot_z (a *ℤ pos unit) b))

unfoldable pub negation_of : ℤ → Result ℤ Alarm
negation_of a = valued (neg_ℤ a)

-- the two comparisons that the others are made of
unfoldable pub less_than : ℤ → ℤ → Bool
less_than a b = lt_z a b

unfoldable pub equal_to : ℤ → ℤ → Bool
equal_to a b = eqb (nat_abs (a -ℤ b)) 0

-- the whole units in a value, without its fraction; a value is whole that is these
unfoldable pub whole_units : ℤ → ℤ
whole_units v = quot_z v (pos unit) *ℤ pos unit

-- a size to the nearest whole unit, halves up
abbrev pub nearest_size : ℕ → ℕ
nearest_size n = (n + half) / unit * unit

-- a number to the nearest whole unit, halves away from zero: its size so, then its sign
unfoldable pub nearest_units : ℤ → ℤ
nearest_units v = signed_number (is_negative v) (nearest_size (nat_abs v))

-- what a marker takes of a written value; a number that is no value gives alarm 30
unfoldable pub marker_of : ℤ → Result ℤ Alarm
marker_of v = cond (in_range v) (Ok (nearest_units v)) (Err OutOfRange)

-- what an output takes: only 0 or 1, else alarm 34
unfoldable pub output_of : ℤ → Result ℤ Alarm
output_of v = cond (equal_to v (pos 0) || equal_to v (pos unit)) (Ok v) (Err NotAllowed)

-- what FA takes: 0 or less gives alarm 34
unfoldable pub feed_of : ℤ → Result ℤ Alarm
feed_of v = cond (less_than (pos 0) v) (Ok v) (Err NotAllowed)

-- what MOV carries: 1, 0 or -1 by sign
unfoldable pub sign_of : ℤ → ℤ
sign_of v = cond (less_than v (pos 0)) (negsuc 0) (cond (less_than (pos 0) v) (pos 1) (pos 0))
