-- Curves: a polynomial worked by document 01's products and sums, then held between its limits (document 02, request 03).
-- Definitions only; CurveLaws has what follows from them.
use Rattle.std.specs.Prelude.{cond, ℤ, Result, Ok, Err}
use Rattle.values.specs.declared.codes.Alarm.{Alarm}
use Rattle.values.specs.declared.curve.Curve.{Curve}
use Rattle.values.specs.Value.{sum_of, product_of, less_than}

-- a step behind a step: its value times x; the first alarm ends the working
infixl 30 ◌times◌
abbrev pub ◌times◌ : Result ℤ Alarm → ℤ → Result ℤ Alarm
Ok y times x = product_of y x
Err k times x = Err k

-- a step behind a step: its value plus a
infixl 20 ◌plus◌
abbrev pub ◌plus◌ : Result ℤ Alarm → ℤ → Result ℤ Alarm
Ok y plus a = sum_of y a
Err k plus a = Err k

-- ((a3·x+a2)·x+a1)·x+a0 in six steps; a part that is 0 makes none of them go away (reading D22)
unfoldable pub polynomial_of : Curve → ℤ → Result ℤ Alarm
polynomial_of c x = ((Ok c.a3 times x plus c.a2) times x plus c.a1) times x plus c.a0

-- below the lower limit the lower one, above the upper limit the upper one. The lower is asked first, which only tells where it lies above the upper (document 02 refuses such a curve)
unfoldable pub limited_to : ℤ → ℤ → ℤ → ℤ
limited_to lower upper y = cond (less_than y lower) lower (cond (less_than upper y) upper y)

-- the limits of what the steps gave; an alarm stays
abbrev pub limits : Curve → Result ℤ Alarm → Result ℤ Alarm
limits c (Ok y) = Ok (limited_to c.lower c.upper y)
limits c (Err k) = Err k

-- what a curve gives at x
unfoldable pub curve_of : Curve → ℤ → Result ℤ Alarm
curve_of c x = limits c (polynomial_of c x)
