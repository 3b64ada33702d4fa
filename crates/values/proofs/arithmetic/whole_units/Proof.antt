-- `arithmetic::whole_units` meets its contract: neither the quotient nor the product leaves 32 bits.
use native.Mathlib.Omega.{arith}
use lib.Dec.{lit<}
use lib.IntN.{ℤ, pos, ◌*ℤ◌}
use lib.Signed.{quot_z}
use mir.Syntax.{w32}
use mir.Val.{SFits}
use Rattle.values.specs.Value.{unit, whole_units}
use Rattle.values.specs.Numbers.{abs-mul, abs-quot, abs32, fits-abs}
use Rattle.values.specs.SignedLaws.{back}
use Rattle.values.proofs.arithmetic.whole_units.Statement.{statement}
use Rattle.values.proofs.arithmetic.whole_units.Tie as tie

quotient_fits : {v : ℤ} → SFits w32 v → SFits w32 (quot_z v (pos unit))
quotient_fits {v} h = fits-abs w32 _ (omega (arith, abs-quot v (pos unit), abs32 h))

whole-fits : {v : ℤ} → SFits w32 v → SFits w32 (quot_z v (pos unit) *ℤ pos unit)
whole-fits {v} h = fits-abs w32 _ (omega (arith, abs-mul (quot_z v (pos unit)) (pos unit), abs-quot v (pos unit), abs32 h))

pub whole_units_spec : {M : Type 1} → statement M
unfolding whole_units
whole_units_spec =
    tie.close
    (tie.spec
    (λ c. let f = c.ranges.v in (lit< tt, rw (back w32 f) (quotient_fits f)))
    (λ c. let f = c.ranges.v in rw (back w32 f, back w32 (quotient_fits f)) (whole-fits f))
    (λ c. let f = c.ranges.v in rw (back w32 f, back w32 (quotient_fits f)) (back w32 (whole-fits f))))
