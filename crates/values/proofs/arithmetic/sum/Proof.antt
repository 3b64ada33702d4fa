-- `arithmetic::sum` meets its contract: both numbers are widened, so the sum is exact.
use borrow.Author.Rules.{rules}
use mathlib.Core.Path.{ap, ◌∙◌}
use lib.IntN.{◌+ℤ◌}
use Rattle.values.specs.Value.{valued, sum_of}
use Rattle.values.specs.SignedLaws.{cast64, sum_fits, work-fits, worked}
use Rattle.values.proofs.arithmetic.sum.Statement.{statement}
use Rattle.values.proofs.arithmetic.sum.Tie as tie

pub sum_spec : {M : Type 1} → statement M
unfolding sum_of
sum_spec =
    tie.close
    (tie.spec
    (λ c. cast64 c.ranges.a)
    (λ c. cast64 c.ranges.b)
    (λ c. let f = c.ranges in work-fits f.a f.b ◌+ℤ◌ (sum_fits f.a f.b))
    (λ c κs. search rules)
    (λ c. let f = c.ranges in c.value_of.ensures ∙ ap valued (worked f.a f.b ◌+ℤ◌ (sum_fits f.a f.b))))
