-- `arithmetic::difference` meets its contract: both numbers are widened, so the difference is exact.
use borrow.Author.Rules.{rules}
use mathlib.Core.Path.{ap, ◌∙◌}
use lib.IntN.{◌-ℤ◌}
use Rattle.values.specs.Value.{valued, difference_of}
use Rattle.values.specs.SignedLaws.{cast64, difference-fits, work-fits, worked}
use Rattle.values.proofs.arithmetic.difference.Statement.{statement}
use Rattle.values.proofs.arithmetic.difference.Tie as tie

pub difference_spec : {M : Type 1} → statement M
unfolding difference_of
difference_spec =
    tie.close
    (tie.spec
    (λ c. cast64 c.ranges.a)
    (λ c. cast64 c.ranges.b)
    (λ c. let f = c.ranges in work-fits f.a f.b ◌-ℤ◌ (difference-fits f.a f.b))
    (λ c κs. search rules)
    (λ c. let f = c.ranges in c.value_of.ensures ∙ ap valued (worked f.a f.b ◌-ℤ◌ (difference-fits f.a f.b))))
