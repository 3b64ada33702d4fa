-- `arithmetic::negation` meets its contract: the number is widened, so 0 less it is exact.
use borrow.Author.Rules.{rules}
use mathlib.Core.Path.{ap, ◌∙◌}
use lib.IntN.{neg_ℤ, ◌-ℤ◌, +ℤ_idl}
use Rattle.values.specs.Value.{valued, negation_of}
use Rattle.values.specs.SignedLaws.{cast64, zero-fits, difference-fits, work-fits, worked}
use Rattle.values.proofs.arithmetic.negation.Statement.{statement}
use Rattle.values.proofs.arithmetic.negation.Tie as tie

pub negation_spec : {M : Type 1} → statement M
unfolding negation_of
negation_spec =
    tie.close
    (tie.spec
    (λ c. cast64 c.ranges.a)
    (λ c. let f = c.ranges.a in work-fits zero-fits f ◌-ℤ◌ (difference-fits zero-fits f))
    (λ c κs. search rules)
    (λ c. let f = c.ranges.a in c.value_of.ensures ∙ ap valued (worked zero-fits f ◌-ℤ◌ (difference-fits zero-fits f) ∙ +ℤ_idl (neg_ℤ c.args.a))))
