-- `arithmetic::value_of` meets its contract: each return by the tests of the range that led to it.
use borrow.Author.Rules.{rules}
use mathlib.Core.Path.{◌≡◌, ap, ◌∙◌}
use mathlib.Core.Bool.{true}
use mir.Syntax.{w32, w64}
use Rattle.values.specs.Value.{in_range, valued}
use Rattle.values.specs.ValueLaws.{range-fits}
use Rattle.std.specs.Prelude.{Ok}
use Rattle.values.specs.SignedLaws.{back, too-low, too-high, between}
use Rattle.values.proofs.arithmetic.value_of.Statement.{statement}
use Rattle.values.proofs.arithmetic.value_of.Tie as tie

inside : (c : tie.Else-x-2) → in_range c.args.x ≡ true
inside c = let b = back w64 c.ranges.x in between _ (rw b at c.if-x.false) (rw b at c.if-x-2.false)

cast-x : tie.Need-overflow_cast-result
cast-x c = rw (back w64 c.ranges.x) (range-fits _ (inside c))

pub value_of_spec : {M : Type 1} → statement M
unfolding valued
value_of_spec =
    tie.close
    (tie.spec
    (λ c. search rules)
    (λ c. search rules)
    (λ c. rw (too-low _ (rw (back w64 c.ranges.x) at c.if-x.true)))
    (λ c. search rules)
    (λ c. rw (too-high _ (rw (back w64 c.ranges.x) at c.if-x-2.true)))
    cast-x
    (λ c. rw (inside c) (ap Ok (back w32 (cast-x c) ∙ back w64 c.ranges.x))))
