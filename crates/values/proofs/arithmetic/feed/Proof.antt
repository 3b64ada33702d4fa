-- `arithmetic::feed` meets its contract: each return by the test that led to it.
use mathlib.Core.Path.{ap}
use mir.Syntax.{w32}
use Rattle.values.specs.Value.{less_than, feed_of}
use Rattle.std.specs.Prelude.{Ok}
use Rattle.values.specs.SignedLaws.{back}
use Rattle.values.proofs.arithmetic.feed.Statement.{statement}
use Rattle.values.proofs.arithmetic.feed.Tie as tie

pub feed_spec : {M : Type 1} → statement M
unfolding less_than feed_of
feed_spec =
    tie.close
    (tie.spec
    (λ c. let b = back w32 c.ranges.v in rw (rw b at c.if-v-gt0.true) (ap Ok b))
    (λ c. rw (rw (back w32 c.ranges.v) at c.if-v-gt0.false)))
