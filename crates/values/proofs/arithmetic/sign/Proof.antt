-- `arithmetic::sign` meets its contract: each return by the tests that led to it.
use mir.Syntax.{w32}
use Rattle.values.specs.Value.{less_than, sign_of}
use Rattle.values.specs.SignedLaws.{back}
use Rattle.values.proofs.arithmetic.sign.Statement.{statement}
use Rattle.values.proofs.arithmetic.sign.Tie as tie

pub sign_spec : {M : Type 1} → statement M
unfolding less_than sign_of
sign_spec =
    tie.close
    (tie.spec
    (λ c. rw (rw (back w32 c.ranges.v) at c.if-v-lt0.true))
    (λ c. let b = back w32 c.ranges.v in rw (rw b at c.if-v-lt0.false, rw b at c.if-v-gt0.true))
    (λ c. let b = back w32 c.ranges.v in rw (rw b at c.if-v-lt0.false, rw b at c.if-v-gt0.false)))
