-- `arithmetic::is_less` meets its contract: the two numbers are read back from their bits.
use mir.Syntax.{w32}
use Rattle.values.specs.Value.{less_than}
use Rattle.values.specs.SignedLaws.{back}
use Rattle.values.proofs.arithmetic.is_less.Statement.{statement}
use Rattle.values.proofs.arithmetic.is_less.Tie as tie

pub is_less_spec : {M : Type 1} → statement M
unfolding less_than
is_less_spec = tie.close (tie.spec (λ c. rw (back w32 c.ranges.a, back w32 c.ranges.b)))
