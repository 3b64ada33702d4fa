-- `arithmetic::is_equal` meets its contract: numbers with the same bits are equal.
use Rattle.values.specs.SignedLaws.{equal-bits}
use Rattle.values.proofs.arithmetic.is_equal.Statement.{statement}
use Rattle.values.proofs.arithmetic.is_equal.Tie as tie

pub is_equal_spec : {M : Type 1} → statement M
is_equal_spec = tie.close (tie.spec (λ c. equal-bits c.ranges.a c.ranges.b))
