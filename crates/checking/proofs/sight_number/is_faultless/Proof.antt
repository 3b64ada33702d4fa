-- `sight_number::is_faultless` meets its contract: each return by the test that led to it.
use Rattle.checking.proofs.sight_number.is_faultless.Statement.{statement}
use Rattle.checking.proofs.sight_number.is_faultless.Tie as tie

pub is_faultless_spec : {M : Type 1} → statement M
is_faultless_spec = tie.close (tie.spec (λ c. simp c.if-wanted.true) (λ c. simp c.if-wanted.false))
