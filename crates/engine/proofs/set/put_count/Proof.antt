-- `set::put_count` meets its contract: it is put.
use borrow.Author.Rules.{rules}
use Rattle.engine.proofs.set.put_count.Statement.{statement}
use Rattle.engine.proofs.set.put_count.Tie as tie

pub put_count_spec : {M : Type 1} → statement M
put_count_spec = tie.close (tie.spec (λ c κs. search rules) (λ c. c.put.ensures))
