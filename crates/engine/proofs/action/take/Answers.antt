-- What is removed stands in a FIFO.
use Rattle.std.proofs.Common.{sym, ◌∙◌}
use Rattle.engine.proofs.ActionLaws.{removal-fifo}
use Rattle.engine.proofs.action.take.Goals as goal

pub take_oldest-requires : goal.take_oldest-requires
take_oldest-requires c = rw c.token_at.ensures (removal-fifo _ _ (sym c.is_removal.ensures ∙ c.if-not-is_removal.false))
