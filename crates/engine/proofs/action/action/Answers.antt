-- An assignment and SYNFCT begin as AssignedLaws says.
use Rattle.std.proofs.Common.{sym, ◌∙◌}
use Rattle.engine.proofs.AssignedLaws.{acts-assigned}
use Rattle.engine.proofs.action.action.Goals as goal

pub returns-then-is_assigned-clause-done : goal.returns-then-is_assigned-clause-done
returns-then-is_assigned-clause-done c = rw (acts-assigned _ _ _ _ _ _ _ c.token_at-w.ensures c.if-w-eq-END.false (sym c.is_assigned.ensures ∙ c.if-is_assigned.true)) c.assign.ensures.done
