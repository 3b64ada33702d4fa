use Rattle.std.proofs.Common.{◌∙◌}
use Rattle.engine.proofs.CallLaws.{recount-live, recount-cancelled}
use Rattle.engine.proofs.calls.reset_acts.Goals as goal
use Rattle.engine.proofs.calls.reset_acts.Goals.{then-not-cancelled, else-not-cancelled}

pub loop-k-preserved : goal.loop-k-preserved
loop-k-preserved c =
    elim c.if-not-cancelled.branch [
      | then-not-cancelled w ↦ w.acts-is ∙ recount-live _ _ _ _ c.loop-k.invariant w.if-not-cancelled.true
      | else-not-cancelled w ↦ w.acts-is ∙ recount-cancelled _ _ _ _ c.loop-k.invariant w.if-not-cancelled.false
    ]
