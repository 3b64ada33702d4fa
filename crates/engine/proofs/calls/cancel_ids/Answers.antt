use Rattle.std.proofs.Common.{◌∙◌}
use Rattle.engine.proofs.CallLaws.{reset-id, reset-ids}
use Rattle.engine.proofs.calls.cancel_ids.Goals as goal
use Rattle.engine.proofs.calls.cancel_ids.Goals.{then-not-lines-k, else-not-lines-k}

pub loop-k-preserved : goal.loop-k-preserved
loop-k-preserved c =
    elim c.if-not-lines-k.branch [
      | then-not-lines-k w ↦ w.cancelled-is ∙ reset-id _ _ _ _ c.loop-k.invariant w.if-not-lines-k.true
      | else-not-lines-k w ↦ w.cancelled-is ∙ reset-ids _ _ _ _ c.loop-k.invariant w.if-not-lines-k.false
    ]
