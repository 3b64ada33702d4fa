-- SoundTestLaws has the turn of the loop.
use Rattle.std.proofs.Common.{◌∙◌, arith}
use Rattle.engine.proofs.SoundTestLaws.{counts-next, counts-done}
use Rattle.engine.proofs.sound.are_act_counts.Goals as goal

pub loop-k-preserved : goal.loop-k-preserved
loop-k-preserved c = counts-next _ _ c.loop-k.k (omega arith) _ c.is_act_count-good.ensures c.loop-k.good ∙ c.loop-k.invariant

pub returns : goal.returns
returns c = counts-done _ _ c.loop-k.k _ (omega arith) c.loop-k.good ∙ c.loop-k.invariant
