-- SoundTestLaws has the turn of the loop.
use Rattle.std.proofs.Common.{◌∙◌, arith}
use Rattle.engine.proofs.SoundTestLaws.{fifos-next, fifos-done}
use Rattle.engine.proofs.sound.are_fifos.Goals as goal

pub loop-k-preserved : goal.loop-k-preserved
loop-k-preserved c = fifos-next _ _ c.loop-k.k (omega arith) _ c.is_fifo_sound-good.ensures c.loop-k.good ∙ c.loop-k.invariant

pub returns : goal.returns
returns c = fifos-done _ _ c.loop-k.k _ (omega arith) c.loop-k.good ∙ c.loop-k.invariant
