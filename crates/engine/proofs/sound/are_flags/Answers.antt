-- SoundTestLaws has the turn of the loop.
use Rattle.std.proofs.Common.{◌∙◌, arith}
use Rattle.engine.proofs.SoundTestLaws.{flags-next, flags-done}
use Rattle.engine.proofs.sound.are_flags.Goals as goal

pub loop-k-preserved : goal.loop-k-preserved
loop-k-preserved c = flags-next _ _ _ _ c.loop-k.k (omega arith) _ c.is_flag-good.ensures c.loop-k.good ∙ c.loop-k.invariant

pub returns : goal.returns
returns c = flags-done _ _ _ _ c.loop-k.k _ (omega arith) c.loop-k.good ∙ c.loop-k.invariant
