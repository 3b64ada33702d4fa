-- The lines that were read are a set's.
use Rattle.engine.proofs.SetLaws.{some-lined}
use Rattle.engine.proofs.set.sound_lines.Goals as goal

pub curves_sound-requires : goal.curves_sound-requires
curves_sound-requires c = (some-lined _ _ c.in_ok-lines.ensures).few

pub all_known-requires : goal.all_known-requires
all_known-requires c = some-lined _ _ c.in_ok-lines.ensures
