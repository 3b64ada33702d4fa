-- The beat where it is known whether the lines and the state are sound.
use Rattle.engine.specs.HeldLaws.{known-is-beat}
use Rattle.engine.proofs.BeatLaws.{as-well}
use Rattle.engine.proofs.one_beat.beat_over.Goals as goal

pub returns : goal.returns
returns c = as-well _ _ _ (known-is-beat _ _ _ _ c.is_sound_over-known.ensures) c.beat_known.ensures
