-- The state that is held is the one that was given.
use Rattle.std.proofs.Common.{ap, ◌∙◌}
use Rattle.engine.specs.Held.{state_held}
use Rattle.engine.specs.HeldLaws.{state-back}
use Rattle.engine.specs.Sound.{state_sound}
use Rattle.engine.proofs.sound.is_state_sound.Goals as goal

pub returns : goal.returns
returns c = c.is_held_sound.ensures ∙ ap (state_sound c.args.count) (ap state_held c.new.ensures ∙ state-back c.args.state.now)
