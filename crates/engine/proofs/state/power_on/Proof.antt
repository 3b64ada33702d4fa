-- `state::power_on` meets its contract: each array is a list of zeros or of false, the channels are those of power-on.
use borrow.Author.Rules.{rules}
use Rattle.engine.specs.State.{power_on}
use Rattle.engine.proofs.state.power_on.Statement.{statement}
use Rattle.engine.proofs.state.power_on.Tie as tie

pub power_on_spec : {M : Type 1} → statement M
unfolding power_on
power_on_spec = tie.close (tie.spec (λ c κs. search rules) (λ c. rw c.fresh_channels-channels.ensures))
