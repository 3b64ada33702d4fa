-- `channel::fresh_channels` meets its contract.
use mathlib.Core.Path.{refl}
use lib.Ieee.{of_bits}
use Rattle.couplers.specs.Channel.{fresh_channels}
use Rattle.couplers.proofs.channel.fresh_channels.Statement.{statement}
use Rattle.couplers.proofs.channel.fresh_channels.Tie as tie

pub fresh_channels_spec : {M : Type 1} → statement M
unfolding fresh_channels of_bits
fresh_channels_spec = tie.close (tie.spec (λ c. refl))
