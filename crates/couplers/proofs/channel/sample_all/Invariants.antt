-- None of those behind refused, and what they gave stands in front.
use mathlib.Core.Path.{◌≡◌}
use mathlib.Core.Bool.{true}
use Rattle.couplers.specs.Channel.{all_good, channels_sampled, values_sampled}
use Rattle.couplers.proofs.channel.sample_all.Given as goal

abbrev pub invariant-loop-i : goal.invariant-loop-i
invariant-loop-i l = record {
  good : all_good l.channels l.readings l.i ≡ true;
  kept : l.kept ≡ channels_sampled l.channels l.readings l.i;
  values : l.values ≡ values_sampled l.channels l.readings l.i;
}
