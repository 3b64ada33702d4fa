-- The first ranks are counted, and `rest` has the bits of the others.
use Rattle.std.proofs.Common.{◌≡◌, ◌/◌, ◌^◌}
use Rattle.engine.specs.ActCount.{counted_acts}
use Rattle.engine.proofs.one_beat.count_acts.Given as goal

abbrev pub invariant-loop-k : goal.invariant-loop-k
invariant-loop-k l = (l.acts ≡ counted_acts l.initial.acts l.word l.k) × (l.rest ≡ l.word / 2 ^ l.k)
