-- What has come fits in the buffer; each turn that reads something leaves less of it.
use Rattle.std.proofs.Common.{length, ◌-◌, ◌≤◌}
use Rattle.synprint.proofs.read_input.Given as goal

abbrev pub invariant-loop-size : goal.invariant-loop-size
invariant-loop-size g l = l.size ≤ length l.initial.input

abbrev pub decreases-loop-size : goal.decreases-loop-size
decreases-loop-size g l = length l.initial.input - l.size
