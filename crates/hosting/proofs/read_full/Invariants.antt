-- Each turn that reads something leaves less of the buffer.
use Rattle.std.proofs.Common.{length, ◌-◌}
use Rattle.hosting.proofs.read_full.Given as goal

abbrev pub decreases-loop-done : goal.decreases-loop-done
decreases-loop-done g l = length l.initial.buffer - l.done
