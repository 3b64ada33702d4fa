-- The lines of rank below `k` have ended.
use Rattle.std.proofs.Common.{◌≡◌}
use Rattle.engine.specs.Calls.{program_ended}
use Rattle.engine.proofs.calls.end_lines.Given as goal

abbrev pub invariant-loop-k : goal.invariant-loop-k
invariant-loop-k l = l.next ≡ program_ended l.lines.items l.state l.k
