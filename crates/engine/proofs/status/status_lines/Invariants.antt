-- The rows of the lines of rank below `k`.
use Rattle.std.proofs.Common.{◌≡◌}
use Rattle.engine.specs.Status.{status_lines}
use Rattle.engine.proofs.status.status_lines.Given as goal

abbrev pub invariant-loop-k : goal.invariant-loop-k
invariant-loop-k l = l.rows ≡ status_lines l.lines.items l.state l.k
