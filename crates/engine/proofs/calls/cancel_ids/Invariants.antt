-- The ID lines of rank below `k` are cancelled.
use Rattle.std.proofs.Common.{◌≡◌}
use Rattle.engine.specs.Calls.{reset_cancelled}
use Rattle.engine.proofs.calls.cancel_ids.Given as goal

abbrev pub invariant-loop-k : goal.invariant-loop-k
invariant-loop-k l = l.cancelled ≡ reset_cancelled l.lines.items l.initial.cancelled l.k
