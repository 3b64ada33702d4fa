-- The live lines of rank below `k` count from 0.
use Rattle.std.proofs.Common.{◌≡◌}
use Rattle.engine.specs.ActCount.{reset_acts}
use Rattle.engine.proofs.calls.reset_acts.Given as goal

abbrev pub invariant-loop-k : goal.invariant-loop-k
invariant-loop-k l = l.acts ≡ reset_acts l.cancelled l.initial.acts l.k
