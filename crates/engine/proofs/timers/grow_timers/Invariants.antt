-- The first i timers have grown.
use Rattle.std.proofs.Common.{◌≡◌}
use Rattle.engine.specs.Timers.{grown_cells}
use Rattle.engine.proofs.timers.grow_timers.Given as goal

abbrev pub invariant-loop-i : goal.invariant-loop-i
invariant-loop-i l = l.cells ≡ grown_cells l.runs l.initial.cells l.i
