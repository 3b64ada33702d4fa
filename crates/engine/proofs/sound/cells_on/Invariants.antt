-- What was said so far, and what is said of the rest.
use Rattle.std.proofs.Common.{◌≡◌, ◌&&◌, drop}
use Rattle.engine.specs.Sound.{are_cells}
use Rattle.engine.proofs.sound.cells_on.Given as goal

abbrev pub invariant-loop-i : goal.invariant-loop-i
invariant-loop-i l = (l.good && are_cells (drop l.i l.cells) l.i) ≡ (l.before && are_cells (drop l.from l.cells) l.from)
