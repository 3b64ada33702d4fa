-- What was said so far, and what is said of the rest.
use Rattle.std.proofs.Common.{◌≡◌, ◌&&◌, ◌-◌}
use Rattle.working.specs.Variables.{fifos}
use Rattle.engine.specs.Sound.{are_fifos}
use Rattle.engine.proofs.sound.are_fifos.Given as goal

abbrev pub invariant-loop-k : goal.invariant-loop-k
invariant-loop-k l = (l.good && are_fifos l.r l.cells (fifos - l.k) l.k) ≡ are_fifos l.r l.cells fifos 0
