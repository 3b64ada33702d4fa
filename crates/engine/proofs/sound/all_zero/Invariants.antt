-- What was said so far, and what is said of the rest.
use Rattle.std.proofs.Common.{◌≡◌, ◌&&◌, drop}
use Rattle.engine.specs.Sound.{all_zero}
use Rattle.engine.proofs.sound.all_zero.Given as goal

abbrev pub invariant-loop-i : goal.invariant-loop-i
invariant-loop-i l = (l.good && all_zero (drop l.i l.xs)) ≡ all_zero (drop l.n l.xs)
