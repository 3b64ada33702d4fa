-- What was said so far, and what is said of the rest.
use Rattle.std.proofs.Common.{◌≡◌, ◌&&◌, drop}
use Rattle.engine.specs.Sound.{all_ranged}
use Rattle.engine.proofs.sound.all_ranged.Given as goal

abbrev pub invariant-loop-x : goal.invariant-loop-x
invariant-loop-x l = (l.good && all_ranged (drop l.x-index l.xs)) ≡ all_ranged l.xs
