-- What was said so far, and what is said of the rest.
use Rattle.std.proofs.Common.{◌≡◌, ◌&&◌, ◌-◌}
use Rattle.tokens.specs.Token.{max_lines}
use Rattle.engine.specs.Sound.{are_flags}
use Rattle.engine.proofs.sound.are_flags.Given as goal

abbrev pub invariant-loop-k : goal.invariant-loop-k
invariant-loop-k l = (l.good && are_flags l.count l.locked l.cancelled l.memory (max_lines - l.k) l.k) ≡ are_flags l.count l.locked l.cancelled l.memory max_lines 0
