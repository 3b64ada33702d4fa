-- What was said so far, and what is said of the rest.
use Rattle.std.proofs.Common.{◌≡◌, ◌&&◌, ◌-◌}
use Rattle.tokens.specs.Token.{max_lines}
use Rattle.engine.specs.ActCount.{are_act_counts}
use Rattle.engine.proofs.sound.are_act_counts.Given as goal

abbrev pub invariant-loop-k : goal.invariant-loop-k
invariant-loop-k l = (l.good && are_act_counts l.count l.acts (max_lines - l.k) l.k) ≡ are_act_counts l.count l.acts max_lines 0
