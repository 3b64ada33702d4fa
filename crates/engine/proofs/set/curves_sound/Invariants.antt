-- The curves from n on are sound with so many lines and curves before them, if all are.
use Rattle.std.proofs.Common.{◌≡◌, suc, ◌+◌, ◌-◌, ◌≤◌}
use Rattle.tokens.specs.Token.{max_lines, max_curves}
use Rattle.engine.specs.Set.{curves_sound}
use Rattle.engine.proofs.set.curves_sound.Given as goal

abbrev pub invariant-loop-n : goal.invariant-loop-n
invariant-loop-n l = record { rest : curves_sound l.set (suc max_curves - l.n) l.n l.all ≡ curves_sound l.set max_curves 1 l.lines; few : l.all ≤ max_lines + l.n }
