-- The lines read from `k` on are all of them.
use Rattle.std.proofs.Common.{◌≡◌, ◌-◌}
use Rattle.engine.specs.Set.{lines_from, lines_read}
use Rattle.engine.proofs.set.read_lines.Given as goal

abbrev pub invariant-loop-k : goal.invariant-loop-k
invariant-loop-k l = lines_from l.set (l.count - l.k) l.k l.last l.numbers l.items ≡ lines_read l.set
