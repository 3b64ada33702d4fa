-- What is known from rank k on is what is known of all.
use Rattle.std.proofs.Common.{◌≡◌, true, ◌-◌}
use Rattle.engine.specs.Set.{asked_table, all_known}
use Rattle.engine.proofs.set.all_known.Given as goal

abbrev pub invariant-loop-k : goal.invariant-loop-k
invariant-loop-k l = all_known l.set (asked_table true l.lines.numbers l.curves) (l.lines.count - l.k) l.k ≡ all_known l.set (asked_table true l.lines.numbers l.curves) l.lines.count 0
