-- What is known from place p on is what is known of all.
use Rattle.std.proofs.Common.{◌≡◌, ◌+◌, ◌-◌}
use Rattle.tokens.specs.Token.{set_size}
use Rattle.engine.specs.Set.{asked_table, names_known}
use Rattle.engine.proofs.set.names_known.Given as goal

abbrev pub invariant-loop-p : goal.invariant-loop-p
invariant-loop-p l = names_known l.set (asked_table l.asked l.numbers l.curves) (set_size + l.start - l.p) l.p ≡ names_known l.set (asked_table l.asked l.numbers l.curves) set_size l.start
