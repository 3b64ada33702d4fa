-- In the loop of `expression::signs_behind` the signs so far and those behind them are all; each lies inside the code.
use Rattle.std.proofs.Common.{◌≡◌, ◌+◌, ◌-◌, ◌<◌}
use Rattle.tokens.specs.Token.{set_size}
use Rattle.checking.specs.SightNumber.{signs_behind}
use Rattle.checking.proofs.expression.signs_behind.Given as goal

abbrev pub invariant-loop-n : goal.invariant-loop-n
invariant-loop-n l = record { all : l.n + signs_behind l.set (l.most - l.n) (l.at + l.n) ≡ signs_behind l.set l.most l.at; inside : l.at + l.n < set_size }
