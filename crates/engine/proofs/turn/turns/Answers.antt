-- What a turn came to says what the turns left come to, and so what all of them do.
use Rattle.std.proofs.Common.{◌≡◌, ◌+◌, ◌-◌, arith}
use Rattle.std.proofs.lemmas.Result.{err_from_is_err_and}
use Rattle.engine.proofs.TurnLaws.{none-left, stops-here, goes-on}
use Rattle.engine.proofs.turn.turns.Goals as goal

pub returns-in_err-turn-clause-turned : goal.returns-in_err-turn-clause-turned
returns-in_err-turn-clause-turned c =
    let p = err_from_is_err_and c.from_residual.result c.from_residual.ensures.1 in
    rw (p.1, p.2) (stops-here _ _ _ _ _ _ _ _ _ c.loop-k.invariant.left (omega arith) (rw c.line_of.ensures at c.in_err-turn.ensures.turned))

pub loop-k-preserved : goal.loop-k-preserved
loop-k-preserved c = record {
  left =
      let n = c.args.course.lines.now.count in
      let e : n - (c.loop-k.k + 1) ≡ n - c.loop-k.k - 1 = omega arith in
      rw e (goes-on _ _ _ _ _ _ _ _ _ c.loop-k.invariant.left (omega arith) (rw c.line_of.ensures at c.in_ok-turn.ensures.turned));
  before = c.turn.ensures.before_next;
}

pub returns-clause-turned : goal.returns-clause-turned
returns-clause-turned c = none-left _ _ _ _ _ _ _ _ _ c.loop-k.invariant.left (omega arith)
