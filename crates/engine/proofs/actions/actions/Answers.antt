-- What an action came to says what the actions left come to, and so what all of them do.
use Rattle.std.proofs.Common.{◌≡◌, ◌+◌, ◌-◌, sym, ◌∙◌, arith, rules}
use Rattle.tokens.specs.Token.{max_actions}
use Rattle.std.proofs.lemmas.Result.{err_from_is_err_and}
use Rattle.engine.proofs.ActionsLaws.{none-left, stops-here, ends-here, goes-on}
use Rattle.engine.proofs.actions.actions.Goals as goal

pub returns-in_err-at-clause-done : goal.returns-in_err-at-clause-done
returns-in_err-at-clause-done c =
    let p = err_from_is_err_and c.from_residual.result c.from_residual.ensures.1 in
    rw (p.1, p.2) (stops-here _ _ _ _ _ _ _ _ c.loop.invariant.left (omega arith) c.in_err-at.ensures.done)

pub returns-then-token_at-eq-END-clause-done : goal.returns-then-token_at-eq-END-clause-done
returns-then-token_at-eq-END-clause-done c =
    ends-here _ _ _ _ _ _ _ _ c.loop.invariant.left (omega arith) c.in_ok-at.ensures.done (sym c.token_at.ensures ∙ c.if-token_at-eq-END.true)

pub loop-preserved : goal.loop-preserved
loop-preserved c = record {
  left =
      let e : max_actions - (c.loop.counter + 1) ≡ max_actions - c.loop.counter - 1 = omega arith in
      rw e (goes-on _ _ _ _ _ _ _ _ c.loop.invariant.left (omega arith) c.in_ok-at.ensures.done (λ z. c.if-token_at-eq-END.false (c.token_at.ensures ∙ z)));
  within = search rules;
}

pub returns-clause-done : goal.returns-clause-done
returns-clause-done c = none-left _ _ _ _ _ _ _ _ c.loop.invariant.left (omega arith)
