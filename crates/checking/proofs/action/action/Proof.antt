-- `action::action` meets its contract: each return by the tests that led to it.
use borrow.Author.Rules.{rules}
use native.Mathlib.Omega.{arith}
use borrow.Author.Tests.{not-true, not-false}
use mathlib.Core.Path.{refl, sym, ◌∙◌}
use Prim.Native.Nat.{◌+◌}
use Rattle.checking.proofs.FaultLaws.{no-action, action-unindexed, action-wrong, action-assigns}
use Rattle.checking.proofs.SightNumberLaws.{faulted-nothing}
use Rattle.checking.proofs.BracketCountLaws.{counts-assigned, counted-nothing, counted-behind, counted-token}
use Rattle.tokens.specs.BetweenLaws.{lies-inside}
use Rattle.checking.proofs.action.action.Statement.{statement}
use Rattle.checking.proofs.action.action.Tie as tie

pub action_spec : {M : Type 1} → statement M
action_spec =
    tie.close
    (tie.spec
    (λ c κs. search rules)
    (λ c. (faulted-nothing ∙ sym (no-action _ _ _ _ (sym c.token_at-w.ensures ∙ c.if-w-eq-END.true)), counted-nothing _ _ refl))
    (λ c κs. search rules)
    (λ c κs.
    let s = c.before.before.before in
    omega (arith, lies-inside s.args.set.now s.args.at s.token_at-w.ensures s.if-w-eq-END.false))
    (λ c.
    let i = c.before.before in
    let t = i.token_at-w.ensures in (
      c.unindexed.ensures.0 ∙ action-unindexed _ _ _ _ _ t (sym i.is_indexed.ensures ∙ not-true _ c.if-not-is_indexed.true-raw),
      counted-token _ _ t c.unindexed.ensures.1.0 c.unindexed.ensures.1.1,
    ))
    (λ c.
    let s = c.before.before.before.before in
    omega (arith, lies-inside s.args.set.now s.args.at s.token_at-w.ensures s.if-w-eq-END.false))
    (λ c κs. search rules)
    (λ c.
    let f = c.before.before.before in
    let i = f.before in (
      faulted-nothing ∙ action-wrong _ _ _ _ _ i.token_at-w.ensures (sym i.is_indexed.ensures ∙ not-false _ f.if-not-is_indexed.false-raw) (λ e. c.if-token_at-ne-EQUALS.true (c.token_at.ensures ∙ e)),
      counted-nothing _ _ refl,
    ))
    (λ c κs.
    let s = c.before.before.before.before.before.before in
    omega (arith, lies-inside s.args.set.now s.args.at s.token_at-w.ensures s.if-w-eq-END.false))
    (λ c.
    let u = c.before.before in
    let f = u.before.before in
    let i = f.before in
    let t = i.token_at-w.ensures in
    let h = sym i.is_indexed.ensures ∙ not-false _ f.if-not-is_indexed.false-raw in
    let e = sym u.token_at.ensures ∙ c.if-token_at-ne-EQUALS.false in
    let at = i.args.at in (
      c.assignment.ensures.0 ∙ action-assigns _ _ _ _ _ t h e,
      counted-token _ _ t c.assignment.ensures.1.0 (counted-behind _ (at + 1) (at + 5) (counts-assigned _ _ _ h e) c.assignment.ensures.1.1),
    )))
