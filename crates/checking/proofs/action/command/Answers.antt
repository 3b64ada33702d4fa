-- `action::command` meets its contract: each return by its law of FaultLaws.
use borrow.Author.Tests.{not-true, not-false}
use native.Mathlib.Omega.{arith}
use mathlib.Core.Path.{◌≡◌, refl, sym, ap, ◌∙◌}
use mathlib.Core.List.{List}
use Prim.Native.Nat.{ℕ, ◌+◌, ◌<◌}
use lib.ListN.{get_or}
use Rattle.values.specs.Codes.{not_in_grammar}
use Rattle.tokens.specs.Token.{room, SETAL, UNLOCK, is_whole, whole}
use Rattle.tokens.specs.BetweenLaws.{tested}
use Rattle.tokens.specs.Descent.{read, ends}
use Rattle.tokens.specs.SingleFault.{code_fault, call_fault}
use Rattle.checking.specs.Fault.{command_at}
use Rattle.checking.specs.SightNumber.{faulted}
use Rattle.checking.specs.Brackets.{NoBracket, InGrammar, Counted}
use Rattle.checking.proofs.FaultLaws.{no-command, no_code, a-code, no_call, no-open, no-close, a_call}
use Rattle.checking.proofs.SightNumberLaws.{faulted-nothing, number-made, faulted-made}
use Rattle.checking.proofs.BracketCountLaws.{other-above, other-high, counted-nothing, counted-to, counts-code, counts-call}
use Rattle.checking.proofs.action.command.Goals as goal
use Rattle.checking.proofs.action.command.Goals.{then-not-is_call-via-then-not-is_call, then-not-is_call-via-else-not-is_call+then-sign-ne-OPEN, then-not-is_call-via-else-not-is_call+else-sign-ne-OPEN+then-token_at-ne-CLOSE}

-- what is no command
none : (s : List ℕ) (kw w p : ℕ) → ends not_in_grammar ≡ command_at s kw w p → (faulted 0 ≡ command_at s kw w p) × ((InGrammar 0 → NoBracket w) × Counted s (p + 1) 0)
none s kw w p e = (faulted-nothing ∙ e, (λ g. absurd (g refl), counted-nothing _ _ refl))

pub returns-then-not-is_whole : goal.returns-then-not-is_whole
returns-then-not-is_whole c = none _ _ _ _ (no-command _ _ _ _ (tested is_whole c.token_at-n.ensures c.is_whole.ensures (not-true _ c.if-not-is_whole.true-raw)))

pub returns-then-sign-ne-EQUALS : goal.returns-then-sign-ne-EQUALS
returns-then-sign-ne-EQUALS c =
    let numbered = tested is_whole c.token_at-n.ensures c.is_whole.ensures (not-false _ c.if-not-is_whole.false-raw) in
    none _ _ _ _ (no_code _ _ _ _ numbered c.if-w-eq-M.true (λ e. c.if-sign-ne-EQUALS.true (c.token_at-sign.ensures ∙ e)))

pub returns-then-w-eq-M : goal.returns-then-w-eq-M
returns-then-w-eq-M c =
    let a = c.args in
    let numbered = tested is_whole c.token_at-n.ensures c.is_whole.ensures (not-false _ c.if-not-is_whole.false-raw) in
    let n : c.code_fault.result ≡ code_fault a.keyword (whole (get_or a.set.now (a.at + 2) 0)) = c.code_fault.ensures ∙ ap (code_fault a.keyword) (c.whole_of.ensures ∙ ap (λ (t : ℕ). whole t) c.token_at-n.ensures) in
    let m : a.at + 3 < room = omega (arith, c.requires) in
    let k = number-made {d = 0} _ (omega arith) (omega arith) m c.number_seen.ensures in
    let q = sym c.token_at-sign.ensures ∙ c.if-sign-ne-EQUALS.false in (
      faulted-made k (omega arith) ∙ ap (λ (f : ℕ). read f (a.at + 3)) n ∙ a-code _ _ _ _ numbered c.if-w-eq-M.true q,
      (λ h. other-above _ (omega (arith, c.if-w-eq-M.true)), counted-to _ _ _ k.next k.depth (λ g. counts-code a.set.now a.at q numbered)),
    )

pub returns-then-not-is_call : goal.returns-then-not-is_call
returns-then-not-is_call c =
    let numbered = tested is_whole c.token_at-n.ensures c.is_whole.ensures (not-false _ c.if-not-is_whole.false-raw) in
    elim c.then-not-is_call.branch [
      | then-not-is_call-via-then-not-is_call w ↦ none _ _ _ _ (no_call _ _ _ _ numbered c.if-w-eq-M.false (sym c.is_call.ensures ∙ not-true _ w.if-not-is_call.true-raw))
      | then-not-is_call-via-else-not-is_call+then-sign-ne-OPEN w ↦
          none _ _ _ _ (no-open _ _ _ _ numbered c.if-w-eq-M.false (sym c.is_call.ensures ∙ not-false _ w.if-not-is_call.false-raw) (λ e. w.if-sign-ne-OPEN.true (c.token_at-sign.ensures ∙ e)))
      | then-not-is_call-via-else-not-is_call+else-sign-ne-OPEN+then-token_at-ne-CLOSE w ↦
          none _ _ _ _ (no-close _ _ _ _ numbered c.if-w-eq-M.false (sym c.is_call.ensures ∙ not-false _ w.if-not-is_call.false-raw) (sym c.token_at-sign.ensures ∙ w.if-sign-ne-OPEN.false) (λ e. w.if-token_at-ne-CLOSE.true (w.token_at.ensures ∙ e)))
    ]

pub returns : goal.returns
returns c =
    let a = c.args in
    let numbered = tested is_whole c.token_at-n.ensures c.is_whole.ensures (not-false _ c.if-not-is_whole.false-raw) in
    let n : c.call_fault.result ≡ call_fault a.w (whole (get_or a.set.now (a.at + 2) 0)) = c.call_fault.ensures ∙ ap (call_fault a.w) (c.whole_of-2.ensures ∙ ap (λ (t : ℕ). whole t) c.token_at-n.ensures) in
    let m : a.at + 4 < room = omega (arith, c.requires) in
    let k = number-made {d = 1} _ (omega arith) (omega arith) m c.number_seen-2.ensures in
    let b = sym c.token_at-sign.ensures ∙ c.if-sign-ne-OPEN.false in
    let e = sym c.token_at.ensures ∙ c.if-token_at-ne-CLOSE.false in
    let w = not-false _ c.if-not-is_call.false-raw in (
      faulted-made k (omega arith) ∙ ap (λ (f : ℕ). read f (a.at + 4)) n ∙ a_call _ _ _ _ numbered c.if-w-eq-M.false (sym c.is_call.ensures ∙ w) b e,
      (λ h. other-high SETAL UNLOCK _ (omega arith) c.is_call.ensures w, counted-to _ _ _ k.next k.depth (λ g. counts-call a.set.now a.at b numbered e)),
    )
