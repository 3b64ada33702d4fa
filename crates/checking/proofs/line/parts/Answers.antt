-- `line::parts` meets its contract: each return by the tests that led to it.
use mathlib.Core.Path.{sym, ap, ◌∙◌}
use Prim.Native.Nat.{ℕ}
use lib.Dec.{eqb}
use Rattle.tokens.specs.Token.{whole, IDS}
use Rattle.checking.specs.Fault.{number_of, line_parts}
use Rattle.checking.specs.SightNumber.{faulted}
use Rattle.checking.proofs.FaultLaws.{parts-end, parts-faulty, parts-good, judged-not}
use Rattle.checking.proofs.line.parts.Goals as goal

pub returns-then-end-eq0 : goal.returns-then-end-eq0
returns-then-end-eq0 c =
    let a = c.args in
    sym (parts-end _ _ _ _ _ a.a c.next_of-end.ensures c.if-end-eq0.true) ∙ judged-not a.set.now a.at (line_parts a.set.now a.at a.keyword a.condition a.actions (faulted a.a)) c.is_too_deep.ensures c.if-is_too_deep.false

pub returns-then-fault-ne0 : goal.returns-then-fault-ne0
returns-then-fault-ne0 c =
    let a = c.args in
    sym (parts-faulty _ _ _ _ _ a.a c.next_of-end.ensures c.if-end-eq0.false c.fault_of-fault.ensures c.if-fault-ne0.true) ∙ judged-not a.set.now a.at (line_parts a.set.now a.at a.keyword a.condition a.actions (faulted a.a)) c.is_too_deep.ensures c.if-is_too_deep.false

pub returns : goal.returns
returns c =
    let a = c.args in
    parts-good _ _ _ _ _ a.a c.next_of-end.ensures c.if-end-eq0.false c.fault_of-fault.ensures c.if-fault-ne0.false (c.number_of.ensures ∙ ap number_of (c.whole_of.ensures ∙ ap whole c.token_at.ensures)) (ap (λ (w : ℕ). eqb w IDS) c.token_at-2.ensures) c.truth_of.ensures c.requires.1.1
    ∙ judged-not a.set.now a.at (line_parts a.set.now a.at a.keyword a.condition a.actions (faulted a.a)) c.is_too_deep.ensures c.if-is_too_deep.false
