-- `definition::definition_at` meets its contract: each return by the tests that led to it.
use borrow.Author.Tests.{not-true, not-false, eq-eqb, ne_eqb}
use mathlib.Core.Path.{◌≡◌, refl, sym, ◌∙◌}
use mathlib.Core.Bool.{true}
use Rattle.checking.specs.CurveDefinition.{is_defining}
use Rattle.checking.proofs.DefinitionLaws.{defining, defined-deep, defined-not, defined-so}
use Rattle.checking.proofs.definition.definition_at.Goals as goal
use Rattle.checking.proofs.definition.definition_at.Goals.{then-not-is_whole-via-then-not-is_whole, then-not-is_whole-via-else-not-is_whole+then-token_at-ne-COMMA}

pub returns-then-opens_too_many : goal.returns-then-opens_too_many
returns-then-opens_too_many c = defined-deep _ _ c.opens_too_many.ensures c.if-opens_too_many.true

pub returns-then-token_at-ne-FCTDEF : goal.returns-then-token_at-ne-FCTDEF
returns-then-token_at-ne-FCTDEF c =
    defined-not _ _ c.opens_too_many.ensures c.if-opens_too_many.false (rw (← defining _ _ _ _ _ _ c.token_at.ensures refl refl refl) (simp (ne_eqb _ _ c.if-token_at-ne-FCTDEF.true)))

pub returns-then-token_at-ne-OPEN : goal.returns-then-token_at-ne-OPEN
returns-then-token_at-ne-OPEN c =
    defined-not _ _ c.opens_too_many.ensures c.if-opens_too_many.false (rw (← defining _ _ _ _ _ _ c.token_at.ensures c.token_at-2.ensures refl refl) (simp (eq-eqb _ _ c.if-token_at-ne-FCTDEF.false, ne_eqb _ _ c.if-token_at-ne-OPEN.true)))

pub returns-then-not-is_whole : goal.returns-then-not-is_whole
returns-then-not-is_whole c =
    elim c.then-not-is_whole.branch [
      | then-not-is_whole-via-then-not-is_whole w ↦
          defined-not _ _ c.opens_too_many.ensures c.if-opens_too_many.false (rw (← defining _ _ _ _ _ _ c.token_at.ensures c.token_at-2.ensures c.token_at-n.ensures refl)
          (simp (eq-eqb _ _ c.if-token_at-ne-FCTDEF.false, eq-eqb _ _ c.if-token_at-ne-OPEN.false, sym c.is_whole.ensures ∙ not-true _ w.if-not-is_whole.true-raw)))
      | then-not-is_whole-via-else-not-is_whole+then-token_at-ne-COMMA w ↦
          defined-not _ _ c.opens_too_many.ensures c.if-opens_too_many.false (rw (← defining _ _ _ _ _ _ c.token_at.ensures c.token_at-2.ensures c.token_at-n.ensures w.token_at-else-not-is_whole.ensures)
          (simp (eq-eqb _ _ c.if-token_at-ne-FCTDEF.false, eq-eqb _ _ c.if-token_at-ne-OPEN.false, sym c.is_whole.ensures ∙ not-false _ w.if-not-is_whole.false-raw, ne_eqb _ _ w.if-token_at-ne-COMMA.true)))
    ]

pub returns : goal.returns
returns c =
    let a = c.args in
    let all : is_defining a.set.now a.at ≡ true =
    rw (← defining _ _ _ _ _ _ c.token_at.ensures c.token_at-2.ensures c.token_at-n.ensures c.token_at-else-not-is_whole.ensures)
    (simp (eq-eqb _ _ c.if-token_at-ne-FCTDEF.false, eq-eqb _ _ c.if-token_at-ne-OPEN.false, sym c.is_whole.ensures ∙ not-false _ c.if-not-is_whole.false-raw, eq-eqb _ _ c.if-token_at-ne-COMMA.false)) in
    c.defined_by.ensures ∙ defined-so _ _ c.opens_too_many.ensures c.if-opens_too_many.false all c.token_at-n.ensures c.whole_of-number.ensures c.curve_fault.ensures
