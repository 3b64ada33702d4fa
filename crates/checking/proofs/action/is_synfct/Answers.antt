-- `action::is_synfct` meets its contract: each return by the tests that led to it.
use borrow.Author.Tests.{not-true, not-false, eq-eqb, ne_eqb}
use mathlib.Core.Path.{refl, sym, ◌∙◌}
use Rattle.checking.proofs.FaultLaws.{behind-synfct}
use Rattle.checking.proofs.action.is_synfct.Goals as goal
use Rattle.checking.proofs.action.is_synfct.Goals.{then-token_at-ne-OPEN-via-then-token_at-ne-OPEN, then-token_at-ne-OPEN-via-else-token_at-ne-OPEN+then-not-is_whole}
use Rattle.checking.proofs.action.is_synfct.Goals.{then-not-is_given-via-then-not-is_given, then-not-is_given-via-else-not-is_given+then-not-is_given-2}

pub returns-then-token_at-ne-OPEN : goal.returns-then-token_at-ne-OPEN
returns-then-token_at-ne-OPEN c =
    elim c.then-token_at-ne-OPEN.branch [
      | then-token_at-ne-OPEN-via-then-token_at-ne-OPEN w ↦ rw (← behind-synfct _ _ _ _ _ c.token_at.ensures refl refl) (simp (ne_eqb _ _ w.if-token_at-ne-OPEN.true))
      | then-token_at-ne-OPEN-via-else-token_at-ne-OPEN+then-not-is_whole w ↦
          rw (← behind-synfct _ _ _ _ _ c.token_at.ensures w.token_at-else-token_at-ne-OPEN.ensures refl) (simp (eq-eqb _ _ w.if-token_at-ne-OPEN.false, sym w.is_whole.ensures ∙ not-true _ w.if-not-is_whole.true-raw))
    ]

pub returns-then-not-is_given : goal.returns-then-not-is_given
returns-then-not-is_given c =
    elim c.then-not-is_given.branch [
      | then-not-is_given-via-then-not-is_given w ↦
          rw (← behind-synfct _ _ _ _ _ c.token_at.ensures c.token_at-else-token_at-ne-OPEN.ensures refl)
          (simp (eq-eqb _ _ c.if-token_at-ne-OPEN.false, sym c.is_whole.ensures ∙ not-false _ c.if-not-is_whole.false-raw, sym c.is_given.ensures ∙ not-true _ w.if-not-is_given.true-raw))
      | then-not-is_given-via-else-not-is_given+then-not-is_given-2 w ↦
          rw (← behind-synfct _ _ _ _ _ c.token_at.ensures c.token_at-else-token_at-ne-OPEN.ensures refl)
          (simp (eq-eqb _ _ c.if-token_at-ne-OPEN.false, sym c.is_whole.ensures ∙ not-false _ c.if-not-is_whole.false-raw, sym c.is_given.ensures ∙ not-false _ w.if-not-is_given.false-raw, sym w.is_given-else-not-is_given.ensures ∙ not-true _ w.if-not-is_given-2.true-raw))
    ]

pub returns : goal.returns
returns c =
    rw (← behind-synfct _ _ _ _ _ c.token_at.ensures c.token_at-else-token_at-ne-OPEN.ensures c.token_at-2.ensures)
    (simp (eq-eqb _ _ c.if-token_at-ne-OPEN.false, sym c.is_whole.ensures ∙ not-false _ c.if-not-is_whole.false-raw, sym c.is_given.ensures ∙ not-false _ c.if-not-is_given.false-raw, sym c.is_given-else-not-is_given.ensures ∙ not-false _ c.if-not-is_given-2.false-raw))
