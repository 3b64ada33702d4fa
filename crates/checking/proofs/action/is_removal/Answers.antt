-- `action::is_removal` meets its contract: each return by the tests that led to it.
use borrow.Author.Tests.{not-true, not-false, eq-eqb, ne_eqb}
use mathlib.Core.Path.{refl, sym, ◌∙◌}
use Rattle.checking.proofs.FaultLaws.{removal}
use Rattle.checking.proofs.action.is_removal.Goals as goal
use Rattle.checking.proofs.action.is_removal.Goals.{then-not-is_fifo-via-then-not-is_fifo, then-not-is_fifo-via-else-not-is_fifo+then-not-is_indexed, then-not-is_fifo-via-else-not-is_fifo+else-not-is_indexed+then-index_at-ne0}

pub returns-then-not-is_fifo : goal.returns-then-not-is_fifo
returns-then-not-is_fifo c =
    elim c.then-not-is_fifo.branch [
      | then-not-is_fifo-via-then-not-is_fifo w ↦ rw (← removal _ _ _ _ c.token_at-w.ensures refl) (simp (sym c.is_fifo.ensures ∙ not-true _ w.if-not-is_fifo.true-raw))
      | then-not-is_fifo-via-else-not-is_fifo+then-not-is_indexed w ↦
          rw (← removal _ _ _ _ c.token_at-w.ensures refl) (simp (sym c.is_fifo.ensures ∙ not-false _ w.if-not-is_fifo.false-raw, sym w.is_indexed.ensures ∙ not-true _ w.if-not-is_indexed.true-raw))
      | then-not-is_fifo-via-else-not-is_fifo+else-not-is_indexed+then-index_at-ne0 w ↦
          rw (← removal _ _ _ _ c.token_at-w.ensures refl) (simp (sym c.is_fifo.ensures ∙ not-false _ w.if-not-is_fifo.false-raw, sym w.is_indexed.ensures ∙ not-false _ w.if-not-is_indexed.false-raw, ne_eqb _ _ (λ e. w.if-index_at-ne0.true (w.index_at.ensures ∙ e))))
    ]

pub returns : goal.returns
returns c =
    rw (← removal _ _ _ _ c.token_at-w.ensures c.token_at.ensures)
    (simp (sym c.is_fifo.ensures ∙ not-false _ c.if-not-is_fifo.false-raw, sym c.is_indexed.ensures ∙ not-false _ c.if-not-is_indexed.false-raw, eq-eqb _ _ (sym c.index_at.ensures ∙ c.if-index_at-ne0.false), c.is_arithmetic.ensures))
