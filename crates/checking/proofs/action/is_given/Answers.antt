-- `action::is_given` meets its contract: each return by the tests that led to it.
use borrow.Author.Tests.{eq-eqb, ne_eqb}
use mathlib.Core.Path.{refl, sym, ◌∙◌}
use Rattle.checking.proofs.FaultLaws.{given}
use Rattle.checking.proofs.action.is_given.Goals as goal

pub returns-then-token_at-ne-COMMA : goal.returns-then-token_at-ne-COMMA
returns-then-token_at-ne-COMMA c = rw (← given _ _ _ _ c.token_at.ensures refl) (simp (ne_eqb _ _ c.if-token_at-ne-COMMA.true))

pub returns-then-is_variable : goal.returns-then-is_variable
returns-then-is_variable c = rw (← given _ _ _ _ c.token_at.ensures c.token_at-w.ensures) (simp (eq-eqb _ _ c.if-token_at-ne-COMMA.false, sym c.is_variable.ensures ∙ c.if-is_variable.true, c.is_indexed.ensures))

pub returns-else-is_variable : goal.returns-else-is_variable
returns-else-is_variable c = rw (← given _ _ _ _ c.token_at.ensures c.token_at-w.ensures) (simp (eq-eqb _ _ c.if-token_at-ne-COMMA.false, sym c.is_variable.ensures ∙ c.if-is_variable.false, c.if-is_variable.false))
