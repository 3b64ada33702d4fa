-- `line::line_at` meets its contract: each return by the tests that led to it.
use native.Mathlib.Omega.{arith}
use borrow.Author.Tests.{not-true, not-false, eq-eqb, ne_eqb}
use mathlib.Core.Path.{sym, ◌∙◌}
use Rattle.tokens.specs.Token.{ID, IDS, is_id, is_whole}
use Rattle.tokens.specs.BetweenLaws.{tested, no_end, lies-inside}
use Rattle.checking.specs.Fault.{line_at}
use Rattle.checking.proofs.BracketCountLaws.{counts-head}
use Rattle.checking.proofs.line.line_at.Goals as goal
use Rattle.checking.proofs.line.line_at.Goals.{then-not-is_id-via-then-not-is_id, then-not-is_id-via-else-not-is_id+then-token_at-ne-EQUALS}

pub returns-then-not-is_id : goal.returns-then-not-is_id
unfolding line_at
returns-then-not-is_id c =
    elim c.then-not-is_id.branch [
      | then-not-is_id-via-then-not-is_id w ↦ simp (line_at, tested is_id c.token_at.ensures c.is_id.ensures (not-true _ w.if-not-is_id.true-raw)) c.refused.ensures
      | then-not-is_id-via-else-not-is_id+then-token_at-ne-EQUALS w ↦
          simp (line_at, tested is_id c.token_at.ensures c.is_id.ensures (not-false _ w.if-not-is_id.false-raw), ne_eqb _ _ (λ e. w.if-token_at-ne-EQUALS.true (w.token_at-else-not-is_id.ensures ∙ e))) c.refused.ensures
    ]

pub returns-then-not-is_whole : goal.returns-then-not-is_whole
unfolding line_at
returns-then-not-is_whole c =
    simp (line_at, tested is_id c.token_at.ensures c.is_id.ensures (not-false _ c.if-not-is_id.false-raw), eq-eqb _ _ (sym c.token_at-else-not-is_id.ensures ∙ c.if-token_at-ne-EQUALS.false), tested is_whole c.token_at-n.ensures c.is_whole.ensures (not-true _ c.if-not-is_whole.true-raw))
    c.refused-then-not-is_whole.ensures

pub rest-requires : goal.rest-requires
rest-requires c =
    let a = c.args in (
      omega (arith, lies-inside a.set.now a.at c.token_at.ensures (no_end ID IDS c.token_at.result (omega arith) c.is_id.ensures (not-false _ c.if-not-is_id.false-raw))),
      counts-head a.set.now a.at (tested is_id c.token_at.ensures c.is_id.ensures (not-false _ c.if-not-is_id.false-raw)) (sym c.token_at-else-not-is_id.ensures ∙ c.if-token_at-ne-EQUALS.false) (tested is_whole c.token_at-n.ensures c.is_whole.ensures (not-false _ c.if-not-is_whole.false-raw)),
    )

pub returns : goal.returns
unfolding line_at
returns c =
    simp (line_at, tested is_id c.token_at.ensures c.is_id.ensures (not-false _ c.if-not-is_id.false-raw), eq-eqb _ _ (sym c.token_at-else-not-is_id.ensures ∙ c.if-token_at-ne-EQUALS.false), tested is_whole c.token_at-n.ensures c.is_whole.ensures (not-false _ c.if-not-is_whole.false-raw))
    (c.rest.ensures ∙ simp (c.id_fault.ensures, c.whole_of.ensures, c.token_at-n.ensures))
