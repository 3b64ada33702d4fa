-- The walk of `expression`, operand to expression, meets its contracts: each arm of an operand by its law of Arms, that of - by SignLaws, each level and each loop by those of Rows, a loop's first and next round by LevelLaws, an operand with no operator behind it by SumLaws;
-- the measure is eight times the tokens left, and the level.
use borrow.Author.Rules.{rules}
use mathlib.Core.Path.{refl, sym, ◌∙◌}
use mathlib.Core.Bool.{true, false}
use Prim.Native.Nat.{◌+◌, ◌-◌, ◌*◌, ◌<◌}
use native.Mathlib.Omega.{arith}
use Rattle.tokens.specs.Token.{room, SAME, ATLEAST, IN, IM, is_factor, is_term}
use Rattle.tokens.specs.Descent.{is_row, read_close, read_sum, read_expression, read_operand, product_at, sum_at, expression_at}
use Rattle.checking.specs.Fault.{sight}
use Rattle.checking.specs.SightNumber.{sight_of, seen, signed_sight}
use Rattle.checking.specs.Brackets.{Onward}
use Rattle.tokens.specs.ReadStepLaws.{stepped}
use Rattle.tokens.specs.ArmLaws.{spent, number-arm, variable-arm, open-arm, not-arm, truth-arm}
use Rattle.tokens.specs.BetweenLaws.{no_end, lies-inside}
use Rattle.tokens.specs.RowLaws.{Loop, loop-spent, loop-inside, loop-stops, loop-ends, product_is, sum_is, expression-is, expression-stops, rest-compares, rest-rows, rest-none}
use Rattle.checking.proofs.SignLaws.{signs-arm}
use Rattle.checking.proofs.SightNumberLaws.{passes, seen_nothing, seen-stop, seen_read, sights-say, number-made, seen-number}
use Rattle.checking.proofs.BracketCountLaws.{other-above, other-below, other-high, counts-signs, counted_none, counted-nothing, counted-behind, counted-token, onward-same, same-end-on, joined-on}
use Rattle.checking.proofs.LevelLaws.{factor-level, term-level, compare-level, row-level, begins, level-joins, round}
use Rattle.checking.proofs.SumLaws.{sum-stops, sum-single, expression-closes}
use Rattle.tokens.proofs.fault.number_fault.Reads as number-fault
use Rattle.tokens.proofs.token.is_arithmetic.Reads as is-arithmetic
use Rattle.tokens.proofs.token.is_compare.Reads as is-compare
use Rattle.tokens.proofs.token.is_factor.Reads as is-factor
use Rattle.tokens.proofs.token.is_logic.Reads as is-logic
use Rattle.tokens.proofs.token.is_row.Reads as is_row
use Rattle.tokens.proofs.token.is_term.Reads as is-term
use Rattle.tokens.proofs.token.is_variable.Reads as is-variable
use Rattle.tokens.proofs.token.token_at.Reads as token-at
use Rattle.checking.proofs.sight_number.next_of.Reads as next-of
use Rattle.checking.proofs.sight_number.number_seen.Reads as number-seen
use Rattle.checking.proofs.sight.as_wanted.Reads as as_wanted
use Rattle.checking.proofs.expression.closed.Reads as closed
use Rattle.checking.proofs.expression.compared.Reads as compared
use Rattle.checking.proofs.expression.expression.Reads as expression
use Rattle.checking.proofs.expression.factors.Reads as factors
use Rattle.checking.proofs.sight.join.Reads as join
use Rattle.checking.proofs.expression.operand.Reads as operand
use Rattle.checking.proofs.expression.row.Reads as row
use Rattle.checking.proofs.expression.signs_behind.Reads as signs-behind
use Rattle.checking.proofs.expression.sum.Reads as sum
use Rattle.checking.proofs.expression.terms.Reads as terms
use Rattle.checking.proofs.expression.truth.Reads as truth
use Rattle.checking.proofs.expression.variable.Reads as variable
use Rattle.checking.proofs.expression.+compared_expression_factors_operand_row_sum_terms.Lts-compared as compared-lts
use Rattle.checking.proofs.expression.+compared_expression_factors_operand_row_sum_terms.Lts-expression as expression-lts
use Rattle.checking.proofs.expression.+compared_expression_factors_operand_row_sum_terms.Lts-factors as factors-lts
use Rattle.checking.proofs.expression.+compared_expression_factors_operand_row_sum_terms.Lts-operand as operand-lts
use Rattle.checking.proofs.expression.+compared_expression_factors_operand_row_sum_terms.Lts-row as row-lts
use Rattle.checking.proofs.expression.+compared_expression_factors_operand_row_sum_terms.Lts-sum as sum-lts
use Rattle.checking.proofs.expression.+compared_expression_factors_operand_row_sum_terms.Lts-terms as terms-lts
use Rattle.checking.proofs.expression.+compared_expression_factors_operand_row_sum_terms.{statement}
use Rattle.checking.proofs.expression.+compared_expression_factors_operand_row_sum_terms.Tie.{close}

abbrev factors-Inv : factors-lts.invariant-loop
factors-Inv tokens w left a₀ gone₀ a gone = Loop tokens sight is_factor (read_operand tokens sight left) seen left w (left - gone) a × Onward tokens w a

abbrev terms-Inv : terms-lts.invariant-loop
terms-Inv tokens w left a₀ gone₀ a gone = Loop tokens sight is_term (product_at tokens sight left) seen left w (left - gone) a × Onward tokens w a

abbrev row-Inv : row-lts.invariant-loop
row-Inv tokens first w left a₀ gone₀ a gone = Loop tokens sight (is_row first) (read_sum tokens sight (read_operand tokens sight left) left) seen left w (left - gone) a × Onward tokens w a

pub +compared_expression_factors_operand_row_sum_terms_spec : {M : Type 1} → statement M
unfolding sight sum_at expression_at
+compared_expression_factors_operand_row_sum_terms_spec =
    close
    (λ κs a. 8 * a.1.1.0 + 5)
    (λ κs a. 8 * a.1.1.0 + 6)
    (λ κs a. 8 * a.1.1.0 + 1)
    (λ κs a. 8 * a.1.1.0)
    (λ κs a. 8 * a.1.1.1.0 + 4)
    (λ κs a. 8 * a.1.1.0 + 3)
    (λ κs a. 8 * a.1.1.0 + 2)
    -- compared
    (λ t. compared-lts.spec (_, next-of.Learnt, _, token-at.Learnt, _, is-compare.Learnt, _, sum.Post, _, join.Learnt, _, is-logic.Learnt, _, row.Post) _ compared.Post
    (λ c κs. search rules)
    (λ c. (passes _ c.next_of-i.ensures _ c.if-i-eq0.true, onward-same _ _))
    (λ c κs. search rules)
    (λ c κs. search rules)
    (λ c. let d = c.before.before in omega (arith, lies-inside d.args.set.now d.next_of-i.result d.token_at-t.ensures (no_end SAME ATLEAST d.token_at-t.result (omega arith) c.is_compare.ensures c.if-is_compare.true)))
    (λ c κs. omega arith)
    (λ c κs. search rules)
    (λ c.
    let e = c.before.before in
    let d = e.before.before in
    let n = d.before.before.before in
    let a = n.args in
    let k = sym e.is_compare.ensures ∙ e.if-is_compare.true in (
      rest-compares _ _ _ _ (seen_read a.a n.next_of-i.ensures d.if-i-eq0.false) d.token_at-t.ensures e.is_compare.ensures e.if-is_compare.true c.sum.ensures.0 (level-joins compare-level _ (sight_of a.a) (seen c.sum.result) k c.join.ensures.0),
      joined-on _ n.next_of-i.ensures d.if-i-eq0.false d.token_at-t.ensures (compare-level.no-bracket _ k) c.sum.ensures.1 c.join.ensures.1,
    ))
    (λ c κs. search rules)
    (λ c.
    let e = c.before.before in
    let d = e.before.before in
    let n = d.before.before.before in
    (rest-none _ _ _ _ (seen_read _ n.next_of-i.ensures d.if-i-eq0.false) d.token_at-t.ensures e.is_compare.ensures e.if-is_compare.false c.is_logic.ensures c.if-not-is_logic.true-raw, onward-same _ _))
    (λ c κs. omega arith)
    (λ c.
    let e = c.before.before.before in
    let d = e.before.before in
    let n = d.before.before.before in
    (rest-rows _ _ _ _ (seen_read _ n.next_of-i.ensures d.if-i-eq0.false) d.token_at-t.ensures e.is_compare.ensures e.if-is_compare.false c.row.ensures.0, c.row.ensures.1)))
    -- expression
    (λ t. expression-lts.spec (_, operand.Post, _, next-of.Learnt, _, token-at.Learnt, _, is-arithmetic.Learnt, _, compared.Post, _, factors.Post, _, terms.Post) _ expression.Post
    (λ c κs. omega arith)
    (λ c κs. search rules)
    (λ c.
    let h = seen-stop _ c.next_of-i.ensures c.if-i-eq0.true in
    let o = c.operand-a.ensures in
    (expression-stops _ _ _ _ _ (sum-stops _ _ _ _ o.0 h) h, o.1))
    (λ c κs. search rules)
    (λ c.
    let d = c.before in
    let n = d.before.before.before in
    let o = n.operand-a.ensures in
    (expression-closes _ _ _ _ o.0 (seen_read _ n.next_of-i.ensures d.if-i-eq0.false) d.token_at-t.ensures c.if-t-eq-CLOSE.true, o.1))
    (λ c κs. search rules)
    (λ c κs. omega arith)
    (λ c.
    let e = c.before in
    let d = e.before.before.before in
    let n = d.before.before.before in
    let o = n.operand-a.ensures in (
      expression-is _ _ _ _ _ (sum-single _ _ _ _ o.0 (seen_read _ n.next_of-i.ensures d.if-i-eq0.false) d.token_at-t.ensures e.is_arithmetic.ensures e.if-not-is_arithmetic.true-raw) c.compared.ensures.0,
      c.compared.ensures.1.goes _ o.1,
    ))
    (λ c κs. omega arith)
    (λ c κs. omega arith)
    (λ c κs. omega arith)
    (λ c.
    let f = c.before.before in
    let o = f.operand-a.ensures in (
      expression-is _ _ _ _ _ (sum_is _ _ _ _ _ (product_is _ _ _ _ _ o.0 f.factors.ensures.0) c.terms.ensures.0) c.compared-2.ensures.0,
      c.compared-2.ensures.1.goes _ (c.terms.ensures.1.goes _ (f.factors.ensures.1.goes _ o.1)),
    )))
    -- factors
    (λ t. factors-lts.spec (_, next-of.Learnt, _, token-at.Learnt, _, is-factor.Learnt, _, operand.Post, _, join.Learnt) _ factors.Post factors-Inv (λ tokens w left a₀ gone₀ a gone. left - gone)
    (λ c. begins)
    (λ c κs. search rules)
    (λ c. let i = c.loop.invariant in (loop-stops i.0 sights-say c.next_of-i.ensures c.if-i-eq0.true, i.1))
    (λ c κs. search rules)
    (λ c κs. search rules)
    (λ c.
    let d = c.before.before in
    let n = d.before.before.before in
    let i = n.loop.invariant in
    (loop-ends i.0 sights-say n.next_of-i.ensures d.if-i-eq0.false d.token_at-t.ensures c.is_factor.ensures c.if-not-is_factor.true-raw, i.1))
    (λ c. let d = c.before.before in omega (arith, loop-inside d.loop.invariant.0 refl d.token_at-t.ensures c.is_factor.ensures c.if-not-is_factor.false-raw))
    (λ c κs. omega arith)
    (λ c κs. search rules)
    (λ c. omega arith)
    (λ c. omega arith)
    (λ c.
    let e = c.before.before in
    let d = e.before.before in
    let n = d.before.before.before in
    round factor-level n.loop.invariant n.next_of-i.ensures d.if-i-eq0.false d.token_at-t.ensures e.is_factor.ensures e.if-not-is_factor.false-raw (omega arith) c.operand.ensures c.join-a.ensures)
    (λ c. let i = c.loop.invariant in (loop-spent i.0 (omega arith), i.1)))
    -- operand
    (λ t. operand-lts.spec (_, token-at.Learnt, _, number-fault.Learnt, _, number-seen.Learnt, _, is-variable.Learnt, _, variable.Learnt, _, expression.Post, _, closed.Learnt, _, signs-behind.Learnt, _, operand.Post, _, as_wanted.Learnt, _, truth.Learnt) _ operand.Post
    (λ c. (seen_nothing ∙ sym (spent _ _ _ _ c.if-left-eq0.true), counted-nothing _ _ refl))
    (λ c κs. search rules)
    (λ c κs. omega arith)
    (λ c. omega (arith, lies-inside c.args.set.now c.args.at c.token_at-t.ensures (λ z. omega arith)))
    (λ c κs. search rules)
    (λ c.
    let d = c.before.before.before in
    let m : d.args.at + 1 < room = omega (arith, lies-inside d.args.set.now d.args.at d.token_at-t.ensures (λ z. omega arith)) in (
      seen-number {d = 0} _ (omega arith) (omega arith) m (omega arith) c.number_seen.ensures c.number_fault.ensures ∙
          number-arm _ _ _ _ _ d.if-left-eq0.false d.token_at-t.ensures c.if-t-ge-NUMBER.true,
      counted-token _ _ d.token_at-t.ensures (λ g. other-above _ (omega (arith, c.if-t-ge-NUMBER.true))) (counted_none _ _ _ (number-made {d = 0} _ (omega arith) (omega arith) m c.number_seen.ensures).next),
    ))
    (λ c κs. search rules)
    (λ c κs. let d = c.before.before.before in omega (arith, lies-inside d.args.set.now d.args.at d.token_at-t.ensures (no_end IN IM d.token_at-t.result (omega arith) c.is_variable.ensures c.if-is_variable.true)))
    (λ c.
    let s = c.before.before.before in
    let v = c.is_variable.ensures in (
      c.variable.ensures.0 ∙ variable-arm _ _ _ _ _ s.if-left-eq0.false s.token_at-t.ensures s.if-t-ge-NUMBER.false (sym v ∙ c.if-is_variable.true),
      counted-token _ _ s.token_at-t.ensures (λ g. other-high IN IM _ (omega arith) v c.if-is_variable.true) c.variable.ensures.1,
    ))
    (λ c. omega (arith, lies-inside c.args.set.now c.args.at c.token_at-t.ensures (λ z. omega arith)))
    (λ c. omega arith)
    (λ c κs. omega arith)
    (λ c κs. search rules)
    (λ c.
    let s = c.before.before.before.before.before.before in
    let o = c.if-t-eq-OPEN.true in (
      stepped (read_close s.args.set.now sight) (read_expression _ _ _ _ _) c.expression.ensures.0 c.closed.ensures.0 (open-arm _ _ _ _ _ s.if-left-eq0.false s.token_at-t.ensures o),
      c.closed.ensures.1.goes _ (sym s.token_at-t.ensures ∙ o) c.expression.ensures.1,
    ))
    (λ c. omega arith)
    (λ c κs. omega (arith, lies-inside c.args.set.now c.args.at c.token_at-t.ensures (λ z. omega arith)))
    (λ c. omega (arith, c.signs_behind-n.ensures.1.1))
    (λ c. omega (arith, c.signs_behind-n.ensures.1.1))
    (λ c. omega arith)
    (λ c. omega (arith, c.signs_behind-n.ensures.1.0))
    (λ c κs. omega arith)
    (λ c κs. search rules)
    (λ c.
    let b = c.before.before in
    let s = b.before.before.before.before.before.before in
    let at = s.args.at in
    let n = b.signs_behind-n in (
      stepped (signed_sight false) (read_operand _ _ _ _) c.operand.ensures.0 c.as_wanted.ensures.0 (signs-arm _ _ _ _ _ _ _ s.if-left-eq0.false s.token_at-t.ensures b.if-t-eq-MINUS.true n.ensures.0 refl refl),
      (same-end-on _ c.as_wanted.ensures.1).goes _ (counted-token _ _ s.token_at-t.ensures (λ g. other-below _ (omega (arith, b.if-t-eq-MINUS.true)) (omega (arith, b.if-t-eq-MINUS.true))) (counted-behind _ (at + 1) (at + n.result + 1) (counts-signs _ _ _ _ n.ensures.0) c.operand.ensures.1)),
    ))
    (λ c. omega (arith, lies-inside c.args.set.now c.args.at c.token_at-t.ensures (λ z. omega arith)))
    (λ c. omega arith)
    (λ c κs. omega arith)
    (λ c κs. search rules)
    (λ c.
    let s = c.before.before.before.before.before.before.before.before in (
      stepped (signed_sight true) (read_operand _ _ _ _) c.operand-then-t-eq-NOT.ensures.0 c.as_wanted-then-t-eq-NOT.ensures.0 (not-arm _ _ _ _ _ s.if-left-eq0.false s.token_at-t.ensures c.if-t-eq-NOT.true),
      (same-end-on _ c.as_wanted-then-t-eq-NOT.ensures.1).goes _ (counted-token _ _ s.token_at-t.ensures (λ g. other-above _ (omega (arith, c.if-t-eq-NOT.true))) c.operand-then-t-eq-NOT.ensures.1),
    ))
    (λ c κs. λ ne. omega (arith, lies-inside c.args.set.now c.args.at c.token_at-t.ensures ne))
    (λ c.
    let s = c.before.before.before in
    let r = s.before.before.before in
    let t = r.token_at-t.ensures in (
      c.truth.ensures.0 ∙ truth-arm _ _ _ _ _ r.if-left-eq0.false t r.if-t-ge-NUMBER.false (sym s.is_variable.ensures ∙ s.if-is_variable.false) s.if-t-eq-OPEN.false c.if-t-eq-MINUS.false c.if-t-eq-NOT.false,
      counted-token _ _ t c.truth.ensures.1.0 c.truth.ensures.1.1,
    )))
    -- row
    (λ t. row-lts.spec (_, next-of.Learnt, _, token-at.Learnt, _, is_row.Learnt, _, sum.Post, _, join.Learnt) _ row.Post row-Inv (λ tokens first w left a₀ gone₀ a gone. left - gone)
    (λ c. begins)
    (λ c κs. search rules)
    (λ c. let i = c.loop.invariant in (loop-stops i.0 sights-say c.next_of-i.ensures c.if-i-eq0.true, i.1))
    (λ c κs. search rules)
    (λ c κs. search rules)
    (λ c.
    let d = c.before.before in
    let n = d.before.before.before in
    let i = n.loop.invariant in
    (loop-ends i.0 sights-say n.next_of-i.ensures d.if-i-eq0.false d.token_at-t.ensures c.is_row.ensures c.if-not-is_row.true-raw, i.1))
    (λ c. let d = c.before.before in omega (arith, loop-inside d.loop.invariant.0 refl d.token_at-t.ensures c.is_row.ensures c.if-not-is_row.false-raw))
    (λ c κs. omega arith)
    (λ c κs. search rules)
    (λ c. omega arith)
    (λ c. omega arith)
    (λ c.
    let e = c.before.before in
    let d = e.before.before in
    let n = d.before.before.before in
    round (row-level _) n.loop.invariant n.next_of-i.ensures d.if-i-eq0.false d.token_at-t.ensures e.is_row.ensures e.if-not-is_row.false-raw (omega arith) c.sum.ensures c.join-a.ensures)
    (λ c. let i = c.loop.invariant in (loop-spent i.0 (omega arith), i.1)))
    -- sum
    (λ t. sum-lts.spec (_, operand.Post, _, next-of.Learnt, _, token-at.Learnt, _, is-arithmetic.Learnt, _, factors.Post, _, terms.Post) _ sum.Post
    (λ c κs. omega arith)
    (λ c κs. search rules)
    (λ c. let o = c.operand-a.ensures in (sum-stops _ _ _ _ o.0 (seen-stop _ c.next_of-i.ensures c.if-i-eq0.true), o.1))
    (λ c κs. search rules)
    (λ c κs. search rules)
    (λ c.
    let d = c.before.before in
    let n = d.before.before.before in
    let o = n.operand-a.ensures in
    (sum-single _ _ _ _ o.0 (seen_read _ n.next_of-i.ensures d.if-i-eq0.false) d.token_at.ensures c.is_arithmetic.ensures c.if-not-is_arithmetic.true-raw, o.1))
    (λ c κs. omega arith)
    (λ c κs. omega arith)
    (λ c.
    let o = c.operand-a.ensures in
    let f = c.factors.ensures in
    (sum_is _ _ _ _ _ (product_is _ _ _ _ _ o.0 f.0) c.terms.ensures.0, c.terms.ensures.1.goes _ (f.1.goes _ o.1))))
    -- terms
    λ t. terms-lts.spec (_, next-of.Learnt, _, token-at.Learnt, _, is-term.Learnt, _, operand.Post, _, factors.Post, _, join.Learnt) _ terms.Post terms-Inv (λ tokens w left a₀ gone₀ a gone. left - gone)
    (λ c. begins)
    (λ c κs. search rules)
    (λ c. let i = c.loop.invariant in (loop-stops i.0 sights-say c.next_of-i.ensures c.if-i-eq0.true, i.1))
    (λ c κs. search rules)
    (λ c κs. search rules)
    (λ c.
    let d = c.before.before in
    let n = d.before.before.before in
    let i = n.loop.invariant in
    (loop-ends i.0 sights-say n.next_of-i.ensures d.if-i-eq0.false d.token_at-t.ensures c.is_term.ensures c.if-not-is_term.true-raw, i.1))
    (λ c. let d = c.before.before in omega (arith, loop-inside d.loop.invariant.0 refl d.token_at-t.ensures c.is_term.ensures c.if-not-is_term.false-raw))
    (λ c κs. omega arith)
    (λ c κs. omega arith)
    (λ c κs. search rules)
    (λ c. omega arith)
    (λ c. omega arith)
    (λ c.
    let e = c.before.before.before in
    let d = e.before.before in
    let n = d.before.before.before in
    let o = c.operand.ensures in
    let f = c.factors-product.ensures in
    round term-level n.loop.invariant n.next_of-i.ensures d.if-i-eq0.false d.token_at-t.ensures e.is_term.ensures e.if-not-is_term.false-raw (omega arith) (product_is _ _ _ _ _ o.0 f.0, f.1.goes _ o.1) c.join-a.ensures)
    (λ c. let i = c.loop.invariant in (loop-spent i.0 (omega arith), i.1))
