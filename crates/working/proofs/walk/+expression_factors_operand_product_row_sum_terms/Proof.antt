-- The walk of `work`, operand to expression, meets its contracts: each arm of an operand by its law of Arms, each level and each loop by those of Rows; the measure is eight times the tokens left, and the level.
use Rattle.std.specs.Prelude.{Bool, List}
use borrow.Author.Rules.{rules}
use borrow.Author.Tests.{not-false}
use mathlib.Core.Path.{◌≡◌, refl, sym, ap, subst, ◌∙◌}
use Prim.Native.Nat.{ℕ, ◌+◌, ◌*◌, ◌-◌}
use native.Mathlib.Omega.{arith}
use lib.IntN.{ℤ}
use mir.Syntax.{w32}
use mir.ValLaws.{to_z_pos}
use Rattle.values.specs.declared.codes.Alarm.TheVariants.{Unsound}
use Rattle.values.specs.Choice.{both}
use Rattle.values.specs.SignedLaws.{back}
use Rattle.tokens.specs.Token.{SAME, ATLEAST, IN, IM, is_factor, is_term}
use Rattle.tokens.specs.Descent.{Read, Meaning, is_row, read_close, read_sum, read_operand, product_at, sum_at, expression_at}
use Rattle.working.specs.Pair.{pair_of, said}
use Rattle.working.specs.Working.{value_over, negated, inverted}
use Rattle.tokens.specs.ReadStepLaws.{stepped}
use Rattle.tokens.specs.ArmLaws.{spent, number-arm, variable-arm, open-arm, minus-arm, not-arm, truth-arm}
use Rattle.tokens.specs.BetweenLaws.{no_end, lies-inside}
use Rattle.tokens.specs.RowLaws.{Loop, loop-begins, loop-spent, loop-inside, loop-stops, loop-ends, loop-goes, row-stops, row_ends, product_is, product-begins, sum_is, sum-begins, expression-is, expression-stops, rest-compares, rest-rows, rest-none}
use Rattle.working.proofs.Pairs.{said-stop, said-value, pairs-say, pair-said, alarm-said}
use Rattle.tokens.proofs.token.is_compare.Reads as is-compare
use Rattle.tokens.proofs.token.is_factor.Reads as is-factor
use Rattle.tokens.proofs.token.is_logic.Reads as is-logic
use Rattle.tokens.proofs.token.is_row.Reads as is_row
use Rattle.tokens.proofs.token.is_term.Reads as is-term
use Rattle.tokens.proofs.token.is_variable.Reads as is-variable
use Rattle.tokens.proofs.token.token_at.Reads as token-at
use Rattle.working.proofs.pair.alarm_of.Reads as alarm-of
use Rattle.working.proofs.pair.next_of.Reads as next-of
use Rattle.working.proofs.pair.pair_of.Reads as pair_of
use Rattle.working.proofs.pair.value_of.Reads as value_of_lem
use Rattle.working.proofs.walk.closed.Reads as closed
use Rattle.working.proofs.walk.expression.Reads as expression
use Rattle.working.proofs.walk.factors.Reads as factors
use Rattle.working.proofs.walk.inverted_pair.Reads as inverted-pair
use Rattle.working.proofs.walk.join_compare.Reads as join-compare
use Rattle.working.proofs.walk.join_factor.Reads as join-factor
use Rattle.working.proofs.walk.join_row.Reads as join-row
use Rattle.working.proofs.walk.join_term.Reads as join-term
use Rattle.working.proofs.walk.negated_pair.Reads as negated-pair
use Rattle.working.proofs.walk.operand.Reads as operand
use Rattle.working.proofs.walk.product.Reads as product
use Rattle.working.proofs.walk.row.Reads as row
use Rattle.working.proofs.walk.sum.Reads as sum
use Rattle.working.proofs.walk.terms.Reads as terms
use Rattle.working.proofs.walk.truth.Reads as truth
use Rattle.working.proofs.walk.variable.Reads as variable
use Rattle.working.proofs.walk.+expression_factors_operand_product_row_sum_terms.Lts-expression as expression-lts
use Rattle.working.proofs.walk.+expression_factors_operand_product_row_sum_terms.Lts-factors as factors-lts
use Rattle.working.proofs.walk.+expression_factors_operand_product_row_sum_terms.Lts-operand as operand-lts
use Rattle.working.proofs.walk.+expression_factors_operand_product_row_sum_terms.Lts-product as product-lts
use Rattle.working.proofs.walk.+expression_factors_operand_product_row_sum_terms.Lts-row as row-lts
use Rattle.working.proofs.walk.+expression_factors_operand_product_row_sum_terms.Lts-sum as sum-lts
use Rattle.working.proofs.walk.+expression_factors_operand_product_row_sum_terms.Lts-terms as terms-lts
use Rattle.working.proofs.walk.+expression_factors_operand_product_row_sum_terms.{statement}
use Rattle.working.proofs.walk.+expression_factors_operand_product_row_sum_terms.Tie.{close}

-- what is joined so far says the same of n rounds left as of k, where n is k
same-left : {s : List ℕ} {A : Type 0} {𝓜 : Meaning A} {is_op : ℕ → Bool} {sub said : ℕ → Read A} {left w k n a : ℕ} → Loop s 𝓜 is_op sub said left w k a → n ≡ k → Loop s 𝓜 is_op sub said left w n a
same-left {s} {A} {𝓜} {is_op} {sub} {said} {left} {w} {k} {n} {a} l e = subst (λ j. Loop s 𝓜 is_op sub said left w j a) (sym e) l

abbrev factors-Inv : factors-lts.invariant-loop
factors-Inv tokens r cells w left a₀ n₀ a n = Loop tokens (value_over r cells) is_factor (read_operand tokens (value_over r cells) left) said left w (left - n) a

abbrev terms-Inv : terms-lts.invariant-loop
terms-Inv tokens r cells w left a₀ n₀ a n = Loop tokens (value_over r cells) is_term (product_at tokens (value_over r cells) left) said left w (left - n) a

abbrev row-Inv : row-lts.invariant-loop
row-Inv tokens r cells first w left a₀ n₀ a n = Loop tokens (value_over r cells) (is_row first) (read_sum tokens (value_over r cells) (read_operand tokens (value_over r cells) left) left) said left w (left - n) a

pub +expression_factors_operand_product_row_sum_terms_spec : {M : Type 1} → statement M
unfolding value_over sum_at expression_at
+expression_factors_operand_product_row_sum_terms_spec =
    close
    (λ κs a. 8 * a.1.1.1.1.0 + 6)
    (λ κs a. 8 * a.1.1.1.1.0 + 1)
    (λ κs a. 8 * a.1.1.1.1.0)
    (λ κs a. 8 * a.1.1.1.1.0 + 2)
    (λ κs a. 8 * a.1.1.1.1.1.0 + 5)
    (λ κs a. 8 * a.1.1.1.1.0 + 4)
    (λ κs a. 8 * a.1.1.1.1.0 + 3)
    -- expression
    (λ t. expression-lts.spec (_, sum.Post, _, next-of.Learnt, _, token-at.Learnt, _, is-compare.Learnt, _, value_of_lem.Learnt, _, join-compare.Learnt, _, is-logic.Learnt, _, row.Post) _ expression.Post
    (λ c κs. omega arith)
    (λ c κs. search rules)
    (λ c. expression-stops _ _ _ _ _ c.sum-a.ensures (said-stop _ c.next_of-i.ensures c.if-i-eq0.true))
    (λ c κs. search rules)
    (λ c κs. search rules)
    (λ c κs. search rules)
    (λ c. let d = c.before.before.before in omega (arith, lies-inside d.args.set.now d.next_of-i.result d.token_at-t.ensures (no_end SAME ATLEAST d.token_at-t.result (omega arith) c.is_compare.ensures c.if-is_compare.true)))
    (λ c κs. omega arith)
    (λ c κs. sym c.is_compare.ensures ∙ c.if-is_compare.true)
    (λ c.
    let v = c.before.before in
    let d = v.before.before.before in
    let n = d.before.before.before in
    expression-is _ _ _ _ _ n.sum-a.ensures
    (rest-compares _ _ _ _ (said-value _ n.next_of-i.ensures (back w32 (record { sfits = v.value_of.type_inv }) ∙ v.value_of.ensures) d.if-i-eq0.false) d.token_at-t.ensures v.is_compare.ensures v.if-is_compare.true c.sum.ensures c.join_compare.ensures))
    (λ c κs. search rules)
    (λ c.
    let e = c.before.before in
    let d = e.before.before in
    let n = d.before.before.before in
    expression-is _ _ _ _ _ n.sum-a.ensures (rest-none _ _ _ _ (said-value _ n.next_of-i.ensures refl d.if-i-eq0.false) d.token_at-t.ensures e.is_compare.ensures e.if-is_compare.false c.is_logic.ensures c.if-not-is_logic.true-raw))
    (λ c κs. omega arith)
    (λ c.
    let e = c.before.before.before in
    let d = e.before.before in
    let n = d.before.before.before in
    expression-is _ _ _ _ _ n.sum-a.ensures (rest-rows _ _ _ _ (said-value _ n.next_of-i.ensures refl d.if-i-eq0.false) d.token_at-t.ensures e.is_compare.ensures e.if-is_compare.false c.row.ensures)))
    -- factors
    (λ t. factors-lts.spec (_, next-of.Learnt, _, token-at.Learnt, _, is-factor.Learnt, _, value_of_lem.Learnt, _, operand.Post, _, join-factor.Learnt) _ factors.Post factors-Inv (λ tokens r cells w left a₀ n₀ a n. left - n)
    (λ c. same-left loop-begins (omega arith))
    (λ c κs. search rules)
    (λ c. loop-stops c.loop.invariant pairs-say c.next_of-i.ensures c.if-i-eq0.true)
    (λ c κs. search rules)
    (λ c κs. search rules)
    (λ c. let d = c.before.before in let n = d.before.before.before in loop-ends n.loop.invariant pairs-say n.next_of-i.ensures d.if-i-eq0.false d.token_at-t.ensures c.is_factor.ensures c.if-not-is_factor.true-raw)
    (λ c κs. search rules)
    (λ c. let d = c.before.before.before in omega (arith, loop-inside d.loop.invariant refl d.token_at-t.ensures c.is_factor.ensures c.if-not-is_factor.false-raw))
    (λ c κs. omega arith)
    (λ c κs. sym c.is_factor.ensures ∙ not-false _ c.if-not-is_factor.false-raw)
    (λ c. omega arith)
    (λ c. omega arith)
    (λ c.
    let v = c.before.before in
    let d = v.before.before.before in
    let n = d.before.before.before in
    same-left (loop-goes n.loop.invariant pairs-say n.next_of-i.ensures d.if-i-eq0.false d.token_at-t.ensures v.is_factor.ensures v.if-not-is_factor.false-raw (omega arith) (back w32 (record { sfits = v.value_of.type_inv }) ∙ v.value_of.ensures) c.operand.ensures c.join_factor-a.ensures) (omega arith))
    (λ c. loop-spent c.loop.invariant (omega arith)))
    -- operand
    (λ t. operand-lts.spec (_, alarm-of.Learnt, _, token-at.Learnt, _, pair_of.Learnt, _, is-variable.Learnt, _, variable.Learnt, _, expression.Post, _, closed.Learnt, _, operand.Post, _, negated-pair.Learnt, _, inverted-pair.Learnt, _, truth.Learnt) _ operand.Post
    (λ c κs. search rules)
    (λ c. ap said c.alarm_of.ensures ∙ alarm-said Unsound ∙ sym (spent _ _ _ _ c.if-left-eq0.true))
    (λ c κs. search rules)
    (λ c. search rules)
    (λ c. omega (arith, lies-inside c.args.set.now c.args.at c.token_at-t.ensures (λ e. omega arith)))
    (λ c κs. search rules)
    (λ c.
    let d = c.before.before in
    let p = d.args.at + 1 in
    ap said (c.pair_of.ensures ∙ ap (λ (v : ℤ). pair_of v p) (to_z_pos w32 _ (omega arith))) ∙
    pair-said p (record { sfits = omega arith }) (omega arith) (omega (arith, lies-inside d.args.set.now d.args.at d.token_at-t.ensures (λ e. omega arith))) ∙
    number-arm _ _ _ _ _ d.if-left-eq0.false d.token_at-t.ensures c.if-t-ge-NUMBER.true)
    (λ c κs. search rules)
    (λ c κs. let d = c.before.before.before in omega (arith, lies-inside d.args.set.now d.args.at d.token_at-t.ensures (no_end IN IM d.token_at-t.result (omega arith) c.is_variable.ensures c.if-is_variable.true)))
    (λ c.
    let d = c.before.before.before.before in
    c.variable.ensures ∙ variable-arm _ _ _ _ _ d.if-left-eq0.false d.token_at-t.ensures c.if-t-ge-NUMBER.false (sym c.is_variable.ensures ∙ c.if-is_variable.true))
    (λ c. omega (arith, lies-inside c.args.set.now c.args.at c.token_at-t.ensures (λ e. omega arith)))
    (λ c. omega arith)
    (λ c κs. omega arith)
    (λ c κs. search rules)
    (λ c.
    let d = c.before.before.before.before.before.before in
    let a = d.args in
    stepped (read_close a.set.now (value_over a.r.now a.cells.now)) _ c.expression.ensures c.closed.ensures (open-arm _ _ _ _ _ d.if-left-eq0.false d.token_at-t.ensures c.if-t-eq-OPEN.true))
    (λ c. omega (arith, lies-inside c.args.set.now c.args.at c.token_at-t.ensures (λ e. omega arith)))
    (λ c. omega arith)
    (λ c κs. omega arith)
    (λ c κs. search rules)
    (λ c. let d = c.before.before.before.before.before.before.before in stepped negated _ c.operand.ensures c.negated_pair.ensures (minus-arm _ _ _ _ _ d.if-left-eq0.false d.token_at-t.ensures c.if-t-eq-MINUS.true))
    (λ c. omega (arith, lies-inside c.args.set.now c.args.at c.token_at-t.ensures (λ e. omega arith)))
    (λ c. omega arith)
    (λ c κs. omega arith)
    (λ c κs. search rules)
    (λ c. let d = c.before.before.before.before.before.before.before.before in stepped inverted _ c.operand-then-t-eq-NOT.ensures c.inverted_pair.ensures (not-arm _ _ _ _ _ d.if-left-eq0.false d.token_at-t.ensures c.if-t-eq-NOT.true))
    (λ c κs ne. omega (arith, lies-inside c.args.set.now c.args.at c.token_at-t.ensures ne))
    (λ c.
    let i = c.before.before.before.before in
    let d = i.before.before.before in
    c.truth.ensures ∙
    truth-arm _ _ _ _ _ d.if-left-eq0.false d.token_at-t.ensures i.if-t-ge-NUMBER.false (sym i.is_variable.ensures ∙ i.if-is_variable.false) c.if-t-eq-OPEN.false c.if-t-eq-MINUS.false c.if-t-eq-NOT.false))
    -- product
    (λ t. product-lts.spec (_, operand.Post, _, next-of.Learnt, _, token-at.Learnt, _, is-factor.Learnt, _, factors.Post) _ product.Post
    (λ c κs. omega arith)
    (λ c κs. search rules)
    (λ c. row-stops (product-begins _ _ _ _ _ c.operand-a.ensures) (said-stop _ c.next_of-i.ensures c.if-i-eq0.true))
    (λ c κs. search rules)
    (λ c κs. search rules)
    (λ c.
    let d = c.before.before in
    let n = d.before.before.before in
    row_ends (product-begins _ _ _ _ _ n.operand-a.ensures) (said-value _ n.next_of-i.ensures refl d.if-i-eq0.false) d.token_at.ensures c.is_factor.ensures c.if-not-is_factor.true-raw)
    (λ c κs. omega arith)
    (λ c. product_is _ _ _ _ _ c.operand-a.ensures c.factors.ensures))
    -- row
    (λ t. row-lts.spec (_, next-of.Learnt, _, token-at.Learnt, _, is_row.Learnt, _, value_of_lem.Learnt, _, sum.Post, _, join-row.Learnt) _ row.Post row-Inv (λ tokens r cells first w left a₀ n₀ a n. left - n)
    (λ c. same-left loop-begins (omega arith))
    (λ c κs. search rules)
    (λ c. loop-stops c.loop.invariant pairs-say c.next_of-i.ensures c.if-i-eq0.true)
    (λ c κs. search rules)
    (λ c κs. search rules)
    (λ c. let d = c.before.before in let n = d.before.before.before in loop-ends n.loop.invariant pairs-say n.next_of-i.ensures d.if-i-eq0.false d.token_at-t.ensures c.is_row.ensures c.if-not-is_row.true-raw)
    (λ c κs. search rules)
    (λ c. let d = c.before.before.before in omega (arith, loop-inside d.loop.invariant refl d.token_at-t.ensures c.is_row.ensures c.if-not-is_row.false-raw))
    (λ c κs. omega arith)
    (λ c κs. (both _ _ (sym c.is_row.ensures ∙ not-false _ c.if-not-is_row.false-raw)).0)
    (λ c. omega arith)
    (λ c. omega arith)
    (λ c.
    let v = c.before.before in
    let d = v.before.before.before in
    let n = d.before.before.before in
    same-left (loop-goes n.loop.invariant pairs-say n.next_of-i.ensures d.if-i-eq0.false d.token_at-t.ensures v.is_row.ensures v.if-not-is_row.false-raw (omega arith) (back w32 (record { sfits = v.value_of.type_inv }) ∙ v.value_of.ensures) c.sum.ensures c.join_row-a.ensures) (omega arith))
    (λ c. loop-spent c.loop.invariant (omega arith)))
    -- sum
    (λ t. sum-lts.spec (_, product.Post, _, next-of.Learnt, _, token-at.Learnt, _, is-term.Learnt, _, terms.Post) _ sum.Post
    (λ c κs. omega arith)
    (λ c κs. search rules)
    (λ c. row-stops (sum-begins _ _ _ _ _ c.product-a.ensures) (said-stop _ c.next_of-i.ensures c.if-i-eq0.true))
    (λ c κs. search rules)
    (λ c κs. search rules)
    (λ c.
    let d = c.before.before in
    let n = d.before.before.before in
    row_ends (sum-begins _ _ _ _ _ n.product-a.ensures) (said-value _ n.next_of-i.ensures refl d.if-i-eq0.false) d.token_at.ensures c.is_term.ensures c.if-not-is_term.true-raw)
    (λ c κs. omega arith)
    (λ c. sum_is _ _ _ _ _ c.product-a.ensures c.terms.ensures))
    -- terms
    λ t. terms-lts.spec (_, next-of.Learnt, _, token-at.Learnt, _, is-term.Learnt, _, value_of_lem.Learnt, _, product.Post, _, join-term.Learnt) _ terms.Post terms-Inv (λ tokens r cells w left a₀ n₀ a n. left - n)
    (λ c. same-left loop-begins (omega arith))
    (λ c κs. search rules)
    (λ c. loop-stops c.loop.invariant pairs-say c.next_of-i.ensures c.if-i-eq0.true)
    (λ c κs. search rules)
    (λ c κs. search rules)
    (λ c. let d = c.before.before in let n = d.before.before.before in loop-ends n.loop.invariant pairs-say n.next_of-i.ensures d.if-i-eq0.false d.token_at-t.ensures c.is_term.ensures c.if-not-is_term.true-raw)
    (λ c κs. search rules)
    (λ c. let d = c.before.before.before in omega (arith, loop-inside d.loop.invariant refl d.token_at-t.ensures c.is_term.ensures c.if-not-is_term.false-raw))
    (λ c κs. omega arith)
    (λ c κs. sym c.is_term.ensures ∙ not-false _ c.if-not-is_term.false-raw)
    (λ c. omega arith)
    (λ c. omega arith)
    (λ c.
    let v = c.before.before in
    let d = v.before.before.before in
    let n = d.before.before.before in
    same-left (loop-goes n.loop.invariant pairs-say n.next_of-i.ensures d.if-i-eq0.false d.token_at-t.ensures v.is_term.ensures v.if-not-is_term.false-raw (omega arith) (back w32 (record { sfits = v.value_of.type_inv }) ∙ v.value_of.ensures) c.product.ensures c.join_term-a.ensures) (omega arith))
    (λ c. loop-spent c.loop.invariant (omega arith))
