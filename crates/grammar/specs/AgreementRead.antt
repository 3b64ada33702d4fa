-- What is read is written so: where the reader gives a meaning, a tree with that meaning stands there. Assumes nothing.
use Rattle.std.specs.Prelude.{◌≡◌, Bool, true, false, List, [], ◌∷◌, ◌⊎◌, T, eqb}
use Rattle.std.proofs.Math.Path.{refl, ap, subst}
use Rattle.std.proofs.Common.{◌∙◌, inl}
use Rattle.std.proofs.Math.Logic.{inr}
use Prim.Native.Nat.{ℕ, zero, suc, ◌+◌}
use native.Mathlib.Omega.{arith}
use borrow.Author.Tests.{leb-true, eqb-true}
use Rattle.values.specs.Choice.{told-so, both, decide, choice}
use Rattle.tokens.specs.Token.{NUMBER, CLOSE, is_number, is_variable, has_axis, is_factor, is_term, is_compare, is_logic, number_carried, FALSE, MINUS, NOT, OPEN, TRUE}
use Rattle.grammar.specs.Tree.{number, variable, position, truth, bracket, minus, not, product, no_factor, factor, sum, no_term, term, single, compare, row, last, next, operand_tokens, product_tokens, factors_tokens, sum_tokens, terms_tokens, expression_tokens, sums_tokens}
use Rattle.tokens.specs.Descent.{token, good, Read, read, up_to, Meaning, is_row, index_at, joined, more, read_product, read_sum, read_rest, read_expression, read_close, read_variable, read_truth, operand_from, read_operand, sum_at, expression_at}
use Rattle.grammar.specs.Meaning.{operand_meaning, product_meaning, factors_meaning, sum_meaning, terms_meaning, expression_meaning, sums_meaning, Stands, Found}
use Rattle.grammar.specs.AgreementLaws.{ends_read, then-read, up_to-read, stands-join, number-written, axis-written, variable-kind}

row-token : (o t : ℕ) → is_row o t ≡ true → T (is_logic o) × (t ≡ o)
row-token o t h =
    let u = both (is_logic t) (eqb t o) h in
    let e = eqb-true t o u.1 in
    (told-so (is_logic o) (rw e at u.0), e)

module _ (s : List ℕ) {A : Type 0} (𝓜 : Meaning A) where
  -- what a and the operator o are joined to
  joined-read : (sub : ℕ → Read A) (o : ℕ) (a : A) (p : ℕ) (d : A) (q : ℕ) → joined s 𝓜 sub o a p ≡ read d q → (c : A) × (sub (p + 1) ≡ read c q) × (𝓜.join o a c ≡ good d)
  unfolding joined
  joined-read sub o a p d q h =
      let (c, i, e, f) = then-read (sub (p + 1)) _ d q h in
      let g = up_to-read (𝓜.join o a c) i d q f in
      (c, rw g.1 at e, g.0)

  -- a row that ends with b at q: what holds there, and goes back over each operator and what is read behind it, holds where the row begins
  row_read : (is_op : ℕ → Bool) (sub : ℕ → Read A) (b : A) (q : ℕ) (P : A → ℕ → Type 0) → P b q → ((a c d : A) (p i : ℕ) → is_op (token s p) ≡ true → sub (p + 1) ≡ read c i → 𝓜.join (token s p) a c ≡ good d → P d i → P a p) → (k : ℕ) (a : A) (p : ℕ) → more s 𝓜 is_op sub k a p ≡ read b q → P a p
  unfolding more
  row_read is_op sub b q P z f zero a p h = let e : a ≡ b = cc in let g : p ≡ q = cc in rw (e, g) z
  row_read is_op sub b q P z f (suc k) a p h =
      choice (P a p) _ _ _ _ h
      (λ t e.
      let (d, i, g, r) = then-read (joined s 𝓜 sub (token s p) a p) _ b q e in
      let (c, j, m) = joined-read sub (token s p) a p d i g in
      f a c d p i t j m (row_read is_op sub b q P z f k d i r))
      (λ t e. let x : a ≡ b = cc in let y : p ≡ q = cc in rw (x, y) z)

  -- products, sums and expressions over operands that are written as they are read
  module _ (sub : ℕ → Read A) (k : ℕ) (found : (p : ℕ) (a : A) (q : ℕ) → sub p ≡ read a q → Found operand_tokens (operand_meaning 𝓜) s p a q) where
    product-over : (p : ℕ) (a : A) (q : ℕ) → read_product s 𝓜 sub k p ≡ read a q → Found product_tokens (product_meaning 𝓜) s p a q
    unfolding read_product product_tokens product_meaning
    product-over p a q h =
        let (x, i, e, f) = then-read (sub p) _ a q h in
        let o = found p x i e in
        let r : Found factors_tokens (λ r. factors_meaning 𝓜 r x) s i a q =
        row_read is_factor sub a q (λ y j. Found factors_tokens (λ r. factors_meaning 𝓜 r y) s j a q)
        (record { tree = no_factor; stands = refl; means = refl })
        (λ y c d j n t g m r. let b = found (j + 1) c n g in record {
          tree = factor (token s j) (told-so _ t) b.tree r.tree;
          stands = (refl, stands-join s (operand_tokens b.tree) (factors_tokens r.tree) (j + 1) n q b.stands r.stands);
          means = rw (b.means, m) r.means;
        }) k x i f in
        record {
          tree = product o.tree r.tree;
          stands = stands-join s (operand_tokens o.tree) (factors_tokens r.tree) p i q o.stands r.stands;
          means = rw o.means r.means;
        }

    sum_over : (p : ℕ) (a : A) (q : ℕ) → read_sum s 𝓜 sub k p ≡ read a q → Found sum_tokens (sum_meaning 𝓜) s p a q
    unfolding read_sum sum_tokens sum_meaning
    sum_over p a q h =
        let (x, i, e, f) = then-read (read_product s 𝓜 sub k p) _ a q h in
        let o = product-over p x i e in
        let r : Found terms_tokens (λ r. terms_meaning 𝓜 r x) s i a q =
        row_read is_term (read_product s 𝓜 sub k) a q (λ y j. Found terms_tokens (λ r. terms_meaning 𝓜 r y) s j a q)
        (record { tree = no_term; stands = refl; means = refl })
        (λ y c d j n t g m r. let b = product-over (j + 1) c n g in record {
          tree = term (token s j) (told-so _ t) b.tree r.tree;
          stands = (refl, stands-join s (product_tokens b.tree) (terms_tokens r.tree) (j + 1) n q b.stands r.stands);
          means = rw (b.means, m) r.means;
        }) k x i f in
        record {
          tree = sum o.tree r.tree;
          stands = stands-join s (product_tokens o.tree) (terms_tokens r.tree) p i q o.stands r.stands;
          means = rw o.means r.means;
        }

    -- what stands at p behind the first sum x of an expression, up to a at q: nothing, or a row of the operator o
    abbrev RowFrom : ℕ → A → ℕ → A → ℕ → Type 0
    RowFrom o a q x p = ((x ≡ a) × (p ≡ q)) ⊎ (T (is_logic o) × Found (sums_tokens o) (λ r. sums_meaning 𝓜 o r x) s p a q)

    row_step : (o : ℕ) (a : A) (q : ℕ) (x c d : A) (p i : ℕ) → is_row o (token s p) ≡ true → read_sum s 𝓜 sub k (p + 1) ≡ read c i → 𝓜.join (token s p) x c ≡ good d → RowFrom o a q d i → RowFrom o a q x p
    unfolding sums_tokens sums_meaning
    row_step o a q x c d p i t g m (inl e) =
        let (v, w) = row-token o (token s p) t in
        let b = sum_over (p + 1) c q (rw e.1 at g) in
        inr (v, record { tree = last b.tree; stands = (w, b.stands); means = rw b.means ((rw w at m) ∙ ap good e.0) })
    row_step o a q x c d p i t g m (inr r) =
        let (v, w) = row-token o (token s p) t in
        let b = sum_over (p + 1) c i g in
        let j : 𝓜.join o x c ≡ good d = rw w at m in
        inr (
          v,
          record {
            tree = next b.tree r.1.tree;
            stands = (w, stands-join s (sum_tokens b.tree) (sums_tokens o r.1.tree) (p + 1) i q b.stands r.1.stands);
            means = rw (b.means, j) r.1.means;
          },
        )

    -- the first sum, and what stands behind it
    with_row : (o : ℕ) (a : A) (q : ℕ) (x : A) (p i : ℕ) → Found sum_tokens (sum_meaning 𝓜) s p x i → RowFrom o a q x i → Found expression_tokens (expression_meaning 𝓜) s p a q
    unfolding expression_tokens expression_meaning
    with_row o a q x p i b (inl e) = record { tree = single b.tree; stands = subst (λ (n : ℕ). Stands s p (sum_tokens b.tree) n) e.1 b.stands; means = b.means ∙ ap good e.0 }
    with_row o a q x p i b (inr r) = record {
      tree = row o r.0 b.tree r.1.tree;
      stands = stands-join s (sum_tokens b.tree) (sums_tokens o r.1.tree) p i q b.stands r.1.stands;
      means = rw b.means r.1.means;
    }

    expression-over : (p : ℕ) (a : A) (q : ℕ) → read_expression s 𝓜 sub k p ≡ read a q → Found expression_tokens (expression_meaning 𝓜) s p a q
    unfolding read_expression read_rest expression_tokens expression_meaning
    expression-over p a q h =
        let (x, i, e, f) = then-read (read_sum s 𝓜 sub k p) _ a q h in
        let b = sum_over p x i e in
        choice _ (is_compare (token s i)) _ _ _ f
        (λ t g.
        let (c, r, m) = joined-read (read_sum s 𝓜 sub k) (token s i) x i a q g in
        let d = sum_over (i + 1) c q r in
        record {
          tree = compare (token s i) (told-so _ t) b.tree d.tree;
          stands = stands-join s (sum_tokens b.tree) (token s i ∷ sum_tokens d.tree) p i q b.stands (refl, d.stands);
          means = rw (b.means, d.means) m;
        })
        (λ t g. with_row (token s i) a q x p i b (row_read (is_row (token s i)) (read_sum s 𝓜 sub k) a q (RowFrom (token s i) a q) (inl (refl, refl)) (row_step (token s i) a q) k x i g))

  -- a number, a variable, TRUE or FALSE
  number-found : (p : ℕ) (a : A) (q : ℕ) → is_number (token s p) ≡ true → up_to (𝓜.number (number_carried (token s p))) (p + 1) ≡ read a q → Found operand_tokens (operand_meaning 𝓜) s p a q
  unfolding operand_tokens operand_meaning
  number-found p a q t h =
      let m = up_to-read (𝓜.number (number_carried (token s p))) (p + 1) a q h in
      let b = leb-true NUMBER (token s p) t in
      record { tree = number (number_carried (token s p)); stands = (omega arith, m.1); means = m.0 }

  variable-found : (p : ℕ) (a : A) (q : ℕ) → is_variable (token s p) ≡ true → read_variable s 𝓜 (token s p) p ≡ read a q → Found operand_tokens (operand_meaning 𝓜) s p a q
  unfolding read_variable operand_tokens operand_meaning
  variable-found p a q t h =
      choice _ _ _ _ _ h
      (λ x e.
      let w = token s p in
      let (m, r) = up_to-read (𝓜.variable w (index_at s w p)) (p + 4) a q e in
      let kind = variable-kind w t in
      decide _ (has_axis w)
      (λ y.
      let (g, v, i) = axis-written s w p refl y x in
      let z = kind.0 y in
      record { tree = position (token s (p + 2)) v; stands = rw (← r) (z, g.1); means = rw (i, z) at m })
      (λ y. record { tree = variable w (kind.1 y) (index_at s w p); stands = rw (← r) (number-written s w p refl y x); means = m }))
      (λ x e. ends_read _ _ q a e)

  truth-found : (p : ℕ) (a : A) (q : ℕ) → read_truth s 𝓜 (token s p) p ≡ read a q → Found operand_tokens (operand_meaning 𝓜) s p a q
  unfolding read_truth operand_tokens operand_meaning
  truth-found p a q h =
      choice _ (eqb (token s p) TRUE) _ _ _ h
      (λ t e. record { tree = truth true; stands = (eqb-true _ _ t, cc); means = cc })
      (λ _ g. choice _ (eqb (token s p) FALSE) _ _ _ g
      (λ t e. record { tree = truth false; stands = (eqb-true _ _ t, cc); means = cc })
      (λ _ e. ends_read _ _ q a e))

  -- WHAT IS READ IS WRITTEN SO: where the reader gives a meaning and a place, a tree with that meaning stands up to that place. An operand:
  pub operand-found : (k p : ℕ) (a : A) (q : ℕ) → read_operand s 𝓜 k p ≡ read a q → Found operand_tokens (operand_meaning 𝓜) s p a q
  unfolding read_operand operand_from read_close operand_tokens operand_meaning
  operand-found zero p a q h = ends_read _ _ q a h
  operand-found (suc k) p a q h =
      choice _ (is_number (token s p)) _ _ _ h (number-found p a q)
      (λ _ h. choice _ (is_variable (token s p)) _ _ _ h (variable-found p a q)
      (λ _ h. choice _ (eqb (token s p) OPEN) _ _ _ h
      (λ t e.
      let (x, i, f, g) = then-read (read_expression s 𝓜 (read_operand s 𝓜 k) k (p + 1)) _ a q e in
      let b = expression-over (read_operand s 𝓜 k) k (operand-found k) (p + 1) x i f in
      choice _ (eqb (token s i) CLOSE) _ _ _ g
      (λ c r. record {
        tree = bracket b.tree;
        stands = (eqb-true _ _ t, stands-join s (expression_tokens b.tree) (CLOSE ∷ []) (p + 1) i q b.stands (eqb-true _ _ c, cc));
        means = rw b.means (cc);
      })
      (λ _ r. ends_read _ _ q a r))
      (λ _ h. choice _ (eqb (token s p) MINUS) _ _ _ h
      (λ t e.
      let (x, i, f, g) = then-read (read_operand s 𝓜 k (p + 1)) _ a q e in
      let m = up_to-read (𝓜.minus x) i a q g in
      let b = operand-found k (p + 1) x q (rw m.1 at f) in
      record { tree = minus b.tree; stands = (eqb-true _ _ t, b.stands); means = rw b.means m.0 })
      (λ _ h. choice _ (eqb (token s p) NOT) _ _ _ h
      (λ t e.
      let (x, i, f, g) = then-read (read_operand s 𝓜 k (p + 1)) _ a q e in
      let m = up_to-read (good (𝓜.not x)) i a q g in
      let b = operand-found k (p + 1) x q (rw m.1 at f) in
      record { tree = not b.tree; stands = (eqb-true _ _ t, b.stands); means = rw b.means m.0 })
      (λ _ h. truth-found p a q h)))))

  -- a product
  pub product_found : (k p : ℕ) (a : A) (q : ℕ) → read_product s 𝓜 (read_operand s 𝓜 k) k p ≡ read a q → Found product_tokens (product_meaning 𝓜) s p a q
  product_found k p a q h = product-over (read_operand s 𝓜 k) k (operand-found k) p a q h

  -- a right side
  pub sum-found : (k p : ℕ) (a : A) (q : ℕ) → sum_at s 𝓜 k p ≡ read a q → Found sum_tokens (sum_meaning 𝓜) s p a q
  unfolding sum_at
  sum-found k p a q h = sum_over (read_operand s 𝓜 k) k (operand-found k) p a q h

  -- an expression
  pub expression-found : (k p : ℕ) (a : A) (q : ℕ) → expression_at s 𝓜 k p ≡ read a q → Found expression_tokens (expression_meaning 𝓜) s p a q
  unfolding expression_at
  expression-found k p a q h = expression-over (read_operand s 𝓜 k) k (operand-found k) p a q h
