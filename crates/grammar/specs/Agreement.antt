-- Reading what was written: where a tree's tokens stand, the reader gives the tree's meaning, in any meaning of expressions. Assumes nothing.
use Rattle.std.specs.Prelude.{◌≡◌, Bool, List, [], ◌∷◌, T, length}
use Rattle.std.proofs.Math.Path.{refl}
use Rattle.std.proofs.Common.{ap, ◌∙◌, not-suc-le-zero, le_refl, le-leb, eq-eqb}
use Rattle.std.proofs.Math.Bool.{true, false}
use Prim.Native.Nat.{ℕ, zero, suc, pred, ◌+◌, ◌-◌, ◌≤◌}
use native.Mathlib.Omega.{arith}
use Rattle.values.specs.Choice.{holds, chosen, refused}
use Rattle.tokens.specs.Token.{NUMBER, OPEN, CLOSE, LEFT, RIGHT, IM, is_number, is_variable, is_factor, is_term, is_compare, is_logic, whole_token, AND, ATLEAST, MINUS, OVER, PLUS, SAME, TIMES, XOR}
use Rattle.grammar.specs.Tree.{Operand, number, variable, position, truth, bracket, minus, not, Product, product, Factors, no_factor, factor, Sum, sum, Terms, no_term, term, Expression, single, compare, row, Sums, last, next, operand_tokens, product_tokens, factors_tokens, sum_tokens, terms_tokens, expression_tokens, sums_tokens}
use Rattle.tokens.specs.Descent.{token, Answer, good, Read, read, ◌>>=◌, up_to, Meaning, is_row, is_index, index_of, joined, more, read_product, read_sum, read_rest, read_expression, read_close, read_variable, read_truth, operand_from, read_operand, sum_at, expression_at}
use Rattle.grammar.specs.Meaning.{operand_meaning, product_meaning, factors_meaning, sum_meaning, terms_meaning, expression_meaning, sums_meaning, Stands, EndsSum, EndsExpression}
use Rattle.grammar.specs.AgreementLaws.{bounds, before, beyond, bind-good, goes_on_lem, stands-split, parts-fit, numbered, number-index, axis-index, index-stands}

-- an operator of a row behind a part ends the part
pub term-ends : (o : ℕ) → T (is_term o) → is_factor o ≡ false
term-ends o v = let b = bounds PLUS MINUS o v in before TIMES OVER o (omega arith)

pub compare-ends : (o : ℕ) → T (is_compare o) → EndsSum o
compare-ends o v = let b = bounds SAME ATLEAST o v in record { factor = before TIMES OVER o (omega arith); term = before PLUS MINUS o (omega arith) }

pub logic-ends : (o : ℕ) → T (is_logic o) → EndsSum o
logic-ends o v = let b = bounds AND XOR o v in record { factor = beyond TIMES OVER o (omega arith); term = beyond PLUS MINUS o (omega arith) }

pub logic-compares : (o : ℕ) → T (is_logic o) → is_compare o ≡ false
logic-compares o v = let b = bounds AND XOR o v in beyond SAME ATLEAST o (omega arith)

pub close-ends : EndsExpression CLOSE
close-ends = record { sum = record { factor = refl; term = refl }; compare = refl; logic = refl }

same_row : (o : ℕ) → T (is_logic o) → is_row o o ≡ true
same_row o v = rw (holds (is_logic o) v) (eq-eqb o o refl)

module _ (s : List ℕ) where
  -- a row of terms, or its end, ends the product before it; a row of sums begins with its operator
  terms-start : (r : Terms) (p q : ℕ) → Stands s p (terms_tokens r) q → is_factor (token s q) ≡ false → is_factor (token s p) ≡ false
  unfolding terms_tokens
  terms-start no_term p q h e = rw h e
  terms-start (term o v a r) p q h e = rw h.0 (term-ends o v)

  sums-start : (o : ℕ) (r : Sums) (p q : ℕ) → Stands s p (sums_tokens o r) q → token s p ≡ o
  unfolding sums_tokens
  sums-start o (last a) p q h = h.0
  sums-start o (next a r) p q h = h.0

  module _ {A : Type 0} (𝓜 : Meaning A) where
    -- a row ends, or goes on with one more
    row-end : (is_op : ℕ → Bool) (sub : ℕ → Read A) (k : ℕ) (a : A) (p : ℕ) → is_op (token s p) ≡ false → more s 𝓜 is_op sub k a p ≡ read a p
    unfolding more
    row-end is_op sub zero a p e = refl
    row-end is_op sub (suc k) a p e = refused _ _ _ e

    row_next : (is_op : ℕ → Bool) (sub : ℕ → Read A) (k : ℕ) (a : A) (p i q o : ℕ) (m : Answer A) (g : A → Answer A) → token s p ≡ o → is_op o ≡ true → 1 ≤ k → sub (p + 1) ≡ up_to m i → ((b : A) → more s 𝓜 is_op sub (pred k) b i ≡ up_to (g b) q) → more s 𝓜 is_op sub k a p ≡ up_to (m >>= 𝓜.join o a >>= g) q
    unfolding more joined
    row_next is_op sub zero a p i q o m g t e l h f = absurd (not-suc-le-zero l)
    row_next is_op sub (suc k) a p i q o m g t e l h f =
        let is_on : is_op (token s p) ≡ true = rw t e in
        let one : joined s 𝓜 sub (token s p) a p ≡ up_to (m >>= 𝓜.join o a) i = rw t (goes_on_lem m _ _ (𝓜.join o a) i i h (λ b. refl)) in
        chosen _ _ _ is_on ∙ goes_on_lem (m >>= 𝓜.join o a) _ _ g i q one f

    -- an operand, by its first token
    starts : (k p t : ℕ) → 1 ≤ k → token s p ≡ t → read_operand s 𝓜 k p ≡ operand_from s 𝓜 (read_operand s 𝓜 (pred k)) (pred k) p t
    unfolding read_operand
    starts zero p t l e = absurd (not-suc-le-zero l)
    starts (suc k) p t l e = rw e

    starts-number : (k p q n : ℕ) → 1 ≤ k → Stands s p ((NUMBER + n) ∷ []) q → read_operand s 𝓜 k p ≡ up_to (𝓜.number n) q
    unfolding operand_from
    starts-number k p q n l h =
        let e : NUMBER + n - NUMBER ≡ n = omega arith in
        starts k p (NUMBER + n) l h.0 ∙ chosen _ _ _ (le-leb NUMBER (NUMBER + n) (omega arith)) ∙ rw (e, h.1)

    starts-variable : (k p q w t i : ℕ) → 1 ≤ k → is_number w ≡ false → is_variable w ≡ true → (is_index w t ≡ true) × (index_of w t ≡ i) → Stands s p (w ∷ LEFT ∷ t ∷ RIGHT ∷ []) q → read_operand s 𝓜 k p ≡ up_to (𝓜.variable w i) q
    unfolding operand_from read_variable
    starts-variable k p q w t i l n v x h =
        let g = index-stands s w t p q x.0 h in
        starts k p w l h.0 ∙ refused _ _ _ n ∙ chosen _ _ _ v ∙ chosen _ _ _ g.0 ∙ rw (g.1, x.1, g.2)

    closes : (a : A) (p q : ℕ) → Stands s p (CLOSE ∷ []) q → read_close s 𝓜 a p ≡ read a q
    unfolding read_close
    closes a p q h = chosen _ _ _ (eq-eqb (token s p) CLOSE h.0) ∙ rw h.1

    -- nothing, a comparison or a row behind the first sum of an expression
    module _ (sub : ℕ → Read A) (k : ℕ) where
      rest_end : (a : A) (p : ℕ) → EndsExpression (token s p) → read_rest s 𝓜 sub k a p ≡ read a p
      unfolding read_rest
      rest_end a p e = refused _ _ _ e.compare ∙ row-end (is_row (token s p)) _ k a p (rw e.logic)

      rest-compare : (a : A) (p q o : ℕ) (m : Answer A) → token s p ≡ o → is_compare o ≡ true → read_sum s 𝓜 sub k (p + 1) ≡ up_to m q → read_rest s 𝓜 sub k a p ≡ up_to (m >>= 𝓜.join o a) q
      unfolding read_rest joined
      rest-compare a p q o m t e h =
          let is_on : is_compare (token s p) ≡ true = rw t e in
          chosen _ _ _ is_on ∙ rw t (goes_on_lem m _ _ (𝓜.join o a) q q h (λ b. refl))

      rest-row : (a : A) (p o : ℕ) → token s p ≡ o → is_compare o ≡ false → read_rest s 𝓜 sub k a p ≡ more s 𝓜 (is_row o) (read_sum s 𝓜 sub k) k a p
      unfolding read_rest
      rest-row a p o t e =
          let is_off : is_compare (token s p) ≡ false = rw t e in
          refused _ _ _ is_off ∙ rw t

    mutual
      unfolding operand_tokens operand_meaning operand_from read_truth read_product read_sum read_expression

      operand-reads : (o : Operand) (k p q : ℕ) → length (operand_tokens o) ≤ k → Stands s p (operand_tokens o) q → read_operand s 𝓜 k p ≡ up_to (operand_meaning 𝓜 o) q
      operand-reads (number n) k p q l h = starts-number k p q n l h
      operand-reads (variable w v i) k p q l h =
          let f = numbered w v in
          starts-variable k p q w (whole_token i) i (omega arith) f.0 f.1 (number-index w i f.2) h
      operand-reads (position x v) k p q l h = starts-variable k p q IM x _ (omega arith) refl refl (axis-index IM x refl v) h
      operand-reads (truth true) k p q l h = starts k p _ l h.0 ∙ rw h.1
      operand-reads (truth false) k p q l h = starts k p _ l h.0 ∙ rw h.1
      operand-reads (bracket e) k p q l h =
          let m = expression_meaning 𝓜 e in
          let (i, f, c) = stands-split s (expression_tokens e) (CLOSE ∷ []) (p + 1) q h.1 in
          let L = parts-fit (expression_tokens e) (CLOSE ∷ []) (pred k) (omega arith) in
          starts k p OPEN (omega arith) h.0 ∙ goes_on_lem m _ _ good i q (expression-reads e (pred k) (p + 1) i L.0 f (rw c.0 close-ends)) (λ a. closes a i q c) ∙ rw (bind-good m)
      operand-reads (minus a) k p q l h = starts k p _ (omega arith) h.0 ∙ goes_on_lem (operand_meaning 𝓜 a) _ _ 𝓜.minus q q (operand-reads a (pred k) (p + 1) q (omega arith) h.1) (λ x. refl)
      operand-reads (not a) k p q l h = starts k p _ (omega arith) h.0 ∙ goes_on_lem (operand_meaning 𝓜 a) _ _ (λ x. good (𝓜.not x)) q q (operand-reads a (pred k) (p + 1) q (omega arith) h.1) (λ x. refl)

      product-reads : (x : Product) (k p q : ℕ) → length (product_tokens x) ≤ k → Stands s p (product_tokens x) q → is_factor (token s q) ≡ false → read_product s 𝓜 (read_operand s 𝓜 k) k p ≡ up_to (product_meaning 𝓜 x) q
      product-reads (product a r) k p q l h e =
          let (i, f, g) = stands-split s (operand_tokens a) (factors_tokens r) p q h in
          let L = parts-fit (operand_tokens a) (factors_tokens r) k l in
          goes_on_lem (operand_meaning 𝓜 a) _ _ (factors_meaning 𝓜 r) i q (operand-reads a k p i L.0 f) (λ x. factors-reads r k k i q x L.1 (le_refl k) g e)

      factors-reads : (r : Factors) (K k p q : ℕ) (x : A) → length (factors_tokens r) ≤ k → k ≤ K → Stands s p (factors_tokens r) q → is_factor (token s q) ≡ false → more s 𝓜 is_factor (read_operand s 𝓜 K) k x p ≡ up_to (factors_meaning 𝓜 r x) q
      factors-reads no_factor K k p q x l b h e = row-end _ _ k x p (rw h e) ∙ ap (read x) h
      factors-reads (factor o v a r) K k p q x l b h e =
          let (i, f, g) = stands-split s (operand_tokens a) (factors_tokens r) (p + 1) q h.1 in
          let L = parts-fit (operand_tokens a) (factors_tokens r) (pred k) (omega arith) in
          row_next _ _ k x p i q o (operand_meaning 𝓜 a) (factors_meaning 𝓜 r) h.0 (holds _ v) (omega arith) (operand-reads a K (p + 1) i (omega arith) f) (λ y. factors-reads r K (pred k) i q y L.1 (omega arith) g e)

      sum-reads : (x : Sum) (k p q : ℕ) → length (sum_tokens x) ≤ k → Stands s p (sum_tokens x) q → EndsSum (token s q) → read_sum s 𝓜 (read_operand s 𝓜 k) k p ≡ up_to (sum_meaning 𝓜 x) q
      sum-reads (sum a r) k p q l h e =
          let (i, f, g) = stands-split s (product_tokens a) (terms_tokens r) p q h in
          let L = parts-fit (product_tokens a) (terms_tokens r) k l in
          goes_on_lem (product_meaning 𝓜 a) _ _ (terms_meaning 𝓜 r) i q (product-reads a k p i L.0 f (terms-start r i q g e.factor)) (λ x. terms-reads r k k i q x L.1 (le_refl k) g e)

      terms-reads : (r : Terms) (K k p q : ℕ) (x : A) → length (terms_tokens r) ≤ k → k ≤ K → Stands s p (terms_tokens r) q → EndsSum (token s q) → more s 𝓜 is_term (read_product s 𝓜 (read_operand s 𝓜 K) K) k x p ≡ up_to (terms_meaning 𝓜 r x) q
      terms-reads no_term K k p q x l b h e = row-end _ _ k x p (rw h e.term) ∙ ap (read x) h
      terms-reads (term o v a r) K k p q x l b h e =
          let (i, f, g) = stands-split s (product_tokens a) (terms_tokens r) (p + 1) q h.1 in
          let L = parts-fit (product_tokens a) (terms_tokens r) (pred k) (omega arith) in
          row_next _ _ k x p i q o (product_meaning 𝓜 a) (terms_meaning 𝓜 r) h.0 (holds _ v) (omega arith) (product-reads a K (p + 1) i (omega arith) f (terms-start r i q g e.factor)) (λ y. terms-reads r K (pred k) i q y L.1 (omega arith) g e)

      expression-reads : (x : Expression) (k p q : ℕ) → length (expression_tokens x) ≤ k → Stands s p (expression_tokens x) q → EndsExpression (token s q) → read_expression s 𝓜 (read_operand s 𝓜 k) k p ≡ up_to (expression_meaning 𝓜 x) q
      expression-reads (single a) k p q l h e = goes_on_lem (sum_meaning 𝓜 a) _ _ good q q (sum-reads a k p q l h e.sum) (λ x. rest_end _ k x q e) ∙ rw (bind-good (sum_meaning 𝓜 a))
      expression-reads (compare o v a b) k p q l h e =
          let (i, f, g) = stands-split s (sum_tokens a) (o ∷ sum_tokens b) p q h in
          let L = parts-fit (sum_tokens a) (o ∷ sum_tokens b) k l in
          goes_on_lem (sum_meaning 𝓜 a) _ _ (λ x. sum_meaning 𝓜 b >>= 𝓜.join o x) i q (sum-reads a k p i L.0 f (rw g.0 (compare-ends o v))) (λ x. rest-compare _ k x i q o (sum_meaning 𝓜 b) g.0 (holds _ v) (sum-reads b k (i + 1) q (omega arith) g.1 e.sum))
      expression-reads (row o v a r) k p q l h e =
          let (i, f, g) = stands-split s (sum_tokens a) (sums_tokens o r) p q h in
          let L = parts-fit (sum_tokens a) (sums_tokens o r) k l in
          let t = sums-start o r i q g in
          goes_on_lem (sum_meaning 𝓜 a) _ _ (sums_meaning 𝓜 o r) i q (sum-reads a k p i L.0 f (rw t (logic-ends o v))) (λ x. rest-row _ k x i o t (logic-compares o v) ∙ sums-reads r o k k i q x v L.1 (le_refl k) g e)

      sums-reads : (r : Sums) (o K k p q : ℕ) (x : A) → T (is_logic o) → length (sums_tokens o r) ≤ k → k ≤ K → Stands s p (sums_tokens o r) q → EndsExpression (token s q) → more s 𝓜 (is_row o) (read_sum s 𝓜 (read_operand s 𝓜 K) K) k x p ≡ up_to (sums_meaning 𝓜 o r x) q
      sums-reads (last a) o K k p q x v l b h e =
          row_next _ _ k x p q q o (sum_meaning 𝓜 a) good h.0 (same_row o v) (omega arith) (sum-reads a K (p + 1) q (omega arith) h.1 e.sum) (λ y. row-end _ _ (pred k) y q (rw e.logic)) ∙ rw (bind-good (sum_meaning 𝓜 a >>= 𝓜.join o x))
      sums-reads (next a r) o K k p q x v l b h e =
          let (i, f, g) = stands-split s (sum_tokens a) (sums_tokens o r) (p + 1) q h.1 in
          let L = parts-fit (sum_tokens a) (sums_tokens o r) (pred k) (omega arith) in
          row_next _ _ k x p i q o (sum_meaning 𝓜 a) (sums_meaning 𝓜 o r) h.0 (same_row o v) (omega arith) (sum-reads a K (p + 1) i (omega arith) f (rw (sums-start o r i q g) (logic-ends o v))) (λ y. sums-reads r o K (pred k) i q y v L.1 (omega arith) g e)

    -- READING WHAT WAS WRITTEN: where the tokens of a tree stand from p up to q, with k no less than their count, and the token at q does not go
    -- with them, the reader gives the meaning of the tree and the place q, or the code that ends that meaning
    pub operand_agrees : (x : Operand) (k p q : ℕ) → length (operand_tokens x) ≤ k → Stands s p (operand_tokens x) q → read_operand s 𝓜 k p ≡ up_to (operand_meaning 𝓜 x) q
    operand_agrees x k p q l h = operand-reads x k p q l h

    pub sum_agrees : (x : Sum) (k p q : ℕ) → length (sum_tokens x) ≤ k → Stands s p (sum_tokens x) q → EndsSum (token s q) → sum_at s 𝓜 k p ≡ up_to (sum_meaning 𝓜 x) q
    unfolding sum_at
    sum_agrees x k p q l h e = sum-reads x k p q l h e

    pub expression-agrees : (x : Expression) (k p q : ℕ) → length (expression_tokens x) ≤ k → Stands s p (expression_tokens x) q → EndsExpression (token s q) → expression_at s 𝓜 k p ≡ up_to (expression_meaning 𝓜 x) q
    unfolding expression_at
    expression-agrees x k p q l h e = expression-reads x k p q l h e
