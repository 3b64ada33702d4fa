-- Laws on a sum, and an expression, that begins with the operand x, for the walk that passes an operand with no operator behind it in one step.
use mathlib.Core.Path.{◌≡◌, refl, sym, ap, ◌∙◌}
use mathlib.Core.Bool.{Bool, true, false, not, ◌||◌}
use mathlib.Core.List.{List}
use Prim.Native.Nat.{ℕ}
use borrow.Author.Tests.{not-true}
use Rattle.tokens.specs.Token.{CLOSE, is_arithmetic, is_compare, is_logic}
use Rattle.tokens.specs.Descent.{Read, read, ends, token, read_sum, read_expression}
use Rattle.tokens.specs.BetweenLaws.{never}
use Rattle.tokens.specs.RowLaws.{row-stops, row_ends, product-begins, sum-begins, expression-is, rest-none}
use Rattle.checking.specs.Fault.{Sight, sight}

neither : (a b : Bool) → a || b ≡ false → (a ≡ false) × (b ≡ false)
neither true b h = never (sym h)
neither false b h = (refl, h)

module _ (s : List ℕ) (sub : ℕ → Read Sight) (k p : ℕ) {x : Read Sight} (e : x ≡ sub p) where
  pub sum-stops : {n : ℕ} → x ≡ ends n → x ≡ read_sum s sight sub k p
  sum-stops h = row-stops (sum-begins s sight sub k p (row-stops (product-begins s sight sub k p e) h)) h

  module _ {v : Sight} {i t : ℕ} (h : x ≡ read v i) (q : t ≡ token s i) where
    -- none of + - * / stands behind it
    pub sum-single : {o : Bool} → o ≡ is_arithmetic t → not o ≡ true → x ≡ read_sum s sight sub k p
    sum-single {o} f g =
        let n = neither _ _ (sym f ∙ not-true o g) in
        row_ends (sum-begins s sight sub k p (row_ends (product-begins s sight sub k p e) h q (sym n.0) refl)) h q (sym n.1) refl

    -- ) stands behind it
    pub expression-closes : t ≡ CLOSE → x ≡ read_expression s sight sub k p
    expression-closes z =
        let n : false ≡ is_arithmetic t = sym (ap (λ (m : ℕ). is_arithmetic m) z) in
        let c : false ≡ is_compare t = sym (ap (λ (m : ℕ). is_compare m) z) in
        let l : false ≡ is_logic t = sym (ap (λ (m : ℕ). is_logic m) z) in
        expression-is s sight sub k p (sum-single n refl) (rest-none s sight sub k h q c refl l refl)
