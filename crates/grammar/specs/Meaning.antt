-- What the trees of the grammar mean, in any meaning of expressions, and where a tree stands among tokens. Definitions only.
-- Operands are worked from the left; the first code met ends the working.
use Rattle.std.specs.Prelude.{◌≡◌, false, List, [], ◌∷◌, ℕ, ◌+◌, get_or}
use Rattle.tokens.specs.Token.{IM, is_factor, is_term, is_compare, is_logic, axis_of}
use Rattle.grammar.specs.Tree.{Operand, number, variable, position, truth, bracket, minus, not, Product, product, Factors, no_factor, factor, Sum, sum, Terms, no_term, term, Expression, single, compare, row, Sums, last, next}
use Rattle.tokens.specs.Descent.{Answer, good, ◌>>=◌, Meaning}

-- ---- what a tree means

-- a row is the way from the meaning of what stands before it to the meaning of the whole, left to right
module _ {A : Type 0} (𝓜 : Meaning A) where
  unfoldable mutual
    pub operand_meaning : Operand → Answer A
    operand_meaning (number n) = 𝓜.number n
    operand_meaning (variable w v i) = 𝓜.variable w i
    operand_meaning (position x v) = 𝓜.variable IM (axis_of x)
    operand_meaning (truth b) = good (𝓜.truth b)
    operand_meaning (bracket e) = expression_meaning e
    operand_meaning (minus a) = operand_meaning a >>= 𝓜.minus
    operand_meaning (not a) = operand_meaning a >>= (λ x. good (𝓜.not x))

    pub product_meaning : Product → Answer A
    product_meaning (product a r) = operand_meaning a >>= (λ y. factors_meaning r y)

    pub factors_meaning : Factors → A → Answer A
    factors_meaning no_factor x = good x
    factors_meaning (factor o v a r) x = operand_meaning a >>= 𝓜.join o x >>= (λ y. factors_meaning r y)

    pub sum_meaning : Sum → Answer A
    sum_meaning (sum a r) = product_meaning a >>= (λ y. terms_meaning r y)

    pub terms_meaning : Terms → A → Answer A
    terms_meaning no_term x = good x
    terms_meaning (term o v a r) x = product_meaning a >>= 𝓜.join o x >>= (λ y. terms_meaning r y)

    pub expression_meaning : Expression → Answer A
    expression_meaning (single a) = sum_meaning a
    expression_meaning (compare o v a b) = sum_meaning a >>= (λ x. sum_meaning b >>= 𝓜.join o x)
    expression_meaning (row o v a r) = sum_meaning a >>= (λ y. sums_meaning o r y)

    pub sums_meaning : ℕ → Sums → A → Answer A
    sums_meaning o (last a) x = sum_meaning a >>= 𝓜.join o x
    sums_meaning o (next a r) x = sum_meaning a >>= 𝓜.join o x >>= (λ y. sums_meaning o r y)

-- ---- where a tree stands

-- the tokens l stand in s from the place p on, and q is the place behind them
abbrev pub Stands : List ℕ → ℕ → List ℕ → ℕ → Type 0
Stands s p [] q = p ≡ q
Stands s p (t ∷ l) q = (get_or s p 0 ≡ t) × Stands s (p + 1) l q

-- a tree that stands in s from p up to q and means a, by the tokens and the meaning of its kind of tree
pub record Found {A X : Type 0} (tokens : X → List ℕ) (meaning : X → Answer A) (s : List ℕ) (p : ℕ) (a : A) (q : ℕ) : Type 0 where
  pub tree : X
  pub stands : Stands s p (tokens tree) q
  pub means : meaning tree ≡ good a

-- the token t does not go on with a sum: it is no * / + -
pub record EndsSum (t : ℕ) : Type 0 where
  pub factor : is_factor t ≡ false
  pub term : is_term t ≡ false

-- nor with an expression: it is no comparison and no AND, OR, XOR either
pub record EndsExpression (t : ℕ) : Type 0 where
  pub sum : EndsSum t
  pub compare : is_compare t ≡ false
  pub logic : is_logic t ≡ false
