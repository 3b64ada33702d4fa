-- The reading of tokens by recursive descent, over any meaning of expressions: a meaning and the place after it, or the code that ends the reading.
-- `k` bounds the tokens left: it begins as the places of a set and falls at each bracket, minus and NOT. Definitions only; that reading and writing agree is shown in the crate grammar.
use Rattle.std.specs.Prelude.{Bool, true, false, cond, ◌&&◌, List, ℕ, zero, suc, ◌+◌, eqb, get_or}
use Rattle.tokens.specs.Token.{MINUS, OPEN, CLOSE, LEFT, RIGHT, TRUE, FALSE, NOT, is_number, is_variable, has_axis, is_axis, is_factor, is_term, is_compare, is_logic, is_whole, number_carried, whole, axis_of}

-- a result, or the code that ends the working
pub data Answer (A : Type 0) : Type 0 where
  good : A → Answer A
  stop : ℕ → Answer A

-- what was read and the place after it, or the code that ends the reading
pub data Read (A : Type 0) : Type 0 where
  read : A → ℕ → Read A
  ends : ℕ → Read A

infixl 20 ◌>>=◌
abbrev pub ◌>>=◌ : {A B : Type 0} → Answer A → (A → Answer B) → Answer B
good a >>= f = f a
stop c >>= f = stop c

abbrev pub then : {A B : Type 0} → Read A → (A → ℕ → Read B) → Read B
then (read a p) f = f a p
then (ends c) f = ends c

abbrev pub up_to : {A : Type 0} → Answer A → ℕ → Read A
up_to (good a) p = read a p
up_to (stop c) p = ends c

-- a meaning of expressions: of a number by what it carries, of a variable by its word and index, of the operators by their tokens; and the code of what is not in the grammar
pub record Meaning (A : Type 0) : Type 0 where
  pub number : ℕ → Answer A
  pub variable : ℕ → ℕ → Answer A
  pub truth : Bool → A
  pub minus : A → Answer A
  pub not : A → A
  pub join : ℕ → A → A → Answer A
  pub wrong : ℕ

-- the token t goes on with the row of AND, OR or XOR that began with `first`
abbrev pub is_row : ℕ → ℕ → Bool
is_row first t = is_logic t && eqb t first

-- an index of the word w: an axis letter, or a number without a point
unfoldable pub is_index : ℕ → ℕ → Bool
is_index w t = cond (has_axis w) (is_axis t) (is_whole t)

unfoldable pub index_of : ℕ → ℕ → ℕ
index_of w t = cond (has_axis w) (axis_of t) (whole t)

module _ (s : List ℕ) where
  -- the token at a place
  abbrev pub token : ℕ → ℕ
  token p = get_or s p 0

  -- [axis], or [number] without a point, stands behind the word w at p
  unfoldable pub is_indexed : ℕ → ℕ → Bool
  is_indexed w p = eqb (token (p + 1)) LEFT && (eqb (token (p + 3)) RIGHT && is_index w (token (p + 2)))

  -- the index behind the word w at p
  unfoldable pub index_at : ℕ → ℕ → ℕ
  index_at w p = index_of w (token (p + 2))

  module _ {A : Type 0} (𝓜 : Meaning A) where
    -- a, the operator o, and what `sub` reads behind it
    unfoldable pub joined : (ℕ → Read A) → ℕ → A → ℕ → Read A
    joined sub o a p = then (sub (p + 1)) (λ b q. up_to (𝓜.join o a b) q)

    -- a, and as many more as operators follow, left to right
    unfoldable pub more : (ℕ → Bool) → (ℕ → Read A) → ℕ → A → ℕ → Read A
    more is_op sub zero a p = read a p
    more is_op sub (suc k) a p =
        elim (is_op (token p)) [ true ↦ then (joined sub (token p) a p) (λ b q. more is_op sub k b q) | false ↦ read a p ]

    unfoldable pub read_product : (ℕ → Read A) → ℕ → ℕ → Read A
    read_product sub k p = then (sub p) (λ a q. more is_factor sub k a q)

    unfoldable pub read_sum : (ℕ → Read A) → ℕ → ℕ → Read A
    read_sum sub k p = then (read_product sub k p) (λ a q. more is_term (read_product sub k) k a q)

    -- behind the first sum: one comparison, or a row of one logic operator, or nothing
    unfoldable pub read_rest : (ℕ → Read A) → ℕ → A → ℕ → Read A
    read_rest sub k a p =
        elim (is_compare (token p)) [
          | true ↦ joined (read_sum sub k) (token p) a p
          | false ↦ more (is_row (token p)) (read_sum sub k) k a p
        ]

    unfoldable pub read_expression : (ℕ → Read A) → ℕ → ℕ → Read A
    read_expression sub k p = then (read_sum sub k p) (λ a q. read_rest sub k a q)

    unfoldable pub read_close : A → ℕ → Read A
    read_close a p = elim (eqb (token p) CLOSE) [ true ↦ read a (p + 1) | false ↦ ends 𝓜.wrong ]

    unfoldable pub read_variable : ℕ → ℕ → Read A
    read_variable w p = elim (is_indexed w p) [ true ↦ up_to (𝓜.variable w (index_at w p)) (p + 4) | false ↦ ends 𝓜.wrong ]

    -- TRUE, FALSE or nothing of the grammar
    unfoldable pub read_truth : ℕ → ℕ → Read A
    read_truth t p =
        elim (eqb t TRUE) [
          | true ↦ read (𝓜.truth true) (p + 1)
          | false ↦ elim (eqb t FALSE) [ true ↦ read (𝓜.truth false) (p + 1) | false ↦ ends 𝓜.wrong ]
        ]

    -- the operand that begins with the token t at p; `again` reads an operand, k is left
    unfoldable pub operand_from : (ℕ → Read A) → ℕ → ℕ → ℕ → Read A
    operand_from again k p t =
        elim (is_number t) [
          | true ↦ up_to (𝓜.number (number_carried t)) (p + 1)
          | false ↦
              elim (is_variable t) [
                | true ↦ read_variable t p
                | false ↦
                    elim (eqb t OPEN) [
                      | true ↦ then (read_expression again k (p + 1)) read_close
                      | false ↦
                          elim (eqb t MINUS) [
                            | true ↦ then (again (p + 1)) (λ a q. up_to (𝓜.minus a) q)
                            | false ↦
                                elim (eqb t NOT) [ true ↦ then (again (p + 1)) (λ a q. read (𝓜.not a) q) | false ↦ read_truth t p ]
                          ]
                    ]
              ]
        ]

    unfoldable pub read_operand : ℕ → ℕ → Read A
    read_operand zero p = ends 𝓜.wrong
    read_operand (suc k) p = operand_from (read_operand k) k p (token p)

    -- behind an operand, a product or a sum: as many factors, terms or members of a row as follow, and what else may follow a sum
    abbrev pub factors_behind : ℕ → A → ℕ → Read A
    factors_behind k = more is_factor (read_operand k) k

    abbrev pub terms_behind : ℕ → A → ℕ → Read A
    terms_behind k = more is_term (read_product (read_operand k) k) k

    abbrev pub row_behind : ℕ → ℕ → A → ℕ → Read A
    row_behind first k = more (is_row first) (read_sum (read_operand k) k) k

    abbrev pub rest_behind : ℕ → A → ℕ → Read A
    rest_behind k = read_rest (read_operand k) k

    -- a product, a right side, and an expression, with at most k tokens left
    abbrev pub product_at : ℕ → ℕ → Read A
    product_at k p = read_product (read_operand k) k p

    unfoldable pub sum_at : ℕ → ℕ → Read A
    sum_at k p = read_sum (read_operand k) k p

    unfoldable pub expression_at : ℕ → ℕ → Read A
    expression_at k p = read_expression (read_operand k) k p
