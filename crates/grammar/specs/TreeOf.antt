-- The line that is written as some tokens, if there is one, and the definition. Definitions only.
-- What is guessed from the tokens counts only if it is written as them, and each line is guessed from its own tokens: `tree-of-tokens` (TreeOfLaws) says that both ways. So how it is guessed need not be
-- believed; `k` bounds the tokens left, and where the tokens are no line anything is guessed.
use Rattle.std.specs.Prelude.{Bool, true, false, ◌&&◌, ℕ, zero, suc, T, eqb, ltb, length, get_or, drop}
use mathlib.Core.List.{List, [], ◌∷◌, ◌++◌, tail}
use Rattle.std.proofs.Math.Option.{Option, none, some}
use Rattle.tokens.specs.Token.{END, MINUS, OPEN, NOT, TRUE, IN, IM, SYNFCT, is_number, is_numbered, is_axis, is_drive, is_call, is_keyword, is_id, is_factor, is_term, is_compare, is_logic, number_carried, whole}
use Rattle.grammar.specs.Tree.{Operand, number, variable, position, truth, bracket, minus, not, Product, product, Factors, no_factor, factor, Sum, sum, Terms, no_term, term, Expression, single, compare, row, Sums, last, next, Action, assign, assign_position, drive, code, call, synfct, Place, cell, axis, Condition, always, under, Line, line, Parameter, Definition, line_tokens, definition_front}

-- by a test, which the first way is told of
abbrev pub given : {X : Type 0} (b : Bool) → (T b → X) → X → X
given true f x = f tt
given false f x = x

-- the first of some tokens
abbrev pub first : List ℕ → ℕ
first ts = get_or ts 0 END

-- the third: an index, or the number of a command
abbrev pub third : List ℕ → ℕ
third ts = get_or ts 2 END

-- ---- expressions; `sub` guesses an operand

module _ (sub : List ℕ → Operand × List ℕ) where
  unfoldable pub factors_guess : ℕ → List ℕ → Factors × List ℕ
  factors_guess zero ts = (no_factor, ts)
  factors_guess (suc k) ts = given (is_factor (first ts)) (λ v. let a = sub (tail ts) in let r = factors_guess k a.1 in (factor (first ts) v a.0 r.0, r.1)) (no_factor, ts)

  unfoldable pub product_guess : ℕ → List ℕ → Product × List ℕ
  product_guess k ts = let a = sub ts in let r = factors_guess k a.1 in (product a.0 r.0, r.1)

  unfoldable pub terms_guess : ℕ → ℕ → List ℕ → Terms × List ℕ
  terms_guess n zero ts = (no_term, ts)
  terms_guess n (suc k) ts = given (is_term (first ts)) (λ v. let a = product_guess n (tail ts) in let r = terms_guess n k a.1 in (term (first ts) v a.0 r.0, r.1)) (no_term, ts)

  unfoldable pub sum_guess : ℕ → List ℕ → Sum × List ℕ
  sum_guess k ts = let a = product_guess k ts in let r = terms_guess k k a.1 in (sum a.0 r.0, r.1)

  -- a row of the operator o, from behind its first
  unfoldable pub sums_guess : ℕ → ℕ → ℕ → List ℕ → Sums × List ℕ
  sums_guess o n zero ts = let a = sum_guess n ts in (last a.0, a.1)
  sums_guess o n (suc k) ts =
      let a = sum_guess n ts in
      given (eqb (first a.1) o) (λ v. let r = sums_guess o n k (tail a.1) in (next a.0 r.0, r.1)) (last a.0, a.1)

  unfoldable pub expression_guess : ℕ → List ℕ → Expression × List ℕ
  expression_guess k ts =
      let a = sum_guess k ts in
      given (is_compare (first a.1)) (λ v. let b = sum_guess k (tail a.1) in (compare (first a.1) v a.0 b.0, b.1))
      (given (is_logic (first a.1)) (λ v. let r = sums_guess (first a.1) k k (tail a.1) in (row (first a.1) v a.0 r.0, r.1)) (single a.0, a.1))

-- an operand that begins with the token t; `again` guesses one behind it
unfoldable pub operand_first : (List ℕ → Operand × List ℕ) → ℕ → List ℕ → ℕ → Operand × List ℕ
operand_first again k ts t =
    elim (is_number t) [
      | true ↦ (number (number_carried t), tail ts)
      | false ↦
          given (is_numbered t) (λ v. (variable t v (whole (third ts)), drop 4 ts))
          (elim (eqb t IM) [
            | true ↦ given (is_axis (third ts)) (λ v. (position (third ts) v, drop 4 ts)) (truth true, ts)
            | false ↦
                elim (eqb t OPEN) [
                  | true ↦ let e = expression_guess again k (tail ts) in (bracket e.0, tail e.1)
                  | false ↦
                      elim (eqb t MINUS) [
                        | true ↦ let a = again (tail ts) in (minus a.0, a.1)
                        | false ↦ elim (eqb t NOT) [ true ↦ let a = again (tail ts) in (not a.0, a.1) | false ↦ (truth (eqb t TRUE), tail ts) ]
                      ]
                ]
          ])
    ]

unfoldable pub operand_guess : ℕ → List ℕ → Operand × List ℕ
operand_guess zero ts = (truth true, ts)
operand_guess (suc k) ts = operand_first (operand_guess k) k ts (first ts)

-- ---- actions

-- the right side behind w[t]=
abbrev pub right_guess : ℕ → List ℕ → Sum × List ℕ
right_guess k ts = sum_guess (operand_guess k) k (drop 5 ts)

-- a place that begins some tokens
unfoldable pub place_guess : List ℕ → Place
place_guess ts = given (is_numbered (first ts)) (λ v. cell (first ts) v (whole (third ts))) (given (is_axis (third ts)) (λ v. axis (third ts) v) (cell IN tt 0))

unfoldable pub action_guess : ℕ → List ℕ → ℕ → Action × List ℕ
action_guess k ts w =
    given (is_numbered w) (λ v. let a = right_guess k ts in (assign w v (whole (third ts)) a.0, a.1))
    (elim (eqb w IM) [
      | true ↦ given (is_axis (third ts)) (λ v. let a = right_guess k ts in (assign_position (third ts) v a.0, a.1)) (code 0, [])
      | false ↦
          given (is_drive w) (λ v. given (is_axis (third ts)) (λ u. let a = right_guess k ts in (drive w v (third ts) u a.0, a.1)) (code 0, []))
          (given (is_call w) (λ v. (call w v (whole (third ts)), drop 4 ts))
          (elim (eqb w SYNFCT) [
            | true ↦ (synfct (whole (third ts)) (place_guess (drop 4 ts)) (place_guess (drop 9 ts)), drop 14 ts)
            | false ↦ (code (whole (third ts)), drop 3 ts)
          ]))
    ])

-- one or more, up to the last token
unfoldable pub actions_guess : ℕ → ℕ → List ℕ → Action × List Action
actions_guess n zero ts = (code 0, [])
actions_guess n (suc k) ts =
    let a = action_guess n ts (first ts) in
    given (ltb END (first a.1)) (λ v. let r = actions_guess n k a.1 in (a.0, r.0 ∷ r.1)) (a.0, [])

-- ---- a line

unfoldable pub condition_guess : ℕ → List ℕ → Condition × List ℕ
condition_guess k ts = given (is_keyword (first ts)) (λ v. let e = expression_guess (operand_guess k) k (tail ts) in (under (first ts) v e.0, e.1)) (always, ts)

unfoldable pub line_guess : (w : ℕ) → T (is_id w) → List ℕ → Line
line_guess w v ts =
    let c = condition_guess (length ts) (drop 3 ts) in
    let a = actions_guess (length ts) (length ts) (tail c.1) in
    line w v (whole (third ts)) c.0 a.0 a.1

-- two rows of tokens are one
unfoldable pub same_tokens : List ℕ → List ℕ → Bool
same_tokens [] [] = true
same_tokens [] (u ∷ m) = false
same_tokens (t ∷ l) [] = false
same_tokens (t ∷ l) (u ∷ m) = eqb t u && same_tokens l m

-- the line l, if it is written as the tokens ts
unfoldable pub if_written : List ℕ → Line → Option Line
if_written ts l = elim (same_tokens (line_tokens l) (ts ++ (END ∷ []))) [ true ↦ some l | false ↦ none ]

-- THE LINE THAT IS WRITTEN AS THE TOKENS ts
unfoldable pub tree_of : List ℕ → Option Line
tree_of ts = given (is_id (first ts)) (λ v. if_written ts (line_guess (first ts) v ts)) none

-- ---- a definition

-- a parameter and the sign behind it
unfoldable pub parameter_guess : List ℕ → Parameter × List ℕ
parameter_guess ts =
    elim (eqb (first ts) MINUS) [
      | true ↦ (record { negative = true; number = number_carried (get_or ts 1 END) }, drop 3 ts)
      | false ↦ (record { negative = false; number = number_carried (first ts) }, drop 2 ts)
    ]

unfoldable pub definition_guess : List ℕ → Definition
definition_guess ts =
    let l = parameter_guess (drop 4 ts) in
    let u = parameter_guess l.1 in
    let a = parameter_guess u.1 in
    let b = parameter_guess a.1 in
    let c = parameter_guess b.1 in
    record { number = whole (third ts); lower = l.0; upper = u.0; a0 = a.0; a1 = b.0; a2 = c.0; a3 = (parameter_guess c.1).0 }

-- THE DEFINITION THAT IS WRITTEN AS THE TOKENS ts
unfoldable pub definition_of : List ℕ → Option Definition
definition_of ts = elim (same_tokens (definition_front (definition_guess ts)) ts) [ true ↦ some (definition_guess ts) | false ↦ none ]
