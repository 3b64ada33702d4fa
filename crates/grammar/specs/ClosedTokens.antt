-- The tokens of a line: none but the last is 0, and LOCK, UNLOCK or SYNFCT is not the last before it; so they lie inside the list. Assumes nothing.
use Rattle.std.specs.Prelude.{◌≡◌, refl, Bool, true, false, List, [], ◌∷◌, ◌++◌, ℕ, suc, ◌+◌, ◌≤◌, ◌<◌, leb, length}
use Rattle.std.proofs.Common.{sym, ◌∙◌, append_assoc, arith, length-append, leb-true, leb-false}
use Rattle.std.proofs.Math.ListN.{get_or-eq_default}
use Rattle.values.specs.Choice.{decide}
use Rattle.tokens.specs.Token.{END, EQUALS, OPEN, CLOSE, COMMA, DO, LOCK, UNLOCK, SYNFCT, whole_token, AllReal, AND, ATLEAST, EVERY, FIFO4, ID, IDS, IN, MINUS, MOV, OVER, PLUS, POS, SAME, SETAL, TIMES, W, WHEN, X, XOR}
use Rattle.tokens.specs.Descent.{token}
use Rattle.grammar.specs.Tree.{Operand, number, variable, position, truth, bracket, minus, not, Product, product, Factors, no_factor, factor, Sum, sum, Terms, no_term, term, Expression, single, compare, row, Sums, last, next, Action, assign, assign_position, drive, code, call, synfct, Place, cell, axis, place_tokens, Condition, always, under, Line, line, operand_tokens, product_tokens, factors_tokens, sum_tokens, terms_tokens, expression_tokens, sums_tokens, action_tokens, actions_tokens, condition_tokens, line_tokens, Parameter, Definition, parameter_tokens, definition_front}
use Rattle.grammar.specs.Meaning.{Stands}
use Rattle.grammar.specs.AgreementLaws.{bounds, stands-split, stands-place}

-- no token of a row is 0, a LOCK, an UNLOCK or a SYNFCT
abbrev pub Plain : List ℕ → Type 0
Plain [] = Unit {0}
Plain (t ∷ l) = (0 < t) × (LOCK ≤ t → SYNFCT < t) × Plain l

plain-join : (l m : List ℕ) → Plain l → Plain m → Plain (l ++ m)
plain-join [] m h g = g
plain-join (t ∷ l) m h g = (h.0, h.1, plain-join l m h.2 g)

-- no token of a row is 0, and behind a LOCK, UNLOCK or SYNFCT the row goes on
abbrev pub Closed : List ℕ → Type 0
Closed [] = Unit {0}
Closed (t ∷ l) = (0 < t) × (LOCK ≤ t → t ≤ SYNFCT → 0 < length l) × Closed l

closed-join : (l m : List ℕ) → Closed l → Closed m → Closed (l ++ m)
closed-join [] m h g = g
closed-join (t ∷ l) m h g = (h.0, λ a b. let k = h.1 a b in let e = length-append l m in omega arith, closed-join l m h.2 g)

plain_closed : (l : List ℕ) → Plain l → Closed l
plain_closed [] h = tt
plain_closed (t ∷ l) h = (h.0, λ a b. let k = h.1 a in absurd (omega arith), plain_closed l h.2)

-- the tokens of expressions
mutual
  unfolding operand_tokens

  plain-operand : (x : Operand) → Plain (operand_tokens x)
  plain-operand (number n) = omega arith
  plain-operand (variable w v i) = let b = bounds IN FIFO4 w v in omega arith
  plain-operand (position x v) = let b = bounds X W x v in omega arith
  plain-operand (truth true) = omega arith
  plain-operand (truth false) = omega arith
  plain-operand (bracket e) = (omega arith, omega arith, plain-join (expression_tokens e) (CLOSE ∷ []) (plain-expression e) (omega arith))
  plain-operand (minus a) = (omega arith, omega arith, plain-operand a)
  plain-operand (not a) = (omega arith, omega arith, plain-operand a)

  plain-product : (x : Product) → Plain (product_tokens x)
  plain-product (product a r) = plain-join (operand_tokens a) (factors_tokens r) (plain-operand a) (plain-factors r)

  plain-factors : (r : Factors) → Plain (factors_tokens r)
  plain-factors no_factor = tt
  plain-factors (factor o v a r) = let b = bounds TIMES OVER o v in (omega arith, omega arith, plain-join (operand_tokens a) (factors_tokens r) (plain-operand a) (plain-factors r))

  pub plain-sum : (x : Sum) → Plain (sum_tokens x)
  plain-sum (sum a r) = plain-join (product_tokens a) (terms_tokens r) (plain-product a) (plain-terms r)

  plain-terms : (r : Terms) → Plain (terms_tokens r)
  plain-terms no_term = tt
  plain-terms (term o v a r) = let b = bounds PLUS MINUS o v in (omega arith, omega arith, plain-join (product_tokens a) (terms_tokens r) (plain-product a) (plain-terms r))

  pub plain-expression : (x : Expression) → Plain (expression_tokens x)
  plain-expression (single a) = plain-sum a
  plain-expression (compare o v a b) = let c = bounds SAME ATLEAST o v in plain-join (sum_tokens a) (o ∷ sum_tokens b) (plain-sum a) (omega arith, omega arith, plain-sum b)
  plain-expression (row o v a r) = let b = bounds AND XOR o v in plain-join (sum_tokens a) (sums_tokens o r) (plain-sum a) (plain-sums r o (omega arith) (omega arith))

  plain-sums : (r : Sums) (o : ℕ) → 0 < o → o < LOCK → Plain (sums_tokens o r)
  plain-sums (last a) o h g = (h, omega arith, plain-sum a)
  plain-sums (next a r) o h g = (h, omega arith, plain-join (sum_tokens a) (sums_tokens o r) (plain-sum a) (plain-sums r o h g))

-- of a place
plain-place : (y : Place) → Plain (place_tokens y)
plain-place (cell w v i) = let b = bounds IN FIFO4 w v in omega arith
plain-place (axis x v) = let b = bounds X W x v in omega arith

-- five tokens that are no LOCK, UNLOCK or SYNFCT, and a right side behind them
closed-right : (t u v w x : ℕ) (a : Sum) → (0 < t) × (t < LOCK) → (0 < u) × (u < LOCK) → (0 < v) × (LOCK ≤ v → SYNFCT < v) → (0 < w) × (w < LOCK) → (0 < x) × (x < LOCK) → Closed (t ∷ u ∷ v ∷ w ∷ x ∷ sum_tokens a)
closed-right t u v w x a h i j k m = (h.0, omega arith, (i.0, omega arith, (j.0, omega arith, (k.0, omega arith, (m.0, omega arith, plain_closed (sum_tokens a) (plain-sum a))))))

-- what stands behind the word SYNFCT
abbrev pub behind_synfct : ℕ → Place → Place → List ℕ
behind_synfct n y z = OPEN ∷ whole_token n ∷ COMMA ∷ place_tokens y ++ (COMMA ∷ place_tokens z ++ (CLOSE ∷ []))

pub plain-synfct : (n : ℕ) (y z : Place) → Plain (behind_synfct n y z)
plain-synfct n y z =
    let q : Plain (COMMA ∷ place_tokens z ++ (CLOSE ∷ [])) = (omega arith, omega arith, plain-join (place_tokens z) (CLOSE ∷ []) (plain-place z) (omega arith)) in
    (omega arith, omega arith, (omega arith, omega arith, (omega arith, omega arith, plain-join (place_tokens y) (COMMA ∷ place_tokens z ++ (CLOSE ∷ [])) (plain-place y) q)))

pub closed-action : (a : Action) → Closed (action_tokens a)
unfolding action_tokens
closed-action (assign w v i a) = let b = bounds IN FIFO4 w v in closed-right _ _ _ _ _ a (omega arith) (omega arith) (omega arith) (omega arith) (omega arith)
closed-action (assign_position x v a) = let b = bounds X W x v in closed-right _ _ _ _ _ a (omega arith) (omega arith) (omega arith) (omega arith) (omega arith)
closed-action (drive w v x u a) =
    let b = bounds POS MOV w v in let c = bounds X W x u in closed-right _ _ _ _ _ a (omega arith) (omega arith) (omega arith) (omega arith) (omega arith)
closed-action (code n) = omega arith
closed-action (call w v n) = let b = bounds SETAL UNLOCK w v in omega arith
closed-action (synfct n y z) = (omega arith, omega arith, plain_closed (behind_synfct n y z) (plain-synfct n y z))

closed-actions : (r : List Action) (a : Action) → Closed (actions_tokens a r)
unfolding actions_tokens
closed-actions [] a = closed-action a
closed-actions (b ∷ r) a = closed-join (action_tokens a) (actions_tokens b r) (closed-action a) (closed-actions r b)

pub closed-condition : (c : Condition) → Closed (condition_tokens c)
unfolding condition_tokens
closed-condition always = tt
closed-condition (under w v e) = let b = bounds WHEN EVERY w v in (omega arith, omega arith, plain_closed (expression_tokens e) (plain-expression e))

-- the tokens of a line but its end
abbrev pub front : Line → List ℕ
front (line w v n c a r) = w ∷ EQUALS ∷ whole_token n ∷ condition_tokens c ++ (DO ∷ actions_tokens a r)

pub front-end : (l : Line) → line_tokens l ≡ front l ++ (END ∷ [])
unfolding line_tokens
front-end (line w v n c a r) = rw (append_assoc (condition_tokens c) (DO ∷ actions_tokens a r) (END ∷ []))

pub front-closed : (l : Line) → Closed (front l)
front-closed (line w v n c a r) =
    let b = bounds ID IDS w v in
    (omega arith, omega arith, (omega arith, omega arith, (omega arith, omega arith, closed-join (condition_tokens c) (DO ∷ actions_tokens a r) (closed-condition c) (omega arith, omega arith, closed-actions r a))))

-- a parameter and the sign behind it
plain-parameter : (m : Bool) (n t : ℕ) → 0 < t → t < LOCK → Plain (parameter_tokens (record { negative = m; number = n }) t)
unfolding parameter_tokens
plain-parameter true n t h g = omega arith
plain-parameter false n t h g = omega arith

plain-part : (x : Parameter) (t : ℕ) (l : List ℕ) → 0 < t → t < LOCK → Plain l → Plain (parameter_tokens x t ++ l)
plain-part x t l h g k = plain-join (parameter_tokens x t) l (plain-parameter x.negative x.number t h g) k

pub definition-closed : (d : Definition) → Closed (definition_front d)
unfolding definition_front
definition-closed d =
    let z = plain-parameter d.a3.negative d.a3.number CLOSE (omega arith) (omega arith) in
    let y = plain-part d.a1 COMMA _ (omega arith) (omega arith) (plain-part d.a2 COMMA _ (omega arith) (omega arith) z) in
    let x = plain-part d.upper COMMA _ (omega arith) (omega arith) (plain-part d.a0 COMMA _ (omega arith) (omega arith) y) in
    plain_closed (definition_front d) (omega arith, omega arith, (omega arith, omega arith, (omega arith, omega arith, (omega arith, omega arith, plain-part d.lower COMMA _ (omega arith) (omega arith) x))))

-- a closed row and a row of real tokens that stand at one place, each up to a 0, are one
pub same_row : (s l m : List ℕ) (p q r : ℕ) → Closed l → AllReal m → Stands s p (l ++ (END ∷ [])) q → Stands s p (m ++ (END ∷ [])) r → l ≡ m
same_row s [] [] p q r f g h k = refl
same_row s [] (t ∷ m) p q r f g h k = absurd (g 0 (omega arith) (sym k.0 ∙ h.0))
same_row s (t ∷ l) [] p q r f g h k = let x = h.0 in let y = k.0 in let z = f.0 in absurd (omega arith)
same_row s (t ∷ l) (u ∷ m) p q r f g h k =
    let x : t ≡ u = sym h.0 ∙ k.0 in
    let y = same_row s l m (p + 1) q r f.2 (λ i n. g (suc i) (omega arith)) h.1 k.1 in
    rw (x, y)

module _ (s : List ℕ) where
  -- the tokens of a line lie inside the list, but for its end
  inside : (p t : ℕ) → token s p ≡ t → 0 < t → p < length s
  inside p t h g =
      decide _ (leb (length s) p)
      (λ e. let l = leb-true (length s) p e in let z = get_or-eq_default s 0 l in absurd (omega arith))
      (λ e. leb-false (length s) p e)

  closed-inside : (l : List ℕ) (p q : ℕ) → Closed l → p ≤ length s → Stands s p l q → q ≤ length s
  closed-inside [] p q f g h = omega arith
  closed-inside (t ∷ l) p q f g h = let i = inside p t h.0 f.0 in closed-inside l (p + 1) q f.2 (omega arith) h.1

  -- a line has at most one token more than the list
  pub line-fits : (l : Line) (p q : ℕ) → Stands s p (line_tokens l) q → length (line_tokens l) ≤ suc (length s)
  line-fits (line w v n c a r) p q h =
      let l = line w v n c a r in
      let b = bounds ID IDS w v in
      let (e, f, g) = stands-split s (front l) (END ∷ []) p q (rw (front-end l) at h) in
      let i = inside p w f.0 (omega arith) in
      let j = closed-inside (front l) p e (front-closed l) (omega arith) f in
      let k = stands-place s (front l) p e f in
      rw (front-end l) (rw (length-append (front l) (END ∷ [])) (omega arith))
