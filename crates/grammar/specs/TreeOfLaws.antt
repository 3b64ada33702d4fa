-- THE LINE OF SOME TOKENS: what is found is written as them, and each line is found from its tokens; so no two lines are written as the same. Nothing is assumed.
use Rattle.std.specs.Prelude.{◌≡◌, Bool, true, false, ◌↔◌, T, eqb, ltb, length}
use Rattle.std.proofs.Math.Path.{refl}
use Rattle.std.proofs.Common.{sym, ap, ◌∙◌, not-suc-le-zero, le_refl, arith, length-append, le-leb, lt-ltb, eq-eqb, ne_eqb, eqb-true}
use mathlib.Core.List.{List, [], ◌∷◌, ◌++◌, tail, append_assoc, append-nil}
use Rattle.std.proofs.Math.Option.{Option, none, some, some-injective}
use Prim.Native.Nat.{ℕ, zero, suc, pred, ◌+◌, ◌-◌, ◌≤◌}
use Rattle.values.specs.Choice.{holds, told-so, contrary, both, decide, choice, chosen, refused, and-true}
use Rattle.values.specs.Numbers.{clash}
use Rattle.tokens.specs.Token.{END, MINUS, CLOSE, COMMA, DO, IM, NUMBER, is_numbered, is_axis, is_drive, is_call, is_keyword, is_id, is_factor, is_term, is_compare, is_logic, number_carried, FIFO4, IN, MOV, POS, SETAL, UNLOCK}
use Rattle.grammar.specs.Tree.{Operand, number, variable, position, truth, bracket, minus, not, Product, product, Factors, no_factor, factor, Sum, sum, Terms, no_term, term, Expression, single, compare, row, Sums, last, next, Action, assign, assign_position, drive, code, call, synfct, Place, cell, axis, place_tokens, Condition, always, under, Line, line, operand_tokens, product_tokens, factors_tokens, sum_tokens, terms_tokens, expression_tokens, sums_tokens, action_tokens, actions_tokens, condition_tokens, line_tokens, WrittenAs, Parameter, Definition, parameter_tokens, definition_front, DefinedAs}
use Rattle.grammar.specs.Meaning.{EndsSum, EndsExpression}
use Rattle.grammar.specs.TreeOf.{given, first, factors_guess, product_guess, terms_guess, sum_guess, sums_guess, expression_guess, operand_first, operand_guess, place_guess, action_guess, actions_guess, condition_guess, line_guess, same_tokens, if_written, tree_of, parameter_guess, definition_guess, definition_of}
use Rattle.grammar.specs.AgreementLaws.{bounds, beyond, parts-fit, numbered, whole-token}
use Rattle.grammar.specs.Agreement.{term-ends, compare-ends, logic-ends, logic-compares, close-ends}
use Rattle.grammar.specs.AgreementFault.{action-long, word-ends, do-ends}
use Rattle.grammar.specs.ClosedTokens.{front, front-end}

-- ---- choices

given_so : {X : Type 0} (b : Bool) (v : T b) (f : T b → X) (x : X) → given b f x ≡ f v
given_so true v f x = refl
given_so false v f x = absurd v

given-not : {X : Type 0} (b : Bool) (f : T b → X) (x : X) → b ≡ false → given b f x ≡ x
given-not true f x e = clash (cc)
given-not false f x e = refl

-- ---- expressions

terms-start : (r : Terms) (m : List ℕ) → is_factor (first m) ≡ false → is_factor (first (terms_tokens r ++ m)) ≡ false
unfolding terms_tokens
terms-start no_term m e = e
terms-start (term o v a r) m e = term-ends o v

-- ---- steps: what is guessed where its parts are

module _ (sub : List ℕ → Operand × List ℕ) where
  product-step : (k : ℕ) (ts m q : List ℕ) (a : Operand) (r : Factors) → sub ts ≡ (a, m) → factors_guess sub k m ≡ (r, q) → product_guess sub k ts ≡ (product a r, q)
  unfolding product_guess
  product-step k ts m q a r e f = rw (e, f)

  factor-step : (k o : ℕ) (v : T (is_factor o)) (ts m q : List ℕ) (a : Operand) (r : Factors) → 1 ≤ k → sub ts ≡ (a, m) → factors_guess sub (pred k) m ≡ (r, q) → factors_guess sub k (o ∷ ts) ≡ (factor o v a r, q)
  unfolding factors_guess
  factor-step zero o v ts m q a r l e f = absurd (not-suc-le-zero l)
  factor-step (suc k) o v ts m q a r l e f = given_so (is_factor o) v _ _ ∙ rw (e, f)

  factors-stop : (k : ℕ) (ts : List ℕ) → is_factor (first ts) ≡ false → factors_guess sub k ts ≡ (no_factor, ts)
  unfolding factors_guess
  factors-stop zero ts e = refl
  factors-stop (suc k) ts e = given-not _ _ _ e

  sum_step : (k : ℕ) (ts m q : List ℕ) (a : Product) (r : Terms) → product_guess sub k ts ≡ (a, m) → terms_guess sub k k m ≡ (r, q) → sum_guess sub k ts ≡ (sum a r, q)
  unfolding sum_guess
  sum_step k ts m q a r e f = rw (e, f)

  term-step : (n k o : ℕ) (v : T (is_term o)) (ts m q : List ℕ) (a : Product) (r : Terms) → 1 ≤ k → product_guess sub n ts ≡ (a, m) → terms_guess sub n (pred k) m ≡ (r, q) → terms_guess sub n k (o ∷ ts) ≡ (term o v a r, q)
  unfolding terms_guess
  term-step n zero o v ts m q a r l e f = absurd (not-suc-le-zero l)
  term-step n (suc k) o v ts m q a r l e f = given_so (is_term o) v _ _ ∙ rw (e, f)

  terms-stop : (n k : ℕ) (ts : List ℕ) → is_term (first ts) ≡ false → terms_guess sub n k ts ≡ (no_term, ts)
  unfolding terms_guess
  terms-stop n zero ts e = refl
  terms-stop n (suc k) ts e = given-not _ _ _ e

  row_last : (o n k : ℕ) (ts m : List ℕ) (a : Sum) → sum_guess sub n ts ≡ (a, m) → eqb (first m) o ≡ false → sums_guess sub o n k ts ≡ (last a, m)
  unfolding sums_guess
  row_last o n zero ts m a e f = rw e
  row_last o n (suc k) ts m a e f = rw e (given-not _ _ _ f)

  row_next : (o n k : ℕ) (ts m q : List ℕ) (a : Sum) (r : Sums) → 1 ≤ k → sum_guess sub n ts ≡ (a, o ∷ m) → sums_guess sub o n (pred k) m ≡ (r, q) → sums_guess sub o n k ts ≡ (next a r, q)
  unfolding sums_guess
  row_next o n zero ts m q a r l e f = absurd (not-suc-le-zero l)
  row_next o n (suc k) ts m q a r l e f = rw e (given_so (eqb o o) (told-so _ (eq-eqb o o refl)) _ _ ∙ rw f)

  single_step : (k : ℕ) (ts m : List ℕ) (a : Sum) → sum_guess sub k ts ≡ (a, m) → EndsExpression (first m) → expression_guess sub k ts ≡ (single a, m)
  unfolding expression_guess
  single_step k ts m a e f = rw e (given-not _ _ _ f.compare ∙ given-not _ _ _ f.logic)

  compare-step : (k o : ℕ) (v : T (is_compare o)) (ts m q : List ℕ) (a b : Sum) → sum_guess sub k ts ≡ (a, o ∷ m) → sum_guess sub k m ≡ (b, q) → expression_guess sub k ts ≡ (compare o v a b, q)
  unfolding expression_guess
  compare-step k o v ts m q a b e f = rw e (given_so (is_compare o) v _ _ ∙ rw f)

  row_step : (k o : ℕ) (v : T (is_logic o)) (ts m q : List ℕ) (a : Sum) (r : Sums) → sum_guess sub k ts ≡ (a, o ∷ m) → sums_guess sub o k k m ≡ (r, q) → expression_guess sub k ts ≡ (row o v a r, q)
  unfolding expression_guess
  row_step k o v ts m q a r e f = rw e (given-not _ _ _ (logic-compares o v) ∙ given_so (is_logic o) v _ _ ∙ rw f)

-- by the first token
starts : (k : ℕ) (ts : List ℕ) → 1 ≤ k → operand_guess k ts ≡ operand_first (operand_guess (pred k)) (pred k) ts (first ts)
unfolding operand_guess
starts zero ts l = absurd (not-suc-le-zero l)
starts (suc k) ts l = refl

-- what ends an expression is not its operator
other_row : (o t : ℕ) → T (is_logic o) → is_logic t ≡ false → eqb t o ≡ false
other_row o t v e = decide _ (eqb t o) (λ h. let z = eqb-true t o h in contrary (holds (is_logic o) v) (rw z at e)) (λ h. h)

-- a row from behind its first operator
unfoldable behind : Sums → ℕ → List ℕ
behind (last a) o = sum_tokens a
behind (next a r) o = sum_tokens a ++ sums_tokens o r

row-behind : (o : ℕ) (r : Sums) → sums_tokens o r ≡ o ∷ behind r o
unfolding sums_tokens behind
row-behind o (last a) = refl
row-behind o (next a r) = refl

-- ---- each tree is guessed from its tokens

mutual
  unfolding operand_tokens operand_first behind

  operand-guess : (x : Operand) (k : ℕ) (m : List ℕ) → length (operand_tokens x) ≤ k → operand_guess k (operand_tokens x ++ m) ≡ (x, m)
  operand-guess (number n) k m l =
      let e : number_carried (NUMBER + n) ≡ n = omega arith in
      starts k _ l ∙ chosen _ _ _ (le-leb NUMBER (NUMBER + n) (omega arith)) ∙ rw e
  operand-guess (variable w v i) k m l =
      let f = numbered w v in
      starts k _ (omega arith) ∙ refused _ _ _ f.0 ∙ given_so (is_numbered w) v _ _ ∙ rw (whole-token i).1
  operand-guess (position x v) k m l = starts k _ (omega arith) ∙ given_so (is_axis x) v _ _
  operand-guess (truth true) k m l = starts k _ l
  operand-guess (truth false) k m l = starts k _ l
  operand-guess (bracket e) k m l =
      let L = parts-fit (expression_tokens e) (CLOSE ∷ []) (pred k) (omega arith) in
      let g = expression-guess e (pred k) (CLOSE ∷ m) L.0 close-ends in
      starts k _ (omega arith) ∙ rw (append_assoc (expression_tokens e) (CLOSE ∷ []) m, g)
  operand-guess (minus a) k m l = starts k _ (omega arith) ∙ rw (operand-guess a (pred k) m (omega arith))
  operand-guess (not a) k m l = starts k _ (omega arith) ∙ rw (operand-guess a (pred k) m (omega arith))

  product-guess : (x : Product) (k : ℕ) (m : List ℕ) → length (product_tokens x) ≤ k → is_factor (first m) ≡ false → product_guess (operand_guess k) k (product_tokens x ++ m) ≡ (x, m)
  product-guess (product a r) k m l e =
      let L = parts-fit (operand_tokens a) (factors_tokens r) k l in
      rw (append_assoc (operand_tokens a) (factors_tokens r) m) (product-step _ k _ _ m a r (operand-guess a k (factors_tokens r ++ m) L.0) (factors-guess r k k m L.1 (le_refl k) e))

  factors-guess : (r : Factors) (n k : ℕ) (m : List ℕ) → length (factors_tokens r) ≤ k → k ≤ n → is_factor (first m) ≡ false → factors_guess (operand_guess n) k (factors_tokens r ++ m) ≡ (r, m)
  factors-guess no_factor n k m l b e = factors-stop _ k m e
  factors-guess (factor o v a r) n k m l b e =
      let L = parts-fit (operand_tokens a) (factors_tokens r) (pred k) (omega arith) in
      rw (append_assoc (operand_tokens a) (factors_tokens r) m) (factor-step _ k o v _ _ m a r (omega arith) (operand-guess a n (factors_tokens r ++ m) (omega arith)) (factors-guess r n (pred k) m L.1 (omega arith) e))

  sum-guess : (x : Sum) (k : ℕ) (m : List ℕ) → length (sum_tokens x) ≤ k → EndsSum (first m) → sum_guess (operand_guess k) k (sum_tokens x ++ m) ≡ (x, m)
  sum-guess (sum a r) k m l e =
      let L = parts-fit (product_tokens a) (terms_tokens r) k l in
      rw (append_assoc (product_tokens a) (terms_tokens r) m) (sum_step _ k _ _ m a r (product-guess a k (terms_tokens r ++ m) L.0 (terms-start r m e.factor)) (terms-guess r k k m L.1 (le_refl k) e))

  terms-guess : (r : Terms) (n k : ℕ) (m : List ℕ) → length (terms_tokens r) ≤ k → k ≤ n → EndsSum (first m) → terms_guess (operand_guess n) n k (terms_tokens r ++ m) ≡ (r, m)
  terms-guess no_term n k m l b e = terms-stop _ n k m e.term
  terms-guess (term o v a r) n k m l b e =
      let L = parts-fit (product_tokens a) (terms_tokens r) (pred k) (omega arith) in
      rw (append_assoc (product_tokens a) (terms_tokens r) m)
      (term-step _ n k o v _ _ m a r (omega arith) (product-guess a n (terms_tokens r ++ m) (omega arith) (terms-start r m e.factor)) (terms-guess r n (pred k) m L.1 (omega arith) e))

  expression-guess : (x : Expression) (k : ℕ) (m : List ℕ) → length (expression_tokens x) ≤ k → EndsExpression (first m) → expression_guess (operand_guess k) k (expression_tokens x ++ m) ≡ (x, m)
  expression-guess (single a) k m l e = single_step _ k _ m a (sum-guess a k m l e.sum) e
  expression-guess (compare o v a b) k m l e =
      let L = parts-fit (sum_tokens a) (o ∷ sum_tokens b) k l in
      rw (append_assoc (sum_tokens a) (o ∷ sum_tokens b) m) (compare-step _ k o v _ _ m a b (sum-guess a k (o ∷ sum_tokens b ++ m) L.0 (compare-ends o v)) (sum-guess b k m (omega arith) e.sum))
  expression-guess (row o v a r) k m l e =
      let z = row-behind o r in
      let L = parts-fit (sum_tokens a) (sums_tokens o r) k l in
      rw (append_assoc (sum_tokens a) (sums_tokens o r) m, z)
      (row_step _ k o v _ _ m a r (sum-guess a k (o ∷ behind r o ++ m) L.0 (logic-ends o v)) (sums-guess r o k k m v (rw z at L.1) (le_refl k) e))

  sums-guess : (r : Sums) (o n k : ℕ) (m : List ℕ) → T (is_logic o) → suc (length (behind r o)) ≤ k → k ≤ n → EndsExpression (first m) → sums_guess (operand_guess n) o n k (behind r o ++ m) ≡ (r, m)
  sums-guess (last a) o n k m v l b e = row_last _ o n k _ m a (sum-guess a n m (omega arith) e.sum) (other_row o (first m) v e.logic)
  sums-guess (next a r) o n k m v l b e =
      let z = row-behind o r in
      let L = parts-fit (sum_tokens a) (sums_tokens o r) (pred k) (omega arith) in
      rw (append_assoc (sum_tokens a) (sums_tokens o r) m, z)
      (row_next _ o n k _ _ m a r (omega arith) (sum-guess a n (o ∷ behind r o ++ m) (omega arith) (logic-ends o v)) (sums-guess r o n (pred k) m v (rw z at L.1) (omega arith) e))

-- ---- actions

place-guess : (y : Place) (m : List ℕ) → place_guess (place_tokens y ++ m) ≡ y
unfolding place_guess
place-guess (cell w v i) m = given_so (is_numbered w) v _ _ ∙ rw (whole-token i).1
place-guess (axis x v) m = given_so (is_axis x) v _ _

action-guess : (a : Action) (k : ℕ) (m : List ℕ) → length (action_tokens a) ≤ k → EndsSum (first m) → action_guess k (action_tokens a ++ m) (first (action_tokens a ++ m)) ≡ (a, m)
unfolding action_tokens action_guess
action-guess (assign w v i a) k m l e = given_so (is_numbered w) v _ _ ∙ rw (sum-guess a k m (omega arith) e, (whole-token i).1)
action-guess (assign_position x v a) k m l e = given_so (is_axis x) v _ _ ∙ rw (sum-guess a k m (omega arith) e)
action-guess (drive w v x u a) k m l e =
    let b = bounds POS MOV w v in
    given-not (is_numbered w) _ _ (beyond IN FIFO4 w (omega arith)) ∙ refused _ _ _ (ne_eqb w IM (λ z. omega arith)) ∙ given_so (is_drive w) v _ _ ∙ given_so (is_axis x) u _ _ ∙ rw (sum-guess a k m (omega arith) e)
action-guess (code n) k m l e = rw (whole-token n).1
action-guess (call w v n) k m l e =
    let b = bounds SETAL UNLOCK w v in
    given-not (is_numbered w) _ _ (beyond IN FIFO4 w (omega arith)) ∙ refused _ _ _ (ne_eqb w IM (λ z. omega arith)) ∙ given-not (is_drive w) _ _ (beyond POS MOV w (omega arith)) ∙ given_so (is_call w) v _ _ ∙ rw (whole-token n).1
action-guess (synfct n y z) k m l e = rw ((whole-token n).1, place-guess y (COMMA ∷ place_tokens z ++ (CLOSE ∷ m)), place-guess z (CLOSE ∷ m))

-- an action begins with a word
action-first : (a : Action) (m : List ℕ) → IN ≤ first (action_tokens a ++ m)
unfolding action_tokens
action-first (assign w v i a) m = let b = bounds IN FIFO4 w v in omega arith
action-first (assign_position x v a) m = omega arith
action-first (drive w v x u a) m = let b = bounds POS MOV w v in omega arith
action-first (code n) m = omega arith
action-first (call w v n) m = let b = bounds SETAL UNLOCK w v in omega arith
action-first (synfct n y z) m = omega arith

actions-first : (r : List Action) (a : Action) → IN ≤ first (actions_tokens a r)
unfolding actions_tokens
actions-first [] a = rw (← (append-nil (action_tokens a))) (action-first a [])
actions-first (b ∷ r) a = action-first a (actions_tokens b r)

actions-last : (n k : ℕ) (ts : List ℕ) (a : Action) → 1 ≤ k → action_guess n ts (first ts) ≡ (a, []) → actions_guess n k ts ≡ (a, [])
unfolding actions_guess
actions-last n zero ts a l e = absurd (not-suc-le-zero l)
actions-last n (suc k) ts a l e = rw e

actions-next : (n k : ℕ) (ts m : List ℕ) (a b : Action) (r : List Action) → 1 ≤ k → action_guess n ts (first ts) ≡ (a, m) → IN ≤ first m → actions_guess n (pred k) m ≡ (b, r) → actions_guess n k ts ≡ (a, b ∷ r)
unfolding actions_guess
actions-next n zero ts m a b r l e w f = absurd (not-suc-le-zero l)
actions-next n (suc k) ts m a b r l e w f = rw e (given_so (ltb END (first m)) (told-so _ (lt-ltb END (first m) (omega arith))) _ _ ∙ rw f)

actions-guess : (r : List Action) (a : Action) (n k : ℕ) → length (actions_tokens a r) ≤ n → length (actions_tokens a r) ≤ k → actions_guess n k (actions_tokens a r) ≡ (a, r)
unfolding actions_tokens
actions-guess [] a n k l h =
    let g = action-guess a n [] l (record { factor = refl; term = refl }) in
    let A = action-long a in
    actions-last n k (action_tokens a) a (omega arith) (rw (append-nil (action_tokens a)) at g)
actions-guess (b ∷ r) a n k l h =
    let L = parts-fit (action_tokens a) (actions_tokens b r) n l in
    let A = action-long a in
    let H = length-append (action_tokens a) (actions_tokens b r) in
    let w = actions-first r b in
    actions-next n k _ _ a b r (omega arith) (action-guess a n (actions_tokens b r) L.0 (word-ends (first (actions_tokens b r)) w)) w (actions-guess r b n (pred k) L.1 (omega arith))

-- ---- a line

condition-guess : (c : Condition) (k : ℕ) (m : List ℕ) → length (condition_tokens c) ≤ k → condition_guess k (condition_tokens c ++ (DO ∷ m)) ≡ (c, DO ∷ m)
unfolding condition_tokens condition_guess
condition-guess always k m l = refl
condition-guess (under w v e) k m l = given_so (is_keyword w) v _ _ ∙ rw (expression-guess e k (DO ∷ m) (omega arith) do-ends)

line-guess : (w : ℕ) (v : T (is_id w)) (n : ℕ) (c : Condition) (a : Action) (r : List Action) → line_guess w v (front (line w v n c a r)) ≡ line w v n c a r
unfolding line_guess
line-guess w v n c a r =
    let k = length (front (line w v n c a r)) in
    let L = length-append (condition_tokens c) (DO ∷ actions_tokens a r) in
    rw (condition-guess c k (actions_tokens a r) (omega arith), actions-guess r a k k (omega arith) (omega arith), (whole-token n).1)

-- two rows are the same
same_self : (l : List ℕ) → same_tokens l l ≡ true
unfolding same_tokens
same_self [] = refl
same_self (t ∷ l) = and-true (eq-eqb t t refl) (same_self l)

same-so : (l m : List ℕ) → same_tokens l m ≡ true → l ≡ m
unfolding same_tokens
same-so [] [] h = refl
same-so [] (u ∷ m) h = clash (cc)
same-so (t ∷ l) [] h = clash (cc)
same-so (t ∷ l) (u ∷ m) h = let (a, b) = both (eqb t u) (same_tokens l m) h in rw (eqb-true t u a, same-so l m b)

-- tokens before the end of a line
before-end : (l m : List ℕ) → l ++ (END ∷ []) ≡ m ++ (END ∷ []) → l ≡ m
before-end [] [] h = refl
before-end [] (u ∷ m) h = let n = ap length h in let k = length-append m (END ∷ []) in absurd (omega arith)
before-end (t ∷ l) [] h = let n = ap length h in let k = length-append l (END ∷ []) in absurd (omega arith)
before-end (t ∷ l) (u ∷ m) h = let e : t ≡ u = ap first h in let f = before-end l m (ap tail h) in rw (e, f)

line-itself : (l : Line) → if_written (front l) l ≡ some l
unfolding if_written
line-itself l = chosen _ _ _ (ap (λ (m : List ℕ). same_tokens m (front l ++ (END ∷ []))) (front-end l) ∙ same_self (front l ++ (END ∷ [])))

tree-of-line : (l : Line) → tree_of (front l) ≡ some l
unfolding tree_of
tree-of-line (line w v n c a r) = given_so (is_id w) v _ _ ∙ ap (if_written (front (line w v n c a r))) (line-guess w v n c a r) ∙ line-itself (line w v n c a r)

-- the tokens that a line is written as
pub written-front : (l : Line) (ts : List ℕ) → WrittenAs l ts → front l ≡ ts
written-front l ts h = before-end (front l) ts (sym (front-end l) ∙ h)

written-found : (l : Line) (ts : List ℕ) → WrittenAs l ts → tree_of ts ≡ some l
written-found l ts h = rw (← (written-front l ts h)) (tree-of-line l)

itself-written : (l m : Line) (ts : List ℕ) → if_written ts m ≡ some l → WrittenAs l ts
unfolding if_written
itself-written l m ts h =
    choice _ (same_tokens (line_tokens m) (ts ++ (END ∷ []))) (some m) none (some l) h
    (λ t e. rw (some-injective m l e) at (same-so (line_tokens m) (ts ++ (END ∷ [])) t))
    (λ _ e. clash (cc))

found-written : (l : Line) (ts : List ℕ) → tree_of ts ≡ some l → WrittenAs l ts
unfolding tree_of
found-written l ts h = go (is_id (first ts)) _ h (λ v e. itself-written l _ ts e)
  where
    go : (b : Bool) (f : T b → Option Line) → given b f none ≡ some l → ((v : T b) → f v ≡ some l → WrittenAs l ts) → WrittenAs l ts
    go true f e g = g tt e
    go false f e g = clash (cc)

-- THE LINE OF SOME TOKENS, both ways
pub tree-of-tokens : (ts : List ℕ) (l : Line) → (tree_of ts ≡ some l) ↔ WrittenAs l ts
tree-of-tokens ts l = (found-written l ts, written-found l ts)

-- no line is found exactly if none is written so
pub no-tree : (ts : List ℕ) → (tree_of ts ≡ none) ↔ ((l : Line) → WrittenAs l ts → ⊥)
no-tree ts = (
  (λ e l h. clash (let z = sym e ∙ written-found l ts h in cc)),
  (λ h. go (tree_of ts) refl h),
)
  where
    go : (o : Option Line) → tree_of ts ≡ o → ((l : Line) → WrittenAs l ts → ⊥) → tree_of ts ≡ none
    go none e h = e
    go (some l) e h = absurd (h l (found-written l ts e))

-- A LINE HAS ONE TREE: no two lines are written as the same tokens
pub one-tree : (l m : Line) → line_tokens l ≡ line_tokens m → l ≡ m
one-tree l m h = some-injective l m (sym (tree-of-line l) ∙ written-found m (front l) (sym h ∙ front-end l))

-- ---- a definition

parameter-guess : (m : Bool) (n t : ℕ) (l : List ℕ) → parameter_guess (parameter_tokens (record { negative = m; number = n }) t ++ l) ≡ (record { negative = m; number = n }, l)
unfolding parameter_tokens parameter_guess
parameter-guess true n t l = let e : NUMBER + n - NUMBER ≡ n = omega arith in rw e
parameter-guess false n t l = let e : NUMBER + n - NUMBER ≡ n = omega arith in refused _ _ _ (ne_eqb (NUMBER + n) MINUS (λ z. omega arith)) ∙ rw e

part-guess : (x : Parameter) (t : ℕ) (l : List ℕ) → parameter_guess (parameter_tokens x t ++ l) ≡ (x, l)
part-guess x t l = parameter-guess x.negative x.number t l

definition-guess : (d : Definition) → definition_guess (definition_front d) ≡ d
unfolding definition_guess definition_front
definition-guess d =
    let z = rw (append-nil (parameter_tokens d.a3 CLOSE)) at (part-guess d.a3 CLOSE []) in
    rw ((whole-token d.number).1, part-guess d.lower COMMA _, part-guess d.upper COMMA _, part-guess d.a0 COMMA _, part-guess d.a1 COMMA _, part-guess d.a2 COMMA _, z)

-- THE DEFINITION OF SOME TOKENS, both ways
pub definition-of-tokens : (ts : List ℕ) (d : Definition) → (definition_of ts ≡ some d) ↔ DefinedAs d ts
unfolding definition_of
definition-of-tokens ts d = (
  (λ h. choice _ (same_tokens (definition_front (definition_guess ts)) ts) _ _ (some d) h
      (λ t e. rw (some-injective (definition_guess ts) d e) at (same-so (definition_front (definition_guess ts)) ts t))
      (λ _ e. clash (cc))),
  (λ w. rw (← w) (rw (definition_of, definition-guess d) (chosen _ _ _ (same_self (definition_front d)) ∙ ap some (definition-guess d)))),
)

-- no definition is found exactly if none is written so
pub no-definition : (ts : List ℕ) → (definition_of ts ≡ none) ↔ ((d : Definition) → DefinedAs d ts → ⊥)
no-definition ts = (
  (λ e d h. clash (let z = sym e ∙ (definition-of-tokens ts d).1 h in cc)),
  (λ h. go (definition_of ts) refl h),
)
  where
    go : (o : Option Definition) → definition_of ts ≡ o → ((d : Definition) → DefinedAs d ts → ⊥) → definition_of ts ≡ none
    go none e h = e
    go (some d) e h = absurd (h d ((definition-of-tokens ts d).0 e))

-- no two definitions are written as the same tokens
pub one-definition : (d e : Definition) → definition_front d ≡ definition_front e → d ≡ e
one-definition d e h = sym (definition-guess d) ∙ ap definition_guess h ∙ definition-guess e
