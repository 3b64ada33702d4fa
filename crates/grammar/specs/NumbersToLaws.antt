-- Laws of lines with other numbers, for a change that keeps whole numbers and values: the tokens are those of the line, each changed; neither a value, nor a fault of 4, of
-- 6 to 10 or of 14, sees the change. Nothing is assumed.
use Rattle.std.specs.Prelude.{◌≡◌, Bool, ℕ, ◌+◌, ◌-◌, ◌*◌, ◌/◌, ◌≤◌, ◌<◌, eqb, leb, ℤ}
use Rattle.std.proofs.Math.Path.{refl}
use Rattle.std.proofs.Common.{sym, ◌∙◌, leb-true, leb-false, le-leb, ne_eqb}
use Rattle.std.proofs.Math.Bool.{true, false}
use mathlib.Core.List.{List, [], ◌∷◌, ◌++◌, map, map-append}
use native.Mathlib.Omega.{arith}
use Rattle.std.proofs.Math.ListN.{length-map}
use Rattle.std.proofs.lemmas.Bool.{lt-leb}
use Rattle.values.specs.Choice.{decide, chosen, refused}
use Rattle.tokens.specs.Token.{END, EQUALS, MINUS, OPEN, CLOSE, COMMA, LEFT, RIGHT, IM, NUMBER, IN, FIFO4, X, W, TIMES, OVER, PLUS, SAME, ATLEAST, AND, XOR, POS, MOV, SETAL, UNLOCK, WHEN, EVERY, ID, IDS, is_number, number_carried, whole_token}
use Rattle.tokens.specs.Descent.{Answer, good, stop, ◌>>=◌, Meaning}
use Rattle.tokens.specs.SingleFault.{brackets_open, opens_too_many, number_fault}
use Rattle.checking.specs.Fault.{sight}
use Rattle.working.specs.Working.{value_over}
use Rattle.grammar.specs.Tree.{Operand, number, variable, position, truth, bracket, minus, not, Product, product, Factors, no_factor, factor, Sum, sum, Terms, no_term, term, Expression, single, compare, row, Sums, last, next, Action, assign, assign_position, drive, code, call, synfct, Place, cell, axis, place_tokens, Condition, always, under, Line, line, tree_number, operand_tokens, product_tokens, factors_tokens, sum_tokens, terms_tokens, expression_tokens, sums_tokens, action_tokens, actions_tokens, condition_tokens, line_tokens, Parameter, Definition, parameter_tokens, definition_front}
use Rattle.grammar.specs.Meaning.{operand_meaning, product_meaning, factors_meaning, sum_meaning, terms_meaning, expression_meaning, sums_meaning}
use Rattle.grammar.specs.TreeFault.{right_fault, is_fifo_zero, is_alone, is_removal_tree, assigned_fault, action_fault, actions_fault, keyword_of, condition_fault, move_of, moves_of, parts_fault, line_fault, parameter_value, curve_in, with_parameter, numbers_fault, definition_fault}
use Rattle.grammar.specs.TreeNames.{action_names, actions_names, names_in}
use Rattle.grammar.specs.NumbersTo.{token_to, operand_to, product_to, factors_to, sum_to, terms_to, expression_to, sums_to, action_to, condition_to, numbers_to, parameter_to, definition_to}
use Rattle.grammar.specs.AgreementLaws.{bounds}

-- a change of what numbers carry that keeps whole numbers, and the thousandths of all
pub record Keeps (f : ℕ → ℕ) : Type 0 where
  pub whole : (n : ℕ) → f (n * 2000) ≡ n * 2000
  pub value : (n : ℕ) → f n / 2 ≡ n / 2

-- ---- a meaning that does not see the change is the same of both

pub bind-same : {A B : Type 0} (m n : Answer A) (f g : A → Answer B) → m ≡ n → ((a : A) → f a ≡ g a) → (m >>= f) ≡ (n >>= g)
bind-same m (good a) f g e h = rw e (h a)
bind-same m (stop c) f g e h = rw e

module _ (f : ℕ → ℕ) {A : Type 0} (𝓜 : Meaning A) (blind : (n : ℕ) → 𝓜.number (f n) ≡ 𝓜.number n) where
  mutual
    unfolding operand_meaning operand_to

    operand_same : (x : Operand) → operand_meaning 𝓜 (operand_to f x) ≡ operand_meaning 𝓜 x
    operand_same (number n) = blind n
    operand_same (variable w v i) = refl
    operand_same (position x v) = refl
    operand_same (truth b) = refl
    operand_same (bracket e) = expression-same e
    operand_same (minus a) = bind-same _ _ _ _ (operand_same a) (λ x. refl)
    operand_same (not a) = bind-same _ _ _ _ (operand_same a) (λ x. refl)

    product-same : (x : Product) → product_meaning 𝓜 (product_to f x) ≡ product_meaning 𝓜 x
    product-same (product a r) = bind-same _ _ _ _ (operand_same a) (λ x. factors-same r x)

    factors-same : (r : Factors) (x : A) → factors_meaning 𝓜 (factors_to f r) x ≡ factors_meaning 𝓜 r x
    factors-same no_factor x = refl
    factors-same (factor o v a r) x = bind-same _ _ _ _ (bind-same _ _ _ _ (operand_same a) (λ y. refl)) (λ y. factors-same r y)

    pub sum_same : (x : Sum) → sum_meaning 𝓜 (sum_to f x) ≡ sum_meaning 𝓜 x
    sum_same (sum a r) = bind-same _ _ _ _ (product-same a) (λ x. terms-same r x)

    terms-same : (r : Terms) (x : A) → terms_meaning 𝓜 (terms_to f r) x ≡ terms_meaning 𝓜 r x
    terms-same no_term x = refl
    terms-same (term o v a r) x = bind-same _ _ _ _ (bind-same _ _ _ _ (product-same a) (λ y. refl)) (λ y. terms-same r y)

    pub expression-same : (x : Expression) → expression_meaning 𝓜 (expression_to f x) ≡ expression_meaning 𝓜 x
    expression-same (single a) = sum_same a
    expression-same (compare o v a b) = bind-same _ _ _ _ (sum_same a) (λ x. bind-same _ _ _ _ (sum_same b) (λ y. refl))
    expression-same (row o v a r) = bind-same _ _ _ _ (sum_same a) (λ x. sums_same r o x)

    sums_same : (r : Sums) (o : ℕ) (x : A) → sums_meaning 𝓜 o (sums_to f r) x ≡ sums_meaning 𝓜 o r x
    sums_same (last a) o x = bind-same _ _ _ _ (sum_same a) (λ y. refl)
    sums_same (next a r) o x = bind-same _ _ _ _ (bind-same _ _ _ _ (sum_same a) (λ y. refl)) (λ y. sums_same r o y)

-- ---- a removal is seen in both

module _ (f : ℕ → ℕ) where
  zero_same : (a : Operand) → is_fifo_zero (operand_to f a) ≡ is_fifo_zero a
  unfolding operand_to
  zero_same (number n) = refl
  zero_same (variable w v i) = refl
  zero_same (position x v) = refl
  zero_same (truth b) = refl
  zero_same (bracket e) = refl
  zero_same (minus a) = refl
  zero_same (not a) = refl

  alone-same : (r : Factors) (t : Terms) → is_alone (factors_to f r) (terms_to f t) ≡ is_alone r t
  unfolding factors_to
  alone-same no_factor no_term = refl
  alone-same no_factor (term o v a r) = refl
  alone-same (factor o v a r) t = refl

  pub removal-same : (a : Sum) → is_removal_tree (sum_to f a) ≡ is_removal_tree a
  unfolding is_removal_tree sum_to
  removal-same (sum (product a r) t) = rw (zero_same a, alone-same r t)

-- ---- 4: brackets

-- one token: whether it is an end, a ( or a ), and what is found behind it
abbrev opened : Bool → Bool → Bool → Bool → ℕ → (ℕ → Bool) → Bool
opened e o c full n f =
    elim e [
      | true ↦ false
      | false ↦ elim o [ true ↦ elim full [ true ↦ true | false ↦ f (n + 1) ] | false ↦ elim c [ true ↦ f (n - 1) | false ↦ f n ] ]
    ]

opened-same : (e o c full : Bool) (n : ℕ) (f g : ℕ → Bool) → ((k : ℕ) → f k ≡ g k) → opened e o c full n f ≡ opened e o c full n g
opened-same true o c full n f g h = refl
opened-same false true c true n f g h = refl
opened-same false true c false n f g h = h (n + 1)
opened-same false false true full n f g h = h (n - 1)
opened-same false false false full n f g h = h n

opens-step : (t u : ℕ) (l m : List ℕ) (n : ℕ) → eqb t END ≡ eqb u END → eqb t OPEN ≡ eqb u OPEN → eqb t CLOSE ≡ eqb u CLOSE →
    ((k : ℕ) → opens_too_many l k ≡ opens_too_many m k) → opens_too_many (t ∷ l) n ≡ opens_too_many (u ∷ m) n
unfolding opens_too_many
opens-step t u l m n a b c h =
    let f : opens_too_many (t ∷ l) n ≡ opened (eqb u END) (eqb u OPEN) (eqb u CLOSE) (leb brackets_open n) n (opens_too_many l) = rw (← a, ← b, ← c) in
    f ∙ opened-same (eqb u END) (eqb u OPEN) (eqb u CLOSE) (leb brackets_open n) n (opens_too_many l) (opens_too_many m) h

module _ (f : ℕ → ℕ) (keeps : Keeps f) where
  -- ---- tokens

  -- a token that is no number stays
  pub to-other : (t : ℕ) → t < NUMBER → token_to f t ≡ t
  unfolding token_to
  to-other t h = refused _ _ _ (lt-leb NUMBER t h)

  -- a number carries the changed one
  pub to_number : (n : ℕ) → token_to f (NUMBER + n) ≡ NUMBER + f n
  unfolding token_to
  to_number n = let e : NUMBER + n - NUMBER ≡ n = omega arith in chosen _ _ _ (le-leb NUMBER (NUMBER + n) (omega arith)) ∙ rw e

  -- a whole number stays
  pub to_whole : (n : ℕ) → token_to f (whole_token n) ≡ whole_token n
  to_whole n = to_number (n * 2000) ∙ rw (keeps.whole n)

  -- a token is a number or it is not
  by_kind : (P : Type 0) (t : ℕ) → (NUMBER ≤ t → token_to f t ≡ NUMBER + f (number_carried t) → P) → (t < NUMBER → token_to f t ≡ t → P) → P
  unfolding token_to
  by_kind P t g h = decide P (is_number t) (λ e. g (leb-true NUMBER t e) (chosen _ _ _ e)) (λ e. h (leb-false NUMBER t e) (refused _ _ _ e))

  -- it is the same sign or word as before
  pub to_is : (t c : ℕ) → c < NUMBER → eqb (token_to f t) c ≡ eqb t c
  to_is t c h =
      by_kind _ t
      (λ l e. ne_eqb (token_to f t) c (λ z. omega arith) ∙ sym (ne_eqb t c (λ z. omega arith)))
      (λ l e. rw e)

  -- the row m is l with each token changed
  record Changed (l m : List ℕ) : Type 0 where
    same : map (token_to f) l ≡ m

  none : Changed [] []
  none = record { same = refl }

  join : {l m l' m' : List ℕ} → Changed l l' → Changed m m' → Changed (l ++ m) (l' ++ m')
  join {l} {m} h g = record { same = map-append (token_to f) l m ∙ rw (h.same, g.same) }

  step : (t u : ℕ) {l m : List ℕ} → token_to f t ≡ u → Changed l m → Changed (t ∷ l) (u ∷ m)
  step t u h g = record { same = rw (h, g.same) }

  mutual
    unfolding operand_tokens operand_to token_to

    operand-to : (x : Operand) → Changed (operand_tokens x) (operand_tokens (operand_to f x))
    operand-to (number n) = step _ _ (to_number n) none
    operand-to (variable w v i) = let b = bounds IN FIFO4 w v in step _ _ (to-other w (omega arith)) (step _ _ refl (step _ _ (to_whole i) (step _ _ refl none)))
    operand-to (position x v) = let b = bounds X W x v in step _ _ refl (step _ _ refl (step _ _ (to-other x (omega arith)) (step _ _ refl none)))
    operand-to (truth true) = step _ _ refl none
    operand-to (truth false) = step _ _ refl none
    operand-to (bracket e) = step _ _ refl (join (expression-to e) (step _ _ refl none))
    operand-to (minus a) = step _ _ refl (operand-to a)
    operand-to (not a) = step _ _ refl (operand-to a)

    product-to : (x : Product) → Changed (product_tokens x) (product_tokens (product_to f x))
    product-to (product a r) = join (operand-to a) (factors-to r)

    factors-to : (r : Factors) → Changed (factors_tokens r) (factors_tokens (factors_to f r))
    factors-to no_factor = none
    factors-to (factor o v a r) = let b = bounds TIMES OVER o v in step _ _ (to-other o (omega arith)) (join (operand-to a) (factors-to r))

    sum-to : (x : Sum) → Changed (sum_tokens x) (sum_tokens (sum_to f x))
    sum-to (sum a r) = join (product-to a) (terms-to r)

    terms-to : (r : Terms) → Changed (terms_tokens r) (terms_tokens (terms_to f r))
    terms-to no_term = none
    terms-to (term o v a r) = let b = bounds PLUS MINUS o v in step _ _ (to-other o (omega arith)) (join (product-to a) (terms-to r))

    expression-to : (x : Expression) → Changed (expression_tokens x) (expression_tokens (expression_to f x))
    expression-to (single a) = sum-to a
    expression-to (compare o v a b) = let c = bounds SAME ATLEAST o v in join (sum-to a) (step _ _ (to-other o (omega arith)) (sum-to b))
    expression-to (row o v a r) = let b = bounds AND XOR o v in join (sum-to a) (sums-to r o (omega arith))

    sums-to : (r : Sums) (o : ℕ) → o < NUMBER → Changed (sums_tokens o r) (sums_tokens o (sums_to f r))
    sums-to (last a) o h = step _ _ (to-other o h) (sum-to a)
    sums-to (next a r) o h = step _ _ (to-other o h) (join (sum-to a) (sums-to r o h))

  -- an index and what is assigned
  target_to : (w t u : ℕ) {l m : List ℕ} → w < NUMBER → token_to f t ≡ u → Changed l m → Changed (w ∷ LEFT ∷ t ∷ RIGHT ∷ EQUALS ∷ l) (w ∷ LEFT ∷ u ∷ RIGHT ∷ EQUALS ∷ m)
  unfolding token_to
  target_to w t u h e g = step _ _ (to-other w h) (step _ _ refl (step _ _ e (step _ _ refl (step _ _ refl g))))

  -- a place stays
  place-to : (y : Place) → Changed (place_tokens y) (place_tokens y)
  unfolding token_to
  place-to (cell w v i) = let b = bounds IN FIFO4 w v in step _ _ (to-other w (omega arith)) (step _ _ refl (step _ _ (to_whole i) (step _ _ refl none)))
  place-to (axis x v) = let b = bounds X W x v in step _ _ refl (step _ _ refl (step _ _ (to-other x (omega arith)) (step _ _ refl none)))

  action-to : (a : Action) → Changed (action_tokens a) (action_tokens (action_to f a))
  unfolding action_tokens action_to token_to
  action-to (assign w v i a) = let b = bounds IN FIFO4 w v in target_to w _ _ (omega arith) (to_whole i) (sum-to a)
  action-to (assign_position x v a) = let b = bounds X W x v in target_to IM x x (omega arith) (to-other x (omega arith)) (sum-to a)
  action-to (drive w v x u a) = let b = bounds POS MOV w v in let c = bounds X W x u in target_to w x x (omega arith) (to-other x (omega arith)) (sum-to a)
  action-to (code n) = step _ _ refl (step _ _ refl (step _ _ (to_whole n) none))
  action-to (call w v n) = let b = bounds SETAL UNLOCK w v in step _ _ (to-other w (omega arith)) (step _ _ refl (step _ _ (to_whole n) (step _ _ refl none)))
  action-to (synfct n y z) = step _ _ refl (step _ _ refl (step _ _ (to_whole n) (step _ _ refl (join (place-to y) (step _ _ refl (join (place-to z) (step _ _ refl none)))))))

  actions-to : (r : List Action) (a : Action) → Changed (actions_tokens a r) (actions_tokens (action_to f a) (map (action_to f) r))
  unfolding actions_tokens
  actions-to [] a = action-to a
  actions-to (b ∷ r) a = join (action-to a) (actions-to r b)

  condition-to : (c : Condition) → Changed (condition_tokens c) (condition_tokens (condition_to f c))
  unfolding condition_tokens condition_to
  condition-to always = none
  condition-to (under w v e) = let b = bounds WHEN EVERY w v in step _ _ (to-other w (omega arith)) (expression-to e)

  line-to : (l : Line) → Changed (line_tokens l) (line_tokens (numbers_to f l))
  unfolding line_tokens numbers_to token_to
  line-to (line w v n c a r) =
      let b = bounds ID IDS w v in
      step _ _ (to-other w (omega arith)) (step _ _ refl (step _ _ (to_whole n) (join (condition-to c) (step _ _ refl (join (actions-to r a) (step _ _ refl none))))))

  -- THE TOKENS of the line with other numbers are those of the line, each changed
  pub to-tokens : (l : Line) → map (token_to f) (line_tokens l) ≡ line_tokens (numbers_to f l)
  to-tokens l = (line-to l).same

  -- a parameter and the sign behind it
  parameter-to : (m : Bool) (n t : ℕ) → t < NUMBER → Changed (parameter_tokens (record { negative = m; number = n }) t) (parameter_tokens (record { negative = m; number = f n }) t)
  unfolding parameter_tokens token_to
  parameter-to true n t h = step _ _ refl (step _ _ (to_number n) (step _ _ (to-other t h) none))
  parameter-to false n t h = step _ _ (to_number n) (step _ _ (to-other t h) none)

  part-to : (x : Parameter) (t : ℕ) {l m : List ℕ} → t < NUMBER → Changed l m → Changed (parameter_tokens x t ++ l) (parameter_tokens (parameter_to f x) t ++ m)
  unfolding parameter_to
  part-to x t h g = join (parameter-to x.negative x.number t h) g

  definition-to : (d : Definition) → Changed (definition_front d) (definition_front (definition_to f d))
  unfolding definition_front definition_to parameter_to token_to
  definition-to d =
      let z = parameter-to d.a3.negative d.a3.number CLOSE (omega arith) in
      let y = part-to d.a1 COMMA (omega arith) (part-to d.a2 COMMA (omega arith) z) in
      let x = part-to d.upper COMMA (omega arith) (part-to d.a0 COMMA (omega arith) y) in
      step _ _ refl (step _ _ refl (step _ _ (to_whole d.number) (step _ _ refl (part-to d.lower COMMA (omega arith) x))))

  -- of a definition too
  pub to-definition-tokens : (d : Definition) → map (token_to f) (definition_front d) ≡ definition_front (definition_to f d)
  to-definition-tokens d = (definition-to d).same

  -- as many brackets are open
  pub to-opens : (l : List ℕ) (n : ℕ) → opens_too_many (map (token_to f) l) n ≡ opens_too_many l n
  unfolding opens_too_many
  to-opens [] n = refl
  to-opens (t ∷ l) n = opens-step (token_to f t) t (map (token_to f) l) l n (to_is t END (omega arith)) (to_is t OPEN (omega arith)) (to_is t CLOSE (omega arith)) (λ k. to-opens l k)

  -- ---- values

  module _ (r c : List ℤ) where
    value-blind : (n : ℕ) → (value_over r c).number (f n) ≡ (value_over r c).number n
    unfolding value_over
    value-blind n = rw (keeps.value n)

    -- A CONDITION AND A RIGHT SIDE have the same value
    pub to-condition-value : (x : Expression) → expression_meaning (value_over r c) (expression_to f x) ≡ expression_meaning (value_over r c) x
    to-condition-value x = expression-same f (value_over r c) value-blind x

    pub to-right-value : (x : Sum) → sum_meaning (value_over r c) (sum_to f x) ≡ sum_meaning (value_over r c) x
    to-right-value x = sum_same f (value_over r c) value-blind x

  -- ---- faults

  sight-blind : (n : ℕ) → sight.number (f n) ≡ sight.number n
  unfolding sight number_fault
  sight-blind n = rw (keeps.value n)

  right-same : (a : Sum) → right_fault (sum_to f a) ≡ right_fault a
  unfolding right_fault
  right-same a = rw (sum_same f sight sight-blind a)

  assigned-same : (a : Sum) → assigned_fault (sum_to f a) ≡ assigned_fault a
  unfolding assigned_fault
  assigned-same a = rw (removal-same f a, right-same a)

  action-same : (kw : ℕ) (a : Action) → action_fault kw (action_to f a) ≡ action_fault kw a
  unfolding action_fault action_to
  action-same kw (assign w v i a) = rw (assigned-same a)
  action-same kw (assign_position x v a) = rw (assigned-same a)
  action-same kw (drive w v x u a) = right-same a
  action-same kw (code n) = refl
  action-same kw (call w v n) = refl
  action-same kw (synfct n y z) = refl

  actions-same : (kw : ℕ) (r : List Action) (a : Action) → actions_fault kw (action_to f a) (map (action_to f) r) ≡ actions_fault kw a r
  unfolding actions_fault
  actions-same kw [] a = action-same kw a
  actions-same kw (b ∷ r) a = rw (action-same kw a, actions-same kw r b)

  condition-same : (c : Condition) → (keyword_of (condition_to f c) ≡ keyword_of c) × (condition_fault (condition_to f c) ≡ condition_fault c)
  unfolding condition_to
  condition-same always = (refl, refl)
  condition-same (under w v e) = (refl, rw (expression-same f sight sight-blind e))

  move_same : (a : Action) → move_of (action_to f a) ≡ move_of a
  unfolding action_to
  move_same (assign w v i a) = refl
  move_same (assign_position x v a) = refl
  move_same (drive w v x u a) = refl
  move_same (code n) = refl
  move_same (call w v n) = refl
  move_same (synfct n y z) = refl

  moves-same : (r : List Action) (a : Action) → moves_of (action_to f a) (map (action_to f) r) ≡ moves_of a r
  unfolding moves_of
  moves-same [] a = move_same a
  moves-same (b ∷ r) a = rw (move_same a, moves-same r b)

  -- THE LINE has the same fault
  pub to-fault : (l : Line) → line_fault (numbers_to f l) ≡ line_fault l
  unfolding line_fault parts_fault numbers_to
  to-fault (line w v n c a r) =
      let (k, g) = condition-same c in
      rw (k, g, actions-same (keyword_of c) r a, length-map r (action_to f), moves-same r a)

  -- ---- a definition

  value-to : (x : Parameter) → parameter_value (parameter_to f x) ≡ parameter_value x
  unfolding parameter_to
  value-to x = rw (keeps.value x.number)

  -- A DEFINITION defines the same curve
  pub to-curve : (d : Definition) → curve_in (definition_to f d) ≡ curve_in d
  unfolding curve_in definition_to
  to-curve d = rw (value-to d.lower, value-to d.upper, value-to d.a0, value-to d.a1, value-to d.a2, value-to d.a3)

  number-to : (g : ℕ) (x : Parameter) → with_parameter g (parameter_to f x) ≡ with_parameter g x
  unfolding parameter_to number_fault
  number-to g x = rw (keeps.value x.number)

  numbers-to : (d : Definition) → numbers_fault (definition_to f d) ≡ numbers_fault d
  unfolding numbers_fault definition_to
  numbers-to d = rw (number-to _ d.lower, number-to _ d.upper, number-to _ d.a0, number-to _ d.a1, number-to _ d.a2, number-to _ d.a3)

  -- and has the same fault
  pub to-definition-fault : (d : Definition) → definition_fault (definition_to f d) ≡ definition_fault d
  unfolding definition_fault
  to-definition-fault d = rw (to-curve d, numbers-to d)

-- ---- a line's number stays, and what it names

pub to-line-number : (f : ℕ → ℕ) (l : Line) → tree_number (numbers_to f l) ≡ tree_number l
unfolding numbers_to
to-line-number f (line w v n c a r) = refl

action-names-to : (f : ℕ → ℕ) (a : Action) → action_names (action_to f a) ≡ action_names a
unfolding action_to
action-names-to f (assign w v i a) = refl
action-names-to f (assign_position x v a) = refl
action-names-to f (drive w v x u a) = refl
action-names-to f (code n) = refl
action-names-to f (call w v n) = refl
action-names-to f (synfct n y z) = refl

actions-names-to : (f : ℕ → ℕ) (r : List Action) (a : Action) → actions_names (action_to f a) (map (action_to f) r) ≡ actions_names a r
unfolding actions_names
actions-names-to f [] a = action-names-to f a
actions-names-to f (b ∷ r) a = rw (action-names-to f a, actions-names-to f r b)

pub to-names-in : (f : ℕ → ℕ) (l : Line) → names_in (numbers_to f l) ≡ names_in l
unfolding numbers_to names_in
to-names-in f (line w v n c a r) = actions-names-to f r a
