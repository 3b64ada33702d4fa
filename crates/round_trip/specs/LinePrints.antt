-- EVERY TOKEN OF A LINE WITHOUT A FAULT, AND OF SUCH A DEFINITION, CAN BE WRITTEN AND READ BACK. Theorems; nothing is assumed.
use Rattle.std.specs.Prelude.{◌≡◌, refl, Bool, true, false, List, [], ◌∷◌, ◌++◌, ℕ, ◌+◌, ◌*◌, ◌≤◌, ◌<◌, eqb, leb}
use Rattle.std.proofs.Common.{subst, append-nil, arith, eqb-true, le-leb, leb-true}
use Rattle.std.proofs.lemmas.Bool.{lt-leb}
use Rattle.values.specs.Codes.{outside}
use Rattle.values.specs.Choice.{decide, both, contrary, either-cond}
use Rattle.values.specs.Value.{top}
use Rattle.tokens.specs.Token.{NUMBER, EQUALS, MINUS, OPEN, CLOSE, COMMA, LEFT, RIGHT, DO, FCTDEF, SYNFCT, TRUE, FALSE, NOT, IM, M, IN, FIFO4, X, W, POS, MOV, SETAL, UNLOCK, WHEN, EVERY, ID, IDS, TIMES, OVER, PLUS, SAME, ATLEAST, AND, XOR, INA, OUT, MARKER, PARAM, R, TIMER, between, max_curves, is_fifo, is_number, thousandths, whole_token}
use Rattle.tokens.specs.Descent.{Answer, good, stop, read, ◌>>=◌, up_to}
use Rattle.tokens.specs.Index.{is_inside, last_index}
use Rattle.tokens.specs.IndexLaws.{last-inside}
use Rattle.tokens.specs.SingleFault.{lower, unless, number_fault, read_fault, write_fault, code_fault, id_fault, call_fault, curve_fault}
use Rattle.checking.specs.Fault.{Sight, join_sights, sight, fault_for}
use Rattle.grammar.specs.Tree.{Operand, number, variable, position, truth, bracket, minus, not, Product, product, Factors, no_factor, factor, Sum, sum, Terms, no_term, term, Expression, single, compare, row, Sums, last, next, Action, assign, assign_position, drive, code, call, synfct, Place, cell, axis, place_word, place_index, place_tokens, Condition, always, under, Line, line, Parameter, Definition, operand_tokens, product_tokens, factors_tokens, sum_tokens, terms_tokens, expression_tokens, sums_tokens, action_tokens, actions_tokens, condition_tokens, parameter_tokens, definition_front}
use Rattle.grammar.specs.Meaning.{operand_meaning, product_meaning, factors_meaning, sum_meaning, terms_meaning, expression_meaning, sums_meaning}
use Rattle.grammar.specs.TreeFault.{wanted_fault, right_fault, is_fifo_zero, is_alone, is_removal_tree, assigned_fault, action_fault, actions_fault, condition_fault, keyword_of, parts_fault, line_fault, numbers_fault, definition_fault}
use Rattle.grammar.specs.AgreementLaws.{bounds, ends_read}
use Rattle.grammar.specs.TreeFaultLaws.{seen-sum, seen-expression, wanted_read}
use Rattle.grammar.specs.ClosedTokens.{front}
use Rattle.soundness.specs.WriteSoundLaws.{lower-zero, unless-zero}
use Rattle.print.specs.TokenBackLaws.{has_name, Printable}
use Rattle.print.specs.LineBack.{Printables}
use Rattle.print.specs.NameRowsLaws.{in_row, row_at}

-- ---- single tokens

name-fits : (t : ℕ) → t < NUMBER → has_name t ≡ true → Printable t
name-fits t u n = record { number = λ e. contrary e (lt-leb NUMBER t u); named = λ _. n }

-- tokens from low on that all have names
names_in_lem : (low n t : ℕ) → low + n ≤ NUMBER → in_row has_name low n ≡ true → low ≤ t → t < low + n → Printable t
names_in_lem low n t b h l u = name-fits t (omega arith) (row_at has_name n low t h l u)

number_fits_lem : (n : ℕ) → thousandths n ≤ top → Printable (NUMBER + n)
number_fits_lem n h = let g : is_number (NUMBER + n) ≡ true = le-leb NUMBER (NUMBER + n) (omega arith) in record { number = λ _. omega arith; named = λ e. contrary g e }

whole-fits : (n : ℕ) → n ≤ 1000000 → Printable (whole_token n)
whole-fits n h = number_fits_lem (n * 2000) (omega arith)

-- the signs and the words of the grammar
sign-in : (t : ℕ) → EQUALS ≤ t → t ≤ RIGHT → Printable t
unfolding has_name
sign-in t l u = names_in_lem EQUALS 15 t (omega arith) refl l (omega arith)

keyword-in : (t : ℕ) → ID ≤ t → t ≤ XOR → Printable t
unfolding has_name
keyword-in t l u = names_in_lem ID 13 t (omega arith) refl l (omega arith)

variable-in : (t : ℕ) → IN ≤ t → t ≤ IM → Printable t
unfolding has_name
variable-in t l u = names_in_lem IN 12 t (omega arith) refl l (omega arith)

action-in : (t : ℕ) → POS ≤ t → t ≤ UNLOCK → Printable t
unfolding has_name
action-in t l u = names_in_lem POS 7 t (omega arith) refl l (omega arith)

comma : Printable COMMA
unfolding has_name
comma = name-fits COMMA (omega arith) refl

fctdef : Printable FCTDEF
unfolding has_name
fctdef = name-fits FCTDEF (omega arith) refl

synfct-word : Printable SYNFCT
unfolding has_name
synfct-word = name-fits SYNFCT (omega arith) refl

axis-in : (t : ℕ) → X ≤ t → t ≤ W → Printable t
unfolding has_name
axis-in t l u = names_in_lem X 6 t (omega arith) refl l (omega arith)

-- ---- an index

-- no variable has a greater one
abbrev greatest : ℕ
greatest = 163

inside-small : (w i : ℕ) → is_inside w i ≡ true → i ≤ greatest
inside-small w i h =
    let l = last-inside w i h in
    let P : ℕ → Type 0 = λ n. n ≤ greatest in
    let m : last_index w ≤ greatest =
    either-cond P (eqb w R) 163 _ (omega arith) (either-cond P (between MARKER PARAM w) 31 _ (omega arith) (either-cond P (eqb w TIMER) 7 _ (omega arith)
    (either-cond P (is_fifo w) 4 _ (omega arith) (either-cond P (eqb w INA) 8 _ (omega arith) (either-cond P (eqb w IM) 6 _ (omega arith)
    (either-cond P (eqb w IN) 16 _ (omega arith) (either-cond P (eqb w OUT) 16 0 (omega arith) (omega arith)))))))) in
    omega arith

index-fits : (w i k : ℕ) → lower (unless (is_inside w i) outside) k ≡ 0 → Printable (whole_token i)
index-fits w i k h = let n = inside-small w i (unless-zero (is_inside w i) outside (lower-zero _ k h).0 (omega arith)) in whole-fits i (omega arith)

-- a variable, POS, FA or MOV and its index
index_in : (w t : ℕ) (l : List ℕ) → Printable w → Printable t → Printables l → Printables (w ∷ LEFT ∷ t ∷ RIGHT ∷ l)
index_in w t l a b c = (a, (sign-in LEFT (omega arith) (omega arith), (b, (sign-in RIGHT (omega arith) (omega arith), c))))

-- ---- expressions

-- the check sees no fault in it
abbrev Clean : Answer Sight → Type 0
Clean (good a) = a.fault ≡ 0
Clean (stop k) = ⊥

-- none in what is worked first and in what is worked behind it,
clean-on : (P Q : Type 0) (m : Answer Sight) (f : Sight → Answer Sight) → Clean (m >>= f) → ((a : Sight) → Clean (f a) → (a.fault ≡ 0) × Q) → (Clean m → P) → P × Q
clean-on P Q (good a) f c g h = let (z, q) = g a c in (h z, q)
clean-on P Q (stop k) f c g h = absurd c

-- behind a sign,
clean-signed : (P : Type 0) (m : Answer Sight) (f : Sight → Answer Sight) → Clean (m >>= f) → ((a : Sight) → Clean (f a) → a.fault ≡ 0) → (Clean m → P) → P
clean-signed P m f c g h = (clean-on P (Unit {0}) m f c (λ a d. (g a d, tt)) h).0

-- on both sides of an operator,
join-clean : (o : ℕ) (a b : Sight) → Clean (sight.join o a b) → (b.fault ≡ 0) × (a.fault ≡ 0)
unfolding sight join_sights
join-clean o a b c = let (x, y) = lower-zero _ _ c in let (p, q) = lower-zero a.fault b.fault y in (q, p)

clean-join : (P : Type 0) (o : ℕ) (x : Sight) (m : Answer Sight) → Clean (m >>= sight.join o x) → (Clean m → P) → P × (x.fault ≡ 0)
clean-join P o x m c h = clean-on P (x.fault ≡ 0) m _ c (λ y d. join-clean o x y d) h

-- and in a row
clean-row : (P Q : Type 0) (o : ℕ) (x : Sight) (m : Answer Sight) (f : Sight → Answer Sight) → Clean (m >>= sight.join o x >>= f) → ((y : Sight) → Clean (f y) → (y.fault ≡ 0) × Q) → (Clean m → P) → (P × (x.fault ≡ 0)) × Q
clean-row P Q o x m f c g h = clean-on (P × (x.fault ≡ 0)) Q (m >>= sight.join o x) f c g (λ d. clean-join P o x m d h)

prints-join : (l m : List ℕ) → Printables l → Printables m → Printables (l ++ m)
prints-join [] m h g = g
prints-join (t ∷ l) m h g = (h.0, prints-join l m h.1 g)

number-clean : (n : ℕ) → number_fault n ≡ 0 → thousandths n ≤ top
unfolding number_fault
number-clean n h = leb-true (thousandths n) top (unless-zero (leb (thousandths n) top) outside h (omega arith))

mutual
  unfolding operand_meaning operand_tokens sight read_fault

  clean-operand : (x : Operand) → Clean (operand_meaning sight x) → Printables (operand_tokens x)
  clean-operand (number n) c = (number_fits_lem n (number-clean n c), tt)
  clean-operand (variable w v i) c = let b = bounds IN FIFO4 w v in index_in w (whole_token i) [] (variable-in w (omega arith) (omega arith)) (index-fits w i _ c) tt
  clean-operand (position x v) c = let b = bounds X W x v in index_in IM x [] (variable-in IM (omega arith) (omega arith)) (axis-in x (omega arith) (omega arith)) tt
  clean-operand (truth true) c = (keyword-in TRUE (omega arith) (omega arith), tt)
  clean-operand (truth false) c = (keyword-in FALSE (omega arith) (omega arith), tt)
  clean-operand (bracket e) c = (sign-in OPEN (omega arith) (omega arith), prints-join (expression_tokens e) (CLOSE ∷ []) (clean-expression e c) (sign-in CLOSE (omega arith) (omega arith), tt))
  clean-operand (minus a) c = (sign-in MINUS (omega arith) (omega arith), clean-signed (Printables (operand_tokens a)) (operand_meaning sight a) _ c (λ x d. (lower-zero _ _ d).1) (λ d. clean-operand a d))
  clean-operand (not a) c = (keyword-in NOT (omega arith) (omega arith), clean-signed (Printables (operand_tokens a)) (operand_meaning sight a) _ c (λ x d. (lower-zero _ _ d).1) (λ d. clean-operand a d))

  clean-product : (x : Product) → Clean (product_meaning sight x) → Printables (product_tokens x)
  clean-product (product a r) c =
      let (p, q) = clean-on (Printables (operand_tokens a)) (Printables (factors_tokens r)) (operand_meaning sight a) _ c (λ x d. clean-factors r x d) (λ d. clean-operand a d) in
      prints-join (operand_tokens a) (factors_tokens r) p q

  clean-factors : (r : Factors) (x : Sight) → Clean (factors_meaning sight r x) → (x.fault ≡ 0) × Printables (factors_tokens r)
  clean-factors no_factor x c = (c, tt)
  clean-factors (factor o v a r) x c =
      let b = bounds TIMES OVER o v in
      let (p, q) = clean-row (Printables (operand_tokens a)) (Printables (factors_tokens r)) o x (operand_meaning sight a) _ c (λ y d. clean-factors r y d) (λ d. clean-operand a d) in
      (p.1, (sign-in o (omega arith) (omega arith), prints-join (operand_tokens a) (factors_tokens r) p.0 q))

  clean-sum : (x : Sum) → Clean (sum_meaning sight x) → Printables (sum_tokens x)
  clean-sum (sum a r) c =
      let (p, q) = clean-on (Printables (product_tokens a)) (Printables (terms_tokens r)) (product_meaning sight a) _ c (λ x d. clean-terms r x d) (λ d. clean-product a d) in
      prints-join (product_tokens a) (terms_tokens r) p q

  clean-terms : (r : Terms) (x : Sight) → Clean (terms_meaning sight r x) → (x.fault ≡ 0) × Printables (terms_tokens r)
  clean-terms no_term x c = (c, tt)
  clean-terms (term o v a r) x c =
      let b = bounds PLUS MINUS o v in
      let (p, q) = clean-row (Printables (product_tokens a)) (Printables (terms_tokens r)) o x (product_meaning sight a) _ c (λ y d. clean-terms r y d) (λ d. clean-product a d) in
      (p.1, (sign-in o (omega arith) (omega arith), prints-join (product_tokens a) (terms_tokens r) p.0 q))

  clean-expression : (x : Expression) → Clean (expression_meaning sight x) → Printables (expression_tokens x)
  clean-expression (single a) c = clean-sum a c
  clean-expression (compare o v a b) c =
      let d = bounds SAME ATLEAST o v in
      let (p, q) = clean-on (Printables (sum_tokens a)) (Printables (sum_tokens b)) (sum_meaning sight a) _ c
      (λ x e. let (y, z) = clean-join (Printables (sum_tokens b)) o x (sum_meaning sight b) e (λ f. clean-sum b f) in (z, y)) (λ e. clean-sum a e) in
      prints-join (sum_tokens a) (o ∷ sum_tokens b) p (sign-in o (omega arith) (omega arith), q)
  clean-expression (row o v a r) c =
      let b = bounds AND XOR o v in
      let (p, q) = clean-on (Printables (sum_tokens a)) (Printables (sums_tokens o r)) (sum_meaning sight a) _ c (λ x d. clean-sums r o x (keyword-in o (omega arith) (omega arith)) d) (λ d. clean-sum a d) in
      prints-join (sum_tokens a) (sums_tokens o r) p q

  clean-sums : (r : Sums) (o : ℕ) (x : Sight) → Printable o → Clean (sums_meaning sight o r x) → (x.fault ≡ 0) × Printables (sums_tokens o r)
  clean-sums (last a) o x k c =
      let (p, q) = clean-join (Printables (sum_tokens a)) o x (sum_meaning sight a) c (λ d. clean-sum a d) in
      (q, (k, p))
  clean-sums (next a r) o x k c =
      let (p, q) = clean-row (Printables (sum_tokens a)) (Printables (sums_tokens o r)) o x (sum_meaning sight a) _ c (λ y d. clean-sums r o y k d) (λ d. clean-sum a d) in
      (p.1, (k, prints-join (sum_tokens a) (sums_tokens o r) p.0 q))

-- ---- actions

-- an expression where a yes/no or a number is wanted, without a fault
wanted-clean : (t : Bool) (m : Answer Sight) → fault_for t (up_to m 0) ≡ read (wanted_fault t m) 0 → wanted_fault t m ≡ 0 → Clean m
wanted-clean t (good a) s h = (lower-zero _ _ h).1
wanted-clean t (stop k) s h = ends_read ⊥ k 0 k s

right-clean : (a : Sum) → right_fault a ≡ 0 → Printables (sum_tokens a)
unfolding right_fault
right-clean a h = clean-sum a (wanted-clean false (sum_meaning sight a) (wanted_read false (sum_meaning sight a) 0 (seen-sum a)) h)

-- FIFO [0] as a whole right side
zero-prints : (a : Operand) → is_fifo_zero a ≡ true → Printables (operand_tokens a)
unfolding operand_tokens
zero-prints (number n) h = contrary h refl
zero-prints (variable w v i) h =
    let (_, z) = both (is_fifo w) (eqb i 0) h in
    let e = eqb-true i 0 z in
    let b = bounds IN FIFO4 w v in
    index_in w (whole_token i) [] (variable-in w (omega arith) (omega arith)) (whole-fits i (omega arith)) tt
zero-prints (position x v) h = contrary h refl
zero-prints (truth b) h = contrary h refl
zero-prints (bracket e) h = contrary h refl
zero-prints (minus a) h = contrary h refl
zero-prints (not a) h = contrary h refl

alone-prints : (r : Factors) (t : Terms) → is_alone r t ≡ true → Printables (factors_tokens r) × Printables (terms_tokens t)
unfolding operand_tokens
alone-prints no_factor no_term h = (tt, tt)
alone-prints no_factor (term o v a r) h = contrary h refl
alone-prints (factor o v a r) t h = contrary h refl

removal-prints : (a : Sum) → is_removal_tree a ≡ true → Printables (sum_tokens a)
unfolding is_removal_tree operand_tokens
removal-prints (sum (product a r) t) h =
    let (x, y) = both (is_fifo_zero a) (is_alone r t) h in
    let (f, g) = alone-prints r t y in
    prints-join (operand_tokens a ++ factors_tokens r) (terms_tokens t) (prints-join (operand_tokens a) (factors_tokens r) (zero-prints a x) f) g

assigned-clean : (a : Sum) → assigned_fault a ≡ 0 → Printables (sum_tokens a)
unfolding assigned_fault
assigned-clean a h = decide _ (is_removal_tree a) (λ e. removal-prints a e) (λ e. right-clean a (rw e at h))

equals : Printable EQUALS
equals = sign-in EQUALS (omega arith) (omega arith)

id-clean : (n : ℕ) → id_fault n ≡ 0 → n ≤ 255
unfolding id_fault
id-clean n h = leb-true n 255 (both (leb 1 n) (leb n 255) (unless-zero (between 1 255 n) outside h (omega arith))).1

call-clean : (w n : ℕ) → call_fault w n ≡ 0 → n ≤ 1000000
unfolding call_fault
call-clean w n h =
    decide _ (eqb w SETAL)
    (λ e. let g = leb-true n 69999 (both (leb 65000 n) (leb n 69999) (unless-zero (between 65000 69999 n) outside (rw e at h) (omega arith))).1 in omega arith)
    (λ e. let g = id-clean n (rw e at h) in omega arith)

code-clean : (kw n : ℕ) → code_fault kw n ≡ 0 → n ≤ 99
unfolding code_fault
code-clean kw n h = leb-true n 99 (unless-zero (leb n 99) outside (lower-zero _ _ h).0 (omega arith))

curve-clean : (n : ℕ) → curve_fault n ≡ 0 → n ≤ max_curves
unfolding curve_fault
curve-clean n h = leb-true n max_curves (both (leb 1 n) (leb n max_curves) (unless-zero (between 1 max_curves n) outside h (omega arith))).1

-- a place that is read or written, and what stands behind it
place-prints : (y : Place) (k : ℕ) (l : List ℕ) → lower (unless (is_inside (place_word y) (place_index y)) outside) k ≡ 0 → Printables l → Printables (place_tokens y ++ l)
place-prints (cell w v i) k l h c = let b = bounds IN FIFO4 w v in index_in w (whole_token i) l (variable-in w (omega arith) (omega arith)) (index-fits w i k h) c
place-prints (axis x v) k l h c = let b = bounds X W x v in index_in IM x l (variable-in IM (omega arith) (omega arith)) (axis-in x (omega arith) (omega arith)) c

action-clean : (kw : ℕ) (a : Action) → action_fault kw a ≡ 0 → Printables (action_tokens a)
unfolding action_fault action_tokens write_fault read_fault
action-clean kw (assign w v i a) h =
    let (x, y) = lower-zero _ _ h in
    let b = bounds IN FIFO4 w v in
    index_in w (whole_token i) (EQUALS ∷ sum_tokens a) (variable-in w (omega arith) (omega arith)) (index-fits w i _ x) (equals, assigned-clean a y)
action-clean kw (assign_position x v a) h =
    let (p, y) = lower-zero _ _ h in
    let b = bounds X W x v in
    index_in IM x (EQUALS ∷ sum_tokens a) (variable-in IM (omega arith) (omega arith)) (axis-in x (omega arith) (omega arith)) (equals, assigned-clean a y)
action-clean kw (drive w v x u a) h =
    let b = bounds POS MOV w v in
    let c = bounds X W x u in
    index_in w x (EQUALS ∷ sum_tokens a) (action-in w (omega arith) (omega arith)) (axis-in x (omega arith) (omega arith)) (equals, right-clean a h)
action-clean kw (code n) h = let g = code-clean kw n h in (action-in M (omega arith) (omega arith), (equals, (whole-fits n (omega arith), tt)))
action-clean kw (call w v n) h =
    let b = bounds SETAL UNLOCK w v in
    (action-in w (omega arith) (omega arith), (sign-in OPEN (omega arith) (omega arith), (whole-fits n (call-clean w n h), (sign-in CLOSE (omega arith) (omega arith), tt))))
action-clean kw (synfct n y z) h =
    let (x, p) = lower-zero _ _ h in
    let (u, v) = lower-zero _ _ p in
    let m = curve-clean n x in
    let left = sign-in OPEN (omega arith) (omega arith) in
    let right = sign-in CLOSE (omega arith) (omega arith) in
    (synfct-word, (left, (whole-fits n (omega arith), (comma, place-prints y _ (COMMA ∷ place_tokens z ++ (CLOSE ∷ [])) u (comma, place-prints z _ (CLOSE ∷ []) v (right, tt))))))

actions-clean : (kw : ℕ) (r : List Action) (a : Action) → actions_fault kw a r ≡ 0 → Printables (actions_tokens a r)
unfolding actions_fault actions_tokens
actions-clean kw [] a h = action-clean kw a h
actions-clean kw (b ∷ r) a h = let (x, y) = lower-zero _ _ h in prints-join (action_tokens a) (actions_tokens b r) (action-clean kw a x) (actions-clean kw r b y)

condition-clean : (c : Condition) → condition_fault c ≡ 0 → Printables (condition_tokens c)
unfolding condition_tokens
condition-clean always h = tt
condition-clean (under w v e) h = let b = bounds WHEN EVERY w v in (keyword-in w (omega arith) (omega arith), clean-expression e (wanted-clean true (expression_meaning sight e) (wanted_read true (expression_meaning sight e) 0 (seen-expression e)) h))

-- THE TOKENS OF A LINE WITHOUT A FAULT
pub line-prints : (l : Line) → line_fault l ≡ 0 → Printables (front l)
unfolding line_fault parts_fault
line-prints (line w v n c a r) h =
    let (x, y) = lower-zero _ _ (lower-zero _ _ h).0 in
    let (i, k) = lower-zero _ _ x in
    let (q, m) = lower-zero _ _ y in
    let b = bounds ID IDS w v in
    let g = id-clean n i in
    (keyword-in w (omega arith) (omega arith), (equals, (whole-fits n (omega arith), prints-join (condition_tokens c) (DO ∷ actions_tokens a r) (condition-clean c k) (keyword-in DO (omega arith) (omega arith), actions-clean (keyword_of c) r a q))))

-- ---- a definition

parameter-prints : (m : Bool) (n t : ℕ) (l : List ℕ) → number_fault n ≡ 0 → Printable t → Printables l → Printables (parameter_tokens (record { negative = m; number = n }) t ++ l)
unfolding parameter_tokens
parameter-prints true n t l h k c = (sign-in MINUS (omega arith) (omega arith), (number_fits_lem n (number-clean n h), (k, c)))
parameter-prints false n t l h k c = (number_fits_lem n (number-clean n h), (k, c))

-- THE TOKENS OF A DEFINITION WITHOUT A FAULT
pub definition-prints : (d : Definition) → definition_fault d ≡ 0 → Printables (definition_front d)
unfolding definition_fault numbers_fault definition_front
definition-prints d h =
    let (n, _) = lower-zero _ _ h in
    let (n5, e3) = lower-zero _ _ n in
    let (n4, e2) = lower-zero _ _ n5 in
    let (n3, e1) = lower-zero _ _ n4 in
    let (n2, e0) = lower-zero _ _ n3 in
    let (n1, u) = lower-zero _ _ n2 in
    let (n0, l) = lower-zero _ _ n1 in
    let m = curve-clean d.number n0 in
    let left = sign-in OPEN (omega arith) (omega arith) in
    let right = sign-in CLOSE (omega arith) (omega arith) in
    let a = parameter-prints d.a2.negative d.a2.number COMMA _ e2 comma (last-prints d.a3 e3 right) in
    let b = parameter-prints d.a0.negative d.a0.number COMMA _ e0 comma (parameter-prints d.a1.negative d.a1.number COMMA _ e1 comma a) in
    let c = parameter-prints d.lower.negative d.lower.number COMMA _ l comma (parameter-prints d.upper.negative d.upper.number COMMA _ u comma b) in
    (fctdef, (left, (whole-fits d.number (omega arith), (comma, c))))
  where
    last-prints : (x : Parameter) → number_fault x.number ≡ 0 → Printable CLOSE → Printables (parameter_tokens x CLOSE)
    last-prints x e c = subst Printables (append-nil (parameter_tokens x CLOSE)) (parameter-prints x.negative x.number CLOSE [] e c tt)
