-- Laws of the faults of trees: the lower of two faults, the check's sight of a tree, and which faults a line and a definition can have. Assumes nothing.
use Rattle.std.specs.Prelude.{◌≡◌, refl, Bool, true, false, cond, not as no?, ◌&&◌, ◌||◌, List, [], ◌∷◌, ◌⊎◌, ◌↔◌, ℕ, zero, suc, min, ◌<◌, ◌≤◌, T, eqb, leb, length}
use Rattle.std.specs.Bool.{beq}
use Rattle.std.proofs.Common.{inl, inr, arith, ne_eqb}
use Rattle.std.proofs.Math.Dec.{eqb-suc-zero}
use Rattle.values.specs.Codes.{confused, outside, read_only, m_alone, too_many_actions, wrong_curve, two_moves}
use Rattle.values.specs.Choice.{both, decide, contrary}
use Rattle.tokens.specs.Token.{between, IM, is_fifo, thousandths, axis_of, EVERY, SETAL, WHEN, max_actions, max_curves}
use Rattle.values.specs.Value.{top, less_than}
use Rattle.tokens.specs.Index.{is_inside}
use Rattle.tokens.specs.SingleFaultLaws.{none_first}
use Rattle.grammar.specs.Tree.{Operand, number, variable, position, truth, bracket, minus, not, Product, product, Factors, no_factor, factor, Sum, sum, Terms, no_term, term, Expression, single, compare, row, Sums, last, next, Action, assign, assign_position, drive, code, call, synfct, place_word, place_index, Condition, always, under, Line, line, Parameter, Definition}
use Rattle.tokens.specs.Descent.{Answer, good, stop, read, ◌>>=◌, up_to}
use Rattle.grammar.specs.Meaning.{operand_meaning, product_meaning, factors_meaning, sum_meaning, terms_meaning, expression_meaning, sums_meaning}
use Rattle.tokens.specs.SingleFault.{lower, unless, wanting_fault, number_fault, read_fault, is_writable, write_fault, code_fault, id_fault, call_fault, curve_fault}
use Rattle.checking.specs.CurveDefinition.{limits_fault}
use Rattle.checking.specs.Fault.{Sight, wanting, join_sights, sight, fault_for, count_fault, are_apart, moves_fault, number_of}
use Rattle.grammar.specs.TreeFault.{PartFault, Proper, wanted_fault, right_fault, is_removal_tree, assigned_fault, action_fault, actions_fault, keyword_of, condition_fault, moves_in, parts_fault, line_fault, curve_in, with_parameter, numbers_fault, definition_fault}
use Rattle.grammar.specs.AgreementLaws.{bounds}

-- ---- the lower of two faults

-- 0 is no fault; `lower` is the least of the others
pub lower-none : (a : ℕ) → lower a 0 ≡ a
unfolding lower
lower-none zero = refl
lower-none (suc a) = rw (eqb-suc-zero a)

pub lower-min : (a b : ℕ) → 0 < a → 0 < b → lower a b ≡ min a b
unfolding lower
lower-min a b h g = rw (ne_eqb a 0 (λ e. omega arith), ne_eqb b 0 (λ e. omega arith))

-- in whatever order faults are put together, the lowest is the same
pub lower-assoc : (a b c : ℕ) → lower (lower a b) c ≡ lower a (lower b c)
lower-assoc zero b c = rw (none_first b, none_first (lower b c))
lower-assoc (suc a) zero c = rw (lower-none (suc a), none_first c)
lower-assoc (suc a) (suc b) zero = rw (lower-none (suc b), lower-none (lower (suc a) (suc b)))
lower-assoc (suc a) (suc b) (suc c) =
    let ab = lower-min (suc a) (suc b) (omega arith) (omega arith) in
    let bc = lower-min (suc b) (suc c) (omega arith) (omega arith) in
    let l = lower-min (lower (suc a) (suc b)) (suc c) (omega arith) (omega arith) in
    let r = lower-min (suc a) (lower (suc b) (suc c)) (omega arith) (omega arith) in
    omega arith

-- no fault together, no fault before
pub lower-first : (a b : ℕ) → lower a b ≡ 0 → a ≡ 0
lower-first zero b h = refl
lower-first (suc a) zero h = rw (lower-none (suc a)) at h
lower-first (suc a) (suc b) h = let m = lower-min (suc a) (suc b) (omega arith) (omega arith) in absurd (omega arith)

-- a line number without a fault is kept
pub number-kept : (n : ℕ) → id_fault n ≡ 0 → number_of n ≡ n
unfolding id_fault number_of
number-kept n h = decide _ (between 1 255 n) (λ t. rw (both (leb 1 n) (leb n 255) t).1) (λ t. let z : ◌≡◌ {A = ℕ} 7 0 = rw t at h in absurd (omega arith))

lower-proper : (a b : ℕ) → PartFault a → PartFault b → PartFault (lower a b)
lower-proper a b (inl e) g = rw (e, none_first b) g
lower-proper a b (inr h) (inl e) = rw (e, lower-none a) (inr h)
lower-proper a b (inr h) (inr g) = let m = lower-min a b (omega arith) (omega arith) in inr (omega arith, omega arith)

unless-proper : (b : Bool) (k : ℕ) → T (between confused too_many_actions k) → PartFault (unless b k)
unless-proper true k h = inl refl
unless-proper false k h = inr (bounds confused too_many_actions k h)

-- ---- the sight of a tree never stops, and its fault is proper

-- an answer of the check that is good, with a proper fault
abbrev GoodSight : Answer Sight → Type 0
GoodSight (good a) = PartFault a.fault
GoodSight (stop c) = ⊥

wanting-proper : (t : Bool) (a : Sight) → PartFault (wanting t a)
unfolding wanting_fault
wanting-proper t a = unless-proper (beq t a.truth) confused tt

number-proper : (n : ℕ) → PartFault (number_fault n)
unfolding number_fault
number-proper n = unless-proper (leb (thousandths n) top) outside tt

read-proper : (w i : ℕ) → PartFault (read_fault w i)
unfolding read_fault
read-proper w i = lower-proper _ _ (unless-proper (is_inside w i) outside tt) (unless-proper (no? (is_fifo w && eqb i 0)) read_only tt)

seen-on : (m : Answer Sight) (f : Sight → Answer Sight) → GoodSight m → ((a : Sight) → PartFault a.fault → GoodSight (f a)) → GoodSight (m >>= f)
seen-on (good a) f h g = g a h
seen-on (stop c) f h g = absurd h

seen-join : (o : ℕ) (a b : Sight) → PartFault a.fault → PartFault b.fault → GoodSight (sight.join o a b)
unfolding sight join_sights
seen-join o a b h g = lower-proper _ _ (lower-proper _ _ (wanting-proper _ a) (wanting-proper _ b)) (lower-proper _ _ h g)

mutual
  unfolding operand_meaning sight

  seen-operand : (o : Operand) → GoodSight (operand_meaning sight o)
  seen-operand (number n) = number-proper n
  seen-operand (variable w v i) = read-proper w i
  seen-operand (position x v) = read-proper IM (axis_of x)
  seen-operand (truth b) = inl refl
  seen-operand (bracket e) = seen-expression e
  seen-operand (minus a) = seen-on (operand_meaning sight a) _ (seen-operand a) (λ x h. lower-proper _ _ (wanting-proper _ x) h)
  seen-operand (not a) = seen-on (operand_meaning sight a) _ (seen-operand a) (λ x h. lower-proper _ _ (wanting-proper _ x) h)

  seen-product : (x : Product) → GoodSight (product_meaning sight x)
  seen-product (product a r) = seen-on (operand_meaning sight a) _ (seen-operand a) (λ x h. seen-factors r x h)

  seen-factors : (r : Factors) (x : Sight) → PartFault x.fault → GoodSight (factors_meaning sight r x)
  seen-factors no_factor x h = h
  seen-factors (factor o v a r) x h = seen-on (operand_meaning sight a >>= sight.join o x) _ (seen-on (operand_meaning sight a) _ (seen-operand a) (λ y g. seen-join o x y h g)) (λ y g. seen-factors r y g)

  -- of a right side
  pub seen-sum : (x : Sum) → GoodSight (sum_meaning sight x)
  seen-sum (sum a r) = seen-on (product_meaning sight a) _ (seen-product a) (λ x h. seen-terms r x h)

  seen-terms : (r : Terms) (x : Sight) → PartFault x.fault → GoodSight (terms_meaning sight r x)
  seen-terms no_term x h = h
  seen-terms (term o v a r) x h = seen-on (product_meaning sight a >>= sight.join o x) _ (seen-on (product_meaning sight a) _ (seen-product a) (λ y g. seen-join o x y h g)) (λ y g. seen-terms r y g)

  -- of an expression
  pub seen-expression : (x : Expression) → GoodSight (expression_meaning sight x)
  seen-expression (single a) = seen-sum a
  seen-expression (compare o v a b) = seen-on (sum_meaning sight a) _ (seen-sum a) (λ x h. seen-on (sum_meaning sight b) _ (seen-sum b) (λ y g. seen-join o x y h g))
  seen-expression (row o v a r) = seen-on (sum_meaning sight a) _ (seen-sum a) (λ x h. seen-sums r o x h)

  seen-sums : (r : Sums) (o : ℕ) (x : Sight) → PartFault x.fault → GoodSight (sums_meaning sight o r x)
  seen-sums (last a) o x h = seen-on (sum_meaning sight a) _ (seen-sum a) (λ y g. seen-join o x y h g)
  seen-sums (next a r) o x h = seen-on (sum_meaning sight a >>= sight.join o x) _ (seen-on (sum_meaning sight a) _ (seen-sum a) (λ y g. seen-join o x y h g)) (λ y g. seen-sums r o y g)

-- so where a tree's sight is read, its fault is
pub wanted_read : (t : Bool) (m : Answer Sight) (q : ℕ) → GoodSight m → fault_for t (up_to m q) ≡ read (wanted_fault t m) q
wanted_read t (good a) q h = refl
wanted_read t (stop c) q h = absurd h

wanted-proper : (t : Bool) (m : Answer Sight) → GoodSight m → PartFault (wanted_fault t m)
wanted-proper t (good a) h = lower-proper _ _ (wanting-proper t a) h
wanted-proper t (stop c) h = absurd h

-- ---- the faults of a line are proper

cond-proper : (b : Bool) (x y : ℕ) → PartFault x → PartFault y → PartFault (cond b x y)
cond-proper true x y h g = h
cond-proper false x y h g = g

write-proper : (w i : ℕ) → PartFault (write_fault w i)
unfolding write_fault
write-proper w i = lower-proper _ _ (unless-proper (is_inside w i) outside tt) (unless-proper (is_writable w i) read_only tt)

id-proper : (n : ℕ) → PartFault (id_fault n)
unfolding id_fault
id-proper n = unless-proper (between 1 255 n) outside tt

right-proper : (a : Sum) → PartFault (right_fault a)
unfolding right_fault
right-proper a = wanted-proper false (sum_meaning sight a) (seen-sum a)

assigned-proper : (a : Sum) → PartFault (assigned_fault a)
unfolding assigned_fault
assigned-proper a = cond-proper (is_removal_tree a) _ _ (inl refl) (right-proper a)

action-proper : (kw : ℕ) (a : Action) → PartFault (action_fault kw a)
unfolding action_fault code_fault call_fault curve_fault
action-proper kw (assign w v i a) = lower-proper _ _ (write-proper w i) (assigned-proper a)
action-proper kw (assign_position x v a) = lower-proper _ _ (write-proper IM (axis_of x)) (assigned-proper a)
action-proper kw (drive w v x u a) = right-proper a
action-proper kw (code n) = lower-proper _ _ (unless-proper (leb n 99) outside tt) (unless-proper (eqb kw WHEN || eqb kw EVERY) m_alone tt)
action-proper kw (call w v n) = cond-proper (eqb w SETAL) _ _ (unless-proper (between 65000 69999 n) outside tt) (id-proper n)
action-proper kw (synfct n y z) = lower-proper _ _ (unless-proper (between 1 max_curves n) outside tt) (lower-proper _ _ (write-proper (place_word y) (place_index y)) (read-proper (place_word z) (place_index z)))

actions-proper : (kw : ℕ) (r : List Action) (a : Action) → PartFault (actions_fault kw a r)
unfolding actions_fault
actions-proper kw [] a = action-proper kw a
actions-proper kw (b ∷ r) a = lower-proper _ _ (action-proper kw a) (actions-proper kw r b)

condition-proper : (c : Condition) → PartFault (condition_fault c)
condition-proper always = inl refl
condition-proper (under w v e) = wanted-proper true (expression_meaning sight e) (seen-expression e)

-- the fault of a line's parts is one of 6 to 10, or none
pub parts-proper : (l : Line) → PartFault (parts_fault l)
unfolding parts_fault count_fault
parts-proper (line w v n c a r) = lower-proper _ _ (lower-proper _ _ (id-proper n) (condition-proper c)) (lower-proper _ _ (actions-proper (keyword_of c) r a) (unless-proper (leb (suc (length r)) max_actions) too_many_actions tt))

-- 14 stands behind them
behind-parts : (a : ℕ) (b : Bool) → PartFault a → Proper (lower a (unless b two_moves))
behind-parts a true h = rw (lower-none a) (inl h)
behind-parts a false (inl e) = rw (e, none_first two_moves) (inr refl)
behind-parts a false (inr h) = let m = lower-min a two_moves (omega arith) (omega arith) in inl (inr (omega arith, omega arith))

-- the fault of a line as a tree is one of 6 to 10, or 14, or none
pub line-proper : (l : Line) → Proper (line_fault l)
unfolding line_fault moves_fault
line-proper l = behind-parts (parts_fault l) (are_apart (moves_in l)) (parts-proper l)

-- a line without a fault has none in its parts
pub parts-fine : (l : Line) → line_fault l ≡ 0 → parts_fault l ≡ 0
unfolding line_fault
parts-fine l h = lower-first (parts_fault l) _ h

-- ---- a definition

parameter-proper : (f : ℕ) (x : Parameter) → PartFault f → PartFault (with_parameter f x)
parameter-proper f x h = lower-proper _ _ h (number-proper x.number)

numbers-proper : (d : Definition) → PartFault (numbers_fault d)
unfolding numbers_fault curve_fault
numbers-proper d =
    parameter-proper _ d.a3 (parameter-proper _ d.a2 (parameter-proper _ d.a1 (parameter-proper _ d.a0
    (parameter-proper _ d.upper (parameter-proper _ d.lower (unless-proper (between 1 max_curves d.number) outside tt))))))

-- 13 stands behind the others
limits-behind : (a : ℕ) (b : Bool) → PartFault a → PartFault (lower a (cond b wrong_curve 0)) ⊎ (lower a (cond b wrong_curve 0) ≡ wrong_curve)
limits-behind a true (inl e) = rw (e, none_first wrong_curve) (inr refl)
limits-behind a false (inl e) = rw (e, none_first 0) (inl (inl refl))
limits-behind a true (inr h) = let m = lower-min a wrong_curve (omega arith) (omega arith) in inl (inr (omega (arith, h)))
limits-behind a false (inr h) = rw (lower-none a) (inl (inr h))

-- the fault of a definition is none, one of 6 to 10, or 13,
pub definition-range : (d : Definition) → PartFault (definition_fault d) ⊎ (definition_fault d ≡ wrong_curve)
unfolding definition_fault limits_fault
definition-range d = limits-behind (numbers_fault d) (less_than (curve_in d).upper (curve_in d).lower) (numbers-proper d)

-- so neither 4 nor 5
pub definition-proper : (d : Definition) → (definition_fault d ≡ 0) ⊎ (confused ≤ definition_fault d)
definition-proper d = by-range (definition-range d)
  where
    by-range : PartFault (definition_fault d) ⊎ (definition_fault d ≡ wrong_curve) → (definition_fault d ≡ 0) ⊎ (confused ≤ definition_fault d)
    by-range (inl (inl e)) = inl e
    by-range (inl (inr h)) = inr h.0
    by-range (inr e) = inr (omega arith)

first-13 : (a : ℕ) (b : Bool) → PartFault a → (lower a (cond b wrong_curve 0) ≡ wrong_curve) ↔ ((a ≡ 0) × (b ≡ true))
first-13 a true (inl e) = ((λ _. (e, refl)), (λ _. rw (e, none_first wrong_curve)))
first-13 a false (inl e) = ((λ h. let z : ◌≡◌ {A = ℕ} 0 wrong_curve = rw (e, none_first 0) at h in absurd (omega arith)), (λ h. contrary h.1 refl))
first-13 a true (inr h) = let m = lower-min a wrong_curve (omega arith) (omega arith) in ((λ e. absurd (omega arith)), (λ x. let z = x.0 in absurd (omega arith)))
first-13 a false (inr h) = ((λ e. let z : a ≡ wrong_curve = rw (lower-none a) at e in absurd (omega arith)), (λ x. contrary x.1 refl))

-- 13 OF A DEFINITION, both ways: its numbers have no fault, and its lower limit is above its upper one
pub definition-13 : (d : Definition) → (definition_fault d ≡ wrong_curve) ↔ ((numbers_fault d ≡ 0) × (less_than (curve_in d).upper (curve_in d).lower ≡ true))
unfolding definition_fault limits_fault
definition-13 d = first-13 (numbers_fault d) (less_than (curve_in d).upper (curve_in d).lower) (numbers-proper d)
