-- Laws of what stops the working of a tree: only the code of an alarm, so that the engine, which holds it as an alarm, tells the same. Nothing is assumed.
use Rattle.std.specs.Prelude.{◌≡◌, refl, List, ℕ, eqb, ℤ, Result, Ok, Err}
use Rattle.std.proofs.Common.{ap}
use Rattle.values.specs.Choice.{either}
use Rattle.values.specs.declared.codes.Alarm.{Alarm}
use Rattle.values.specs.Codes.{code_of, alarm_with}
use Rattle.values.specs.CodeLaws.{alarm-back}
use Rattle.values.specs.Value.{sum_of, difference_of, product_of, quotient_of, negation_of}
use Rattle.tokens.specs.Token.{TIMES, OVER, PLUS, MINUS}
use Rattle.tokens.specs.Descent.{Answer, good, stop, ◌>>=◌, Meaning, up_to}
use Rattle.working.specs.Variables.{variable_value}
use Rattle.working.specs.Operators.{from_worked, join_values}
use Rattle.working.specs.Working.{value_over, told}
use Rattle.grammar.specs.Tree.{Operand, number, variable, position, truth, bracket, minus, not, Product, product, Factors, no_factor, factor, Sum, sum, Terms, no_term, term, Expression, single, compare, row, Sums, last, next}
use Rattle.grammar.specs.Meaning.{operand_meaning, product_meaning, factors_meaning, sum_meaning, terms_meaning, expression_meaning, sums_meaning}
use Rattle.engine.specs.Action.{from_reached}

-- what stops, if anything does, is the code of an alarm
abbrev pub Stops : {A : Type 0} → Answer A → Type 0
Stops (good a) = Unit {0}
Stops (stop k) = code_of (alarm_with k) ≡ k

then-stops : {A B : Type 0} (m : Answer A) (f : A → Answer B) → Stops m → ((a : A) → Stops (f a)) → Stops (m >>= f)
then-stops (good a) f h g = g a
then-stops (stop k) f h g = h

-- ---- trees

module _ {A : Type 0} (𝓜 : Meaning A) (numbers : (n : ℕ) → Stops (𝓜.number n)) (variables : (w i : ℕ) → Stops (𝓜.variable w i)) (signs : (a : A) → Stops (𝓜.minus a))
    (joins : (o : ℕ) (a b : A) → Stops (𝓜.join o a b)) where
  mutual
    unfolding operand_meaning

    operand-stops : (x : Operand) → Stops (operand_meaning 𝓜 x)
    operand-stops (number n) = numbers n
    operand-stops (variable w v i) = variables w i
    operand-stops (position x v) = variables _ _
    operand-stops (truth b) = tt
    operand-stops (bracket e) = expression-stops e
    operand-stops (minus a) = then-stops (operand_meaning 𝓜 a) _ (operand-stops a) signs
    operand-stops (not a) = then-stops (operand_meaning 𝓜 a) _ (operand-stops a) (λ x. tt)

    product-stops : (x : Product) → Stops (product_meaning 𝓜 x)
    product-stops (product a r) = then-stops (operand_meaning 𝓜 a) _ (operand-stops a) (λ x. factors-stops r x)

    factors-stops : (r : Factors) (x : A) → Stops (factors_meaning 𝓜 r x)
    factors-stops no_factor x = tt
    factors-stops (factor o v a r) x = then-stops (operand_meaning 𝓜 a >>= 𝓜.join o x) _ (then-stops (operand_meaning 𝓜 a) _ (operand-stops a) (λ y. joins o x y)) (λ y. factors-stops r y)

    pub sum-stops : (x : Sum) → Stops (sum_meaning 𝓜 x)
    sum-stops (sum a r) = then-stops (product_meaning 𝓜 a) _ (product-stops a) (λ x. terms-stops r x)

    terms-stops : (r : Terms) (x : A) → Stops (terms_meaning 𝓜 r x)
    terms-stops no_term x = tt
    terms-stops (term o v a r) x = then-stops (product_meaning 𝓜 a >>= 𝓜.join o x) _ (then-stops (product_meaning 𝓜 a) _ (product-stops a) (λ y. joins o x y)) (λ y. terms-stops r y)

    pub expression-stops : (x : Expression) → Stops (expression_meaning 𝓜 x)
    expression-stops (single a) = sum-stops a
    expression-stops (compare o v a b) = then-stops (sum_meaning 𝓜 a) _ (sum-stops a) (λ x. then-stops (sum_meaning 𝓜 b) _ (sum-stops b) (λ y. joins o x y))
    expression-stops (row o v a r) = then-stops (sum_meaning 𝓜 a) _ (sum-stops a) (λ x. sums-stops o r x)

    sums-stops : (o : ℕ) (r : Sums) (x : A) → Stops (sums_meaning 𝓜 o r x)
    sums-stops o (last a) x = then-stops (sum_meaning 𝓜 a) _ (sum-stops a) (λ y. joins o x y)
    sums-stops o (next a r) x = then-stops (sum_meaning 𝓜 a >>= 𝓜.join o x) _ (then-stops (sum_meaning 𝓜 a) _ (sum-stops a) (λ y. joins o x y)) (λ y. sums-stops o r y)

-- ---- values

-- what was worked stops, if it does, by an alarm
worked-stops : (x : Result ℤ Alarm) → Stops (from_worked x)
worked-stops (Ok v) = tt
worked-stops (Err a) = ap code_of (alarm-back a)

join-stops : (o : ℕ) (a b : ℤ) → Stops (join_values o a b)
unfolding join_values
join-stops o a b =
    either Stops (eqb o TIMES) (λ e. worked-stops (product_of a b)) λ e.
    either Stops (eqb o OVER) (λ e. worked-stops (quotient_of a b)) λ e.
    either Stops (eqb o PLUS) (λ e. worked-stops (sum_of a b)) λ e.
    either Stops (eqb o MINUS) (λ e. worked-stops (difference_of a b)) (λ e. tt)

module _ (r c : List ℤ) where
  -- a right side and a condition
  pub right-stops : (a : Sum) → Stops (sum_meaning (value_over r c) a)
  unfolding value_over
  right-stops a = sum-stops (value_over r c) (λ n. tt) (λ w i. worked-stops (variable_value r c w i)) (λ x. worked-stops (negation_of x)) join-stops a

  pub condition-stops : (e : Expression) → Stops (expression_meaning (value_over r c) e)
  unfolding value_over
  condition-stops e = expression-stops (value_over r c) (λ n. tt) (λ w i. worked-stops (variable_value r c w i)) (λ x. worked-stops (negation_of x)) join-stops e

-- ---- what the engine tells of it

-- a value and the place q behind it, or the code alone
pub told-tree : (m : Answer ℤ) (q : ℕ) → Stops m → from_reached (told (up_to m q)) ≡ (m >>= λ v. good (v, q))
told-tree (good v) q h = refl
told-tree (stop k) q h = ap stop h
