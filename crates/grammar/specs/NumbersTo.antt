-- A line of the grammar, and a definition, with other numbers: what each of its numbers carries is changed in one way; indices, line numbers and the numbers of M, SETAL, LOCK, UNLOCK and SYNFCT stay. Definitions only.
use Rattle.std.specs.Prelude.{true, false, map, ℕ, ◌+◌}
use Rattle.tokens.specs.Token.{NUMBER, is_number, number_carried}
use Rattle.grammar.specs.Tree.{Operand, number, variable, position, truth, bracket, minus, not, Product, product, Factors, no_factor, factor, Sum, sum, Terms, no_term, term, Expression, single, compare, row, Sums, last, next, Action, assign, assign_position, drive, code, call, synfct, Condition, always, under, Line, line, Parameter, Definition}

module _ (f : ℕ → ℕ) where
  -- a token: a number carries the changed one, any other stays
  unfoldable pub token_to : ℕ → ℕ
  token_to t = elim (is_number t) [ true ↦ NUMBER + f (number_carried t) | false ↦ t ]

  unfoldable mutual
    pub operand_to : Operand → Operand
    operand_to (number n) = number (f n)
    operand_to (variable w v i) = variable w v i
    operand_to (position x v) = position x v
    operand_to (truth b) = truth b
    operand_to (bracket e) = bracket (expression_to e)
    operand_to (minus a) = minus (operand_to a)
    operand_to (not a) = not (operand_to a)

    pub product_to : Product → Product
    product_to (product a r) = product (operand_to a) (factors_to r)

    pub factors_to : Factors → Factors
    factors_to no_factor = no_factor
    factors_to (factor o v a r) = factor o v (operand_to a) (factors_to r)

    pub sum_to : Sum → Sum
    sum_to (sum a r) = sum (product_to a) (terms_to r)

    pub terms_to : Terms → Terms
    terms_to no_term = no_term
    terms_to (term o v a r) = term o v (product_to a) (terms_to r)

    pub expression_to : Expression → Expression
    expression_to (single a) = single (sum_to a)
    expression_to (compare o v a b) = compare o v (sum_to a) (sum_to b)
    expression_to (row o v a r) = row o v (sum_to a) (sums_to r)

    pub sums_to : Sums → Sums
    sums_to (last a) = last (sum_to a)
    sums_to (next a r) = next (sum_to a) (sums_to r)

  unfoldable pub action_to : Action → Action
  action_to (assign w v i a) = assign w v i (sum_to a)
  action_to (assign_position x v a) = assign_position x v (sum_to a)
  action_to (drive w v x u a) = drive w v x u (sum_to a)
  action_to (code n) = code n
  action_to (call w v n) = call w v n
  action_to (synfct n y z) = synfct n y z

  unfoldable pub condition_to : Condition → Condition
  condition_to always = always
  condition_to (under w v e) = under w v (expression_to e)

  unfoldable pub numbers_to : Line → Line
  numbers_to (line w v n c a r) = line w v n (condition_to c) (action_to a) (map action_to r)

  -- the parameters of a definition; its curve's number stays
  unfoldable pub parameter_to : Parameter → Parameter
  parameter_to x = record { negative = x.negative; number = f x.number }

  unfoldable pub definition_to : Definition → Definition
  definition_to d = record {
    number = d.number;
    lower = parameter_to d.lower;
    upper = parameter_to d.upper;
    a0 = parameter_to d.a0;
    a1 = parameter_to d.a1;
    a2 = parameter_to d.a2;
    a3 = parameter_to d.a3;
  }
