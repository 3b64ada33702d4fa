-- The value of an expression over the variables: all operands worked, left first, and the first alarm met ends it (document 01, "Values and time").
-- Yes is 1 and no is 0: the check has told them from numbers. Definitions only.
use Rattle.std.specs.Prelude.{true, false, not, List, ℕ, ℤ, pos, Result, Ok, Err}
use Rattle.values.specs.Codes.{unsound, alarm_with}
use Rattle.values.specs.Value.{negation_of}
use Rattle.working.specs.declared.walk.Reached.{Reached}
use Rattle.values.specs.declared.codes.Alarm.{Alarm}
use Rattle.values.specs.declared.codes.Alarm.TheVariants.{Unsound}
use Rattle.tokens.specs.Token.{set_size, thousandths, is_variable}
use Rattle.tokens.specs.Descent.{token, good, Read, read, ends, up_to, Meaning, is_indexed, index_at, sum_at, expression_at}
use Rattle.working.specs.Variables.{variable_value}
use Rattle.working.specs.Operators.{from_worked, yes_no, is_yes, join_values}

-- the meaning of expressions over R and the cells; what is not in the grammar is no part of a sound set
unfoldable pub value_over : List ℤ → List ℤ → Meaning ℤ
value_over r c = record {
  number = λ n. good (pos (thousandths n));
  variable = λ w i. from_worked (variable_value r c w i);
  truth = yes_no;
  minus = λ a. from_worked (negation_of a);
  not = λ a. yes_no (not (is_yes a));
  join = join_values;
  wrong = unsound;
}

-- how the code answers: a value and the next place, or an alarm alone
abbrev pub told : Read ℤ → Result Reached Alarm
told (read v q) = Ok (record { value = v; next = q })
told (ends k) = Err (alarm_with k)

-- the same without the place
abbrev pub worked : Read ℤ → Result ℤ Alarm
worked (read v q) = Ok v
worked (ends k) = Err (alarm_with k)

-- the two signs before an operand
abbrev pub negated : ℤ → ℕ → Read ℤ
negated a q = up_to (from_worked (negation_of a)) q

abbrev pub inverted : ℤ → ℕ → Read ℤ
inverted a q = read (yes_no (not (is_yes a))) q

-- the condition, and the right side, that begin at place p of the set s
unfoldable pub condition_value : List ℕ → List ℤ → List ℤ → ℕ → Result Reached Alarm
condition_value s r c p = told (expression_at s (value_over r c) set_size p)

unfoldable pub right_value : List ℕ → List ℤ → List ℤ → ℕ → Result Reached Alarm
right_value s r c p = told (sum_at s (value_over r c) set_size p)

-- what the variable that begins at place p reads; without its index behind it, it is no part of a sound set
unfoldable pub variable_at : List ℕ → List ℤ → List ℤ → ℕ → Result ℤ Alarm
variable_at s r c p =
    elim (is_variable (token s p)) [
      | true ↦ elim (is_indexed s (token s p) p) [ true ↦ variable_value r c (token s p) (index_at s (token s p) p) | false ↦ Err Unsound ]
      | false ↦ Err Unsound
    ]
