-- What each operator makes of two values, and how yes and no stand among values (document 01, "Values and time"). Yes is 1 and no is 0. Definitions only.
use Rattle.std.specs.Prelude.{Bool, true, false, not, ◌&&◌, ◌||◌, ℕ, eqb, ℤ, pos, Result, Ok, Err}
use Rattle.values.specs.Codes.{code_of}
use Rattle.values.specs.Value.{sum_of, difference_of, product_of, quotient_of, less_than, equal_to}
use Rattle.values.specs.declared.codes.Alarm.{Alarm}
use Rattle.tokens.specs.Token.{SAME, OTHER, LESS, MORE, ATMOST, ATLEAST, PLUS, MINUS, TIMES, OVER, AND, OR}
use Rattle.tokens.specs.Descent.{Answer, good, stop}

-- an alarm ends the working with its code
abbrev pub from_worked : Result ℤ Alarm → Answer ℤ
from_worked (Ok v) = good v
from_worked (Err a) = stop (code_of a)

abbrev pub yes_no : Bool → ℤ
yes_no true = pos 1
yes_no false = pos 0

abbrev pub is_yes : ℤ → Bool
is_yes v = not (equal_to v (pos 0))

abbrev pub differ : Bool → Bool → Bool
differ true b = not b
differ false b = b

unfoldable pub join_logic : ℕ → Bool → Bool → Bool
join_logic o a b = elim (eqb o AND) [ true ↦ a && b | false ↦ elim (eqb o OR) [ true ↦ a || b | false ↦ differ a b ] ]

-- a comparison, or AND, OR, XOR
unfoldable pub join_truths : ℕ → ℤ → ℤ → Bool
join_truths o a b =
    elim (eqb o SAME) [
      | true ↦ equal_to a b
      | false ↦
          elim (eqb o OTHER) [
            | true ↦ not (equal_to a b)
            | false ↦
                elim (eqb o LESS) [
                  | true ↦ less_than a b
                  | false ↦
                      elim (eqb o MORE) [
                        | true ↦ less_than b a
                        | false ↦
                            elim (eqb o ATMOST) [
                              | true ↦ not (less_than b a)
                              | false ↦
                                  elim (eqb o ATLEAST) [ true ↦ not (less_than a b) | false ↦ join_logic o (is_yes a) (is_yes b) ]
                            ]
                      ]
                ]
          ]
    ]

-- the operator o between two values
unfoldable pub join_values : ℕ → ℤ → ℤ → Answer ℤ
join_values o a b =
    elim (eqb o TIMES) [
      | true ↦ from_worked (product_of a b)
      | false ↦
          elim (eqb o OVER) [
            | true ↦ from_worked (quotient_of a b)
            | false ↦
                elim (eqb o PLUS) [
                  | true ↦ from_worked (sum_of a b)
                  | false ↦ elim (eqb o MINUS) [ true ↦ from_worked (difference_of a b) | false ↦ good (yes_no (join_truths o a b)) ]
                ]
          ]
    ]
