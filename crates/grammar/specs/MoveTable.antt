-- Worked lines of document 02, Req 08, computed over the definitions: two moves of one axis.
use Rattle.std.specs.Prelude.{refl, List, [], ◌∷◌, ◌++◌, ℕ, ◌+◌}
use Rattle.values.specs.Codes.{not_in_grammar, outside, m_alone, too_many_actions, two_moves}
use Rattle.checking.specs.Fault.{line_at, rest_at, body_at, line_parts, moves_at, actions_at, action_at, assignment_at, unindexed_at, command_at, count_fault, is_among, are_apart, moves_fault, number_of, sight}
use Rattle.tokens.specs.Token.{END, EQUALS, LEFT, RIGHT, ID, DO, POS, FA, MOV, M, X}
use Rattle.tokens.specs.Descent.{is_index, index_of, is_indexed, index_at, more, read_product, read_sum, operand_from, read_operand, sum_at}
use Rattle.tokens.specs.SingleFault.{id_fault, opens_too_many, wanting_fault, code_fault, number_fault, lower}
use Rattle.grammar.specs.LineTable.{n, Case, Holds}

-- ID=1 DO, some actions, and the end
abbrev doing : List ℕ → List ℕ
doing l = ID ∷ EQUALS ∷ n 1 ∷ DO ∷ l ++ (END ∷ [])

-- a drive of the axis x with a number
abbrev drives : ℕ → ℕ → ℕ → List ℕ
drives w x v = w ∷ LEFT ∷ x ∷ RIGHT ∷ EQUALS ∷ n v ∷ []

unfoldable pub move_cases : List Case
move_cases =
    -- document 02: POS[X] twice: ID=1 DO POS[X]=1 POS[X]=2
    record { tokens = doing (drives POS X 1 ++ drives POS X 2); fault = two_moves }
    -- POS and MOV count together, and a stop is a MOV (reading D53): ID=1 DO POS[X]=1 MOV[X]=0
    ∷ record { tokens = doing (drives POS X 1 ++ drives MOV X 0); fault = two_moves }
    -- MOV twice, another axis between: ID=1 DO MOV[Z]=1 POS[X]=1 MOV[Z]=0
    ∷ record { tokens = doing (drives MOV (X + 2) 1 ++ (drives POS X 1 ++ drives MOV (X + 2) 0)); fault = two_moves }
    -- two axes: ID=1 DO POS[X]=1 POS[Y]=1
    ∷ record { tokens = doing (drives POS X 1 ++ drives POS (X + 1) 1); fault = 0 }
    -- FA is no move (reading D53): ID=1 DO FA[X]=1 POS[X]=1 FA[X]=2
    ∷ record { tokens = doing (drives FA X 1 ++ (drives POS X 1 ++ drives FA X 2)); fault = 0 }
    -- 7 before 14: ID=1 DO POS[X]=1 POS[X]=1000001
    ∷ record { tokens = doing (drives POS X 1 ++ drives POS X 1000001); fault = outside }
    -- 9 before 14, wherever it stands: ID=1 DO POS[X]=1 POS[X]=2 M=1
    ∷ record { tokens = doing (drives POS X 1 ++ (drives POS X 2 ++ (M ∷ EQUALS ∷ n 1 ∷ []))); fault = m_alone }
    -- 10 before 14: nine actions, POS[X] twice
    ∷ record { tokens = doing (drives POS X 1 ++ (drives POS X 2 ++ (drives FA X 1 ++ (drives FA X 1 ++ (drives FA X 1 ++ (drives FA X 1 ++ (drives FA X 1 ++ (drives FA X 1 ++ drives FA X 1)))))))); fault = too_many_actions }
    -- 5 before 14: ID=1 DO POS[X]=1 POS[X]=2 POS
    ∷ record { tokens = doing (drives POS X 1 ++ (drives POS X 2 ++ (POS ∷ []))); fault = not_in_grammar }
    ∷ []

-- the worked lines have those faults
pub move-table : Holds move_cases
unfolding Holds move_cases line_at rest_at body_at line_parts id_fault opens_too_many moves_at actions_at action_at assignment_at unindexed_at command_at count_fault is_among are_apart moves_fault number_of wanting_fault code_fault sight number_fault lower is_index index_of is_indexed index_at more read_product read_sum operand_from read_operand sum_at
move-table = (refl, (refl, (refl, (refl, (refl, (refl, (refl, (refl, (refl, tt)))))))))
