-- Worked lines of document 01, and of document 000 where each of their words is one of document 01, computed over the definitions.
use Rattle.std.specs.Prelude.{◌≡◌, refl, List, [], ◌∷◌, ℕ, ◌+◌, ◌*◌}
use Rattle.values.specs.Codes.{too_deep, not_in_grammar, confused, outside, read_only, m_alone, too_many_actions}
use Rattle.tokens.specs.Token.{END, EQUALS, SAME, LESS, MORE, ATLEAST, PLUS, TIMES, OPEN, CLOSE, LEFT, RIGHT, ID, IDS, WHEN, WHENEVER, FROM, EVERY, DO, TRUE, FALSE, NOT, AND, OR, IN, OUT, MARKER, PARAM, R, FIFO1, IM, POS, FA, MOV, M, LOCK, X, NUMBER, whole_token}
use Rattle.tokens.specs.Descent.{is_index, index_of, is_indexed, index_at, joined, more, read_product, read_sum, read_rest, read_expression, read_close, read_variable, read_truth, operand_from, read_operand, sum_at, expression_at}
use Rattle.tokens.specs.Index.{is_inside}
use Rattle.checking.specs.Fault.{fault_of_line, line_at, rest_at, body_at, line_parts, moves_at, actions_at, action_at, assignment_at, unindexed_at, command_at, count_fault, is_among, are_apart, moves_fault, number_of, assigned_at, is_removal, sight, join_sights}
use Rattle.tokens.specs.SingleFault.{id_fault, opens_too_many, wanting_fault, write_fault, is_writable, code_fault, call_fault, read_fault, number_fault, lower}

-- the tokens of a number without and with a point, the second by its thousandths
abbrev pub n : ℕ → ℕ
n = whole_token

abbrev pub pointed : ℕ → ℕ
pointed v = NUMBER + v * 2 + 1

-- the tokens of a line, and the fault that it has (0: none)
pub record Case : Type 0 where
  pub tokens : List ℕ
  pub fault : ℕ

unfoldable pub line_cases : List Case
line_cases =
    -- document 01, the example: ID=1 EVERY $A_IN[1]==1 DO $AC_MARKER[0]=$AC_MARKER[0]+1 M=7
    record { tokens = ID ∷ EQUALS ∷ n 1 ∷ EVERY ∷ IN ∷ LEFT ∷ n 1 ∷ RIGHT ∷ SAME ∷ n 1 ∷ DO ∷ MARKER ∷ LEFT ∷ n 0 ∷ RIGHT ∷ EQUALS ∷ MARKER ∷ LEFT ∷ n 0 ∷ RIGHT ∷ PLUS ∷ n 1 ∷ M ∷ EQUALS ∷ n 7 ∷ END ∷ []; fault = 0 }
    -- document 01: a comparison beside AND: ID=1 WHEN $R[1]>1 AND $R[2]>1 DO M=7
    ∷ record { tokens = ID ∷ EQUALS ∷ n 1 ∷ WHEN ∷ R ∷ LEFT ∷ n 1 ∷ RIGHT ∷ MORE ∷ n 1 ∷ AND ∷ R ∷ LEFT ∷ n 2 ∷ RIGHT ∷ MORE ∷ n 1 ∷ DO ∷ M ∷ EQUALS ∷ n 7 ∷ END ∷ []; fault = not_in_grammar }
    -- document 01: the last R that is written: ID=1 DO $R[99]=1
    ∷ record { tokens = ID ∷ EQUALS ∷ n 1 ∷ DO ∷ R ∷ LEFT ∷ n 99 ∷ RIGHT ∷ EQUALS ∷ n 1 ∷ END ∷ []; fault = 0 }
    -- document 01: the first R that is not: ID=1 DO $R[100]=1
    ∷ record { tokens = ID ∷ EQUALS ∷ n 1 ∷ DO ∷ R ∷ LEFT ∷ n 100 ∷ RIGHT ∷ EQUALS ∷ n 1 ∷ END ∷ []; fault = read_only }
    -- the first R that is none: ID=1 DO $R[164]=1
    ∷ record { tokens = ID ∷ EQUALS ∷ n 1 ∷ DO ∷ R ∷ LEFT ∷ n 164 ∷ RIGHT ∷ EQUALS ∷ n 1 ∷ END ∷ []; fault = outside }
    -- document 01: eight open brackets: ID=1 WHENEVER ((((((((1<2)))))))) DO $R[1]=1
    ∷ record { tokens = ID ∷ EQUALS ∷ n 1 ∷ WHENEVER ∷ OPEN ∷ OPEN ∷ OPEN ∷ OPEN ∷ OPEN ∷ OPEN ∷ OPEN ∷ OPEN ∷ n 1 ∷ LESS ∷ n 2 ∷ CLOSE ∷ CLOSE ∷ CLOSE ∷ CLOSE ∷ CLOSE ∷ CLOSE ∷ CLOSE ∷ CLOSE ∷ DO ∷ R ∷ LEFT ∷ n 1 ∷ RIGHT ∷ EQUALS ∷ n 1 ∷ END ∷ []; fault = 0 }
    -- document 01: nine: ID=1 WHENEVER (((((((((1<2))))))))) DO $R[1]=1
    ∷ record { tokens = ID ∷ EQUALS ∷ n 1 ∷ WHENEVER ∷ OPEN ∷ OPEN ∷ OPEN ∷ OPEN ∷ OPEN ∷ OPEN ∷ OPEN ∷ OPEN ∷ OPEN ∷ n 1 ∷ LESS ∷ n 2 ∷ CLOSE ∷ CLOSE ∷ CLOSE ∷ CLOSE ∷ CLOSE ∷ CLOSE ∷ CLOSE ∷ CLOSE ∷ CLOSE ∷ DO ∷ R ∷ LEFT ∷ n 1 ∷ RIGHT ∷ EQUALS ∷ n 1 ∷ END ∷ []; fault = too_deep }
    -- document 01: FIFO [0] to itself: ID=1 DO $AC_FIFO1[0]=$AC_FIFO1[0]
    ∷ record { tokens = ID ∷ EQUALS ∷ n 1 ∷ DO ∷ FIFO1 ∷ LEFT ∷ n 0 ∷ RIGHT ∷ EQUALS ∷ FIFO1 ∷ LEFT ∷ n 0 ∷ RIGHT ∷ END ∷ []; fault = 0 }
    -- FIFO [0] read in a condition: ID=1 WHENEVER $AC_FIFO1[0]>1 DO $R[1]=1
    ∷ record { tokens = ID ∷ EQUALS ∷ n 1 ∷ WHENEVER ∷ FIFO1 ∷ LEFT ∷ n 0 ∷ RIGHT ∷ MORE ∷ n 1 ∷ DO ∷ R ∷ LEFT ∷ n 1 ∷ RIGHT ∷ EQUALS ∷ n 1 ∷ END ∷ []; fault = read_only }
    -- FIFO [0] as a part of a right side: ID=1 DO $R[1]=1*$AC_FIFO1[0]
    ∷ record { tokens = ID ∷ EQUALS ∷ n 1 ∷ DO ∷ R ∷ LEFT ∷ n 1 ∷ RIGHT ∷ EQUALS ∷ n 1 ∷ TIMES ∷ FIFO1 ∷ LEFT ∷ n 0 ∷ RIGHT ∷ END ∷ []; fault = read_only }
    -- M under FROM (reading A52): ID=1 FROM $A_IN[1]==1 DO M=7
    ∷ record { tokens = ID ∷ EQUALS ∷ n 1 ∷ FROM ∷ IN ∷ LEFT ∷ n 1 ∷ RIGHT ∷ SAME ∷ n 1 ∷ DO ∷ M ∷ EQUALS ∷ n 7 ∷ END ∷ []; fault = m_alone }
    -- eight actions: ID=1 DO $R[1]=1 $R[2]=1 $R[3]=1 $R[4]=1 $R[5]=1 $R[6]=1 $R[7]=1 $R[8]=1
    ∷ record { tokens = ID ∷ EQUALS ∷ n 1 ∷ DO ∷ R ∷ LEFT ∷ n 1 ∷ RIGHT ∷ EQUALS ∷ n 1 ∷ R ∷ LEFT ∷ n 2 ∷ RIGHT ∷ EQUALS ∷ n 1 ∷ R ∷ LEFT ∷ n 3 ∷ RIGHT ∷ EQUALS ∷ n 1 ∷ R ∷ LEFT ∷ n 4 ∷ RIGHT ∷ EQUALS ∷ n 1 ∷ R ∷ LEFT ∷ n 5 ∷ RIGHT ∷ EQUALS ∷ n 1 ∷ R ∷ LEFT ∷ n 6 ∷ RIGHT ∷ EQUALS ∷ n 1 ∷ R ∷ LEFT ∷ n 7 ∷ RIGHT ∷ EQUALS ∷ n 1 ∷ R ∷ LEFT ∷ n 8 ∷ RIGHT ∷ EQUALS ∷ n 1 ∷ END ∷ []; fault = 0 }
    -- nine: ID=1 DO $R[1]=1 $R[2]=1 $R[3]=1 $R[4]=1 $R[5]=1 $R[6]=1 $R[7]=1 $R[8]=1 $R[9]=1
    ∷ record { tokens = ID ∷ EQUALS ∷ n 1 ∷ DO ∷ R ∷ LEFT ∷ n 1 ∷ RIGHT ∷ EQUALS ∷ n 1 ∷ R ∷ LEFT ∷ n 2 ∷ RIGHT ∷ EQUALS ∷ n 1 ∷ R ∷ LEFT ∷ n 3 ∷ RIGHT ∷ EQUALS ∷ n 1 ∷ R ∷ LEFT ∷ n 4 ∷ RIGHT ∷ EQUALS ∷ n 1 ∷ R ∷ LEFT ∷ n 5 ∷ RIGHT ∷ EQUALS ∷ n 1 ∷ R ∷ LEFT ∷ n 6 ∷ RIGHT ∷ EQUALS ∷ n 1 ∷ R ∷ LEFT ∷ n 7 ∷ RIGHT ∷ EQUALS ∷ n 1 ∷ R ∷ LEFT ∷ n 8 ∷ RIGHT ∷ EQUALS ∷ n 1 ∷ R ∷ LEFT ∷ n 9 ∷ RIGHT ∷ EQUALS ∷ n 1 ∷ END ∷ []; fault = too_many_actions }
    -- an M as ninth action: the lower (reading A50): ID=1 DO $R[1]=1 $R[2]=1 $R[3]=1 $R[4]=1 $R[5]=1 $R[6]=1 $R[7]=1 $R[8]=1 M=7
    ∷ record { tokens = ID ∷ EQUALS ∷ n 1 ∷ DO ∷ R ∷ LEFT ∷ n 1 ∷ RIGHT ∷ EQUALS ∷ n 1 ∷ R ∷ LEFT ∷ n 2 ∷ RIGHT ∷ EQUALS ∷ n 1 ∷ R ∷ LEFT ∷ n 3 ∷ RIGHT ∷ EQUALS ∷ n 1 ∷ R ∷ LEFT ∷ n 4 ∷ RIGHT ∷ EQUALS ∷ n 1 ∷ R ∷ LEFT ∷ n 5 ∷ RIGHT ∷ EQUALS ∷ n 1 ∷ R ∷ LEFT ∷ n 6 ∷ RIGHT ∷ EQUALS ∷ n 1 ∷ R ∷ LEFT ∷ n 7 ∷ RIGHT ∷ EQUALS ∷ n 1 ∷ R ∷ LEFT ∷ n 8 ∷ RIGHT ∷ EQUALS ∷ n 1 ∷ M ∷ EQUALS ∷ n 7 ∷ END ∷ []; fault = m_alone }
    -- an index with a point (reading A15): ID=1 DO $R[1.0]=1
    ∷ record { tokens = ID ∷ EQUALS ∷ n 1 ∷ DO ∷ R ∷ LEFT ∷ pointed 1000 ∷ RIGHT ∷ EQUALS ∷ n 1 ∷ END ∷ []; fault = not_in_grammar }
    -- NOT of a number (reading A24): ID=1 WHENEVER NOT $R[1]==1 DO $R[1]=1
    ∷ record { tokens = ID ∷ EQUALS ∷ n 1 ∷ WHENEVER ∷ NOT ∷ R ∷ LEFT ∷ n 1 ∷ RIGHT ∷ SAME ∷ n 1 ∷ DO ∷ R ∷ LEFT ∷ n 1 ∷ RIGHT ∷ EQUALS ∷ n 1 ∷ END ∷ []; fault = confused }
    -- a line number above 255 (reading A18): ID=1 DO LOCK(256)
    ∷ record { tokens = ID ∷ EQUALS ∷ n 1 ∷ DO ∷ LOCK ∷ OPEN ∷ n 256 ∷ CLOSE ∷ END ∷ []; fault = outside }
    -- document 000, logic operations, with an action: ID=1 WHENEVER ($A_IN[1]==1) OR ($A_IN[3]==0) DO $A_OUT[1]=1
    ∷ record { tokens = ID ∷ EQUALS ∷ n 1 ∷ WHENEVER ∷ OPEN ∷ IN ∷ LEFT ∷ n 1 ∷ RIGHT ∷ SAME ∷ n 1 ∷ CLOSE ∷ OR ∷ OPEN ∷ IN ∷ LEFT ∷ n 3 ∷ RIGHT ∷ SAME ∷ n 0 ∷ CLOSE ∷ DO ∷ OUT ∷ LEFT ∷ n 1 ∷ RIGHT ∷ EQUALS ∷ n 1 ∷ END ∷ []; fault = 0 }
    -- document 000, type conversion: ID=1 WHEN TRUE DO $AC_PARAM[1]=$AC_MARKER[1]
    ∷ record { tokens = ID ∷ EQUALS ∷ n 1 ∷ WHEN ∷ TRUE ∷ DO ∷ PARAM ∷ LEFT ∷ n 1 ∷ RIGHT ∷ EQUALS ∷ MARKER ∷ LEFT ∷ n 1 ∷ RIGHT ∷ END ∷ []; fault = 0 }
    -- document 000, type conversion: ID=1 WHEN TRUE DO $AC_MARKER[1]=$AC_PARAM[1]
    ∷ record { tokens = ID ∷ EQUALS ∷ n 1 ∷ WHEN ∷ TRUE ∷ DO ∷ MARKER ∷ LEFT ∷ n 1 ∷ RIGHT ∷ EQUALS ∷ PARAM ∷ LEFT ∷ n 1 ∷ RIGHT ∷ END ∷ []; fault = 0 }
    -- document 000, where document 01 decides otherwise (reading A27): ID=1 WHEN $A_IN[2]==TRUE DO $AC_MARKER[4]=$A_OUT[1]
    ∷ record { tokens = ID ∷ EQUALS ∷ n 1 ∷ WHEN ∷ IN ∷ LEFT ∷ n 2 ∷ RIGHT ∷ SAME ∷ TRUE ∷ DO ∷ MARKER ∷ LEFT ∷ n 4 ∷ RIGHT ∷ EQUALS ∷ OUT ∷ LEFT ∷ n 1 ∷ RIGHT ∷ END ∷ []; fault = confused }
    -- document 000, type conversion, 6 before 7: ID=1 WHEN $A_IN[1]==TRUE DO $A_OUT[0]=$AC_MARKER[1]
    ∷ record { tokens = ID ∷ EQUALS ∷ n 1 ∷ WHEN ∷ IN ∷ LEFT ∷ n 1 ∷ RIGHT ∷ SAME ∷ TRUE ∷ DO ∷ OUT ∷ LEFT ∷ n 0 ∷ RIGHT ∷ EQUALS ∷ MARKER ∷ LEFT ∷ n 1 ∷ RIGHT ∷ END ∷ []; fault = confused }
    -- document 000 section 5.9 (reading A27): ID=3 WHENEVER $A_IN[9]==TRUE DO $AC_MARKER[1]=1
    ∷ record { tokens = ID ∷ EQUALS ∷ n 3 ∷ WHENEVER ∷ IN ∷ LEFT ∷ n 9 ∷ RIGHT ∷ SAME ∷ TRUE ∷ DO ∷ MARKER ∷ LEFT ∷ n 1 ∷ RIGHT ∷ EQUALS ∷ n 1 ∷ END ∷ []; fault = confused }
    -- document 000 section 5.9 (reading A27): ID=4 WHENEVER $A_IN[10]==TRUE DO $AC_MARKER[2]=1
    ∷ record { tokens = ID ∷ EQUALS ∷ n 4 ∷ WHENEVER ∷ IN ∷ LEFT ∷ n 10 ∷ RIGHT ∷ SAME ∷ TRUE ∷ DO ∷ MARKER ∷ LEFT ∷ n 2 ∷ RIGHT ∷ EQUALS ∷ n 1 ∷ END ∷ []; fault = confused }
    -- document 000, time required, a line without a number: WHENEVER FALSE DO $AC_MARKER[0]=0
    ∷ record { tokens = WHENEVER ∷ FALSE ∷ DO ∷ MARKER ∷ LEFT ∷ n 0 ∷ RIGHT ∷ EQUALS ∷ n 0 ∷ END ∷ []; fault = not_in_grammar }
    -- document 000, time required, a line without a number: WHENEVER $AA_IM[Y]>10 DO $AC_MARKER[0]=1
    ∷ record { tokens = WHENEVER ∷ IM ∷ LEFT ∷ (X + 1) ∷ RIGHT ∷ MORE ∷ n 10 ∷ DO ∷ MARKER ∷ LEFT ∷ n 0 ∷ RIGHT ∷ EQUALS ∷ n 1 ∷ END ∷ []; fault = not_in_grammar }
    -- document 000 section 4.7.11: ID=1 WHEN $A_IN[1]==1 DO MOV[V]=1 FA[V]=700
    ∷ record { tokens = ID ∷ EQUALS ∷ n 1 ∷ WHEN ∷ IN ∷ LEFT ∷ n 1 ∷ RIGHT ∷ SAME ∷ n 1 ∷ DO ∷ MOV ∷ LEFT ∷ (X + 4) ∷ RIGHT ∷ EQUALS ∷ n 1 ∷ FA ∷ LEFT ∷ (X + 4) ∷ RIGHT ∷ EQUALS ∷ n 700 ∷ END ∷ []; fault = 0 }
    -- document 000, command axes: ID=1 WHEN $A_IN[1]==1 DO POS[X]=150 FA[X]=200
    ∷ record { tokens = ID ∷ EQUALS ∷ n 1 ∷ WHEN ∷ IN ∷ LEFT ∷ n 1 ∷ RIGHT ∷ SAME ∷ n 1 ∷ DO ∷ POS ∷ LEFT ∷ X ∷ RIGHT ∷ EQUALS ∷ n 150 ∷ FA ∷ LEFT ∷ X ∷ RIGHT ∷ EQUALS ∷ n 200 ∷ END ∷ []; fault = 0 }
    -- document 000, positioning: ID=1 EVERY $A_IN[1]>=1 DO POS[V]=100 FA[V]=560
    ∷ record { tokens = ID ∷ EQUALS ∷ n 1 ∷ EVERY ∷ IN ∷ LEFT ∷ n 1 ∷ RIGHT ∷ ATLEAST ∷ n 1 ∷ DO ∷ POS ∷ LEFT ∷ (X + 4) ∷ RIGHT ∷ EQUALS ∷ n 100 ∷ FA ∷ LEFT ∷ (X + 4) ∷ RIGHT ∷ EQUALS ∷ n 560 ∷ END ∷ []; fault = 0 }
    -- document 000, positioning: ID=2 EVERY $A_IN[2]>=1 DO POS[V]=$AA_IM[V] FA[V]=790
    ∷ record { tokens = ID ∷ EQUALS ∷ n 2 ∷ EVERY ∷ IN ∷ LEFT ∷ n 2 ∷ RIGHT ∷ ATLEAST ∷ n 1 ∷ DO ∷ POS ∷ LEFT ∷ (X + 4) ∷ RIGHT ∷ EQUALS ∷ IM ∷ LEFT ∷ (X + 4) ∷ RIGHT ∷ FA ∷ LEFT ∷ (X + 4) ∷ RIGHT ∷ EQUALS ∷ n 790 ∷ END ∷ []; fault = 0 }
    -- document 000 without its G code: a variable without index (reading A19): IDS=1 EVERY $A_IN==1 DO POS[X]=40
    ∷ record { tokens = IDS ∷ EQUALS ∷ n 1 ∷ EVERY ∷ IN ∷ SAME ∷ n 1 ∷ DO ∷ POS ∷ LEFT ∷ X ∷ RIGHT ∷ EQUALS ∷ n 40 ∷ END ∷ []; fault = not_in_grammar }
    -- document 000, axial feed: IDS=2 WHENEVER $A_IN[1]==1 DO POS[X]=100 FA[X]=$R[1]
    ∷ record { tokens = IDS ∷ EQUALS ∷ n 2 ∷ WHENEVER ∷ IN ∷ LEFT ∷ n 1 ∷ RIGHT ∷ SAME ∷ n 1 ∷ DO ∷ POS ∷ LEFT ∷ X ∷ RIGHT ∷ EQUALS ∷ n 100 ∷ FA ∷ LEFT ∷ X ∷ RIGHT ∷ EQUALS ∷ R ∷ LEFT ∷ n 1 ∷ RIGHT ∷ END ∷ []; fault = 0 }
    -- document 000, preset actual value: ID=1 WHEN TRUE DO POS[X]=40 FA[X]=1000
    ∷ record { tokens = ID ∷ EQUALS ∷ n 1 ∷ WHEN ∷ TRUE ∷ DO ∷ POS ∷ LEFT ∷ X ∷ RIGHT ∷ EQUALS ∷ n 40 ∷ FA ∷ LEFT ∷ X ∷ RIGHT ∷ EQUALS ∷ n 1000 ∷ END ∷ []; fault = 0 }
    -- document 000, couplings: ID=7 WHEN $R[1]==1 DO MOV[X]=1 FA[X]=$R[4]
    ∷ record { tokens = ID ∷ EQUALS ∷ n 7 ∷ WHEN ∷ R ∷ LEFT ∷ n 1 ∷ RIGHT ∷ SAME ∷ n 1 ∷ DO ∷ MOV ∷ LEFT ∷ X ∷ RIGHT ∷ EQUALS ∷ n 1 ∷ FA ∷ LEFT ∷ X ∷ RIGHT ∷ EQUALS ∷ R ∷ LEFT ∷ n 4 ∷ RIGHT ∷ END ∷ []; fault = 0 }
    -- document 000, a line without a condition: ID=1 DO POS[X]=100 FA[X]=100
    ∷ record { tokens = ID ∷ EQUALS ∷ n 1 ∷ DO ∷ POS ∷ LEFT ∷ X ∷ RIGHT ∷ EQUALS ∷ n 100 ∷ FA ∷ LEFT ∷ X ∷ RIGHT ∷ EQUALS ∷ n 100 ∷ END ∷ []; fault = 0 }
    ∷ []

-- every case has the fault that it says
unfoldable pub Holds : List Case → Type 0
Holds [] = Unit {0}
Holds (c ∷ cs) = (fault_of_line (line_at c.tokens 0) ≡ c.fault) × Holds cs

-- the worked lines have those faults
pub line-table : Holds line_cases
unfolding Holds line_cases line_at rest_at body_at line_parts id_fault opens_too_many moves_at actions_at action_at assignment_at unindexed_at command_at count_fault is_among are_apart moves_fault number_of wanting_fault assigned_at is_removal write_fault is_writable code_fault call_fault sight join_sights read_fault number_fault lower is_inside is_index index_of is_indexed index_at joined more read_product read_sum read_rest read_expression read_close read_variable read_truth operand_from read_operand sum_at expression_at
line-table = (refl, (refl, (refl, (refl, (refl, (refl, (refl, (refl, (refl, (refl, (refl, (refl, (refl, (refl, (refl, (refl, (refl, (refl, (refl, (refl, (refl, (refl, (refl, (refl, (refl, (refl, (refl, (refl, (refl, (refl, (refl, (refl, (refl, (refl, (refl, tt)))))))))))))))))))))))))))))))))))
