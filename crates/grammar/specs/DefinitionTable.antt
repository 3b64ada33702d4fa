-- Worked lines of document 02, Req 03, computed over the definitions: FCTDEF and SYNFCT.
use Rattle.std.specs.Prelude.{Ok, ◌≡◌, refl, List, [], ◌∷◌, ◌++◌, ℕ, pos, neg_ℤ}
use Rattle.values.specs.Codes.{too_deep, not_in_grammar, outside, read_only, wrong_curve}
use Rattle.values.specs.Value.{less_than}
use Rattle.checking.specs.CurveDefinition.{fault_of_definition, if_read, limits_fault, judged_curve, number_place, parameter_at, part_at, part_behind, curve_from, ended_by, defined_by, is_defining, definition_at}
use Rattle.checking.specs.Fault.{line_at, rest_at, body_at, line_parts, moves_at, actions_at, action_at, unindexed_at, is_given, is_synfct, synfct_fault, synfct_at, count_fault, is_among, are_apart, moves_fault, number_of, names_from}
use Rattle.tokens.specs.Token.{END, EQUALS, MINUS, OPEN, CLOSE, LEFT, RIGHT, ID, DO, COMMA, FCTDEF, IN, OUT, MARKER, R, FIFO1, IM, SYNFCT, X}
use Rattle.tokens.specs.Descent.{is_index, index_of, is_indexed, index_at}
use Rattle.tokens.specs.Index.{is_inside}
use Rattle.tokens.specs.SingleFault.{curve_fault, id_fault, opens_too_many, write_fault, is_writable, read_fault, number_fault, lower}
use Rattle.grammar.specs.LineTable.{n, pointed, Case, Holds}

-- ---- FCTDEF

-- FCTDEF ( and a number, the rest of its parameters, ) and the end
abbrev defining : ℕ → List ℕ → List ℕ
defining k l = FCTDEF ∷ OPEN ∷ n k ∷ COMMA ∷ l ++ (CLOSE ∷ END ∷ [])

unfoldable pub definition_cases : List Case
definition_cases =
    -- document 02: FCTDEF(1,0,120,160,-2,0,0)
    record { tokens = defining 1 (n 0 ∷ COMMA ∷ n 120 ∷ COMMA ∷ n 160 ∷ COMMA ∷ MINUS ∷ n 2 ∷ COMMA ∷ n 0 ∷ COMMA ∷ n 0 ∷ []); fault = 0 }
    -- document 02: FCTDEF(2,-100,100,500,-100,0,0)
    ∷ record { tokens = defining 2 (MINUS ∷ n 100 ∷ COMMA ∷ n 100 ∷ COMMA ∷ n 500 ∷ COMMA ∷ MINUS ∷ n 100 ∷ COMMA ∷ n 0 ∷ COMMA ∷ n 0 ∷ []); fault = 0 }
    -- equal limits, one written -0 (readings D21, D25): FCTDEF(3,0,-0,0.5,0,0,0)
    ∷ record { tokens = defining 3 (n 0 ∷ COMMA ∷ MINUS ∷ n 0 ∷ COMMA ∷ pointed 500 ∷ COMMA ∷ n 0 ∷ COMMA ∷ n 0 ∷ COMMA ∷ n 0 ∷ []); fault = 0 }
    -- the lower limit above the upper one: FCTDEF(1,1,-1,0,0,0,0)
    ∷ record { tokens = defining 1 (n 1 ∷ COMMA ∷ MINUS ∷ n 1 ∷ COMMA ∷ n 0 ∷ COMMA ∷ n 0 ∷ COMMA ∷ n 0 ∷ COMMA ∷ n 0 ∷ []); fault = wrong_curve }
    -- 7 before 13, of the curve's number (reading D17): FCTDEF(4,1,-1,0,0,0,0)
    ∷ record { tokens = defining 4 (n 1 ∷ COMMA ∷ MINUS ∷ n 1 ∷ COMMA ∷ n 0 ∷ COMMA ∷ n 0 ∷ COMMA ∷ n 0 ∷ COMMA ∷ n 0 ∷ []); fault = outside }
    -- 7 of a parameter: FCTDEF(1,0,1,0,0,0,1000001)
    ∷ record { tokens = defining 1 (n 0 ∷ COMMA ∷ n 1 ∷ COMMA ∷ n 0 ∷ COMMA ∷ n 0 ∷ COMMA ∷ n 0 ∷ COMMA ∷ n 1000001 ∷ []); fault = outside }
    -- a parameter too few (reading D15): FCTDEF(1,0,1,0,0,0)
    ∷ record { tokens = defining 1 (n 0 ∷ COMMA ∷ n 1 ∷ COMMA ∷ n 0 ∷ COMMA ∷ n 0 ∷ COMMA ∷ n 0 ∷ []); fault = not_in_grammar }
    -- one too many: FCTDEF(1,0,1,0,0,0,0,0)
    ∷ record { tokens = defining 1 (n 0 ∷ COMMA ∷ n 1 ∷ COMMA ∷ n 0 ∷ COMMA ∷ n 0 ∷ COMMA ∷ n 0 ∷ COMMA ∷ n 0 ∷ COMMA ∷ n 0 ∷ []); fault = not_in_grammar }
    -- two minus signs (reading D16): FCTDEF(1,--1,1,0,0,0,0)
    ∷ record { tokens = defining 1 (MINUS ∷ MINUS ∷ n 1 ∷ COMMA ∷ n 1 ∷ COMMA ∷ n 0 ∷ COMMA ∷ n 0 ∷ COMMA ∷ n 0 ∷ COMMA ∷ n 0 ∷ []); fault = not_in_grammar }
    -- more behind the ): FCTDEF(1,0,1,0,0,0,0)1
    ∷ record { tokens = FCTDEF ∷ OPEN ∷ n 1 ∷ COMMA ∷ n 0 ∷ COMMA ∷ n 1 ∷ COMMA ∷ n 0 ∷ COMMA ∷ n 0 ∷ COMMA ∷ n 0 ∷ COMMA ∷ n 0 ∷ CLOSE ∷ n 1 ∷ END ∷ []; fault = not_in_grammar }
    -- the curve's number with a point (reading D17): FCTDEF(1.5,0,1,0,0,0,0)
    ∷ record { tokens = FCTDEF ∷ OPEN ∷ pointed 1500 ∷ COMMA ∷ n 0 ∷ COMMA ∷ n 1 ∷ COMMA ∷ n 0 ∷ COMMA ∷ n 0 ∷ COMMA ∷ n 0 ∷ COMMA ∷ n 0 ∷ CLOSE ∷ END ∷ []; fault = not_in_grammar }
    -- nine brackets, 4 before 5 (reading D29): FCTDEF(((((((((
    ∷ record { tokens = FCTDEF ∷ OPEN ∷ OPEN ∷ OPEN ∷ OPEN ∷ OPEN ∷ OPEN ∷ OPEN ∷ OPEN ∷ OPEN ∷ END ∷ []; fault = too_deep }
    ∷ []

-- every case has the fault that it says
unfoldable pub Defines : List Case → Type 0
Defines [] = Unit {0}
Defines (c ∷ cs) = (fault_of_definition (definition_at c.tokens 0) ≡ c.fault) × Defines cs

-- the worked definitions have those faults
pub definition-table : Defines definition_cases
unfolding Defines definition_cases if_read limits_fault judged_curve number_place parameter_at part_at part_behind curve_from ended_by defined_by is_defining definition_at curve_fault opens_too_many number_fault lower less_than
definition-table = (refl, (refl, (refl, (refl, (refl, (refl, (refl, (refl, (refl, (refl, (refl, (refl, tt))))))))))))

-- document 02's second curve, as it is defined
pub second-curve : definition_at (defining 2 (MINUS ∷ n 100 ∷ COMMA ∷ n 100 ∷ COMMA ∷ n 500 ∷ COMMA ∷ MINUS ∷ n 100 ∷ COMMA ∷ n 0 ∷ COMMA ∷ n 0 ∷ [])) 0
    ≡ Ok (record { number = 2; curve = record { lower = neg_ℤ (pos 100000); upper = pos 100000; a0 = pos 500000; a1 = neg_ℤ (pos 100000); a2 = pos 0; a3 = pos 0 }; end = 18 })
unfolding if_read limits_fault judged_curve number_place parameter_at part_at part_behind curve_from ended_by defined_by is_defining definition_at curve_fault opens_too_many number_fault lower less_than
second-curve = refl

-- ---- SYNFCT

-- ID=1 DO SYNFCT( and a number, the rest, ) and the end
abbrev working : ℕ → List ℕ → List ℕ
working k l = ID ∷ EQUALS ∷ n 1 ∷ DO ∷ SYNFCT ∷ OPEN ∷ n k ∷ COMMA ∷ l ++ (CLOSE ∷ END ∷ [])

unfoldable pub synfct_cases : List Case
synfct_cases =
    -- ID=1 DO SYNFCT(1,$AC_MARKER[1],$AA_IM[X])
    record { tokens = working 1 (MARKER ∷ LEFT ∷ n 1 ∷ RIGHT ∷ COMMA ∷ IM ∷ LEFT ∷ X ∷ RIGHT ∷ []); fault = 0 }
    -- FIFO [0] is written: ID=1 DO SYNFCT(3,$AC_FIFO1[0],$AC_FIFO1[4])
    ∷ record { tokens = working 3 (FIFO1 ∷ LEFT ∷ n 0 ∷ RIGHT ∷ COMMA ∷ FIFO1 ∷ LEFT ∷ n 4 ∷ RIGHT ∷ []); fault = 0 }
    -- FIFO [0] may not be read (reading D20): ID=1 DO SYNFCT(1,$R[1],$AC_FIFO1[0])
    ∷ record { tokens = working 1 (R ∷ LEFT ∷ n 1 ∷ RIGHT ∷ COMMA ∷ FIFO1 ∷ LEFT ∷ n 0 ∷ RIGHT ∷ []); fault = read_only }
    -- a target that text may not write: ID=1 DO SYNFCT(1,$A_IN[1],$R[1])
    ∷ record { tokens = working 1 (IN ∷ LEFT ∷ n 1 ∷ RIGHT ∷ COMMA ∷ R ∷ LEFT ∷ n 1 ∷ RIGHT ∷ []); fault = read_only }
    -- the curve's number, 7 before 8 (reading D17): ID=1 DO SYNFCT(0,$A_IN[1],$R[1])
    ∷ record { tokens = working 0 (IN ∷ LEFT ∷ n 1 ∷ RIGHT ∷ COMMA ∷ R ∷ LEFT ∷ n 1 ∷ RIGHT ∷ []); fault = outside }
    -- a number is no variable (reading D19): ID=1 DO SYNFCT(1,$A_OUT[1],1)
    ∷ record { tokens = working 1 (OUT ∷ LEFT ∷ n 1 ∷ RIGHT ∷ COMMA ∷ n 1 ∷ []); fault = not_in_grammar }
    ∷ []

-- the worked lines have those faults
pub synfct-table : Holds synfct_cases
unfolding Holds synfct_cases line_at rest_at body_at line_parts id_fault opens_too_many moves_at actions_at action_at unindexed_at is_given is_synfct synfct_fault synfct_at count_fault is_among are_apart moves_fault number_of names_from write_fault is_writable read_fault curve_fault lower is_inside is_index index_of is_indexed index_at
synfct-table = (refl, (refl, (refl, (refl, (refl, (refl, tt))))))
