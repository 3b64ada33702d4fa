-- Faults 6 to 10 and 14 of a line as a tree, 7 and 13 of a definition as a tree, and what the check tells of a line that is written as it (document 01, "Lines of text" and "Codes"; document 02, Req 03 and Req 08). Definitions only.
use Rattle.std.specs.Prelude.{◌≡◌, ◌⊎◌, Bool, true, false, cond, ◌&&◌, List, [], ◌∷◌, ◌++◌, ℕ, suc, ◌+◌, ◌-◌, ◌≤◌, ◌<◌, eqb, ℤ, length, get_or, Result, Ok, Err}
use Rattle.values.specs.Codes.{confused, too_many_actions, two_moves}
use Rattle.values.specs.Size.{signed_number}
use Rattle.values.specs.declared.curve.Curve.{Curve}
use Rattle.checking.specs.declared.line.Line.{Line as Told}
use Rattle.checking.specs.declared.definition.Definition.{Definition as Defined}
use Rattle.checking.specs.CurveDefinition.{limits_fault, judged_curve}
use Rattle.tokens.specs.Token.{IDS, IM, is_fifo, is_move, thousandths, axis_of}
use Rattle.grammar.specs.Tree.{Operand, number, variable, position, truth, bracket, minus, not, product, Factors, no_factor, factor, Sum, sum, Terms, no_term, term, Action, assign, assign_position, drive, code, call, synfct, place_word, place_index, Condition, always, under, Line, line, Parameter, Definition, condition_tokens, line_tokens, definition_front}
use Rattle.grammar.specs.TreeNames.{names_in, has_names}
use Rattle.tokens.specs.Descent.{Answer, good, stop}
use Rattle.grammar.specs.Meaning.{sum_meaning, expression_meaning}
use Rattle.tokens.specs.SingleFault.{lower, read_fault, write_fault, code_fault, id_fault, call_fault, curve_fault, number_fault}
use Rattle.checking.specs.Fault.{Sight, wanting, sight, count_fault, moves_fault}

-- ---- 6 to 8 in an expression

-- where a yes/no (true) or a number (false) is wanted
abbrev pub wanted_fault : Bool → Answer Sight → ℕ
wanted_fault t (good a) = lower (wanting t a) a.fault
wanted_fault t (stop k) = k

-- a right side: a number is wanted
unfoldable pub right_fault : Sum → ℕ
right_fault a = wanted_fault false (sum_meaning sight a)

-- ---- 6 to 9 in an action

-- FIFO [0]
abbrev pub is_fifo_zero : Operand → Bool
is_fifo_zero (number n) = false
is_fifo_zero (variable w v i) = is_fifo w && eqb i 0
is_fifo_zero (position x v) = false
is_fifo_zero (truth b) = false
is_fifo_zero (bracket e) = false
is_fifo_zero (minus a) = false
is_fifo_zero (not a) = false

-- no operator follows
abbrev pub is_alone : Factors → Terms → Bool
is_alone no_factor no_term = true
is_alone no_factor (term o v a r) = false
is_alone (factor o v a r) t = false

-- FIFO [0] as a whole, unbracketed right side
unfoldable pub is_removal_tree : Sum → Bool
is_removal_tree (sum (product a r) t) = is_fifo_zero a && is_alone r t

-- the right side of an assignment to a variable
unfoldable pub assigned_fault : Sum → ℕ
assigned_fault a = cond (is_removal_tree a) 0 (right_fault a)

-- an action of a line with the keyword kw
unfoldable pub action_fault : ℕ → Action → ℕ
action_fault kw (assign w v i a) = lower (write_fault w i) (assigned_fault a)
action_fault kw (assign_position x v a) = lower (write_fault IM (axis_of x)) (assigned_fault a)
action_fault kw (drive w v x u a) = right_fault a
action_fault kw (code n) = code_fault kw n
action_fault kw (call w v n) = call_fault w n
action_fault kw (synfct n y z) = lower (curve_fault n) (lower (write_fault (place_word y) (place_index y)) (read_fault (place_word z) (place_index z)))

-- one or more actions
unfoldable pub actions_fault : ℕ → Action → List Action → ℕ
actions_fault kw a [] = action_fault kw a
actions_fault kw a (b ∷ r) = lower (action_fault kw a) (actions_fault kw b r)

-- ---- 6 to 10 and 14 in a line

-- the keyword's token, or 0
abbrev pub keyword_of : Condition → ℕ
keyword_of always = 0
keyword_of (under w v e) = w

-- a condition: a yes/no is wanted
abbrev pub condition_fault : Condition → ℕ
condition_fault always = 0
condition_fault (under w v e) = wanted_fault true (expression_meaning sight e)

-- the axis that an action moves, by POS or MOV
abbrev pub move_of : Action → List ℕ
move_of (assign w v i a) = []
move_of (assign_position x v a) = []
move_of (drive w v x u a) = cond (is_move w) (axis_of x ∷ []) []
move_of (code n) = []
move_of (call w v n) = []
move_of (synfct n y z) = []

-- the axes that one or more actions move, one behind the other, and those that a line moves
unfoldable pub moves_of : Action → List Action → List ℕ
moves_of a [] = move_of a
moves_of a (b ∷ r) = move_of a ++ moves_of b r

abbrev pub moves_in : Line → List ℕ
moves_in (line w v n c a r) = moves_of a r

-- the lowest fault of a line's number, condition and actions, and of more than eight actions
unfoldable pub parts_fault : Line → ℕ
parts_fault (line w v n c a r) =
    lower (lower (id_fault n) (condition_fault c)) (lower (actions_fault (keyword_of c) a r) (count_fault (suc (length r))))

-- that fault, or else 14 for two moves of one axis
unfoldable pub line_fault : Line → ℕ
line_fault l = lower (parts_fault l) (moves_fault (moves_in l))

-- no two of these axes are the same
abbrev pub AxesApart : List ℕ → Type 0
AxesApart xs = (i j : ℕ) → i < j → j < length xs → get_or xs i 0 ≡ get_or xs j 0 → ⊥

-- what the fault of a line's parts is: 0 for none, or one of 6 to 10
abbrev pub PartFault : ℕ → Type 0
PartFault n = (n ≡ 0) ⊎ ((confused ≤ n) × (n ≤ too_many_actions))

-- what a line's fault is: such a one, or 14
abbrev pub Proper : ℕ → Type 0
Proper n = PartFault n ⊎ (n ≡ two_moves)

-- ---- what the check tells

-- where the condition lies of a line that is written from p on; 0 if it has none
abbrev pub condition_place : ℕ → Condition → ℕ
condition_place p always = 0
condition_place p (under w v e) = p + 4

-- the parts of a line without a fault that is written from p on
unfoldable pub parts_from : ℕ → Line → Told
parts_from p (line w v n c a r) = record {
  number = n;
  ids = eqb w IDS;
  keyword = keyword_of c;
  condition = condition_place p c;
  actions = p + (length (condition_tokens c) + 4);
  end = p + (length (line_tokens (line w v n c a r)) - 1);
  names = has_names (names_in (line w v n c a r));
}

-- its lowest fault, or its parts
unfoldable pub told_from : ℕ → Line → Result Told ℕ
told_from p l = elim (eqb (line_fault l) 0) [ true ↦ Ok (parts_from p l) | false ↦ Err (line_fault l) ]

-- ---- a definition

-- a parameter's value
abbrev pub parameter_value : Parameter → ℤ
parameter_value x = signed_number x.negative (thousandths x.number)

-- the curve that it defines
unfoldable pub curve_in : Definition → Curve
curve_in d = record {
  lower = parameter_value d.lower;
  upper = parameter_value d.upper;
  a0 = parameter_value d.a0;
  a1 = parameter_value d.a1;
  a2 = parameter_value d.a2;
  a3 = parameter_value d.a3;
}

-- the lowest fault of two, the second that of a parameter's number
abbrev pub with_parameter : ℕ → Parameter → ℕ
with_parameter f x = lower f (number_fault x.number)

-- 7 of its curve's number and of its parameters' numbers
unfoldable pub numbers_fault : Definition → ℕ
numbers_fault d =
    with_parameter (with_parameter (with_parameter (with_parameter (with_parameter (with_parameter (curve_fault d.number) d.lower) d.upper) d.a0) d.a1) d.a2) d.a3

-- the lowest fault of a definition: 7, or 13 of its limits
unfoldable pub definition_fault : Definition → ℕ
definition_fault d = lower (numbers_fault d) (limits_fault (curve_in d))

-- what the check tells of a definition that is written from p on: its lowest fault, or its curve
unfoldable pub defined_from : ℕ → Definition → Result Defined ℕ
defined_from p d = judged_curve d.number (numbers_fault d) (curve_in d) (p + length (definition_front d))
