-- Worked lines of document 01 that are about loading, lines with curves, and lines with moves, computed. Assumes nothing.
use Rattle.std.specs.Prelude.{◌≡◌, refl, [], ◌∷◌, map, ℕ}
use Prim.Native.String.{String}
use Rattle.values.specs.Codes.{makes_no_token, too_deep, not_in_grammar, outside, read_only, used_above, not_in_set, wrong_curve, two_moves}
use Rattle.tokens.specs.Index.{is_inside}
use Rattle.tokens.specs.SingleFault.{lower, opens_too_many, wanting_fault, number_fault, read_fault, is_writable, write_fault, code_fault, id_fault, call_fault, curve_fault}
use Rattle.values.specs.Value.{less_than}
use Rattle.checking.specs.CurveDefinition.{limits_fault}
use Rattle.checking.specs.Fault.{join_sights, sight, count_fault, is_among, are_apart, moves_fault}
use Rattle.grammar.specs.Tree.{operand_tokens, action_tokens, actions_tokens, condition_tokens, line_tokens, parameter_tokens, definition_front}
use Rattle.grammar.specs.Meaning.{operand_meaning}
use Rattle.grammar.specs.TreeFault.{right_fault, is_removal_tree, assigned_fault, action_fault, actions_fault, moves_of, parts_fault, line_fault, curve_in, numbers_fault, definition_fault}
use Rattle.grammar.specs.TreeNames.{actions_names, names_in, each_known}
use Rattle.grammar.specs.TreeOf.{factors_guess, product_guess, terms_guess, sum_guess, sums_guess, expression_guess, operand_first, operand_guess, place_guess, action_guess, actions_guess, condition_guess, line_guess, same_tokens, if_written, tree_of, parameter_guess, definition_guess, definition_of}
use Rattle.engine.specs.Set.{rank_in, empty_set, without_mark, with_line}
use Rattle.engine.specs.State.{power_on}
use Rattle.text.specs.Byte.{bytes, run}
use Rattle.text.specs.Word.{word_token}
use Rattle.text.specs.Number.{written, is_fit, number_token}
use Rattle.text.specs.First.{word_first, behind_point, number_with, number_first, sign_first, first_token}
use Rattle.text.specs.Tokens.{tokens_from, tokens_of}
use Rattle.text.specs.Lines.{split, without_return, without_comment, bodies, is_blank, numbered, token_lines}
use Rattle.reader.specs.Row.{numbers_of, least_from, least_above, rising, placed, curve_slots, set_of}
use Rattle.reader.specs.Load.{fault_of, curve_fault_of, curve_below, line_below, tokens_fault, fault_below, kept_with, rows_from, first_not, named, outcome, load_answer, load_set}

-- the code and the line that loading answers
abbrev told : String → ℕ × ℕ
told t = ((load_answer (bytes t)).code, (load_answer (bytes t)).line)

tried :
    map told ("" ∷ "ID=1 EVERY $A_IN[1]==1 DO $AC_MARKER[0]=$AC_MARKER[0]+1 M=7\n" ∷ "ID=1 DO $R[99]=1" ∷ "ID=1 DO $R[100]=1" ∷ "\n;c\nID=1 WHEN $R[1]>1 AND $R[2]>1 DO $R[1]=1\r\n"
    ∷ "ID=1 WHEN ((((((((TRUE)))))))) DO M=1" ∷ "ID=1 WHEN (((((((((TRUE))))))))) DO M=1" ∷ "ID=2 DO $R[1]=1\nID=1 DO LOCK(2)\nID=2 DO LOCK(3)" ∷ "ID=2 DO $R[1]=1\nID=1 DO LOCK(2) UNLOCK(7)" ∷ "ID=1 DO $R[1]=1$R[2]=2.50" ∷ "ID=1DO $R[1]=1" ∷ [])
    ≡ (0, 0) ∷ (0, 0) ∷ (0, 0) ∷ (read_only, 1) ∷ (not_in_grammar, 3) ∷ (0, 0) ∷ (too_deep, 1) ∷ (used_above, 3) ∷ (not_in_set, 2) ∷ (0, 0) ∷ (makes_no_token, 1) ∷ []
unfolding factors_guess product_guess terms_guess sum_guess sums_guess expression_guess operand_first operand_guess action_guess actions_guess condition_guess line_guess same_tokens if_written tree_of operand_tokens action_tokens actions_tokens condition_tokens line_tokens operand_meaning right_fault is_removal_tree assigned_fault action_fault actions_fault moves_of parts_fault line_fault is_among are_apart moves_fault actions_names names_in each_known is_inside lower opens_too_many wanting_fault number_fault read_fault join_sights sight is_writable write_fault code_fault id_fault call_fault count_fault rank_in empty_set power_on run word_token written is_fit number_token word_first behind_point number_with number_first sign_first first_token tokens_from tokens_of split without_return without_comment bodies is_blank numbered token_lines numbers_of least_from least_above rising without_mark with_line placed curve_slots set_of fault_of line_below tokens_fault fault_below kept_with rows_from first_not named outcome load_answer load_set
tried = refl

-- document 02, Req 03: a curve and a line that uses it; -0 is not below 0; lower above upper; a curve defined twice; one that is used and not defined, and one that is defined below; 7 before 13; 5 behind a numbered line; 11 before 13
curves :
    map told ("FCTDEF(1,0,120,160,-2,0,0)\nID=1 DO SYNFCT(1,$R[1],$R[2])" ∷ "FCTDEF(3,0,-0,1,0,0,0)" ∷ "FCTDEF(1,2,1,0,0,0,0)" ∷ "FCTDEF(1,1,1,0,0,0,0)\nFCTDEF(1,1,1,0,0,0,0)"
    ∷ "FCTDEF(1,1,1,0,0,0,0)\nID=1 DO SYNFCT(2,$R[1],$R[2])" ∷ "ID=1 DO SYNFCT(1,$R[1],$R[2])\nFCTDEF(1,1,1,0,0,0,0)" ∷ "FCTDEF(4,2,1,0,0,0,0)" ∷ "ID=1 DO $R[1]=1\nFCTDEF(4,2,1,0,0,0,0)"
    ∷ "ID=1 DO $R[1]=1\nID=1 DO SYNFCT(1,$R[1],$R[2])" ∷ [])
    ≡ (0, 0) ∷ (0, 0) ∷ (wrong_curve, 1) ∷ (wrong_curve, 2) ∷ (wrong_curve, 2) ∷ (wrong_curve, 1) ∷ (outside, 1) ∷ (not_in_grammar, 2) ∷ (used_above, 2) ∷ []
unfolding factors_guess product_guess terms_guess sum_guess sums_guess expression_guess operand_first operand_guess place_guess action_guess actions_guess condition_guess line_guess same_tokens if_written tree_of parameter_guess definition_guess definition_of parameter_tokens definition_front operand_tokens action_tokens actions_tokens condition_tokens line_tokens operand_meaning right_fault is_removal_tree assigned_fault action_fault actions_fault moves_of parts_fault line_fault is_among are_apart moves_fault curve_in numbers_fault definition_fault limits_fault less_than curve_fault actions_names names_in each_known is_inside lower opens_too_many wanting_fault number_fault read_fault join_sights sight is_writable write_fault code_fault id_fault call_fault count_fault rank_in empty_set power_on run word_token written is_fit number_token word_first behind_point number_with number_first sign_first first_token tokens_from tokens_of split without_return without_comment bodies is_blank numbered token_lines numbers_of least_from least_above rising without_mark with_line placed curve_slots set_of fault_of line_below curve_fault_of curve_below tokens_fault fault_below kept_with rows_from first_not named outcome load_answer load_set
curves = refl

-- document 02, Req 08: POS twice, POS and a stop; FA is no move, and two lines may move one axis; 14 before 11 and before 13, 7 before 14; 14 of a later line before 12 of an earlier one
moves :
    map told ("ID=1 DO POS[X]=1 POS[X]=2" ∷ "ID=1 DO POS[Z]=1 MOV[Z]=0" ∷ "ID=1 DO FA[X]=1 POS[X]=2 FA[X]=3\nID=2 DO POS[X]=1 POS[Y]=1" ∷ "ID=1 DO $R[1]=1\nID=1 DO MOV[X]=1 MOV[X]=1"
    ∷ "ID=1 DO SYNFCT(1,$R[1],$R[2]) POS[X]=1 POS[X]=1" ∷ "ID=1 DO POS[X]=1 POS[X]=1 $R[200]=1" ∷ "ID=1 DO LOCK(9)\nID=2 DO POS[X]=1 POS[X]=2" ∷ [])
    ≡ (two_moves, 1) ∷ (two_moves, 1) ∷ (0, 0) ∷ (two_moves, 2) ∷ (two_moves, 1) ∷ (outside, 1) ∷ (two_moves, 2) ∷ []
unfolding factors_guess product_guess terms_guess sum_guess sums_guess expression_guess operand_first operand_guess place_guess action_guess actions_guess condition_guess line_guess same_tokens if_written tree_of parameter_guess definition_guess definition_of parameter_tokens definition_front operand_tokens action_tokens actions_tokens condition_tokens line_tokens operand_meaning right_fault is_removal_tree assigned_fault action_fault actions_fault moves_of parts_fault line_fault is_among are_apart moves_fault curve_in numbers_fault definition_fault limits_fault less_than curve_fault actions_names names_in each_known is_inside lower opens_too_many wanting_fault number_fault read_fault join_sights sight is_writable write_fault code_fault id_fault call_fault count_fault rank_in empty_set power_on run word_token written is_fit number_token word_first behind_point number_with number_first sign_first first_token tokens_from tokens_of split without_return without_comment bodies is_blank numbered token_lines numbers_of least_from least_above rising without_mark with_line placed curve_slots set_of fault_of line_below curve_fault_of curve_below tokens_fault fault_below kept_with rows_from first_not named outcome load_answer load_set
moves = refl
