-- Texts, loaded and printed, computed: lines by rising number, without comment, blank line, needless zeros and needless spaces (document 02, Req 01); and curves before them, by rising number, where -0 stays
-- as it was written (Req 03). Assumes nothing.
use Rattle.std.specs.Prelude.{◌≡◌, refl, List, ◌++◌, map, ℕ}
use Rattle.std.proofs.Common.{◌∙◌}
use Rattle.tokens.specs.Index.{is_inside}
use Rattle.tokens.specs.SingleFault.{lower, opens_too_many, wanting_fault, number_fault, read_fault, is_writable, write_fault, code_fault, id_fault, call_fault, curve_fault}
use Rattle.values.specs.Value.{less_than}
use Rattle.checking.specs.CurveDefinition.{limits_fault}
use Rattle.checking.specs.Fault.{join_sights, sight, count_fault, is_among, are_apart, moves_fault}
use Rattle.grammar.specs.Tree.{operand_tokens, action_tokens, actions_tokens, condition_tokens, line_tokens, parameter_tokens, definition_front}
use Rattle.grammar.specs.Meaning.{operand_meaning}
use Rattle.grammar.specs.TreeFault.{right_fault, is_removal_tree, assigned_fault, action_fault, actions_fault, moves_of, parts_fault, line_fault, curve_in, numbers_fault, definition_fault}
use Rattle.grammar.specs.TreeNames.{actions_names, names_in, each_known}
use Rattle.grammar.specs.TreeOf.{factors_guess, product_guess, terms_guess, sum_guess, sums_guess, expression_guess, operand_first, operand_guess, place_guess, action_guess, actions_guess, condition_guess, line_guess, same_tokens, if_written, tree_of, parameter_guess, definition_guess, definition_of}
use Rattle.engine.specs.Set.{rank_in}
use Rattle.text.specs.Byte.{bytes, run}
use Rattle.text.specs.Word.{word_token}
use Rattle.text.specs.Number.{written, is_fit, number_token}
use Rattle.text.specs.First.{word_first, behind_point, number_with, number_first, sign_first, first_token}
use Rattle.text.specs.Tokens.{tokens_from, tokens_of}
use Rattle.text.specs.Lines.{split, without_return, without_comment, bodies, is_blank, numbered, token_lines}
use Rattle.text.specs.Digits.{digits_up}
use Rattle.reader.specs.Row.{numbers_of, least_from, least_above, rising, by_number}
use Rattle.reader.specs.Load.{fault_of, curve_fault_of, curve_below, line_below, tokens_fault, fault_below, taken, kept_with, rows_from, first_not, named, outcome, load_set}
use Rattle.loading.specs.TextTrees.{curve_lines, row_lines}
use Rattle.loading.specs.TakenLaws.{there_of, curves_added, kept_of}
use Rattle.print.specs.TokenText.{part_digits, part_text, number_text, name_text, token_text, needs_space, gap, line_text}
use Rattle.print.specs.PrintText.{behind_text, rows_text, print_text}
use Rattle.round_trip.specs.LoadedRowsLaws.{tokens, loaded-print}

abbrev text : List ℕ
text = bytes "IDS=020 EVERY ( $R[1] > 01.500 ) DO M=07 ; up\r\n\nID=3 DO $AC_MARKER[00]=$AC_MARKER[0]+1.0 LOCK(20)\n"

abbrev print : List ℕ
print = bytes "ID=3 DO$AC_MARKER[0]=$AC_MARKER[0]+1 LOCK(20)\nIDS=20 EVERY($R[1]>1.5)DO M=7"

-- with curves
abbrev curves_text : List ℕ
curves_text = bytes "FCTDEF( 02, -0 , 10.50,0,1,0,0) ; up\nFCTDEF(1,-1,1,0,0.0,-0.0,0)\n\nIDS=20 DO SYNFCT(02,$R[1],$R[2])\nID=3 DO SYNFCT( 1 , $AC_MARKER[0], $AA_IM[X] )"

abbrev curves_print : List ℕ
curves_print = bytes "FCTDEF(1,-1,1,0,0,-0,0)\nFCTDEF(2,-0,10.5,0,1,0,0)\nID=3 DO SYNFCT(1,$AC_MARKER[0],$AA_IM[X])\nIDS=20 DO SYNFCT(2,$R[1],$R[2])"

-- the text t is taken, and its rows print as p
abbrev Prints : List ℕ → List ℕ → Type 0
Prints t p = (outcome t ≡ taken (kept_of t)) × (rows_text (there_of (kept_of t).curves ++ map tokens (by_number (kept_of t).rows)) ≡ p)

computed : Prints text print × Prints curves_text curves_print
unfolding factors_guess product_guess terms_guess sum_guess sums_guess expression_guess operand_first operand_guess place_guess action_guess actions_guess condition_guess line_guess same_tokens if_written tree_of parameter_guess definition_guess definition_of parameter_tokens definition_front operand_tokens action_tokens actions_tokens condition_tokens line_tokens operand_meaning right_fault is_removal_tree assigned_fault action_fault actions_fault line_fault curve_in numbers_fault definition_fault limits_fault less_than curve_fault actions_names names_in each_known is_inside lower opens_too_many wanting_fault number_fault read_fault join_sights sight is_writable write_fault code_fault id_fault call_fault count_fault rank_in run word_token written is_fit number_token word_first behind_point number_with number_first sign_first first_token tokens_from tokens_of split without_return without_comment bodies is_blank numbered token_lines numbers_of least_from least_above fault_of curve_fault_of curve_below line_below tokens_fault fault_below kept_with rows_from first_not named outcome rising curve_lines row_lines curves_added there_of digits_up part_digits part_text number_text name_text token_text needs_space gap line_text behind_text rows_text moves_of parts_fault is_among are_apart moves_fault
computed = ((refl, refl), (refl, refl))

tried : (print_text (load_set text) ≡ print) × (print_text (load_set curves_text) ≡ curves_print)
tried = (
  loaded-print text (kept_of text) computed.0.0 ∙ computed.0.1,
  loaded-print curves_text (kept_of curves_text) computed.1.0 ∙ computed.1.1,
)
