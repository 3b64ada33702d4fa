-- Document 01's example of synrun, and some inputs beside it, computed; and what synstat prints of such. Assumes nothing.
use Rattle.std.specs.Prelude.{◌≡◌, refl, List, [], ◌∷◌, map, ℕ}
use Prim.Native.String.{String}
use Rattle.values.specs.Value.{in_range, valued, sum_of, difference_of, product_of, quotient_of, negation_of, less_than, equal_to, whole_units, nearest_units, marker_of, output_of, feed_of, sign_of}
use Rattle.values.specs.Time.{millis_of, grown_timer, written_timer}
use Rattle.values.specs.Fifo.{fits, append_answer, appended, shifted, remove_answer, removed, oldest_of, newest_of, sum_first, sum_all, total_of, count_of, cleared, empty_answer, emptied}
use Rattle.engine.specs.Order.{four_bytes, order_bytes}
use Rattle.values.specs.Complement.{twos_complement}
use Rattle.std.specs.Float.Ieee.{nan_bits, of_bits}
use Rattle.couplers.specs.Conversion.{nearest_even, signed_thousandths, thousandths_of, reading_of}
use Rattle.couplers.specs.Channel.{sampled_fault, fresh_channels, is_channel, are_channels, all_good, values_sampled, channels_sampled, sampled_all}
use Rattle.tokens.specs.Descent.{is_index, index_of, is_indexed, index_at, joined, more, read_product, read_sum, read_rest, read_expression, read_close, read_variable, read_truth, operand_from, read_operand, sum_at, expression_at}
use Rattle.tokens.specs.Index.{is_inside}
use Rattle.working.specs.Variables.{cell_of, beat_count, fifo_value, fifo_at, variable_value}
use Rattle.tokens.specs.SingleFault.{lower, opens_too_many, wanting_fault, number_fault, read_fault, is_writable, write_fault, code_fault, id_fault, call_fault}
use Rattle.checking.specs.Fault.{join_sights, sight, count_fault, is_among, are_apart, moves_fault, number_of, is_removal, assigned_at, assignment_at, command_at, unindexed_at, action_at, moves_at, actions_at, line_parts, body_at, rest_at, line_at}
use Rattle.working.specs.Operators.{join_logic, join_truths, join_values}
use Rattle.working.specs.Working.{value_over, condition_value, right_value}
use Rattle.engine.specs.Set.{empty_set, lines_from, lines_read, rank_in, names_known, curves_sound, all_known, named_lines, sound_lines, without_mark, with_line}
use Rattle.engine.specs.State.{power_on}
use Rattle.engine.specs.Timers.{grown_cells}
use Rattle.engine.specs.Cells.{input_cells, beat_cells}
use Rattle.engine.specs.ActCount.{one_more, counted_acts, is_act_count, are_act_counts}
use Rattle.engine.specs.Sound.{all_ranged, is_cell, are_cells, all_zero, is_fifo_sound, are_fifos, is_flag, are_flags, state_sound, is_sound}
use Rattle.engine.specs.Write.{change_answer, changed, change_fifo, write_fifo, write_cell, write_inside, write_to}
use Rattle.engine.specs.Drive.{drive_order}
use Rattle.engine.specs.Action.{lock_of, taken_at, assignment_of, drive_of, command_of, action_of}
use Rattle.engine.specs.Actions.{actions_of}
use Rattle.engine.specs.Keyword.{tries, acts, remembers}
use Rattle.engine.specs.Turn.{takes_turn, do_turn, try_turn, turn_of, turns_from}
use Rattle.engine.specs.Beat.{are_inputs, beat_begun, beat_ended, whole_beat, beat_answer, beat_buffer}
use Rattle.engine.specs.Status.{standing_of, line_status, status_lines, status_of}
use Rattle.engine.specs.NamedLine.{found_at, found}
use Rattle.engine.specs.Calls.{called, locked_call, lock_call, unlock_call, cancel_call, reset_cancelled, zeroed, control_reset_state, control_reset_call}
use Rattle.text.specs.Byte.{bytes, run}
use Rattle.text.specs.Word.{word_token}
use Rattle.text.specs.Number.{written, is_fit, number_token}
use Rattle.text.specs.First.{word_first, behind_point, number_with, number_first, sign_first, first_token}
use Rattle.text.specs.Tokens.{tokens_from, tokens_of}
use Rattle.text.specs.Lines.{split, without_return, without_comment, bodies, first_body, bounds_at, is_blank, numbered, token_lines}
use Rattle.reader.specs.Row.{numbers_of, total, least_from, least_above, rising, placed, curve_slots, set_of}
use Rattle.grammar.specs.Tree.{operand_tokens, action_tokens, actions_tokens, condition_tokens, line_tokens}
use Rattle.grammar.specs.Meaning.{operand_meaning}
use Rattle.grammar.specs.TreeFault.{right_fault, is_removal_tree, assigned_fault, action_fault, actions_fault, moves_of, parts_fault, line_fault}
use Rattle.grammar.specs.TreeNames.{actions_names, names_in, each_known}
use Rattle.grammar.specs.TreeOf.{factors_guess, product_guess, terms_guess, sum_guess, sums_guess, expression_guess, operand_first, operand_guess, action_guess, actions_guess, condition_guess, line_guess, same_tokens, if_written, tree_of}
use Rattle.reader.specs.Load.{fault_of, line_below, tokens_fault, fault_below, kept_with, rows_from, first_not, named, outcome, load_answer, load_set}
use Rattle.transcript.specs.Input.{beat_lines, cut, input_of}
use Rattle.transcript.specs.BeatLine.{lent_number, all_hex, hex_value, lent_reading, each_of, lent_positions, mode_of, all_digits, whole_of, fields_lent, line_lent, line_said}
use Rattle.text.specs.Digits.{digits_up, signed_text}
use Rattle.transcript.specs.Output.{spaced, four_of, load_line, error_line, code_line, order_line, order_lines, end_line, status_line, status_rows}
use Rattle.transcript.specs.Tally.{answer_of, buffer_of, beat_text, beat_printed}
use Rattle.transcript.specs.Synrun.{beats_text, loaded_text, printout, synrun, synstat}

abbrev prints : String → List ℕ
prints t = synrun (bytes t)

abbrev pictures : String → List ℕ
pictures t = synstat (bytes t)

example :
    (map prints ("ID=1 EVERY $A_IN[1]==1 DO $AC_MARKER[0]=$AC_MARKER[0]+1 M=7\n*\nA 1\nA 1\nA 0\nA 1\n" ∷ "" ∷ "*" ∷ "*\r" ∷ "ID=1 DO FA[X]=$A_INA[1]\r\n*\r\nA 0 3BA3D70A\r\nM 007 80000000\r\nA 0 BF800000\nA 0  1\nA" ∷ [])
    ≡ map bytes ("C 1 0 1\nO 1 4 0 7\nC 2 0 0\nC 3 0 0\nC 4 0 1\nO 1 4 0 7\nEND 4 0 2\n" ∷ "END 0 0 0\n" ∷ "END 0 0 0\n" ∷ "L 3 1\n" ∷ "C 1 0 1\nO 1 2 1 5\nC 2 0 0\nC 3 34 0\nE 4\n" ∷ []))
    × (map pictures ("ID=1 EVERY $A_IN[1]==1 DO $AC_MARKER[0]=$AC_MARKER[0]+1 M=7\n*\nA 1\nA 1\nA 0\nA 1\n" ∷ "IDS=12 WHEN $A_IN[1]==1 DO LOCK(3)\nID=3 DO $AC_MARKER[1]=2\n*\nM 0\nA 0\nA 1\nA 0\n" ∷ "ID=1 DO FA[X]=$A_INA[1]\n*\nA 0 3BA3D70A\nA 0 BF800000\n" ∷ "" ∷ "*\r" ∷ "*\nA 0\nA 0  1\nA" ∷ [])
    ≡ map bytes ("S ID 1 waiting 2\n" ∷ "S ID 3 locked 2\nS IDS 12 waiting 1\n" ∷ "S ID 1 waiting 1\n" ∷ "" ∷ "L 3 1\n" ∷ "E 2\n" ∷ []))
unfolding in_range valued sum_of difference_of product_of quotient_of negation_of less_than equal_to whole_units nearest_units marker_of output_of feed_of sign_of millis_of grown_timer written_timer fits append_answer appended shifted remove_answer removed oldest_of newest_of sum_first sum_all total_of count_of cleared empty_answer emptied twos_complement four_bytes order_bytes is_index index_of is_indexed index_at joined more read_product read_sum read_rest read_expression read_close read_variable read_truth operand_from read_operand sum_at expression_at is_inside cell_of beat_count fifo_value fifo_at variable_value lower opens_too_many wanting_fault number_fault read_fault join_sights sight is_writable write_fault code_fault id_fault call_fault count_fault number_of is_removal assigned_at assignment_at command_at action_at moves_at actions_at line_parts body_at rest_at line_at join_logic join_truths join_values value_over condition_value right_value empty_set lines_from lines_read rank_in names_known all_known named_lines sound_lines power_on grown_cells input_cells beat_cells all_ranged is_cell are_cells all_zero is_fifo_sound is_flag are_flags state_sound is_sound change_answer changed change_fifo write_fifo write_cell write_inside write_to drive_order lock_of taken_at assignment_of drive_of command_of action_of actions_of tries acts remembers takes_turn do_turn try_turn turn_of turns_from are_inputs beat_begun beat_ended whole_beat beat_answer beat_buffer found_at found called locked_call lock_call unlock_call cancel_call reset_cancelled zeroed control_reset_state control_reset_call run word_token written is_fit number_token word_first behind_point number_with number_first sign_first first_token tokens_from tokens_of split without_return without_comment bodies first_body bounds_at is_blank numbered token_lines numbers_of total least_from least_above rising without_mark with_line placed set_of factors_guess product_guess terms_guess sum_guess sums_guess expression_guess operand_first operand_guess action_guess actions_guess condition_guess line_guess same_tokens if_written tree_of operand_tokens action_tokens actions_tokens condition_tokens line_tokens operand_meaning right_fault is_removal_tree assigned_fault action_fault actions_fault moves_of parts_fault line_fault is_among are_apart moves_fault actions_names names_in each_known fault_of tokens_fault fault_below rows_from first_not named outcome load_answer load_set beat_lines cut input_of lent_number mode_of all_digits whole_of fields_lent line_lent line_said digits_up four_of signed_text load_line error_line code_line order_line order_lines end_line answer_of buffer_of beat_text beat_printed beats_text loaded_text printout one_more counted_acts is_act_count are_act_counts standing_of line_status status_lines status_of status_line status_rows are_fifos spaced unindexed_at curves_sound curve_slots line_below kept_with all_hex hex_value lent_reading each_of lent_positions nan_bits of_bits reading_of thousandths_of signed_thousandths nearest_even sampled_fault fresh_channels is_channel are_channels all_good values_sampled channels_sampled sampled_all
example = (refl, refl)
