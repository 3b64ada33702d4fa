-- The proved table of document 01 holds: every case of PTable gives what it says, computed. Assumes nothing.
use Rattle.std.specs.Prelude.{◌≡◌, refl, map}
use Rattle.values.specs.Value.{in_range, valued, sum_of, difference_of, product_of, quotient_of, negation_of, less_than, equal_to, whole_units, nearest_units, marker_of, output_of, feed_of, sign_of}
use Rattle.values.specs.Time.{millis_of, grown_timer, written_timer}
use Rattle.values.specs.Fifo.{fits, append_answer, appended, shifted, remove_answer, removed, oldest_of, newest_of, sum_first, sum_all, total_of, count_of, cleared, empty_answer, emptied}
use Rattle.engine.specs.Order.{four_bytes, order_bytes}
use Rattle.values.specs.Complement.{twos_complement}
use Rattle.tokens.specs.Descent.{is_index, index_of, is_indexed, index_at, joined, more, read_product, read_sum, read_rest, read_expression, read_variable, operand_from, read_operand, read_close, read_truth, sum_at, expression_at}
use Rattle.tokens.specs.Index.{is_inside}
use Rattle.working.specs.Variables.{cell_of, beat_count, fifo_value, fifo_at, variable_value}
use Rattle.tokens.specs.SingleFault.{lower, opens_too_many, wanting_fault, number_fault, read_fault, is_writable, write_fault, code_fault, id_fault, call_fault}
use Rattle.checking.specs.Fault.{join_sights, sight, count_fault, is_among, are_apart, moves_fault, number_of, is_removal, assigned_at, assignment_at, command_at, unindexed_at, action_at, moves_at, actions_at, line_parts, body_at, rest_at, line_at}
use Rattle.working.specs.Operators.{join_logic, join_truths, join_values}
use Rattle.working.specs.Working.{value_over, condition_value, right_value}
use Rattle.engine.specs.Set.{lines_from, lines_read, rank_in, names_known, curves_sound, all_known, named_lines, sound_lines, empty_set, without_mark, with_line}
use Rattle.couplers.specs.Conversion.{nearest_even, signed_thousandths, thousandths_of}
use Rattle.couplers.specs.Channel.{fresh_channels, is_channel, are_channels, all_good, values_sampled, channels_sampled, sampled_all}
use Rattle.engine.specs.State.{power_on}
use Rattle.engine.specs.Timers.{grown_cells}
use Rattle.engine.specs.Cells.{input_cells, beat_cells}
use Rattle.engine.specs.ActCount.{is_act_count, are_act_counts, one_more, counted_acts, reset_acts}
use Rattle.engine.specs.Sound.{all_ranged, is_cell, are_cells, all_zero, is_fifo_sound, are_fifos, is_flag, are_flags, state_sound, is_sound}
use Rattle.engine.specs.Write.{change_answer, changed, change_fifo, write_fifo, write_cell, write_inside, write_to}
use Rattle.engine.specs.Drive.{drive_order}
use Rattle.engine.specs.Action.{lock_of, taken_at, assignment_of, drive_of, command_of, action_of}
use Rattle.engine.specs.Actions.{actions_of}
use Rattle.engine.specs.Keyword.{tries, acts, remembers}
use Rattle.engine.specs.Turn.{takes_turn, do_turn, try_turn, turn_of, turns_from}
use Rattle.engine.specs.Beat.{are_inputs, beat_begun, beat_ended, whole_beat, beat_answer, beat_buffer}
use Rattle.engine.specs.NamedLine.{found_at, found}
use Rattle.engine.specs.Calls.{called, locked_call, lock_call, unlock_call, cancel_call, reset_cancelled, zeroed, control_reset_state, control_reset_call}
use Rattle.text.specs.Byte.{run}
use Rattle.text.specs.Word.{word_token}
use Rattle.text.specs.Number.{written, is_fit, number_token}
use Rattle.text.specs.First.{word_first, behind_point, number_with, number_first, sign_first, first_token}
use Rattle.text.specs.Tokens.{tokens_from, tokens_of}
use Rattle.text.specs.Lines.{split, without_return, without_comment, bodies, is_blank, numbered, token_lines}
use Rattle.reader.specs.Row.{numbers_of, least_from, least_above, rising, placed, curve_slots, set_of}
use Rattle.grammar.specs.Tree.{operand_tokens, action_tokens, actions_tokens, condition_tokens, line_tokens}
use Rattle.grammar.specs.Meaning.{operand_meaning}
use Rattle.grammar.specs.TreeFault.{right_fault, is_removal_tree, assigned_fault, action_fault, actions_fault, moves_of, parts_fault, line_fault}
use Rattle.grammar.specs.TreeNames.{actions_names, names_in, each_known}
use Rattle.grammar.specs.TreeOf.{factors_guess, product_guess, terms_guess, sum_guess, sums_guess, expression_guess, operand_first, operand_guess, action_guess, actions_guess, condition_guess, line_guess, same_tokens, if_written, tree_of}
use Rattle.reader.specs.Load.{fault_of, line_below, tokens_fault, fault_below, kept_with, rows_from, first_not, named, outcome, load_answer, load_set}
use Rattle.demands.specs.Run.{step, run_from}
use Rattle.demands.specs.PTable.{outcome_of, expected, cases}

-- THE TABLE: each case gives what document 01 says, markers by document 02
pub table : map outcome_of cases ≡ map expected cases
unfolding join_logic beat_count fifo_value fifo_at fits append_answer appended shifted remove_answer removed oldest_of newest_of sum_first sum_all total_of count_of cleared empty_answer emptied millis_of written_timer sum_of difference_of product_of quotient_of negation_of feed_of sign_of in_range valued less_than equal_to whole_units nearest_units marker_of output_of grown_timer twos_complement four_bytes order_bytes is_index index_of is_indexed index_at joined more read_product read_sum read_rest read_expression read_variable operand_from read_operand read_close read_truth sum_at expression_at is_inside cell_of variable_value lower opens_too_many wanting_fault number_fault read_fault join_sights sight is_writable write_fault code_fault id_fault call_fault count_fault number_of is_removal assigned_at assignment_at command_at unindexed_at action_at moves_at actions_at line_parts body_at rest_at line_at join_truths join_values value_over condition_value right_value lines_from lines_read rank_in names_known curves_sound all_known named_lines sound_lines empty_set power_on grown_cells input_cells beat_cells all_ranged is_cell are_cells all_zero is_fifo_sound is_flag are_flags is_act_count are_act_counts one_more counted_acts reset_acts state_sound is_sound change_answer changed change_fifo write_fifo write_cell write_inside write_to drive_order drive_of lock_of taken_at assignment_of command_of action_of actions_of tries acts remembers takes_turn do_turn try_turn turn_of turns_from are_inputs beat_begun beat_ended whole_beat beat_answer beat_buffer found_at found called locked_call lock_call unlock_call cancel_call reset_cancelled zeroed control_reset_state control_reset_call run word_token written is_fit number_token word_first behind_point number_with number_first sign_first first_token tokens_from tokens_of split without_return without_comment bodies is_blank numbered token_lines numbers_of least_from least_above rising without_mark placed curve_slots set_of factors_guess product_guess terms_guess sum_guess sums_guess expression_guess operand_first operand_guess action_guess actions_guess condition_guess line_guess same_tokens if_written tree_of operand_tokens action_tokens actions_tokens condition_tokens line_tokens operand_meaning right_fault is_removal_tree assigned_fault action_fault actions_fault moves_of parts_fault line_fault is_among are_apart moves_fault actions_names names_in each_known fault_of tokens_fault fault_below line_below kept_with rows_from first_not named outcome load_answer load_set step run_from cases are_fifos with_line fresh_channels thousandths_of signed_thousandths nearest_even is_channel are_channels all_good values_sampled channels_sampled sampled_all
table = refl
