-- A set with two curves, put together line by line, and a run of it, computed over the definitions: what document 02 (Req 03) says that they give, assigned to variables by SYNFCT. Assumes nothing.
use Rattle.std.specs.Prelude.{◌≡◌, refl, List, [], ◌∷◌, map, ℕ, ◌+◌, pos, ℤ, negsuc, take, drop, length, get_or}
use Prim.Native.String.{String}
use Rattle.values.specs.Value.{in_range, valued, less_than, equal_to, whole_units, output_of, sum_of, product_of, sign_of, nearest_units, marker_of}
use Rattle.values.specs.Time.{grown_timer}
use Rattle.values.specs.Curve.{polynomial_of, limited_to, curve_of}
use Rattle.values.specs.Fifo.{fits, append_answer, appended, shifted}
use Rattle.values.specs.Codes.{not_allowed}
use Rattle.tokens.specs.Descent.{is_index, index_of, is_indexed, index_at, joined, more, read_product, read_sum, read_rest, read_expression, read_variable, operand_from, read_operand, sum_at, expression_at}
use Rattle.tokens.specs.Index.{is_inside}
use Rattle.tokens.specs.SingleFault.{lower, opens_too_many, wanting_fault, number_fault, read_fault, is_writable, write_fault, id_fault, curve_fault}
use Rattle.checking.specs.Fault.{join_sights, sight, count_fault, is_among, are_apart, moves_fault, number_of, is_removal, assigned_at, assignment_at, command_at, unindexed_at, action_at, moves_at, actions_at, line_parts, body_at, rest_at, line_at, is_given, is_synfct, synfct_fault, synfct_at}
use Rattle.checking.specs.CurveDefinition.{if_read, limits_fault, judged_curve, number_place, parameter_at, part_at, part_behind, curve_from, ended_by, defined_by, is_defining, definition_at}
use Rattle.working.specs.Variables.{cell_of, variable_value, marker_at, beat_count}
use Rattle.working.specs.Operators.{join_truths, join_values}
use Rattle.working.specs.Working.{value_over, condition_value, right_value, variable_at}
use Rattle.engine.specs.Set.{lines_from, lines_read, rank_in, names_known, curves_sound, all_known, named_lines, sound_lines, empty_set, without_mark, with_line, count_place, start_place, curve_place, first_place, with_count, curves_from}
use Rattle.couplers.specs.Conversion.{nearest_even, signed_thousandths, thousandths_of}
use Rattle.couplers.specs.Channel.{fresh_channels, is_channel, are_channels, all_good, values_sampled, channels_sampled, sampled_all}
use Rattle.engine.specs.State.{power_on}
use Rattle.engine.specs.Timers.{grown_cells}
use Rattle.engine.specs.Cells.{input_cells, beat_cells}
use Rattle.engine.specs.ActCount.{is_act_count, are_act_counts, one_more, counted_acts}
use Rattle.engine.specs.Sound.{all_ranged, is_cell, are_cells, all_zero, is_fifo_sound, are_fifos, is_flag, are_flags, state_sound, is_sound}
use Rattle.engine.specs.Write.{write_cell, write_inside, write_to, change_answer, changed, change_fifo, write_fifo}
use Rattle.engine.specs.Action.{taken_at, assignment_of, action_of, curve_assigned, synfct_of}
use Rattle.engine.specs.Actions.{actions_of}
use Rattle.engine.specs.Keyword.{tries, acts, remembers}
use Rattle.engine.specs.Turn.{takes_turn, do_turn, try_turn, turn_of, turns_from}
use Rattle.engine.specs.Beat.{are_inputs, beat_answer, beat_buffer, beat_begun, beat_ended, whole_beat}
use Rattle.text.specs.Byte.{bytes, run}
use Rattle.text.specs.Word.{word_token}
use Rattle.text.specs.Number.{written, is_fit, number_token}
use Rattle.text.specs.First.{word_first, behind_point, number_with, number_first, sign_first, first_token}
use Rattle.text.specs.Tokens.{tokens_from, tokens_of}
use Rattle.soundness.specs.Call.{Call}
use Rattle.demands.specs.Run.{engine_run, step, run_from}
use Rattle.demands.proofs.Cases.{beat}

-- the tokens of a line
abbrev tokens_in : String → List ℕ
tokens_in line = (tokens_of (bytes line)).list

-- lines put into a set one behind the other, from a place on, each with its slot
abbrev pub laid : List ℕ → ℕ → List (ℕ × String) → List ℕ
laid s at [] = s
laid s at (l ∷ ls) = laid (with_line s l.0 at (tokens_in l.1)) (at + length (tokens_in l.1) + 1) ls

-- two curves; a line that asks the first at 30, 80 and 10, one that asks the second at 5 and 6 and puts the first's 120 into a marker and a FIFO, and one that would put 120 into an output
abbrev pub curve_set : List ℕ
curve_set =
    laid (with_count empty_set count_place 3) first_place
    ((curve_place 1, "FCTDEF(1,0,120,160,-2,0,0)")
    ∷ (curve_place 2, "FCTDEF(2,-100,100,500,-100,0,0)")
    ∷ (start_place 0, "ID=1 WHENEVER $A_IN[1]==1 DO $R[1]=30 SYNFCT(1,$R[2],$R[1]) $R[1]=80 SYNFCT(1,$R[3],$R[1]) $R[1]=10 SYNFCT(1,$R[4],$R[1])")
    ∷ (start_place 1, "ID=2 WHENEVER $A_IN[1]==1 DO $R[1]=5 SYNFCT(2,$R[5],$R[1]) $R[1]=6 SYNFCT(2,$R[6],$R[1]) SYNFCT(1,$AC_MARKER[0],$R[0]) SYNFCT(1,$AC_FIFO1[0],$R[1])")
    ∷ (start_place 2, "ID=3 WHENEVER $A_IN[2]==1 DO $R[2]=1 SYNFCT(1,$A_OUT[1],$R[0])")
    ∷ [])

-- the code and the word of the lines that acted, newest first; $R[2] to $R[6], $AC_MARKER[0] and $AC_FIFO1[1] afterwards
abbrev pub shown_of : List Call → List (ℕ × ℕ) × List ℤ × ℤ × ℤ
shown_of cs =
    let n = engine_run curve_set cs in
    (map (λ c. (c.1.code, c.1.acted)) n.told, take 5 (drop 2 n.kept.r), get_or n.kept.cells marker_at (pos 0), get_or n.kept.r 100 (pos 0))

-- 100 at 30, 0 at 80, 120 at 10; 0 at 5, -100 at 6 (document 02); 120 at 0, in the marker, and at 6, appended to the FIFO. The beat after that gives 34, since an output takes no 120, and leaves all as it was
pub curve-run : shown_of (beat 1 ∷ beat 2 ∷ []) ≡ ((not_allowed, 0) ∷ (0, 3) ∷ [], pos 100000 ∷ pos 0 ∷ pos 120000 ∷ pos 0 ∷ negsuc 99999 ∷ [], pos 120000, pos 120000)
unfolding in_range valued less_than equal_to whole_units output_of grown_timer is_index index_of is_indexed index_at joined more read_product read_sum read_rest read_expression read_variable operand_from read_operand sum_at expression_at is_inside cell_of variable_value lower opens_too_many wanting_fault number_fault read_fault join_sights sight is_writable write_fault id_fault count_fault is_among are_apart moves_fault number_of is_removal assigned_at assignment_at command_at unindexed_at action_at moves_at actions_at line_parts body_at rest_at line_at join_truths join_values value_over condition_value right_value variable_at lines_from lines_read rank_in names_known curves_sound all_known named_lines sound_lines power_on grown_cells input_cells beat_cells all_ranged is_cell are_cells all_zero is_fifo_sound are_fifos is_flag are_flags is_act_count are_act_counts one_more counted_acts state_sound is_sound write_cell write_inside write_to taken_at assignment_of action_of actions_of tries acts remembers takes_turn do_turn try_turn turn_of turns_from are_inputs beat_begun beat_ended whole_beat beat_answer beat_buffer step run_from run word_token written is_fit number_token word_first behind_point number_with number_first sign_first first_token tokens_from tokens_of empty_set without_mark with_line curve_fault sign_of sum_of product_of polynomial_of limited_to curve_of limits_fault judged_curve number_place parameter_at part_at part_behind if_read curve_from ended_by defined_by is_defining definition_at is_given is_synfct synfct_fault synfct_at curves_from curve_assigned synfct_of nearest_units marker_of beat_count fits append_answer appended shifted change_answer changed change_fifo write_fifo fresh_channels thousandths_of signed_thousandths nearest_even is_channel are_channels all_good values_sampled channels_sampled sampled_all
curve-run = refl
