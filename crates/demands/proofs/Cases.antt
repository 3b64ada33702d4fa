-- A set, loaded from its text, and some runs of it, computed over the definitions: the code and the word of the lines that acted, call by call. Assumes nothing.
use Rattle.std.specs.Prelude.{◌≡◌, refl, Bool, true, false, List, [], ◌∷◌, ◌++◌, map, ℕ, ℤ, pos, negsuc, take, replicate, set}
use Prim.Native.String.{String}
use Rattle.std.specs.Float.{inf, fin}
use Rattle.values.specs.Codes.{short_buffer, wrong_numbers, faulty_channel, zero_divisor, unknown_line}
use Rattle.values.specs.Value.{in_range, valued, quotient_of, less_than, equal_to, whole_units, output_of}
use Rattle.values.specs.Time.{grown_timer}
use Rattle.tokens.specs.Descent.{is_index, index_of, is_indexed, index_at, joined, more, read_product, read_sum, read_rest, read_expression, read_variable, operand_from, read_operand, sum_at, expression_at}
use Rattle.tokens.specs.Index.{is_inside}
use Rattle.working.specs.Variables.{position_count, cell_of, variable_value}
use Rattle.tokens.specs.SingleFault.{lower, opens_too_many, wanting_fault, number_fault, read_fault, is_writable, write_fault, code_fault, id_fault, call_fault}
use Rattle.checking.specs.Fault.{join_sights, sight, count_fault, is_among, are_apart, moves_fault, number_of, is_removal, assigned_at, assignment_at, command_at, unindexed_at, action_at, moves_at, actions_at, line_parts, body_at, rest_at, line_at}
use Rattle.working.specs.Operators.{join_truths, join_values}
use Rattle.working.specs.Working.{value_over, condition_value, right_value}
use Rattle.engine.specs.Set.{lines_from, lines_read, rank_in, names_known, curves_sound, all_known, named_lines, sound_lines, empty_set, without_mark, with_line}
use Rattle.couplers.specs.declared.reading.Reading.{Reading}
use Rattle.couplers.specs.declared.reading.Reading.TheVariants.{Volts, Break, Short}
use Rattle.couplers.specs.Conversion.{nearest_even, signed_thousandths, thousandths_of}
use Rattle.couplers.specs.Channel.{fresh_channels, zero_readings, sampled_fault, is_channel, are_channels, all_good, values_sampled, channels_sampled, sampled_all}
use Rattle.engine.specs.State.{power_on}
use Rattle.engine.specs.Timers.{grown_cells}
use Rattle.engine.specs.Cells.{input_cells, beat_cells}
use Rattle.engine.specs.ActCount.{is_act_count, are_act_counts, one_more, counted_acts, reset_acts}
use Rattle.engine.specs.Sound.{all_ranged, is_cell, are_cells, all_zero, is_fifo_sound, are_fifos, is_flag, are_flags, state_sound, is_sound}
use Rattle.engine.specs.Write.{write_cell, write_inside, write_to}
use Rattle.engine.specs.Action.{lock_of, taken_at, assignment_of, command_of, action_of}
use Rattle.engine.specs.Actions.{actions_of}
use Rattle.engine.specs.Keyword.{tries, acts, remembers}
use Rattle.engine.specs.Turn.{takes_turn, do_turn, try_turn, turn_of, turns_from}
use Rattle.engine.specs.Beat.{buffer_size, are_inputs, beat_answer, beat_buffer, beat_begun, beat_ended, whole_beat}
use Rattle.engine.specs.NamedLine.{found_at, found}
use Rattle.engine.specs.Calls.{called, locked_call, lock_call, unlock_call, cancel_call, ended_line, program_ended, program_end_call, reset_cancelled, zeroed, control_reset_state, control_reset_call}
use Rattle.text.specs.Byte.{bytes, run}
use Rattle.text.specs.Word.{word_token}
use Rattle.text.specs.Number.{written, is_fit, number_token}
use Rattle.text.specs.First.{word_first, behind_point, number_with, number_first, sign_first, first_token}
use Rattle.text.specs.Tokens.{tokens_from, tokens_of}
use Rattle.text.specs.Lines.{split, without_return, without_comment, bodies, is_blank, numbered, token_lines}
use Rattle.reader.specs.Row.{numbers_of, least_from, least_above, rising, placed, curve_slots, set_of}
use Rattle.grammar.specs.Tree.{operand_tokens, action_tokens, actions_tokens, condition_tokens, line_tokens}
use Rattle.grammar.specs.Meaning.{operand_meaning}
use Rattle.grammar.specs.TreeFault.{right_fault, is_removal_tree, assigned_fault, action_fault, actions_fault, moves_of, parts_fault, line_fault}
use Rattle.grammar.specs.TreeNames.{actions_names, names_in, each_known}
use Rattle.grammar.specs.TreeOf.{factors_guess, product_guess, terms_guess, sum_guess, sums_guess, expression_guess, operand_first, operand_guess, action_guess, actions_guess, condition_guess, line_guess, same_tokens, if_written, tree_of}
use Rattle.reader.specs.Load.{fault_of, line_below, tokens_fault, fault_below, kept_with, rows_from, first_not, named, outcome, load_set}
use Rattle.soundness.specs.Call.{Call, do_beat, do_lock, do_unlock, do_cancel, do_program_end, do_control_reset}
use Rattle.soundness.specs.ProgramEnd.{live_ids}
use Rattle.demands.specs.Run.{engine_run, step, run_from}

-- a set of four lines
abbrev pub text : String
text = "ID=1 EVERY $A_IN[1]==1 DO M=7\nID=2 WHEN $A_IN[1]==1 DO M=8\nIDS=3 FROM $A_IN[1]==1 DO $A_OUT[1]=1\nIDS=4 WHENEVER $A_IN[2]==1 DO LOCK(1)"

-- a beat in this mode with this input word and this order buffer, each reading 0 volts and each position 0
abbrev pub beat_with : Bool → ℕ → List ℕ → Call
beat_with automatic word buffer = do_beat (record { automatic = automatic; word = word; readings = zero_readings; lent = replicate position_count (pos 0); buffer = buffer })

-- in AUTOMATIC with this input word
abbrev pub beat : ℕ → Call
beat word = beat_with true word (replicate buffer_size 0)

-- the code and the word of the lines that acted, newest first
abbrev pub words : List Call → List (ℕ × ℕ)
words cs = map (λ c. (c.1.code, c.1.acted)) (engine_run (load_set (bytes text)) cs).told

-- a set of two lines: one acts while channel 1 has 2.5 volts, one divides by 0 while input 1 is on
abbrev pub coupled : String
coupled = "IDS=1 WHENEVER $A_INA[1]==2.5 DO $A_OUT[1]=1\nIDS=2 WHENEVER $A_IN[1]==1 DO $R[1]=1/0"

-- channel 1 sends this, the others 0 volts
abbrev pub sending : ℕ → List ℤ → Reading → Call
sending word lent r = do_beat (record { automatic = true; word = word; readings = set zero_readings 0 r; lent = lent; buffer = replicate buffer_size 0 })

-- a beat with this reading; one that an alarm undoes; one without positions
abbrev pub reads : Reading → Call
reads r = sending 0 (replicate position_count (pos 0)) r

abbrev pub reads_undone : Reading → Call
reads_undone r = sending 1 (replicate position_count (pos 0)) r

abbrev pub reads_alone : Reading → Call
reads_alone r = sending 0 [] r

-- 2.5 volts
abbrev pub volts : Reading
volts = Volts (fin false 5 (negsuc 0))

abbrev pub fault_words : List Call → List (ℕ × ℕ)
fault_words cs = map (λ c. (c.1.code, c.1.acted)) (engine_run (load_set (bytes coupled)) cs).told

-- how often each of the lines acted: of the first set, and of the second
abbrev pub counts : List Call → List ℕ
counts cs = take 4 (engine_run (load_set (bytes text)) cs).kept.acts

abbrev pub fault_counts : List Call → List ℕ
fault_counts cs = take 2 (engine_run (load_set (bytes coupled)) cs).kept.acts

-- 1. input 1 on, on, off, on: EVERY (1) acts in beats 1 and 4, WHEN (2) in 1, FROM (4) in 1 to 4
-- 2. EVERY, true, then locked while the input is off and on again, then released: its turn before was true, no second act; a line that is not in the set gives 40
-- 3. a control reset cancels the ID lines for good and starts the IDS line anew
-- 4. LOCK in text (8): line 1 acts before it in the same beat, and is locked from the next on; released by the host, it acts at its next rise only
-- 5. without AUTOMATIC the ID lines take no turn; a beat with a short buffer gives 20 and leaves all as it was
-- 6. couplers: a fault of a channel that was never good gives 23; infinity is a fault
-- 7. the last good value serves for 25 faulty beats, breaks and shorts alike; the 26th gives 23, as does the next, and a good reading ends it
-- 8. beats that are refused or undone, and a control reset, neither count nor end the row: after 24 faulty beats there is just one more
-- 9. 21 is asked before 23
-- 10. counts: a line that a lock holds back keeps its own; so do the ID lines that a control reset cancels, and a line that the host cancels, while the others begin at 0
-- 11. an undone beat counts nothing
-- 12. program end cancels the ID lines, which a lock then does not find; the IDS lines go on, one with its true condition and the other with its lock; the counts go on
pub runs :
    (words (beat 1 ∷ beat 1 ∷ beat 0 ∷ beat 1 ∷ []) ≡ (0, 5) ∷ (0, 4) ∷ (0, 4) ∷ (0, 7) ∷ [])
    × (words (beat 1 ∷ do_lock 1 ∷ beat 0 ∷ beat 1 ∷ do_unlock 1 ∷ beat 1 ∷ do_lock 9 ∷ []) ≡ (unknown_line, 0) ∷ (0, 4) ∷ (0, 0) ∷ (0, 4) ∷ (0, 4) ∷ (0, 0) ∷ (0, 7) ∷ [])
    × (words (beat 1 ∷ beat 0 ∷ do_control_reset ∷ beat 0 ∷ beat 1 ∷ do_lock 1 ∷ do_cancel 3 ∷ beat 1 ∷ do_control_reset ∷ beat 1 ∷ []) ≡ (0, 0) ∷ (0, 0) ∷ (0, 0) ∷ (0, 0) ∷ (unknown_line, 0) ∷ (0, 4) ∷ (0, 0) ∷ (0, 0) ∷ (0, 4) ∷ (0, 7) ∷ [])
    × (words (beat 3 ∷ beat 0 ∷ do_unlock 1 ∷ beat 1 ∷ beat 0 ∷ beat 1 ∷ []) ≡ (0, 5) ∷ (0, 4) ∷ (0, 4) ∷ (0, 0) ∷ (0, 4) ∷ (0, 15) ∷ [])
    × (words (beat_with false 1 (replicate buffer_size 0) ∷ beat_with true 1 [] ∷ beat 1 ∷ []) ≡ (0, 7) ∷ (short_buffer, 0) ∷ (0, 4) ∷ [])
    × (fault_words (reads Break ∷ reads (Volts (inf false)) ∷ reads volts ∷ reads Break ∷ []) ≡ (0, 1) ∷ (0, 1) ∷ (faulty_channel, 0) ∷ (faulty_channel, 0) ∷ [])
    × (fault_words (reads volts ∷ replicate 20 (reads Break) ++ (replicate 5 (reads Short) ++ (reads Break ∷ reads Short ∷ reads volts ∷ reads Break ∷ []))) ≡ (0, 1) ∷ (0, 1) ∷ (faulty_channel, 0) ∷ (faulty_channel, 0) ∷ replicate 26 (0, 1))
    × (fault_words (reads volts ∷ replicate 24 (reads Break) ++ (reads_undone Break ∷ reads_undone volts ∷ do_control_reset ∷ reads_alone volts ∷ reads Break ∷ reads Break ∷ []))
    ≡ (faulty_channel, 0) ∷ (0, 1) ∷ (wrong_numbers, 0) ∷ (0, 0) ∷ (zero_divisor, 0) ∷ (zero_divisor, 0) ∷ replicate 25 (0, 1))
    × (fault_words (reads_alone Break ∷ reads Break ∷ []) ≡ (faulty_channel, 0) ∷ (wrong_numbers, 0) ∷ [])
    × (counts (beat 1 ∷ beat 3 ∷ do_lock 3 ∷ beat 0 ∷ []) ≡ 1 ∷ 1 ∷ 2 ∷ 1 ∷ [])
    × (counts (beat 3 ∷ beat 2 ∷ do_cancel 4 ∷ do_control_reset ∷ beat 1 ∷ []) ≡ 1 ∷ 1 ∷ 1 ∷ 2 ∷ [])
    × (fault_counts (reads volts ∷ reads_undone volts ∷ []) ≡ 1 ∷ 0 ∷ [])
    × (words (beat 1 ∷ do_lock 4 ∷ do_program_end ∷ beat 2 ∷ do_lock 1 ∷ do_program_end ∷ []) ≡ (0, 0) ∷ (unknown_line, 0) ∷ (0, 4) ∷ (0, 0) ∷ (0, 0) ∷ (0, 7) ∷ [])
    × (counts (beat 1 ∷ do_program_end ∷ beat 3 ∷ []) ≡ 1 ∷ 1 ∷ 2 ∷ 1 ∷ [])
unfolding in_range valued quotient_of less_than equal_to whole_units output_of grown_timer is_index index_of is_indexed index_at joined more read_product read_sum read_rest read_expression read_variable operand_from read_operand sum_at expression_at is_inside cell_of variable_value lower opens_too_many wanting_fault number_fault read_fault join_sights sight is_writable write_fault code_fault id_fault call_fault count_fault number_of is_removal assigned_at assignment_at command_at unindexed_at action_at actions_at line_parts body_at rest_at line_at join_truths join_values value_over condition_value right_value lines_from lines_read rank_in names_known curves_sound all_known named_lines sound_lines power_on fresh_channels thousandths_of signed_thousandths nearest_even is_channel are_channels sampled_fault all_good values_sampled channels_sampled sampled_all grown_cells input_cells beat_cells all_ranged is_cell are_cells all_zero is_fifo_sound are_fifos is_flag are_flags is_act_count are_act_counts one_more counted_acts reset_acts state_sound is_sound write_cell write_inside write_to lock_of taken_at assignment_of command_of action_of actions_of tries acts remembers takes_turn do_turn try_turn turn_of turns_from are_inputs beat_begun beat_ended whole_beat beat_answer beat_buffer found_at found called locked_call lock_call unlock_call cancel_call ended_line program_ended program_end_call live_ids reset_cancelled zeroed control_reset_state control_reset_call step run_from run word_token written is_fit number_token word_first behind_point number_with number_first sign_first first_token tokens_from tokens_of split without_return without_comment bodies is_blank numbered token_lines numbers_of least_from least_above rising placed curve_slots set_of factors_guess product_guess terms_guess sum_guess sums_guess expression_guess operand_first operand_guess action_guess actions_guess condition_guess line_guess same_tokens if_written tree_of operand_tokens action_tokens actions_tokens condition_tokens line_tokens right_fault is_removal_tree assigned_fault action_fault actions_fault line_fault actions_names names_in each_known fault_of tokens_fault fault_below line_below kept_with rows_from first_not named outcome load_set empty_set without_mark with_line operand_meaning moves_at moves_of parts_fault is_among are_apart moves_fault
runs = (refl, refl, refl, refl, refl, refl, refl, refl, refl, refl, refl, refl, refl, refl)
