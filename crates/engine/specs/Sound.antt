-- Sound, as documents 01 ("Codes") and 02 list it. Definitions only.
use Rattle.std.specs.Prelude.{Bool, true, false, cond, not, ◌&&◌, List, [], ◌∷◌, ℕ, zero, suc, ◌+◌, eqb, leb, ltb, ℤ, pos, get_or, drop, is_some, Result, Ok, Err}
use Rattle.values.specs.Codes.{unsound}
use Rattle.values.specs.Value.{in_range, less_than, equal_to, whole_units, output_of}
use Rattle.values.specs.Codes.{answer_code}
use Rattle.values.specs.Fifo.{places}
use Rattle.couplers.specs.Channel.{channel_count, are_channels}
use Rattle.working.specs.Variables.{as_count, run, count_in, fifos, marker_at, param_at, timer_at, count_at}
use Rattle.engine.specs.declared.set.Lines.{Lines}
use Rattle.engine.specs.declared.state.State.{State}
use Rattle.tokens.specs.Token.{max_lines}
use Rattle.engine.specs.Set.{sound_lines, lines_of}
use Rattle.engine.specs.ActCount.{are_act_counts}

-- all values within range
unfoldable pub all_ranged : List ℤ → Bool
all_ranged [] = true
all_ranged (v ∷ vs) = in_range v && all_ranged vs

abbrev pub is_output : ℤ → Bool
is_output v = eqb (answer_code (output_of v)) 0

-- outputs 0 or 1, markers whole, parameters any, timers not negative, FIFO counts at most 16
unfoldable pub is_cell : ℕ → ℤ → Bool
is_cell i v =
    in_range v &&
    cond (ltb i marker_at) (is_output v)
    (cond (ltb i param_at) (equal_to (whole_units v) v)
    (cond (ltb i timer_at) true
    (cond (ltb i count_at) (not (less_than v (pos 0))) (leb (as_count v) places))))

unfoldable pub are_cells : List ℤ → ℕ → Bool
are_cells [] i = true
are_cells (v ∷ vs) i = is_cell i v && are_cells vs (i + 1)

unfoldable pub all_zero : List ℤ → Bool
all_zero [] = true
all_zero (v ∷ vs) = equal_to v (pos 0) && all_zero vs

-- unused places 0: of FIFO k, from 0, in R and with its count
unfoldable pub is_fifo_sound : List ℤ → List ℤ → ℕ → Bool
is_fifo_sound r c k = all_zero (drop (count_in c k) (run r k))

-- so for m FIFOs from k on
unfoldable pub are_fifos : List ℤ → List ℤ → ℕ → ℕ → Bool
are_fifos r c zero k = true
are_fifos r c (suc m) k = is_fifo_sound r c k && are_fifos r c m (k + 1)

-- cancelled lines without lock or memory; nothing for a rank that the set does not have
unfoldable pub is_flag : ℕ → ℕ → Bool → Bool → Bool → Bool
is_flag count k locked cancelled memory =
    cond (ltb k count) (cond cancelled (not locked && not memory) true) (not locked && (not memory && not cancelled))

-- so for m ranks from k on
unfoldable pub are_flags : ℕ → List Bool → List Bool → List Bool → ℕ → ℕ → Bool
are_flags count locked cancelled memory zero k = true
are_flags count locked cancelled memory (suc m) k =
    is_flag count k (get_or locked k false) (get_or cancelled k false) (get_or memory k false) && are_flags count locked cancelled memory m (k + 1)

unfoldable pub state_sound : ℕ → State → Bool
state_sound count st =
    all_ranged st.r && (are_cells st.cells 0 && (are_fifos st.r st.cells fifos 0 && (are_channels st.channels channel_count && (are_flags count st.locked st.cancelled st.memory max_lines 0 && are_act_counts count st.acts max_lines 0))))

-- a set and a state are sound: of the set are asked the places that its lines use (Set), of the state all places
unfoldable pub is_sound : List ℕ → State → Bool
is_sound s st = is_some (sound_lines s) && state_sound (lines_of s).count st

-- the lines of a set, or 22 where it or a state is not sound
abbrev pub lines_with : List ℕ → State → Result Lines ℕ
lines_with s st = elim (is_sound s st) [ true ↦ Ok (lines_of s) | false ↦ Err unsound ]
