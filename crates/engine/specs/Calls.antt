-- The host's calls lock, unlock, cancel, program end and control reset (document 01, "A beat" and "Codes"; document 02, Req 07). Definitions only.
use Rattle.std.specs.Prelude.{Bool, true, false, cond, not, ◌||◌, List, ◌++◌, ℕ, zero, suc, ◌-◌, ℤ, pos, get_or, set, take, drop, replicate, Result, Ok, Err}
use Rattle.values.specs.Codes.{unsound}
use Rattle.checking.specs.declared.line.Line.{Line}
use Rattle.engine.specs.declared.state.State.{State}
use Rattle.engine.specs.declared.calls.Called.{Called}
use Rattle.engine.specs.NamedLine.{found}
use Rattle.tokens.specs.Token.{max_lines}
use Rattle.working.specs.Variables.{timer_count, marker_at, count_at}
use Rattle.engine.specs.Set.{no_line, lines_of}
use Rattle.engine.specs.ActCount.{reset_acts}
use Rattle.engine.specs.Sound.{is_sound}

abbrev pub with_locked : State → ℕ → Bool → State
with_locked st k b = record { r = st.r; cells = st.cells; runs = st.runs; channels = st.channels; locked = set st.locked k b; cancelled = st.cancelled; memory = st.memory; acts = st.acts }

-- cancelling clears the line's lock and memory; its count stays
abbrev pub with_cancelled : State → ℕ → State
with_cancelled st k = record {
  r = st.r;
  cells = st.cells;
  runs = st.runs;
  channels = st.channels;
  locked = set st.locked k false;
  cancelled = set st.cancelled k true;
  memory = set st.memory k false;
  acts = st.acts;
}

-- what a call answers: 0 and the state that it gives; refused, the code and the state as given
abbrev pub answered : State → Result State ℕ → Called
answered st (Ok x) = record { code = 0; state = x }
answered st (Err k) = record { code = k; state = st }

-- the state that `change` gives for the rank of a line
unfoldable pub called : State → Result ℕ ℕ → (ℕ → State) → Called
called st (Ok k) change = answered st (Ok (change k))
called st (Err c) change = answered st (Err c)

unfoldable pub locked_call : List ℕ → State → ℕ → Bool → Called
locked_call s st n b = called st (found s st n) (λ k. with_locked st k b)

unfoldable pub lock_call : List ℕ → State → ℕ → Called
lock_call s st n = locked_call s st n true

unfoldable pub unlock_call : List ℕ → State → ℕ → Called
unlock_call s st n = locked_call s st n false

unfoldable pub cancel_call : List ℕ → State → ℕ → Called
cancel_call s st n = called st (found s st n) (λ k. with_cancelled st k)

-- every ID line of the first n is cancelled
unfoldable pub reset_cancelled : List Line → List Bool → ℕ → List Bool
reset_cancelled ls cs zero = cs
reset_cancelled ls cs (suc n) = set (reset_cancelled ls cs n) n (get_or cs n false || not (get_or ls n no_line).ids)

-- markers, parameters and timers 0
unfoldable pub zeroed : List ℤ → List ℤ
zeroed c = take marker_at c ++ (replicate (count_at - marker_at) (pos 0) ++ drop count_at c)

-- control reset, document 01's reset, cancels every ID line, unlocks and clears the memory of IDS lines, zeroes markers and parameters, stops timers at 0; R, FIFOs, outputs and what the channels keep stay; the counts of lines still live begin at 0
unfoldable pub control_reset_state : List Line → ℕ → State → State
control_reset_state ls count st = record {
  r = st.r;
  cells = zeroed st.cells;
  runs = replicate timer_count false;
  channels = st.channels;
  locked = replicate max_lines false;
  cancelled = reset_cancelled ls st.cancelled count;
  memory = replicate max_lines false;
  acts = reset_acts (reset_cancelled ls st.cancelled count) st.acts max_lines;
}

unfoldable pub control_reset_call : List ℕ → State → Called
control_reset_call s st =
    elim (is_sound s st) [
      | true ↦ record { code = 0; state = control_reset_state (lines_of s).items (lines_of s).count st }
      | false ↦ record { code = unsound; state = st }
    ]

-- program end cancels an ID line that is still live, as the host's cancel does
unfoldable pub ended_line : Line → State → ℕ → State
ended_line l st k = cond (l.ids || get_or st.cancelled k false) st (with_cancelled st k)

-- so for the first n lines; nothing else is touched
unfoldable pub program_ended : List Line → State → ℕ → State
program_ended ls st zero = st
program_ended ls st (suc n) = ended_line (get_or ls n no_line) (program_ended ls st n) n

unfoldable pub program_end_call : List ℕ → State → Called
program_end_call s st =
    elim (is_sound s st) [
      | true ↦ record { code = 0; state = program_ended (lines_of s).items st (lines_of s).count }
      | false ↦ record { code = unsound; state = st }
    ]
