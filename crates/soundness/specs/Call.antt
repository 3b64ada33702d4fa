-- The calls after a load, and the states and codes that they come to. Definitions only.
use Rattle.std.specs.Prelude.{List, [], ◌∷◌, ℕ}
use Rattle.engine.specs.declared.state.State.{State}
use Rattle.engine.specs.Calls.{lock_call, unlock_call, cancel_call, program_end_call, control_reset_call}
use Rattle.engine.specs.Beat.{Given, beat_answer}

-- a beat with what it is given; and the host's calls, of which the first three name a line by its number
pub data Call : Type 0 where
  do_beat : Given → Call
  do_lock : ℕ → Call
  do_unlock : ℕ → Call
  do_cancel : ℕ → Call
  do_program_end : Call
  do_control_reset : Call

-- the state that a call leaves
abbrev pub state_after : List ℕ → State → Call → State
state_after s st (do_lock n) = (lock_call s st n).state
state_after s st (do_unlock n) = (unlock_call s st n).state
state_after s st (do_cancel n) = (cancel_call s st n).state
state_after s st do_program_end = (program_end_call s st).state
state_after s st do_control_reset = (control_reset_call s st).state
state_after s st (do_beat g) = (beat_answer s st g).state

-- and its code
abbrev pub code_after : List ℕ → State → Call → ℕ
code_after s st (do_lock n) = (lock_call s st n).code
code_after s st (do_unlock n) = (unlock_call s st n).code
code_after s st (do_cancel n) = (cancel_call s st n).code
code_after s st do_program_end = (program_end_call s st).code
code_after s st do_control_reset = (control_reset_call s st).code
code_after s st (do_beat g) = (beat_answer s st g).code

-- the state after calls, the first first
unfoldable pub after_all : List ℕ → State → List Call → State
after_all s st [] = st
after_all s st (c ∷ cs) = after_all s (state_after s st c) cs
