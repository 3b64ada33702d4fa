-- What a channel sent in a run: its readings in the beats that ended well, as calls and codes tell it; and what the lines of a set read of it. Definitions only; assumes nothing.
use Rattle.std.specs.Prelude.{cond, List, [], ◌∷◌, ◌++◌, ℕ, ◌+◌, eqb, get_or, ℤ, Result}
use Rattle.couplers.specs.declared.reading.Reading.{Reading}
use Rattle.couplers.specs.Channel.{no_reading}
use Rattle.values.specs.declared.codes.Alarm.{Alarm}
use Rattle.tokens.specs.Token.{INA}
use Rattle.working.specs.Variables.{variable_value}
use Rattle.engine.specs.declared.state.State.{State}
use Rattle.engine.specs.Beat.{Given, beat_begun}
use Rattle.soundness.specs.Call.{Call, do_beat, do_lock, do_unlock, do_cancel, do_program_end, do_control_reset}
use Rattle.demands.specs.Run.{Reply}

-- what channel k, from 0, sends to a beat
abbrev pub sent_by : ℕ → Given → Reading
sent_by k g = get_or g.readings k no_reading

-- what a call that answered this code counts of it: a beat with 0 its reading; a beat that was refused or undone, and a host's call, nothing
abbrev pub counted_of : ℕ → Call → ℕ → List Reading
counted_of k (do_beat g) code = cond (eqb code 0) (sent_by k g ∷ []) []
counted_of k (do_lock n) code = []
counted_of k (do_unlock n) code = []
counted_of k (do_cancel n) code = []
counted_of k do_program_end code = []
counted_of k do_control_reset code = []

-- so of the calls and replies of a run, which are there the newest first; the readings the oldest first
unfoldable pub counted_readings : ℕ → List (Call × Reply) → List Reading
counted_readings k [] = []
counted_readings k (x ∷ xs) = counted_readings k xs ++ counted_of k x.0 x.1.code

-- what a line reads as $A_INA[k+1] when the beat begins: what channel k gives
abbrev pub analogue_in : State → Given → ℕ → Result ℤ Alarm
analogue_in st g k = variable_value (beat_begun st g).vars.r (beat_begun st g).vars.cells INA (k + 1)
