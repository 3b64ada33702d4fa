-- How the code holds a session while it works a piece of input. Definitions only.
use Rattle.std.specs.Prelude.{true, false, List, ℕ, eqb}
use Rattle.engine.specs.Held.{state_held}
use Rattle.transcript.specs.declared.in_place.Workplace.{Workplace}
use Rattle.transcript.specs.declared.session.Session.{Session}
use Rattle.transcript.specs.declared.totals.Totals.{Totals}
use Rattle.transcript.specs.Totals.{last_line, ended}
use Rattle.transcript.specs.Machine.{Machine, Fed, stopped, standing}
use Rattle.transcript.specs.SessionAnswers.{machine_of}

-- the totals, and the session
abbrev pub totals_at : Workplace → Totals
totals_at w = record { counts = w.counts; state = state_held w.held }

abbrev pub session_at : Workplace → Session
session_at w = record { intake = w.intake; totals = totals_at w }

-- over a kept text and a set
abbrev pub machine_at : List ℕ → List ℕ → Workplace → Machine
machine_at t s w = machine_of t s (session_at w)

-- behind a line that was counted: the end, if it is the last
unfoldable pub behind_last : Machine → Fed
behind_last m =
    elim (eqb m.session.totals.counts.lines last_line) [
      | true ↦ record { machine = record { text = m.text; set = m.set; session = stopped m.session }; output = ended m.set m.session.totals }
      | false ↦ standing m
    ]
