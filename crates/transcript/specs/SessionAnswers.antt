-- How the code answers what a session came to. Definitions only.
use Rattle.std.specs.Prelude.{◌≡◌, List, ℕ, length}
use Rattle.values.specs.PutAt.{IsPut}
use Rattle.transcript.specs.declared.intake.Intake.{Intake}
use Rattle.transcript.specs.declared.session.Session.{Session}
use Rattle.transcript.specs.declared.session.Stepped.{Stepped}
use Rattle.transcript.specs.declared.totals.Totals.{Totals}
use Rattle.transcript.specs.Machine.{Machine, Fed, Work}

abbrev pub session_of : Intake → Totals → Session
session_of i n = record { intake = i; totals = n }

abbrev pub machine_of : List ℕ → List ℕ → Session → Machine
machine_of t s x = record { text = t; set = s; session = x }

-- a line came to f: the machine m, and what was put into a buffer at a place
pub record IsFed (f : Fed) (m : Machine) (buffer : List ℕ) (at : ℕ) (exit : List ℕ) (end : ℕ) : Type 0 where
  pub machine : f.machine ≡ m
  pub output : IsPut buffer at f.output exit end

-- a piece of input came to w: the machine m, k bytes of the piece taken, and what was put at the start of a buffer
pub record IsWorked (w : Work) (m : Machine) (k : ℕ) (buffer exit : List ℕ) (written : ℕ) : Type 0 where
  pub machine : w.machine ≡ m
  pub taken : w.taken ≡ k
  pub output : IsPut buffer 0 w.output exit written

-- the answer to a piece of input that came to w
abbrev pub step_answer : Work → Stepped
step_answer w = record { session = w.machine.session; taken = w.taken; written = length w.output }
