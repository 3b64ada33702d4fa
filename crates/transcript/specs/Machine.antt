-- A session as the code works it: line by line, whatever the pieces of its input. That this comes to what Synrun says is shown in the crate `sessions`. Definitions only.
use Rattle.std.specs.Prelude.{Bool, true, false, ◌&&◌, List, [], ◌∷◌, ◌++◌, ℕ, zero, suc, ◌+◌, eqb, leb, ltb, length, take, drop, Option, None, Some}
use Rattle.text.specs.Byte.{in_line, run}
use Rattle.reader.specs.Load.{load_answer, load_set}
use Rattle.transcript.specs.declared.intake.Intake.{Intake}
use Rattle.transcript.specs.declared.intake.Phase.TheVariants.{Over}
use Rattle.transcript.specs.declared.session.Session.{Session}
use Rattle.transcript.specs.declared.totals.Totals.{Totals}
use Rattle.transcript.specs.declared.beat_line.Said.{Said}
use Rattle.transcript.specs.Output.{load_line, error_line, out_size, line_room}
use Rattle.transcript.specs.Totals.{last_line, no_totals, ended, are_fit}
use Rattle.transcript.specs.declared.view.View.{View}
use Rattle.transcript.specs.Tally.{said_counted, said_printed}
use Rattle.transcript.specs.declared.intake.Arrival.{Arrival}
use Rattle.transcript.specs.declared.intake.Arrival.TheVariants.{Nothing, WholeText, LineCame}
use Rattle.transcript.specs.Intake.{in_beats, no_intake, with_phase, intake_fits, bytes_taken, bytes_kept, line_over, line_kept, input_over}

-- the kept text, the set, and what is kept beside them
pub record Machine : Type 0 where
  pub text : List ℕ
  pub set : List ℕ
  pub session : Session

-- a machine, and what it has printed meanwhile
pub record Fed : Type 0 where
  pub machine : Machine
  pub output : List ℕ

-- ---- a session

abbrev pub begun : View → Session
begun v = record { intake = no_intake; totals = no_totals v }

abbrev pub with_intake : Session → Intake → Session
with_intake x i = record { intake = i; totals = x.totals }

abbrev pub with_totals : Session → Totals → Session
with_totals x n = record { intake = x.intake; totals = n }

-- no more is taken in, and nothing more printed
abbrev pub stopped : Session → Session
stopped x = with_intake x (with_phase x.intake Over)

-- one that could have come from a beginning; any other is treated as over
unfoldable pub is_fit : Session → Bool
is_fit x = intake_fits x.intake && are_fit x.totals.counts

-- ---- what came in is worked

-- nothing
abbrev pub standing : Machine → Fed
standing m = record { machine = m; output = [] }

-- the set text t is whole: it is loaded
unfoldable pub opened : Machine → List ℕ → Fed
opened m t =
    elim (load_answer t).code [
      | zero ↦ record { machine = record { text = m.text; set = load_set t; session = m.session }; output = [] }
      | suc c ↦ record { machine = record { text = m.text; set = load_set t; session = stopped m.session }; output = load_line (suc c) (load_answer t).line }
    ]

-- a line that says x
unfoldable pub said_of : Machine → Said → Fed
said_of m x =
    let n = said_counted m.set m.session.totals x in
    let text = said_printed m.set m.session.totals x in
    elim (eqb n.counts.lines last_line) [
      | true ↦ record { machine = record { text = m.text; set = m.set; session = stopped (with_totals m.session n) }; output = text ++ ended m.set n }
      | false ↦ record { machine = record { text = m.text; set = m.set; session = with_totals m.session n }; output = text }
    ]

-- a line behind the line *, ill-formed or not
unfoldable pub said_end : Machine → Option Said → Fed
said_end m o =
    elim o [
      | None ↦ record { machine = record { text = m.text; set = m.set; session = stopped m.session }; output = error_line (m.session.totals.counts.lines + 1) }
      | Some x ↦ said_of m x
    ]

-- what the end of a line, or of the input, brought
unfoldable pub arrival_worked : Machine → Arrival → Fed
arrival_worked m a =
    elim a [
      | Nothing ↦ standing m
      | WholeText n ↦ opened m (take n m.text)
      | LineCame o ↦ said_end m o
    ]

-- ---- input

-- the machine with what is kept of some input: the text t, and i beside it
abbrev pub keeping : Machine → List ℕ → Intake → Machine
keeping m t i = record { text = t; set = m.set; session = with_intake m.session i }

-- bytes of a line, no LF among them
unfoldable pub chunk : Machine → List ℕ → Machine
chunk m l = keeping m (bytes_kept m.session.intake m.text l) (bytes_taken m.session.intake l)

-- an LF
unfoldable pub line_end : Machine → Fed
line_end m =
    let a = line_over m.session.intake in
    arrival_worked (keeping m (line_kept m.session.intake m.text) a.intake) a.arrival

-- the lines of some input
abbrev pub behind : List ℕ → Fed → Fed
behind o f = record { machine = f.machine; output = o ++ f.output }

unfoldable pub fed_lines : Machine → List (List ℕ) → Fed
fed_lines m [] = record { machine = m; output = [] }
fed_lines m (l ∷ []) = record { machine = chunk m l; output = [] }
fed_lines m (l ∷ k ∷ ls) = let f = line_end (chunk m l) in behind f.output (fed_lines f.machine (k ∷ ls))

-- the end, where lines are still awaited
unfoldable pub end_after : List ℕ → Session → List ℕ
end_after s x = elim (in_beats x.intake) [ true ↦ ended s x.totals | false ↦ [] ]

abbrev pub last_output : Fed → List ℕ
last_output f = f.output ++ end_after f.machine.set f.machine.session

-- the end of input
unfoldable pub finished : Machine → List ℕ
finished m =
    let a = input_over m.session.intake in
    last_output (arrival_worked (keeping m m.text a.intake) a.arrival)

-- nothing more of a session that is not fit
unfoldable pub finished_text : Machine → List ℕ
finished_text m = elim (is_fit m.session) [ true ↦ finished m | false ↦ [] ]

-- ---- a piece of input

-- what a piece of input came to: the machine, how much of the piece was taken, and what was printed
pub record Work : Type 0 where
  pub machine : Machine
  pub taken : ℕ
  pub output : List ℕ

-- line by line, while there is room for what one more may print; with n lines left at most, k bytes taken, o printed
unfoldable pub work_from : ℕ → Machine → List ℕ → ℕ → List ℕ → Work
work_from zero m t k o = record { machine = m; taken = k; output = o }
work_from (suc n) m t k o =
    elim (leb (length o + line_room) out_size) [
      | true ↦
          let c = chunk m (take (run in_line t) t) in
          elim (ltb (run in_line t) (length t)) [
            | true ↦ let f = line_end c in work_from n f.machine (drop (run in_line t + 1) t) (k + (run in_line t + 1)) (o ++ f.output)
            | false ↦ record { machine = c; taken = k + run in_line t; output = o }
          ]
      | false ↦ record { machine = m; taken = k; output = o }
    ]

-- the rest of the input of a session that is not fit is passed over
unfoldable pub worked : Machine → List ℕ → Work
worked m t = elim (is_fit m.session) [ true ↦ work_from (length t + 1) m t 0 [] | false ↦ record { machine = m; taken = length t; output = [] } ]

-- handing a piece over, as often as something of it is left, leads from one machine to another
pub data LeadsTo : Machine → List ℕ → Machine → Type 0 where
  at_end : (m : Machine) → LeadsTo m [] m
  goes_on : (m x : Machine) (t : List ℕ) → LeadsTo (worked m t).machine (drop (worked m t).taken t) x → LeadsTo m t x
