-- How much a line of input may print, and that a session lives on while its input goes on. Assumes nothing.
use Rattle.std.specs.Prelude.{◌≡◌, refl, true, List, ◌⊎◌, ℕ, zero, suc, ◌+◌, ◌≤◌, eqb, length, take, Option, None, Some, Result, Ok, Err, IfOk}
use Rattle.std.proofs.Common.{inl, inr, arith, length-append, eqb-true}
use Rattle.std.proofs.lemmas.Bool.{eqb-false}
use Rattle.values.specs.Choice.{either, both, and-true}
use Rattle.tokens.specs.Token.{max_lines}
use Rattle.engine.specs.Order.{max_orders}
use Rattle.engine.specs.SetCountLaws.{sound-count}
use Rattle.engine.specs.declared.state.State.{State}
use Rattle.engine.specs.declared.status.Status.{Status as LineStates}
use Rattle.engine.specs.Sound.{is_sound}
use Rattle.engine.specs.Status.{status_of}
use Rattle.reader.specs.Load.{load_answer}
use Rattle.transcript.specs.declared.intake.Phase.TheVariants.{Over}
use Rattle.transcript.specs.declared.session.Session.{Session}
use Rattle.transcript.specs.declared.beat_line.Lent.{Lent}
use Rattle.transcript.specs.declared.beat_line.Said.{Said}
use Rattle.transcript.specs.declared.beat_line.Said.TheVariants.{Beat, ProgramEnd, ControlReset}
use Rattle.transcript.specs.Output.{beat_room, end_room, line_room, out_size}
use Rattle.transcript.specs.OutputLaws.{load-room, error-room, code-room, orders-room, end-room, rows-room}
use Rattle.transcript.specs.declared.totals.Totals.{Totals}
use Rattle.transcript.specs.declared.view.View.{View}
use Rattle.transcript.specs.declared.view.View.TheVariants.{Run, Status}
use Rattle.transcript.specs.Totals.{rows_in, last_line, picture, end_by, ended, are_fit}
use Rattle.transcript.specs.TotalsLaws.{counting-fit, calling-fit, FitCounts, fit-counts, counts-fit}
use Rattle.transcript.specs.Tally.{given_by, answer_of, buffer_of, beat_text, printed_by, beat_printed, said_counted, said_printed}
use Rattle.transcript.specs.Machine.{Machine, Fed, is_fit, opened, said_of, said_end, chunk, line_end, finished, finished_text, stopped, standing, arrival_worked, keeping, end_after, last_output}
use Rattle.transcript.specs.declared.intake.Arrival.{Arrival}
use Rattle.transcript.specs.declared.intake.Arrival.TheVariants.{Nothing, WholeText, LineCame}
use Rattle.transcript.specs.Intake.{in_beats, intake_fits, bytes_taken, line_over, line_kept, input_over}
use Rattle.transcript.specs.IntakeLaws.{FitIntake, intake-parts, intake-whole, phase-fit, bytes_fit, line-fit, over-bytes, over-bytes-kept, over-line as intake-line, over-line-kept}
use Rattle.transcript.specs.Machine.{with_intake}
use Rattle.transcript.specs.OrdersLaws.{orders-within}

-- ---- cases

-- what holds of both cases of a code holds of the code
pub by_code : {X : Type 0} (P : X → Type 0) (n : ℕ) {x : X} {y : ℕ → X} → (n ≡ 0 → P x) → ((c : ℕ) → n ≡ suc c → P (y c)) → P (elim n [ zero ↦ x | suc c ↦ y c ])
by_code P zero f g = f refl
by_code P (suc c) f g = g c refl

-- the same of what may be lent
pub by_lent : {A X : Type 0} (P : X → Type 0) (o : Option A) {x : X} {y : A → X} → (o ≡ None → P x) → ((a : A) → o ≡ Some a → P (y a)) → P (elim o [ None ↦ x | Some a ↦ y a ])
by_lent P None f g = f refl
by_lent P (Some a) f g = g a refl

-- ---- room

-- at most n bytes
abbrev Short : ℕ → List ℕ → Type 0
Short n bs = length bs ≤ n

-- a beat has no more orders than its lines may have actions
pub beat-orders : (s : List ℕ) (n : Totals) (l : Lent) → (answer_of s n l).orders ≤ max_orders
unfolding answer_of
beat-orders s n l = orders-within s n.state (given_by l)

pub beat-room : (s : List ℕ) (n : Totals) (l : Lent) → length (beat_text s n l) ≤ beat_room
unfolding beat_text
beat-room s n l =
    let a = code-room (n.counts.beats.0 + 1) (answer_of s n l).code (answer_of s n l).orders in
    let b = orders-room (answer_of s n l).orders (buffer_of s n l) in
    let c = beat-orders s n l in
    simp length-append (omega arith)

-- and prints no more of it, whatever the view
printed-room : (v : View) (text : List ℕ) → Short beat_room text → Short beat_room (printed_by v text)
printed-room Run text h = h
printed-room Status text h = omega arith

pub beat-printed-room : (s : List ℕ) (n : Totals) (l : Lent) → length (beat_printed s n l) ≤ beat_room
unfolding beat_printed
beat-printed-room s n l = printed-room n.counts.view (beat_text s n l) (beat-room s n l)

-- nor of any line
pub said-room : (s : List ℕ) (n : Totals) (x : Said) → Short beat_room (said_printed s n x)
said-room s n (Beat l) = beat-printed-room s n l
said-room s n ProgramEnd = omega arith
said-room s n ControlReset = omega arith

-- a picture has at most 32 lines
pub status-count : (s : List ℕ) (st : State) → IfOk (status_of s st) (λ x. x.count ≤ max_lines)
unfolding status_of
status-count s st = either (λ (x : Result LineStates ℕ). IfOk x (λ y. y.count ≤ max_lines)) (is_sound s st) (λ e. sound-count s) (λ e. tt)

shown-room : (x : Result LineStates ℕ) → IfOk x (λ y. y.count ≤ max_lines) → Short end_room (rows_in x)
shown-room (Ok x) h = let a = rows-room x.count 0 x.lines in omega arith
shown-room (Err k) h = omega arith

picture-room : (s : List ℕ) (st : State) → Short end_room (picture s st)
picture-room s st = shown-room (status_of s st) (status-count s st)

end-by-room : (v : View) (s : List ℕ) (n : Totals) → Short end_room (end_by v s n)
end-by-room Run s n = end-room n.counts.beats.0 n.counts.coded n.counts.orders
end-by-room Status s n = picture-room s n.state

-- what is printed at the end
pub ended-room : (s : List ℕ) (n : Totals) → length (ended s n) ≤ end_room
ended-room s n = end-by-room n.counts.view s n

-- what is printed with it
abbrev Prints : ℕ → Fed → Type 0
Prints n f = length f.output ≤ n

said_of-room : (m : Machine) (x : Said) → Prints line_room (said_of m x)
unfolding said_of
said_of-room m x =
    let n = said_counted m.set m.session.totals x in
    let a = said-room m.set m.session.totals x in
    let b = ended-room m.set n in
    either (Prints line_room) (eqb n.counts.lines last_line) (λ e. simp length-append (omega arith)) (λ e. omega arith)

said-end-room : (m : Machine) (o : Option Said) → length (said_end m o).output ≤ line_room
unfolding said_end
said-end-room m None = let a = error-room (m.session.totals.counts.lines + 1) in omega arith
said-end-room m (Some x) = said_of-room m x

opened-room : (m : Machine) (t : List ℕ) → length (opened m t).output ≤ line_room
unfolding opened
opened-room m t = by_code (Prints line_room) (load_answer t).code (λ e. omega arith) (λ c e. let a = load-room (suc c) (load_answer t).line in omega arith)

pub arrival-room : (m : Machine) (a : Arrival) → Prints line_room (arrival_worked m a)
unfolding arrival_worked
arrival-room m Nothing = omega arith
arrival-room m (WholeText n) = opened-room m (take n m.text)
arrival-room m (LineCame o) = said-end-room m o

-- a line of input prints at most this much
pub line-room : (m : Machine) → length (line_end m).output ≤ line_room
unfolding line_end
line-room m =
    let x = m.session.intake in
    let a = arrival-room (keeping m (line_kept x m.text) (line_over x).intake) (line_over x).arrival in
    omega arith

-- and so does the end of input
end-after-room : (s : List ℕ) (x : Session) → Short end_room (end_after s x)
unfolding end_after
end-after-room s x = either (Short end_room) (in_beats x.intake) (λ e. ended-room s x.totals) (λ e. omega arith)

last-room : (f : Fed) → Prints line_room f → Short out_size (last_output f)
last-room f h = let a = end-after-room f.machine.set f.machine.session in simp length-append (omega arith)

pub finished-room : (m : Machine) → length (finished m) ≤ out_size
unfolding finished
finished-room m =
    let x = m.session.intake in
    let y = keeping m m.text (input_over x).intake in
    let h = last-room (arrival_worked y (input_over x).arrival) (arrival-room y (input_over x).arrival) in
    omega arith

pub finished-text-room : (m : Machine) → length (finished_text m) ≤ out_size
unfolding finished_text
finished-text-room m = either (Short out_size) (is_fit m.session) (λ e. finished-room m) (λ e. omega arith)

-- ---- a fit session

pub record Fit (x : Session) : Type 0 where
  pub intake : FitIntake x.intake
  pub totals : FitCounts x.totals.counts

-- each of the tests
pub fit_parts : (x : Session) → is_fit x ≡ true → Fit x
unfolding is_fit
fit_parts x h =
    let i = intake_fits x.intake in
    let n = are_fit x.totals.counts in
    record { intake = intake-parts x.intake (both i n h).0; totals = fit-counts x.totals.counts (both i n h).1 }

pub fit-whole : (x : Session) → Fit x → is_fit x ≡ true
unfolding is_fit
fit-whole x f = and-true (intake-whole x.intake f.intake) (counts-fit x.totals.counts f.totals)

-- totals that are fit, or those after the last line, of a session that is over
abbrev pub LiveTotals : Session → Type 0
LiveTotals x = FitCounts x.totals.counts ⊎ ((x.intake.phase ≡ Over) × (x.totals.counts.lines ≡ last_line))

-- fit, or over after the last line
pub record Lives (x : Session) : Type 0 where
  pub intake : FitIntake x.intake
  pub totals : LiveTotals x

pub fit-lives : {x : Session} → Fit x → Lives x
fit-lives f = record { intake = f.intake; totals = inl f.totals }

-- ---- what came in is worked

abbrev FedLives : Fed → Type 0
FedLives f = Lives f.machine.session

-- before the last line the totals stay fit
said-fit : (s : List ℕ) (n : Totals) (x : Said) → FitCounts n.counts → ((said_counted s n x).counts.lines ≡ last_line → ⊥) → FitCounts (said_counted s n x).counts
said-fit s n (Beat l) f h = let a = answer_of s n l in counting-fit n.counts a.code a.orders f (beat-orders s n l) h
said-fit s n ProgramEnd f h = calling-fit n.counts f h
said-fit s n ControlReset f h = calling-fit n.counts f h

said_of-lives : (m : Machine) (x : Said) → Fit m.session → FedLives (said_of m x)
unfolding said_of
said_of-lives m x f =
    let n = said_counted m.set m.session.totals x in
    either FedLives (eqb n.counts.lines last_line) (λ e. record { intake = phase-fit Over f.intake; totals = inr (refl, eqb-true n.counts.lines last_line e) })
    (λ e. record { intake = f.intake; totals = inl (said-fit m.set m.session.totals x f.totals (eqb-false n.counts.lines last_line e)) })

stopped-lives : (x : Session) → Fit x → Lives (stopped x)
stopped-lives x f = record { intake = phase-fit Over f.intake; totals = inl f.totals }

said_end-lives : (m : Machine) (o : Option Said) → Fit m.session → FedLives (said_end m o)
unfolding said_end
said_end-lives m None f = stopped-lives m.session f
said_end-lives m (Some x) f = said_of-lives m x f

opened-lives : (m : Machine) (t : List ℕ) → Fit m.session → FedLives (opened m t)
unfolding opened
opened-lives m t f = by_code FedLives (load_answer t).code (λ e. fit-lives f) (λ c e. stopped-lives m.session f)

arrival-lives : (m : Machine) (a : Arrival) → Fit m.session → FedLives (arrival_worked m a)
unfolding arrival_worked
arrival-lives m Nothing f = fit-lives f
arrival-lives m (WholeText n) f = opened-lives m (take n m.text) f
arrival-lives m (LineCame o) f = said_end-lives m o f

-- ---- over

-- a session that is over takes nothing in and prints nothing
pub over-chunk : (m : Machine) (l : List ℕ) → m.session.intake.phase ≡ Over → chunk m l ≡ m
unfolding chunk
over-chunk m l o = let x = m.session.intake in rw (over-bytes x o l, over-bytes-kept x o m.text l)

pub over-line : (m : Machine) → m.session.intake.phase ≡ Over → line_end m ≡ standing m
unfolding line_end arrival_worked
over-line m o = let x = m.session.intake in rw (intake-line x o, over-line-kept x o m.text)

-- so a session that lives does so throughout
pub chunk-lives : (m : Machine) (l : List ℕ) → Lives m.session → Lives (chunk m l).session
unfolding chunk
chunk-lives m l v = record { intake = bytes_fit m.session.intake l v.intake; totals = go v.totals }
  where
    go : LiveTotals m.session → LiveTotals (with_intake m.session (bytes_taken m.session.intake l))
    go (inl f) = inl f
    go (inr o) = inr (rw (over-bytes m.session.intake o.0 l) o)

pub line-lives : (m : Machine) → Lives m.session → Lives (line_end m).machine.session
line-lives m v = go v.totals
  where
    go : LiveTotals m.session → Lives (line_end m).machine.session
    go (inl f) =
        let x = m.session.intake in
        unfold line_end in arrival-lives (keeping m (line_kept x m.text) (line_over x).intake) (line_over x).arrival (record { intake = (line-fit x v.intake).0; totals = f })
    go (inr o) = rw (over-line m o.0) v
