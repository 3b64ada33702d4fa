-- A session as the code works it: what a line says, the set text, the line's end. Each law says what the definition comes to where the code's tests led.
use Rattle.std.specs.Prelude.{None, Some}
use mathlib.Core.Path.{◌≡◌, refl, sym, ap, ◌∙◌}
use mathlib.Core.Bool.{Bool, true, false}
use mathlib.Core.List.{List, [], ◌++◌, append-nil}
use mathlib.Core.Logic.{inl, inr}
use Prim.Native.Nat.{ℕ, zero, suc, ◌+◌, ◌≤◌}
use native.Mathlib.Omega.{arith}
use borrow.Author.Tests.{eq-eqb, ne_eqb}
use lib.Dec.{eqb}
use lib.ListN.{length}
use Rattle.engine.specs.declared.held.Held.{Held}
use Rattle.engine.specs.declared.state.State.{State}
use Rattle.engine.specs.Held.{state_held}
use Rattle.engine.specs.Sound.{is_sound}
use Rattle.soundness.specs.Call.{Call, do_beat, do_program_end, do_control_reset, state_after}
use Rattle.soundness.specs.SoundLaws.{as-sound}
use Rattle.reader.specs.declared.load_text.Loaded.{Loaded}
use Rattle.reader.specs.Load.{load_answer, load_set}
use Rattle.values.specs.PutAt.{IsPut}
use Rattle.values.specs.PutLaws.{put_both}
use Rattle.transcript.specs.declared.in_place.Workplace.{Workplace}
use Rattle.transcript.specs.declared.intake.Arrival.TheVariants.{Nothing}
use Rattle.transcript.specs.declared.intake.Arrived.{Arrived}
use Rattle.transcript.specs.declared.intake.Intake.{Intake}
use Rattle.transcript.specs.declared.intake.Phase.TheVariants.{Over}
use Rattle.transcript.specs.declared.session.Session.{Session}
use Rattle.transcript.specs.declared.beat_line.Said.{Said}
use Rattle.transcript.specs.declared.beat_line.Said.TheVariants.{Beat, ProgramEnd, ControlReset}
use Rattle.transcript.specs.Output.{load_line, end_room, out_size, last_start, error_line}
use Rattle.transcript.specs.declared.totals.Totals.{Totals}
use Rattle.transcript.specs.Totals.{last_line, ended}
use Rattle.transcript.specs.TotalsLaws.{FitCounts}
use Rattle.transcript.specs.Tally.{given_by, answer_of, said_counted, said_printed}
use Rattle.transcript.specs.SetText.{kept_size}
use Rattle.transcript.specs.declared.intake.Arrival.TheVariants.{Nothing}
use Rattle.transcript.specs.declared.intake.Arrived.{Arrived}
use Rattle.transcript.specs.Intake.{size_in, with_phase, line_over, line_kept, input_over}
use Rattle.transcript.specs.IntakeLaws.{FitIntake, line-fit, input_fit, over-line}
use Rattle.transcript.specs.Machine.{Machine, Fed, with_intake, with_totals, stopped, opened, said_of, said_end, arrival_worked, line_end, standing}
use Rattle.transcript.specs.SessionAnswers.{IsFed, machine_of, session_of}
use Rattle.transcript.specs.InPlace.{totals_at, behind_last}
use Rattle.transcript.specs.InPlaceLaws.{KeptBeside, SameBeside}
use Rattle.transcript.specs.SessionRoomLaws.{LiveTotals, Lives, said-room}

-- what is left to say once it is known what a session came to
pub fed : {f : Fed} {m : Machine} {o b exit : List ℕ} {at q : ℕ} → f ≡ record { machine = m; output = o } → IsPut b at o exit q → IsFed f m b at exit q
fed e p = rw e (record { machine = refl; output = p })

pub fed-as : {f g : Fed} {m : Machine} {b exit : List ℕ} {at q : ℕ} → f ≡ g → IsFed g m b at exit q → IsFed f m b at exit q
fed-as e p = rw e p

-- ---- what a line says

-- behind it there is room for the end
pub end-near : (s : List ℕ) (n : Totals) (x : Said) {b exit : List ℕ} {at q : ℕ} → at ≤ last_start → IsPut b at (said_printed s n x) exit q → q + end_room ≤ out_size
end-near s n x w p = let e = p.behind in let r = said-room s n x in omega arith

-- the end of totals by another name
pub end-of : (s : List ℕ) {n m : Totals} → n ≡ m → {b exit : List ℕ} {at q : ℕ} → IsPut b at (ended s n) exit q → IsPut b at (ended s m) exit q
end-of s e p = rw e at p

-- the end, where it is the last
module _ (t s : List ℕ) (x : Session) where
  pub last-behind : x.totals.counts.lines ≡ last_line → {i : Intake} → i ≡ with_phase x.intake Over → behind_last (machine_of t s x) ≡ record { machine = machine_of t s (with_intake x i); output = ended s x.totals }
  unfolding behind_last
  last-behind h k = rw k (simp (behind_last, eq-eqb x.totals.counts.lines last_line h))

  pub more-behind : (x.totals.counts.lines ≡ last_line → ⊥) → behind_last (machine_of t s x) ≡ standing (machine_of t s x)
  unfolding behind_last
  more-behind h = simp (behind_last, ne_eqb x.totals.counts.lines last_line h)

  said_of-is : (y : Said) → let f = behind_last (machine_of t s (with_totals x (said_counted s x.totals y))) in said_of (machine_of t s x) y ≡ record { machine = f.machine; output = said_printed s x.totals y ++ f.output }
  unfolding said_of behind_last
  said_of-is y = go (eqb (said_counted s x.totals y).counts.lines last_line)
    where
      n : Totals
      n = said_counted s x.totals y

      text : List ℕ
      text = said_printed s x.totals y

      go : (b : Bool) →
          let f : Fed = elim b [ true ↦ record { machine = record { text = t; set = s; session = stopped (with_totals x n) }; output = ended s n } | false ↦ record { machine = machine_of t s (with_totals x n); output = [] } ] in
          ◌≡◌ {A = Fed} (elim b [ true ↦ record { machine = record { text = t; set = s; session = stopped (with_totals x n) }; output = text ++ ended s n } | false ↦ record { machine = machine_of t s (with_totals x n); output = text } ]) (record { machine = f.machine; output = text ++ f.output })
      go true = refl
      go false = ap (λ (o : List ℕ). record { machine = machine_of t s (with_totals x n); output = o }) (sym (append-nil text))

  -- what is printed of it, and then that
  pub said-then : (y : Said) {n : Totals} → n ≡ said_counted s x.totals y → {i : Intake} → i ≡ x.intake → {m : Machine} {b mid exit : List ℕ} {at p q : ℕ} →
      IsPut b at (said_printed s x.totals y) mid p → IsFed (behind_last (machine_of t s (session_of i n))) m mid p exit q → IsFed (said_of (machine_of t s x) y) m b at exit q
  said-then y e k {m} {b} {mid} {exit} {at} {p} {q} h f =
      let g : IsFed (behind_last (machine_of t s (with_totals x (said_counted s x.totals y)))) m mid p exit q = rw (e, k) at f in
      rw (said_of-is y) (record { machine = g.machine; output = put_both h g.output })

  -- an ill-formed line
  pub ill-ended : {i : Intake} → i ≡ with_phase x.intake Over → said_end (machine_of t s x) None ≡ record { machine = machine_of t s (with_intake x i); output = error_line (x.totals.counts.lines + 1) }
  unfolding said_end
  ill-ended k = rw k

  pub well-said : (y : Said) → said_end (machine_of t s x) (Some y) ≡ said_of (machine_of t s x) y
  unfolding said_end
  well-said y = refl

-- ---- what is kept beside the set and the state

module _ {s : List ℕ} {w x : Workplace} (k : KeptBeside s w) (h : SameBeside w x) where
  -- where the state is as it was
  pub still-beside : x.held ≡ w.held → KeptBeside s x
  still-beside e = record { read = h.lines ∙ k.read; told = h.known ∙ k.told ∙ ap (λ (y : Held). is_sound s (state_held y)) (sym e); sized = rw e k.sized }

  -- or left by a call of the host
  called : (c : Call) → state_held x.held ≡ state_after s (state_held w.held) c → KeptBeside s x
  called c l =
      let a = as-sound s (state_held w.held) c k.sized.0 k.sized.1.0 k.sized.1.1 in
      record { read = h.lines ∙ k.read; told = h.known ∙ k.told ∙ sym (ap (is_sound s) l ∙ a.0); sized = (k.sized.0, (ap (λ (y : State). length y.r) l ∙ a.1.0, ap (λ (y : State). length y.cells) l ∙ a.1.1)) }

  -- or by what a line says
  pub said-beside : (y : Said) → totals_at x ≡ said_counted s (totals_at w) y → KeptBeside s x
  unfolding answer_of
  said-beside (Beat l) e = called (do_beat (given_by l)) (ap (λ (n : Totals). n.state) e)
  said-beside ProgramEnd e = called do_program_end (ap (λ (n : Totals). n.state) e)
  said-beside ControlReset e = called do_control_reset (ap (λ (n : Totals). n.state) e)

-- ---- the set text

-- the text u is loaded into v
module _ (t s : List ℕ) (x : Session) (u : List ℕ) {l : Loaded} (e : l ≡ load_answer u) {v : List ℕ} (f : v ≡ load_set u) where
  code_is : (load_answer u).code ≡ l.code
  code_is = ap (λ (y : Loaded). y.code) (sym e)

  pub opens : l.code ≡ 0 → opened (machine_of t s x) u ≡ record { machine = machine_of t v x; output = [] }
  unfolding opened
  opens h = rw f (simp (opened, code_is ∙ h))

  pub opens_not : (l.code ≡ 0 → ⊥) → {y : Session} → y ≡ x → {i : Intake} → i ≡ with_phase y.intake Over → opened (machine_of t s x) u ≡ record { machine = machine_of t v (with_intake y i); output = load_line l.code l.line }
  unfolding opened
  opens_not h g k = rw (k, f, e, g) (go (load_answer u).code refl (λ g. h (sym code_is ∙ g)))
    where
      go : (n : ℕ) → (load_answer u).code ≡ n → (n ≡ 0 → ⊥) → opened (machine_of t s x) u ≡ record { machine = machine_of t (load_set u) (stopped x); output = load_line (load_answer u).code (load_answer u).line }
      go zero g f = absurd (f refl)
      go (suc n) g f = simp (opened, g)

-- ---- what the end of a line, or of the input, brought

-- the size that is told
module _ (x : Intake) (f : FitIntake x) {a : Arrived} where
  pub line-told : a ≡ line_over x → size_in a.arrival ≤ kept_size
  line-told e = rw e (line-fit x f).1

  pub input-told : a ≡ input_over x → size_in a.arrival ≤ kept_size
  input-told e = rw e (input_fit x f).1

-- a line's end, with the text u behind it
pub line_as : (t s : List ℕ) (x : Session) {u : List ℕ} → u ≡ line_kept x.intake t → {a : Arrived} → a ≡ line_over x.intake → line_end (machine_of t s x) ≡ arrival_worked (machine_of u s (session_of a.intake x.totals)) a.arrival
unfolding line_end
line_as t s x k e = rw (k, e)

-- a session that takes something in is not over after the last line
pub line-totals : {x : Session} → Lives x → {a : Arrived} → a ≡ line_over x.intake → (a.arrival ≡ Nothing → ⊥) → FitCounts x.totals.counts
line-totals {x} v {a} e h = go v.totals
  where
    go : LiveTotals x → FitCounts x.totals.counts
    go (inl f) = f
    go (inr o) = absurd (h (ap (λ (y : Arrived). y.arrival) (e ∙ over-line x.intake o.0)))
