-- LOADING GIVES A SOUND SET, whatever the text; so from a load on no call answers 22. Theorems; nothing is assumed.
use Rattle.std.specs.Prelude.{◌≡◌, true, is_some, ℕ, ◌≤◌, length, Result, IsOk, is_ok}
use Rattle.std.proofs.Common.{ap, ◌∙◌, arith}
use mathlib.Core.List.{List, [], ◌∷◌}
use Rattle.values.specs.Choice.{chosen}
use Rattle.tokens.specs.Token.{set_size}
use Rattle.engine.specs.declared.state.State.{State}
use Rattle.engine.specs.Set.{sound_lines}
use Rattle.soundness.specs.SetSoundLaws.{empty-sound}
use Rattle.engine.specs.State.{power_on}
use Rattle.engine.specs.Sound.{is_sound}
use Rattle.engine.specs.declared.status.Status.{Status}
use Rattle.engine.specs.Status.{status_of}
use Rattle.soundness.specs.GoodAnswers.{Not22}
use Rattle.soundness.specs.CellSoundLaws.{power-on}
use Rattle.soundness.specs.Call.{Call, do_beat, do_lock, do_unlock, do_cancel, do_program_end, do_control_reset, code_after, after_all}
use Rattle.soundness.specs.SoundLaws.{Whole, call-keeps, call-not22, power-on-whole, always-sound, never-22}
use Rattle.demands.specs.Run.{Now, Reply, step, run_from, engine_run}
use Rattle.demands.specs.Asks.{Ask, standing, last_text, calls_since}
use Rattle.demands.proofs.AskLaws.{load-power-on}
use Rattle.demands.proofs.FromALoadOn.{since-the-load}
use Rattle.reader.specs.Row.{by_number}
use Rattle.reader.specs.Load.{load_answer, load_set}
use Rattle.loading.specs.LoadAnswers.{taken-answer, refused-empty, by-outcome}
use Rattle.reader.specs.StandLaws.{empty-length}
use Rattle.loading.specs.PlacedLaws.{set-length}
use Rattle.loading.specs.LoadedLaws.{taken-sound}

-- ---- the set

-- the lines of a set that was loaded are sound: with its curves at most 32, numbers distinct and rising, and each passes every loading check from 4 on
pub load-lines-sound : (t : List ℕ) → is_some (sound_lines (load_set t)) ≡ true
load-lines-sound t =
    by-outcome _ t
    (λ q h. rw (taken-answer t q h).2 (taken-sound t q h))
    (λ c k h. rw (refused-empty t c k h) empty-sound)

-- EVERY TEXT gives a set that is sound with the state of power-on: one that is refused gives the empty set
pub load-sound : (t : List ℕ) → is_sound (load_set t) power_on ≡ true
load-sound t = power-on (load_set t) (load-lines-sound t)

-- a loaded set fills its array
pub load-size : (t : List ℕ) → length (load_set t) ≡ set_size
load-size t =
    by-outcome _ t
    (λ q h. ap length (taken-answer t q h).2 ∙ set-length q.curves (by_number q.rows))
    (λ c k h. ap length (refused-empty t c k h) ∙ empty-length)

-- ---- from a load on

-- every state that any calls reach is sound
pub load-always-sound : (t : List ℕ) (cs : List Call) → is_sound (load_set t) (after_all (load_set t) (load_answer t).state cs) ≡ true
load-always-sound t cs = let n = load-size t in rw (load-power-on t) (always-sound (load_set t) cs (omega arith) (load-lines-sound t))

-- NO CALL ANSWERS 22, after any calls
pub load-never-22 : (t : List ℕ) (cs : List Call) (c : Call) → Not22 (code_after (load_set t) (after_all (load_set t) (load_answer t).state cs) c)
load-never-22 t cs c = let n = load-size t in rw (load-power-on t) (never-22 (load_set t) cs c (omega arith) (load-lines-sound t))

-- ---- the same of the run that demand 3 speaks of

-- no reply of some is a 22
abbrev pub NoneIs22 : List (Call × Reply) → Type 0
NoneIs22 [] = Unit {0}
NoneIs22 (x ∷ xs) = Not22 x.1.code × NoneIs22 xs

module _ (s : List ℕ) (size : length s ≤ set_size) where
  -- a call of a run keeps the state sound, and adds no 22
  step_keeps : (c : Call) (n : Now State) → Whole s n.kept → NoneIs22 n.told → Whole s (step s c n).kept × NoneIs22 (step s c n).told
  unfolding step
  step_keeps (do_beat g) n w h = (call-keeps s n.kept (do_beat g) size w, (call-not22 s n.kept (do_beat g) size w, h))
  step_keeps (do_lock k) n w h = (call-keeps s n.kept (do_lock k) size w, (call-not22 s n.kept (do_lock k) size w, h))
  step_keeps (do_unlock k) n w h = (call-keeps s n.kept (do_unlock k) size w, (call-not22 s n.kept (do_unlock k) size w, h))
  step_keeps (do_cancel k) n w h = (call-keeps s n.kept (do_cancel k) size w, (call-not22 s n.kept (do_cancel k) size w, h))
  step_keeps do_program_end n w h = (call-keeps s n.kept do_program_end size w, (call-not22 s n.kept do_program_end size w, h))
  step_keeps do_control_reset n w h = (call-keeps s n.kept do_control_reset size w, (call-not22 s n.kept do_control_reset size w, h))

  run-keeps : (cs : List Call) (n : Now State) → Whole s n.kept → NoneIs22 n.told → Whole s (run_from s cs n).kept × NoneIs22 (run_from s cs n).told
  unfolding run_from
  run-keeps [] n w h = (w, h)
  run-keeps (c ∷ cs) n w h = let (a, b) = step_keeps c n w h in run-keeps cs (step s c n) a b

loaded-keeps : (t : List ℕ) (cs : List Call) → Whole (load_set t) (engine_run (load_set t) cs).kept × NoneIs22 (engine_run (load_set t) cs).told
loaded-keeps t cs = let n = load-size t in run-keeps (load_set t) (omega arith) cs _ (power-on-whole (load_set t) (load-lines-sound t)) tt

-- IN EVERY RUN OVER A LOADED SET no reply is a 22
pub load-run-never-22 : (t : List ℕ) (cs : List Call) → NoneIs22 (engine_run (load_set t) cs).told
load-run-never-22 t cs = (loaded-keeps t cs).1

-- LOADING AND ALL CALLS KEEP IT SO: from a load on, through any asks and further loads among them, the set and the state are sound
pub sound-from-a-load : (t : List ℕ) (qs : List Ask) → let n = standing t qs in is_sound n.set n.since.kept ≡ true
sound-from-a-load t qs = rw (since-the-load t qs) (loaded-keeps (last_text t qs) (calls_since [] qs)).0.sound

-- and no reply is a 22
pub never-22-from-a-load : (t : List ℕ) (qs : List Ask) → NoneIs22 (standing t qs).since.told
never-22-from-a-load t qs = rw (since-the-load t qs) (loaded-keeps (last_text t qs) (calls_since [] qs)).1

-- nor is the status picture refused
pub status-never-22 : (t : List ℕ) (qs : List Ask) → let n = standing t qs in IsOk (status_of n.set n.since.kept)
unfolding status_of
status-never-22 t qs = ap (λ (x : Result Status ℕ). is_ok x) (chosen _ _ _ (sound-from-a-load t qs))
