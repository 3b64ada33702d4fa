-- WHAT EACH CALL ANSWERS: the codes of a beat and of a host's call, for any set and any state; and a beat that stopped never answers 0. Theorems; nothing is assumed.
-- (A load's are 0 to 14: `code-last` of loading.)
use Rattle.std.specs.Prelude.{◌≡◌, ◌≢◌, Bool, true, false, ◌&&◌, List, [], ◌∷◌, ℕ, ltb, length, get_or, Result, Ok, Err, IfErr, is_some}
use Rattle.std.proofs.Math.Path.{refl}
use Rattle.std.proofs.Math.Logic.{inl, inr}
use Rattle.std.proofs.Common.{arith, ltb-true}
use Rattle.values.specs.Codes.{unsound}
use Rattle.values.specs.Choice.{either, both}
use Rattle.tokens.specs.Descent.{Answer, good, stop}
use Rattle.engine.specs.declared.state.State.{State}
use Rattle.engine.specs.declared.calls.Called.{Called}
use Rattle.engine.specs.Set.{rank_in, lines_of}
use Rattle.engine.specs.Sound.{is_sound}
use Rattle.engine.specs.Turn.{Turned}
use Rattle.engine.specs.Beat.{buffer_size, are_inputs, Given, samples_in, all_turns, beat_begun, whole_beat, turned_answer, beat_answer, kept_in}
use Rattle.engine.specs.declared.status.Status.{Status}
use Rattle.engine.specs.Status.{status_of}
use Rattle.engine.specs.NamedLine.{found_at, found}
use Rattle.engine.specs.Calls.{with_locked, with_cancelled, called, locked_call, lock_call, unlock_call, cancel_call, program_end_call, control_reset_call}
use Rattle.soundness.specs.AnswerCodes.{OneOf, beat_codes, host_codes}
use Rattle.soundness.specs.VariableCodeLaws.{StopsBy, stops_then}
use Rattle.soundness.specs.AnswerCodeLaws.{TurnCode, turns-by}

-- ---- a beat

abbrev BeatCode : ℕ → Type 0
BeatCode c = OneOf c beat_codes

-- no 0 among some codes
abbrev without0 : List ℕ → Bool
without0 [] = true
without0 (x ∷ xs) = ltb 0 x && without0 xs

not-0 : (xs : List ℕ) (c : ℕ) → without0 xs ≡ true → OneOf c xs → c ≢ 0
not-0 [] c w h e = h
not-0 (x ∷ xs) c w (inl p) e = omega (arith, ltb-true 0 x (both (ltb 0 x) (without0 xs) w).0)
not-0 (x ∷ xs) c w (inr h) e = not-0 xs c (both (ltb 0 x) (without0 xs) w).1 h e

turn-code : {A : Type 0} (x : Answer A) → StopsBy TurnCode x → StopsBy BeatCode x
turn-code (good a) h = tt
turn-code (stop c) h = inr (inr (inr h))

module _ (s : List ℕ) (st : State) (g : Given) where
  -- a beat stops by 20 to 23 or an alarm of 30 to 34
  beat-stops : StopsBy BeatCode (whole_beat s st g)
  unfolding whole_beat
  beat-stops =
      let P : Answer Turned → Type 0 = StopsBy BeatCode in
      let turns = all_turns s (lines_of s) st g in
      either P (is_sound s st)
      (λ e. either P (ltb (length g.buffer) buffer_size) (λ e. inl refl) λ e.
      either P (are_inputs g.lent)
      (λ e. either P (is_some (samples_in st g))
      (λ e. stops_then BeatCode turns _ (turn-code turns (turns-by s (lines_of s).numbers st.cancelled g.automatic (lines_of s).items (lines_of s).count 0 (beat_begun st g))) (λ t. tt))
      (λ e. inr (inr (inl refl))))
      (λ e. inr (inl refl)))
      (λ e. inr (inr (inr (inl refl))))

  -- A BEAT THAT STOPPED NEVER HAS 0
  pub stopped-not-0 : (c : ℕ) → whole_beat s st g ≡ stop c → c ≢ 0
  stopped-not-0 c e = not-0 beat_codes c refl (rw e at beat-stops)

  -- A BEAT ANSWERS 0, 20 to 23 or an alarm of 30 to 34
  pub beat-code : OneOf (beat_answer s st g).code (0 ∷ beat_codes)
  unfolding beat_answer
  beat-code = by_answer (whole_beat s st g) beat-stops
    where
      by_answer : (x : Answer Turned) → StopsBy BeatCode x → OneOf (turned_answer st (kept_in st g) x).code (0 ∷ beat_codes)
      by_answer (good t) h = inl refl
      by_answer (stop c) h = inr h

  -- so where a beat answers 0, it ended well
  pub ended-well : (beat_answer s st g).code ≡ 0 → (t : Turned) × (whole_beat s st g ≡ good t)
  unfolding beat_answer
  ended-well e = by_answer (whole_beat s st g) refl e
    where
      by_answer : (x : Answer Turned) → whole_beat s st g ≡ x → (turned_answer st (kept_in st g) x).code ≡ 0 → (t : Turned) × (whole_beat s st g ≡ good t)
      by_answer (good t) p e = (t, p)
      by_answer (stop c) p e = absurd (stopped-not-0 c p e)

-- ---- a host's call

abbrev RefusedBy : Result ℕ ℕ → Type 0
RefusedBy f = IfErr f (λ c. OneOf c host_codes)

found-code : (s : List ℕ) (st : State) (n : ℕ) → RefusedBy (found s st n)
unfolding found found_at
found-code s st n =
    let k = rank_in (lines_of s).numbers n 0 in
    either RefusedBy (is_sound s st)
    (λ e. either RefusedBy (ltb k (lines_of s).count) (λ e. either RefusedBy (get_or st.cancelled k false) (λ e. inr (inl refl)) (λ e. tt)) (λ e. inr (inl refl)))
    (λ e. inl refl)

called-code : (st : State) (f : Result ℕ ℕ) (change : ℕ → State) → RefusedBy f → OneOf (called st f change).code (0 ∷ host_codes)
unfolding called
called-code st (Ok k) change h = inl refl
called-code st (Err c) change h = inr h

module _ (s : List ℕ) (st : State) where
  -- A HOST'S CALL ANSWERS 0, 22 or 40
  pub lock-code : (n : ℕ) → OneOf (lock_call s st n).code (0 ∷ host_codes)
  unfolding lock_call locked_call
  lock-code n = called-code st (found s st n) (λ k. with_locked st k true) (found-code s st n)

  pub unlock-code : (n : ℕ) → OneOf (unlock_call s st n).code (0 ∷ host_codes)
  unfolding unlock_call locked_call
  unlock-code n = called-code st (found s st n) (λ k. with_locked st k false) (found-code s st n)

  pub cancel-code : (n : ℕ) → OneOf (cancel_call s st n).code (0 ∷ host_codes)
  unfolding cancel_call
  cancel-code n = called-code st (found s st n) (λ k. with_cancelled st k) (found-code s st n)

  -- program end, control reset and the status picture only 0 or 22
  pub program-end-code : OneOf (program_end_call s st).code (0 ∷ unsound ∷ [])
  unfolding program_end_call
  program-end-code = either (λ (c : Called). OneOf c.code (0 ∷ unsound ∷ [])) (is_sound s st) (λ e. inl refl) (λ e. inr (inl refl))

  pub control-reset-code : OneOf (control_reset_call s st).code (0 ∷ unsound ∷ [])
  unfolding control_reset_call
  control-reset-code = either (λ (c : Called). OneOf c.code (0 ∷ unsound ∷ [])) (is_sound s st) (λ e. inl refl) (λ e. inr (inl refl))

  pub status-code : IfErr (status_of s st) (λ k. k ≡ unsound)
  unfolding status_of
  status-code = either (λ (x : Result Status ℕ). IfErr x (λ k. k ≡ unsound)) (is_sound s st) (λ e. tt) (λ e. refl)
