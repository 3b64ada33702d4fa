-- PROGRAM END IS THE HOST'S CANCEL OF EACH ID LINE STILL LIVE, by rising number, and touches nothing else; it keeps a sound state sound. Theorems; nothing is assumed.
use Rattle.std.specs.Prelude.{◌≡◌, ◌||◌, set, Result, Ok}
use Rattle.std.proofs.Math.Path.{refl, sym, ap}
use Rattle.std.proofs.Common.{◌∙◌, length-set, get_or-set_same, lt-ltb}
use Rattle.std.proofs.Math.Bool.{Bool, true, false, cond}
use mathlib.Core.List.{List, [], ◌∷◌, ◌++◌, map-append}
use Prim.Native.Nat.{ℕ, zero, suc, ◌≤◌, ◌<◌}
use Rattle.std.proofs.Math.Decide.{ℕ_discrete}
use native.Mathlib.Omega.{arith}
use Rattle.std.proofs.Math.ListN.{length, get_or}
use Rattle.std.proofs.Math.Seq.{get_or-set_other}
use Rattle.values.specs.Choice.{either, chosen, refused}
use Rattle.values.specs.Numbers.{clash}
use Rattle.checking.specs.declared.line.Line.{Line}
use Rattle.engine.specs.declared.state.State.{State}
use Rattle.engine.specs.declared.calls.Called.{Called}
use Rattle.engine.specs.Set.{no_line, lines_of}
use Rattle.engine.specs.Sound.{is_sound}
use Rattle.engine.specs.NamedLine.{found_at, found}
use Rattle.engine.specs.Calls.{with_cancelled, called, cancel_call, ended_line, program_ended, program_end_call}
use Rattle.soundness.specs.SetSoundLaws.{rank-own}
use Rattle.soundness.specs.CellSoundLaws.{set-sound, state-right, right-state, cancel-keeps}
use Rattle.soundness.specs.CallSoundLaws.{Answers}
use Rattle.soundness.specs.ProgramEnd.{live_ids, numbers_at, cancelled_all}

-- ---- line by line

-- the line of rank k is passed over, an IDS line or cancelled already; or it is cancelled
ended_by_lem : (P : State → Type 0) (l : Line) (st : State) (k : ℕ) → (l.ids || get_or st.cancelled k false ≡ true → P st) → (l.ids || get_or st.cancelled k false ≡ false → P (with_cancelled st k)) → P (ended_line l st k)
unfolding ended_line
ended_by_lem P l st k passed gone = go (l.ids || get_or st.cancelled k false) refl
  where
    go : (b : Bool) → l.ids || get_or st.cancelled k false ≡ b → P (cond b st (with_cancelled st k))
    go true e = passed e
    go false e = gone e

module _ (ls : List Line) (st : State) where
  -- a rank that it has not come to is as it was
  ended-later : (n k : ℕ) → n ≤ k → get_or (program_ended ls st n).cancelled k false ≡ get_or st.cancelled k false
  unfolding program_ended
  ended-later zero k h = refl
  ended-later (suc n) k h =
      let x = program_ended ls st n in
      let q = ended-later n k (omega arith) in
      ended_by_lem (λ (y : State). get_or y.cancelled k false ≡ get_or st.cancelled k false) (get_or ls n no_line) x n (λ e. q) (λ e. get_or-set_other x.cancelled n k true false (λ z. omega arith) ∙ q)

  -- what no cancel changes is as it was
  ended_same : {A : Type 0} (part : State → A) → ((x : State) (k : ℕ) → part (with_cancelled x k) ≡ part x) → (n : ℕ) → part (program_ended ls st n) ≡ part st
  unfolding program_ended
  ended_same part same zero = refl
  ended_same part same (suc n) =
      let x = program_ended ls st n in
      ended_by_lem (λ (y : State). part y ≡ part st) (get_or ls n no_line) x n (λ e. ended_same part same n) (λ e. same x n ∙ ended_same part same n)

  -- a line's flags are as they were where the line is an IDS line
  ended-ids : (part : State → List Bool) → ((x : State) (k : ℕ) → (b : Bool) × (part (with_cancelled x k) ≡ set (part x) k b)) → (n k : ℕ) → (get_or ls k no_line).ids ≡ true → get_or (part (program_ended ls st n)) k false ≡ get_or (part st) k false
  unfolding program_ended
  ended-ids part one zero k h = refl
  ended-ids part one (suc n) k h =
      let x = program_ended ls st n in
      let q = ended-ids part one n k h in
      ended_by_lem (λ (y : State). get_or (part y) k false ≡ get_or (part st) k false) (get_or ls n no_line) x n (λ e. q)
      (λ e. let (b, c) = one x n in ap (λ (bs : List Bool). get_or bs k false) c ∙ get_or-set_other (part x) n k b false (λ z. ids-not n z e) ∙ q)
    where
      ids-not : (n : ℕ) → k ≡ n → (get_or ls n no_line).ids || get_or (program_ended ls st n).cancelled n false ≡ false → ⊥
      ids-not n z e = let i : (get_or ls n no_line).ids ≡ true = rw z at h in let w : true ≡ false = rw i at e in clash (cc)

  -- an ID line that it has passed is cancelled
  ended-cancelled : (n k : ℕ) → k < n → k < length st.cancelled → (get_or ls k no_line).ids ≡ false → get_or (program_ended ls st n).cancelled k false ≡ true
  unfolding program_ended
  ended-cancelled zero k l m h = absurd (omega arith)
  ended-cancelled (suc n) k l m h = by_place (ℕ_discrete k n) (λ p. ended-cancelled n k p m h)
    where
      x : State
      x = program_ended ls st n

      size : length x.cancelled ≡ length st.cancelled
      size = ended_same (λ (y : State). length y.cancelled) (λ y j. length-set y.cancelled j true) n

      by_place : Dec (k ≡ n) → (k < n → get_or x.cancelled k false ≡ true) → get_or (ended_line (get_or ls n no_line) x n).cancelled k false ≡ true
      by_place (yes q) f =
          let i : (get_or ls n no_line).ids ≡ false = rw q at h in
          rw q (ended_by_lem (λ (y : State). get_or y.cancelled n false ≡ true) (get_or ls n no_line) x n (λ e. rw i at e) (λ e. get_or-set_same x.cancelled n true false (rw size (omega arith))))
      by_place (no q) f =
          let p = f (omega (arith, q)) in
          ended_by_lem (λ (y : State). get_or y.cancelled k false ≡ true) (get_or ls n no_line) x n (λ e. p) (λ e. get_or-set_other x.cancelled n k true false q ∙ p)

-- ---- what it leaves, of any set and state

-- two states that differ in the flags of ID lines alone: R with the FIFOs, the cells with outputs, markers, parameters and timers, which timers run, what the channels keep, how often each
-- line acted, and of an IDS line whether it is locked, cancelled, and its memory
pub record SameButIds (ls : List Line) (x y : State) : Type 0 where
  pub r : x.r ≡ y.r
  pub cells : x.cells ≡ y.cells
  pub runs : x.runs ≡ y.runs
  pub channels : x.channels ≡ y.channels
  pub acts : x.acts ≡ y.acts
  pub locked : (k : ℕ) → (get_or ls k no_line).ids ≡ true → get_or x.locked k false ≡ get_or y.locked k false
  pub cancelled : (k : ℕ) → (get_or ls k no_line).ids ≡ true → get_or x.cancelled k false ≡ get_or y.cancelled k false
  pub memory : (k : ℕ) → (get_or ls k no_line).ids ≡ true → get_or x.memory k false ≡ get_or y.memory k false

ended-keeps : (ls : List Line) (st : State) (n : ℕ) → SameButIds ls (program_ended ls st n) st
ended-keeps ls st n = record {
  r = ended_same ls st (λ (x : State). x.r) (λ x k. refl) n;
  cells = ended_same ls st (λ (x : State). x.cells) (λ x k. refl) n;
  runs = ended_same ls st (λ (x : State). x.runs) (λ x k. refl) n;
  channels = ended_same ls st (λ (x : State). x.channels) (λ x k. refl) n;
  acts = ended_same ls st (λ (x : State). x.acts) (λ x k. refl) n;
  locked = ended-ids ls st (λ (x : State). x.locked) (λ x k. (false, refl)) n;
  cancelled = ended-ids ls st (λ (x : State). x.cancelled) (λ x k. (true, refl)) n;
  memory = ended-ids ls st (λ (x : State). x.memory) (λ x k. (false, refl)) n;
}

module _ (s : List ℕ) (st : State) where
  -- PROGRAM END TOUCHES NOTHING BUT THE FLAGS OF ID LINES
  pub program-end-keeps : SameButIds (lines_of s).items (program_end_call s st).state st
  unfolding program_end_call
  program-end-keeps =
      either (λ (c : Called). SameButIds (lines_of s).items c.state st) (is_sound s st) (λ e. ended-keeps (lines_of s).items st (lines_of s).count)
      (λ e. record { r = refl; cells = refl; runs = refl; channels = refl; acts = refl; locked = λ k h. refl; cancelled = λ k h. refl; memory = λ k h. refl })

  -- AFTER IT EVERY ID LINE IS CANCELLED
  pub program-end-cancels : (program_end_call s st).code ≡ 0 → (k : ℕ) → k < (lines_of s).count → k < length st.cancelled → (get_or (lines_of s).items k no_line).ids ≡ false → get_or (program_end_call s st).state.cancelled k false ≡ true
  unfolding program_end_call
  program-end-cancels =
      either (λ (c : Called). c.code ≡ 0 → (k : ℕ) → k < (lines_of s).count → k < length st.cancelled → (get_or (lines_of s).items k no_line).ids ≡ false → get_or c.state.cancelled k false ≡ true) (is_sound s st)
      (λ e z k. ended-cancelled (lines_of s).items st (lines_of s).count k) (λ e z. absurd (omega arith))

-- ---- a sound state

module _ (s : List ℕ) (st : State) (h : is_sound s st ≡ true) where
  abbrev items : List Line
  items = (lines_of s).items

  abbrev passed_to : ℕ → State
  passed_to n = program_ended items st n

  cancelled-sound : (x : State) (k : ℕ) → is_sound s x ≡ true → k < (lines_of s).count → is_sound s (with_cancelled x k) ≡ true
  cancelled-sound x k e l =
      let r = state-right s x e in
      right-state s (with_cancelled x k) (set-sound s x e)
      (record { cells = r.cells; channels = r.channels; flags = cancel-keeps (lines_of s).count x.locked x.cancelled x.memory r.flags k l; acts = r.acts })

  ended-sound : (n : ℕ) → n ≤ (lines_of s).count → is_sound s (passed_to n) ≡ true
  unfolding program_ended
  ended-sound zero l = h
  ended-sound (suc n) l =
      let q = ended-sound n (omega arith) in
      ended_by_lem (λ (y : State). is_sound s y ≡ true) (get_or items n no_line) (passed_to n) n (λ e. q) (λ e. cancelled-sound (passed_to n) n q (omega arith))

  -- the host's cancel of a live line of the set, by its number
  own-cancel : (x : State) (k : ℕ) → is_sound s x ≡ true → k < (lines_of s).count → get_or x.cancelled k false ≡ false → (cancel_call s x (get_or items k no_line).number).state ≡ with_cancelled x k
  unfolding cancel_call called found found_at
  own-cancel x k e l c =
      let f : found s x (get_or items k no_line).number ≡ Ok k =
      chosen _ _ _ e ∙ ap (found_at (lines_of s).count x.cancelled) (rank-own s k l) ∙ (chosen _ _ _ (lt-ltb k (lines_of s).count l) ∙ refused _ _ _ c) in
      ap (λ (y : Result ℕ ℕ). (called x y (λ j. with_cancelled x j)).state) f

  cancels-append : (x : State) (ms ns : List ℕ) → cancelled_all s x (ms ++ ns) ≡ cancelled_all s (cancelled_all s x ms) ns
  unfolding cancelled_all
  cancels-append x [] ns = refl
  cancels-append x (m ∷ ms) ns = cancels-append (cancel_call s x m).state ms ns

  ended-cancels : (n : ℕ) → n ≤ (lines_of s).count → passed_to n ≡ cancelled_all s st (numbers_at items (live_ids items st.cancelled n))
  unfolding program_ended ended_line live_ids cancelled_all
  ended-cancels zero l = refl
  ended-cancels (suc n) l =
      let live = live_ids items st.cancelled n in
      let own : List ℕ = cond (line || get_or st.cancelled n false) [] (n ∷ []) in
      go (line || get_or (passed_to n).cancelled n false) (line || get_or st.cancelled n false) refl (ap (λ b. line || b) (ended-later items st n n (omega arith)))
      ∙ ap (λ (x : State). cancelled_all s x (numbers_at items own)) (ended-cancels n (omega arith))
      ∙ sym (cancels-append st (numbers_at items live) (numbers_at items own))
      ∙ ap (cancelled_all s st) (sym (map-append (λ k. (get_or items k no_line).number) live own))
    where
      line : Bool
      line = (get_or items n no_line).ids

      live_then : (a b : Bool) → a || b ≡ false → b ≡ false
      live_then true b e = clash (cc)
      live_then false b e = e

      go : (b c : Bool) → line || get_or (passed_to n).cancelled n false ≡ b → b ≡ c → cond b (passed_to n) (with_cancelled (passed_to n) n) ≡ cancelled_all s (passed_to n) (numbers_at items (cond c [] (n ∷ [])))
      go true true e q = refl
      go true false e q = clash (cc)
      go false true e q = clash (cc)
      go false false e q = sym (own-cancel (passed_to n) n (ended-sound n (omega arith)) (omega arith) (live_then line _ e))

  -- PROGRAM END IS THE HOST'S CANCEL OF EACH ID LINE STILL LIVE, one after the other, by rising number
  pub program-end-is-cancels : (program_end_call s st).state ≡ cancelled_all s st (numbers_at items (live_ids items st.cancelled (lines_of s).count))
  unfolding program_end_call
  program-end-is-cancels = ap (λ (c : Called). c.state) (chosen _ _ _ h) ∙ ended-cancels (lines_of s).count (omega arith)

  -- and keeps a sound state sound
  pub program_end_call-keeps : is_sound s (program_end_call s st).state ≡ true
  unfolding program_end_call
  program_end_call-keeps = either (λ (c : Called). is_sound s c.state ≡ true) (is_sound s st) (λ e. ended-sound (lines_of s).count (omega arith)) (λ e. h)

  pub program_end_call-answers : Answers st (program_end_call s st)
  unfolding program_end_call
  program_end_call-answers =
      either (Answers st) (is_sound s st)
      (λ e. let k = ended-keeps items st (lines_of s).count in record { r = k.r; cells = k.cells; code = λ z. omega arith })
      (λ e. clash (cc))
