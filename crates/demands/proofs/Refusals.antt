-- A refusal or an alarm returns what was given, for each call; and it adds nothing to the history. Assumes nothing.
use Rattle.std.specs.Prelude.{◌≡◌, refl, ◌≢◌, Bool, false, List, [], ◌∷◌, ℕ, zero, suc, ◌<◌, eqb, ltb, length, Result, Ok, Err, is_some, Option, Some, None}
use Rattle.std.proofs.Common.{sym, ◌∙◌, inl, inr, eqb-true}
use Rattle.std.proofs.Math.Path.{ap}
use Rattle.std.proofs.Math.Bool.{true}
use native.Mathlib.Omega.{arith}
use Rattle.values.specs.Choice.{either, chosen, refused, contrary}
use Rattle.values.specs.Codes.{wrong_numbers, unsound, faulty_channel}
use Rattle.couplers.specs.declared.reading.Reading.{Reading}
use Rattle.couplers.specs.declared.channel.Channel.{Channel}
use Rattle.couplers.specs.declared.channel.Samples.{Samples}
use Rattle.couplers.specs.Channel.{channel_count, sampled_at, all_good, values_sampled, channels_sampled, sampled_all, channels_kept}
use Rattle.couplers.specs.ChannelLaws.{refused-by-one}
use Rattle.tokens.specs.Descent.{Answer, good, stop, ◌>>=◌}
use Rattle.engine.specs.declared.state.State.{State}
use Rattle.engine.specs.declared.calls.Called.{Called}
use Rattle.engine.specs.Set.{lines_of}
use Rattle.engine.specs.Sound.{is_sound}
use Rattle.engine.specs.Turn.{Entry, beat_in, locks, cancels, resets, Turned}
use Rattle.engine.specs.Beat.{buffer_size, are_inputs, Given, samples_in, all_turns, beat_begun, whole_beat, turned_answer, buffered, beat_ended, beat_answer, beat_buffer, kept_in}
use Rattle.engine.specs.NamedLine.{found}
use Rattle.engine.specs.Calls.{with_locked, with_cancelled, called, locked_call, lock_call, unlock_call, cancel_call, program_end_call, control_reset_state, control_reset_call}
use Rattle.soundness.specs.VariableCodeLaws.{StopsBy}
use Rattle.soundness.specs.AnswerCodeLaws.{TurnCode, turns-by}
use Rattle.soundness.specs.CallCodes.{ended-well}
use Rattle.soundness.specs.Call.{Call, do_beat, do_lock, do_unlock, do_cancel, do_program_end, do_control_reset}
use Rattle.demands.specs.History.{after}
use Rattle.demands.specs.Run.{Now, entries_of, end_entries, noted, rank_of, step}

-- a beat with a code other than 0: the state as given, no orders, no line acted, the buffer as given
pub beat-refused : (s : List ℕ) (st : State) (g : Given) → let x = beat_answer s st g in
    x.code ≢ 0 → (x.state ≡ st) × (x.orders ≡ 0) × (x.acted ≡ 0) × (beat_buffer s st g ≡ g.buffer) × (entries_of (whole_beat s st g) ≡ [])
unfolding beat_answer beat_buffer
beat-refused s st g = go (whole_beat s st g)
  where
    go : (a : Answer Turned) → let x = turned_answer st (kept_in st g) a in x.code ≢ 0 → (x.state ≡ st) × (x.orders ≡ 0) × (x.acted ≡ 0) × (buffered g.buffer a ≡ g.buffer) × (entries_of a ≡ [])
    go (good t) h = absurd (h refl)
    go (stop c) h = (refl, refl, refl, refl, refl)

-- BEHIND 22 AND 20 POSITIONS THAT ARE NONE GIVE 21, whatever the channels sent
module _ (s : List ℕ) (st : State) (g : Given) (sound : is_sound s st ≡ true) (long : ltb (length g.buffer) buffer_size ≡ false) where
  pub positions-first : are_inputs g.lent ≡ false → (beat_answer s st g).code ≡ wrong_numbers
  unfolding beat_answer whole_beat
  positions-first i = ap (λ (a : Answer Turned). (turned_answer st (kept_in st g) a).code) (chosen _ _ _ sound ∙ refused _ _ _ long ∙ refused _ _ _ i)

  -- AND BEHIND 21 A CHANNEL THAT REFUSES GIVES 23
  pub one-channel-23 : are_inputs g.lent ≡ true → (k : ℕ) → k < channel_count → is_some (sampled_at st.channels g.readings k) ≡ false → (beat_answer s st g).code ≡ faulty_channel
  unfolding beat_answer whole_beat
  one-channel-23 i k l h =
      ap (λ (a : Answer Turned). (turned_answer st (kept_in st g) a).code)
      (chosen _ _ _ sound ∙ refused _ _ _ long ∙ chosen _ _ _ i ∙ refused _ _ _ (refused-by-one st.channels g.readings k l h))

-- ---- 23 only so

-- a beat came to its end; it stopped by 23
abbrev Ended : Answer Turned → Type 0
Ended (good t) = Unit {0}
Ended (stop c) = ⊥

abbrev By23 : Answer Turned → Type 0
By23 (good t) = ⊥
By23 (stop c) = c ≡ faulty_channel

-- no turn stops by 23
turns-not-23 : (x : Answer Turned) (f : Turned → Turned) → StopsBy TurnCode x → By23 (x >>= λ t. good (f t)) → ⊥
turns-not-23 (good t) f h e = e
turns-not-23 (stop c) f h e = go h
  where
    go : TurnCode c → ⊥
    go (inl p) = omega arith
    go (inr (inl p)) = omega arith
    go (inr (inr (inl p))) = omega arith
    go (inr (inr (inr (inl p)))) = omega arith
    go (inr (inr (inr (inr (inl p))))) = omega arith
    go (inr (inr (inr (inr (inr (inl p)))))) = omega arith
    go (inr (inr (inr (inr (inr (inr x)))))) = x

-- where the first n are not all good, one of them refuses
refuser : (cs : List Channel) (rs : List Reading) (n : ℕ) → all_good cs rs n ≡ false → (k : ℕ) × (k < n) × (is_some (sampled_at cs rs k) ≡ false)
unfolding all_good
refuser cs rs zero h = contrary refl h
refuser cs rs (suc n) h = go (all_good cs rs n) refl (refuser cs rs n)
  where
    go : (b : Bool) → all_good cs rs n ≡ b → (all_good cs rs n ≡ false → (k : ℕ) × (k < n) × (is_some (sampled_at cs rs k) ≡ false)) → (k : ℕ) × (k < suc n) × (is_some (sampled_at cs rs k) ≡ false)
    go true e f = (n, omega arith, rw e at h)
    go false e f = let x = f e in (x.0, omega (arith, x.1), x.2)

-- none refuses, and all are good, is one
pub good-is-all : (cs : List Channel) (rs : List Reading) → is_some (sampled_all cs rs) ≡ all_good cs rs channel_count
unfolding sampled_all
good-is-all cs rs = go (all_good cs rs channel_count)
  where
    go : (b : Bool) → is_some (elim b as (λ _. Option Samples) [ true ↦ Some (record { values = values_sampled cs rs channel_count; channels = channels_sampled cs rs channel_count }) | false ↦ None ]) ≡ b
    go true = refl
    go false = refl

module _ (s : List ℕ) (st : State) (g : Given) where
  -- what 23 says: not 22, not 20, not 21, and a channel that refuses
  abbrev pub Refuses23 : Type 0
  Refuses23 = (is_sound s st ≡ true) × (ltb (length g.buffer) buffer_size ≡ false) × (are_inputs g.lent ≡ true) × ((k : ℕ) × (k < channel_count) × (is_some (sampled_at st.channels g.readings k) ≡ false))

  stopped-23 : By23 (whole_beat s st g) → Refuses23
  unfolding whole_beat
  stopped-23 =
      let P : Answer Turned → Type 0 = λ a. By23 a → Refuses23 in
      either P (is_sound s st)
      (λ e. either P (ltb (length g.buffer) buffer_size) (λ l h. absurd (omega arith)) λ l.
      either P (are_inputs g.lent)
      (λ i. either P (is_some (samples_in st g))
      (λ w h. absurd (turns-not-23 (all_turns s (lines_of s) st g) (λ t. record { world = t.world; entries = beat_in g.automatic ∷ t.entries })
      (turns-by s (lines_of s).numbers st.cancelled g.automatic (lines_of s).items (lines_of s).count 0 (beat_begun st g)) h))
      (λ w h. (e, l, i, refuser st.channels g.readings channel_count (sym (good-is-all st.channels g.readings) ∙ w))))
      (λ i h. absurd (omega arith)))
      (λ e h. absurd (omega arith))

  -- A BEAT ANSWERS 23 ONLY WHERE 22, 20 AND 21 DO NOT HOLD AND A CHANNEL REFUSES
  pub only-a-channel-23 : (beat_answer s st g).code ≡ faulty_channel → Refuses23
  unfolding beat_answer
  only-a-channel-23 h = stopped-23 (go (whole_beat s st g) h)
    where
      go : (a : Answer Turned) → (turned_answer st (kept_in st g) a).code ≡ faulty_channel → By23 a
      go (good t) e = omega arith
      go (stop c) e = e

  ended-samples : Ended (whole_beat s st g) → is_some (samples_in st g) ≡ true
  unfolding whole_beat
  ended-samples =
      let P : Answer Turned → Type 0 = λ a. Ended a → is_some (samples_in st g) ≡ true in
      either P (is_sound s st)
      (λ e. either P (ltb (length g.buffer) buffer_size) (λ l h. absurd h) λ l.
      either P (are_inputs g.lent) (λ i. either P (is_some (samples_in st g)) (λ w h. w) (λ w h. absurd h)) (λ i h. absurd h))
      (λ e h. absurd h)

  -- where a beat ends well, no channel refused
  pub good-beat-samples : (beat_answer s st g).code ≡ 0 → is_some (samples_in st g) ≡ true
  good-beat-samples z = let w = ended-well s st g z in ended-samples (rw w.1 tt)

-- ---- what the channels keep

-- A BEAT THAT IS REFUSED OR UNDONE KEEPS WHAT THE CHANNELS KEPT, whatever was read
pub refused-keeps-channels : (s : List ℕ) (st : State) (g : Given) → (beat_answer s st g).code ≢ 0 → (beat_answer s st g).state.channels ≡ st.channels
refused-keeps-channels s st g h = ap (λ (x : State). x.channels) (beat-refused s st g h).0

-- one that ends well keeps what the channels made of the readings
pub good-keeps-samples : (s : List ℕ) (st : State) (g : Given) → (beat_answer s st g).code ≡ 0 → (beat_answer s st g).state.channels ≡ (channels_kept st.channels (sampled_all st.channels g.readings))
unfolding beat_answer beat_ended
good-keeps-samples s st g z = let w = ended-well s st g z in rw w.1

called-refused : (st : State) (f : Result ℕ ℕ) (change : ℕ → State) → (called st f change).code ≢ 0 → (called st f change).state ≡ st
unfolding called
called-refused st (Ok k) change h = absurd (h refl)
called-refused st (Err c) change h = refl

-- lock, unlock, cancel, program end and control reset with a code other than 0: the state as given
pub lock-refused : (s : List ℕ) (st : State) (n : ℕ) → (lock_call s st n).code ≢ 0 → (lock_call s st n).state ≡ st
unfolding lock_call locked_call
lock-refused s st n = called-refused st (found s st n) (λ k. with_locked st k true)

pub unlock-refused : (s : List ℕ) (st : State) (n : ℕ) → (unlock_call s st n).code ≢ 0 → (unlock_call s st n).state ≡ st
unfolding unlock_call locked_call
unlock-refused s st n = called-refused st (found s st n) (λ k. with_locked st k false)

pub cancel-refused : (s : List ℕ) (st : State) (n : ℕ) → (cancel_call s st n).code ≢ 0 → (cancel_call s st n).state ≡ st
unfolding cancel_call
cancel-refused s st n = called-refused st (found s st n) (λ k. with_cancelled st k)

pub program-end-refused : (s : List ℕ) (st : State) → (program_end_call s st).code ≢ 0 → (program_end_call s st).state ≡ st
unfolding program_end_call
program-end-refused s st = either (λ (c : Called). c.code ≢ 0 → c.state ≡ st) (is_sound s st) (λ e h. absurd (h refl)) (λ e h. refl)

pub control-reset-refused : (s : List ℕ) (st : State) → (control_reset_call s st).code ≢ 0 → (control_reset_call s st).state ≡ st
unfolding control_reset_call
control-reset-refused s st = go (is_sound s st)
  where
    go : (a : Bool) → let c : Called = elim a [ true ↦ record { code = 0; state = control_reset_state (lines_of s).items (lines_of s).count st } | false ↦ record { code = unsound; state = st } ] in c.code ≢ 0 → c.state ≡ st
    go true h = absurd (h refl)
    go false h = refl

-- CONTROL RESET KEEPS WHAT THE CHANNELS KEPT
pub control-reset-keeps-channels : (s : List ℕ) (st : State) → (control_reset_call s st).state.channels ≡ st.channels
unfolding control_reset_call control_reset_state
control-reset-keeps-channels s st = either (λ (c : Called). c.state.channels ≡ st.channels) (is_sound s st) (λ e. refl) (λ e. refl)

-- in a run: a call that is answered with a code other than 0 changes no state and adds nothing to the history
noted-refused : (c : ℕ) (es r : List Entry) → c ≢ 0 → noted c es r ≡ r
noted-refused c es r h = go (eqb c 0) refl
  where
    go : (a : Bool) → eqb c 0 ≡ a → (let x : List Entry = elim a [ true ↦ after es r | false ↦ r ] in x ≡ r)
    go true p = absurd (h (eqb-true c 0 p))
    go false p = refl

abbrev pub last_code : Now State → ℕ
last_code n = elim n.told [ [] ↦ 0 | x ∷ xs ↦ x.1.code ]

pub step-refused : (s : List ℕ) (c : Call) (n : Now State) → last_code (step s c n) ≢ 0 → ((step s c n).kept ≡ n.kept) × ((step s c n).history ≡ n.history)
unfolding step
step-refused s (do_beat g) n h = let p = beat-refused s n.kept g h in (p.0, rw p.4)
step-refused s (do_lock k) n h = (lock-refused s n.kept k h, noted-refused _ (locks (rank_of s k) true ∷ []) n.history h)
step-refused s (do_unlock k) n h = (unlock-refused s n.kept k h, noted-refused _ (locks (rank_of s k) false ∷ []) n.history h)
step-refused s (do_cancel k) n h = (cancel-refused s n.kept k h, noted-refused _ (cancels (rank_of s k) ∷ []) n.history h)
step-refused s do_program_end n h = (program-end-refused s n.kept h, noted-refused _ (end_entries (lines_of s) n.kept.cancelled) n.history h)
step-refused s do_control_reset n h = (control-reset-refused s n.kept h, noted-refused _ (resets ∷ []) n.history h)
