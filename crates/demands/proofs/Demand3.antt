-- Demand 3: from a load on, through any calls, the engine does what the control does that keeps no flags and decides by the rule over the history. Assumes nothing.
use Rattle.std.specs.Prelude.{◌≡◌, Bool, not, ◌&&◌, List, [], ◌∷◌, ℕ, ◌<◌, length, Result, Ok as Found, Err, is_some}
use Rattle.std.proofs.Math.Path.{refl, ap}
use Rattle.std.proofs.Common.{sym, ◌∙◌, arith}
use Rattle.std.proofs.Math.Bool.{true, false, and-true, and-false}
use Rattle.std.proofs.Math.Dec.{ltb}
use Rattle.std.proofs.Math.ListN.{get_or}
use borrow.Author.Tests.{lt-ltb, ltb-true}
use Rattle.values.specs.Codes.{unsound, unknown_line}
use Rattle.tokens.specs.Token.{max_lines}
use Rattle.values.specs.Choice.{either}
use Rattle.tokens.specs.Descent.{Answer, good, stop, ◌>>=◌}
use Rattle.engine.specs.declared.set.Lines.{Lines}
use Rattle.engine.specs.declared.state.State.{State}
use Rattle.engine.specs.declared.calls.Called.{Called}
use Rattle.engine.specs.Set.{no_line, lines_of}
use Rattle.engine.specs.State.{power_on}
use Rattle.engine.specs.Sound.{is_sound}
use Rattle.engine.specs.Turn.{Entry, beat_in, locks, cancels, resets, Turned}
use Rattle.engine.specs.Beat.{buffer_size, are_inputs, Given, beat_begun, beat_ended, whole_beat, turned_answer, buffered, beat_answer, beat_buffer, kept_in}
use Rattle.engine.specs.NamedLine.{found_at, found}
use Rattle.engine.specs.Calls.{with_locked, with_cancelled, called, locked_call, lock_call, unlock_call, cancel_call, program_ended, program_end_call, control_reset_state, control_reset_call}
use Rattle.engine.specs.SetCountLaws.{sound-count}
use Rattle.demands.specs.History.{History, after, is_cancelled, is_locked}
use Rattle.soundness.specs.Call.{Call, do_beat, do_lock, do_unlock, do_cancel, do_program_end, do_control_reset}
use Rattle.demands.specs.Run.{Now, coded, entries_of, end_entries, rank_of, hosted, beaten, step, run_from, engine_run, by_rank, cancelled_by, locked_by, remembers_by, memory_by, Rest, rest_of, with_rest, state_by, samples_by, begun_by, ended_by, turns_by_rule, beat_by_rule, code_by_rule, end_code_by_rule, hosted_by_rule, beaten_by_rule, cleared, control_reset_by_rule, step_by_rule, run_by_rule_from, run_by_rule}
use Rattle.demands.proofs.FlagLaws.{by_rank-at, lock-locked, reset-locked, reset-cancelled, reset-memory, new-locked, new-cancelled, new-memory}
use Rattle.tokens.specs.AnswerLaws.{Ok, is_ok, bind_ok}
use Rattle.tokens.specs.ChooseLaws.{choose}
use Rattle.demands.proofs.EndRuleLaws.{cancel-state, ended-state}
use Rattle.demands.proofs.TurnRuleLaws.{flagged_turn, turns_same, turns-quiet}

-- ---- a beat

module _ (s : List ℕ) (v : Rest) (r : History) (g : Given) where
  begins : Turned → Answer Turned
  begins t = good (record { world = t.world; entries = beat_in g.automatic ∷ t.entries })

  beat-begun : (a : Answer Turned) → (a >>= flagged_turn (lines_of s) (beat_in g.automatic ∷ r) >>= begins) ≡ (a >>= begins >>= flagged_turn (lines_of s) r)
  unfolding begins
  beat-begun (good t) = refl
  beat-begun (stop c) = refl

  -- the engine's beat, with the flags that the history gives, is the beat by the rule
  pub beat-same : whole_beat s (state_by (lines_of s) v r) g ≡ (beat_by_rule s v r g >>= flagged_turn (lines_of s) r)
  unfolding whole_beat beat_by_rule state_by beat_begun begun_by begins
  beat-same =
      choose (flagged_turn (lines_of s) r) (is_sound s (state_by (lines_of s) v r)) _ _ _ _
      (choose (flagged_turn (lines_of s) r) (ltb (length g.buffer) buffer_size) _ _ _ _ refl
      (choose (flagged_turn (lines_of s) r) (are_inputs g.lent) _ _ _ _
      (choose (flagged_turn (lines_of s) r) (is_some (samples_by v g)) _ _ _ _
      (ap (λ a. a >>= begins) (turns_same (lines_of s) s (lines_of s).count 0 (beat_in g.automatic ∷ r) (begun_by v g) (sound-count s) (omega arith))
      ∙ beat-begun (turns_by_rule s (lines_of s) (lines_of s).count 0 (beat_in g.automatic ∷ r) (begun_by v g))) refl) refl)) refl

  beat-quiet : Ok (λ t. by_rank (cancelled_by (lines_of s) (after t.entries r)) ≡ by_rank (cancelled_by (lines_of s) r)) (beat_by_rule s v r g)
  unfolding beat_by_rule
  beat-quiet =
      let P : Turned → Type 0 = λ t. by_rank (cancelled_by (lines_of s) (after t.entries r)) ≡ by_rank (cancelled_by (lines_of s) r) in
      let a : Answer Turned = turns_by_rule s (lines_of s) (lines_of s).count 0 (beat_in g.automatic ∷ r) (begun_by v g) in
      either (Ok P) (is_sound s (state_by (lines_of s) v r))
      (λ e. either (Ok P) (ltb (length g.buffer) buffer_size) (λ e. tt)
      (λ e. either (Ok P) (are_inputs g.lent)
      (λ e. either (Ok P) (is_some (samples_by v g))
      (λ e. bind_ok P a _ (λ t q. (is_ok _ a t q (turns-quiet (lines_of s) s (lines_of s).count 0 (beat_in g.automatic ∷ r) (begun_by v g))).0))
      (λ e. tt)) (λ e. tt))) (λ e. tt)

-- ---- states by their flags

in-flags : (v : Rest) {l k c d m o : List Bool} → l ≡ k → c ≡ d → m ≡ o → with_rest v l c m ≡ with_rest v k d o
in-flags v p q h = cc

-- ---- where the control stands that keeps no flags, with the flags that its history gives

abbrev pub with_flags : List ℕ → Now Rest → Now State
with_flags s n = record { kept = state_by (lines_of s) n.kept n.history; history = n.history; told = n.told }

module _ (s : List ℕ) (n : Now Rest) where
  step-beat : (g : Given) → step s (do_beat g) (with_flags s n) ≡ with_flags s (step_by_rule s (do_beat g) n)
  unfolding step step_by_rule beat_answer beat_buffer state_by beat_ended ended_by
  step-beat g =
      rw (beat-same s n.kept n.history g)
      (go (beat_by_rule s n.kept n.history g) (beat-quiet s n.kept n.history g))
    where
      st : State
      st = state_by (lines_of s) n.kept n.history

      go : (a : Answer Turned) → Ok (λ t. by_rank (cancelled_by (lines_of s) (after t.entries n.history)) ≡ by_rank (cancelled_by (lines_of s) n.history)) a →
          (let f : Answer Turned = a >>= flagged_turn (lines_of s) n.history in beaten g (turned_answer st (kept_in st g) f) (buffered g.buffer f) (entries_of f) (with_flags s n)) ≡ with_flags s (beaten_by_rule g a n)
      go (good t) q = rw q
      go (stop c) q = refl

  -- a call that names a line, by what it asks in turn: sound, in the set, cancelled
  abbrev found_by : Bool → Bool → Bool → ℕ → Result ℕ ℕ
  found_by a b c k =
      elim a [
        | true ↦ elim b [ true ↦ elim c [ true ↦ Err unknown_line | false ↦ Found k ] | false ↦ Err unknown_line ]
        | false ↦ Err unsound
      ]

  abbrev code_by : Bool → Bool → Bool → ℕ
  code_by a b c = elim a [ true ↦ elim b [ true ↦ elim c [ true ↦ unknown_line | false ↦ 0 ] | false ↦ unknown_line ] | false ↦ unsound ]

  host-same : (x : Call) (es : List Entry) (change : ℕ → State) (number : ℕ) →
      (rank_of s number < max_lines → ltb (rank_of s number) (lines_of s).count ≡ true → cancelled_by (lines_of s) n.history (rank_of s number) ≡ false →
      change (rank_of s number) ≡ state_by (lines_of s) n.kept (after es n.history)) →
      hosted x (called (state_by (lines_of s) n.kept n.history) (found s (state_by (lines_of s) n.kept n.history) number) change) es (with_flags s n)
      ≡ with_flags s (hosted_by_rule x (code_by_rule s n.kept n.history number) es n)
  unfolding called found found_at code_by_rule state_by
  host-same x es change number h =
      go (is_sound s st) (ltb k ls.count) (get_or st.cancelled k false) (is_cancelled (get_or ls.items k no_line).ids k n.history) refl refl asked
    where
      ls : Lines
      ls = lines_of s

      k : ℕ
      k = rank_of s number

      st : State
      st = state_by ls n.kept n.history

      small : ltb k ls.count ≡ true → k < max_lines
      small b = omega (arith, ltb-true k ls.count b, sound-count s)

      asked : ltb k ls.count ≡ true → get_or st.cancelled k false ≡ is_cancelled (get_or ls.items k no_line).ids k n.history
      asked b = by_rank-at (cancelled_by ls n.history) k (small b) ∙ rw b (and-true (is_cancelled (get_or ls.items k no_line).ids k n.history))

      go : (a b c d : Bool) → ltb k ls.count ≡ b → is_cancelled (get_or ls.items k no_line).ids k n.history ≡ d → (b ≡ true → c ≡ d) →
          hosted x (called st (found_by a b c k) change) es (with_flags s n) ≡ with_flags s (hosted_by_rule x (code_by a b d) es n)
      go true true true true p i q = refl
      go true true true false p i q = let z = q refl in cc
      go true true false true p i q = let z = q refl in cc
      go true true false false p i q = rw (h (small p) p (rw i))
      go true false c d p i q = refl
      go false b c d p i q = refl

  step-lock : (x : Call) (b : Bool) (number : ℕ) →
      hosted x (locked_call s (state_by (lines_of s) n.kept n.history) number b) (locks (rank_of s number) b ∷ []) (with_flags s n)
      ≡ with_flags s (hosted_by_rule x (code_by_rule s n.kept n.history number) (locks (rank_of s number) b ∷ []) n)
  unfolding locked_call state_by
  step-lock x b number =
      host-same x (locks (rank_of s number) b ∷ []) (λ k. with_locked (state_by (lines_of s) n.kept n.history) k b) number
      (λ h p c. rw (lock-locked (lines_of s) (rank_of s number) b n.history h c))

  step-cancel : (number : ℕ) → step s (do_cancel number) (with_flags s n) ≡ with_flags s (step_by_rule s (do_cancel number) n)
  unfolding step step_by_rule cancel_call state_by
  step-cancel number =
      host-same (do_cancel number) (cancels (rank_of s number) ∷ []) (λ k. with_cancelled (state_by (lines_of s) n.kept n.history) k) number
      (λ h p c. cancel-state (lines_of s) n.kept n.history (rank_of s number) h p)

  step_end : step s do_program_end (with_flags s n) ≡ with_flags s (step_by_rule s do_program_end n)
  unfolding step step_by_rule program_end_call end_code_by_rule state_by
  step_end = go (is_sound s st)
    where
      st : State
      st = state_by (lines_of s) n.kept n.history

      es : List Entry
      es = end_entries (lines_of s) (by_rank (cancelled_by (lines_of s) n.history))

      go : (a : Bool) →
          (let c : Called = elim a [ true ↦ record { code = 0; state = program_ended (lines_of s).items st (lines_of s).count } | false ↦ record { code = unsound; state = st } ] in
          hosted do_program_end c es (with_flags s n))
          ≡ (let k : ℕ = elim a [ true ↦ 0 | false ↦ unsound ] in with_flags s (hosted_by_rule do_program_end k es n))
      go true = rw (ended-state (lines_of s) n.kept (sound-count s) n.history)
      go false = refl

  step-reset : step s do_control_reset (with_flags s n) ≡ with_flags s (step_by_rule s do_control_reset n)
  unfolding step step_by_rule control_reset_call control_reset_by_rule control_reset_state state_by
  step-reset = go (is_sound s (state_by (lines_of s) n.kept n.history))
    where
      after-reset : control_reset_state (lines_of s).items (lines_of s).count (state_by (lines_of s) n.kept n.history) ≡ state_by (lines_of s) (cleared n.kept (lines_of s) n.history) (resets ∷ n.history)
      after-reset = in-flags _ (reset-locked (lines_of s) n.history) (reset-cancelled (lines_of s) n.history (sound-count s)) (reset-memory (lines_of s) n.history)

      go : (a : Bool) →
          (let c : Called = elim a [ true ↦ record { code = 0; state = control_reset_state (lines_of s).items (lines_of s).count (state_by (lines_of s) n.kept n.history) } | false ↦ record { code = unsound; state = state_by (lines_of s) n.kept n.history } ] in
          hosted do_control_reset c (resets ∷ []) (with_flags s n))
          ≡ (let m : Now Rest = elim a [ true ↦ record { kept = cleared n.kept (lines_of s) n.history; history = resets ∷ n.history; told = (do_control_reset, coded 0) ∷ n.told } | false ↦ record { kept = n.kept; history = n.history; told = (do_control_reset, coded unsound) ∷ n.told } ] in
          with_flags s m)
      go true = rw after-reset
      go false = refl

  -- each call, with the flags that the history gives, is the call by the rule
  pub step_same : (c : Call) → step s c (with_flags s n) ≡ with_flags s (step_by_rule s c n)
  unfolding step step_by_rule lock_call unlock_call
  step_same (do_beat g) = step-beat g
  step_same (do_lock number) = step-lock (do_lock number) true number
  step_same (do_unlock number) = step-lock (do_unlock number) false number
  step_same (do_cancel number) = step-cancel number
  step_same do_program_end = step_end
  step_same do_control_reset = step-reset

-- ---- from a load on

run-same : (s : List ℕ) (cs : List Call) (n : Now Rest) → run_from s cs (with_flags s n) ≡ with_flags s (run_by_rule_from s cs n)
unfolding run_from run_by_rule_from
run-same s [] n = refl
run-same s (c ∷ cs) n = rw (step_same s n c) (run-same s cs (step_by_rule s c n))

pub load_same : (s : List ℕ) → power_on ≡ state_by (lines_of s) (rest_of power_on) []
unfolding power_on state_by
load_same s = in-flags _ (new-locked (lines_of s)) (new-cancelled (lines_of s)) (new-memory (lines_of s))

module _ (s : List ℕ) (cs : List Call) where
  -- demand 3: after any calls the engine stands where the control stands that keeps no flags and decides by the rule alone. Its replies are the same (codes, orders, the
  -- words of the lines that acted), its history is the same, its variables are the same, and its flags are what the history says
  pub demand-3 : engine_run s cs ≡ with_flags s (run_by_rule s cs)
  demand-3 = ap (λ st. run_from s cs (record { kept = st; history = []; told = [] })) (load_same s) ∙ run-same s cs (record { kept = rest_of power_on; history = []; told = [] })

  -- its four parts: the same replies, the same history, the same variables, and
  pub same-replies : (engine_run s cs).told ≡ (run_by_rule s cs).told
  same-replies = ap (λ n. n.told) demand-3

  pub same-history : (engine_run s cs).history ≡ (run_by_rule s cs).history
  same-history = ap (λ n. n.history) demand-3

  pub same-variables : rest_of (engine_run s cs).kept ≡ (run_by_rule s cs).kept
  unfolding state_by
  same-variables = ap (λ n. rest_of n.kept) demand-3

  -- the flags that the engine stores are what its history says
  pub state-says-the-history : (engine_run s cs).kept ≡ state_by (lines_of s) (rest_of (engine_run s cs).kept) (engine_run s cs).history
  state-says-the-history = ap (λ n. n.kept) demand-3 ∙ rw (same-variables, same-history)

  -- so for a line of the set, of rank k: it is cancelled if the history says so; it is locked if the history says so and it is not cancelled; it has in memory what its
  -- keyword makes it remember of the history, unless it is cancelled
  pub flags-say-the-history : (k : ℕ) → k < (lines_of s).count →
      let st = (engine_run s cs).kept in let r = (engine_run s cs).history in let l = get_or (lines_of s).items k no_line in let c = is_cancelled l.ids k r in
      (get_or st.cancelled k false ≡ c) × (get_or st.locked k false ≡ is_locked k r && not c) × (get_or st.memory k false ≡ remembers_by l.keyword k r && not c)
  unfolding state_by
  flags-say-the-history k h =
      let b : k < max_lines = omega (arith, sound-count s) in
      let p : ltb k (lines_of s).count ≡ true = lt-ltb k (lines_of s).count h in (
        ap (λ st. get_or st.cancelled k false) state-says-the-history ∙ by_rank-at (cancelled_by (lines_of s) (engine_run s cs).history) k b ∙ rw p (and-true _),
        ap (λ st. get_or st.locked k false) state-says-the-history ∙ by_rank-at (locked_by (lines_of s) (engine_run s cs).history) k b ∙ rw (p, and-true),
        ap (λ st. get_or st.memory k false) state-says-the-history ∙ by_rank-at (memory_by (lines_of s) (engine_run s cs).history) k b ∙ rw (p, and-true),
      )

  -- a cancelled line has neither lock nor memory
  pub cancelled-is-bare : (k : ℕ) → k < (lines_of s).count → get_or (engine_run s cs).kept.cancelled k false ≡ true →
      (get_or (engine_run s cs).kept.locked k false ≡ false) × (get_or (engine_run s cs).kept.memory k false ≡ false)
  cancelled-is-bare k h e =
      let f = flags-say-the-history k h in
      let c : is_cancelled (get_or (lines_of s).items k no_line).ids k (engine_run s cs).history ≡ true = sym f.0 ∙ e in
      (f.1 ∙ rw (c, and-false), f.2 ∙ rw (c, and-false))
