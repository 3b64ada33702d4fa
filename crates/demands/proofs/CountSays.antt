-- The count that the engine keeps of a line is, up to the top, how often the line acted by the rule since its last start; and what each call does to the counts. Theorems;
-- assumes nothing.
use Rattle.std.specs.Prelude.{◌≡◌, refl, ◌≢◌, Bool, true, false, not, ◌&&◌, ℕ, ◌+◌, min, ◌<◌, length, Result, Ok, Err}
use Rattle.std.proofs.Common.{sym, ◌∙◌, arith}
use Rattle.std.proofs.Math.Path.{ap}
use Rattle.std.proofs.Math.Bool.{cond}
use mathlib.Core.List.{List, [], ◌∷◌, ◌++◌}
use Rattle.std.proofs.Math.ListN.{get_or}
use Rattle.values.specs.Choice.{either}
use Rattle.values.specs.FifoLaws.{same-each}
use Rattle.values.specs.Codes.{unsound}
use Rattle.tokens.specs.Token.{max_lines}
use Rattle.tokens.specs.Descent.{Answer, good, stop}
use Rattle.engine.specs.declared.set.Lines.{Lines}
use Rattle.engine.specs.declared.state.State.{State}
use Rattle.engine.specs.declared.calls.Called.{Called}
use Rattle.engine.specs.Set.{no_line, lines_of}
use Rattle.engine.specs.State.{power_on}
use Rattle.engine.specs.Sound.{is_sound}
use Rattle.engine.specs.ActCount.{acts_top, is_acted, one_more}
use Rattle.engine.specs.Turn.{beat_in, resets, Turned}
use Rattle.engine.specs.Beat.{Given, beat_ended, beat_answer}
use Rattle.engine.specs.NamedLine.{found}
use Rattle.engine.specs.Calls.{with_locked, with_cancelled, called, locked_call, lock_call, unlock_call, cancel_call, reset_cancelled, control_reset_state, control_reset_call}
use Rattle.engine.specs.SetCountLaws.{sound-count}
use Rattle.soundness.specs.Call.{Call, do_beat, do_lock, do_unlock, do_cancel, do_program_end, do_control_reset}
use Rattle.soundness.specs.CallCodes.{ended-well}
use Rattle.demands.specs.History.{after}
use Rattle.demands.specs.Run.{Now, coded, step, engine_run, Rest, rest_of, by_rank, cancelled_by, state_by, ended_by, beat_by_rule, beaten_by_rule, cleared, control_reset_by_rule, step_by_rule, run_by_rule_from, run_by_rule}
use Rattle.demands.proofs.FlagLaws.{by_rank-at, reset-cancelled}
use Rattle.demands.proofs.Demand3.{step_same, demand-3, same-variables}
use Rattle.demands.proofs.Consequences.{no-bit}
use Rattle.demands.proofs.Refusals.{beat-refused}
use Rattle.demands.specs.Acts.{acts_now}
use Rattle.demands.proofs.WhatWasDone.{AtItsTurn, at-its-turn}
use Rattle.demands.specs.RuleCount.{newest, acts_then, acts_from, acts_since_start}
use Rattle.demands.proofs.RuleCountLaws.{counted-length, counted-at, reset-acts-length, reset-acts-at, more-up-to}

-- ---- over a run by the rule

module _ (s : List ℕ) (k : ℕ) (h : k < max_lines) where
  -- 32 counts, and that of rank k is a up to the top
  abbrev Says : Now Rest → ℕ → Type 0
  Says n a = (length n.kept.acts ≡ max_lines) × (get_or n.kept.acts k 0 ≡ min acts_top a)

  abbrev After : Call → Now Rest → ℕ → Type 0
  After c m a = Says m (acts_then (lines_of s) k c (newest m.told) m.history a)

  beat-says : (g : Given) (n : Now Rest) (a : ℕ) → Says n a → After (do_beat g) (step_by_rule s (do_beat g) n) a
  unfolding step_by_rule ended_by beat_ended
  beat-says g n a (l, e) = go (beat_by_rule s n.kept n.history g)
    where
      go : (x : Answer Turned) → After (do_beat g) (beaten_by_rule g x n) a
      go (good t) = (
        counted-length n.kept.acts t.world.acted max_lines ∙ l,
        counted-at n.kept.acts t.world.acted max_lines k h (omega arith) ∙ ap (λ b. one_more b (is_acted t.world.acted k)) e ∙ more-up-to a (is_acted t.world.acted k),
      )
      go (stop c) = (l, e ∙ rw (no-bit k) (omega arith))

  reset-says : (n : Now Rest) (a : ℕ) → Says n a → After do_control_reset (control_reset_by_rule s n) a
  unfolding control_reset_by_rule control_reset_state state_by
  reset-says n a (l, e) = go (is_sound s (state_by (lines_of s) n.kept n.history))
    where
      ls : Lines
      ls = lines_of s

      gone : List Bool
      gone = reset_cancelled ls.items (by_rank (cancelled_by ls n.history)) ls.count

      said : get_or gone k false ≡ cancelled_by ls (resets ∷ n.history) k
      said = ap (λ (cs : List Bool). get_or cs k false) (reset-cancelled ls n.history (sound-count s)) ∙ by_rank-at (cancelled_by ls (resets ∷ n.history)) k h

      begun : (c : Bool) → get_or gone k false ≡ c → cond (get_or gone k false) (get_or n.kept.acts k 0) 0 ≡ min acts_top (cond (true && not c) 0 a)
      begun true q = rw q e
      begun false q = rw q (omega arith)

      go : (b : Bool) →
          let m : Now Rest = elim b [ true ↦ record { kept = cleared n.kept ls n.history; history = resets ∷ n.history; told = (do_control_reset, coded 0) ∷ n.told } | false ↦ record { kept = n.kept; history = n.history; told = (do_control_reset, coded unsound) ∷ n.told } ] in
          After do_control_reset m a
      go true = (reset-acts-length n.kept.acts gone max_lines ∙ l, reset-acts-at n.kept.acts gone max_lines k h (omega arith) ∙ begun _ said)
      go false = (l, e)

  step-says : (c : Call) (n : Now Rest) (a : ℕ) → Says n a → After c (step_by_rule s c n) a
  unfolding step_by_rule
  step-says (do_beat g) n a e = beat-says g n a e
  step-says (do_lock i) n a e = e
  step-says (do_unlock i) n a e = e
  step-says (do_cancel i) n a e = e
  step-says do_program_end n a e = e
  step-says do_control_reset n a e = reset-says n a e

  run-says : (cs : List Call) (n : Now Rest) (a : ℕ) → Says n a → Says (run_by_rule_from s cs n) (acts_from s k cs n a)
  unfolding run_by_rule_from acts_from
  run-says [] n a e = e
  run-says (c ∷ cs) n a e = run-says cs (step_by_rule s c n) _ (step-says c n a e)

-- at power-on no line has acted
begun-says : (s : List ℕ) (k : ℕ) (h : k < max_lines) → Says s k h (record { kept = rest_of power_on; history = []; told = [] }) 0
unfolding power_on
begun-says s k h = (refl, same-each {A = ℕ} max_lines k 0)

module _ (s : List ℕ) (cs : List Call) where
  run-counts : (k : ℕ) (h : k < max_lines) → Says s k h (run_by_rule s cs) (acts_since_start s cs k)
  run-counts k h = run-says s k h cs _ 0 (begun-says s k h)

  -- THE COUNT OF A LINE IS, UP TO THE TOP, HOW OFTEN IT ACTED BY THE RULE since the load or the last control reset that left it live: for every set, after any calls
  pub count-says-the-record : (k : ℕ) → k < (lines_of s).count → get_or (engine_run s cs).kept.acts k 0 ≡ min acts_top (acts_since_start s cs k)
  count-says-the-record k h = ap (λ (v : Rest). get_or v.acts k 0) (same-variables s cs) ∙ (run-counts k (omega (arith, sound-count s))).1

  -- the engine keeps 32 of them
  pub counts-are-32 : length (engine_run s cs).kept.acts ≡ max_lines
  counts-are-32 = ap (λ (v : Rest). length v.acts) (same-variables s cs) ∙ (run-counts 0 (omega arith)).0

-- ---- what is so counted

-- the last of the calls
acts-append : (s : List ℕ) (k : ℕ) (cs : List Call) (c : Call) (n : Now Rest) (a : ℕ) →
    let m = step_by_rule s c (run_by_rule_from s cs n) in acts_from s k (cs ++ (c ∷ [])) n a ≡ acts_then (lines_of s) k c (newest m.told) m.history (acts_from s k cs n a)
unfolding run_by_rule_from acts_from
acts-append s k [] c n a = refl
acts-append s k (d ∷ cs) c n a = acts-append s k cs c (step_by_rule s d n) _

module _ (s : List ℕ) (cs : List Call) (g : Given) (k : ℕ) where
  -- a beat adds one where its answer has the line's bit
  beat-adds : acts_since_start s (cs ++ (do_beat g ∷ [])) k ≡ acts_since_start s cs k + cond (is_acted (beat_answer s (engine_run s cs).kept g).acted k) 1 0
  unfolding step
  beat-adds =
      acts-append s k cs (do_beat g) (record { kept = rest_of power_on; history = []; told = [] }) 0
      ∙ ap (λ (x : ℕ). acts_since_start s cs k + cond (is_acted x k) 1 0)
      (sym (ap (λ (n : Now State). (newest n.told).acted) (step_same s (run_by_rule s cs) (do_beat g))) ∙ ap (λ (n : Now State). (beat_answer s n.kept g).acted) (sym (demand-3 s cs)))

  -- A GOOD BEAT ADDS ONE JUST WHERE THE RULE, over the history so far and in the world in which the line's turn comes, LETS IT ACT
  pub good-beat-adds : k < (lines_of s).count → (beat_answer s (engine_run s cs).kept g).code ≡ 0 →
      (t : AtItsTurn s (engine_run s cs).kept (engine_run s cs).history g k (beat_answer s (engine_run s cs).kept g).acted)
      × (acts_since_start s (cs ++ (do_beat g ∷ [])) k ≡ acts_since_start s cs k + cond (acts_now s (get_or (lines_of s).items k no_line) k (after t.before.entries (beat_in g.automatic ∷ (engine_run s cs).history)) t.before.world) 1 0)
  good-beat-adds h z = let t = at-its-turn s cs g k h z in (t, beat-adds ∙ ap (λ b. acts_since_start s cs k + cond b 1 0) t.acts)

  -- ONE THAT IS REFUSED OR UNDONE ADDS NOTHING
  pub undone-beat-adds : (beat_answer s (engine_run s cs).kept g).code ≢ 0 → acts_since_start s (cs ++ (do_beat g ∷ [])) k ≡ acts_since_start s cs k
  undone-beat-adds h = beat-adds ∙ rw ((beat-refused s (engine_run s cs).kept g h).2, no-bit k) (omega arith)

-- ---- what each call does to the counts

called-acts : (st : State) (f : Result ℕ ℕ) (change : ℕ → State) → ((k : ℕ) → (change k).acts ≡ st.acts) → (called st f change).state.acts ≡ st.acts
unfolding called
called-acts st (Ok k) change same = same k
called-acts st (Err c) change same = refl

module _ (s : List ℕ) (st : State) where
  -- LOCK, UNLOCK AND CANCEL OF THE HOST LEAVE THEM
  pub lock-keeps-acts : (n : ℕ) → (lock_call s st n).state.acts ≡ st.acts
  unfolding lock_call locked_call
  lock-keeps-acts n = called-acts st (found s st n) (λ k. with_locked st k true) (λ k. refl)

  pub unlock-keeps-acts : (n : ℕ) → (unlock_call s st n).state.acts ≡ st.acts
  unfolding unlock_call locked_call
  unlock-keeps-acts n = called-acts st (found s st n) (λ k. with_locked st k false) (λ k. refl)

  pub cancel-keeps-acts : (n : ℕ) → (cancel_call s st n).state.acts ≡ st.acts
  unfolding cancel_call
  cancel-keeps-acts n = called-acts st (found s st n) (λ k. with_cancelled st k) (λ k. refl)

  -- A BEAT THAT IS REFUSED OR UNDONE LEAVES THEM
  pub undone-counts-nothing : (g : Given) → (beat_answer s st g).code ≢ 0 → (beat_answer s st g).state.acts ≡ st.acts
  undone-counts-nothing g h = ap (λ (x : State). x.acts) (beat-refused s st g h).0

  module _ (l : length st.acts ≡ max_lines) (k : ℕ) (m : k < max_lines) where
    -- ONE THAT ENDS WELL ADDS ONE FOR EACH LINE THAT ACTED, up to the top
    pub beat-counts : (g : Given) → (beat_answer s st g).code ≡ 0 → get_or (beat_answer s st g).state.acts k 0 ≡ one_more (get_or st.acts k 0) (is_acted (beat_answer s st g).acted k)
    unfolding beat_answer beat_ended
    beat-counts g z = let w = ended-well s st g z in rw w.1 (counted-at st.acts w.0.world.acted max_lines k m (omega arith))

    -- A CONTROL RESET ZEROES THAT OF A LINE STILL LIVE AFTER IT; a cancelled one keeps its own
    pub control-reset-counts : (control_reset_call s st).code ≡ 0 → get_or (control_reset_call s st).state.acts k 0 ≡ cond (get_or (control_reset_call s st).state.cancelled k false) (get_or st.acts k 0) 0
    unfolding control_reset_call control_reset_state
    control-reset-counts =
        either (λ (c : Called). c.code ≡ 0 → get_or c.state.acts k 0 ≡ cond (get_or c.state.cancelled k false) (get_or st.acts k 0) 0) (is_sound s st)
        (λ e z. reset-acts-at st.acts _ max_lines k m (omega arith)) (λ e z. absurd (omega arith))
