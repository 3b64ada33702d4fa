-- Laws of loads among the calls: what a load leaves, and that where the control stands is the run of the calls since the last load over the set of that load. Assumes nothing.
use Rattle.std.specs.Prelude.{◌≡◌, refl, ◌≢◌, List, [], ◌∷◌, ◌++◌, ℕ}
use Rattle.std.proofs.Common.{sym, ap, ◌∙◌}
use Rattle.couplers.specs.Channel.{fresh_channels}
use Rattle.engine.specs.declared.state.State.{State}
use Rattle.engine.specs.Set.{empty_set}
use Rattle.engine.specs.State.{power_on}
use Rattle.reader.specs.declared.load_text.Loaded.{Loaded}
use Rattle.reader.specs.Row.{by_number, set_of}
use Rattle.reader.specs.Load.{Outcome, taken, refused, outcome, load_answer, load_set}
use Rattle.soundness.specs.Call.{Call}
use Rattle.demands.specs.Run.{Now, step, run_from, engine_run}
use Rattle.demands.specs.Asks.{Ask, do_load, do_call, Standing, newly_loaded, ask_all, last_text, calls_since}

-- ---- a load

-- AFTER EVERY LOAD THE STATE IS THAT OF POWER-ON
pub load-power-on : (t : List ℕ) → (load_answer t).state ≡ power_on
unfolding load_answer
load-power-on t = go (outcome t)
  where
    go : (o : Outcome) →
        let l : Loaded = elim o [ taken rs ↦ record { code = 0; line = 0; state = power_on } | refused c k ↦ record { code = c; line = k; state = power_on } ] in
        l.state ≡ power_on
    go (taken rs) = refl
    go (refused c k) = refl

-- so loading clears what the channels kept
pub load-clears-channels : (t : List ℕ) → (load_answer t).state.channels ≡ fresh_channels
unfolding power_on
load-clears-channels t = ap (λ (st : State). st.channels) (load-power-on t)

-- ON REFUSAL THE SET IS EMPTY TOO
pub refused-no-set : (t : List ℕ) → (load_answer t).code ≢ 0 → load_set t ≡ empty_set
unfolding load_answer load_set
refused-no-set t = go (outcome t)
  where
    go : (o : Outcome) →
        let l : Loaded = elim o [ taken rs ↦ record { code = 0; line = 0; state = power_on } | refused c k ↦ record { code = c; line = k; state = power_on } ] in
        let s : List ℕ = elim o [ taken q ↦ set_of q.curves (by_number q.rows) | refused c k ↦ empty_set ] in
        l.code ≢ 0 → s ≡ empty_set
    go (taken rs) h = absurd (h refl)
    go (refused c k) h = refl

-- ---- the run since the last load

-- a run of calls over a text's set
abbrev pub ran_over : List ℕ → List Call → Standing State
ran_over t cs = record { set = load_set t; code = (load_answer t).code; line = (load_answer t).line; since = engine_run (load_set t) cs }

pub load-ran : (t : List ℕ) → newly_loaded t ≡ ran_over t []
unfolding run_from
load-ran t = rw (load-power-on t)

run-append : (s : List ℕ) (cs : List Call) (c : Call) (n : Now State) → run_from s (cs ++ (c ∷ [])) n ≡ step s c (run_from s cs n)
unfolding run_from
run-append s [] c n = refl
run-append s (d ∷ cs) c n = run-append s cs c (step s d n)

pub asks-ran : (t : List ℕ) (cs : List Call) (qs : List Ask) → ask_all qs (ran_over t cs) ≡ ran_over (last_text t qs) (calls_since cs qs)
unfolding ask_all
asks-ran t cs [] = refl
asks-ran t cs (do_load u ∷ qs) = rw (load-ran u) (asks-ran u [] qs)
asks-ran t cs (do_call c ∷ qs) =
    ap (λ n. ask_all qs (record { set = load_set t; code = (load_answer t).code; line = (load_answer t).line; since = n })) (sym (run-append (load_set t) cs c _)) ∙ asks-ran t (cs ++ (c ∷ [])) qs
