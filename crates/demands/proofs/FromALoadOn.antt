-- FROM A LOAD ON, through any asks of the host, further loads among them: demand 3, and what follows from it, of the set and the state that the host then has and of the calls that it
-- then makes, as their promises define them (load_answer, load_set, beat_answer, beat_buffer, ..). A load, taken or refused, begins a new history. Theorems; assumes nothing.
-- Outside is what Asks says: a host that hands in another set or state than it was given last.
use Rattle.std.specs.Prelude.{◌≡◌, refl, ◌≢◌, true, false, List, [], ◌∷◌, ◌++◌, ℕ, min, ◌*◌, ◌<◌, ◌≤◌, length, get_or, drop, IfOk}
use Rattle.std.proofs.Common.{ap, ◌∙◌}
use Rattle.tokens.specs.Token.{WHEN, EVERY}
use Rattle.tokens.specs.Descent.{good}
use Rattle.engine.specs.declared.order.Order.{Order}
use Rattle.engine.specs.declared.state.State.{State}
use Rattle.engine.specs.Set.{no_line, empty_set, lines_of}
use Rattle.engine.specs.State.{power_on}
use Rattle.engine.specs.Turn.{Turned, turns_from}
use Rattle.engine.specs.Order.{order_size}
use Rattle.engine.specs.Beat.{beat_answer, beat_buffer, Given, beat_begun}
use Rattle.reader.specs.Load.{load_answer, load_set}
use Rattle.demands.specs.History.{is_cancelled, is_locked, was_true}
use Rattle.demands.specs.Run.{Rest}
use Rattle.engine.specs.ActCount.{acts_top, is_acted}
use Rattle.engine.specs.Status.{standing_of, no_status, status_of}
use Rattle.demands.specs.Acts.{condition_now, acted_since}
use Rattle.demands.proofs.Demand3.{with_flags, step_same, load_same}
use Rattle.demands.specs.Deed.{bytes_of, Each, OfActed}
use Rattle.demands.proofs.Consequences.{once, edge}
use Rattle.demands.proofs.WhatWasDone.{AtItsTurn, at-its-turn, no-other-bit, orders-of-acting-lines}
use Rattle.demands.specs.RuleCount.{acts_since_start}
use Rattle.demands.proofs.CountSays.{count-says-the-record}
use Rattle.demands.proofs.StatusSays.{status-says-the-record}
use Rattle.demands.specs.Asks.{Ask, do_load, do_call, Standing, newly_loaded, ask_all, standing, newly_loaded_by_rule, ask_all_by_rule, standing_by_rule, last_text, calls_since}
use Rattle.demands.proofs.AskLaws.{load-power-on, refused-no-set, ran_over, load-ran, asks-ran}

-- ---- demand 3, with loads

-- the flags that the history since the last load gives
abbrev pub with_flags_since : Standing Rest → Standing State
with_flags_since n = record { set = n.set; code = n.code; line = n.line; since = with_flags n.set n.since }

load-flags : (t : List ℕ) → newly_loaded t ≡ with_flags_since (newly_loaded_by_rule t)
load-flags t = rw (load-power-on t) (ap (λ st. record { set = load_set t; code = (load_answer t).code; line = (load_answer t).line; since = record { kept = st; history = []; told = [] } }) (load_same (load_set t)))

asks-same : (qs : List Ask) (n : Standing Rest) → ask_all qs (with_flags_since n) ≡ with_flags_since (ask_all_by_rule qs n)
unfolding ask_all ask_all_by_rule
asks-same [] n = refl
asks-same (do_load t ∷ qs) n = rw (load-flags t) (asks-same qs (newly_loaded_by_rule t))
asks-same (do_call c ∷ qs) n = rw (step_same n.set n.since c) (asks-same qs _)

module _ (t : List ℕ) (qs : List Ask) where
  -- DEMAND 3: after a load and any asks the control stands where the one stands that keeps no flags and decides by the rule over the history since the last load
  pub demand-3-from-a-load : standing t qs ≡ with_flags_since (standing_by_rule t qs)
  demand-3-from-a-load = ap (ask_all qs) (load-flags t) ∙ asks-same qs (newly_loaded_by_rule t)

  -- where it stands is the run of the calls since the last load, over the set of the text that was loaded last
  pub since-the-load : standing t qs ≡ ran_over (last_text t qs) (calls_since [] qs)
  since-the-load = ap (ask_all qs) (load-ran t) ∙ asks-ran t [] qs

-- ---- a load among them

ask_all-append : (qs bs : List Ask) (n : Standing State) → ask_all (qs ++ bs) n ≡ ask_all bs (ask_all qs n)
unfolding ask_all
ask_all-append [] bs n = refl
ask_all-append (do_load t ∷ qs) bs n = ask_all-append qs bs (newly_loaded t)
ask_all-append (do_call c ∷ qs) bs n = ask_all-append qs bs _

module _ (t u : List ℕ) (qs : List Ask) where
  -- A SECOND LOAD BEGINS ANEW, whatever was before it: its own set, the state of power-on, nothing written down
  pub load-begins-anew : standing t (qs ++ (do_load u ∷ [])) ≡ record { set = load_set u; code = (load_answer u).code; line = (load_answer u).line; since = record { kept = power_on; history = []; told = [] } }
  unfolding ask_all
  load-begins-anew = ask_all-append qs (do_load u ∷ []) (newly_loaded t) ∙ rw (load-power-on u)

  -- A REFUSED ONE LEAVES THE EMPTY SET
  pub refused-load-empties : (load_answer u).code ≢ 0 → (standing t (qs ++ (do_load u ∷ []))).set ≡ empty_set
  refused-load-empties h = ap (λ n. n.set) load-begins-anew ∙ refused-no-set u h

-- ---- what follows, of a beat after a load and any asks

-- the count of a line of the set is, up to the top, how often it acted by the rule, over the calls since the last load: since that load or the last control reset that left it live
pub count-from-a-load : (t : List ℕ) (qs : List Ask) → let n = standing t qs in (k : ℕ) → k < (lines_of n.set).count → get_or n.since.kept.acts k 0 ≡ min acts_top (acts_since_start n.set (calls_since [] qs) k)
count-from-a-load t qs = rw (since-the-load t qs) (count-says-the-record (load_set (last_text t qs)) (calls_since [] qs))

-- and so the status picture tells it, with what the history since that load says of locks and cancels
pub status-from-a-load : (t : List ℕ) (qs : List Ask) → let n = standing t qs in IfOk (status_of n.set n.since.kept) λ x. (k : ℕ) → k < (lines_of n.set).count →
    let l = get_or (lines_of n.set).items k no_line in let r = n.since.history in
    get_or x.lines k no_status ≡ record { ids = l.ids; number = l.number; standing = standing_of (is_cancelled l.ids k r) (is_locked k r); acts = min acts_top (acts_since_start n.set (calls_since [] qs) k) }
status-from-a-load t qs = rw (since-the-load t qs) (status-says-the-record (load_set (last_text t qs)) (calls_since [] qs))

module _ (t : List ℕ) (qs : List Ask) (g : Given) where
  -- for every line of the set, in a beat that answers 0: it takes a turn and acts by the rule; where it did not act it left all alone, and where it acted it did all its actions
  pub acts-from-a-load : let n = standing t qs in (k : ℕ) → k < (lines_of n.set).count → (beat_answer n.set n.since.kept g).code ≡ 0 →
      AtItsTurn n.set n.since.kept n.since.history g k (beat_answer n.set n.since.kept g).acted
  acts-from-a-load = rw (since-the-load t qs) (at-its-turn (load_set (last_text t qs)) (calls_since [] qs) g)

  -- and no other rank has a bit
  pub no-other-from-a-load : let n = standing t qs in (k : ℕ) → (lines_of n.set).count ≤ k → is_acted (beat_answer n.set n.since.kept g).acted k ≡ false
  no-other-from-a-load = rw (since-the-load t qs) (no-other-bit (load_set (last_text t qs)) (calls_since [] qs) g)

  -- each order in the buffer carries the number of a line that acted
  pub orders-from-a-load : let n = standing t qs in let x = beat_answer n.set n.since.kept g in
      (os : List Order) × (x.orders ≡ length os) × (beat_buffer n.set n.since.kept g ≡ bytes_of os ++ drop (order_size * length os) g.buffer) × Each (OfActed (lines_of n.set) x.acted) os
  orders-from-a-load = rw (since-the-load t qs) (orders-of-acting-lines (load_set (last_text t qs)) (calls_since [] qs) g)

  -- between two starts, a load or a control reset, a WHEN line acts at most once
  pub once-from-a-load : let n = standing t qs in (k : ℕ) → k < (lines_of n.set).count → (get_or (lines_of n.set).items k no_line).keyword ≡ WHEN →
      is_acted (beat_answer n.set n.since.kept g).acted k ≡ true → acted_since k n.since.told ≡ false
  once-from-a-load = rw (since-the-load t qs) (once (load_set (last_text t qs)) (calls_since [] qs) g)

  -- an EVERY line acts only where its condition is true, and at its turn before, since the last start, it was false or there was none
  pub edge-from-a-load : let n = standing t qs in (k : ℕ) → k < (lines_of n.set).count → (get_or (lines_of n.set).items k no_line).keyword ≡ EVERY →
      is_acted (beat_answer n.set n.since.kept g).acted k ≡ true →
      (before : Turned) × (turns_from n.set (lines_of n.set).numbers n.since.kept.cancelled g.automatic (lines_of n.set).items k 0 (beat_begun n.since.kept g) ≡ good before)
      × (condition_now n.set (get_or (lines_of n.set).items k no_line) before.world ≡ true) × (was_true k n.since.history ≡ false)
  edge-from-a-load = rw (since-the-load t qs) (edge (load_set (last_text t qs)) (calls_since [] qs) g)
