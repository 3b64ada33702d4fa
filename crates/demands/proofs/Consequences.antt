-- What follows from demand 3, said of the engine's own run: in every beat it acts on just the lines that the rule gives; between two starts a WHEN line acts at most once;
-- an EVERY line acts only where its condition is true and was not, or was never tried, at its turn before; locking and unlocking change no memory. Assumes nothing.
use Rattle.std.specs.Prelude.{◌≡◌, Bool, not, ◌&&◌, ◌||◌, eqb, ltb, length, Result, Ok as Found, Err, is_some}
use Rattle.std.proofs.Math.Path.{refl, sym, ap}
use Rattle.std.proofs.Common.{◌∙◌, arith}
use Rattle.std.proofs.Math.Bool.{true, false, cond}
use mathlib.Core.List.{List, [], ◌∷◌}
use Prim.Native.Nat.{ℕ, zero, suc, ◌+◌, ◌<◌, ◌≤◌, ◌^◌}
use Rattle.std.proofs.Math.Nat.{zero-div}
use Rattle.std.proofs.Math.ListN.{get_or}
use Rattle.values.specs.Codes.{short_buffer, wrong_numbers, unsound, faulty_channel}
use Rattle.couplers.specs.declared.channel.Channel.{Channel}
use Rattle.values.specs.Numbers.{clash}
use Rattle.values.specs.Choice.{either}
use Rattle.tokens.specs.Token.{WHEN, EVERY, max_actions}
use Rattle.tokens.specs.Descent.{Answer, good, stop, ◌>>=◌}
use Rattle.working.specs.Operators.{is_yes}
use Rattle.working.specs.Working.{condition_value}
use Rattle.checking.specs.declared.line.Line.{Line}
use Rattle.engine.specs.declared.set.Lines.{Lines}
use Rattle.engine.specs.declared.state.State.{State}
use Rattle.engine.specs.Set.{no_line, lines_of}
use Rattle.engine.specs.Sound.{is_sound}
use Rattle.engine.specs.Action.{World, Note, Did, from_reached}
use Rattle.engine.specs.Actions.{actions_of}
use Rattle.engine.specs.Turn.{Entry, beat_in, worked, locks, cancels, resets, Turned, counted, takes_turn, do_turn, turn_of, turns_from}
use Rattle.engine.specs.Beat.{buffer_size, are_inputs, Given, beat_begun, whole_beat, turned_answer, beat_answer, kept_in}
use Rattle.engine.specs.NamedLine.{found}
use Rattle.engine.specs.Calls.{with_locked, called, locked_call, lock_call, unlock_call}
use Rattle.engine.specs.SetCountLaws.{sound-count}
use Rattle.demands.specs.History.{History, after, is_automatic, ever_true, was_true, takes_by_rule, tries_by_rule, acts_by_rule}
use Rattle.soundness.specs.Call.{Call, do_beat, do_lock, do_unlock, do_cancel, do_program_end, do_control_reset}
use Rattle.demands.specs.Run.{Now, coded, noted, rank_of, end_entries, code_by_rule, end_code_by_rule, cleared, engine_run, Rest, state_by, samples_by, begun_by, by_rank, cancelled_by, try_by_rule, turn_by_rule, turns_by_rule, beat_by_rule, step_by_rule, control_reset_by_rule, run_by_rule_from, run_by_rule, beaten_by_rule}
use Rattle.engine.specs.ActCount.{is_acted}
use Rattle.demands.specs.Acts.{condition_now, tries_now, acts_now, acted_since}
use Rattle.tokens.specs.AnswerLaws.{Ok, is_ok, bind_ok}
use Rattle.demands.proofs.ActionRuleLaws.{note_all, Noted, actions-noted}
use Rattle.demands.proofs.TurnRuleLaws.{flagged, flagged_turn, Quiet, takes_same, turn-same, turns_same, turns-quiet}
use Rattle.demands.proofs.EndRuleLaws.{end-ever}
use Rattle.demands.proofs.ActLaws.{Done, done, no_other}
use Rattle.demands.proofs.Demand3.{beat-same, demand-3}

-- ---- a beat that ended well, by the rule

module _ (s : List ℕ) (v : Rest) (r : History) (g : Given) where
  -- it is its mode and the turns of all the lines
  pub beat-turns : (t : Turned) → beat_by_rule s v r g ≡ good t →
      (u : Turned) × (turns_by_rule s (lines_of s) (lines_of s).count 0 (beat_in g.automatic ∷ r) (begun_by v g) ≡ good u) × (t ≡ record { world = u.world; entries = beat_in g.automatic ∷ u.entries })
  unfolding beat_by_rule
  beat-turns t = go (is_sound s (state_by (lines_of s) v r)) (ltb (length g.buffer) buffer_size) (are_inputs g.lent) (is_some (samples_by v g)) (turns_by_rule s (lines_of s) (lines_of s).count 0 (beat_in g.automatic ∷ r) (begun_by v g))
    where
      go : (a b c h : Bool) (d : Answer Turned) →
          (let x : Answer Turned = elim a [
            | true ↦ elim b [ true ↦ stop short_buffer | false ↦ elim c [ true ↦ elim h [ true ↦ d >>= λ t. good (record { world = t.world; entries = beat_in g.automatic ∷ t.entries }) | false ↦ stop faulty_channel ] | false ↦ stop wrong_numbers ] ]
            | false ↦ stop unsound
          ] in x ≡ good t) → (u : Turned) × (d ≡ good u) × (t ≡ record { world = u.world; entries = beat_in g.automatic ∷ u.entries })
      go true true c h d e = clash (cc)
      go true false true true (good u) e = (u, refl, cc)
      go true false true true (stop k) e = clash (cc)
      go true false true false d e = clash (cc)
      go true false false h d e = clash (cc)
      go false b c h d e = clash (cc)

  -- what it did for the line of rank k
  beat-done : (t : Turned) (k : ℕ) → k < (lines_of s).count → beat_by_rule s v r g ≡ good t →
      (u : Turned) × Done s (lines_of s) k (beat_in g.automatic ∷ r) (begun_by v g) u × (t ≡ record { world = u.world; entries = beat_in g.automatic ∷ u.entries })
  unfolding begun_by beat_begun
  beat-done t k h e =
      let u = beat-turns t e in
      (u.0, done s (lines_of s) (lines_of s).count k (beat_in g.automatic ∷ r) (begun_by v g) u.0 h refl u.1, u.2)

-- ---- the engine's beat

-- a beat of the engine, in the state st and after the history r, that came to t; for the line of rank k: what the turns of the lines before it came to (`before`, `come`)
-- and its own (`own`, `taken`); it took a turn just where the rule, over the history so far, says so (`takes`), and acted just where the rule, over the history so far and in
-- the world in which its turn came, says so (`acted`), which is when its turn added its bit (`added`); until then nothing was said of its condition in
-- this beat (`ever-before`, `was-before`); and after the beat the history says of it what it gave in that world, if it was worked, and else what it said before (`ever`, `was`)
pub record Came (s : List ℕ) (st : State) (r : History) (g : Given) (k : ℕ) (t : Turned) : Type 0 where
  pub before : Turned
  pub come : turns_from s (lines_of s).numbers st.cancelled g.automatic (lines_of s).items k 0 (beat_begun st g) ≡ good before
  pub own : Turned
  pub taken : turn_of s (lines_of s).numbers st.cancelled g.automatic (get_or (lines_of s).items k no_line) k before.world ≡ good own
  pub takes : takes_turn s (lines_of s).numbers st.cancelled g.automatic (get_or (lines_of s).items k no_line) k before.world
      ≡ takes_by_rule (get_or (lines_of s).items k no_line) k (after before.entries (beat_in g.automatic ∷ r))
  pub acted : is_acted t.world.acted k ≡ acts_now s (get_or (lines_of s).items k no_line) k (after before.entries (beat_in g.automatic ∷ r)) before.world
  pub added : own.world.acted ≡ before.world.acted + cond (is_acted t.world.acted k) (2 ^ k) 0
  pub ever-before : ever_true k (after before.entries (beat_in g.automatic ∷ r)) ≡ ever_true k r
  pub was-before : was_true k (after before.entries (beat_in g.automatic ∷ r)) ≡ was_true k r
  pub ever : ever_true k (after t.entries r) ≡
      tries_now (get_or (lines_of s).items k no_line) k (after before.entries (beat_in g.automatic ∷ r)) && condition_now s (get_or (lines_of s).items k no_line) before.world || ever_true k r
  pub was : was_true k (after t.entries r) ≡
      cond (tries_now (get_or (lines_of s).items k no_line) k (after before.entries (beat_in g.automatic ∷ r))) (condition_now s (get_or (lines_of s).items k no_line) before.world) (was_true k r)

-- a turn of the engine where the history gives the locks and the memory, and says these cancels and this mode
module _ (s : List ℕ) (k : ℕ) (h : k < (lines_of s).count) (r : History) (x : World) (cancelled : List Bool) (m : Bool) (p : by_rank (cancelled_by (lines_of s) r) ≡ cancelled) (q : is_automatic r ≡ m) where
  abbrev line : Line
  line = get_or (lines_of s).items k no_line

  takes-said : takes_turn s (lines_of s).numbers cancelled m line k (flagged (lines_of s) r x) ≡ takes_by_rule line k r
  takes-said = rw (← p, ← q) (takes_same (lines_of s) s k r x (omega (arith, sound-count s)) h)

  turn-said : (t : Turned) → turn_by_rule s (lines_of s) line k r x ≡ good t →
      turn_of s (lines_of s).numbers cancelled m line k (flagged (lines_of s) r x) ≡ good (record { world = flagged (lines_of s) (after t.entries r) t.world; entries = t.entries })
  turn-said t e = rw (← p, ← q) (turn-same (lines_of s) s k r x (omega (arith, sound-count s)) h ∙ rw e)

module _ (s : List ℕ) (v : Rest) (r : History) (g : Given) (t : Turned) where
  -- the beat of the engine is the beat by the rule, in flags
  pub unflagged : whole_beat s (state_by (lines_of s) v r) g ≡ good t →
      (u : Turned) × (beat_by_rule s v r g ≡ good u) × (t.world.acted ≡ u.world.acted) × (t.entries ≡ u.entries) × (t.world.orders ≡ u.world.orders)
  unflagged e = go (beat_by_rule s v r g) refl (sym (beat-same s v r g) ∙ e)
    where
      go : (a : Answer Turned) → beat_by_rule s v r g ≡ a → (a >>= flagged_turn (lines_of s) r) ≡ good t →
          (u : Turned) × (beat_by_rule s v r g ≡ good u) × (t.world.acted ≡ u.world.acted) × (t.entries ≡ u.entries) × (t.world.orders ≡ u.world.orders)
      go (good u) p q =
          let h : t ≡ record { world = flagged (lines_of s) (after u.entries r) u.world; entries = u.entries } = cc in
          (u, p, ap (λ y. y.world.acted) h, ap (λ y. y.entries) h, ap (λ y. y.world.orders) h)
      go (stop c) p q = clash (cc)

  came : (k : ℕ) → k < (lines_of s).count → whole_beat s (state_by (lines_of s) v r) g ≡ good t → Came s (state_by (lines_of s) v r) r g k t
  unfolding state_by beat_begun begun_by
  came k h e = let w = unflagged e in let d = beat-done s v r g w.0 k h w.1 in go w.0 w.2 w.3 d.0 d.1 d.2
    where
      go : (w : Turned) → t.world.acted ≡ w.world.acted → t.entries ≡ w.entries → (u : Turned) → Done s (lines_of s) k (beat_in g.automatic ∷ r) (begun_by v g) u →
          w ≡ record { world = u.world; entries = beat_in g.automatic ∷ u.entries } → Came s (state_by (lines_of s) v r) r g k t
      go w p a u d q =
          let r' : History = after d.before.entries (beat_in g.automatic ∷ r) in
          let quiet = is_ok (Quiet (lines_of s) (beat_in g.automatic ∷ r)) _ d.before d.come (turns-quiet (lines_of s) s k 0 (beat_in g.automatic ∷ r) (begun_by v g)) in
          let bit = ap (λ n. is_acted n k) (p ∙ ap (λ y. y.world.acted) q) ∙ d.acted in
          record {
            before = record { world = flagged (lines_of s) r' d.before.world; entries = d.before.entries };
            come = turns_same (lines_of s) s k 0 (beat_in g.automatic ∷ r) (begun_by v g) (sound-count s) (omega arith) ∙ rw d.come;
            own = record { world = flagged (lines_of s) (after d.own.entries r') d.own.world; entries = d.own.entries };
            taken = turn-said s k h r' d.before.world _ g.automatic quiet.0 quiet.1 d.own d.taken;
            takes = takes-said s k h r' d.before.world _ g.automatic quiet.0 quiet.1;
            acted = bit;
            added = d.word ∙ ap (λ b. d.before.world.acted + cond b (2 ^ k) 0) (sym bit);
            ever-before = d.ever-before;
            was-before = d.was-before;
            ever = ap (λ es. ever_true k (after es r)) (a ∙ ap (λ y. y.entries) q) ∙ d.ever;
            was = ap (λ es. was_true k (after es r)) (a ∙ ap (λ y. y.entries) q) ∙ d.was;
          }

-- no reply of a failed beat has a bit
pub no-bit : (k : ℕ) → is_acted 0 k ≡ false
no-bit k = rw (zero-div (2 ^ k))

acted-good : (st : State) (kept : List Channel) (k : ℕ) (a : Answer Turned) → is_acted (turned_answer st kept a).acted k ≡ true → (t : Turned) × (a ≡ good t) × (is_acted t.world.acted k ≡ true)
acted-good st kept k (good t) e = (t, refl, e)
acted-good st kept k (stop c) e = let z : false ≡ true = sym (no-bit k) ∙ e in clash (cc)

-- ---- of the rule, for one keyword

acts-when : (kw k : ℕ) (r : History) (v : Bool) → kw ≡ WHEN → acts_by_rule kw k r v ≡ v && not (ever_true k r)
acts-when kw k r v p = rw p

acts-every : (kw k : ℕ) (r : History) (v : Bool) → kw ≡ EVERY → acts_by_rule kw k r v ≡ v && not (was_true k r)
acts-every kw k r v p = rw p

fresh : (a b c m : Bool) → a && ((b && c) && not m) ≡ true → ((a && b) && c ≡ true) × (c ≡ true) × (m ≡ false)
fresh true true true true e = (refl, refl, sym e)
fresh true true true false e = (refl, refl, refl)
fresh true true false m e = (e, e, cc)
fresh true false c m e = (e, cc, cc)
fresh false b c m e = (e, cc, cc)

-- ---- a WHEN line that has acted since the last start had a true condition since then

or-either : (a b : Bool) → a || b ≡ true → (a ≡ false → b ≡ true)
or-either true b e f = cc
or-either false b e f = e

or_right : (a b : Bool) → b ≡ true → a || b ≡ true
or_right true b e = refl
or_right false b e = e

module _ (s : List ℕ) (k : ℕ) (h : k < (lines_of s).count) (w : (get_or (lines_of s).items k no_line).keyword ≡ WHEN) where
  abbrev Once : Now Rest → Type 0
  Once n = acted_since k n.told ≡ true → ever_true k n.history ≡ true

  noted-ever : (c : ℕ) (es : List Entry) (r : History) → ever_true k (after es r) ≡ ever_true k r → ever_true k (noted c es r) ≡ ever_true k r
  noted-ever c es r p = go (eqb c 0)
    where
      go : (b : Bool) → let x : History = elim b [ true ↦ after es r | false ↦ r ] in ever_true k x ≡ ever_true k r
      go true = p
      go false = refl

  -- a beat that ended well
  once-good : (g : Given) (n : Now Rest) (t u : Turned) → Done s (lines_of s) k (beat_in g.automatic ∷ n.history) (begun_by n.kept g) u →
      t ≡ record { world = u.world; entries = beat_in g.automatic ∷ u.entries } → Once n → is_acted t.world.acted k || acted_since k n.told ≡ true → ever_true k (after t.entries n.history) ≡ true
  once-good g n t u d q f i =
      ap (λ y. ever_true k (after y.entries n.history)) q ∙ d.ever ∙ go (is_acted t.world.acted k) (ap (λ y. is_acted y.world.acted k) q ∙ d.acted) i
    where
      line : Line
      line = get_or (lines_of s).items k no_line

      r : History
      r = after d.before.entries (beat_in g.automatic ∷ n.history)

      c : Bool
      c = condition_now s line d.before.world

      go : (x : Bool) → x ≡ acts_now s line k r d.before.world → x || acted_since k n.told ≡ true → tries_now line k r && c || ever_true k n.history ≡ true
      go true p e =
          let z : takes_by_rule line k r && ((tries_by_rule line.keyword k r && c) && not (ever_true k r)) ≡ true = rw (acts-when line.keyword k r (tries_by_rule line.keyword k r && c) w) at (sym p) in
          rw (fresh (takes_by_rule line k r) (tries_by_rule line.keyword k r) c (ever_true k r) z).0
      go false p e = or_right (tries_now line k r && c) (ever_true k n.history) (f e)

  once-beat : (g : Given) (n : Now Rest) → Once n → Once (step_by_rule s (do_beat g) n)
  unfolding step_by_rule
  once-beat g n f = go (beat_by_rule s n.kept n.history g) refl
    where
      go : (a : Answer Turned) → beat_by_rule s n.kept n.history g ≡ a → Once (beaten_by_rule g a n)
      go (good t) e i = let d = beat-done s n.kept n.history g t k h e in once-good g n t d.0 d.1 d.2 f i
      go (stop c) e i = f (or-either (is_acted 0 k) (acted_since k n.told) i (no-bit k))

  once-reset : (n : Now Rest) → Once n → Once (control_reset_by_rule s n)
  unfolding control_reset_by_rule
  once-reset n f = go (is_sound s (state_by (lines_of s) n.kept n.history))
    where
      go : (a : Bool) → let x : Now Rest = elim a [
        | true ↦ record { kept = cleared n.kept (lines_of s) n.history; history = resets ∷ n.history; told = (do_control_reset, coded 0) ∷ n.told }
        | false ↦ record { kept = n.kept; history = n.history; told = (do_control_reset, coded 22) ∷ n.told }
      ] in Once x
      go true g = g
      go false g = f g

  once-step : (c : Call) (n : Now Rest) → Once n → Once (step_by_rule s c n)
  unfolding step_by_rule
  once-step (do_beat g) n f = once-beat g n f
  once-step (do_lock i) n f = λ g. noted-ever (code_by_rule s n.kept n.history i) (locks (rank_of s i) true ∷ []) n.history refl ∙ f g
  once-step (do_unlock i) n f = λ g. noted-ever (code_by_rule s n.kept n.history i) (locks (rank_of s i) false ∷ []) n.history refl ∙ f g
  once-step (do_cancel i) n f = λ g. noted-ever (code_by_rule s n.kept n.history i) (cancels (rank_of s i) ∷ []) n.history refl ∙ f g
  once-step do_program_end n f = λ g. noted-ever (end_code_by_rule s n.kept n.history) (end_entries (lines_of s) (by_rank (cancelled_by (lines_of s) n.history))) n.history (end-ever (lines_of s) (by_rank (cancelled_by (lines_of s) n.history)) k n.history) ∙ f g
  once-step do_control_reset n f = once-reset n f

  once-run : (cs : List Call) (n : Now Rest) → Once n → Once (run_by_rule_from s cs n)
  unfolding run_by_rule_from
  once-run [] n f = f
  once-run (c ∷ cs) n f = once-run cs (step_by_rule s c n) (once-step c n f)

  -- so in the engine's run
  once-so-far : (cs : List Call) → acted_since k (engine_run s cs).told ≡ true → ever_true k (engine_run s cs).history ≡ true
  once-so-far cs = rw (demand-3 s cs) (once-run cs _ (λ g. g))

-- ---- tests

begun-none : (v : Rest) (g : Given) → (begun_by v g).acted ≡ 0
unfolding begun_by beat_begun
begun-none v g = refl

not_yet : (a m : Bool) → (a ≡ true → m ≡ true) → m ≡ false → a ≡ false
not_yet true m f p = sym (f refl) ∙ p
not_yet false m f p = refl

-- the rule lets a WHEN line act only where its condition is true and never was, an EVERY line only where it is true and was not when last worked
module _ (s : List ℕ) (k : ℕ) (l : Line) (r : History) (x : World) where
  when-fresh : l.keyword ≡ WHEN → acts_now s l k r x ≡ true → ever_true k r ≡ false
  when-fresh w e = (fresh (takes_by_rule l k r) (tries_by_rule l.keyword k r) (condition_now s l x) (ever_true k r)
      (rw (acts-when l.keyword k r (tries_by_rule l.keyword k r && condition_now s l x) w) at e)).2

  every-edge : l.keyword ≡ EVERY → acts_now s l k r x ≡ true → (condition_now s l x ≡ true) × (was_true k r ≡ false)
  every-edge w e =
      let f = fresh (takes_by_rule l k r) (tries_by_rule l.keyword k r) (condition_now s l x) (was_true k r)
      (rw (acts-every l.keyword k r (tries_by_rule l.keyword k r && condition_now s l x) w) at e) in
      (f.1, f.2)

-- ---- the consequences, for any set, any calls from the load on, and a beat after them

module _ (s : List ℕ) (cs : List Call) (g : Given) (k : ℕ) where
  -- in every beat the control acts on just the lines that the rule gives: of a line of the set, of rank k
  pub acts-just : (t : Turned) → k < (lines_of s).count → whole_beat s (engine_run s cs).kept g ≡ good t → Came s (engine_run s cs).kept (engine_run s cs).history g k t
  acts-just t h = rw (demand-3 s cs) (λ e. came s (run_by_rule s cs).kept (run_by_rule s cs).history g t k h e)

  -- and on no other rank
  pub acts-no-other : (t : Turned) → (lines_of s).count ≤ k → whole_beat s (engine_run s cs).kept g ≡ good t → is_acted t.world.acted k ≡ false
  acts-no-other t h = rw (demand-3 s cs) go
    where
      go : whole_beat s (state_by (lines_of s) (run_by_rule s cs).kept (run_by_rule s cs).history) g ≡ good t → is_acted t.world.acted k ≡ false
      go e =
          let u = unflagged s (run_by_rule s cs).kept (run_by_rule s cs).history g t e in
          let b = beat-turns s (run_by_rule s cs).kept (run_by_rule s cs).history g u.0 u.1 in
          ap (λ n. is_acted n k) (u.2 ∙ ap (λ y. y.world.acted) b.2)
          ∙ no_other s (lines_of s) (lines_of s).count k (beat_in g.automatic ∷ (run_by_rule s cs).history) (begun_by (run_by_rule s cs).kept g) b.0 h (begun-none (run_by_rule s cs).kept g) b.1

  -- between two starts a WHEN line acts at most once: where it acts in a beat, it has not acted since the last start
  pub once : k < (lines_of s).count → (get_or (lines_of s).items k no_line).keyword ≡ WHEN →
      is_acted (beat_answer s (engine_run s cs).kept g).acted k ≡ true → acted_since k (engine_run s cs).told ≡ false
  unfolding beat_answer
  once h w e =
      let a = acted-good (engine_run s cs).kept (kept_in (engine_run s cs).kept g) k (whole_beat s (engine_run s cs).kept g) e in
      let d = acts-just a.0 h a.1 in
      let line : Line = get_or (lines_of s).items k no_line in
      not_yet (acted_since k (engine_run s cs).told) (ever_true k (engine_run s cs).history) (once-so-far s k h w cs)
      (sym d.ever-before ∙ when-fresh s k line (after d.before.entries (beat_in g.automatic ∷ (engine_run s cs).history)) d.before.world w (sym d.acted ∙ a.2))

  -- an EVERY line acts only where its condition is true, in the world in which its turn comes, and at its turn before, since the last start, it was false or there was none
  pub edge : k < (lines_of s).count → (get_or (lines_of s).items k no_line).keyword ≡ EVERY →
      is_acted (beat_answer s (engine_run s cs).kept g).acted k ≡ true →
      (before : Turned) × (turns_from s (lines_of s).numbers (engine_run s cs).kept.cancelled g.automatic (lines_of s).items k 0 (beat_begun (engine_run s cs).kept g) ≡ good before)
      × (condition_now s (get_or (lines_of s).items k no_line) before.world ≡ true) × (was_true k (engine_run s cs).history ≡ false)
  unfolding beat_answer
  edge h w e =
      let a = acted-good (engine_run s cs).kept (kept_in (engine_run s cs).kept g) k (whole_beat s (engine_run s cs).kept g) e in
      let d = acts-just a.0 h a.1 in
      let f = every-edge s k (get_or (lines_of s).items k no_line) (after d.before.entries (beat_in g.automatic ∷ (engine_run s cs).history)) d.before.world w (sym d.acted ∙ a.2) in
      (d.before, d.come, f.0, sym d.was-before ∙ f.1)

-- ---- locking and unlocking change no memory

called-memory : (st : State) (f : Result ℕ ℕ) (b : Bool) → (called st f (λ k. with_locked st k b)).state.memory ≡ st.memory
unfolding called
called-memory st (Found k) b = refl
called-memory st (Err c) b = refl

-- by the host
pub lock-memory : (s : List ℕ) (st : State) (n : ℕ) → (lock_call s st n).state.memory ≡ st.memory
unfolding lock_call locked_call
lock-memory s st n = called-memory st (found s st n) true

pub unlock-memory : (s : List ℕ) (st : State) (n : ℕ) → (unlock_call s st n).state.memory ≡ st.memory
unfolding unlock_call locked_call
unlock-memory s st n = called-memory st (found s st n) false

-- by LOCK and UNLOCK in a line, or by any other of its actions
pub actions-memory : (s numbers : List ℕ) (cancelled : List Bool) (number j : ℕ) (x : World) (p : ℕ) (d : Did) → actions_of s numbers cancelled number j x p ≡ good d → d.world.memory ≡ x.memory
actions-memory s numbers cancelled number j x p d e = (is_ok (Noted s numbers cancelled number x) (actions_of s numbers cancelled number j x p) d e (actions-noted s numbers cancelled number j x p)).1

-- ---- the control by the rule keeps no flags, in a beat neither

none-noted : (ns : List Note) → note_all ns [] ≡ []
none-noted [] = refl
none-noted (n ∷ ns) = none-noted ns

abbrev pub Flagless : World → Type 0
Flagless x = (x.locked ≡ []) × (x.memory ≡ [])

module _ (s : List ℕ) (ls : Lines) where
  module _ (l : Line) (k : ℕ) (r : History) (x : World) (f : Flagless x) where
    do-flagless : (es : List Entry) (a : Bool) → Ok (λ t. Flagless t.world) (do_turn s ls.numbers (by_rank (cancelled_by ls r)) (is_automatic r) l k x es a)
    unfolding do_turn
    do-flagless es false = f
    do-flagless es true =
        bind_ok (λ t. Flagless t.world) (actions_of s ls.numbers (by_rank (cancelled_by ls r)) l.number max_actions (counted x k) l.actions) _
        (λ d e. let h = is_ok (Noted s ls.numbers (by_rank (cancelled_by ls r)) l.number (counted x k)) _ d e (actions-noted s ls.numbers (by_rank (cancelled_by ls r)) l.number max_actions (counted x k) l.actions) in
        (h.0 ∙ rw f.0 (none-noted d.notes), h.1 ∙ f.1))

    turn-flagless : Ok (λ t. Flagless t.world) (turn_by_rule s ls l k r x)
    unfolding turn_by_rule try_by_rule
    turn-flagless =
        let P : Turned → Type 0 = λ t. Flagless t.world in
        either (Ok P) (takes_by_rule l k r)
        (λ e. either (Ok P) (tries_by_rule l.keyword k r)
        (λ e. bind_ok P (from_reached (condition_value s x.vars.r x.vars.cells l.condition)) _
        (λ a q. do-flagless (worked k (is_yes a.0) ∷ []) (acts_by_rule l.keyword k r (is_yes a.0))))
        (λ e. do-flagless [] (acts_by_rule l.keyword k r false)))
        (λ e. f)

  pub turns-flagless : (n k : ℕ) (r : History) (x : World) → Flagless x → Ok (λ t. Flagless t.world) (turns_by_rule s ls n k r x)
  unfolding turns_by_rule
  turns-flagless zero k r x f = f
  turns-flagless (suc n) k r x f =
      let P : Turned → Type 0 = λ t. Flagless t.world in
      bind_ok P (turn_by_rule s ls (get_or ls.items k no_line) k r x) _
      (λ t e. bind_ok P (turns_by_rule s ls n (k + 1) (after t.entries r) t.world) _
      (λ u q. is_ok P _ u q (turns-flagless n (k + 1) (after t.entries r) t.world (is_ok P _ t e (turn-flagless (get_or ls.items k no_line) k r x f)))))
