-- Acting is what was done. In every beat that ends well, from a load on and after any calls, each line of the set takes a turn just where the rule says so; where its bit in the
-- word is clear, its turn left every variable, every lock, the memory of every other line and the orders as they were; where its bit is set, it did all its actions; and each
-- order in the buffer carries the number of a line whose bit is set. Theorems; assumes nothing.
use Rattle.std.specs.Prelude.{◌≡◌, Bool, ℕ, ◌+◌, ◌*◌, ◌^◌, ◌<◌, ◌≤◌, length, drop}
use Rattle.std.proofs.Math.Path.{refl, ap}
use Rattle.std.proofs.Common.{◌∙◌, inl, inr, arith}
use Rattle.std.proofs.Math.Bool.{true, false, cond}
use mathlib.Core.List.{List, [], ◌∷◌, ◌++◌}
use Rattle.std.proofs.Math.Nat.{one-le-pow}
use Rattle.std.proofs.Math.ListN.{get_or}
use Rattle.tokens.specs.Descent.{Answer, good, stop}
use Rattle.checking.specs.declared.line.Line.{Line}
use Rattle.engine.specs.declared.order.Order.{Order}
use Rattle.engine.specs.declared.state.State.{State}
use Rattle.engine.specs.Set.{no_line, lines_of}
use Rattle.engine.specs.Action.{World}
use Rattle.engine.specs.Turn.{beat_in, Turned, takes_turn, turn_of, turns_from}
use Rattle.engine.specs.Order.{order_size}
use Rattle.engine.specs.Beat.{buffered, beat_answer, beat_buffer, Given, beat_begun, whole_beat, turned_answer, kept_in}
use Rattle.soundness.specs.Call.{Call}
use Rattle.soundness.specs.CallCodes.{ended-well}
use Rattle.tokens.specs.AnswerLaws.{is_ok}
use Rattle.demands.specs.History.{History, after, takes_by_rule}
use Rattle.demands.specs.Run.{engine_run, run_by_rule, Rest, state_by, begun_by, turns_by_rule}
use Rattle.demands.proofs.Demand3.{demand-3}
use Rattle.engine.specs.ActCount.{is_acted}
use Rattle.demands.specs.Acts.{acts_now}
use Rattle.demands.specs.Deed.{LeftAlone, DidAll, bytes_of, Each, Gave, OfActed}
use Rattle.demands.proofs.DeedLaws.{bytes-length, LeftOrDid, turn-took}
use Rattle.demands.proofs.ActLaws.{turns-gave}
use Rattle.demands.proofs.Consequences.{beat-turns, unflagged, no-bit, acts-just, acts-no-other}

-- ---- of one line

-- a beat in the state st, after the history r, whose answer has this word of the lines that acted; for the line of rank k: the turns of the lines before it came to `before`
-- (`come`), its own to `own` (`taken`); it took a turn just where the rule says so (`takes`), and acted just where the rule says so (`acts`); where it did not act its turn left
-- all alone (`left`), and where it acted it did all its actions (`did`)
pub record AtItsTurn (s : List ℕ) (st : State) (r : History) (g : Given) (k acted : ℕ) : Type 0 where
  pub before : Turned
  pub come : turns_from s (lines_of s).numbers st.cancelled g.automatic (lines_of s).items k 0 (beat_begun st g) ≡ good before
  pub own : Turned
  pub taken : turn_of s (lines_of s).numbers st.cancelled g.automatic (get_or (lines_of s).items k no_line) k before.world ≡ good own
  pub takes : takes_turn s (lines_of s).numbers st.cancelled g.automatic (get_or (lines_of s).items k no_line) k before.world
      ≡ takes_by_rule (get_or (lines_of s).items k no_line) k (after before.entries (beat_in g.automatic ∷ r))
  pub acts : is_acted acted k ≡ acts_now s (get_or (lines_of s).items k no_line) k (after before.entries (beat_in g.automatic ∷ r)) before.world
  pub left : is_acted acted k ≡ false → LeftAlone k before.world own.world
  pub did : is_acted acted k ≡ true → DidAll s (lines_of s).numbers st.cancelled (get_or (lines_of s).items k no_line) k before.world own.world

-- a turn left its line alone or did all, by whether it added the line's bit
module _ (s : List ℕ) (cancelled : List Bool) (m : Bool) (l : Line) (k : ℕ) (x : World) (t : Turned) (taken : turn_of s (lines_of s).numbers cancelled m l k x ≡ good t) where
  took : LeftOrDid s (lines_of s).numbers cancelled m l k x t.world
  took = is_ok (λ t. LeftOrDid s (lines_of s).numbers cancelled m l k x t.world) _ t taken (turn-took s (lines_of s).numbers cancelled m l k x)

  was-left : t.world.acted ≡ x.acted + 0 → LeftAlone k x t.world
  was-left e = go took
    where
      go : LeftOrDid s (lines_of s).numbers cancelled m l k x t.world → LeftAlone k x t.world
      go (inl h) = h
      go (inr h) = absurd (omega (arith, h.1, one-le-pow k 2 (omega arith)))

  was-done : t.world.acted ≡ x.acted + 2 ^ k → DidAll s (lines_of s).numbers cancelled l k x t.world
  was-done e = go took
    where
      go : LeftOrDid s (lines_of s).numbers cancelled m l k x t.world → DidAll s (lines_of s).numbers cancelled l k x t.world
      go (inl h) = absurd (omega (arith, h.acted, one-le-pow k 2 (omega arith)))
      go (inr h) = h.0

module _ (s : List ℕ) (cs : List Call) (g : Given) where
  -- IN EVERY BEAT THAT ANSWERS 0, for every line of the set
  pub at-its-turn : (k : ℕ) → k < (lines_of s).count → (beat_answer s (engine_run s cs).kept g).code ≡ 0 →
      AtItsTurn s (engine_run s cs).kept (engine_run s cs).history g k (beat_answer s (engine_run s cs).kept g).acted
  unfolding beat_answer
  at-its-turn k h z =
      let w = ended-well s (engine_run s cs).kept g z in
      let c = acts-just s cs g k w.0 h w.1 in
      let line = get_or (lines_of s).items k no_line in
      let added : (a : Bool) → is_acted w.0.world.acted k ≡ a → c.own.world.acted ≡ c.before.world.acted + cond a (2 ^ k) 0 = λ a e. c.added ∙ rw e in
      rw w.1
      (record {
        before = c.before;
        come = c.come;
        own = c.own;
        taken = c.taken;
        takes = c.takes;
        acts = c.acted;
        left = λ e. was-left s (engine_run s cs).kept.cancelled g.automatic line k c.before.world c.own c.taken (added false e);
        did = λ e. was-done s (engine_run s cs).kept.cancelled g.automatic line k c.before.world c.own c.taken (added true e);
      })

  -- A LINE TAKES A TURN BY THE RULE ALONE, over the history so far
  pub takes-turns-by-rule : (k : ℕ) → k < (lines_of s).count → (beat_answer s (engine_run s cs).kept g).code ≡ 0 →
      let st = (engine_run s cs).kept in let l = get_or (lines_of s).items k no_line in
      (before : Turned) × (turns_from s (lines_of s).numbers st.cancelled g.automatic (lines_of s).items k 0 (beat_begun st g) ≡ good before)
      × (takes_turn s (lines_of s).numbers st.cancelled g.automatic l k before.world ≡ takes_by_rule l k (after before.entries (beat_in g.automatic ∷ (engine_run s cs).history)))
  takes-turns-by-rule k h z = let t = at-its-turn k h z in (t.before, t.come, t.takes)

  -- A LINE WHOSE BIT IS CLEAR LEFT ALL AS IT WAS, but for what it remembers itself
  pub left_alone : (k : ℕ) → k < (lines_of s).count → (beat_answer s (engine_run s cs).kept g).code ≡ 0 → is_acted (beat_answer s (engine_run s cs).kept g).acted k ≡ false →
      let st = (engine_run s cs).kept in let l = get_or (lines_of s).items k no_line in
      (before own : Turned) × (turns_from s (lines_of s).numbers st.cancelled g.automatic (lines_of s).items k 0 (beat_begun st g) ≡ good before)
      × (turn_of s (lines_of s).numbers st.cancelled g.automatic l k before.world ≡ good own) × LeftAlone k before.world own.world
  left_alone k h z e = let t = at-its-turn k h z in (t.before, t.own, t.come, t.taken, t.left e)

  -- A LINE WHOSE BIT IS SET DID ITS ACTIONS, all of them
  pub did-all : (k : ℕ) → k < (lines_of s).count → (beat_answer s (engine_run s cs).kept g).code ≡ 0 → is_acted (beat_answer s (engine_run s cs).kept g).acted k ≡ true →
      let st = (engine_run s cs).kept in let l = get_or (lines_of s).items k no_line in
      (before own : Turned) × (turns_from s (lines_of s).numbers st.cancelled g.automatic (lines_of s).items k 0 (beat_begun st g) ≡ good before)
      × (turn_of s (lines_of s).numbers st.cancelled g.automatic l k before.world ≡ good own) × DidAll s (lines_of s).numbers st.cancelled l k before.world own.world
  did-all k h z e = let t = at-its-turn k h z in (t.before, t.own, t.come, t.taken, t.did e)

  -- AND NO OTHER RANK HAS A BIT
  pub no-other-bit : (k : ℕ) → (lines_of s).count ≤ k → is_acted (beat_answer s (engine_run s cs).kept g).acted k ≡ false
  unfolding beat_answer
  no-other-bit k h = go (whole_beat s (engine_run s cs).kept g) (λ t. acts-no-other s cs g k t h)
    where
      go : (a : Answer Turned) → ((t : Turned) → a ≡ good t → is_acted t.world.acted k ≡ false) → is_acted (turned_answer (engine_run s cs).kept (kept_in (engine_run s cs).kept g) a).acted k ≡ false
      go (good t) f = f t refl
      go (stop c) f = no-bit k

-- ---- of the orders

module _ (s : List ℕ) (v : Rest) (r : History) (g : Given) (t : Turned) where
  turns-orders : (u w : Turned) → turns_by_rule s (lines_of s) (lines_of s).count 0 (beat_in g.automatic ∷ r) (begun_by v g) ≡ good w →
      u ≡ record { world = w.world; entries = beat_in g.automatic ∷ w.entries } → t.world.acted ≡ u.world.acted → t.world.orders ≡ u.world.orders →
      Gave (OfActed (lines_of s) t.world.acted) [] t.world.orders
  unfolding begun_by beat_begun
  turns-orders u w e p a o =
      rw (a ∙ ap (λ y. y.world.acted) p, o ∙ ap (λ y. y.world.orders) p)
      (turns-gave s (lines_of s) (lines_of s).count 0 (beat_in g.automatic ∷ r) (begun_by v g) w (omega arith) (omega arith) e)

  beat-orders : whole_beat s (state_by (lines_of s) v r) g ≡ good t → Gave (OfActed (lines_of s) t.world.acted) [] t.world.orders
  beat-orders e =
      let u = unflagged s v r g t e in
      let w = beat-turns s v r g u.0 u.1 in
      turns-orders u.0 w.0 w.1 w.2 u.2 u.4

module _ (s : List ℕ) (cs : List Call) (g : Given) where
  -- EACH ORDER IN THE BUFFER CARRIES THE NUMBER OF A LINE WHOSE BIT IS SET: the buffer begins with the bytes of some orders, as many as the answer says, and the bytes behind them stay
  pub orders-of-acting-lines :
      let x = beat_answer s (engine_run s cs).kept g in
      (os : List Order) × (x.orders ≡ length os) × (beat_buffer s (engine_run s cs).kept g ≡ bytes_of os ++ drop (order_size * length os) g.buffer) × Each (OfActed (lines_of s) x.acted) os
  unfolding beat_answer beat_buffer
  orders-of-acting-lines = go (whole_beat s (engine_run s cs).kept g) orders
    where
      orders : (t : Turned) → whole_beat s (engine_run s cs).kept g ≡ good t → Gave (OfActed (lines_of s) t.world.acted) [] t.world.orders
      orders t = rw (demand-3 s cs) (beat-orders s (run_by_rule s cs).kept (run_by_rule s cs).history g t)

      go : (a : Answer Turned) → ((t : Turned) → a ≡ good t → Gave (OfActed (lines_of s) t.world.acted) [] t.world.orders) →
          let x = turned_answer (engine_run s cs).kept (kept_in (engine_run s cs).kept g) a in
          (os : List Order) × (x.orders ≡ length os) × (buffered g.buffer a ≡ bytes_of os ++ drop (order_size * length os) g.buffer) × Each (OfActed (lines_of s) x.acted) os
      go (good t) f =
          let o = f t refl in let n : length t.world.orders ≡ order_size * length o.given = ap length o.bytes ∙ bytes-length o.given in
          (o.given, rw n (omega arith), ap (λ xs. xs ++ drop (length t.world.orders) g.buffer) o.bytes ∙ ap (λ k. bytes_of o.given ++ drop k g.buffer) n, o.such)
      go (stop c) f = ([], refl, refl, tt)
