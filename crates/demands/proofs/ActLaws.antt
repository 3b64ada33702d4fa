-- What one turn by the rule, and the turns of a beat, do to the word of the lines that acted, to the orders, and to what the history says of conditions. Assumes nothing.
use Rattle.std.specs.Prelude.{◌≡◌, cond, ◌&&◌, ◌||◌, eqb, ℤ, get_or}
use Rattle.std.proofs.Math.Path.{refl, ap}
use Rattle.std.proofs.Common.{◌∙◌, zero-add, eq-eqb, ne_eqb}
use Rattle.std.proofs.Math.Bool.{Bool, true, false, and-true}
use mathlib.Core.List.{List, [], ◌∷◌, ◌++◌, map}
use Prim.Native.Nat.{ℕ, zero, suc, ◌+◌, ◌*◌, ◌^◌, ◌<◌, ◌≤◌}
use native.Mathlib.Omega.{arith}
use Rattle.std.proofs.Math.Nat.{one-le-pow, div-eq_of_lt, add-mul-div_left, add-mul-mod_self_left, mul-mod_right}
use Rattle.values.specs.Numbers.{clash}
use Rattle.tokens.specs.Token.{max_actions}
use Rattle.tokens.specs.Descent.{Answer, good, stop, ◌>>=◌}
use Rattle.working.specs.Operators.{is_yes}
use Rattle.working.specs.Working.{condition_value}
use Rattle.checking.specs.declared.line.Line.{Line}
use Rattle.engine.specs.declared.set.Lines.{Lines}
use Rattle.engine.specs.declared.order.Order.{Order}
use Rattle.engine.specs.Set.{no_line}
use Rattle.engine.specs.Action.{World, Note, from_reached}
use Rattle.engine.specs.Actions.{actions_of}
use Rattle.engine.specs.Turn.{Entry, worked, locks, lock_entry, Turned, counted, do_turn}
use Rattle.demands.specs.History.{History, after, only, or_else, is_automatic, was_true, ever_true, takes_by_rule, tries_by_rule, acts_by_rule}
use Rattle.demands.specs.Run.{by_rank, cancelled_by, try_by_rule, turn_by_rule, turns_by_rule}
use Rattle.engine.specs.ActCount.{is_acted}
use Rattle.demands.specs.Acts.{is_yes_answer, condition_now, tries_now, acts_now}
use Rattle.tokens.specs.AnswerLaws.{Ok, is_ok, bind_ok}
use Rattle.soundness.specs.ActedLaws.{Fair, actions-fair, power, next_bit, none_from}
use Rattle.demands.proofs.TurnRuleLaws.{after-append}
use Rattle.demands.specs.Deed.{Gave, OfActed}
use Rattle.demands.proofs.DeedLaws.{gave-none, gave-more, gave-map, Ends, actions-end}

-- ---- a turn

ever-step : (b m : Bool) → or_else (only b true) m ≡ b || m
ever-step true m = refl
ever-step false m = refl

was-step : (b v m : Bool) → or_else (only b v) m ≡ cond b v m
was-step true v m = refl
was-step false v m = refl

not-it : (w m : Bool) → w && false || m ≡ m
not-it true m = refl
not-it false m = refl

not-it-either : (w v m : Bool) → cond (w && false) v m ≡ m
not-it-either true v m = refl
not-it-either false v m = refl

-- locks and releases say nothing of conditions
notes-ever : (ns : List Note) (j : ℕ) (r : History) → ever_true j (after (map lock_entry ns) r) ≡ ever_true j r
notes-ever [] j r = refl
notes-ever (n ∷ ns) j r = notes-ever ns j (locks n.0 n.1 ∷ r)

notes-was : (ns : List Note) (j : ℕ) (r : History) → was_true j (after (map lock_entry ns) r) ≡ was_true j r
notes-was [] j r = refl
notes-was (n ∷ ns) j r = notes-was ns j (locks n.0 n.1 ∷ r)

-- the word, the orders and what the history says of conditions, after a turn in which the line of rank k and this number acted or not (a), and worked its condition or not (w),
-- which gave v
pub record After (number k : ℕ) (r : History) (x : World) (a w v : Bool) (t : Turned) : Type 0 where
  pub word : t.world.acted ≡ x.acted + cond a (2 ^ k) 0
  pub orders : Gave (λ o. (a ≡ true) × (o.line ≡ number)) x.orders t.world.orders
  pub ever : (j : ℕ) → ever_true j (after t.entries r) ≡ w && (eqb k j && v) || ever_true j r
  pub was : (j : ℕ) → was_true j (after t.entries r) ≡ cond (w && eqb k j) v (was_true j r)

module _ (s : List ℕ) (ls : Lines) (l : Line) (k : ℕ) (r : History) (x : World) where
  do-after : (es : List Entry) (a w v : Bool) → ((j : ℕ) → ever_true j (after es r) ≡ w && (eqb k j && v) || ever_true j r) → ((j : ℕ) → was_true j (after es r) ≡ cond (w && eqb k j) v (was_true j r)) →
      Ok (After l.number k r x a w v) (do_turn s ls.numbers (by_rank (cancelled_by ls r)) (is_automatic r) l k x es a)
  unfolding do_turn
  do-after es false w v f g = record { word = omega arith; orders = gave-none _ x.orders; ever = f; was = g }
  do-after es true w v f g =
      bind_ok (After l.number k r x true w v) (actions_of s ls.numbers (by_rank (cancelled_by ls r)) l.number max_actions (counted x k) l.actions) _
      (λ d q. record {
        word = (is_ok (Fair s ls.numbers (by_rank (cancelled_by ls r)) l.number (counted x k)) _ d q (actions-fair s ls.numbers (by_rank (cancelled_by ls r)) l.number max_actions (counted x k) l.actions)).1;
        orders = gave-map (λ o. o.line ≡ l.number) _ x.orders d.world.orders (λ o e. (refl, e))
            (is_ok (Ends s ls.numbers (by_rank (cancelled_by ls r)) l.number (counted x k)) _ d q (actions-end s ls.numbers (by_rank (cancelled_by ls r)) l.number max_actions (counted x k) l.actions)).0;
        ever = λ j. rw (after-append es (map lock_entry d.notes) r) (notes-ever d.notes j (after es r) ∙ f j);
        was = λ j. rw (after-append es (map lock_entry d.notes) r) (notes-was d.notes j (after es r) ∙ g j);
      })

  try-after : Ok (After l.number k r x (acts_by_rule l.keyword k r (tries_by_rule l.keyword k r && condition_now s l x)) (tries_by_rule l.keyword k r) (condition_now s l x)) (try_by_rule s ls l k r x)
  unfolding try_by_rule
  try-after = go (tries_by_rule l.keyword k r) (from_reached (condition_value s x.vars.r x.vars.cells l.condition))
    where
      acted : Bool → Bool
      acted v = acts_by_rule l.keyword k r v

      go : (w : Bool) (g : Answer (ℤ × ℕ)) →
          let a : Answer Turned = elim w [
            | true ↦ g >>= λ a. do_turn s ls.numbers (by_rank (cancelled_by ls r)) (is_automatic r) l k x (worked k (is_yes a.0) ∷ []) (acted (is_yes a.0))
            | false ↦ do_turn s ls.numbers (by_rank (cancelled_by ls r)) (is_automatic r) l k x [] (acted false)
          ] in Ok (After l.number k r x (acted (w && is_yes_answer g)) w (is_yes_answer g)) a
      go true (good a) = do-after (worked k (is_yes a.0) ∷ []) (acted (is_yes a.0)) true (is_yes a.0) (λ j. ever-step (eqb k j && is_yes a.0) (ever_true j r)) (λ j. was-step (eqb k j) (is_yes a.0) (was_true j r))
      go true (stop c) = tt
      go false g = do-after [] (acted false) false (is_yes_answer g) (λ j. refl) (λ j. refl)

  -- a turn by the rule
  pub turn-after : Ok (After l.number k r x (acts_now s l k r x) (tries_now l k r) (condition_now s l x)) (turn_by_rule s ls l k r x)
  unfolding turn_by_rule
  turn-after = go (takes_by_rule l k r)
    where
      go : (b : Bool) → let a : Answer Turned = elim b [ true ↦ try_by_rule s ls l k r x | false ↦ good (record { world = x; entries = [] }) ] in
          Ok (After l.number k r x (b && acts_by_rule l.keyword k r (tries_by_rule l.keyword k r && condition_now s l x)) (b && tries_by_rule l.keyword k r) (condition_now s l x)) a
      go true = try-after
      go false = record { word = omega arith; orders = gave-none _ x.orders; ever = λ j. refl; was = λ j. refl }

-- ---- bits

more : (a : Bool) (k x y z c : ℕ) → y ≡ x + cond a (2 ^ k) 0 → z ≡ y + 2 ^ (k + 1) * c → (d : ℕ) × (z ≡ x + 2 ^ k * d)
more true k x y z c p q = (1 + 2 * c, let e : z ≡ y + 2 ^ k * 2 * c = rw (power k) at q in omega arith)
more false k x y z c p q = (2 * c, let e : z ≡ y + 2 ^ k * 2 * c = rw (power k) at q in omega arith)

-- the bit of rank k is whether it was added
the-bit : (a : Bool) (k x y z c : ℕ) → x < 2 ^ k → y ≡ x + cond a (2 ^ k) 0 → z ≡ y + 2 ^ (k + 1) * c → is_acted z k ≡ a
the-bit true k x y z c h p q =
    let e : z ≡ y + 2 ^ k * 2 * c = rw (power k) at q in let f : z ≡ x + 2 ^ k * (1 + 2 * c) = omega arith in
    rw (f, add-mul-div_left x (1 + 2 * c) (one-le-pow k 2 (omega arith)), div-eq_of_lt h, zero-add, add-mul-mod_self_left 1 2 c)
the-bit false k x y z c h p q =
    let e : z ≡ y + 2 ^ k * 2 * c = rw (power k) at q in let f : z ≡ x + 2 ^ k * (2 * c) = omega arith in
    rw (f, add-mul-div_left x (2 * c) (one-le-pow k 2 (omega arith)), div-eq_of_lt h, zero-add, mul-mod_right 2 c)

-- ---- the turns of a beat

module _ (s : List ℕ) (ls : Lines) where
  abbrev line_of : ℕ → Line
  line_of k = get_or ls.items k no_line

  -- the line of rank i is not among them: the history says of its condition what it said before
  turns-other : (i n k : ℕ) (r : History) (x : World) → ((j : ℕ) → k ≤ j → j < k + n → eqb j i ≡ false) →
      Ok (λ t. (ever_true i (after t.entries r) ≡ ever_true i r) × (was_true i (after t.entries r) ≡ was_true i r)) (turns_by_rule s ls n k r x)
  unfolding turns_by_rule
  turns-other i zero k r x h = (refl, refl)
  turns-other i (suc n) k r x h =
      let P : History → Turned → Type 0 = λ r t. (ever_true i (after t.entries r) ≡ ever_true i r) × (was_true i (after t.entries r) ≡ was_true i r) in
      bind_ok (P r) (turn_by_rule s ls (line_of k) k r x) _
      (λ t e. let a = is_ok _ (turn_by_rule s ls (line_of k) k r x) t e (turn-after s ls (line_of k) k r x) in
      bind_ok (P r) (turns_by_rule s ls n (k + 1) (after t.entries r) t.world) _
      (λ u f. let b : P (after t.entries r) u = is_ok (P (after t.entries r)) _ u f (turns-other i n (k + 1) (after t.entries r) t.world (λ j c d. h j (omega arith) (omega arith))) in
      rw (after-append t.entries u.entries r) (
        b.0 ∙ a.ever i ∙ rw (h k (omega arith) (omega arith)) (not-it (tries_now (line_of k) k r) (ever_true i r)),
        b.1 ∙ a.was i ∙ rw (h k (omega arith) (omega arith)) (not-it-either (tries_now (line_of k) k r) (condition_now s (line_of k) x) (was_true i r)),
      )))

  -- they add multiples of the first one's bit
  turns-high : (n k : ℕ) (r : History) (x : World) → Ok (λ t. (c : ℕ) × (t.world.acted ≡ x.acted + 2 ^ k * c)) (turns_by_rule s ls n k r x)
  unfolding turns_by_rule
  turns-high zero k r x = (0, omega arith)
  turns-high (suc n) k r x =
      let P : ℕ → World → Turned → Type 0 = λ k x t. (c : ℕ) × (t.world.acted ≡ x.acted + 2 ^ k * c) in
      bind_ok (P k x) (turn_by_rule s ls (line_of k) k r x) _
      (λ t e. let a = is_ok _ (turn_by_rule s ls (line_of k) k r x) t e (turn-after s ls (line_of k) k r x) in
      bind_ok (P k x) (turns_by_rule s ls n (k + 1) (after t.entries r) t.world) _
      (λ u f. let b : P (k + 1) t.world u = is_ok (P (k + 1) t.world) _ u f (turns-high n (k + 1) (after t.entries r) t.world) in
      more (acts_now s (line_of k) k r x) k x.acted t.world.acted u.world.acted b.0 a.word b.1))

  -- and stay below the next one's
  turns-low : (n k : ℕ) (r : History) (x : World) → x.acted < 2 ^ k → Ok (λ t. t.world.acted < 2 ^ (k + n)) (turns_by_rule s ls n k r x)
  unfolding turns_by_rule
  turns-low zero k r x h = let e : k + 0 ≡ k = omega arith in rw e h
  turns-low (suc n) k r x h =
      let P : Turned → Type 0 = λ t. t.world.acted < 2 ^ (k + suc n) in
      bind_ok P (turn_by_rule s ls (line_of k) k r x) _
      (λ t e. let a = is_ok _ (turn_by_rule s ls (line_of k) k r x) t e (turn-after s ls (line_of k) k r x) in
      bind_ok P (turns_by_rule s ls n (k + 1) (after t.entries r) t.world) _
      (λ u f. let q : k + 1 + n ≡ k + suc n = omega arith in
      rw q at (is_ok (λ t. t.world.acted < 2 ^ (k + 1 + n)) _ u f
      (turns-low n (k + 1) (after t.entries r) t.world (next_bit (acts_now s (line_of k) k r x) k x.acted t.world.acted h a.word)))))

  -- turns that ended well: the first one, and those after it
  record First (n k : ℕ) (r : History) (x : World) (t : Turned) : Type 0 where
    own : Turned
    rest : Turned
    taken : turn_by_rule s ls (line_of k) k r x ≡ good own
    gone : turns_by_rule s ls n (k + 1) (after own.entries r) own.world ≡ good rest
    world : t.world ≡ rest.world
    history : after t.entries r ≡ after rest.entries (after own.entries r)

  first : (n k : ℕ) (r : History) (x : World) (t : Turned) → turns_by_rule s ls (suc n) k r x ≡ good t → First n k r x t
  unfolding turns_by_rule
  first n k r x t = go (turn_by_rule s ls (line_of k) k r x) refl
    where
      go' : (own : Turned) → turn_by_rule s ls (line_of k) k r x ≡ good own → (b : Answer Turned) → turns_by_rule s ls n (k + 1) (after own.entries r) own.world ≡ b →
          (b >>= λ u. good (record { world = u.world; entries = own.entries ++ u.entries })) ≡ good t → First n k r x t
      go' own p (good u) q e = let h : t ≡ record { world = u.world; entries = own.entries ++ u.entries } = cc in
          record { own = own; rest = u; taken = p; gone = q; world = ap (λ y. y.world) h; history = ap (λ y. after y.entries r) h ∙ after-append own.entries u.entries r }
      go' own p (stop c) q e = clash (cc)

      go : (a : Answer Turned) → turn_by_rule s ls (line_of k) k r x ≡ a →
          (a >>= λ own. turns_by_rule s ls n (k + 1) (after own.entries r) own.world >>= λ u. good (record { world = u.world; entries = own.entries ++ u.entries })) ≡ good t → First n k r x t
      go (good own) p e = go' own p (turns_by_rule s ls n (k + 1) (after own.entries r) own.world) refl e
      go (stop c) p e = clash (cc)

  -- seen from the line of rank i, which is j lines on: the turns before it, its own, and those after it
  record Around (j k i : ℕ) (r : History) (x : World) (t : Turned) : Type 0 where
    before : Turned
    own : Turned
    rest : Turned
    left : ℕ
    come : turns_by_rule s ls j k r x ≡ good before
    taken : turn_by_rule s ls (line_of i) i (after before.entries r) before.world ≡ good own
    gone : turns_by_rule s ls left (i + 1) (after own.entries (after before.entries r)) own.world ≡ good rest
    world : t.world ≡ rest.world
    history : after t.entries r ≡ after rest.entries (after own.entries (after before.entries r))

  seen_first : (n k : ℕ) (r : History) (x : World) (t : Turned) → First n k r x t → Around zero k k r x t
  unfolding turns_by_rule
  seen_first n k r x t f =
      record { before = record { world = x; entries = [] }; own = f.own; rest = f.rest; left = n; come = refl; taken = f.taken; gone = f.gone; world = f.world; history = f.history }

  seen-later : (j k i : ℕ) (r : History) (x : World) (t own rest : Turned) → turn_by_rule s ls (line_of k) k r x ≡ good own → t.world ≡ rest.world →
      after t.entries r ≡ after rest.entries (after own.entries r) → Around j (k + 1) i (after own.entries r) own.world rest → Around (suc j) k i r x t
  unfolding turns_by_rule
  seen-later j k i r x t own rest p w h f =
      let b = f.before in
      let e : after (own.entries ++ b.entries) r ≡ after b.entries (after own.entries r) = after-append own.entries b.entries r in
      record {
        before = record { world = b.world; entries = own.entries ++ b.entries };
        own = f.own;
        rest = f.rest;
        left = f.left;
        come = rw (p, f.come);
        taken = rw e f.taken;
        gone = rw e f.gone;
        world = w ∙ f.world;
        history = rw e (h ∙ f.history);
      }

  seen : (n j k i : ℕ) (r : History) (x : World) (t : Turned) → i ≡ k + j → j < n → turns_by_rule s ls n k r x ≡ good t → Around j k i r x t
  seen zero j k i r x t p h e = absurd (omega arith)
  seen (suc n) zero k i r x t p h e = let q : i ≡ k = omega arith in rw q (seen_first n k r x t (first n k r x t e))
  seen (suc n) (suc j) k i r x t p h e =
      let f : First n k r x t = first n k r x t e in
      seen-later j k i r x t f.own f.rest f.taken f.world f.history (seen n j (k + 1) i (after f.own.entries r) f.own.world f.rest (omega arith) (omega arith) f.gone)

  -- the turns of a beat from the first line on, which ended well, and what they did for the line of rank i
  pub record Done (i : ℕ) (r : History) (x : World) (t : Turned) : Type 0 where
    pub before : Turned
    pub come : turns_by_rule s ls i 0 r x ≡ good before
    pub own : Turned
    pub taken : turn_by_rule s ls (line_of i) i (after before.entries r) before.world ≡ good own
    pub word : own.world.acted ≡ before.world.acted + cond (acts_now s (line_of i) i (after before.entries r) before.world) (2 ^ i) 0
    pub acted : is_acted t.world.acted i ≡ acts_now s (line_of i) i (after before.entries r) before.world
    pub ever-before : ever_true i (after before.entries r) ≡ ever_true i r
    pub was-before : was_true i (after before.entries r) ≡ was_true i r
    pub ever : ever_true i (after t.entries r) ≡ tries_now (line_of i) i (after before.entries r) && condition_now s (line_of i) before.world || ever_true i r
    pub was : was_true i (after t.entries r) ≡ cond (tries_now (line_of i) i (after before.entries r)) (condition_now s (line_of i) before.world) (was_true i r)

  pub done : (n i : ℕ) (r : History) (x : World) (t : Turned) → i < n → x.acted ≡ 0 → turns_by_rule s ls n 0 r x ≡ good t → Done i r x t
  done n i r x t h z e = go (seen n i 0 i r x t (omega arith) h e)
    where
      go : Around i 0 i r x t → Done i r x t
      go f =
          let r' : History = after f.before.entries r in
          let a = is_ok _ _ f.own f.taken (turn-after s ls (line_of i) i r' f.before.world) in
          let low : f.before.world.acted < 2 ^ i = rw zero-add at (is_ok (λ t. t.world.acted < 2 ^ (0 + i)) _ f.before f.come (turns-low i 0 r x (omega arith))) in
          let high = is_ok (λ t. (c : ℕ) × (t.world.acted ≡ f.own.world.acted + 2 ^ (i + 1) * c)) _ f.rest f.gone (turns-high f.left (i + 1) (after f.own.entries r') f.own.world) in
          let earlier = is_ok _ _ f.before f.come (turns-other i i 0 r x (λ j c d. ne_eqb j i (omega arith))) in
          let later = is_ok _ _ f.rest f.gone (turns-other i f.left (i + 1) (after f.own.entries r') f.own.world (λ j c d. ne_eqb j i (omega arith))) in
          record {
            before = f.before;
            come = f.come;
            own = f.own;
            taken = f.taken;
            word = a.word;
            acted = rw f.world (the-bit (acts_now s (line_of i) i r' f.before.world) i f.before.world.acted f.own.world.acted f.rest.world.acted high.0 low a.word high.1);
            ever-before = earlier.0;
            was-before = earlier.1;
            ever = rw f.history (later.0 ∙ a.ever i ∙ rw (eq-eqb i i refl, earlier.0));
            was = rw f.history (later.1 ∙ a.was i ∙ rw (eq-eqb i i refl, earlier.1, and-true));
          }

  -- each order that the turns give carries the number of a line that acted in them
  pub turns-gave : (n k : ℕ) (r : History) (x : World) (t : Turned) → k + n ≤ ls.count → x.acted < 2 ^ k → turns_by_rule s ls n k r x ≡ good t → Gave (OfActed ls t.world.acted) x.orders t.world.orders
  unfolding turns_by_rule
  turns-gave zero k r x t h low e = let p : record { world = x; entries = [] } ≡ t = cc in rw (← p) (gave-none _ x.orders)
  turns-gave (suc n) k r x t h low e =
      let f : First n k r x t = first n k r x t e in
      let r' : History = after f.own.entries r in
      let a = is_ok _ _ f.own f.taken (turn-after s ls (line_of k) k r x) in
      let high = is_ok (λ t. (c : ℕ) × (t.world.acted ≡ f.own.world.acted + 2 ^ (k + 1) * c)) _ f.rest f.gone (turns-high n (k + 1) r' f.own.world) in
      let acts = acts_now s (line_of k) k r x in
      let bit : is_acted f.rest.world.acted k ≡ acts = the-bit acts k x.acted f.own.world.acted f.rest.world.acted high.0 low a.word high.1 in
      rw f.world
      (gave-more (OfActed ls f.rest.world.acted) x.orders f.own.world.orders f.rest.world.orders
      (gave-map (λ (o : Order). (acts ≡ true) × (o.line ≡ (line_of k).number)) _ x.orders f.own.world.orders (λ o q. record { rank = k; in_set = omega arith; acted = bit ∙ q.0; number = q.1 }) a.orders)
      (turns-gave n (k + 1) r' f.own.world f.rest (omega arith) (next_bit acts k x.acted f.own.world.acted low a.word) f.gone))

  -- no line beyond the set's has its bit
  pub no_other : (n i : ℕ) (r : History) (x : World) (t : Turned) → n ≤ i → x.acted ≡ 0 → turns_by_rule s ls n 0 r x ≡ good t → is_acted t.world.acted i ≡ false
  no_other n i r x t h z e =
      let low : t.world.acted < 2 ^ n = rw zero-add at (is_ok (λ t. t.world.acted < 2 ^ (0 + n)) _ t e (turns-low n 0 r x (omega arith))) in
      none_from t.world.acted n i low h
