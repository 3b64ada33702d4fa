-- A turn of the engine, with the flags that the history gives, is the turn by the rule, and leaves the flags that the history gives afterwards. Assumes nothing.
use Rattle.std.specs.Prelude.{◌≡◌, Bool, cond, not, ◌&&◌, ◌||◌, eqb}
use Rattle.std.proofs.Math.Path.{refl}
use Rattle.std.proofs.Common.{sym, ◌∙◌, arith}
use Rattle.std.proofs.Math.Bool.{true, false, and-true}
use mathlib.Core.List.{List, [], ◌∷◌, ◌++◌, map}
use Prim.Native.Nat.{ℕ, zero, suc, ◌+◌, ◌<◌, ◌≤◌}
use Rattle.std.proofs.Math.ListN.{get_or}
use borrow.Author.Tests.{eqb-true, lt-ltb}
use Rattle.values.specs.Choice.{either}
use Rattle.tokens.specs.Token.{WHEN, WHENEVER, FROM, EVERY, max_lines, max_actions}
use Rattle.tokens.specs.Descent.{Answer, good, stop, ◌>>=◌}
use Rattle.working.specs.Operators.{is_yes}
use Rattle.working.specs.Working.{condition_value}
use Rattle.checking.specs.declared.line.Line.{Line}
use Rattle.engine.specs.declared.set.Lines.{Lines}
use Rattle.engine.specs.Set.{no_line}
use Rattle.engine.specs.Action.{World, Note, Did, from_reached}
use Rattle.engine.specs.Actions.{actions_of}
use Rattle.engine.specs.Turn.{Entry, worked, locks, lock_entry, Turned, counted, takes_turn, do_turn, try_turn, turn_of, turns_from}
use Rattle.engine.specs.Keyword.{tries, acts}
use Rattle.tokens.specs.ChooseLaws.{through, choose-by}
use Rattle.demands.specs.History.{History, after, is_automatic, is_cancelled, is_locked, was_true, ever_true, takes_by_rule, tries_by_rule, acts_by_rule}
use Rattle.demands.specs.Run.{by_rank, cancelled_by, locked_by, remembers_by, memory_by, try_by_rule, turn_by_rule, turns_by_rule}
use Rattle.demands.proofs.FlagLaws.{by_rank-at, worked-memory, lock-locked}
use Rattle.tokens.specs.AnswerLaws.{Ok, is_ok, bind_ok}
use Rattle.soundness.specs.ActedLaws.{Live, Fair, actions-fair}
use Rattle.demands.proofs.ActionRuleLaws.{dress, note_all, dress_did, actions-dress}

pub after-append : (es fs : List Entry) (r : History) → after (es ++ fs) r ≡ after fs (after es r)
after-append [] fs r = refl
after-append (e ∷ es) fs r = after-append es fs (e ∷ r)

-- ---- by keyword, with the memory that the history gives

tries-step : (a b ever m : Bool) → cond a (not (cond a ever m)) b ≡ cond a (not ever) b
tries-step true b ever m = refl
tries-step false b ever m = refl

tries-same : (kw k : ℕ) (r : History) → tries kw (remembers_by kw k r) ≡ tries_by_rule kw k r
unfolding tries
tries-same kw k r = tries-step (eqb kw WHEN || eqb kw FROM) (eqb kw WHENEVER || eqb kw EVERY) (ever_true k r) (cond (eqb kw EVERY) (was_true k r) false)

acts-step : (a b c d v ever was : Bool) → (c ≡ true → d ≡ false) →
    cond a v (cond (b || c) (v && not (cond (b || d) ever (cond c was false))) (cond d (v || cond (b || d) ever (cond c was false)) true))
    ≡ cond a v (cond b (v && not ever) (cond c (v && not was) (cond d (v || ever) true)))
acts-step true b c d v ever was h = refl
acts-step false true c d v ever was h = refl
acts-step false false true true v ever was h = let z = h refl in cc
acts-step false false true false v ever was h = refl
acts-step false false false true v ever was h = refl
acts-step false false false false v ever was h = refl

every-not-from : (kw : ℕ) → eqb kw EVERY ≡ true → eqb kw FROM ≡ false
every-not-from kw e = let p : kw ≡ EVERY = eqb-true kw EVERY e in rw p

acts-same : (kw k : ℕ) (r : History) (v : Bool) → acts kw (remembers_by kw k r) v ≡ acts_by_rule kw k r v
unfolding acts
acts-same kw k r v = acts-step (eqb kw WHENEVER) (eqb kw WHEN) (eqb kw EVERY) (eqb kw FROM) v (ever_true k r) (was_true k r) (every-not-from kw)

takes_step : (c k m : Bool) → not (c && true) && (not (k && not (c && true)) && m) ≡ not c && (not k && m)
takes_step true k m = refl
takes_step false true m = refl
takes_step false false m = refl

takes-live : (c m : Bool) → not c && m ≡ true → c ≡ false
takes-live true m e = sym e
takes-live false m e = refl

-- ---- a turn

module _ (ls : Lines) where
  -- locks and releases of lines that are not cancelled
  notes-locked : (ns : List Note) (r : History) → Live (by_rank (cancelled_by ls r)) ns → note_all ns (by_rank (locked_by ls r)) ≡ by_rank (locked_by ls (after (map lock_entry ns) r))
  notes-locked [] r h = refl
  notes-locked (n ∷ ns) r h =
      rw (lock-locked ls n.0 n.1 r h.0 (sym (by_rank-at (cancelled_by ls r) n.0 h.0) ∙ h.1)) (notes-locked ns (locks n.0 n.1 ∷ r) h.2)

  notes-memory : (ns : List Note) (r : History) → by_rank (memory_by ls r) ≡ by_rank (memory_by ls (after (map lock_entry ns) r))
  notes-memory [] r = refl
  notes-memory (n ∷ ns) r = notes-memory ns (locks n.0 n.1 ∷ r)

  notes-cancelled : (ns : List Note) (r : History) → by_rank (cancelled_by ls (after (map lock_entry ns) r)) ≡ by_rank (cancelled_by ls r)
  notes-cancelled [] r = refl
  notes-cancelled (n ∷ ns) r = notes-cancelled ns (locks n.0 n.1 ∷ r)

  notes-mode : (ns : List Note) (r : History) → is_automatic (after (map lock_entry ns) r) ≡ is_automatic r
  notes-mode [] r = refl
  notes-mode (n ∷ ns) r = notes-mode ns (locks n.0 n.1 ∷ r)

  -- a world with the flags that this history gives
  abbrev pub flagged : History → World → World
  flagged r x = dress (by_rank (locked_by ls r)) (by_rank (memory_by ls r)) x

  -- so after the turns that were written down
  abbrev pub flagged_turn : History → Turned → Answer Turned
  flagged_turn r t = good (record { world = flagged (after t.entries r) t.world; entries = t.entries })

  -- what a turn writes down says nothing of cancels and the mode
  abbrev pub Quiet : History → Turned → Type 0
  Quiet r t = (by_rank (cancelled_by ls (after t.entries r)) ≡ by_rank (cancelled_by ls r)) × (is_automatic (after t.entries r) ≡ is_automatic r)

  module _ (s : List ℕ) (k : ℕ) (r : History) (x : World) where
    do-same : (l : Line) (es : List Entry) (b : Bool) → by_rank (cancelled_by ls (after es r)) ≡ by_rank (cancelled_by ls r) →
        do_turn s ls.numbers (by_rank (cancelled_by ls r)) (is_automatic r) l k (flagged (after es r) x) es b
        ≡ (do_turn s ls.numbers (by_rank (cancelled_by ls r)) (is_automatic r) l k x es b >>= flagged_turn r)
    unfolding do_turn
    do-same l es false h = refl
    do-same l es true h =
        rw (actions-dress s ls.numbers (by_rank (cancelled_by ls r)) l.number max_actions (by_rank (locked_by ls (after es r))) (by_rank (memory_by ls (after es r))) (counted x k) l.actions)
        (go (actions_of s ls.numbers (by_rank (cancelled_by ls r)) l.number max_actions (counted x k) l.actions)
        (actions-fair s ls.numbers (by_rank (cancelled_by ls r)) l.number max_actions (counted x k) l.actions))
      where
        end : Did → Answer Turned
        end d = good (record { world = d.world; entries = es ++ map lock_entry d.notes })

        go : (a : Answer Did) → Ok (Fair s ls.numbers (by_rank (cancelled_by ls r)) l.number (counted x k)) a →
            (a >>= dress_did (by_rank (locked_by ls (after es r))) (by_rank (memory_by ls (after es r))) >>= end) ≡ (a >>= end >>= flagged_turn r)
        go (good d) fair =
            rw (after-append es (map lock_entry d.notes) r, notes-locked d.notes (after es r) (rw h fair.0), ← notes-memory d.notes (after es r))
        go (stop c) fair = refl

    do-quiet : (l : Line) (es : List Entry) (b : Bool) → by_rank (cancelled_by ls (after es r)) ≡ by_rank (cancelled_by ls r) → is_automatic (after es r) ≡ is_automatic r →
        Ok (Quiet r) (do_turn s ls.numbers (by_rank (cancelled_by ls r)) (is_automatic r) l k x es b)
    unfolding do_turn
    do-quiet l es false h m = (h, m)
    do-quiet l es true h m =
        bind_ok (Quiet r) (actions_of s ls.numbers (by_rank (cancelled_by ls r)) l.number max_actions (counted x k) l.actions) _
        (λ d q. rw (after-append es (map lock_entry d.notes) r) (notes-cancelled d.notes (after es r) ∙ h, notes-mode d.notes (after es r) ∙ m))

    -- a line that is not cancelled
    module _ (b : k < max_lines) (c : cancelled_by ls r k ≡ false) where
      memory-at : get_or (by_rank (memory_by ls r)) k false ≡ remembers_by (get_or ls.items k no_line).keyword k r
      memory-at = by_rank-at (memory_by ls r) k b ∙ rw c (and-true (remembers_by (get_or ls.items k no_line).keyword k r))

      try-same : try_turn s ls.numbers (by_rank (cancelled_by ls r)) (is_automatic r) (get_or ls.items k no_line) k (flagged r x)
          ≡ (try_by_rule s ls (get_or ls.items k no_line) k r x >>= flagged_turn r)
      unfolding try_turn try_by_rule
      try-same =
          choose-by (flagged_turn r) (tries line.keyword (get_or (by_rank (memory_by ls r)) k false)) (tries_by_rule line.keyword k r) _ _ _ _
          (rw memory-at (tries-same line.keyword k r))
          (λ e. through (flagged_turn r) (from_reached (condition_value s x.vars.r x.vars.cells line.condition)) _ _
          (λ a. rw (memory-at, worked-memory ls k (is_yes a.0) r b c, acts-same line.keyword k r (is_yes a.0))
          (do-same line (worked k (is_yes a.0) ∷ []) (acts_by_rule line.keyword k r (is_yes a.0)) refl)))
          (λ e. rw (memory-at, acts-same line.keyword k r false) (do-same line [] (acts_by_rule line.keyword k r false) refl))
        where
          line : Line
          line = get_or ls.items k no_line

    try-quiet : (l : Line) → Ok (Quiet r) (try_by_rule s ls l k r x)
    unfolding try_by_rule
    try-quiet l =
        either (Ok (Quiet r)) (tries_by_rule l.keyword k r)
        (λ e. bind_ok (Quiet r) (from_reached (condition_value s x.vars.r x.vars.cells l.condition)) _
        (λ a q. do-quiet l (worked k (is_yes a.0) ∷ []) (acts_by_rule l.keyword k r (is_yes a.0)) refl refl))
        (λ e. do-quiet l [] (acts_by_rule l.keyword k r false) refl refl)

    pub turn-quiet : (l : Line) → Ok (Quiet r) (turn_by_rule s ls l k r x)
    unfolding turn_by_rule
    turn-quiet l = either (Ok (Quiet r)) (takes_by_rule l k r) (λ e. try-quiet l) (λ e. (refl, refl))

    -- the turn of a line of the set
    module _ (b : k < max_lines) (n : k < ls.count) where
      pub takes_same : takes_turn s ls.numbers (by_rank (cancelled_by ls r)) (is_automatic r) (get_or ls.items k no_line) k (flagged r x) ≡ takes_by_rule (get_or ls.items k no_line) k r
      unfolding takes_turn
      takes_same =
          rw (by_rank-at (cancelled_by ls r) k b, by_rank-at (locked_by ls r) k b, lt-ltb k ls.count n)
          (takes_step (is_cancelled (get_or ls.items k no_line).ids k r) (is_locked k r) ((get_or ls.items k no_line).ids || is_automatic r))

      pub turn-same : turn_of s ls.numbers (by_rank (cancelled_by ls r)) (is_automatic r) (get_or ls.items k no_line) k (flagged r x)
          ≡ (turn_by_rule s ls (get_or ls.items k no_line) k r x >>= flagged_turn r)
      unfolding turn_of turn_by_rule
      turn-same =
          choose-by (flagged_turn r) (takes_turn s ls.numbers (by_rank (cancelled_by ls r)) (is_automatic r) (get_or ls.items k no_line) k (flagged r x))
          (takes_by_rule (get_or ls.items k no_line) k r) _ _ _ _ takes_same
          (λ e. try-same b (rw (takes-live (is_cancelled (get_or ls.items k no_line).ids k r) _ e)))
          (λ e. refl)

  -- the turns of m lines from rank k on
  pub turns_same : (s : List ℕ) (m k : ℕ) (r : History) (x : World) → ls.count ≤ max_lines → k + m ≤ ls.count →
      turns_from s ls.numbers (by_rank (cancelled_by ls r)) (is_automatic r) ls.items m k (flagged r x) ≡ (turns_by_rule s ls m k r x >>= flagged_turn r)
  unfolding turns_from turns_by_rule
  turns_same s zero k r x n h = refl
  turns_same s (suc m) k r x n h =
      rw (turn-same s k r x (omega arith) (omega arith))
      (go (turn_by_rule s ls (get_or ls.items k no_line) k r x) (turn-quiet s k r x (get_or ls.items k no_line)) (λ r x. turns_same s m (k + 1) r x n (omega arith)))
    where
      rest : Turned → Answer Turned
      rest t =
          turns_from s ls.numbers (by_rank (cancelled_by ls r)) (is_automatic r) ls.items m (k + 1) t.world >>= λ u.
          good (record { world = u.world; entries = t.entries ++ u.entries })

      ruled : Turned → Answer Turned
      ruled t = turns_by_rule s ls m (k + 1) (after t.entries r) t.world >>= λ u. good (record { world = u.world; entries = t.entries ++ u.entries })

      end : (t : Turned) (a : Answer Turned) →
          (a >>= flagged_turn (after t.entries r) >>= λ u. good (record { world = u.world; entries = t.entries ++ u.entries }))
          ≡ (a >>= (λ u. good (record { world = u.world; entries = t.entries ++ u.entries })) >>= flagged_turn r)
      end t (good u) = rw (after-append t.entries u.entries r)
      end t (stop c) = refl

      go : (a : Answer Turned) → Ok (Quiet r) a →
          ((r : History) (x : World) → turns_from s ls.numbers (by_rank (cancelled_by ls r)) (is_automatic r) ls.items m (k + 1) (flagged r x) ≡ (turns_by_rule s ls m (k + 1) r x >>= flagged_turn r)) →
          (a >>= flagged_turn r >>= rest) ≡ (a >>= ruled >>= flagged_turn r)
      go (good t) q f = rw (← q.0, ← q.1, f (after t.entries r) t.world) (end t (turns_by_rule s ls m (k + 1) (after t.entries r) t.world))
      go (stop c) q f = refl

  pub turns-quiet : (s : List ℕ) (m k : ℕ) (r : History) (x : World) → Ok (Quiet r) (turns_by_rule s ls m k r x)
  unfolding turns_by_rule
  turns-quiet s zero k r x = (refl, refl)
  turns-quiet s (suc m) k r x =
      bind_ok (Quiet r) (turn_by_rule s ls (get_or ls.items k no_line) k r x) _
      (λ t e. let p : Quiet r t = is_ok (Quiet r) (turn_by_rule s ls (get_or ls.items k no_line) k r x) t e (turn-quiet s k r x (get_or ls.items k no_line)) in
      bind_ok (Quiet r) (turns_by_rule s ls m (k + 1) (after t.entries r) t.world) _
      (λ u f. let q : Quiet (after t.entries r) u = is_ok (Quiet (after t.entries r)) (turns_by_rule s ls m (k + 1) (after t.entries r) t.world) u f (turns-quiet s m (k + 1) (after t.entries r) t.world) in
      rw (after-append t.entries u.entries r) (q.0 ∙ p.0, q.1 ∙ p.1)))
