-- Program end by the rule: the cancels that it writes down give the flags that the engine's program end leaves. Assumes nothing.
use Rattle.std.specs.Prelude.{◌≡◌, cond, ◌||◌, ltb}
use Rattle.std.proofs.Math.Path.{refl, ap}
use Rattle.std.proofs.Common.{sym, ◌∙◌, arith, lt-ltb, ne_eqb}
use Rattle.std.proofs.Math.Bool.{Bool, true, false}
use mathlib.Core.List.{List, [], ◌∷◌, ◌++◌, map, map-append}
use Prim.Native.Nat.{ℕ, zero, suc, ◌<◌, ◌≤◌}
use Rattle.std.proofs.Math.ListN.{get_or}
use Rattle.values.specs.Numbers.{clash}
use Rattle.tokens.specs.Token.{max_lines}
use Rattle.engine.specs.declared.set.Lines.{Lines}
use Rattle.engine.specs.declared.state.State.{State}
use Rattle.engine.specs.Set.{no_line}
use Rattle.engine.specs.Turn.{cancels}
use Rattle.engine.specs.Calls.{with_cancelled, ended_line, program_ended}
use Rattle.soundness.specs.ProgramEnd.{live_ids}
use Rattle.demands.specs.History.{History, after, is_cancelled, ever_true}
use Rattle.demands.specs.Run.{by_rank, cancelled_by, Rest, state_by, end_entries}
use Rattle.demands.proofs.FlagLaws.{by_rank-at, cancel-locked, cancel-cancelled, cancel-memory}
use Rattle.demands.proofs.TurnRuleLaws.{after-append}

-- cancels say nothing of conditions
cancels-ever : (ks : List ℕ) (j : ℕ) (r : History) → ever_true j (after (map cancels ks) r) ≡ ever_true j r
cancels-ever [] j r = refl
cancels-ever (k ∷ ks) j r = cancels-ever ks j (cancels k ∷ r)

pub end-ever : (ls : Lines) (cancelled : List Bool) (j : ℕ) (r : History) → ever_true j (after (end_entries ls cancelled) r) ≡ ever_true j r
end-ever ls cancelled j r = cancels-ever (live_ids ls.items cancelled ls.count) j r

module _ (ls : Lines) (v : Rest) where
  -- a line of the set is cancelled, in the state that the history makes up
  pub cancel-state : (r : History) (k : ℕ) → k < max_lines → ltb k ls.count ≡ true → with_cancelled (state_by ls v r) k ≡ state_by ls v (cancels k ∷ r)
  unfolding state_by
  cancel-state r k h p = rw (cancel-locked ls k r h p, cancel-cancelled ls k r h p, cancel-memory ls k r h p)

  module _ (few : ls.count ≤ max_lines) (r : History) where
    -- the lines that are cancelled before program end, and the history when it has come to rank n
    abbrev gone : List Bool
    gone = by_rank (cancelled_by ls r)

    abbrev so_far : ℕ → History
    so_far n = after (map cancels (live_ids ls.items gone n)) r

    more : (n : ℕ) → so_far (suc n) ≡ cond ((get_or ls.items n no_line).ids || get_or gone n false) (so_far n) (cancels n ∷ so_far n)
    unfolding live_ids
    more n = go ((get_or ls.items n no_line).ids || get_or gone n false)
      where
        live : List ℕ
        live = live_ids ls.items gone n

        go : (b : Bool) → after (map cancels (live ++ cond b [] (n ∷ []))) r ≡ cond b (after (map cancels live) r) (cancels n ∷ after (map cancels live) r)
        go true = ap (λ es. after es r) (map-append cancels live []) ∙ after-append (map cancels live) [] r
        go false = ap (λ es. after es r) (map-append cancels live (n ∷ [])) ∙ after-append (map cancels live) (cancels n ∷ []) r

    -- of a rank that it has not come to the history says what it said
    not_yet : (i : Bool) (n k : ℕ) → n ≤ k → is_cancelled i k (so_far n) ≡ is_cancelled i k r
    unfolding live_ids
    not_yet i zero k h = refl
    not_yet i (suc n) k h = ap (is_cancelled i k) (more n) ∙ go ((get_or ls.items n no_line).ids || get_or gone n false) (not_yet i n k (omega arith))
      where
        go : (b : Bool) → is_cancelled i k (so_far n) ≡ is_cancelled i k r → is_cancelled i k (cond b (so_far n) (cancels n ∷ so_far n)) ≡ is_cancelled i k r
        go true q = q
        go false q = rw (ne_eqb n k (omega arith)) q

    -- the engine's program end, when it has come to rank n
    ended : (n : ℕ) → n ≤ ls.count → program_ended ls.items (state_by ls v r) n ≡ state_by ls v (so_far n)
    unfolding program_ended ended_line live_ids state_by
    ended zero h = refl
    ended (suc n) h =
        ap (λ (x : State). ended_line (get_or ls.items n no_line) x n) (ended n (omega arith))
        ∙ go (ids || get_or (by_rank (cancelled_by ls (so_far n))) n false) (ids || get_or gone n false) (ap (λ b. ids || b) same)
        ∙ ap (state_by ls v) (sym (more n))
      where
        ids : Bool
        ids = (get_or ls.items n no_line).ids

        same : get_or (by_rank (cancelled_by ls (so_far n))) n false ≡ get_or gone n false
        same = by_rank-at (cancelled_by ls (so_far n)) n (omega arith) ∙ rw (not_yet ids n n (omega arith)) (sym (by_rank-at (cancelled_by ls r) n (omega arith)))

        go : (b c : Bool) → b ≡ c → cond b (state_by ls v (so_far n)) (with_cancelled (state_by ls v (so_far n)) n) ≡ state_by ls v (cond c (so_far n) (cancels n ∷ so_far n))
        go true true e = refl
        go true false e = clash (cc)
        go false true e = clash (cc)
        go false false e = cancel-state (so_far n) n (omega arith) (lt-ltb n ls.count (omega arith))

    -- PROGRAM END leaves the state that the history makes up with the cancel of each ID line still live
    pub ended-state : program_ended ls.items (state_by ls v r) ls.count ≡ state_by ls v (after (end_entries ls gone) r)
    ended-state = ended ls.count (omega arith)
