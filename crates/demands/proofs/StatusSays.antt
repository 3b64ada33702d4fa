-- The status picture tells of each line of the set what the history says of it: cancelled, locked or neither, and how often it acted by the rule. Theorems; assumes nothing.
use Rattle.std.specs.Prelude.{◌≡◌, refl, Bool, true, false, not, ◌&&◌, List, ℕ, min, ◌<◌, ◌≤◌, replicate, Result, IfOk}
use Rattle.std.proofs.Common.{◌∙◌}
use Rattle.std.proofs.lemmas.Result.{IfOk-weaker}
use Rattle.std.proofs.Math.ListN.{get_or}
use Rattle.values.specs.Choice.{either}
use Rattle.tokens.specs.Token.{max_lines}
use Rattle.checking.specs.declared.line.Line.{Line}
use Rattle.engine.specs.declared.state.State.{State}
use Rattle.engine.specs.declared.status.Status.{Status}
use Rattle.engine.specs.Set.{no_line, lines_of}
use Rattle.engine.specs.Sound.{is_sound}
use Rattle.engine.specs.ActCount.{acts_top}
use Rattle.engine.specs.Status.{standing_of, line_status, no_status, status_lines, status_of}
use Rattle.engine.specs.SetCountLaws.{sound-count}
use Rattle.soundness.specs.Call.{Call}
use Rattle.demands.specs.History.{is_cancelled, is_locked}
use Rattle.demands.specs.Run.{engine_run}
use Rattle.demands.proofs.Demand3.{flags-say-the-history}
use Rattle.demands.specs.RuleCount.{acts_since_start}
use Rattle.demands.proofs.RuleCountLaws.{filled_at}
use Rattle.demands.proofs.CountSays.{count-says-the-record}

-- a cancelled line has no lock
standing-once : (c l : Bool) → standing_of c (l && not c) ≡ standing_of c l
unfolding standing_of
standing-once true l = refl
standing-once false true = refl
standing-once false false = refl

lines_at : (ls : List Line) (st : State) (n k : ℕ) → k < n → n ≤ max_lines → get_or (status_lines ls st n) k no_status ≡ line_status (get_or ls k no_line) st k
unfolding status_lines
lines_at ls st = filled_at (replicate max_lines no_status) no_status (λ k. line_status (get_or ls k no_line) st k) (status_lines ls st) refl (λ n. refl)

-- one picture for each line of the set, by rising number; or 22 and none
abbrev pub Shows : List ℕ → State → Status → Type 0
Shows s st x = (x.count ≡ (lines_of s).count) × ((k : ℕ) → k < (lines_of s).count → get_or x.lines k no_status ≡ line_status (get_or (lines_of s).items k no_line) st k)

pub status-by-rank : (s : List ℕ) (st : State) → IfOk (status_of s st) (Shows s st)
unfolding status_of
status-by-rank s st =
    either (λ (x : Result Status ℕ). IfOk x (Shows s st)) (is_sound s st)
    (λ e. (refl, λ k h. lines_at (lines_of s).items st (lines_of s).count k h (sound-count s))) (λ e. tt)

module _ (s : List ℕ) (cs : List Call) where
  -- THE PICTURE SAYS WHAT THE HISTORY SAYS, for each line of the set, after any calls from the load on: cancelled, locked or neither, and how often it acted by the rule
  pub status-says-the-record : IfOk (status_of s (engine_run s cs).kept) λ x. (k : ℕ) → k < (lines_of s).count →
      let l = get_or (lines_of s).items k no_line in let r = (engine_run s cs).history in
      get_or x.lines k no_status ≡ record { ids = l.ids; number = l.number; standing = standing_of (is_cancelled l.ids k r) (is_locked k r); acts = min acts_top (acts_since_start s cs k) }
  unfolding line_status
  status-says-the-record =
      IfOk-weaker (status_of s (engine_run s cs).kept) _ _ (λ x shows k h.
      let f = flags-say-the-history s cs k h in
      let l = get_or (lines_of s).items k no_line in
      shows.1 k h
      ∙ rw (f.0, f.1, count-says-the-record s cs k h, standing-once (is_cancelled l.ids k (engine_run s cs).history) (is_locked k (engine_run s cs).history))) (status-by-rank s (engine_run s cs).kept)
