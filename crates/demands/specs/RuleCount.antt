-- How often a line acted by the rule since its last start: over a run of the control that keeps no flags, from the load on. Such a count has no top. Definitions only; assumes nothing.
use Rattle.std.specs.Prelude.{cond, not, ◌&&◌, List, [], ◌∷◌, ℕ, ◌+◌, eqb}
use Rattle.engine.specs.declared.set.Lines.{Lines}
use Rattle.engine.specs.Set.{lines_of}
use Rattle.engine.specs.State.{power_on}
use Rattle.engine.specs.ActCount.{is_acted}
use Rattle.soundness.specs.Call.{Call, do_beat, do_lock, do_unlock, do_cancel, do_program_end, do_control_reset}
use Rattle.demands.specs.History.{History}
use Rattle.demands.specs.Run.{Reply, coded, Now, Rest, rest_of, cancelled_by, step_by_rule}

-- the reply to the newest call
abbrev pub newest : List (Call × Reply) → Reply
newest [] = coded 0
newest (x ∷ xs) = x.1

-- after a call with this reply, where r is the history after it, the line of rank k having acted a times before: a beat adds one where its word has the line's bit; a control reset
-- that was taken and left the line live begins at 0
abbrev pub acts_then : Lines → ℕ → Call → Reply → History → ℕ → ℕ
acts_then ls k (do_beat g) x r a = a + cond (is_acted x.acted k) 1 0
acts_then ls k (do_lock n) x r a = a
acts_then ls k (do_unlock n) x r a = a
acts_then ls k (do_cancel n) x r a = a
acts_then ls k do_program_end x r a = a
acts_then ls k do_control_reset x r a = cond (eqb x.code 0 && not (cancelled_by ls r k)) 0 a

-- after these calls, from where the control stands on
unfoldable pub acts_from : List ℕ → ℕ → List Call → Now Rest → ℕ → ℕ
acts_from s k [] n a = a
acts_from s k (c ∷ cs) n a = let m = step_by_rule s c n in acts_from s k cs m (acts_then (lines_of s) k c (newest m.told) m.history a)

-- after these calls, from the load on
abbrev pub acts_since_start : List ℕ → List Call → ℕ → ℕ
acts_since_start s cs k = acts_from s k cs (record { kept = rest_of power_on; history = []; told = [] }) 0
