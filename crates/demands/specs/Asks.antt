-- All that a host asks of the control, a load of a text among it; and where the control stands: the set and the state as the last load and the calls since then left them.
-- Definitions only; assumes nothing.
-- Each ask is put to the set and the state that the one before it returned. Outside of this is a host that hands in something else: a state of an earlier call, a set of an
-- earlier load, or bytes of its own. What a call answers then its promise says too, for all arguments, but there is no history that it would follow.
use Rattle.std.specs.Prelude.{List, [], ◌∷◌, ◌++◌, ℕ}
use Rattle.engine.specs.declared.state.State.{State}
use Rattle.engine.specs.State.{power_on}
use Rattle.reader.specs.Load.{load_answer, load_set}
use Rattle.soundness.specs.Call.{Call}
use Rattle.demands.specs.Run.{Now, step, Rest, rest_of, step_by_rule}

-- a load of a text, or a call over the set that was loaded last
pub data Ask : Type 0 where
  do_load : List ℕ → Ask
  do_call : Call → Ask

-- the set; the code and the line that its load answered; and the run since then
pub record Standing (S : Type 0) : Type 0 where
  pub set : List ℕ
  pub code : ℕ
  pub line : ℕ
  pub since : Now S

-- ---- the control

-- a load begins a new run, over the set and in the state that it returns, with nothing written down
abbrev pub newly_loaded : List ℕ → Standing State
newly_loaded t = record { set = load_set t; code = (load_answer t).code; line = (load_answer t).line; since = record { kept = (load_answer t).state; history = []; told = [] } }

abbrev pub ask : Ask → Standing State → Standing State
ask (do_load t) n = newly_loaded t
ask (do_call c) n = record { set = n.set; code = n.code; line = n.line; since = step n.set c n.since }

unfoldable pub ask_all : List Ask → Standing State → Standing State
ask_all [] n = n
ask_all (q ∷ qs) n = ask_all qs (ask q n)

-- where the control stands after a load and any asks
abbrev pub standing : List ℕ → List Ask → Standing State
standing t qs = ask_all qs (newly_loaded t)

-- ---- the control that keeps no flags: after each load it has the rest of power-on and an empty history

abbrev pub newly_loaded_by_rule : List ℕ → Standing Rest
newly_loaded_by_rule t = record { set = load_set t; code = (load_answer t).code; line = (load_answer t).line; since = record { kept = rest_of power_on; history = []; told = [] } }

abbrev pub ask_by_rule : Ask → Standing Rest → Standing Rest
ask_by_rule (do_load t) n = newly_loaded_by_rule t
ask_by_rule (do_call c) n = record { set = n.set; code = n.code; line = n.line; since = step_by_rule n.set c n.since }

unfoldable pub ask_all_by_rule : List Ask → Standing Rest → Standing Rest
ask_all_by_rule [] n = n
ask_all_by_rule (q ∷ qs) n = ask_all_by_rule qs (ask_by_rule q n)

abbrev pub standing_by_rule : List ℕ → List Ask → Standing Rest
standing_by_rule t qs = ask_all_by_rule qs (newly_loaded_by_rule t)

-- ---- looking back

-- the text that was loaded last
abbrev pub last_text : List ℕ → List Ask → List ℕ
last_text t [] = t
last_text t (do_load u ∷ qs) = last_text u qs
last_text t (do_call c ∷ qs) = last_text t qs

-- the calls since then, the first first; cs were made before these asks
abbrev pub calls_since : List Call → List Ask → List Call
calls_since cs [] = cs
calls_since cs (do_load u ∷ qs) = calls_since [] qs
calls_since cs (do_call c ∷ qs) = calls_since (cs ++ (c ∷ [])) qs
