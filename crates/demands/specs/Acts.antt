-- What the rule says of one line in one beat, and what is asked of the replies of a run: the words of demand 3's consequences. Definitions only; assumes nothing.
use Rattle.std.specs.Prelude.{Bool, false, cond, ◌&&◌, ◌||◌, List, [], ◌∷◌, ℕ, eqb, ℤ}
use Rattle.tokens.specs.Descent.{Answer, good, stop}
use Rattle.working.specs.Operators.{is_yes}
use Rattle.working.specs.Working.{condition_value}
use Rattle.checking.specs.declared.line.Line.{Line}
use Rattle.engine.specs.ActCount.{is_acted}
use Rattle.engine.specs.Action.{World, from_reached}
use Rattle.demands.specs.History.{History, takes_by_rule, tries_by_rule, acts_by_rule}
use Rattle.soundness.specs.Call.{Call, do_beat, do_lock, do_unlock, do_cancel, do_program_end, do_control_reset}
use Rattle.demands.specs.Run.{Reply}

-- what a line's condition gives in this world: its real value, worked from the variables (no, if an alarm ends it)
abbrev pub is_yes_answer : Answer (ℤ × ℕ) → Bool
is_yes_answer (good a) = is_yes a.0
is_yes_answer (stop c) = false

abbrev pub condition_now : List ℕ → Line → World → Bool
condition_now s l x = is_yes_answer (from_reached (condition_value s x.vars.r x.vars.cells l.condition))

-- by the rule the line of rank k takes a turn, and works its condition, where r is the history so far
abbrev pub tries_now : Line → ℕ → History → Bool
tries_now l k r = takes_by_rule l k r && tries_by_rule l.keyword k r

-- by the rule it takes a turn, and acts, where x is the world in which its turn comes; a condition that is not worked counts as no
abbrev pub acts_now : List ℕ → Line → ℕ → History → World → Bool
acts_now s l k r x = takes_by_rule l k r && acts_by_rule l.keyword k r (tries_by_rule l.keyword k r && condition_now s l x)

-- has the line of rank k acted since the last start, the load or a control reset that was taken: looking back over the calls and their replies
abbrev pub acted_in : ℕ → Call → Reply → Bool → Bool
acted_in k (do_beat g) x before = is_acted x.acted k || before
acted_in k (do_lock n) x before = before
acted_in k (do_unlock n) x before = before
acted_in k (do_cancel n) x before = before
acted_in k do_program_end x before = before
acted_in k do_control_reset x before = cond (eqb x.code 0) false before

abbrev pub acted_since : ℕ → List (Call × Reply) → Bool
acted_since k [] = false
acted_since k (c ∷ cs) = acted_in k c.0 c.1 (acted_since k cs)
