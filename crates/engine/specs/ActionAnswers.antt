-- What the world of the code is as that of the definitions, what is done by a course, and what the code's answers to actions say of the definitions'. Definitions only.
use Rattle.std.specs.Prelude.{◌≡◌, List, ℕ, ◌+◌, ◌*◌, ◌≤◌, take, Result, MatchResult}
use Rattle.values.specs.declared.codes.Alarm.{Alarm}
use Rattle.values.specs.Codes.{code_of}
use Rattle.tokens.specs.Descent.{Answer, good, stop}
use Rattle.working.specs.declared.walk.Reached.{Reached}
use Rattle.engine.specs.declared.world.Course.{Course}
use Rattle.engine.specs.declared.world.Orders.{Orders}
use Rattle.engine.specs.declared.world.World.{World as Written}
use Rattle.engine.specs.Order.{order_size}
use Rattle.engine.specs.Action.{World, Taken, Did, Note, command_of, action_of}
use Rattle.engine.specs.Actions.{actions_of}
use Rattle.engine.specs.declared.write.Vars.{Vars}
use Rattle.engine.specs.CodeAnswers.{Gives}

-- the orders are the bytes written so far
abbrev pub orders_in : Orders → List ℕ
orders_in o = take (order_size * o.count) o.bytes

abbrev pub world_in : Written → World
world_in w = record { vars = w.vars; locked = w.locked; memory = w.memory; acted = w.acted; orders = orders_in w.orders }

-- what is done by a course: its lines are found by their numbers
module _ (c : Course) (number : ℕ) where
  abbrev pub command_in : World → ℕ → ℕ → Answer Did
  command_in = command_of c.set.now c.lines.now.numbers c.cancelled.now number

  abbrev pub action_in : World → ℕ → Answer Did
  action_in = action_of c.set.now c.lines.now.numbers c.cancelled.now number

  abbrev pub actions_in : ℕ → World → ℕ → Answer Did
  actions_in = actions_of c.set.now c.lines.now.numbers c.cancelled.now number

-- where the variables are u behind it
abbrev pub IsTaken : Result Reached Alarm → Vars → Answer Taken → Type 0
IsTaken x u y = Gives x (λ t. record { value = t.value; vars = u; next = t.next }) y

-- where the world is w behind it; what the definition writes down of locks and releases the code does not
abbrev pub IsDone : Result ℕ Alarm → World → Answer Did → Type 0
IsDone x w y = MatchResult x (λ q. (ns : List Note) × (y ≡ good (record { world = w; next = q; notes = ns }))) (λ e. y ≡ stop (code_of e))

-- at most n orders more than before, and the word of those that acted is as it was
abbrev pub Within : ℕ → Written → Written → Type 0
Within n before behind = (behind.orders.count ≤ before.orders.count + n) × (behind.acted ≡ before.acted)
