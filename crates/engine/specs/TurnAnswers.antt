-- The turns by a course, what the code's answers to them say of the definitions', and what holds before a turn. Definitions only.
use Rattle.std.specs.Prelude.{◌≡◌, Bool, List, ℕ, ◌*◌, ◌^◌, ◌≤◌, ◌<◌, Result, MatchResult}
use Rattle.values.specs.declared.codes.Alarm.{Alarm}
use Rattle.values.specs.Codes.{code_of}
use Rattle.tokens.specs.Token.{max_actions}
use Rattle.tokens.specs.Descent.{Answer, good, stop}
use Rattle.checking.specs.declared.line.Line.{Line}
use Rattle.engine.specs.declared.world.Course.{Course}
use Rattle.engine.specs.declared.world.World.{World as Written}
use Rattle.engine.specs.Turn.{Entry, Turned, do_turn, try_turn, turn_of, turns_from}
use Rattle.engine.specs.Action.{World}

-- the turns by a course
module _ (c : Course) where
  abbrev pub do_turn_in : Line → ℕ → World → List Entry → Bool → Answer Turned
  do_turn_in = do_turn c.set.now c.lines.now.numbers c.cancelled.now c.automatic

  abbrev pub try_turn_in : Line → ℕ → World → Answer Turned
  try_turn_in = try_turn c.set.now c.lines.now.numbers c.cancelled.now c.automatic

  abbrev pub turn_in : Line → ℕ → World → Answer Turned
  turn_in = turn_of c.set.now c.lines.now.numbers c.cancelled.now c.automatic

  abbrev pub turns_in : World → Answer Turned
  turns_in x = turns_from c.set.now c.lines.now.numbers c.cancelled.now c.automatic c.lines.now.items c.lines.now.count 0 x

-- where the world is w behind it; what the definition writes down the code does not
abbrev pub IsTurned : Result Unit Alarm → World → Answer Turned → Type 0
IsTurned x w y = MatchResult x (λ _. (es : List Entry) × (y ≡ good (record { world = w; entries = es }))) (λ e. y ≡ stop (code_of e))

-- the world before the turn of rank k: at most the orders and the bits of the lines before it
abbrev pub BeforeTurn : ℕ → Written → Type 0
BeforeTurn k w = (w.orders.count ≤ max_actions * k) × (w.acted < 2 ^ k)
