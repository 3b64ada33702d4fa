-- What a line does at its turn, said of the world in which its turn comes and the world after it: it is left alone, or it does all its actions; and whose orders the bytes are
-- that a beat gives. Definitions only; assumes nothing.
use Rattle.std.specs.Prelude.{◌≡◌, ◌≢◌, Bool, true, false, List, [], ◌∷◌, ◌++◌, ℕ, ◌<◌, get_or}
use Rattle.tokens.specs.Token.{END, max_actions}
use Rattle.tokens.specs.Descent.{token, good}
use Rattle.checking.specs.declared.line.Line.{Line}
use Rattle.engine.specs.declared.order.Order.{Order}
use Rattle.engine.specs.declared.set.Lines.{Lines}
use Rattle.engine.specs.Set.{no_line}
use Rattle.engine.specs.Order.{order_bytes}
use Rattle.engine.specs.Action.{World, Did}
use Rattle.engine.specs.Actions.{actions_of}
use Rattle.engine.specs.Turn.{counted}
use Rattle.engine.specs.ActCount.{is_acted}

-- ---- one line, of rank k: the world x in which its turn comes, the world y after it

-- no line but this one has another memory
abbrev pub OthersRemember : ℕ → World → World → Type 0
OthersRemember k x y = (j : ℕ) → j ≢ k → get_or y.memory j false ≡ get_or x.memory j false

-- nothing was done: every variable, every lock, the word of the lines that acted and the orders are as they were, and so is the memory of every other line
pub record LeftAlone (k : ℕ) (x y : World) : Type 0 where
  pub vars : y.vars ≡ x.vars
  pub locked : y.locked ≡ x.locked
  pub acted : y.acted ≡ x.acted
  pub orders : y.orders ≡ x.orders
  pub others : OthersRemember k x y

-- the world in which a line's actions begin: as its turn came, with its bit in the word, and with what is remembered of its condition
abbrev pub acting : ℕ → List Bool → World → World
acting k memory x = counted (record { vars = x.vars; locked = x.locked; memory = memory; acted = x.acted; orders = x.orders }) k

-- all was done: the world afterwards is what the line's actions, left to right and none of them left out, make of the world in which they begin
pub record DidAll (s numbers : List ℕ) (cancelled : List Bool) (l : Line) (k : ℕ) (x y : World) : Type 0 where
  pub deed : Did
  pub done : actions_of s numbers cancelled l.number max_actions (acting k y.memory x) l.actions ≡ good deed
  pub world : y ≡ deed.world
  pub ended : token s deed.next ≡ END
  pub others : OthersRemember k x y

-- ---- orders

-- the bytes of some orders, one behind the other
abbrev pub bytes_of : List Order → List ℕ
bytes_of [] = []
bytes_of (o ∷ os) = order_bytes o ++ bytes_of os

-- each of some orders is such
abbrev pub Each : (Order → Type 0) → List Order → Type 0
Each P [] = Unit {0}
Each P (o ∷ os) = P o × Each P os

-- the bytes bs, and then those of some orders that are such
pub record Gave (P : Order → Type 0) (bs cs : List ℕ) : Type 0 where
  pub given : List Order
  pub bytes : cs ≡ bs ++ bytes_of given
  pub such : Each P given

-- the order carries the number of a line of the set that has its bit in the word
pub record OfActed (ls : Lines) (word : ℕ) (o : Order) : Type 0 where
  pub rank : ℕ
  pub in_set : rank < ls.count
  pub acted : is_acted word rank ≡ true
  pub number : o.line ≡ (get_or ls.items rank no_line).number
