-- In the loop of `action::actions` the actions behind `low`, with the rounds that are left, are all of them; FaultLaws has the turn.
use Rattle.std.proofs.Common.{◌≡◌, ◌-◌, List, [], ◌||◌}
use Prim.Native.Nat.{ℕ}
use Rattle.tokens.specs.Token.{set_size}
use Rattle.tokens.specs.Descent.{then}
use Rattle.checking.specs.Fault.{actions_at, names_from}
use Rattle.checking.specs.SightNumber.{next_of, fault_of, faulted}
use Rattle.checking.specs.Brackets.{InGrammar, Onward}
use Rattle.checking.proofs.MoveLaws.{Marks}
use Rattle.checking.proofs.action.actions.Given as goal

-- m are the axes moved so far
abbrev pub invariant-loop-n : goal.invariant-loop-n
invariant-loop-n l =
    (m : List ℕ) × Marks m l.moved × (then (faulted l.low) (actions_at l.set l.keyword set_size (set_size - l.n) l.n m) ≡ actions_at l.set l.keyword set_size set_size 0 [] (fault_of l.w) (next_of l.w))
    × InGrammar l.low × Onward l.set l.w l.low × ((l.names || names_from l.set l.keyword set_size (set_size - l.n) (next_of l.low)) ≡ names_from l.set l.keyword set_size set_size (next_of l.w))
