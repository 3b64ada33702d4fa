-- The actions of a line in a row (document 01, "A beat"): each finds the world as the one before it left it, and the first alarm ends them. Definitions only.
use Rattle.std.specs.Prelude.{Bool, true, false, List, ◌++◌, ℕ, zero, suc, eqb}
use Rattle.values.specs.Codes.{unsound}
use Rattle.tokens.specs.Token.{END}
use Rattle.tokens.specs.Descent.{token, Answer, good, stop, ◌>>=◌}
use Rattle.engine.specs.Action.{World, Did, action_of}

module _ (s numbers : List ℕ) (cancelled : List Bool) (number : ℕ) where
  -- the actions from p on, left to right, at most j of them
  unfoldable pub actions_of : ℕ → World → ℕ → Answer Did
  actions_of zero x p = stop unsound
  actions_of (suc j) x p =
      action_of s numbers cancelled number x p >>= λ d.
      elim (eqb (token s d.next) END) [
        | true ↦ good d
        | false ↦ actions_of j d.world d.next >>= λ e. good (record { world = e.world; next = e.next; notes = d.notes ++ e.notes })
      ]
