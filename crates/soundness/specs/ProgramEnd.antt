-- Program end as the host's cancels, one after the other (document 02, Req 07). Definitions only.
use Rattle.std.specs.Prelude.{Bool, false, cond, ◌||◌, List, [], ◌∷◌, ◌++◌, map, ℕ, zero, suc, get_or}
use Rattle.checking.specs.declared.line.Line.{Line}
use Rattle.engine.specs.declared.state.State.{State}
use Rattle.engine.specs.Set.{no_line}
use Rattle.engine.specs.Calls.{cancel_call}

-- the ranks of the ID lines still live among the first n, rising, where these are cancelled
unfoldable pub live_ids : List Line → List Bool → ℕ → List ℕ
live_ids ls cancelled zero = []
live_ids ls cancelled (suc n) = live_ids ls cancelled n ++ cond ((get_or ls n no_line).ids || get_or cancelled n false) [] (n ∷ [])

-- the numbers of lines of these ranks
abbrev pub numbers_at : List Line → List ℕ → List ℕ
numbers_at ls ks = map (λ k. (get_or ls k no_line).number) ks

-- the state after the host's cancels of these numbers
unfoldable pub cancelled_all : List ℕ → State → List ℕ → State
cancelled_all s st [] = st
cancelled_all s st (n ∷ ns) = cancelled_all s (cancel_call s st n).state ns
