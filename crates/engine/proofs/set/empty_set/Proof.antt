-- `set::empty_set` meets its contract: the array is the list of zeros.
use mathlib.Core.Path.{refl}
use Rattle.engine.specs.Set.{empty_set}
use Rattle.engine.proofs.set.empty_set.Statement.{statement}
use Rattle.engine.proofs.set.empty_set.Tie as tie

pub empty_set_spec : {M : Type 1} → statement M
unfolding empty_set
empty_set_spec = tie.close (tie.spec (λ c. refl))
