-- The lock or release is written down.
use Rattle.std.proofs.Common.{[], ◌∷◌, rules}
use Rattle.engine.specs.Action.{lock_of}
use Rattle.engine.proofs.action.set_lock.Goals as goal

pub returns-then-not-cancelled-k-clause-done : goal.returns-then-not-cancelled-k-clause-done
unfolding lock_of
returns-then-not-cancelled-k-clause-done c = ((c.args.k, c.args.on) ∷ [], search rules)
