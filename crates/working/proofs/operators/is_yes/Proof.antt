-- `operators::is_yes` meets its contract: by what `is_equal` tells.
use borrow.Author.Rules.{rules}
use mathlib.Core.Path.{ap}
use mathlib.Core.Bool.{not}
use mir.Syntax.{w32}
use Rattle.values.specs.SignedLaws.{back}
use Rattle.working.proofs.operators.is_yes.Statement.{statement}
use Rattle.working.proofs.operators.is_yes.Tie as tie

pub is_yes_spec : {M : Type 1} → statement M
is_yes_spec = tie.close (tie.spec (λ c κs. search rules) (λ c. ap not (rw (back w32 c.ranges.v) at c.is_equal.ensures)))
