-- An index inside R lies below its last place.
use Rattle.std.proofs.Common.{sym, ◌∙◌, arith}
use Rattle.tokens.specs.IndexLaws.{last-inside}
use Rattle.engine.proofs.write.Vars.write.Goals as goal

pub bounds-self-i : goal.bounds-self-i
bounds-self-i c = omega (arith, rw c.if-w-eq-R.true at (last-inside _ _ (sym c.is_inside.ensures ∙ c.if-not-is_inside.false)))
