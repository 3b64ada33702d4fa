-- The number that the bits stand for.
use mathlib.Core.Path.{◌∙◌}
use mir.Syntax.{w32}
use Rattle.values.specs.SignedLaws.{back}
use Rattle.working.specs.Pair.{value_of}
use Rattle.working.proofs.Pairs.{bits-signed}
use Rattle.working.proofs.pair.value_of.Goals as goal

pub returns : goal.returns
unfolding value_of
returns c = back w32 (record { sfits = c.cast_signed.type_inv }) ∙ c.cast_signed.ensures ∙ bits-signed _
