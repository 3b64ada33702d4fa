-- `definition::parameter` meets its contract: the size of its number, negative behind a minus.
use mathlib.Core.Path.{◌∙◌}
use Rattle.values.specs.SignedLaws.{size_back, negative_back}
use Rattle.checking.proofs.DefinitionLaws.{value-minus, value-plain}
use Rattle.checking.proofs.definition.parameter.Goals as goal

pub returns-then-token_at-eq-MINUS : goal.returns-then-token_at-eq-MINUS
returns-then-token_at-eq-MINUS c =
    negative_back _ c.size_at-size.ensures.1 ∙ value-minus _ _ c.token_at.ensures c.number_place.ensures c.size_at-size.ensures.0 c.if-token_at-eq-MINUS.true

pub returns-else-token_at-eq-MINUS : goal.returns-else-token_at-eq-MINUS
returns-else-token_at-eq-MINUS c =
    size_back _ c.size_at-size.ensures.1 ∙ value-plain _ _ c.token_at.ensures c.number_place.ensures c.size_at-size.ensures.0 c.if-token_at-eq-MINUS.false
