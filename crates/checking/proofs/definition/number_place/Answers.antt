-- `definition::number_place` meets its contract: by the test for a minus.
use Rattle.checking.proofs.DefinitionLaws.{place-behind, place_here}
use Rattle.checking.proofs.definition.number_place.Goals as goal

pub returns-then-token_at-eq-MINUS : goal.returns-then-token_at-eq-MINUS
returns-then-token_at-eq-MINUS c = place-behind _ _ c.token_at.ensures c.if-token_at-eq-MINUS.true

pub returns-else-token_at-eq-MINUS : goal.returns-else-token_at-eq-MINUS
returns-else-token_at-eq-MINUS c = place_here _ _ c.token_at.ensures c.if-token_at-eq-MINUS.false
