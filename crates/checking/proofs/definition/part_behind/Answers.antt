-- `definition::part_behind` meets its contract: the part where its number stands.
use mathlib.Core.Path.{◌∙◌}
use Rattle.checking.proofs.DefinitionLaws.{behind}
use Rattle.checking.proofs.definition.part_behind.Goals as goal

pub returns : goal.returns
returns c = c.part_at.ensures ∙ behind _ _ _ c.number_place.ensures
