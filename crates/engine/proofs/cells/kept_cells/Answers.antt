-- All behind the inputs is taken.
use Rattle.std.proofs.Common.{◌∙◌}
use Rattle.engine.proofs.CellLaws.{all-behind}
use Rattle.engine.proofs.cells.kept_cells.Goals as goal

pub returns : goal.returns
returns c = c.copy_from_slice.ensures.after ∙ all-behind _ c.told-cells
