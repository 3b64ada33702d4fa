-- Each section hands on what holds of the cells so far.
use Rattle.std.proofs.Common.{◌∙◌, arith}
use Rattle.working.specs.Variables.{state_cells}
use Rattle.engine.proofs.SoundTestLaws.{cells-done}
use Rattle.engine.proofs.sound.are_cells.Goals as goal

pub returns : goal.returns
returns c = cells-done c.args.cells.now state_cells (omega arith) c.cells_on.result ∙ c.cells_on.ensures ∙ c.cells_on-timers.ensures ∙ c.cells_on-params.ensures ∙ c.cells_on-markers.ensures ∙ c.cells_on-outputs.ensures
