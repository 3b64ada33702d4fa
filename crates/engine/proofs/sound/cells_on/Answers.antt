-- SoundTestLaws has the turn of the loop.
use Rattle.std.proofs.Common.{◌≡◌, get_or, pos, ◌∙◌, rules, arith}
use Rattle.engine.specs.Sound.{is_cell}
use Rattle.engine.proofs.SoundTestLaws.{cells-next}
use Rattle.engine.proofs.sound.cells_on.Goals as goal

pub loop-i-preserved : goal.loop-i-preserved
loop-i-preserved c =
    let e : c.is_cell-good.result ≡ is_cell c.loop-i.i (get_or c.args.cells.now c.loop-i.i (pos 0)) = search rules in
    cells-next _ c.loop-i.i (omega arith) _ e c.loop-i.good ∙ c.loop-i.invariant
