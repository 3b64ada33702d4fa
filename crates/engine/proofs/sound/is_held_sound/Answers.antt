-- The parts of a sound state, tested in the definition's order.
use Rattle.std.proofs.Common.{rules, arith, ◌≡◌, length}
use Rattle.std.proofs.lemmas.Grind.{common_steps}
use Rattle.engine.specs.Sound.{state_sound}
use Rattle.engine.proofs.CellLaws.{all-behind}
use Rattle.engine.proofs.sound.is_held_sound.Goals as goal

pub returns-then-are_flags : goal.returns-then-are_flags
unfolding state_sound
returns-then-are_flags c =
    let n : length c.args.held.now.cells ≡ 122 = search rules in
    let k = all-behind c.args.held.now.cells n in
    grind (arith, common_steps, k)

pub returns-else-are_flags : goal.returns-else-are_flags
unfolding state_sound
returns-else-are_flags c =
    let n : length c.args.held.now.cells ≡ 122 = search rules in
    let k = all-behind c.args.held.now.cells n in
    grind (arith, common_steps, k)
