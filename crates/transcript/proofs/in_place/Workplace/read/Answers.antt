-- What the engine's test told of the lines that were read, and the sizes of what is lent.
use Rattle.std.proofs.Common.{rules, ◌≡◌, ◌+◌, ◌∙◌, length, length-drop, arith}
use Rattle.tokens.specs.Token.{set_size}
use Rattle.working.specs.Variables.{input_count, r_count, state_cells}
use Rattle.engine.specs.HeldLaws.{sound-by-lines}
use Rattle.transcript.proofs.in_place.Workplace.read.Goals as goal

pub returns-clause-beside : goal.returns-clause-beside
returns-clause-beside c =
    let h = c.args.self.now.held in
    let e : length c.args.set.now ≡ set_size = search rules in
    let r : length h.r ≡ r_count = search rules in
    let k : length h.cells ≡ input_count + state_cells = search rules in
    record { read = c.sound_lines-self.ensures; told = c.is_sound_over-self.ensures ∙ sound-by-lines _ _ c.sound_lines-self.ensures; sized = (omega (arith, e), (r, omega (arith, length-drop input_count h.cells, k))) }
