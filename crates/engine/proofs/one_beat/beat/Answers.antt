-- The beat in place over the lines of the set, from the state as it is held.
use Rattle.std.proofs.Common.{◌≡◌, ap, ◌∙◌, refl}
use Rattle.engine.specs.Beat.{Given}
use Rattle.engine.specs.Held.{state_held, given_with}
use Rattle.engine.specs.HeldLaws.{beat-over-lines, state-back, left-beat}
use Rattle.engine.proofs.one_beat.beat.Goals as goal

pub returns : goal.returns
returns c =
    let a = c.args in
    let g : Given = given_with a.automatic a.inputs a.readings a.lent.now a.orders.now in
    let h = c.new-held.result in
    let e : state_held h ≡ a.state = ap state_held c.new-held.ensures ∙ state-back a.state in
    let l = left-beat a.set.now h g (beat-over-lines a.set.now (state_held h) g c.sound_lines-lines.ensures refl) c.beat_over-b.ensures in
    let k = rw (e, ← c.state-next.ensures) at l in
    record { value = k.0; orders_after = k.1 }
