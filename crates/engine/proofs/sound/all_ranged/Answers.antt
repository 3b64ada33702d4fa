-- SoundTestLaws has the turn of the loop.
use Rattle.std.proofs.Common.{◌≡◌, get_or, pos, ◌∙◌, rules, arith}
use Rattle.values.specs.Value.{in_range}
use Rattle.engine.proofs.SoundTestLaws.{ranged-next, ranged-done}
use Rattle.engine.proofs.sound.all_ranged.Goals as goal

pub loop-x-preserved : goal.loop-x-preserved
loop-x-preserved c =
    let e : c.in_range-good.result ≡ in_range (get_or c.args.xs.now c.loop-x.x-index (pos 0)) = search rules in
    ranged-next _ c.loop-x.x-index (omega arith) _ e c.loop-x.good ∙ c.loop-x.invariant

pub returns : goal.returns
returns c = ranged-done _ c.loop-x.x-index (omega arith) c.loop-x.good ∙ c.loop-x.invariant
