-- SoundTestLaws has the turn of the loop.
use Rattle.std.proofs.Common.{◌≡◌, get_or, pos, ◌∙◌, rules, arith}
use Rattle.values.specs.Value.{equal_to}
use Rattle.engine.proofs.SoundTestLaws.{zero-next, zero-done}
use Rattle.engine.proofs.sound.all_zero.Goals as goal

pub loop-i-preserved : goal.loop-i-preserved
loop-i-preserved c =
    let e : c.is_equal-good.result ≡ equal_to (get_or c.args.xs.now c.loop-i.i (pos 0)) (pos 0) = search rules in
    zero-next _ c.loop-i.i (omega arith) _ e c.loop-i.good ∙ c.loop-i.invariant

pub returns : goal.returns
returns c = zero-done _ c.loop-i.i (omega arith) c.loop-i.good ∙ c.loop-i.invariant
