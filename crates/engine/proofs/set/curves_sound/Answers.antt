-- SetLaws has the turns of the loop.
use Rattle.std.proofs.Common.{◌∙◌, sym, arith}
use Rattle.engine.proofs.SetLaws.{curves-none, curves-on}
use Rattle.engine.proofs.set.curves_sound.Goals.{then-curve_start-gt0+else-not-is_curve, else-curve_start-gt0}
use Rattle.engine.proofs.set.curves_sound.Goals as goal

pub loop-n-preserved : goal.loop-n-preserved
loop-n-preserved c =
    elim c.if-curve_start-gt0.branch [
      | then-curve_start-gt0+else-not-is_curve w ↦ record {
        rest = rw w.all-is (sym (curves-on _ c.loop-n.n c.loop-n.all _ (omega arith) c.curve_start.ensures w.if-curve_start-gt0.true _ w.is_curve.ensures w.if-not-is_curve.false) ∙ c.loop-n.invariant.rest);
        few = let e = w.all-is in omega arith;
      }
      | else-curve_start-gt0 w ↦ record {
        rest = rw w.all-is (sym (curves-none _ c.loop-n.n c.loop-n.all _ (omega arith) c.curve_start.ensures w.if-curve_start-gt0.false) ∙ c.loop-n.invariant.rest);
        few = let e = w.all-is in omega arith;
      }
    ]
