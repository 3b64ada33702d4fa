-- CellLaws has the turn of the loop.
use Rattle.std.proofs.Common.{rules, arith}
use Rattle.engine.proofs.CellLaws.{input-turn, input-rest}
use Rattle.engine.proofs.cells.put_inputs.Goals as goal

pub loop-i-preserved : goal.loop-i-preserved
loop-i-preserved c = record {
  put = input-turn c.args.word c.loop-i.i c.loop-i.rest c.loop-i.invariant.rest c.args.cells.now c.loop-i.cells _ c.loop-i.invariant.put (omega arith) (search rules);
  rest = input-rest c.args.word c.loop-i.i c.loop-i.rest c.loop-i.invariant.rest;
}
