-- One more order is put behind those before it.
use Rattle.std.proofs.Common.{◌-◌, ◌+◌, ◌≤◌, length, arith}
use Rattle.values.specs.PutLaws.{left_after, left-none}
use Rattle.engine.specs.Order.{order_size}
use Rattle.transcript.specs.Output.{order_lines}
use Rattle.transcript.specs.OutputLaws.{order-room}
use Rattle.transcript.proofs.OutLaws.{orders-next, orders-over}
use Rattle.transcript.proofs.printing.order_lines.Goals as goal

pub loop-preserved : goal.loop-preserved
loop-preserved c =
    let l = c.loop in
    let k = c.in-Some.ensures.cases in
    let w : order_size ≤ length l.rest.now = omega (arith, l.invariant.long) in
    record {
      left = left_after (order_lines (c.args.n - (l.counter + 1)) c.in-Some.behind.now) l.invariant.left (rw (k.0, k.1) (orders-next c.args.n l.counter l.rest.now (omega arith) w)) c.order_line-p.ensures;
      near = omega (arith, c.order_line-p.ensures.behind, order-room c.in-Some.order.now, l.invariant.near);
      long = omega (arith, l.invariant.long, k.2);
    }

pub returns : goal.returns
returns c = let l = c.loop in left-none l.invariant.left (orders-over c.args.n l.counter l.rest.now (omega arith))
