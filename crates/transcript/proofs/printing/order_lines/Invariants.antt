-- The orders that are left, put at `p`, come to what all of them come to.
use Rattle.std.proofs.Common.{◌+◌, ◌-◌, ◌*◌, ◌≤◌, length}
use Rattle.values.specs.PutLaws.{Left}
use Rattle.engine.specs.Order.{order_size}
use Rattle.transcript.specs.Output.{order_lines, order_room}
use Rattle.transcript.proofs.printing.order_lines.Given as goal

abbrev pub invariant-loop : goal.invariant-loop
invariant-loop l = record { left : Left l.initial.out l.at (order_lines l.n l.orders) l.out l.p (order_lines (l.n - l.counter) l.rest); near : l.p ≤ l.at + order_room * l.counter; long : order_size * (l.n - l.counter) ≤ length l.rest }
