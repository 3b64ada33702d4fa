-- The rows of the slots from `k` on, put at `at`, come to what all of them come to.
use Rattle.std.proofs.Common.{◌+◌, ◌-◌, ◌*◌, ◌≤◌}
use Rattle.values.specs.PutLaws.{Left}
use Rattle.tokens.specs.Token.{max_curves}
use Rattle.print.specs.PrintOrder.{slot_rows, rows_behind}
use Rattle.print.specs.PrintText.{rows_text}
use Rattle.print.specs.PrintRoomLaws.{row_room}
use Rattle.print.proofs.set_print.put_rows.Given as goal

abbrev pub invariant-loop-k : goal.invariant-loop-k
invariant-loop-k l = record {
  left : Left l.initial.out 0 (rows_text (slot_rows l.set (max_curves + l.count) 0)) l.out l.at (rows_behind l.behind (slot_rows l.set (max_curves + l.count - l.k) l.k));
  room : l.at ≤ row_room * l.k;
}
