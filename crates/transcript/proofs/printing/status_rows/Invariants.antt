-- The rows that are left, put at `p`, come to what all of them come to.
use Rattle.std.proofs.Common.{◌+◌, ◌*◌, ◌≤◌}
use Rattle.values.specs.PutLaws.{Left}
use Rattle.transcript.specs.Output.{status_rows, status_room}
use Rattle.transcript.proofs.OutLaws.{rows_left}
use Rattle.transcript.proofs.printing.status_rows.Given as goal

abbrev pub invariant-loop-row : goal.invariant-loop-row
invariant-loop-row l = record { left : Left l.initial.out l.at (status_rows l.count 0 l.fn.rows) l.out l.p (rows_left l.count l.fn.rows l.row-index); near : l.p ≤ l.at + status_room * l.row-index }
