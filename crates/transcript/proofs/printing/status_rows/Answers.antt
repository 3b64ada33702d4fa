-- One more row is put behind those before it.
use Rattle.std.proofs.Common.{◌≡◌, ◌+◌, ◌≤◌, length, take, arith, length-take-le}
use Rattle.values.specs.PutLaws.{left-all, left_after, left-none}
use Rattle.transcript.proofs.OutLaws.{rows_left, all-rows, no_row, row-taken, row_near}
use Rattle.transcript.proofs.printing.status_rows.Goals as goal

pub loop-row-init : goal.loop-row-init
loop-row-init c = record { left = left-all (all-rows c.args.count c.args.rows); near = omega arith }

pub loop-row-preserved : goal.loop-row-preserved
loop-row-preserved c =
    let l = c.loop-row in
    let n = c.args.count in
    let w : n ≤ length c.args.rows = omega (arith, c.requires.1) in
    let m : length (take n c.args.rows) ≡ n = length-take-le n c.args.rows w in
    record {
      left = left_after (rows_left n c.args.rows (l.row-index + 1)) l.invariant.left (row-taken n c.args.rows l.row-index _ (omega arith) w) c.status_line-p.ensures;
      near = omega (arith, row_near _ c.status_line-p.ensures, l.invariant.near);
    }

pub returns : goal.returns
returns c =
    let l = c.loop-row in
    let w : c.args.count ≤ length c.args.rows = omega (arith, c.requires.1) in
    let n : length (take c.args.count c.args.rows) ≡ c.args.count = length-take-le c.args.count c.args.rows w in
    left-none l.invariant.left (no_row c.args.count c.args.rows l.row-index (omega arith))
