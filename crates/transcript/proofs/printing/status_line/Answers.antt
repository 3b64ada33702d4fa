-- The letter, and the fields one behind the other.
use Rattle.std.proofs.Common.{arith}
use Rattle.values.specs.PutLaws.{put_byte, put_both, put_as}
use Rattle.transcript.proofs.OutLaws.{kind-near, standing-near, number-near, row_is}
use Rattle.transcript.proofs.printing.status_line.Goals as goal

pub put_field-q-requires : goal.put_field-q-requires
put_field-q-requires c = omega (arith, kind-near _ c.put_kind-p.ensures)

pub put_standing-r-requires : goal.put_standing-r-requires
put_standing-r-requires c = omega (arith, kind-near _ c.put_kind-p.ensures, number-near _ c.put_field-q.ensures)

pub put_field-end-requires : goal.put_field-end-requires
put_field-end-requires c = omega (arith, kind-near _ c.put_kind-p.ensures, number-near _ c.put_field-q.ensures, standing-near _ c.put_standing-r.ensures)

pub overflow_add-result : goal.overflow_add-result
overflow_add-result c = omega (arith, kind-near _ c.put_kind-p.ensures, number-near _ c.put_field-q.ensures, standing-near _ c.put_standing-r.ensures, number-near _ c.put_field-end.ensures)

pub returns : goal.returns
returns c =
    let number = rw c.from.ensures at c.put_field-q.ensures in
    put_as (row_is c.args.row) (put_both (put_both (put_both (put_both (put_both (put_byte c.put.ensures) c.put_kind-p.ensures) number) c.put_standing-r.ensures) c.put_field-end.ensures) (put_byte c.put-2.ensures))
