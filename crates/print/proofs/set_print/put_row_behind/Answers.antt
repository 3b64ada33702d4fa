-- Behind others the row stands behind an LF.
use Rattle.values.specs.PutLaws.{put_byte, put_both, put_as}
use Rattle.print.specs.PrintOrderLaws.{row_first, row_next}
use Rattle.print.proofs.set_print.put_row_behind.Goals as goal

pub returns-then-not-behind-clause-put : goal.returns-then-not-behind-clause-put
returns-then-not-behind-clause-put c = put_as (row_first _ _ _ c.if-not-behind.true) c.put_line.ensures.put

pub returns-clause-put : goal.returns-clause-put
returns-clause-put c = put_as (row_next _ _ _ c.if-not-behind.false) (put_both (put_byte c.put.ensures) c.put_line-2.ensures.put)
