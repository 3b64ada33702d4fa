-- A curve that the set has not puts nothing.
use Rattle.std.proofs.Common.{sym, ◌∙◌}
use Rattle.values.specs.PutLaws.{put-nothing, put_as}
use Rattle.print.specs.PrintOrderLaws.{slot-none, slot-some}
use Rattle.print.proofs.set_print.put_slot.Goals as goal

pub returns-then-not-is_there-clause-put : goal.returns-then-not-is_there-clause-put
returns-then-not-is_there-clause-put c = put_as (slot-none _ _ _ (sym c.is_there.ensures ∙ c.if-not-is_there.true)) put-nothing

pub returns-clause-put : goal.returns-clause-put
returns-clause-put c =
    put_as (slot-some c.args.set.now c.args.behind c.args.k (sym c.is_there.ensures ∙ c.if-not-is_there.false))
    (rw c.slot_start.ensures at c.put_row_behind.ensures.put)
