-- They were asked whether they are fit.
use Rattle.std.proofs.Common.{◌∙◌, sym}
use Rattle.transcript.specs.TotalsLaws.{fit-counts}
use Rattle.transcript.proofs.totals.Counts.count.Goals as goal

pub count_fit-requires : goal.count_fit-requires
count_fit-requires c = (fit-counts _ (sym c.are_fit.ensures ∙ c.if-are_fit.true), c.if-orders-le-MAX_ORDERS.true)
