-- They were asked whether they are fit.
use Rattle.std.proofs.Common.{◌∙◌, sym}
use Rattle.transcript.specs.TotalsLaws.{fit-counts}
use Rattle.transcript.proofs.totals.Counts.count_call.Goals as goal

pub count_call_fit-requires : goal.count_call_fit-requires
count_call_fit-requires c = fit-counts _ (sym c.are_fit.ensures ∙ c.if-are_fit.true)
