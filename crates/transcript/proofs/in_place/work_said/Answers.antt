-- What the line says is worked and counted, and the end put behind it.
use Rattle.transcript.specs.InPlace.{session_at, totals_at}
use Rattle.transcript.proofs.StepLaws.{end-near, said-then, still-beside, said-beside}
use Rattle.transcript.proofs.in_place.work_said.Goals as goal

pub end_behind-requires : goal.end_behind-requires
end_behind-requires c = end-near c.args.set.now (totals_at c.args.w.now) c.args.said c.requires.1.1 c.tally-end.ensures.put

pub returns-clause-beside : goal.returns-clause-beside
returns-clause-beside c = let t = c.tally-end.ensures in still-beside (said-beside c.requires.0 t.same.0 c.args.said t.totals_after) c.end_behind.ensures.same.0 c.end_behind.ensures.same.1

pub returns-clause-fed : goal.returns-clause-fed
returns-clause-fed c t = let h = c.tally-end.ensures in said-then t c.args.set.now (session_at c.args.w.now) c.args.said h.totals_after h.same.1 h.put (c.end_behind.ensures.fed t)
