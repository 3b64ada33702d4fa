-- By whether the line was the last.
use Rattle.values.specs.PutLaws.{put-nothing}
use Rattle.transcript.specs.InPlace.{session_at}
use Rattle.transcript.proofs.StepLaws.{fed, last-behind, more-behind, end-of}
use Rattle.transcript.proofs.in_place.end_behind.Goals as goal

pub returns-then-w-ne-LAST_LINE-clause-fed : goal.returns-then-w-ne-LAST_LINE-clause-fed
returns-then-w-ne-LAST_LINE-clause-fed c t = fed (more-behind t c.args.set.now (session_at c.args.w.now) c.if-w-ne-LAST_LINE.true) put-nothing

pub returns-clause-fed : goal.returns-clause-fed
returns-clause-fed c t = fed (last-behind t c.args.set.now (session_at c.args.w.now) c.if-w-ne-LAST_LINE.false c.stop-w.ensures) (end-of c.args.set.now c.totals.ensures c.put_end.ensures)
