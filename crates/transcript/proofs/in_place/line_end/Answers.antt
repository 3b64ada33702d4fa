-- What the end of the line brings is worked.
use Rattle.transcript.specs.InPlace.{session_at}
use Rattle.transcript.proofs.StepLaws.{fed-as, line-told, line_as, line-totals}
use Rattle.transcript.proofs.in_place.line_end.Goals as goal

pub work_arrival-requires : goal.work_arrival-requires
work_arrival-requires c =
    let v = c.requires.1.0 in
    let a = c.end_line_kept-arrived.ensures.value in
    (c.requires.0, (record { kept = line-told c.args.w.now.intake v.intake a; counts = line-totals v a }, c.requires.1.1))

pub returns-clause-fed : goal.returns-clause-fed
returns-clause-fed c = let e = c.end_line_kept-arrived.ensures in fed-as (line_as c.args.text.now c.args.set.now (session_at c.args.w.now) e.text_after e.value) c.work_arrival.ensures.fed
