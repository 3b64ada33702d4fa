-- By the code of the load.
use Rattle.transcript.specs.InPlace.{session_at}
use Rattle.values.specs.PutLaws.{put-nothing}
use Rattle.transcript.proofs.StepLaws.{fed, opens, opens_not}
use Rattle.transcript.proofs.in_place.open_set.Goals as goal

pub returns-then-l-eq0-clause-fed : goal.returns-then-l-eq0-clause-fed
returns-then-l-eq0-clause-fed c m s = let e = c.load-l.ensures in fed (rw c.read.ensures.same (opens m s (session_at c.args.w.now) c.args.t.now e.value e.set_after c.if-l-eq0.true)) put-nothing

pub returns-clause-fed : goal.returns-clause-fed
returns-clause-fed c m s =
    let e = c.load-l.ensures in
    fed (opens_not m s (session_at c.args.w.now) c.args.t.now e.value e.set_after c.if-l-eq0.false c.read.ensures.same c.stop-w.ensures) c.load_line.ensures
