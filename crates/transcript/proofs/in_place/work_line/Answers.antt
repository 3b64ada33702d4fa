-- By whether the line is well-formed.
use Rattle.std.proofs.Common.{arith}
use Rattle.transcript.specs.InPlace.{session_at}
use Rattle.transcript.proofs.StepLaws.{fed, fed-as, ill-ended, well-said}
use Rattle.transcript.proofs.in_place.work_line.Goals as goal

pub put_error-requires : goal.put_error-requires
put_error-requires c = let f = c.requires.1.0 in (f.lines, omega (arith, c.requires.1.1))

pub returns-in_default-clause-fed : goal.returns-in_default-clause-fed
returns-in_default-clause-fed c t = fed (rw c.in_default.is (ill-ended t c.args.set.now (session_at c.args.w.now) c.stop-w.ensures)) c.put_error.ensures

pub returns-clause-fed : goal.returns-clause-fed
returns-clause-fed c t = rw c.in-Some.is (fed-as (well-said t c.args.set.now (session_at c.args.w.now) c.in-Some.said) (c.work_said.ensures.fed t))
