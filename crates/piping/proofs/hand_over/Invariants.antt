-- What is left of a piece leads on to where the whole piece leads, and is less after each step.
use Rattle.std.proofs.Common.{length}
use Rattle.transcript.specs.Machine.{Machine, LeadsTo}
use Rattle.transcript.specs.SessionAnswers.{machine_of}
use Rattle.piping.proofs.hand_over.Given as goal

abbrev pub invariant-loop-rest : goal.invariant-loop-rest
invariant-loop-rest g l = (x : Machine) → LeadsTo (machine_of l.text l.set l.session) l.rest x → LeadsTo (machine_of l.initial.text l.initial.set l.initial.session) l.piece x

abbrev pub decreases-loop-rest : goal.decreases-loop-rest
decreases-loop-rest g l = length l.rest
