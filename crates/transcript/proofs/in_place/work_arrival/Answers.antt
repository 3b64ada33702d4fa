-- By what was brought.
use Rattle.std.proofs.Common.{refl}
use Rattle.values.specs.PutLaws.{put-nothing}
use Rattle.transcript.specs.Machine.{arrival_worked}
use Rattle.transcript.proofs.StepLaws.{fed}
use Rattle.transcript.proofs.in_place.work_arrival.Goals as goal

pub returns-in-Nothing-clause-fed : goal.returns-in-Nothing-clause-fed
unfolding arrival_worked
returns-in-Nothing-clause-fed c = rw c.in-Nothing.is (fed refl put-nothing)

pub returns-in-WholeText-clause-fed : goal.returns-in-WholeText-clause-fed
unfolding arrival_worked
returns-in-WholeText-clause-fed c = rw c.in-WholeText.is (c.open_set.ensures.fed _ _)

pub returns-in-LineCame-clause-fed : goal.returns-in-LineCame-clause-fed
unfolding arrival_worked
returns-in-LineCame-clause-fed c = rw c.in-LineCame.is (c.work_line.ensures.fed _)
