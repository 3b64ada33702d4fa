-- The input from place `i` on comes to what all of it comes to.
use Rattle.std.proofs.Common.{length, ◌-◌}
use Rattle.transcript.specs.InPlace.{machine_at}
use Rattle.transcript.specs.InPlaceLaws.{KeptBeside}
use Rattle.transcript.specs.Machine.{worked}
use Rattle.transcript.proofs.WorkLaws.{Going}
use Rattle.transcript.proofs.in_place.work_lines.Given as goal

abbrev pub invariant-loop-at : goal.invariant-loop-at
invariant-loop-at l =
    record {
      going : Going l.input (worked (machine_at l.initial.text l.initial.set l.initial.w) l.input) l.initial.out (machine_at l.text l.set l.w) l.i l.out l.at;
      beside : KeptBeside l.set l.w;
    }

abbrev pub decreases-loop-at : goal.decreases-loop-at
decreases-loop-at l = length l.input - l.i
