-- The bytes that are left, behind the line so far, come to what all of them come to.
use Rattle.std.proofs.Common.{◌≡◌, length}
use Rattle.transcript.specs.HalfLine.{read_on}
use Rattle.transcript.proofs.beat_line.HalfLine.read_bytes.Given as goal

abbrev pub invariant-loop-b : goal.invariant-loop-b
invariant-loop-b l = read_on l.x l.rest ≡ read_on l.fn.self l.part

abbrev pub decreases-loop-b : goal.decreases-loop-b
decreases-loop-b l = length l.rest
