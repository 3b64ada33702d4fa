-- The bytes behind those that were read, behind the value so far, come to what all of them come to.
use Rattle.std.proofs.Common.{◌≡◌, drop}
use Rattle.transcript.specs.declared.beat_line.HalfLine.{HalfLine}
use Rattle.transcript.specs.HalfLine.{read_on, with_reading, InReading}
use Rattle.transcript.proofs.beat_line.more_hex.Given as goal

abbrev pub invariant-loop-i : goal.invariant-loop-i
invariant-loop-i l = (r : HalfLine) → InReading r → read_on (with_reading r l.value) (drop l.i l.part) ≡ read_on (with_reading r l.before) l.part
