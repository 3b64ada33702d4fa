-- One more byte is a digit of the reading so far.
use Rattle.std.proofs.Common.{sym, ◌∙◌}
use Rattle.transcript.specs.HalfLine.{with_reading}
use Rattle.transcript.proofs.BeatLineLaws.{hex-read, reading-on, so_far}
use Rattle.transcript.proofs.beat_line.more_hex.Goals as goal

pub loop-i-preserved : goal.loop-i-preserved
loop-i-preserved c =
    let l = c.loop-i in
    λ r n. hex-read (with_reading r l.value) (reading-on r n l.value) c.args.part.now l.i (sym c.is_hex.ensures ∙ c.if-not-is_hex.false) (so_far r l.value) c.if-value-ge-EIGHT_DIGITS.false c.hex_digit.ensures.0 ∙ l.invariant r n
