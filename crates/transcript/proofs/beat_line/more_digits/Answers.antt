-- One more byte is a digit of the value so far.
use Rattle.std.proofs.Common.{sym, ◌∙◌}
use Rattle.transcript.specs.HalfLine.{with_value}
use Rattle.transcript.proofs.BeatLineLaws.{digit-read, number-on}
use Rattle.transcript.proofs.beat_line.more_digits.Goals as goal

pub loop-i-preserved : goal.loop-i-preserved
loop-i-preserved c = let l = c.loop-i in λ r n. digit-read (with_value r l.value) (number-on r n l.value) c.args.part.now l.i (sym c.is_digit.ensures ∙ c.if-not-is_digit.false) (rw c.from.ensures at c.grown-value.ensures) ∙ l.invariant r n
