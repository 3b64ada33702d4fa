-- The set text from `at` on ends where that of all does.
use Rattle.std.proofs.Common.{◌≡◌, ◌+◌, ◌-◌, ◌≤◌, length, drop}
use Rattle.transcript.specs.Input.{input_of}
use Rattle.transcript.proofs.set_text.set_text_size.Given as goal

abbrev pub invariant-loop-at : goal.invariant-loop-at
invariant-loop-at l = record { within : l.at ≤ length l.input; size : l.at + length (input_of (drop l.at l.input)).text ≡ length (input_of l.input).text }

abbrev pub decreases-loop-at : goal.decreases-loop-at
decreases-loop-at l = length l.input - l.at
