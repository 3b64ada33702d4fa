-- The numbers that are left, put at `p`, come to what all of them come to.
use Rattle.std.proofs.Common.{◌+◌, ◌*◌, ◌≤◌, drop}
use Rattle.values.specs.PutLaws.{Left}
use Rattle.transcript.specs.Output.{spaced, decimals}
use Rattle.transcript.proofs.printing.put_numbers.Given as goal

abbrev pub invariant-loop-n : goal.invariant-loop-n
invariant-loop-n l = record { left : Left l.initial.out l.at (spaced (decimals l.numbers)) l.out l.p (spaced (decimals (drop l.n-index l.numbers))); near : l.p ≤ l.at + 11 * l.n-index }
