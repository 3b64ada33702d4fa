-- After each place the sum so far is in hand, and sixteen of them never leave 64 bits.
use Rattle.std.proofs.Common.{◌≡◌, ◌*◌, pos, neg_ℤ, ◌≤ℤ◌}
use Rattle.values.specs.Fifo.{sum_first}
use Rattle.values.proofs.fifo.sum_first.Given as goal

abbrev pub invariant-loop-x : goal.invariant-loop-x
invariant-loop-x l =
    (l.all ≡ sum_first l.part l.x-index) × (neg_ℤ (pos (2147483648 * l.x-index)) ≤ℤ l.all) × (l.all ≤ℤ pos (2147483648 * l.x-index))
