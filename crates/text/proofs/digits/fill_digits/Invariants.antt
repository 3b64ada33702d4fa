-- `digits::fill_digits`: the digits of `m` that are left, put before those that stand, come to all of them.
use Rattle.std.proofs.Common.{◌≡◌, length}
use Rattle.values.specs.PutAt.{put_at}
use Rattle.text.specs.Digits.{digits_up, decimal}
use Rattle.text.proofs.digits.fill_digits.Given as goal

abbrev pub invariant-loop-i : goal.invariant-loop-i
invariant-loop-i l = record { put : put_at l.out l.at (digits_up l.i l.m) ≡ put_at l.initial.out l.at (decimal l.n); count : length (digits_up l.i l.m) ≡ l.i }
