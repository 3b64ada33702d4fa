-- `digits::put_digits`: the digits before the last are put first.
use Rattle.std.proofs.Common.{◌-◌, ◌/◌, arith}
use Rattle.values.specs.PutLaws.{put_byte, put_both}
use Rattle.text.specs.DigitsLaws.{more-digits, digits-room}
use Rattle.text.proofs.digits.+put_digits.Goals as goal

pub overflow_add-result-2 : goal.overflow_add-result-2
overflow_add-result-2 t c = omega (arith, c.put_digits-end.ensures.behind, digits-room (c.args.k - 1) (c.args.n / 10))

pub returns : goal.returns
returns t c = rw (more-digits c.args.k c.args.n (omega arith) (omega arith)) (put_both c.put_digits-end.ensures (put_byte c.put-2.ensures))
