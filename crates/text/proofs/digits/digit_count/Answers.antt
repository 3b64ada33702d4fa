-- `digits::digit_count`: the number lies between two powers of 10.
use Rattle.std.proofs.Common.{sym}
use Rattle.text.specs.DigitsLaws.{count-is}
use Rattle.text.proofs.digits.digit_count.Goals as goal

pub returns : goal.returns
returns c = sym (count-is c.ilog10.result 10 c.args.n c.ilog10.ensures.bound c.ilog10.ensures.power_le c.ilog10.ensures.next_power_gt)
