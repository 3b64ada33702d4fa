-- `number::digits_value`: the value of all digits; NumberLaws has the laws.
use Rattle.std.proofs.Common.{sym, ◌∙◌, arith}
use Rattle.text.specs.NumberLaws.{value-ends, low-within}
use Rattle.text.proofs.number.digits_value.Goals as goal

pub returns : goal.returns
returns c =
    let l = c.loop-b in
    (sym (value-ends c.args.digits.now l.b-index l.n (omega arith)) ∙ l.invariant.worth, low-within l.b-index l.n l.invariant.low (omega arith))
