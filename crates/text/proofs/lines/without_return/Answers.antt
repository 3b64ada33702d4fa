-- `lines::without_return`: the last byte is a CR, or is none.
use Rattle.std.proofs.Common.{◌-◌, length, arith}
use Rattle.text.specs.LinesLaws.{return-cut, return_kept}
use Rattle.text.proofs.lines.without_return.Goals as goal

pub returns-in-13 : goal.returns-in-13
returns-in-13 c = return-cut c.args.line.now (length c.args.line.now - 1) (omega arith) (omega arith)

pub returns-in_default-2 : goal.returns-in_default-2
returns-in_default-2 c = return_kept c.args.line.now (length c.args.line.now - 1) (omega arith) (λ e. omega arith)
