-- `scan::number_first`: a number does not reach beyond the bytes.
use Rattle.std.proofs.Common.{drop, length-drop, arith}
use Rattle.text.specs.Byte.{is_digit}
use Rattle.text.specs.ByteLaws.{run_fits}
use Rattle.text.specs.TokensLaws.{behind-within}
use Rattle.text.proofs.scan.number_first.Goals as goal

pub number_with-requires : goal.number_with-requires
number_with-requires c =
    rw c.behind_point-m.ensures (omega (arith, run_fits is_digit c.args.part.now 0 (omega arith), c.run_end-n.ensures, behind-within (drop c.run_end-n.result c.args.part.now), length-drop c.run_end-n.result c.args.part.now))
