-- `bytes::run_end`: a run does not reach beyond the bytes.
use Rattle.std.proofs.Common.{◌-◌, length, take, drop, length-take, length-drop, arith}
use Rattle.text.specs.Byte.{kind_of}
use Rattle.text.specs.ByteLaws.{run-within}
use Rattle.text.proofs.bytes.run_end.Goals as goal

pub overflow_add-result : goal.overflow_add-result
overflow_add-result c =
    let t = c.args.text.now in
    let n = length t - c.args.at in
    let u = drop c.args.at t in
    omega (arith, run-within (kind_of c.args.kind) (take n u), length-take n u, length-drop c.args.at t)
