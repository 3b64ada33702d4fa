-- The number stands behind the space.
use Rattle.std.proofs.Common.{arith}
use Rattle.text.specs.Digits.{decimal}
use Rattle.text.specs.DigitsLaws.{decimal-room}
use Rattle.values.specs.PutLaws.{put_byte, put-sized, put_both, put_as}
use Rattle.transcript.proofs.OutLaws.{field-alone}
use Rattle.transcript.proofs.printing.put_field.Goals as goal

pub overflow_add-result : goal.overflow_add-result
overflow_add-result c = omega (arith, c.put_number.ensures.value, decimal-room c.args.n)

pub returns : goal.returns
returns c = let n = decimal c.args.n in put_as (field-alone n) (put_both (put_byte c.put.ensures) (put-sized n c.put_number.ensures.out_after c.put_number.ensures.value))
