-- The letter and the three numbers, and the value behind them.
use Rattle.std.proofs.Common.{[], ◌∷◌, ◌∙◌, arith}
use Rattle.values.specs.PutLaws.{put_byte, put-sized, put_both, put_as}
use Rattle.text.specs.Digits.{signed_text}
use Rattle.text.specs.DigitsLaws.{signed-room}
use Rattle.transcript.specs.OutputLaws.{fields-room}
use Rattle.transcript.proofs.OutLaws.{four_is, order_is}
use Rattle.transcript.proofs.printing.order_line.Goals as goal

pub overflow_add-q : goal.overflow_add-q
overflow_add-q c = omega (arith, c.put_fields-p.ensures.behind, fields-room (c.from.result ∷ c.from-2.result ∷ c.from-3.result ∷ []))

pub overflow_add-end : goal.overflow_add-end
overflow_add-end c = omega (arith, c.put_fields-p.ensures.behind, fields-room (c.from.result ∷ c.from-2.result ∷ c.from-3.result ∷ []), c.put_signed.ensures.value, signed-room c.from_le_bytes.result)

pub overflow_add-result : goal.overflow_add-result
overflow_add-result c = omega (arith, c.put_fields-p.ensures.behind, fields-room (c.from.result ∷ c.from-2.result ∷ c.from-3.result ∷ []), c.put_signed.ensures.value, signed-room c.from_le_bytes.result)

pub returns : goal.returns
returns c =
    let o = c.args.order.now in
    put_as (order_is o c.from.ensures c.from-2.ensures c.from-3.ensures (c.from_le_bytes.ensures ∙ four_is o))
    (put_both (put_both (put_both c.put_fields-p.ensures (put_byte c.put.ensures)) (put-sized (signed_text c.from_le_bytes.result) c.put_signed.ensures.out_after c.put_signed.ensures.value)) (put_byte c.put-2.ensures))
