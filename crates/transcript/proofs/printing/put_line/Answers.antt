-- The LF stands behind the fields.
use Rattle.std.proofs.Common.{arith, length-append}
use Rattle.values.specs.PutLaws.{put_byte, put_both, put_as}
use Rattle.transcript.specs.Output.{spaced, decimals}
use Rattle.transcript.specs.OutputLaws.{fields-room}
use Rattle.transcript.proofs.OutLaws.{line-is}
use Rattle.transcript.proofs.printing.put_line.Goals as goal

pub overflow_add-result : goal.overflow_add-result
overflow_add-result c = let ns = c.args.numbers.now in omega (arith, c.put_fields-p.ensures.behind, length-append c.args.word.now (spaced (decimals ns)), fields-room ns)

pub returns : goal.returns
returns c = put_as (line-is c.args.word.now (decimals c.args.numbers.now)) (put_both c.put_fields-p.ensures (put_byte c.put.ensures))
