-- `line::put_token`: a name, or a number's thousandths.
use Rattle.std.proofs.Common.{arith, le-leb}
use Rattle.std.proofs.lemmas.Bool.{lt-leb}
use Rattle.values.specs.PutLaws.{put-sized, put_as}
use Rattle.print.specs.TokenText.{name_text}
use Rattle.print.specs.PrintRoomLaws.{name-room}
use Rattle.print.specs.TokenBackLaws.{text-name, text-number}
use Rattle.print.proofs.line.put_token.Goals as goal

pub overflow_add-result : goal.overflow_add-result
overflow_add-result c = omega (arith, c.put_name.ensures.value, name-room c.args.t)

pub returns-then-t-lt-NUMBER : goal.returns-then-t-lt-NUMBER
returns-then-t-lt-NUMBER c = put_as (text-name c.args.t (lt-leb 2147483648 c.args.t c.if-t-lt-NUMBER.true)) (put-sized (name_text c.args.t) c.put_name.ensures.out_after c.put_name.ensures.value)

pub returns-else-t-lt-NUMBER : goal.returns-else-t-lt-NUMBER
returns-else-t-lt-NUMBER c = put_as (text-number c.args.t (le-leb 2147483648 c.args.t c.if-t-lt-NUMBER.false)) c.put_thousandths.ensures
