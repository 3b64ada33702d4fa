-- The orders stand behind the code.
use Rattle.std.proofs.Common.{arith}
use Rattle.values.specs.PutLaws.{put_both, put_as}
use Rattle.transcript.proofs.TallyBeatLaws.{code-near, seen}
use Rattle.transcript.proofs.tally.put_beat.Goals as goal

pub order_lines-requires-clause-room : goal.order_lines-requires-clause-room
order_lines-requires-clause-room c = let p = c.requires.room in (omega (arith, code-near _ _ _ c.code_line-p.ensures, p.0, p.1), p.1)

pub returns-in-Run : goal.returns-in-Run
returns-in-Run c = put_as (seen _ c.in-Run.is) (put_both c.code_line-p.ensures c.order_lines.ensures)
