-- `line::put_gap`: a space, or nothing.
use Rattle.std.proofs.Common.{sym, ◌∙◌}
use Rattle.values.specs.PutLaws.{put-nothing, put_byte, put_as}
use Rattle.print.specs.LineBack.{gap-none, gap-some}
use Rattle.print.proofs.line.put_gap.Goals as goal

pub returns-then-needs_space : goal.returns-then-needs_space
returns-then-needs_space c = put_as (gap-some c.args.t c.args.u (sym c.needs_space.ensures ∙ c.if-needs_space.true)) (put_byte c.put.ensures)

pub returns-else-needs_space : goal.returns-else-needs_space
returns-else-needs_space c = put_as (gap-none c.args.t c.args.u (sym c.needs_space.ensures ∙ c.if-needs_space.false)) put-nothing
