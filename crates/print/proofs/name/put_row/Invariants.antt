-- `name::put_row`: what is left of the name, put behind what was, comes to the whole name.
use Rattle.std.proofs.Common.{◌≡◌, ◌+◌, drop}
use Rattle.values.specs.PutAt.{put_at}
use Rattle.print.proofs.name.put_row.Given as goal

abbrev pub invariant-loop-i : goal.invariant-loop-i
invariant-loop-i l = put_at l.out (l.at + l.i) (drop l.i l.name) ≡ put_at l.initial.out l.at l.name
