-- What is left to put, put behind what was, makes of the set what all does.
use Rattle.std.proofs.Common.{◌≡◌, ◌+◌, map, drop}
use Rattle.values.specs.PutAt.{put_at}
use Rattle.engine.specs.Set.{with_end, without_mark}
use Rattle.engine.proofs.set.put_tokens.Given as goal

abbrev pub invariant-loop-i : goal.invariant-loop-i
invariant-loop-i l = put_at l.set (l.at + l.i) (with_end (map without_mark (drop l.i l.tokens))) ≡ put_at l.initial.set l.at (with_end (map without_mark l.tokens))
