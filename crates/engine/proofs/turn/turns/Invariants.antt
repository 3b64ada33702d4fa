-- The turns from rank `k` on come to what all of them come to.
use Rattle.std.proofs.Common.{◌≡◌, ◌-◌}
use Rattle.engine.specs.Turn.{turns_from}
use Rattle.engine.specs.ActionAnswers.{world_in}
use Rattle.engine.specs.TurnAnswers.{BeforeTurn}
use Rattle.engine.proofs.TurnLaws.{passed}
use Rattle.engine.proofs.turn.turns.Given as goal

abbrev pub invariant-loop-k : goal.invariant-loop-k
invariant-loop-k l = record {
  left : passed (turns_from l.course.set.now l.course.lines.now.numbers l.course.cancelled.now l.course.automatic l.course.lines.now.items (l.k-end - l.k) l.k (world_in l.world))
      ≡ passed (turns_from l.course.set.now l.course.lines.now.numbers l.course.cancelled.now l.course.automatic l.course.lines.now.items l.course.lines.now.count 0 (world_in l.fn.world));
  before : BeforeTurn l.k l.world;
}
