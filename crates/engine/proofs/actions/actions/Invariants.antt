-- The actions from `at` on, as many as are left, come to what all of them come to.
use Rattle.std.proofs.Common.{◌≡◌, ◌-◌}
use Rattle.tokens.specs.Token.{max_actions}
use Rattle.engine.specs.Actions.{actions_of}
use Rattle.engine.specs.ActionAnswers.{world_in, Within}
use Rattle.engine.proofs.ActionsLaws.{came}
use Rattle.engine.proofs.actions.actions.Given as goal

abbrev pub invariant-loop : goal.invariant-loop
invariant-loop l = record {
  left : came (actions_of l.course.set.now l.course.lines.now.numbers l.course.cancelled.now l.number (max_actions - l.counter) (world_in l.world) l.at)
      ≡ came (actions_of l.course.set.now l.course.lines.now.numbers l.course.cancelled.now l.number max_actions (world_in l.fn.world) l.p);
  within : Within l.counter l.fn.world l.world;
}
