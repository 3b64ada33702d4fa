-- The state that is held is the one that was left.
use Rattle.std.proofs.Common.{ap, ◌∙◌}
use Rattle.engine.specs.Held.{state_held}
use Rattle.engine.specs.HeldLaws.{state-back}
use Rattle.transcript.proofs.tally.tally_call.Goals as goal

pub returns-clause-totals_after : goal.returns-clause-totals_after
returns-clause-totals_after c = rw (c.count_call_fit.ensures, ap state_held c.new-w.ensures ∙ state-back c.args.left)
