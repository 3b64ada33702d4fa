-- The state that is held is the one that was given.
use Rattle.std.proofs.Common.{ap, ◌∙◌}
use Rattle.engine.specs.declared.state.State.{State}
use Rattle.engine.specs.Held.{state_held}
use Rattle.engine.specs.HeldLaws.{state-back}
use Rattle.transcript.proofs.in_place.Workplace.new.Goals as goal

pub returns-clause-same : goal.returns-clause-same
returns-clause-same c =
    let x = c.args.session in
    c.read.ensures.same ∙ ap (λ (y : State). record { intake = x.intake; totals = record { counts = x.totals.counts; state = y } }) (ap state_held c.new.ensures ∙ state-back x.totals.state)
