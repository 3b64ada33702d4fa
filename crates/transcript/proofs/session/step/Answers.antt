-- The session is worked in place, and put together.
use Rattle.std.proofs.Common.{sym, ap, ◌∙◌}
use Rattle.values.specs.PutLaws.{put-nothing}
use Rattle.transcript.specs.Machine.{is_fit}
use Rattle.transcript.proofs.WorkLaws.{work-is, step_is, step-as, unfit-work}
use Rattle.transcript.proofs.session.step.Goals as goal

pub returns-then-not-is_fit : goal.returns-then-not-is_fit
returns-then-not-is_fit c =
    let r = step_is (work-is (unfit-work _ _ (sym c.is_fit.ensures ∙ c.if-not-is_fit.true)) put-nothing) in
    record { value = r.0; text_after = r.1.0; set_after = r.1.1.0; out_after = r.1.1.1 }

pub work_lines-p-requires : goal.work_lines-p-requires
work_lines-p-requires c = let n = c.new-w.ensures in (n.beside, ap is_fit n.same ∙ sym c.is_fit.ensures ∙ c.if-not-is_fit.false)

pub returns : goal.returns
returns c =
    let r = step_is (step-as _ _ _ c.new-w.ensures.same c.session.ensures c.work_lines-p.ensures) in
    record { value = r.0; text_after = r.1.0; set_after = r.1.1.0; out_after = r.1.1.1 }
