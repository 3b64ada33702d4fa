-- What the end of input brings is worked, and the end put behind it.
use Rattle.std.proofs.Common.{sym, ap, ◌∙◌, arith}
use Rattle.values.specs.PutLaws.{put-nothing}
use Rattle.transcript.specs.declared.session.Session.{Session}
use Rattle.transcript.specs.SessionRoomLaws.{fit_parts, arrival-room}
use Rattle.transcript.proofs.StepLaws.{input-told}
use Rattle.transcript.proofs.WorkLaws.{put_whole, put-after, end-has-room, end-in, finish-unfit, finish-as}
use Rattle.transcript.proofs.session.finish.Goals as goal

pub returns-then-not-is_fit : goal.returns-then-not-is_fit
returns-then-not-is_fit c = let r = put_whole (finish-unfit _ _ _ (sym c.is_fit.ensures ∙ c.if-not-is_fit.true)) put-nothing in record { value = r.0; out_after = r.1 }

pub work_arrival-end-requires : goal.work_arrival-end-requires
work_arrival-end-requires c =
    let f = fit_parts c.args.session (sym c.is_fit.ensures ∙ c.if-not-is_fit.false) in
    (c.new-w.ensures.beside, (record { kept = input-told c.args.session.intake f.intake c.end_input.ensures; counts = λ h. rw (ap (λ (x : Session). x.totals.counts) c.new-w.ensures.same) f.totals }, omega arith))

pub put_last-requires : goal.put_last-requires
put_last-requires c = end-has-room c.work_arrival-end.ensures.fed (arrival-room _ _)

pub returns : goal.returns
returns c =
    let a = c.args in
    let e = finish-as a.text.now a.set.now a.session (sym c.is_fit.ensures ∙ c.if-not-is_fit.false) c.end_input.ensures (ap (λ (x : Session). x.totals) c.new-w.ensures.same) in
    let r = put-after e c.work_arrival-end.ensures.fed (end-in _ c.session.ensures c.put_last.ensures) in
    record { value = r.0; out_after = r.1 }
