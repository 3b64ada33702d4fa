-- Of a piece that is not used up a step takes something, and no more than there is; what it printed fits in the buffer; and it leads on from before it.
use Rattle.std.proofs.Common.{◌≡◌, ◌≤◌, ℕ, [], ap, length, not, sym, arith, length-take-le}
use Rattle.std.proofs.lemmas.Grind.{common_steps}
use lib.ListN.{length-replicate}
use Rattle.transcript.specs.Output.{out_size}
use Rattle.transcript.specs.Machine.{at_end}
use Rattle.transcript.specs.SessionAnswers.{machine_of}
use Rattle.piping.proofs.ProgramLaws.{written-room, no-more, some, step-leads}
use Rattle.piping.proofs.hand_over.Goals as goal

pub slice_bounds-out-end : goal.slice_bounds-out-end
slice_bounds-out-end g c = written-room _ _ c.step-x.ensures.value _ c.step-x.ensures.out_after (length-replicate {A = ℕ} out_size 0)

pub slice_bounds-write-end : goal.slice_bounds-write-end
slice_bounds-write-end g c =
    let h = written-room _ _ c.step-x.ensures.value _ c.step-x.ensures.out_after (length-replicate {A = ℕ} out_size 0) in
    sym (length-take-le _ _ h)

pub split_at-requires : goal.split_at-requires
split_at-requires g c = no-more _ _ c.step-x.ensures.value

pub loop-rest-smaller : goal.loop-rest-smaller
loop-rest-smaller g c =
    let h : 1 ≤ length c.loop-rest.rest.now = grind (arith, common_steps) in
    let q = some (machine_of c.loop-rest.text c.loop-rest.set c.loop-rest.session) c.loop-rest.rest.now c.step-x.ensures.value h in
    omega (arith, c.split_at.ensures.back_len)

pub loop-rest-preserved : goal.loop-rest-preserved
loop-rest-preserved g c x l =
    c.loop-rest.invariant x (step-leads (machine_of c.loop-rest.text c.loop-rest.set c.loop-rest.session) c.loop-rest.rest.now c.step-x.ensures.value x c.step-x.ensures.text_after c.step-x.ensures.set_after (rw c.split_at.ensures.back at l))

pub returns : goal.returns
returns g c =
    let e : c.loop-rest.rest.now ≡ [] = grind (arith, common_steps) in
    record { leads_to = c.loop-rest.invariant _ (rw e (at_end (machine_of c.loop-rest.text c.loop-rest.set c.loop-rest.session))); more_value = ap not c.is_over.ensures }
