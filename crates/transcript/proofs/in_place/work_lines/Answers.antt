-- WorkLaws has the turn.
use Rattle.transcript.proofs.WorkLaws.{work-is, taken_in, end-within, set_out, going-full, going-lives, going-ends, going_on}
use Rattle.transcript.proofs.in_place.work_lines.Goals as goal

pub loop-at-init : goal.loop-at-init
loop-at-init c = record { going = set_out _ _ _ c.requires.1; beside = c.requires.0 }

pub slice_bounds-take_in_kept-end : goal.slice_bounds-take_in_kept-end
slice_bounds-take_in_kept-end c = end-within _ _ _ c.run_end-end.ensures c.loop-at.invariant.going.within

pub returns-then-input-end : goal.returns-then-input-end
returns-then-input-end c =
    let g = c.loop-at.invariant.going in
    work-is (going-ends g c.loop-at-test.true c.run_end-end.ensures (taken_in _ _ _ _ c.take_in_kept-w.ensures.value c.take_in_kept-w.ensures.text_after) c.if-input-end.true) g.put

pub line_end-at-requires : goal.line_end-at-requires
line_end-at-requires c =
    let g = c.loop-at.invariant.going in
    let k = c.loop-at.invariant.beside in
    let t = c.loop-at-test.true in
    (record { read = k.read; told = k.told; sized = k.sized }, (going-lives g t c.run_end-end.ensures (taken_in _ _ _ _ c.take_in_kept-w.ensures.value c.take_in_kept-w.ensures.text_after), t))

pub loop-at-preserved : goal.loop-at-preserved
loop-at-preserved c =
    record {
      going = going_on c.loop-at.invariant.going c.loop-at-test.true c.run_end-end.ensures (taken_in _ _ _ _ c.take_in_kept-w.ensures.value c.take_in_kept-w.ensures.text_after) c.if-input-end.false c.line_end-at.ensures.fed;
      beside = c.line_end-at.ensures.beside;
    }

pub returns : goal.returns
returns c = let g = c.loop-at.invariant.going in work-is (going-full g c.loop-at-test.false) g.put
