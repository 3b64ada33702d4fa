-- A byte and the digits behind it lead from the bytes that were left to those that are left.
use Rattle.std.proofs.Common.{◌≡◌, ap, ◌∙◌, ◌-◌, length, drop, take, take_all, length-drop, arith}
use Rattle.transcript.specs.declared.beat_line.HalfLine.{HalfLine}
use Rattle.transcript.specs.HalfLine.{read_on}
use Rattle.transcript.proofs.beat_line.HalfLine.read_bytes.Goals as goal

pub loop-b-preserved : goal.loop-b-preserved
unfolding read_on
loop-b-preserved c =
    let k = c.in-Some in
    let run = c.read_run-run in
    let t = k.behind.now in
    let n = run.result.count in
    let all : take (length t - n) (drop n t) ≡ drop n t = take_all _ _ (omega (arith, length-drop n t)) in
    rw all (run.ensures.half ∙ ap (λ (y : HalfLine). read_on y t) c.read_byte.ensures ∙ rw k.ensures.cases.0 at c.loop-b.invariant)
