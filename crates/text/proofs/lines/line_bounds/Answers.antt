-- `lines::line_bounds`: what is kept of the line is the line, or the line without a CR; LinesLaws has the laws.
use Rattle.std.proofs.Common.{ap, ◌∙◌, List, ℕ, Bor, ◌≤◌, ◌-◌, length, drop, length-take, arith}
use Rattle.text.specs.Byte.{in_line}
use Rattle.text.specs.ByteLaws.{run_fits}
use Rattle.text.specs.LinesLaws.{bounds-none, bounds-last, bounds-more, kept-fits, return-within, line}
use Rattle.text.proofs.lines.line_bounds.Goals as goal
use Rattle.text.proofs.lines.line_bounds.Goals.{then-end-text, else-end-text}

pub returns-then-text-at : goal.returns-then-text-at
returns-then-text-at c = bounds-none c.args.text.now c.args.at c.if-text-at.true

pub slice_bounds-line-end : goal.slice_bounds-line-end
slice_bounds-line-end c = omega (arith, run_fits in_line c.args.text.now c.args.at (omega arith), c.run_end-end.ensures)

pub overflow_add-result : goal.overflow_add-result
overflow_add-result c =
    let t = c.args.text.now in
    let at = c.args.at in
    let e = c.run_end-end.result in
    let h = c.run_end-end.ensures in
    let k = c.if-end-text.kept.now in
    let w : length k ≤ length (line t at e h) =
    elim c.if-end-text.branch [
      | then-end-text w ↦ omega (arith, ap (λ (b : Bor (List ℕ)). length b.now) w.kept-is)
      | else-end-text w ↦ omega (arith, ap (λ (b : Bor (List ℕ)). length b.now) w.kept-is, ap (λ (l : List ℕ). length l) w.without_return-kept.ensures, return-within (line t at e h))
    ] in
    omega (arith, kept-fits t at k c.run_end-size.result c.run_end-size.ensures (omega arith) (omega (arith, w, length-take (e - at) (drop at t))))

pub returns : goal.returns
returns c =
    let t = c.args.text.now in
    let at = c.args.at in
    let e = c.run_end-end.result in
    let h = c.run_end-end.ensures in
    let k = c.if-end-text.kept.now in
    elim c.if-end-text.branch [
      | then-end-text w ↦ bounds-last t at e h k c.run_end-size.result c.run_end-size.ensures (omega arith) w.if-end-text.true (ap (λ (b : Bor (List ℕ)). b.now) w.kept-is)
      | else-end-text w ↦ bounds-more t at e h k c.run_end-size.result c.run_end-size.ensures (omega arith) w.if-end-text.false (ap (λ (b : Bor (List ℕ)). b.now) w.kept-is ∙ w.without_return-kept.ensures)
    ]
