-- `line_count::count_lines` meets its contract: in the loop those counted and those from place `i` on are all; TokenLineLaws has the turn.
use borrow.Author.Rules.{rules}
use borrow.Author.Tests.{not-true, not-false}
use native.Mathlib.Omega.{arith}
use mathlib.Core.Path.{◌≡◌, sym, ap, ◌∙◌}
use Prim.Native.Nat.{◌+◌, ◌-◌, ◌≤◌}
use lib.ListN.{length, drop}
use Rattle.text.specs.Lines.{text_lines, bodies, is_blank, numbered, token_lines}
use Rattle.reader.proofs.TokenLineLaws.{lines_none, line-inside, part-is, lines_step, count-blank, count-full}
use Rattle.reader.proofs.line_count.count_lines.Statement.{statement}
use Rattle.reader.proofs.line_count.count_lines.Tie as tie
use Rattle.reader.proofs.line_count.count_lines.Lts.{then-not-is_blank, else-not-is_blank}

abbrev invariant-loop : tie.invariant-loop-i
invariant-loop text n₀ i₀ n i = (n + length (numbered 1 (bodies (text_lines (drop i text)))) ≡ length (token_lines text)) × (n ≤ i) × (i ≤ length text + 1)

abbrev decreases-loop : tie.decreases-loop-i
decreases-loop text n₀ i₀ n i = length text + 1 - i

-- the line at hand stands in the text
inside : (c : tie.After-line_bounds-b invariant-loop decreases-loop) → let b = c.line_bounds-b.result in (c.loop-i.i ≤ b.body) × (b.body ≤ b.end) × (b.end ≤ length c.args.text.now)
inside c = let g = line-inside c.args.text.now c.loop-i.i _ c.line_bounds-b.ensures (omega arith) in (g.0, g.1, g.2)

pub count_lines_spec : {M : Type 1} → statement M
unfolding token_lines
count_lines_spec =
    tie.close
    (tie.spec
    invariant-loop
    decreases-loop
    (λ c. (omega arith, omega arith, omega arith))
    (λ c κs. search rules)
    (λ c. (inside c).0)
    (λ c. (inside c).0)
    (λ c. omega (arith, inside c))
    (λ c κs. search rules)
    (λ c. omega arith)
    (λ c. omega (arith, inside c.before.before.before.before))
    (λ c. omega (arith, inside c.before.before.before.before))
    (λ c.
    let l = c.before.before.before.before in
    let b = l.before.before in
    let t = b.args.text.now in
    let e = ap length (lines_step t b.loop-i.i _ l.line_bounds-b.ensures 1) in
    let p = ap is_blank (sym (part-is t b.loop-i.i _ l.line_bounds-b.ensures)) ∙ sym c.is_blank.ensures in
    let g = inside l in
    elim c.if-not-is_blank.branch [
      | then-not-is_blank w ↦ let f = e ∙ count-full _ _ (p ∙ not-true _ w.if-not-is_blank.true-raw) in (omega arith, omega arith, omega arith)
      | else-not-is_blank w ↦ let f = e ∙ count-blank _ _ (p ∙ not-false _ w.if-not-is_blank.false-raw) in (omega arith, omega arith, omega arith)
    ])
    (λ c. let b = c.before in let e = ap length (lines_none b.args.text.now b.loop-i.i (omega arith) 1) in omega arith))
