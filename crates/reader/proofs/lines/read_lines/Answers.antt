-- `lines::read_lines` meets its contract; EachLineLaws and TokenLineLaws have the turn of the loop.
use borrow.Author.Rules.{rules}
use native.Mathlib.Omega.{arith}
use mathlib.Core.List.{List, [], ◌∷◌}
use mathlib.Core.Path.{◌≡◌, refl, sym, ap, subst, ◌∙◌}
use Prim.Native.Nat.{ℕ, ◌+◌, ◌-◌}
use lib.ListN.{length, take, drop}
use Rattle.std.specs.Prelude.{Ok, Err}
use Rattle.std.proofs.lemmas.Result.{err_from_is_err_and}
use Rattle.engine.specs.Set.{empty_set}
use Rattle.text.specs.Lines.{text_lines, bodies, first_body, numbered, token_lines}
use Rattle.reader.specs.Row.{nothing}
use Rattle.reader.specs.Load.{Outcome, rows_from}
use Rattle.reader.specs.Draft.{no_draft, rows_at, curves_at, kept_in, Held, Says}
use Rattle.reader.proofs.TokenLineLaws.{lines_none, line-inside, part-is, lines_step}
use Rattle.reader.proofs.EachLineLaws.{none-held, first_count, line-refused, line-taken, line-next, line-stop}
use Rattle.reader.proofs.lines.read_lines.Goals as goal

pub loop-i-init : goal.loop-i-init
unfolding token_lines rows_from rows_at curves_at empty_set
loop-i-init c =
    let p = c.requires in
    let few = p.1 in
    rw p.4 (record { all = refl; held = subst (λ (x : List ℕ). Held x no_draft) (sym p.2) none-held; empty = p.3; few = omega arith; room = omega arith; behind = omega arith; within = omega arith })

pub slice_bounds-take_line-count : goal.slice_bounds-take_line-count
slice_bounds-take_line-count c = let g = line-inside c.args.text.now c.loop-i.i _ c.line_bounds-b.ensures (omega arith) in g.0

pub slice_bounds-take_line-start : goal.slice_bounds-take_line-start
slice_bounds-take_line-start c = let g = line-inside c.args.text.now c.loop-i.i _ c.line_bounds-b.ensures (omega arith) in search rules

pub slice_bounds-take_line-end : goal.slice_bounds-take_line-end
slice_bounds-take_line-end c = let g = line-inside c.args.text.now c.loop-i.i _ c.line_bounds-b.ensures (omega arith) in search rules

pub take_line-requires : goal.take_line-requires
take_line-requires c =
    let text = c.args.text.now in
    let v = c.loop-i.invariant in
    let body = first_body (drop c.loop-i.i text) in
    let behind = bodies (text_lines (drop (c.line_bounds-b.result.end + 1) text)) in
    let g = line-inside text c.loop-i.i _ c.line_bounds-b.ensures (omega arith) in
    let is_body : take (c.line_bounds-b.result.body - c.loop-i.i) (drop c.loop-i.i text) ≡ body = part-is text c.loop-i.i _ c.line_bounds-b.ensures in
    let e = ap length (lines_step text c.loop-i.i _ c.line_bounds-b.ensures c.loop-i.k) in
    let f = first_count c.loop-i.k body behind in
    let n = ap length is_body in
    let few = v.few in
    rw is_body (v.held, v.empty, omega arith, omega arith)

pub returns-in_err-at_line : goal.returns-in_err-at_line
returns-in_err-at_line c =
    let text = c.args.text.now in
    let k = c.loop-i.k in
    let kept = kept_in c.loop-i.s c.loop-i.d in
    let body = first_body (drop c.loop-i.i text) in
    let behind = bodies (text_lines (drop (c.line_bounds-b.result.end + 1) text)) in
    let is_body : take (c.line_bounds-b.result.body - c.loop-i.i) (drop c.loop-i.i text) ≡ body = part-is text c.loop-i.i _ c.line_bounds-b.ensures in
    let whole : rows_from kept (numbered k (body ∷ behind)) ≡ rows_from nothing (token_lines text) = ap (rows_from kept) (sym (lines_step text c.loop-i.i _ c.line_bounds-b.ensures k)) ∙ c.loop-i.invariant.all in
    let said : Says (rows_from kept (numbered k (body ∷ []))) c.take_line.new.s (Err c.in_err-at_line.field-0.0) = line-refused _ _ _ _ _ _ c.in_err-at_line.ensures (rw is_body at c.take_line.ensures.0) in
    let p = err_from_is_err_and c.from_residual.result c.from_residual.ensures.1 in
    (rw (p.1, p.2) (subst (λ (o : Outcome). Says o c.take_line.new.s (Err c.in_err-at_line.field-0.0)) whole (line-stop kept k body _ _ said behind)), c.take_line.ensures.1)

pub overflow_add-i : goal.overflow_add-i
overflow_add-i c = let g = line-inside c.args.text.now c.loop-i.i _ c.line_bounds-b.ensures (omega arith) in omega arith

pub loop-i-smaller : goal.loop-i-smaller
loop-i-smaller c = let g = line-inside c.args.text.now c.loop-i.i _ c.line_bounds-b.ensures (omega arith) in omega arith

pub loop-i-preserved : goal.loop-i-preserved
loop-i-preserved c =
    let text = c.args.text.now in
    let k = c.loop-i.k in
    let v = c.loop-i.invariant in
    let kept = kept_in c.loop-i.s c.loop-i.d in
    let body = first_body (drop c.loop-i.i text) in
    let behind = bodies (text_lines (drop (c.line_bounds-b.result.end + 1) text)) in
    let is_body : take (c.line_bounds-b.result.body - c.loop-i.i) (drop c.loop-i.i text) ≡ body = part-is text c.loop-i.i _ c.line_bounds-b.ensures in
    let step = lines_step text c.loop-i.i _ c.line_bounds-b.ensures k in
    let whole : rows_from kept (numbered k (body ∷ behind)) ≡ rows_from nothing (token_lines text) = ap (rows_from kept) (sym step) ∙ v.all in
    let said : Says (rows_from kept (numbered k (body ∷ []))) c.take_line.new.s (Ok c.take_line.new.d) = line-taken _ _ _ _ _ _ c.in_ok-at_line.ensures (rw is_body at c.take_line.ensures.0) in
    let g = line-next c.loop-i.s c.loop-i.d v.held k body c.take_line.new.s c.take_line.new.d said behind in
    let h = line-inside text c.loop-i.i _ c.line_bounds-b.ensures (omega arith) in
    let e = ap length step in
    let n = ap length is_body in
    let few = v.few in
    let r = g.2 in
    let q = g.3 in
    record { all = sym g.0 ∙ whole; held = g.1; empty = c.take_line.ensures.1; few = omega arith; room = omega arith; behind = omega arith; within = omega arith }

pub returns : goal.returns
unfolding token_lines rows_from rows_at curves_at empty_set
returns c =
    let v = c.loop-i.invariant in
    let e = ap (rows_from (kept_in c.loop-i.s c.loop-i.d)) (sym (lines_none c.args.text.now c.loop-i.i (omega arith) c.loop-i.k)) ∙ v.all in
    (subst (λ (o : Outcome). Says o c.loop-i.s (Ok c.loop-i.d)) e (refl, v.held), v.empty)
