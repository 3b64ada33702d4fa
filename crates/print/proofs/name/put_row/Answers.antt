-- `name::put_row`: the row's bytes before its first space are put.
use Rattle.std.proofs.Common.{◌≡◌, refl, sym, ap, ◌∙◌, ℕ, ◌+◌, ◌-◌, List, length, take, drop, length-take-le, arith}
use Rattle.values.specs.PutAt.{put_at}
use Rattle.values.specs.PutLaws.{put-past, put-none}
use Rattle.text.specs.ByteLaws.{run-within}
use Rattle.print.specs.NameRows.{no_space, solid_size, row_in}
use Rattle.print.proofs.name.put_row.Goals as goal

-- the bytes before the first space of a row that begins at p
solid-part : (t : List ℕ) (p w n : ℕ) → n ≡ solid_size (take (p + w - p) (drop p t)) → (n ≡ length (take n (take (p + w - p) (drop p t)))) × (take n (take (p + w - p) (drop p t)) ≡ row_in t w p)
unfolding row_in
solid-part t p w n e =
    let z : p + w - p ≡ w = omega arith in
    let r = run-within no_space (take w (drop p t)) in
    let f : n ≡ solid_size (take w (drop p t)) = rw z at e in
    rw (z, f) (sym (length-take-le (solid_size (take w (drop p t))) (take w (drop p t)) r), refl)

pub slice_bounds-name-end : goal.slice_bounds-name-end
slice_bounds-name-end c = (solid-part c.args.table.now c.args.start c.args.width c.solid_size.result c.solid_size.ensures).0

pub returns-then-out-at : goal.returns-then-out-at
returns-then-out-at c =
    let (a, b) = solid-part c.args.table.now c.args.start c.args.width c.solid_size.result c.solid_size.ensures in
    record { value = ap (λ (l : List ℕ). length l) b; out_after = sym (put-past (row_in c.args.table.now c.args.width c.args.start) c.args.out.now c.args.at c.if-out-at.true) }

pub returns : goal.returns
returns c =
    let (a, b) = solid-part c.args.table.now c.args.start c.args.width c.solid_size.result c.solid_size.ensures in
    let name = take c.solid_size.result (take (c.args.start + c.args.width - c.args.start) (drop c.args.start c.args.table.now)) in
    record { value = ap (λ (l : List ℕ). length l) b; out_after = sym (put-none name c.loop-i.out (c.args.at + c.loop-i.i) c.loop-i.i (omega arith)) ∙ c.loop-i.invariant ∙ ap (λ (l : List ℕ). put_at c.args.out.now c.args.at l) b }
