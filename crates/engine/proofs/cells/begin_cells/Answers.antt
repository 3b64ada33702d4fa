-- CellLaws puts the parts together.
use Rattle.std.proofs.Common.{◌≡◌, ℤ, ℕ, List, ◌+◌, ◌++◌, take, drop, length, refl, ap, ◌∙◌}
use borrow.Rule.Slice.PartMut.{put_mid}
use lib.Seq.{drop-drop}
use Rattle.engine.specs.InputLaws.{length-inputs}
use Rattle.engine.specs.Timers.{grown_cells}
use Rattle.engine.specs.Cells.{input_cells, beat_cells}
use Rattle.engine.proofs.CellLaws.{all-behind, replaced, begun}
use Rattle.engine.proofs.cells.begin_cells.Goals as goal

-- a part of k cells from place a on is what was copied to it
copied : (a k : ℕ) (d ys zs : List ℤ) → ys ≡ zs → length zs ≡ k → put_mid a k d ys ≡ take a d ++ (zs ++ drop (a + length zs) d)
copied a k d ys zs e n = rw (e, n) (ap (λ (l : List ℤ). take a d ++ (zs ++ l)) (drop-drop k a d))

pub returns : goal.returns
unfolding beat_cells
returns c =
    let a = c.args in
    let d = a.cells.now in
    let w = put_mid 30 92 d c.grow_timers.new.cells in
    let e = replaced d c.grow_timers.new.cells w c.requires.0 refl ∙ c.grow_timers.ensures ∙ ap (λ (l : List ℤ). grown_cells a.runs.now l 8) (all-behind d c.requires.0) in
    let x = c.put_inputs.new.cells in
    begun (input_cells a.word 16) a.values.now a.lent.now (grown_cells a.runs.now (drop 30 d) 8) w x _ _ (length-inputs a.word 16) c.requires.1.0 c.requires.1.1 e c.put_inputs.ensures
    (copied 16 8 x _ _ c.copy_from_slice.ensures.after c.requires.1.0) (copied 24 6 _ _ _ c.copy_from_slice-2.ensures.after c.requires.1.1)
