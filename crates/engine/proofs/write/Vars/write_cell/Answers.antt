-- An index inside lies below the last cell, and that of a timer below the last timer.
use Rattle.std.proofs.Common.{◌≡◌, ℕ, ◌<◌, arith, true, false}
use Rattle.tokens.specs.Token.{R, is_fifo}
use Rattle.tokens.specs.Index.{is_inside}
use Rattle.tokens.specs.IndexLaws.{last-inside}
use Rattle.working.specs.Variables.{cell_count, cell_of}
use Rattle.working.specs.VariableLaws.{cell-inside}
use Rattle.engine.proofs.write.Vars.write_cell.Goals as goal

cell_fits : (w i : ℕ) → (is_inside w i ≡ true) × ((is_fifo w ≡ false) × (w ≡ R → ⊥)) → {n : ℕ} → n ≡ cell_of w i → n < cell_count
cell_fits w i h e = rw e (cell-inside w i h.1.1 h.1.0 h.0)

pub offset_bounds-self-at : goal.offset_bounds-self-at
offset_bounds-self-at c = omega (arith, cell_fits _ _ c.requires c.cell_of-at.ensures)

pub bounds-self-at : goal.bounds-self-at
bounds-self-at c = cell_fits _ _ c.requires c.cell_of-at.ensures

pub write_timer-requires : goal.write_timer-requires
write_timer-requires c = (cell_fits _ _ c.requires c.cell_of-at.ensures, omega (arith, rw c.if-w-eq-TIMER.true at (last-inside _ _ c.requires.0)))
