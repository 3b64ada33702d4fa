-- An index inside lies below the last place.
use mathlib.Core.Path.{sym, ◌∙◌}
use native.Mathlib.Omega.{arith}
use Rattle.tokens.specs.IndexLaws.{last-inside}
use Rattle.working.specs.VariableLaws.{cell-inside}
use Rattle.working.proofs.variables.variable_value.Goals as goal

pub bounds-r-i : goal.bounds-r-i
bounds-r-i c = omega (arith, rw c.if-w-eq-R.true at (last-inside c.args.w c.args.i (sym c.is_inside.ensures ∙ c.if-not-is_inside.false)))

pub bounds-cells-cell_of : goal.bounds-cells-cell_of
bounds-cells-cell_of c = rw c.cell_of.ensures (cell-inside _ _ c.if-w-eq-R.false (sym c.is_fifo.ensures ∙ c.if-is_fifo.false) (sym c.is_inside.ensures ∙ c.if-not-is_inside.false))

pub offset_bounds-cells-cell_of : goal.offset_bounds-cells-cell_of
offset_bounds-cells-cell_of c = omega (arith, bounds-cells-cell_of c)
