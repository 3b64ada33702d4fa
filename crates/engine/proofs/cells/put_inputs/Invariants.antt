-- The first i inputs are put, and the rest of the word holds the others.
use Rattle.std.proofs.Common.{◌≡◌, ◌++◌, ◌/◌, ◌^◌, drop}
use Rattle.engine.specs.Cells.{input_cells}
use Rattle.engine.proofs.cells.put_inputs.Given as goal

abbrev pub invariant-loop-i : goal.invariant-loop-i
invariant-loop-i l = record { put : l.cells ≡ input_cells l.word l.i ++ drop l.i l.initial.cells; rest : l.rest ≡ l.word / 2 ^ l.i }
