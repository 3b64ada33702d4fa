-- Laws of a beat's inputs: how many cells the input word gives, and how many positions are taken.
use Rattle.std.specs.Prelude.{◌≡◌, refl, true, List, ℕ, zero, suc, ℤ, length}
use Rattle.std.proofs.Common.{arith, eqb-true, length-append}
use Rattle.values.specs.Choice.{both}
use Rattle.working.specs.Variables.{position_count}
use Rattle.engine.specs.Cells.{input_cells}
use Rattle.engine.specs.Beat.{are_inputs}

pub length-inputs : (word n : ℕ) → length (input_cells word n) ≡ n
unfolding input_cells
length-inputs word zero = refl
length-inputs word (suc n) = simp (length-append, length-inputs word n) (omega arith)

pub inputs-length : (lent : List ℤ) → are_inputs lent ≡ true → length lent ≡ position_count
unfolding are_inputs
inputs-length lent h = eqb-true _ _ (both _ _ h).0
