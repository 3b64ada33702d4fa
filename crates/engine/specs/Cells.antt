-- The cells of a beat: those of its inputs, then those of the state, whose running timers have grown. Definitions only.
use Rattle.std.specs.Prelude.{Bool, cond, List, [], ◌∷◌, ◌++◌, ℕ, zero, suc, ◌/◌, ◌%◌, ◌^◌, eqb, ℤ, pos, replicate}
use Rattle.values.specs.Value.{unit}
use Rattle.working.specs.Variables.{timer_count, bit_count, input_count}
use Rattle.engine.specs.Timers.{grown_cells}

-- bit i-1 of the input word is $A_IN[i]
abbrev pub input_cell : ℕ → ℕ → ℤ
input_cell word i = cond (eqb (word / 2 ^ i % 2) 1) (pos unit) (pos 0)

unfoldable pub input_cells : ℕ → ℕ → List ℤ
input_cells word zero = []
input_cells word (suc n) = input_cells word n ++ (input_cell word n ∷ [])

-- the cells of a beat: inputs, analogues, positions, the state's cells with the timers grown
unfoldable pub beat_cells : ℕ → List ℤ → List ℤ → List Bool → List ℤ → List ℤ
beat_cells word values lent runs c = input_cells word bit_count ++ (values ++ (lent ++ grown_cells runs c timer_count))

-- the cells of a state, ready for a beat: behind input cells that are 0
unfoldable pub spread_cells : List ℤ → List ℤ
spread_cells c = replicate input_count (pos 0) ++ c
