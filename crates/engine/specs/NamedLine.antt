-- The line that a call of the host names (document 01, "A beat" and "Codes"): its rank, or the code that refuses it. Definitions only.
use Rattle.std.specs.Prelude.{Bool, true, false, List, ℕ, ltb, get_or, Result, Ok, Err}
use Rattle.values.specs.Codes.{unsound, unknown_line}
use Rattle.engine.specs.Set.{rank_in, lines_of}
use Rattle.engine.specs.declared.state.State.{State}
use Rattle.engine.specs.Sound.{is_sound}

-- the line that a call names, by its rank: 22, then 40 for a line not in the set or cancelled
unfoldable pub found_at : ℕ → List Bool → ℕ → Result ℕ ℕ
found_at count cancelled k =
    elim (ltb k count) [
      | true ↦ elim (get_or cancelled k false) [ true ↦ Err unknown_line | false ↦ Ok k ]
      | false ↦ Err unknown_line
    ]

unfoldable pub found : List ℕ → State → ℕ → Result ℕ ℕ
found s st n =
    elim (is_sound s st) [
      | true ↦ found_at (lines_of s).count st.cancelled (rank_in (lines_of s).numbers n 0)
      | false ↦ Err unsound
    ]
