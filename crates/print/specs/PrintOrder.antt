-- The rows of a set as the code goes through them: the slots of the curves, then those of the lines, one behind the other, and what it puts at each. Definitions only.
use Rattle.std.specs.Prelude.{Bool, true, false, ◌||◌, List, [], ◌∷◌, ℕ, zero, suc, ◌+◌, ◌-◌, ltb, leb, get_or}
use Rattle.tokens.specs.Token.{max_curves}
use Rattle.engine.specs.Set.{start_place, curve_place}
use Rattle.text.specs.Byte.{LF}
use Rattle.print.specs.TokenText.{line_text}
use Rattle.print.specs.PrintText.{row_at, behind_text, rows_text}

-- the slot k of the print
unfoldable pub slot_at : ℕ → ℕ
slot_at k = elim (ltb k max_curves) [ true ↦ curve_place (k + 1) | false ↦ start_place (k - max_curves) ]

-- where its row begins
abbrev pub slot_start : List ℕ → ℕ → ℕ
slot_start s k = get_or s (slot_at k) 0

-- whether the set has one: a line always, a curve if it begins somewhere
unfoldable pub has_row : List ℕ → ℕ → Bool
has_row s k = leb max_curves k || ltb 0 (slot_start s k)

-- the rows of m slots from slot k on
unfoldable pub slot_rows : List ℕ → ℕ → ℕ → List (List ℕ)
slot_rows s zero k = []
slot_rows s (suc m) k = elim (has_row s k) [ true ↦ row_at s (slot_start s k) ∷ slot_rows s m (k + 1) | false ↦ slot_rows s m (k + 1) ]

-- rows, behind others or first
abbrev pub rows_behind : Bool → List (List ℕ) → List ℕ
rows_behind b rs = elim b [ true ↦ behind_text rs | false ↦ rows_text rs ]

-- the row that begins at a place, behind others or first
unfoldable pub row_behind : List ℕ → Bool → ℕ → List ℕ
row_behind s b p = elim b [ true ↦ LF ∷ line_text (row_at s p) | false ↦ line_text (row_at s p) ]

-- what is put for slot k
unfoldable pub slot_text : List ℕ → Bool → ℕ → List ℕ
slot_text s b k = elim (has_row s k) [ true ↦ row_behind s b (slot_start s k) | false ↦ [] ]
