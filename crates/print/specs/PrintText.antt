-- The print of a loaded set (document 02, Req 01 and Req 03): its rows, curves first, LF between them and none at the end; and what the call answers and writes. Definitions only.
use Rattle.std.specs.Prelude.{true, false, Result, Ok, Err, is_some, ◌||◌, List, [], ◌∷◌, ◌++◌, ℕ, zero, suc, ◌+◌, eqb, ltb, length, drop}
use Rattle.values.specs.Codes.{unsound, short_print}
use Rattle.tokens.specs.Token.{END, max_curves, text_size}
use Rattle.engine.specs.Set.{start_of, curve_start, sound_lines, lines_of}
use Rattle.text.specs.Byte.{LF}
use Rattle.print.specs.TokenText.{line_text}

-- ---- the rows of a set, in the order of the print

-- the tokens before the first end of a line
unfoldable pub up_to_end : List ℕ → List ℕ
up_to_end [] = []
up_to_end (t ∷ ts) = elim (eqb t END) [ true ↦ [] | false ↦ t ∷ up_to_end ts ]

-- the tokens of the row that begins at a place
abbrev pub row_at : List ℕ → ℕ → List ℕ
row_at s p = up_to_end (drop p s)

-- m numbered lines from rank k on; ranks go by rising number
unfoldable pub line_rows : List ℕ → ℕ → ℕ → List (List ℕ)
line_rows s zero k = []
line_rows s (suc m) k = row_at s (start_of s k) ∷ line_rows s m (k + 1)

-- of m curves from curve n on the lines that define them, where the set has them
unfoldable pub curve_rows : List ℕ → ℕ → ℕ → List (List ℕ)
curve_rows s zero n = []
curve_rows s (suc m) n = elim (ltb 0 (curve_start s n)) [ true ↦ row_at s (curve_start s n) ∷ curve_rows s m (n + 1) | false ↦ curve_rows s m (n + 1) ]

-- the curves by rising number, then the lines by rising number
unfoldable pub rows_of : List ℕ → List (List ℕ)
rows_of s = curve_rows s max_curves 1 ++ line_rows s (lines_of s).count 0

-- ---- the print

-- rows behind others: an LF before each
unfoldable pub behind_text : List (List ℕ) → List ℕ
behind_text [] = []
behind_text (r ∷ rs) = LF ∷ (line_text r ++ behind_text rs)

-- rows, LF between them and none at the end
unfoldable pub rows_text : List (List ℕ) → List ℕ
rows_text [] = []
rows_text (r ∷ rs) = line_text r ++ behind_text rs

unfoldable pub print_text : List ℕ → List ℕ
print_text s = rows_text (rows_of s)

-- ---- the call, on a set and a buffer

-- 22 first, then 24 for a buffer under 4,096 bytes or too short for the print; else how many bytes the print has
unfoldable pub print_answer : List ℕ → List ℕ → Result ℕ ℕ
print_answer s b =
    elim (is_some (sound_lines s)) [
      | false ↦ Err unsound
      | true ↦
          elim (ltb (length b) text_size || ltb (length b) (length (print_text s))) [
            | true ↦ Err short_print
            | false ↦ Ok (length (print_text s))
          ]
    ]

-- the print at the buffer's start, and the bytes behind it as they were; refused, nothing is written
unfoldable pub print_buffer : List ℕ → List ℕ → List ℕ
print_buffer s b = elim (print_answer s b) [ Ok n ↦ print_text s ++ drop (length (print_text s)) b | Err code ↦ b ]
