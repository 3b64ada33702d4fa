-- The input of synrun: set text, a line *, then one line a beat (document 01, "On both sides of each edge"). Definitions only.
use Rattle.std.specs.Prelude.{Bool, true, false, List, [], ◌∷◌, ◌++◌, ℕ}
use Rattle.text.specs.Byte.{bytes, LF}
use Rattle.text.specs.Word.{same_bytes}
use Rattle.text.specs.Lines.{text_lines, without_return}

-- the set text, and the beat lines
pub record Input : Type 0 where
  pub text : List ℕ
  pub beats : List (List ℕ)

-- the line *
abbrev pub is_star : List ℕ → Bool
is_star l = same_bytes l (bytes "*")

-- the lines behind the line *: they end as in set text; after a final LF there is none
unfoldable pub beat_lines : List (List ℕ) → List (List ℕ)
beat_lines [] = []
beat_lines ([] ∷ []) = []
beat_lines ((b ∷ l) ∷ []) = (b ∷ l) ∷ []
beat_lines (l ∷ m ∷ ls) = without_return l ∷ beat_lines (m ∷ ls)

-- a line of set text, with the LF that ended it, before what follows it
abbrev pub line_before : List ℕ → Input → Input
line_before l i = record { text = l ++ (LF ∷ i.text); beats = i.beats }

-- every byte before the first line * is set text; without such a line all input is
unfoldable pub cut : List (List ℕ) → Input
cut [] = record { text = []; beats = [] }
cut (l ∷ []) = elim (is_star l) [ true ↦ record { text = []; beats = [] } | false ↦ record { text = l; beats = [] } ]
cut (l ∷ m ∷ ls) = elim (is_star (without_return l)) [ true ↦ record { text = []; beats = beat_lines (m ∷ ls) } | false ↦ line_before l (cut (m ∷ ls)) ]

unfoldable pub input_of : List ℕ → Input
input_of t = cut (text_lines t)
