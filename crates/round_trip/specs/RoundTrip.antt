-- What the theorems over print and load speak of (document 02, Req 01): when two sets are the same, and when a text passes each loading check but that of its length. Definitions only.
use Rattle.std.specs.Prelude.{◌≡◌, List, map, ℕ, ◌≤◌, length}
use Rattle.tokens.specs.Token.{max_lines}
use Rattle.grammar.specs.Tree.{Line, tree_number, Definition}
use Rattle.engine.specs.Set.{without_mark}
use Rattle.text.specs.Lines.{token_lines}
use Rattle.loading.specs.TextTrees.{Distinct, curve_number, GoodText, AllNameOnly, AllUseOnly}
use Rattle.print.specs.PrintText.{rows_of}

-- the curves of a set by number and its lines by rising number, each a row of tokens, numbers without the mark of a written point: their values count, not how they were written
abbrev pub unmarked_rows : List ℕ → List (List ℕ)
unmarked_rows s = map (map without_mark) (rows_of s)

-- the same set: as many curves and lines, and row by row the same tokens
abbrev pub SameRows : List ℕ → List ℕ → Type 0
SameRows s u = unmarked_rows s ≡ unmarked_rows u

-- the text t passes each loading check from 2 on, as the definitions ds and the lines xs of the grammar: 2, 3 to 10, 13 and 14 in each line, 11, 12
pub record Passes (t : List ℕ) (ds : List Definition) (xs : List Line) : Type 0 where
  pub few : length (token_lines t) ≤ max_lines
  pub good : GoodText (token_lines t) ds xs
  pub distinct : Distinct (map tree_number xs)
  pub apart : Distinct (map curve_number ds)
  pub uses : AllUseOnly (map curve_number ds) xs
  pub named : AllNameOnly (map tree_number xs) xs
