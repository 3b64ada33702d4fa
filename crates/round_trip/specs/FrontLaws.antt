-- Laws of the tokens of a line before its end, and of those of a definition: they are the row where it stands, and with changed numbers, without marks and read back they are those of the changed one.
-- Nothing is assumed.
use Rattle.std.specs.Prelude.{◌≡◌, List, [], ◌∷◌, map, ℕ, ◌+◌}
use Rattle.std.proofs.Math.Path.{sym, ap}
use Rattle.std.proofs.Common.{◌∙◌, arith}
use Rattle.std.proofs.lemmas.List.{map-append}
use Rattle.tokens.specs.Token.{END}
use Rattle.grammar.specs.Tree.{Line, line_tokens, Definition, definition_front}
use Rattle.grammar.specs.Meaning.{Stands}
use Rattle.grammar.specs.ClosedTokens.{Closed, front, front-end, front-closed, definition-closed}
use Rattle.grammar.specs.NumbersTo.{token_to, numbers_to, definition_to}
use Rattle.grammar.specs.NumbersToLaws.{Keeps, to-tokens, to-definition-tokens}
use Rattle.grammar.specs.TreeOfLaws.{written-front}
use Rattle.engine.specs.Set.{without_mark, with_end}
use Rattle.loading.specs.Unmarked.{unmarked, unmarked_tree}
use Rattle.loading.specs.UnmarkedLaws.{unmarked-keeps, without-marks}
use Rattle.print.specs.PrintText.{row_at}
use Rattle.print.specs.PrintLaws.{row_ends, row_goes}
use Rattle.print.specs.ReadBack.{read_back}
use Rattle.round_trip.specs.MarkLaws.{remarked, remarked-keeps, back_to}

-- ---- changed

module _ (f : ℕ → ℕ) (keeps : Keeps f) where
  front-to : (x : Line) → map (token_to f) (front x) ≡ front (numbers_to f x)
  unfolding token_to
  front-to x =
      sym (written-front (numbers_to f x) (map (token_to f) (front x))
      (sym (sym (map-append (token_to f) (front x) (END ∷ [])) ∙ ap (map (token_to f)) (sym (front-end x)) ∙ to-tokens f keeps x)))

-- without marks
pub front-unmarked : (x : Line) → map without_mark (front x) ≡ front (unmarked_tree x)
front-unmarked x = without-marks (front x) ∙ front-to unmarked unmarked-keeps x

-- read back
pub front-back : (x : Line) → map read_back (front x) ≡ front (numbers_to remarked x)
front-back x = back_to (front x) ∙ front-to remarked remarked-keeps x

pub definition-back : (d : Definition) → map read_back (definition_front d) ≡ definition_front (definition_to remarked d)
definition-back d = back_to (definition_front d) ∙ to-definition-tokens remarked remarked-keeps d

-- ---- where it stands

closed-row : (s l : List ℕ) (p q : ℕ) → Closed l → Stands s p (with_end l) q → row_at s p ≡ l
closed-row s [] p q c h = row_ends s p h.0
closed-row s (t ∷ l) p q c h =
    let z = c.0 in
    let e = h.0 in
    row_goes s p (λ n. omega arith) ∙ rw (e, closed-row s l (p + 1) q c.2 h.1)

-- A ROW IS THE TOKENS OF THE LINE that stands there
pub row-front : (s : List ℕ) (x : Line) (p q : ℕ) → Stands s p (line_tokens x) q → row_at s p ≡ front x
row-front s x p q h = closed-row s (front x) p q (front-closed x) (rw (front-end x) at h)

pub row-definition : (s : List ℕ) (d : Definition) (p q : ℕ) → Stands s p (with_end (definition_front d)) q → row_at s p ≡ definition_front d
row-definition s d p q h = closed-row s (definition_front d) p q (definition-closed d) h
