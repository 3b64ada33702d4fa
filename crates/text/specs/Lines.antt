-- The lines of a text, and what of each is looked at (document 01, "Lines of text"). Definitions only.
use Rattle.std.specs.Prelude.{Bool, true, false, ◌&&◌, List, [], ◌∷◌, ℕ, suc, ◌+◌, eqb, ltb, length, take}
use Rattle.text.specs.declared.lines.Bounds.{Bounds}
use Rattle.text.specs.Byte.{LF, CR, is_space, in_line, in_body, run}

-- a byte before the first of some parts
abbrev pub before : ℕ → List (List ℕ) → List (List ℕ)
before b [] = (b ∷ []) ∷ []
before b (l ∷ ls) = (b ∷ l) ∷ ls

-- the parts of some bytes: each ends at a byte e, and the last with the bytes
unfoldable pub split : ℕ → List ℕ → List (List ℕ)
split e [] = [] ∷ []
split e (b ∷ bs) = elim (eqb b e) [ true ↦ [] ∷ split e bs | false ↦ before b (split e bs) ]

-- lines end at LF; the last ends with the text
abbrev pub text_lines : List ℕ → List (List ℕ)
text_lines t = split LF t

-- a CR at the end is dropped
unfoldable pub without_return : List ℕ → List ℕ
without_return [] = []
without_return (b ∷ []) = elim (eqb b CR) [ true ↦ [] | false ↦ b ∷ [] ]
without_return (b ∷ c ∷ bs) = b ∷ without_return (c ∷ bs)

-- from ; to the end of the line is comment
unfoldable pub without_comment : List ℕ → List ℕ
without_comment l = take (run in_body l) l

-- the bodies of lines: without comment, and without a CR where an LF stood behind it, so not on the last line
unfoldable pub bodies : List (List ℕ) → List (List ℕ)
bodies [] = []
bodies (l ∷ []) = without_comment l ∷ []
bodies (l ∷ m ∷ ls) = without_comment (without_return l) ∷ bodies (m ∷ ls)

-- the body of the first line of a text
unfoldable pub first_body : List ℕ → List ℕ
first_body t =
    elim (ltb (run in_line t) (length t)) [
      | true ↦ without_comment (without_return (take (run in_line t) t))
      | false ↦ without_comment t
    ]

-- where the first line of a text ends, and where its body does, if the text begins at a place
unfoldable pub bounds_at : ℕ → List ℕ → Bounds
bounds_at at t = record { end = at + run in_line t; body = at + length (first_body t) }

-- only spaces
unfoldable pub is_blank : List ℕ → Bool
is_blank [] = true
is_blank (b ∷ bs) = is_space b && is_blank bs

-- a line with tokens: its number in the text, from 1, and its body
pub record Numbered : Type 0 where
  pub place : ℕ
  pub body : List ℕ

-- those of some bodies, numbered from k on with the skipped ones
unfoldable pub numbered : ℕ → List (List ℕ) → List Numbered
numbered k [] = []
numbered k (b ∷ bs) = elim (is_blank b) [ true ↦ numbered (suc k) bs | false ↦ record { place = k; body = b } ∷ numbered (suc k) bs ]

-- the lines with tokens of a text
unfoldable pub token_lines : List ℕ → List Numbered
token_lines t = numbered 1 (bodies (text_lines t))
