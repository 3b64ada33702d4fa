-- A list written into an array from a place on: tokens into a set, bytes into a buffer. Definitions only.
use Rattle.std.specs.Prelude.{◌≡◌, List, [], ◌∷◌, ℕ, ◌+◌, length, set}

-- what would lie past the end is left off
abbrev pub put_at : List ℕ → ℕ → List ℕ → List ℕ
put_at s p [] = s
put_at s p (x ∷ l) = put_at (set s p x) (p + 1) l

-- a text is put into a buffer at a place; the place behind it is `end`
pub record IsPut (buffer : List ℕ) (at : ℕ) (text exit : List ℕ) (end : ℕ) : Type 0 where
  pub put : exit ≡ put_at buffer at text
  pub behind : end ≡ at + length text
