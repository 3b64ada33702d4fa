-- The set text as the code takes it in, and the line * that ends it. Definitions only.
use Rattle.std.specs.Prelude.{Bool, true, false, cond, List, [], ◌∷◌, ℕ, ◌+◌, min, eqb, length}
use Rattle.tokens.specs.Token.{text_size}
use Rattle.text.specs.Byte.{CR}
use Rattle.transcript.specs.declared.set_text.Place.{Place}
use Rattle.transcript.specs.declared.set_text.Star.{Star}
use Rattle.transcript.specs.declared.set_text.Star.TheVariants.{Empty, Alone, Return, Other}

-- the bytes of set text that are kept: one more than a text may have, so that a longer one is seen to be too long
abbrev pub kept_size : ℕ
kept_size = text_size + 1

-- before the first byte
abbrev pub no_place : Place
no_place = record { size = 0; start = 0; star = Empty }

-- what a line is with one more byte
unfoldable pub star_after : Star → ℕ → Star
star_after Empty b = cond (eqb b 42) Alone Other
star_after Alone b = cond (eqb b CR) Return Other
star_after _ b = Other

unfoldable pub star_on : Star → List ℕ → Star
star_on s [] = s
star_on s (b ∷ bs) = star_on (star_after s b) bs

-- whether a line is *
abbrev pub is_alone : Star → Bool
is_alone Alone = true
is_alone _ = false

-- whether a line that ends there is *, with or without a CR behind it
abbrev pub star_ends : Star → Bool
star_ends Alone = true
star_ends Return = true
star_ends _ = false

-- no more than is kept
abbrev pub place_kept : Place → Place
place_kept p = record { size = min kept_size p.size; start = p.start; star = p.star }

-- bytes of a line of set text
unfoldable pub place_on : Place → List ℕ → Place
place_on p l = record { size = min kept_size (p.size + length l); start = p.start; star = star_on p.star l }

-- its LF
unfoldable pub place_end : Place → Place
place_end p = record { size = min kept_size (p.size + 1); start = min kept_size (p.size + 1); star = Empty }

-- where the set text ends if its last line has no LF: before the line *, or behind all of it
abbrev pub last_size : Place → ℕ
last_size p = cond (is_alone p.star) p.start p.size
