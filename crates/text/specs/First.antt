-- The first token of some bytes, longest first: a word, a number or a sign (document 01, "Lines of text"). Definitions only.
use Rattle.std.specs.Prelude.{true, false, Option, None, Some, List, [], ◌∷◌, ℕ, zero, suc, ◌+◌, eqb, get_or, take, drop}
use Rattle.text.specs.declared.scan.First.{First}
use Rattle.text.specs.Byte.{POINT, is_digit, is_letter, starts_word, is_word_byte, run}
use Rattle.text.specs.Word.{pairs, singles, token_in, word_token}
use Rattle.text.specs.Number.{number_token}

-- the token t of n bytes; 0 is no token
abbrev pub found : ℕ → ℕ → Option First
found zero n = None
found (suc t) n = Some (record { token = suc t; size = n })

-- a first token and how many bytes it takes; 0 for none
abbrev pub token_of : Option First → ℕ
token_of None = 0
token_of (Some f) = f.token

abbrev pub size_of : Option First → ℕ
size_of None = 0
size_of (Some f) = f.size

-- ---- a word: a letter or $, then letters, digits, _

unfoldable pub word_first : List ℕ → Option First
word_first t = let n = 1 + run is_word_byte (drop 1 t) in found (word_token (take n t)) n

-- ---- a number: digits, or digits, point, digits, not directly followed by a letter

-- how many digits stand behind a point with which the bytes begin
unfoldable pub behind_point : List ℕ → ℕ
behind_point t = elim (eqb (get_or t 0 0) POINT) [ true ↦ run is_digit (drop 1 t) | false ↦ 0 ]

-- how many bytes a point and n digits take; none without a digit
abbrev pub with_point : ℕ → ℕ
with_point zero = 0
with_point (suc n) = suc (suc n)

-- n digits before the point, m behind it
unfoldable pub number_with : List ℕ → ℕ → ℕ → Option First
number_with t n m =
    elim (is_letter (get_or t (n + with_point m) 0)) [
      | true ↦ None
      | false ↦ found (number_token (take n t) (take m (drop (n + 1) t))) (n + with_point m)
    ]

unfoldable pub number_first : List ℕ → Option First
number_first t = let n = run is_digit t in number_with t n (behind_point (drop n t))

-- ---- a sign

-- one of two bytes, else of one
unfoldable pub sign_first : List ℕ → Option First
sign_first t =
    elim (token_in pairs (take 2 t)) [
      | zero ↦ found (token_in singles (take 1 t)) 1
      | suc k ↦ found (suc k) 2
    ]

-- ---- which of them

unfoldable pub first_token : List ℕ → Option First
first_token [] = None
first_token (b ∷ bs) =
    elim (starts_word b) [
      | true ↦ word_first (b ∷ bs)
      | false ↦ elim (is_digit b) [ true ↦ number_first (b ∷ bs) | false ↦ sign_first (b ∷ bs) ]
    ]
