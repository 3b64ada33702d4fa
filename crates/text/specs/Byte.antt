-- The kinds of bytes that a text is made of, and runs of one kind (document 01, "Lines of text"). Definitions only.
use Rattle.std.specs.Prelude.{Bool, true, false, not, ◌||◌, List, [], ◌∷◌, ℕ, suc, eqb}
use Prim.Native.Char.{code}
use Prim.Native.String.{String}
use Prim.Native.String.{[] as no_text, ◌∷◌ as ◌and◌}
use Rattle.tokens.specs.Token.{between}
use Rattle.text.specs.declared.bytes.Kind.{Kind}
use Rattle.text.specs.declared.bytes.Kind.TheVariants.{Digit, Word, Line, Body}

-- the bytes of a quoted text
abbrev pub bytes : String → List ℕ
bytes no_text = []
bytes (c and s) = code c ∷ bytes s

abbrev pub LF : ℕ
LF = 10

abbrev pub CR : ℕ
CR = 13

abbrev pub SPACE : ℕ
SPACE = 32

-- $
abbrev pub DOLLAR : ℕ
DOLLAR = 36

-- .
abbrev pub POINT : ℕ
POINT = 46

-- ; begins a comment
abbrev pub COMMENT : ℕ
COMMENT = 59

-- _
abbrev pub LOWLINE : ℕ
LOWLINE = 95

abbrev pub is_digit : ℕ → Bool
is_digit b = between 48 57 b

-- upper case
abbrev pub is_letter : ℕ → Bool
is_letter b = between 65 90 b

-- a letter or $
abbrev pub starts_word : ℕ → Bool
starts_word b = is_letter b || eqb b DOLLAR

-- letters, digits, _
abbrev pub is_word_byte : ℕ → Bool
is_word_byte b = is_letter b || (is_digit b || eqb b LOWLINE)

abbrev pub is_space : ℕ → Bool
is_space b = eqb b SPACE

-- no line ends there
abbrev pub in_line : ℕ → Bool
in_line b = not (eqb b LF)

-- no comment begins there
abbrev pub in_body : ℕ → Bool
in_body b = not (eqb b COMMENT)

-- what a kind says of a byte
abbrev pub kind_of : Kind → ℕ → Bool
kind_of Digit = is_digit
kind_of Word = is_word_byte
kind_of Line = in_line
kind_of Body = in_body

-- how many of the first bytes are of a kind
unfoldable pub run : (ℕ → Bool) → List ℕ → ℕ
run p [] = 0
run p (b ∷ bs) = elim (p b) [ true ↦ suc (run p bs) | false ↦ 0 ]
