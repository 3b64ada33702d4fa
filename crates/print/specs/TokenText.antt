-- How a token is written, and the tokens of a line (document 02, Req 01): numbers without needless zeros, and a space only where two tokens would otherwise not read as they stand. Definitions only.
use Rattle.std.specs.Prelude.{Bool, true, false, not, ◌&&◌, ◌||◌, List, [], ◌∷◌, ◌++◌, ℕ, ◌+◌, ◌/◌, ◌%◌, eqb, leb}
use Rattle.values.specs.Value.{unit}
use Rattle.tokens.specs.Token.{EQUALS, SAME, LESS, MORE, ATLEAST, ID, COMMA, between, is_number, is_variable, number_carried, thousandths}
use Rattle.text.specs.Byte.{SPACE, POINT}
use Rattle.text.specs.Word.{names, name_in}
use Rattle.text.specs.Digits.{decimal}

-- ---- a number

abbrev pub digit : ℕ → ℕ
digit d = 48 + d

-- so many thousandths below a unit, as digits behind the point, with no 0 at the end
unfoldable pub part_digits : ℕ → List ℕ
part_digits f =
    elim (eqb (f % 100) 0) [
      | true ↦ digit (f / 100) ∷ []
      | false ↦
          elim (eqb (f % 10) 0) [
            | true ↦ digit (f / 100) ∷ digit (f / 10 % 10) ∷ []
            | false ↦ digit (f / 100) ∷ digit (f / 10 % 10) ∷ digit (f % 10) ∷ []
          ]
    ]

-- the point and the digits behind it; nothing where there is no fraction
unfoldable pub part_text : ℕ → List ℕ
part_text f = elim (eqb f 0) [ true ↦ [] | false ↦ POINT ∷ part_digits f ]

-- so many thousandths as a number of units
unfoldable pub number_text : ℕ → List ℕ
number_text n = decimal (n / unit) ++ part_text (n % unit)

-- ---- a token

-- the name of a word or a sign, from the table by which it is read
unfoldable pub name_text : ℕ → List ℕ
name_text t = name_in names t

unfoldable pub token_text : ℕ → List ℕ
token_text t = elim (is_number t) [ true ↦ number_text (thousandths (number_carried t)) | false ↦ name_text t ]

-- ---- two tokens side by side

-- a word or a number: letters and digits would go on with it; the tokens below ID are signs, and , is one
abbrev pub goes_on : ℕ → Bool
goes_on t = leb ID t && not (eqb t COMMA)

-- it begins with a letter or a digit: no sign, and no variable, which begins with $
abbrev pub is_following : ℕ → Bool
is_following t = goes_on t && not (is_variable t)

-- a sign with which another may be read: = < or >
abbrev pub is_opening : ℕ → Bool
is_opening t = eqb t EQUALS || (eqb t LESS || eqb t MORE)

-- a sign and the one behind it that would be read as one, or as others: = < or > before = or ==, and < before > or >=
abbrev pub is_one_sign : ℕ → ℕ → Bool
is_one_sign t u = (is_opening t && between EQUALS SAME u) || (eqb t LESS && (eqb u MORE || eqb u ATLEAST))

-- without a space they would not read as they stand
unfoldable pub needs_space : ℕ → ℕ → Bool
needs_space t u = (goes_on t && is_following u) || is_one_sign t u

-- what is written between them
unfoldable pub gap : ℕ → ℕ → List ℕ
gap t u = elim (needs_space t u) [ true ↦ SPACE ∷ [] | false ↦ [] ]

-- ---- a line

unfoldable pub line_text : List ℕ → List ℕ
line_text [] = []
line_text (t ∷ []) = token_text t
line_text (t ∷ u ∷ ts) = token_text t ++ (gap t u ++ line_text (u ∷ ts))
