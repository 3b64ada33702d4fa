-- The token of a number: digits, or digits, point, digits (document 01, "Lines of text"). Definitions only.
use Rattle.std.specs.Prelude.{Bool, true, false, ◌&&◌, Option, None, Some, List, [], ◌∷◌, ℕ, ◌+◌, ◌-◌, ◌*◌, ◌^◌, leb, length}
use Rattle.values.specs.Value.{unit, top}
use Rattle.tokens.specs.Token.{NUMBER}

-- the value of digits behind others of the value n
abbrev pub digits_value : List ℕ → ℕ → ℕ
digits_value [] n = n
digits_value (b ∷ bs) n = digits_value bs (n * 10 + (b - 48))

-- the thousandths of digits before and behind the point
unfoldable pub written : List ℕ → List ℕ → ℕ
written before behind = digits_value before 0 * unit + digits_value behind 0 * 10 ^ (3 - length behind)

-- at most seven digits before the point and three after, and at most 1,000,000
unfoldable pub is_fit : List ℕ → List ℕ → Bool
is_fit before behind = leb (length before) 7 && (leb (length behind) 3 && leb (written before behind) top)

-- what stands for any other number: 1,000,001, outside every range
abbrev pub too_large : ℕ
too_large = top + unit

-- the thousandths of a number in the range
abbrev pub thousandths : List ℕ → List ℕ → Option ℕ
thousandths before behind = elim (is_fit before behind) [ true ↦ Some (written before behind) | false ↦ None ]

-- one more for a written point
abbrev pub point_mark : List ℕ → ℕ
point_mark [] = 0
point_mark (b ∷ bs) = 1

-- the token of a number with these digits before and behind its point; none behind if no point was written
unfoldable pub number_token : List ℕ → List ℕ → ℕ
number_token before behind = NUMBER + (elim (is_fit before behind) [ true ↦ written before behind | false ↦ too_large ] * 2 + point_mark behind)
