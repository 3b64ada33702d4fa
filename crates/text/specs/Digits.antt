-- A number in digits. Definitions only.
use Rattle.std.specs.Prelude.{true, false, List, [], ◌∷◌, ◌++◌, ℕ, zero, suc, ◌+◌, ◌-◌, ◌/◌, ◌%◌, ltb}

-- the digits of a number, with at most k of them
unfoldable pub digits_up : ℕ → ℕ → List ℕ
digits_up zero n = []
digits_up (suc k) n = elim (ltb n 10) [ true ↦ (48 + n) ∷ [] | false ↦ digits_up k (n / 10) ++ ((48 + n % 10) ∷ []) ]

-- a number of 32 bits
abbrev pub decimal : ℕ → List ℕ
decimal n = digits_up 10 n

-- one in two's complement
unfoldable pub signed_text : ℕ → List ℕ
signed_text n = elim (ltb n 2147483648) [ true ↦ decimal n | false ↦ 45 ∷ decimal (4294967296 - n) ]
