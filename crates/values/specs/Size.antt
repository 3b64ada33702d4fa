-- Sign and size of a number, apart. Definitions only; SizeLaws has what follows from them.
use Rattle.std.specs.Prelude.{Bool, true, false, cond, ℕ, ℤ, pos, negsuc, neg_ℤ}

-- whether a number is below zero; its size is its absolute value
abbrev pub is_negative : ℤ → Bool
is_negative (pos n) = false
is_negative (negsuc n) = true

-- a size with its sign put back
abbrev pub signed_number : Bool → ℕ → ℤ
signed_number negative size = cond negative (neg_ℤ (pos size)) (pos size)
