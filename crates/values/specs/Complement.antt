-- The two's complement of 32 bits, and back. Definitions only; ComplementLaws has what follows from them.
use Rattle.std.specs.Prelude.{cond, ℕ, ◌-◌, ltb, ℤ, pos, negsuc}

-- two's complement of 32 bits
unfoldable pub twos_complement : ℤ → ℕ
twos_complement (pos n) = n
twos_complement (negsuc n) = 4294967295 - n

-- the number that 32 bits stand for in two's complement
unfoldable pub signed : ℕ → ℤ
signed b = cond (ltb b 2147483648) (pos b) (negsuc (4294967295 - b))
