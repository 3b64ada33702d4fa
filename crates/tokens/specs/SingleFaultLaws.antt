-- Laws on the faults of single things: none is the lowest.
use Rattle.std.specs.Prelude.{◌≡◌, refl, ℕ}
use Rattle.tokens.specs.SingleFault.{lower}

pub none_first : (b : ℕ) → lower 0 b ≡ b
unfolding lower
none_first b = refl
