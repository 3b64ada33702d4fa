-- Laws of an order's bytes: what follows from the definitions of Order.
use Rattle.std.specs.Prelude.{◌≡◌, refl, List, ℕ, ◌+◌, ◌*◌, ◌/◌, ◌%◌, ℤ, length, get_or, drop}
use Rattle.std.proofs.Common.{sym, ap, ◌∙◌, arith, SFits}
use Rattle.std.specs.Int.{w32}
use Rattle.engine.specs.declared.order.Order.{Order}
use Rattle.engine.specs.Order.{order_size, four_bytes, order_bytes}
use Rattle.values.specs.Complement.{twos_complement, signed}
use Rattle.values.specs.ComplementLaws.{signed_back}

-- an order is eight bytes
pub eight-bytes : (o : Order) → length (order_bytes o) ≡ order_size
unfolding order_bytes four_bytes
eight-bytes o = refl

-- the value that four bytes stand for, low first
unfoldable pub value_from : List ℕ → ℤ
value_from bs = signed (get_or bs 0 0 + 256 * get_or bs 1 0 + 65536 * get_or bs 2 0 + 16777216 * get_or bs 3 0)

four-back : (b : ℕ) → b % 256 + 256 * (b / 256 % 256) + 65536 * (b / 65536 % 256) + 16777216 * (b / 16777216) ≡ b
four-back b = omega arith

-- the four bytes determine the value
pub value-back : {v : ℤ} → SFits w32 v → value_from (four_bytes (twos_complement v)) ≡ v
unfolding value_from four_bytes
value-back {v} h = ap signed (four-back (twos_complement v)) ∙ signed_back h

-- orders with the same bytes have the same value
pub same-value : (o p : Order) → SFits w32 o.value → SFits w32 p.value → order_bytes o ≡ order_bytes p → o.value ≡ p.value
unfolding order_bytes
same-value o p ho hp e = sym (value-back ho) ∙ ap (λ (bs : List ℕ). value_from (drop 4 bs)) e ∙ value-back hp
