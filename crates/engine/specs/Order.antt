-- The bytes of an order, and how many orders a beat may have (document 01, "A beat"). Definitions only; OrderLaws has what follows from them.
use Rattle.std.specs.Prelude.{List, [], ◌∷◌, ◌++◌, ℕ, ◌+◌, ◌*◌, ◌/◌, ◌%◌, take, drop}
use Rattle.tokens.specs.Token.{max_lines, max_actions}
use Rattle.values.specs.Complement.{twos_complement}
use Rattle.engine.specs.declared.order.Kind.{Kind}
use Rattle.engine.specs.declared.order.Kind.TheVariants.{Pos, Fa, Mov, M, Setal}
use Rattle.engine.specs.declared.order.Order.{Order}

abbrev pub order_size : ℕ
order_size = 8

-- the orders of a beat: each line's actions at most
abbrev pub max_orders : ℕ
max_orders = max_lines * max_actions

-- kind (1 POS, 2 FA, 3 MOV, 4 M, 5 SETAL)
abbrev pub kind_number : Kind → ℕ
kind_number Pos = 1
kind_number Fa = 2
kind_number Mov = 3
kind_number M = 4
kind_number Setal = 5

-- four bytes, low first
unfoldable pub four_bytes : ℕ → List ℕ
four_bytes b = b % 256 ∷ b / 256 % 256 ∷ b / 65536 % 256 ∷ b / 16777216 ∷ []

-- kind, line number, target, 0, then the value
unfoldable pub order_bytes : Order → List ℕ
order_bytes o = kind_number o.kind ∷ o.line ∷ o.target ∷ 0 ∷ four_bytes (twos_complement o.value)

-- the buffer with the order's bytes from place `at` on
abbrev pub with_order : List ℕ → ℕ → Order → List ℕ
with_order xs at o = take at xs ++ (order_bytes o ++ drop (at + order_size) xs)
