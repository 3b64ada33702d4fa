-- The orders of POS, FA and MOV (document 01, "A beat"). Definitions only.
use Rattle.std.specs.Prelude.{true, false, ℕ, eqb, ℤ}
use Rattle.values.specs.Value.{feed_of, sign_of}
use Rattle.engine.specs.declared.order.Order.{Order}
use Rattle.engine.specs.declared.order.Kind.{Kind}
use Rattle.engine.specs.declared.order.Kind.TheVariants as K
use Rattle.tokens.specs.Token.{POS, FA}
use Rattle.tokens.specs.Descent.{Answer, good, ◌>>=◌}
use Rattle.working.specs.Operators.{from_worked}

abbrev pub order_of : ℕ → Kind → ℕ → ℤ → Order
order_of number kind target v = record { kind = kind; line = number; target = target; value = v }

-- POS and FA carry thousandths, FA of 0 or less gives 34, MOV carries the sign
unfoldable pub drive_order : ℕ → ℕ → ℕ → ℤ → Answer Order
drive_order number w axis v =
    elim (eqb w POS) [
      | true ↦ good (order_of number K.Pos axis v)
      | false ↦
          elim (eqb w FA) [
            | true ↦ from_worked (feed_of v) >>= λ u. good (order_of number K.Fa axis u)
            | false ↦ good (order_of number K.Mov axis (sign_of v))
          ]
    ]
