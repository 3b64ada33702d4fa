-- An action of a line (document 01, "Lines of text", "Values and time" and "A beat"; document 02, Req 03): what it makes of the variables, the locks and the orders, or its alarm. Definitions only.
use Rattle.std.specs.Prelude.{Bool, true, false, List, [], ◌∷◌, ◌++◌, ℕ, ◌+◌, eqb, ltb, ℤ, pos, get_or, set, Result, Ok, Err}
use Rattle.values.specs.Codes.{unsound, code_of}
use Rattle.values.specs.declared.codes.Alarm.{Alarm}
use Rattle.values.specs.Curve.{curve_of}
use Rattle.values.specs.declared.curve.Curve.{Curve}
use Rattle.engine.specs.Order.{order_bytes}
use Rattle.engine.specs.declared.order.Order.{Order}
use Rattle.engine.specs.declared.order.Kind.TheVariants as K
use Rattle.tokens.specs.Token.{END, M, SETAL, LOCK, SYNFCT, is_variable, is_drive, is_call, is_axis, whole, max_lines}
use Rattle.tokens.specs.Descent.{token, Answer, good, stop, ◌>>=◌, index_at}
use Rattle.checking.specs.Fault.{is_removal}
use Rattle.working.specs.Working.{right_value, variable_at}
use Rattle.working.specs.Operators.{from_worked}
use Rattle.engine.specs.Set.{rank_in, defined_curve}
use Rattle.values.specs.declared.codes.Alarm.{Alarm}
use Rattle.working.specs.declared.walk.Reached.{Reached}
use Rattle.engine.specs.declared.write.Change.TheVariants.{Remove}
use Rattle.engine.specs.declared.write.Vars.{Vars}
use Rattle.engine.specs.Write.{change_fifo, with_changed, write_to}
use Rattle.engine.specs.Drive.{drive_order, order_of}

-- the beat under way: the variables, which lines are locked, each line's memory, the word of the lines that acted, and the bytes of the orders so far
pub record World : Type 0 where
  pub vars : Vars
  pub locked : List Bool
  pub memory : List Bool
  pub acted : ℕ
  pub orders : List ℕ

-- ---- orders

abbrev pub ordered : World → Order → World
ordered x o = record { vars = x.vars; locked = x.locked; memory = x.memory; acted = x.acted; orders = x.orders ++ order_bytes o }

-- ---- an action

-- a lock or release that a line gave, by the rank of the line it names
abbrev pub Note : Type 0
Note = ℕ × Bool

-- what an action did: the world, the place behind it, and what is written down of locks and releases
pub record Did : Type 0 where
  pub world : World
  pub next : ℕ
  pub notes : List Note

abbrev pub did : ℕ → World → Answer Did
did q x = good (record { world = x; next = q; notes = [] })

abbrev pub with_vars : World → Vars → World
with_vars x v = record { vars = v; locked = x.locked; memory = x.memory; acted = x.acted; orders = x.orders }

-- what working reached, and its alarm
abbrev pub from_reached : Result Reached Alarm → Answer (ℤ × ℕ)
from_reached (Ok t) = good (t.value, t.next)
from_reached (Err a) = stop (code_of a)

abbrev pub with_lock : World → ℕ → Bool → World
with_lock x k b = record { vars = x.vars; locked = set x.locked k b; memory = x.memory; acted = x.acted; orders = x.orders }

-- LOCK and UNLOCK of the line of rank k take effect at once; naming a cancelled line, they do nothing
unfoldable pub lock_of : List Bool → World → Bool → ℕ → ℕ → Answer Did
lock_of cancelled x b k q =
    elim (ltb k max_lines) [
      | true ↦
          elim (get_or cancelled k false) [
            | true ↦ did q x
            | false ↦ good (record { world = with_lock x k b; next = q; notes = (k, b) ∷ [] })
          ]
      | false ↦ stop unsound
    ]

-- what stands right of =, worked
pub record Taken : Type 0 where
  pub value : ℤ
  pub vars : Vars
  pub next : ℕ

-- the value of the right side at p, the variables and the place behind it: FIFO [0] as the whole right side removes the oldest
unfoldable pub taken_at : List ℕ → Vars → ℕ → Answer Taken
taken_at s x p =
    elim (is_removal s p) [
      | true ↦ change_fifo x.r x.cells Remove (get_or s p 0) >>= λ a. good (record { value = a.value; vars = with_changed x a; next = p + 4 })
      | false ↦ from_reached (right_value s x.r x.cells p) >>= λ a. good (record { value = a.0; vars = x; next = a.1 })
    ]

-- variable = sum
unfoldable pub assignment_of : List ℕ → World → ℕ → ℕ → Answer Did
assignment_of s x w p =
    taken_at s x.vars (p + 5) >>= λ a.
    write_to a.vars w (index_at s w p) a.value >>= λ v.
    did a.next (with_vars x v)

-- a curve at x, its result assigned to w[i] by the target's own rule
unfoldable pub curve_assigned : Vars → Curve → ℤ → ℕ → ℕ → Answer Vars
curve_assigned v c x w i = from_worked (curve_of c x) >>= λ y. write_to v w i y

-- SYNFCT(n,target,variable) where the variable reads a: curve n is worked there, and its result is assigned to the target
abbrev pub synfct_with : List ℕ → World → ℤ → ℕ → Answer Did
synfct_with s x a p =
    curve_assigned x.vars (defined_curve s (whole (token s (p + 2)))) a (token s (p + 4)) (index_at s (token s (p + 4)) (p + 4)) >>= λ v.
    did (p + 14) (with_vars x v)

-- the variable is read first
unfoldable pub synfct_of : List ℕ → World → ℕ → Answer Did
synfct_of s x p = from_worked (variable_at s x.vars.r x.vars.cells (p + 9)) >>= λ a. synfct_with s x a p

-- POS[axis]=, FA[axis]=, MOV[axis]= and a sum; an index that is no axis is in no sound set
unfoldable pub drive_of : List ℕ → ℕ → World → ℕ → ℕ → Answer Did
drive_of s number x w p =
    elim (is_axis (token s (p + 2))) [
      | true ↦
          from_reached (right_value s x.vars.r x.vars.cells (p + 5)) >>= λ a.
          drive_order number w (index_at s w p) a.0 >>= λ o.
          did a.1 (ordered x o)
      | false ↦ stop unsound
    ]

module _ (s numbers : List ℕ) (cancelled : List Bool) (number : ℕ) where
  -- M= and a number; SETAL, LOCK, UNLOCK and a number in brackets; no other word is a command
  unfoldable pub command_of : World → ℕ → ℕ → Answer Did
  command_of x w p =
      elim (eqb w M) [
        | true ↦ did (p + 3) (ordered x (order_of number K.M 0 (pos (whole (token s (p + 2))))))
        | false ↦
            elim (eqb w SETAL) [
              | true ↦ did (p + 4) (ordered x (order_of number K.Setal 0 (pos (whole (token s (p + 2))))))
              | false ↦ elim (is_call w) [ true ↦ lock_of cancelled x (eqb w LOCK) (rank_in numbers (whole (token s (p + 2))) 0) (p + 4) | false ↦ stop unsound ]
            ]
      ]

  -- the action at p
  unfoldable pub action_of : World → ℕ → Answer Did
  action_of x p =
      elim (eqb (token s p) END) [
        | true ↦ stop unsound
        | false ↦
            elim (is_variable (token s p)) [
              | true ↦ assignment_of s x (token s p) p
              | false ↦
                  elim (is_drive (token s p)) [
                    | true ↦ drive_of s number x (token s p) p
                    | false ↦ elim (eqb (token s p) SYNFCT) [ true ↦ synfct_of s x p | false ↦ command_of x (token s p) p ]
                  ]
            ]
      ]
