-- An assignment and SYNFCT as one action, as the code works them: what is assigned, to what, and the write that both end in. Definitions only.
use Rattle.std.specs.Prelude.{Bool, true, false, ◌||◌, List, ℕ, ◌+◌, eqb, ℤ, Result, Ok, Err}
use Rattle.values.specs.Curve.{curve_of}
use Rattle.values.specs.declared.codes.Alarm.{Alarm}
use Rattle.values.specs.declared.curve.Curve.{Curve}
use Rattle.tokens.specs.Token.{SYNFCT, is_variable, whole}
use Rattle.tokens.specs.Descent.{token, Answer, good, ◌>>=◌, index_at}
use Rattle.working.specs.Operators.{from_worked}
use Rattle.working.specs.Working.{variable_at}
use Rattle.engine.specs.declared.action.Target.{Target}
use Rattle.engine.specs.Action.{World, Taken, Did, did, with_vars, taken_at}
use Rattle.engine.specs.Set.{defined_curve}
use Rattle.engine.specs.Write.{write_to}
use Rattle.engine.specs.declared.write.Vars.{Vars}

-- the words that such an action begins with
abbrev pub is_assigned : ℕ → Bool
is_assigned w = is_variable w || eqb w SYNFCT

-- a curve where a variable reads
abbrev pub curve_where : Curve → Result ℤ Alarm → Result ℤ Alarm
curve_where c (Ok a) = curve_of c a
curve_where c (Err k) = Err k

-- what SYNFCT(n,target,variable) at p assigns
unfoldable pub curve_value : List ℕ → List ℤ → List ℤ → ℕ → Result ℤ Alarm
curve_value s r c p = curve_where (defined_curve s (whole (token s (p + 2)))) (variable_at s r c (p + 9))

-- the same, with the variables and the place behind it
unfoldable pub curve_taken : List ℕ → Vars → ℕ → Answer Taken
curve_taken s x p = from_worked (curve_value s x.r x.cells p) >>= λ y. good (record { value = y; vars = x; next = p + 14 })

-- what the action w at p assigns
unfoldable pub taken_for : List ℕ → Vars → ℕ → ℕ → Answer Taken
taken_for s x w p = elim (eqb w SYNFCT) [ true ↦ curve_taken s x p | false ↦ taken_at s x (p + 5) ]

-- its target, where SYNFCT has it behind the number of its curve
unfoldable pub target_of : List ℕ → ℕ → ℕ → Target
target_of s w p =
    elim (eqb w SYNFCT) [ true ↦ record { word = token s (p + 4); index = index_at s (token s (p + 4)) (p + 4) } | false ↦ record { word = w; index = index_at s w p } ]

unfoldable pub assigned_of : List ℕ → World → ℕ → ℕ → Answer Did
assigned_of s x w p =
    taken_for s x.vars w p >>= λ a.
    write_to a.vars (target_of s w p).word (target_of s w p).index a.value >>= λ v.
    did a.next (with_vars x v)
