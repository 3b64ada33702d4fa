-- `walk::variable_at` meets its contract: what is no variable is unsound, a variable is the operand with one token left.
use borrow.Author.Rules.{rules}
use borrow.Author.Tests.{not-true, not-false}
use mathlib.Core.Path.{◌≡◌, sym, ap, ◌∙◌}
use Prim.Native.Nat.{ℕ}
use Rattle.tokens.specs.Token.{is_variable}
use Rattle.tokens.specs.Descent.{token}
use Rattle.working.specs.Working.{worked}
use Rattle.working.proofs.VariableAtLaws.{not-variable, operand-variable}
use Rattle.working.proofs.walk.variable_at.Statement.{statement}
use Rattle.working.proofs.walk.variable_at.Tie as tie

-- the test of the token is that of the definition
seen : (c : tie.After-is_variable) → c.is_variable.result ≡ is_variable (token c.args.set.now c.args.at)
seen c = c.is_variable.ensures ∙ ap (λ (n : ℕ). is_variable n) c.token_at.ensures

pub variable_at_spec : {M : Type 1} → statement M
variable_at_spec =
    tie.close
    (tie.spec
    (λ c κs. search rules)
    (λ c κs. search rules)
    (λ c. let a = c.args in not-variable a.set.now a.r.now a.cells.now a.at (sym (seen c.before) ∙ not-true _ c.if-not-is_variable.true-raw))
    (λ c κs. search rules)
    (λ c κs. search rules)
    (λ c.
    let v = c.before.before in
    let a = v.args in
    c.worked_in.ensures ∙ ap worked c.operand.ensures ∙ operand-variable a.set.now a.r.now a.cells.now a.at (sym (seen v.before) ∙ not-false _ v.if-not-is_variable.false-raw)))
