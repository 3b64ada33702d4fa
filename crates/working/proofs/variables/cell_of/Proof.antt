-- `variables::cell_of` meets its contract: an index below the first is at the first.
use borrow.Author.Rules.{rules}
use native.Mathlib.Omega.{arith}
use Rattle.working.specs.Variables.{cell_of}
use Rattle.working.specs.VariableLaws.{start-most}
use Rattle.working.proofs.variables.cell_of.Statement.{statement}
use Rattle.working.proofs.variables.cell_of.Tie as tie

pub cell_of_spec : {M : Type 1} → statement M
unfolding cell_of
cell_of_spec =
    tie.close
    (tie.spec
    (λ c κs. search rules)
    (λ c κs. search rules)
    (λ c. omega arith)
    (λ c. search rules)
    (λ c. omega (arith, start-most c.args.w))
    (λ c. omega arith))
