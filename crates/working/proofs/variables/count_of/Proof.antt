-- `variables::count_of` meets its contract: each return by the two tests of the cell.
use borrow.Author.Rules.{rules}
use Rattle.working.proofs.CountLaws.{count_fits, count-below, count-above, count_held}
use Rattle.working.proofs.variables.count_of.Statement.{statement}
use Rattle.working.proofs.variables.count_of.Tie as tie

pub count_of_spec : {M : Type 1} → statement M
count_of_spec =
    tie.close
    (tie.spec
    (λ c. count-below c.ranges.cell c.if-cell-lt0.true)
    (λ c. search rules)
    (λ c. count-above c.ranges.cell c.if-cell.true)
    (λ c. count_fits c.ranges.cell c.if-cell-lt0.false c.if-cell.false)
    (λ c. count_held c.ranges.cell c.if-cell-lt0.false c.if-cell.false))
