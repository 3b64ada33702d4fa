-- `action::noted` meets its contract: what was made anew of the same fault, depth and place.
use borrow.Author.Rules.{rules}
use mathlib.Core.Bool.{true, false}
use Rattle.checking.proofs.SightNumberLaws.{made-noted}
use Rattle.checking.proofs.action.noted.Statement.{statement}
use Rattle.checking.proofs.action.noted.Tie as tie

pub noted_spec : {M : Type 1} → statement M
noted_spec =
    tie.close
    (tie.spec
    (λ c κs. search rules)
    (λ c κs. search rules)
    (λ c κs. search rules)
    (λ c κs. search rules)
    (λ c. let n = c.before.before in let d = n.before in made-noted _ d.fault_of-fault.ensures d.depth_of-depth.ensures n.next_of-i.ensures true c.if-names.true c.truth_seen.ensures)
    (λ c κs. search rules)
    (λ c. let n = c.before.before in let d = n.before in made-noted _ d.fault_of-fault.ensures d.depth_of-depth.ensures n.next_of-i.ensures false c.if-names.false c.number_seen.ensures))
