-- `walk::join_compare` meets its contract: an alarm passes through, a value is joined.
use borrow.Author.Rules.{rules}
use mathlib.Core.Path.{ap, ◌∙◌}
use Rattle.working.specs.Operators.{yes_no, join_truths}
use Rattle.values.specs.SignedLaws.{both}
use Rattle.working.proofs.Joins.{compared, join-told}
use Rattle.working.proofs.Pairs.{passes}
use Rattle.working.proofs.walk.join_compare.Statement.{statement}
use Rattle.working.proofs.walk.join_compare.Tie as tie

pub join_compare_spec : {M : Type 1} → statement M
join_compare_spec =
    tie.close
    (tie.spec
    (λ c κs. search rules)
    (λ c. passes _ c.next_of-i.ensures _ c.if-i-eq0.true)
    (λ c κs. search rules)
    (λ c κs. search rules)
    (λ c κs. search rules)
    (λ c κs. search rules)
    (λ c.
    let y = c.before in
    let v = y.before.before in
    let n = v.before.before in
    let a = n.args in
    join-told _ _ _ n.next_of-i.ensures v.if-i-eq0.false v.value_of.ensures c.pair_of.ensures (record { sfits = y.yes_no.type_inv })
    (y.yes_no.ensures ∙ ap yes_no (y.join_truths.ensures ∙ both (join_truths a.op) n.ranges.a (record { sfits = v.value_of.type_inv })))
    (compared a.op a.a _ n.requires)))
