-- `walk::join_term` meets its contract: an alarm passes through, a value is joined.
use borrow.Author.Rules.{rules}
use Rattle.values.specs.Value.{sum_of, difference_of}
use Rattle.working.proofs.Joins.{plus, minus, join-worked}
use Rattle.working.proofs.Pairs.{passes}
use Rattle.working.proofs.walk.join_term.Statement.{statement}
use Rattle.working.proofs.walk.join_term.Tie as tie

pub join_term_spec : {M : Type 1} → statement M
join_term_spec =
    tie.close
    (tie.spec
    (λ c κs. search rules)
    (λ c. passes _ c.next_of-i.ensures _ c.if-i-eq0.true)
    (λ c κs. search rules)
    (λ c κs. search rules)
    (λ c κs. search rules)
    (λ c.
    let v = c.before.before in
    let n = v.before.before.before in
    join-worked _ _ _ n.next_of-i.ensures v.if-i-eq0.false v.value_of.ensures sum_of n.ranges.a (record { sfits = v.value_of.type_inv }) c.sum.ensures c.worked_pair.ensures.1 (plus _ _ _ v.if-op-eq-PLUS.true))
    (λ c κs. search rules)
    (λ c κs. search rules)
    (λ c κs. search rules)
    (λ c.
    let v = c.before.before in
    let n = v.before.before.before in
    join-worked _ _ _ n.next_of-i.ensures v.if-i-eq0.false v.value_of-2.ensures difference_of n.ranges.a (record { sfits = v.value_of-2.type_inv }) c.difference.ensures c.worked_pair-2.ensures.1 (minus _ _ _ n.requires v.if-op-eq-PLUS.false)))
