-- `walk::join_factor` meets its contract: an alarm passes through, a value is joined.
use borrow.Author.Rules.{rules}
use Rattle.values.specs.Value.{product_of, quotient_of}
use Rattle.working.proofs.Joins.{times, over, join-worked}
use Rattle.working.proofs.Pairs.{passes}
use Rattle.working.proofs.walk.join_factor.Statement.{statement}
use Rattle.working.proofs.walk.join_factor.Tie as tie

pub join_factor_spec : {M : Type 1} → statement M
join_factor_spec =
    tie.close
    (tie.spec
    (λ c κs. search rules)
    (λ c. passes _ c.next_of-i.ensures _ c.if-i-eq0.true)
    (λ c κs. search rules)
    (λ c κs. search rules)
    (λ c κs. search rules)
    (λ c.
    let v = c.before.before in
    let n = v.before.before.before in
    join-worked _ _ _ n.next_of-i.ensures v.if-i-eq0.false v.value_of.ensures product_of n.ranges.a (record { sfits = v.value_of.type_inv }) c.product.ensures c.worked_pair.ensures.1 (times _ _ _ v.if-op-eq-TIMES.true))
    (λ c κs. search rules)
    (λ c κs. search rules)
    (λ c κs. search rules)
    (λ c.
    let v = c.before.before in
    let n = v.before.before.before in
    join-worked _ _ _ n.next_of-i.ensures v.if-i-eq0.false v.value_of-2.ensures quotient_of n.ranges.a (record { sfits = v.value_of-2.type_inv }) c.quotient.ensures c.worked_pair-2.ensures.1 (over _ _ _ n.requires v.if-op-eq-TIMES.false)))
