-- `sight::join` meets its contract: what is not in the grammar passes through, a sight is joined.
use borrow.Author.Rules.{rules}
use mathlib.Core.Path.{sym, ◌∙◌}
use mathlib.Core.Bool.{true, false}
use Prim.Native.Nat.{ℕ}
use native.Mathlib.Omega.{arith}
use Rattle.tokens.specs.Descent.{Read, read}
use Rattle.checking.specs.Fault.{Sight, lowest}
use Rattle.checking.specs.SightNumber.{sight_of}
use Rattle.checking.proofs.SightNumberLaws.{passes, enters, made_again, joined-nothing, joined_made}
use Rattle.checking.proofs.sight.join.Statement.{statement}
use Rattle.checking.proofs.sight.join.Tie as tie

-- what is joined to the first of the two
after : tie.Start → Sight → ℕ → Read Sight
after c y q = read (record { truth = c.args.gives; fault = lowest c.args.wanted (sight_of c.args.a) y }) q

pub join_spec : {M : Type 1} → statement M
unfolding after
join_spec =
    tie.close
    (tie.spec
    (λ c κs. search rules)
    (λ c. let n = c.before in (passes _ n.next_of-i.ensures _ c.if-i-eq0.true, joined-nothing _ _ (sym n.next_of-i.ensures ∙ c.if-i-eq0.true)))
    (λ c κs. search rules)
    (λ c κs. search rules)
    (λ c κs. search rules)
    (λ c.
    let d = c.before in
    let l = d.before.before in
    let n = l.before.before in
    let k = made_again _ n.next_of-i.ensures l.if-i-eq0.false true d.if-gives.true (omega arith) (omega arith) c.truth_seen.ensures l.lowest_of-fault.ensures in
    (enters _ n.next_of-i.ensures (after n.before) l.if-i-eq0.false k.0, joined_made _ _ k.1 n.next_of-i.ensures d.deeper_of.ensures))
    (λ c κs. search rules)
    (λ c κs. search rules)
    (λ c.
    let d = c.before in
    let l = d.before.before in
    let n = l.before.before in
    let k = made_again _ n.next_of-i.ensures l.if-i-eq0.false false d.if-gives.false (omega arith) (omega arith) c.number_seen.ensures l.lowest_of-fault.ensures in
    (enters _ n.next_of-i.ensures (after n.before) l.if-i-eq0.false k.0, joined_made _ _ k.1 n.next_of-i.ensures d.deeper_of-2.ensures)))
