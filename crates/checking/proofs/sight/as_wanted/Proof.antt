-- `sight::as_wanted` meets its contract: what is not in the grammar passes through; otherwise the fault is the calls'.
use borrow.Author.Rules.{rules}
use mathlib.Core.Path.{◌≡◌}
use mathlib.Core.Bool.{true, false}
use native.Mathlib.Omega.{arith}
use Rattle.tokens.specs.SingleFault.{lower, wanting_fault}
use Rattle.checking.specs.SightNumber.{truth_of, fault_of, signed_sight}
use Rattle.checking.proofs.SightNumberLaws.{passes, enters, made_again, same_end, same-end-made, faultless-seen, faultless-same}
use Rattle.checking.proofs.sight.as_wanted.Statement.{statement}
use Rattle.checking.proofs.sight.as_wanted.Tie as tie

-- the fault behind the calls
module _ (c : tie.After-lower_of-fault) where
  low : let x = c.args in c.lower_of-fault.result ≡ lower (wanting_fault x.wanted (truth_of x.a)) (fault_of x.a)
  low = let w = c.before.before in simp (c.lower_of-fault.ensures, c.fault_of.ensures, w.wanting.ensures, w.truth_of.ensures)

pub as_wanted_spec : {M : Type 1} → statement M
as_wanted_spec =
    tie.close
    (tie.spec
    (λ c κs. search rules)
    (λ c. let f = c.before in (faultless-same f.args.wanted f.args.a (faultless-seen _ _ f.is_faultless.ensures c.if-is_faultless.true), same_end _))
    (λ c κs. search rules)
    (λ c. (passes _ c.next_of-i.ensures _ c.if-i-eq0.true, same_end _))
    (λ c κs. search rules)
    (λ c κs. search rules)
    (λ c κs. search rules)
    (λ c κs. search rules)
    (λ c κs. search rules)
    (λ c κs. search rules)
    (λ c.
    let d = c.before in
    let l = d.before.before in
    let f = l.before.before.before.before in
    let n = f.before in
    let k = made_again _ n.next_of-i.ensures f.if-i-eq0.false true d.if-wanted.true (omega arith) (omega arith) c.truth_seen.ensures (low l) in
    (enters _ n.next_of-i.ensures (signed_sight n.args.wanted) f.if-i-eq0.false k.0, same-end-made _ k.1 n.next_of-i.ensures d.depth_of.ensures))
    (λ c κs. search rules)
    (λ c κs. search rules)
    (λ c.
    let d = c.before in
    let l = d.before.before in
    let f = l.before.before.before.before in
    let n = f.before in
    let k = made_again _ n.next_of-i.ensures f.if-i-eq0.false false d.if-wanted.false (omega arith) (omega arith) c.number_seen.ensures (low l) in
    (enters _ n.next_of-i.ensures (signed_sight n.args.wanted) f.if-i-eq0.false k.0, same-end-made _ k.1 n.next_of-i.ensures d.depth_of-2.ensures)))
