-- `sight::join_faults` meets its contract: what is not in the grammar passes through, the faults are joined.
use borrow.Author.Rules.{rules}
use mathlib.Core.Path.{◌≡◌, sym, ap, ◌∙◌}
use Prim.Native.Nat.{ℕ}
use native.Mathlib.Omega.{arith}
use Rattle.tokens.specs.Descent.{Read, read, then}
use Rattle.tokens.specs.SingleFault.{lower}
use Rattle.checking.specs.SightNumber.{fault_of}
use Rattle.checking.proofs.SightNumberLaws.{in-room, number-made, joined-nothing, joined_made, faulted-stop, faulted-read, faulted-made}
use Rattle.checking.proofs.sight.join_faults.Statement.{statement}
use Rattle.checking.proofs.sight.join_faults.Tie as tie

pub join_faults_spec : {M : Type 1} → statement M
join_faults_spec =
    tie.close
    (tie.spec
    (λ c κs. search rules)
    (λ c.
    let n = c.before in
    let a = n.args in
    let f = faulted-stop a.b n.next_of-i.ensures c.if-i-eq0.true in
    (f ∙ ap (λ (r : Read ℕ). then r (λ g q. read (lower (fault_of a.a) g) q)) (sym f), joined-nothing _ _ (sym n.next_of-i.ensures ∙ c.if-i-eq0.true)))
    (λ c κs. search rules)
    (λ c κs. search rules)
    (λ c κs. search rules)
    (λ c κs. search rules)
    (λ c κs. search rules)
    (λ c.
    let d = c.before in
    let l = d.before in
    let f = l.before.before in
    let n = f.before.before in
    let a = n.args in
    let k = number-made _ (omega arith) (omega arith) (in-room _ n.next_of-i.ensures) c.number_seen.ensures in
    let e : l.lower_of.result ≡ lower (fault_of a.a) (fault_of a.b) = simp (l.lower_of.ensures, l.fault_of-2.ensures, f.fault_of.ensures) in (
      faulted-made k (omega (arith, f.if-i-eq0.false)) ∙ ap (λ (g : ℕ). read g n.next_of-i.result) e ∙ ap (λ (r : Read ℕ). then r (λ g q. read (lower (fault_of a.a) g) q)) (sym (faulted-read a.b n.next_of-i.ensures f.if-i-eq0.false)),
      joined_made _ _ k n.next_of-i.ensures d.deeper_of.ensures,
    )))
