-- `action::assignment` meets its contract: each return by the tests that led to it.
use borrow.Author.Rules.{rules}
use native.Mathlib.Omega.{arith}
use mathlib.Core.Path.{◌≡◌, refl, sym, ap, ◌∙◌}
use Prim.Native.Nat.{ℕ, ◌+◌, ◌<◌}
use Rattle.tokens.specs.Token.{set_size, room, IN, IM, POS, MOV}
use Rattle.tokens.specs.Descent.{Read, read, then, index_at, sum_at}
use Rattle.tokens.specs.SingleFault.{lower, write_fault}
use Rattle.checking.specs.Fault.{assigned_at, assignment_at}
use Rattle.checking.specs.SightNumber.{fault_of}
use Rattle.checking.proofs.SightNumberLaws.{faulted-nothing, number-made, faulted-wanted}
use Rattle.checking.proofs.BracketCountLaws.{other-high, counted-nothing, joined-counted, same-end-on}
use Rattle.checking.proofs.action.assignment.Statement.{statement}
use Rattle.checking.proofs.action.assignment.Tie as tie

pub assignment_spec : {M : Type 1} → statement M
unfolding assignment_at
assignment_spec =
    tie.close
    (tie.spec
    (λ c κs. search rules)
    (λ c κs. search rules)
    (λ c κs. search rules)
    (λ c κs. search rules)
    (λ c. omega arith)
    (λ c κs. search rules)
    (λ c κs. search rules)
    (λ c.
    let n = c.before.before in
    let i = n.before.before in
    let v = i.before.before.before in
    let a = v.args in
    let e : n.write_fault.result ≡ write_fault a.w (index_at a.set.now a.w a.at) = n.write_fault.ensures ∙ ap (write_fault a.w) i.index_at.ensures in
    let m : a.at < room = omega (arith, v.requires) in
    let k = (number-made {d = 0} a.at (omega arith) (omega arith) m n.number_seen-a.ensures).fault ∙ e in (
      simp (assignment_at, sym v.is_variable.ensures ∙ i.if-is_variable.true)
          (c.join_faults.ensures.0 ∙ ap (λ (x : Read ℕ). then x (λ g q. read (lower (fault_of n.number_seen-a.result) g) q)) c.assigned.ensures.0 ∙ ap (λ (f : ℕ). then (assigned_at a.set.now set_size (a.at + 5)) (λ g q. read (lower f g) q)) k),
      (λ g. other-high IN IM _ (omega arith) v.is_variable.ensures i.if-is_variable.true, joined-counted _ _ c.assigned.ensures.1 c.join_faults.ensures.1),
    ))
    (λ c κs. search rules)
    (λ c. omega arith)
    (λ c κs. search rules)
    (λ c κs. search rules)
    (λ c.
    let s = c.before in
    let d = s.before.before in (
      simp (assignment_at, sym d.is_variable.ensures ∙ d.if-is_variable.false, sym d.is_drive.ensures ∙ s.if-is_drive.true)
          (faulted-wanted _ _ _ (sum_at _ _ _ _) s.sum.ensures.0 c.as_wanted.ensures.0),
      (λ g. other-high POS MOV _ (omega arith) d.is_drive.ensures s.if-is_drive.true, (same-end-on _ c.as_wanted.ensures.1).goes _ s.sum.ensures.1),
    ))
    (λ c.
    let d = c.before in (
      simp (assignment_at, sym d.is_variable.ensures ∙ d.if-is_variable.false, sym d.is_drive.ensures ∙ c.if-is_drive.false) faulted-nothing,
      (λ g. absurd (g refl), counted-nothing _ _ refl),
    )))
