-- `action::assigned` meets its contract: each return by the tests that led to it.
use borrow.Author.Rules.{rules}
use native.Mathlib.Omega.{arith}
use mathlib.Core.Path.{refl, sym, ◌∙◌}
use Prim.Native.Nat.{◌+◌, ◌<◌}
use Rattle.tokens.specs.Token.{room}
use Rattle.tokens.specs.Descent.{sum_at}
use Rattle.checking.specs.Fault.{assigned_at}
use Rattle.checking.proofs.FaultLaws.{removal-tokens}
use Rattle.checking.proofs.SightNumberLaws.{number-made, faulted-made, faulted-wanted}
use Rattle.checking.proofs.BracketCountLaws.{counts-index, counted_none, counted-behind, counted-token, same-end-on}
use Rattle.checking.proofs.action.assigned.Statement.{statement}
use Rattle.checking.proofs.action.assigned.Tie as tie

pub assigned_spec : {M : Type 1} → statement M
unfolding assigned_at
assigned_spec =
    tie.close
    (tie.spec
    (λ c κs. search rules)
    (λ c. omega arith)
    (λ c κs. search rules)
    (λ c.
    let r = c.before.before in
    let a = r.args in
    let h = sym r.is_removal.ensures ∙ c.if-is_removal.true in
    let m : a.at + 4 < room = omega (arith, r.requires) in
    let k = number-made {f = 0} {d = 0} _ (omega arith) (omega arith) m c.number_seen.ensures in
    let t = removal-tokens _ _ h in (
      simp (assigned_at, h) (faulted-made k (omega arith)),
      counted-token _ _ refl (λ g. t.0) (counted-behind _ _ (a.at + 4) (counts-index _ _ _ t.1) (counted_none _ _ _ k.next)),
    ))
    (λ c κs. search rules)
    (λ c κs. search rules)
    (λ c.
    let s = c.before in (
      simp (assigned_at, sym s.is_removal.ensures ∙ s.if-is_removal.false) (faulted-wanted _ _ _ (sum_at _ _ _ _) s.sum.ensures.0 c.as_wanted.ensures.0),
      (same-end-on _ c.as_wanted.ensures.1).goes _ s.sum.ensures.1,
    )))
