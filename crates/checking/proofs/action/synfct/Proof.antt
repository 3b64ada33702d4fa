-- `action::synfct` meets its contract: each return by the test that led to it.
use borrow.Author.Rules.{rules}
use borrow.Author.Tests.{not-true, not-false}
use native.Mathlib.Omega.{arith}
use mathlib.Core.Path.{refl, sym, ap, ◌∙◌}
use Prim.Native.Nat.{ℕ, ◌+◌, ◌<◌}
use Rattle.tokens.specs.Token.{room}
use Rattle.tokens.specs.Descent.{read}
use Rattle.checking.proofs.FaultLaws.{synfct-none, synfct-read}
use Rattle.checking.proofs.SightNumberLaws.{faulted-nothing, number-made, faulted-made}
use Rattle.checking.proofs.BracketCountLaws.{counts-synfct, counted-nothing, counted-to}
use Rattle.checking.proofs.action.synfct.Statement.{statement}
use Rattle.checking.proofs.action.synfct.Tie as tie

pub synfct_spec : {M : Type 1} → statement M
synfct_spec =
    tie.close
    (tie.spec
    (λ c κs. search rules)
    (λ c. (faulted-nothing ∙ synfct-none _ _ (sym c.is_synfct.ensures ∙ not-true _ c.if-not-is_synfct.true-raw), counted-nothing _ _ refl))
    (λ c κs. search rules)
    (λ c. omega arith)
    (λ c κs. search rules)
    (λ c.
    let f = c.before in
    let e = f.before in
    let a = e.args in
    let h = sym e.is_synfct.ensures ∙ not-false _ e.if-not-is_synfct.false-raw in
    let m : a.at + 14 < room = omega (arith, e.requires) in
    let k = number-made {d = 1} _ (omega arith) (omega arith) m c.number_seen.ensures in (
      faulted-made k (omega arith) ∙ ap (λ (g : ℕ). read g (a.at + 14)) f.synfct_fault.ensures ∙ synfct-read _ _ h,
      counted-to _ _ _ k.next k.depth (λ g. counts-synfct a.set.now a.at h),
    )))
