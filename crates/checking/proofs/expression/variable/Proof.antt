-- `expression::variable` meets its contract: what is not indexed is nothing, what is indexed is read.
use borrow.Author.Rules.{rules}
use borrow.Author.Tests.{not-true, not-false}
use mathlib.Core.Path.{refl, sym, ap, ◌∙◌}
use Prim.Native.Nat.{ℕ, ◌+◌, ◌<◌}
use native.Mathlib.Omega.{arith}
use Rattle.tokens.specs.Token.{room}
use Rattle.tokens.specs.SingleFault.{read_fault}
use Rattle.checking.specs.Fault.{sight}
use Rattle.tokens.specs.ArmLaws.{indexed, indexed-not}
use Rattle.checking.proofs.SightNumberLaws.{seen_nothing, number-made, seen-number}
use Rattle.checking.proofs.BracketCountLaws.{counts-index, counted_none, counted-nothing, counted-behind}
use Rattle.checking.proofs.expression.variable.Statement.{statement}
use Rattle.checking.proofs.expression.variable.Tie as tie

pub variable_spec : {M : Type 1} → statement M
unfolding sight
variable_spec =
    tie.close
    (tie.spec
    (λ c κs. search rules)
    (λ c. (seen_nothing ∙ sym (indexed-not _ _ _ _ (sym c.is_indexed.ensures ∙ not-true _ c.if-not-is_indexed.true-raw)), counted-nothing _ _ refl))
    (λ c κs. search rules)
    (λ c κs. search rules)
    (λ c. search rules)
    (λ c κs. search rules)
    (λ c.
    let d = c.before.before.before.before in
    let a = d.args in
    let m : a.at + 4 < room = omega (arith, d.requires) in
    let h = sym d.is_indexed.ensures ∙ not-false _ d.if-not-is_indexed.false-raw in (
      seen-number {d = 0} _ (omega arith) (omega arith) m (omega arith) c.number_seen.ensures (c.read_fault.ensures ∙ ap (λ (i : ℕ). read_fault a.w i) c.index_at.ensures) ∙ sym (indexed _ _ _ _ h),
      counted-behind _ _ (a.at + 4) (counts-index _ _ _ h) (counted_none _ _ _ (number-made {d = 0} _ (omega arith) (omega arith) m c.number_seen.ensures).next),
    )))
