-- `walk::variable` meets its contract: what is not indexed stops, what is indexed is read.
use borrow.Author.Rules.{rules}
use borrow.Author.Tests.{not-true, not-false}
use mathlib.Core.Path.{refl, sym, ap, ◌∙◌}
use Prim.Native.Nat.{ℕ, ◌+◌}
use native.Mathlib.Omega.{arith}
use Rattle.values.specs.declared.codes.Alarm.TheVariants.{Unsound}
use Rattle.working.specs.Pair.{said}
use Rattle.working.specs.Variables.{variable_value}
use Rattle.working.specs.Working.{value_over}
use Rattle.tokens.specs.ArmLaws.{indexed, indexed-not}
use Rattle.working.proofs.Pairs.{gives, alarm-said}
use Rattle.working.proofs.walk.variable.Statement.{statement}
use Rattle.working.proofs.walk.variable.Tie as tie

pub variable_spec : {M : Type 1} → statement M
unfolding value_over
variable_spec =
    tie.close
    (tie.spec
    (λ c κs. search rules)
    (λ c κs. search rules)
    (λ c. ap said c.alarm_of.ensures ∙ alarm-said Unsound ∙ sym (indexed-not _ _ _ _ (sym c.is_indexed.ensures ∙ not-true _ c.if-not-is_indexed.true-raw)))
    (λ c κs. search rules)
    (λ c κs. search rules)
    (λ c. search rules)
    (λ c κs. search rules)
    (λ c.
    let d = c.before.before.before.before in
    let a = d.args in
    gives (a.at + 4) (c.worked_pair.ensures.1 (omega arith, omega (arith, d.requires))) (c.variable_value.ensures ∙ ap (λ (i : ℕ). variable_value a.r.now a.cells.now a.w i) c.index_at.ensures)
    refl ∙
    sym (indexed _ _ _ _ (sym d.is_indexed.ensures ∙ not-false _ d.if-not-is_indexed.false-raw))))
