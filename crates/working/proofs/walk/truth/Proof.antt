-- `walk::truth` meets its contract: each return by the tests that led to it.
use borrow.Author.Rules.{rules}
use mathlib.Core.Path.{sym, ap, ◌∙◌}
use native.Mathlib.Omega.{arith}
use lib.Dec.{lit<}
use Rattle.values.specs.declared.codes.Alarm.TheVariants.{Unsound}
use Rattle.working.specs.Pair.{said}
use Rattle.working.specs.Working.{value_over}
use Rattle.tokens.specs.ArmLaws.{yes-truth, no_truth, not-truth}
use Rattle.working.proofs.Pairs.{pair-said, alarm-said}
use Rattle.working.proofs.walk.truth.Statement.{statement}
use Rattle.working.proofs.walk.truth.Tie as tie

pub truth_spec : {M : Type 1} → statement M
unfolding value_over
truth_spec =
    tie.close
    (tie.spec
    (λ c. omega (arith, c.requires (λ e. omega arith)))
    (λ c κs. search rules)
    (λ c.
    let l = c.requires (λ e. omega arith) in
    ap said c.pair_of.ensures ∙ pair-said _ (record { sfits = lit< tt }) (omega arith) (omega (arith, l)) ∙ sym (yes-truth _ _ _ _ c.if-t-eq-TRUE.true))
    (λ c. omega (arith, c.requires (λ e. omega arith)))
    (λ c κs. search rules)
    (λ c.
    let l = c.requires (λ e. omega arith) in
    ap said c.pair_of-then-t-eq-FALSE.ensures ∙ pair-said _ (record { sfits = lit< tt }) (omega arith) (omega (arith, l)) ∙ sym (no_truth _ _ _ _ c.if-t-eq-FALSE.true))
    (λ c κs. search rules)
    (λ c. ap said c.alarm_of.ensures ∙ alarm-said Unsound ∙ sym (not-truth _ _ _ _ c.if-t-eq-TRUE.false c.if-t-eq-FALSE.false)))
