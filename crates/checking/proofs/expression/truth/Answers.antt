-- Each return by the test that led to it.
use mathlib.Core.Path.{refl, sym, ◌∙◌}
use Prim.Native.Nat.{◌+◌, ◌<◌}
use native.Mathlib.Omega.{arith}
use Rattle.tokens.specs.Token.{room}
use Rattle.tokens.specs.ArmLaws.{yes-truth, no_truth, not-truth}
use Rattle.checking.specs.Fault.{sight}
use Rattle.checking.proofs.SightNumberLaws.{seen_nothing, truth-made, seen-truth}
use Rattle.checking.proofs.BracketCountLaws.{other-above, counted_none, counted-nothing}
use Rattle.checking.proofs.expression.truth.Goals as goal
use Rattle.checking.proofs.expression.truth.Goals.{then-t-eq-TRUE-via-then-t-eq-TRUE, then-t-eq-TRUE-via-else-t-eq-TRUE+then-t-eq-FALSE}

pub returns-then-t-eq-TRUE : goal.returns-then-t-eq-TRUE
unfolding sight
returns-then-t-eq-TRUE c =
    elim c.then-t-eq-TRUE.branch [
      | then-t-eq-TRUE-via-then-t-eq-TRUE w ↦
          let m : c.args.at + 1 < room = omega (arith, w.if-t-eq-TRUE.true, c.requires (λ e. omega (arith, w.if-t-eq-TRUE.true))) in (
            seen-truth {f = 0} {d = 0} _ (omega arith) (omega arith) m (omega arith) c.truth_seen.ensures refl ∙ sym (yes-truth _ _ _ _ w.if-t-eq-TRUE.true),
            (λ g. other-above _ (omega (arith, w.if-t-eq-TRUE.true)), counted_none _ _ _ (truth-made {f = 0} {d = 0} _ (omega arith) (omega arith) m c.truth_seen.ensures).next),
          )
      | then-t-eq-TRUE-via-else-t-eq-TRUE+then-t-eq-FALSE w ↦
          let m : c.args.at + 1 < room = omega (arith, w.if-t-eq-FALSE.true, c.requires (λ e. omega (arith, w.if-t-eq-FALSE.true))) in (
            seen-truth {f = 0} {d = 0} _ (omega arith) (omega arith) m (omega arith) c.truth_seen.ensures refl ∙ sym (no_truth _ _ _ _ w.if-t-eq-FALSE.true),
            (λ g. other-above _ (omega (arith, w.if-t-eq-FALSE.true)), counted_none _ _ _ (truth-made {f = 0} {d = 0} _ (omega arith) (omega arith) m c.truth_seen.ensures).next),
          )
    ]

pub returns : goal.returns
unfolding sight
returns c = (seen_nothing ∙ sym (not-truth _ _ _ _ c.if-t-eq-TRUE.false c.if-t-eq-FALSE.false), (λ g. absurd (g refl), counted-nothing _ _ refl))
