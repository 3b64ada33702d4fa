-- `expression::signs_behind` meets its contract; SignLaws has each step.
use native.Mathlib.Omega.{arith}
use mathlib.Core.Path.{◌≡◌, refl, sym, ◌∙◌}
use Prim.Native.Nat.{◌+◌, ◌-◌}
use Rattle.tokens.specs.BetweenLaws.{lies-inside}
use Rattle.checking.proofs.SignLaws.{behind-none, behind-one, behind-spent}
use Rattle.checking.proofs.expression.signs_behind.Goals as goal

pub returns-then-token_at-ne-MINUS : goal.returns-then-token_at-ne-MINUS
returns-then-token_at-ne-MINUS c =
    let i = c.loop-n.invariant in
    (sym (behind-none _ _ _ _ _ c.token_at.ensures c.if-token_at-ne-MINUS.true) ∙ i.all, (omega arith, i.inside))

pub loop-n-preserved : goal.loop-n-preserved
loop-n-preserved c =
    let i = c.loop-n.invariant in
    let a = c.args in
    let n = c.loop-n.n in
    record {
      all = sym (behind-one a.set.now (a.most - n) (a.at + n) _ n c.token_at.ensures (a.most - (n + 1)) (a.at + (n + 1)) (n + 1) (omega arith) c.if-token_at-ne-MINUS.false (omega arith) (omega arith) refl) ∙ i.all;
      inside = omega (arith, lies-inside a.set.now (a.at + n + 1) c.token_at.ensures (λ z. omega (arith, c.if-token_at-ne-MINUS.false)));
    }

pub returns : goal.returns
returns c =
    let i = c.loop-n.invariant in
    let e : c.loop-n.n ≡ c.args.most = omega arith in
    (sym e ∙ (sym (behind-spent _ _ _ _ (omega arith)) ∙ i.all), (omega arith, omega (arith, i.inside)))
