-- `expression::closed` meets its contract: what is not in the grammar passes through; otherwise by the token behind it.
use borrow.Author.Rules.{rules}
use mathlib.Core.Path.{refl, sym, ◌∙◌}
use Prim.Native.Nat.{◌<◌}
use native.Mathlib.Omega.{arith}
use Rattle.tokens.specs.Token.{set_size}
use Rattle.tokens.specs.Descent.{read_close}
use Rattle.checking.specs.Fault.{sight}
use Rattle.tokens.specs.ArmLaws.{closes, closes-not}
use Rattle.checking.proofs.SightNumberLaws.{passes, enters, seen_nothing, seen_next, next-made, seen-deeper, deeper-made}
use Rattle.checking.proofs.BracketCountLaws.{closed_on, closed-nothing}
use Rattle.tokens.specs.BetweenLaws.{lies-inside}
use Rattle.checking.proofs.expression.closed.Statement.{statement}
use Rattle.checking.proofs.expression.closed.Tie as tie

-- a token that is no end lies inside the code
inside : (c : tie.Else-token_at-ne-CLOSE) → c.next_of-i.result < set_size
inside c = omega (arith, lies-inside c.args.set.now c.next_of-i.result c.token_at.ensures (λ e. omega arith))

pub closed_spec : {M : Type 1} → statement M
unfolding sight
closed_spec =
    tie.close
    (tie.spec
    (λ c κs. search rules)
    (λ c. (passes _ c.next_of-i.ensures _ c.if-i-eq0.true, closed-nothing _ _ (sym c.next_of-i.ensures ∙ c.if-i-eq0.true)))
    (λ c κs. search rules)
    (λ c.
    let d = c.before in
    let n = d.before.before.before in (
      enters _ n.next_of-i.ensures (read_close n.args.set.now sight) d.if-i-eq0.false (seen_nothing ∙ sym (closes-not _ _ _ _ _ d.token_at.ensures c.if-token_at-ne-CLOSE.true)),
      closed-nothing _ _ refl,
    ))
    (λ c κs. search rules)
    (λ c. let d = c.before.before.before in record { fits = omega (arith, d.next_of-i.ensures, lies-inside d.args.set.now d.next_of-i.result d.token_at.ensures (λ e. omega arith)) })
    (λ c.
    let g = c.before in
    let d = g.before.before in
    let n = d.before.before.before in
    let l = inside g.before in
    let k = next-made n.args.a n.next_of-i.ensures l in (
      enters _ n.next_of-i.ensures (read_close n.args.set.now sight) d.if-i-eq0.false
          (seen_next n.args.a n.next_of-i.ensures l ∙ sym (closes _ _ _ _ _ d.token_at.ensures g.if-token_at-ne-CLOSE.false)),
      closed_on _ n.args.a _ n.next_of-i.ensures d.if-i-eq0.false (sym d.token_at.ensures ∙ g.if-token_at-ne-CLOSE.false) k.next (λ h. absurd (omega (arith, k.depth, g.depth_of.ensures, c.if-depth_of-gt-DEEPEST.true))),
    ))
    (λ c. let d = c.before.before.before in omega (arith, d.next_of-i.ensures, c.depth_of.ensures, c.if-depth_of-gt-DEEPEST.false))
    (λ c. let d = c.before.before.before in omega (arith, d.next_of-i.ensures, c.depth_of.ensures, c.if-depth_of-gt-DEEPEST.false, lies-inside d.args.set.now d.next_of-i.result d.token_at.ensures (λ e. omega arith)))
    (λ c.
    let g = c.before in
    let d = g.before.before in
    let n = d.before.before.before in
    let l = inside g.before in
    let k = deeper-made n.args.a n.next_of-i.ensures l (omega (arith, g.depth_of.ensures, c.if-depth_of-gt-DEEPEST.false)) in (
      enters _ n.next_of-i.ensures (read_close n.args.set.now sight) d.if-i-eq0.false
          (seen-deeper n.args.a n.next_of-i.ensures l ∙ sym (closes _ _ _ _ _ d.token_at.ensures g.if-token_at-ne-CLOSE.false)),
      closed_on _ n.args.a _ n.next_of-i.ensures d.if-i-eq0.false (sym d.token_at.ensures ∙ g.if-token_at-ne-CLOSE.false) k.next (λ h. omega (arith, k.depth)),
    )))
