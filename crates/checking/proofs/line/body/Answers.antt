-- `line::body` meets its contract: each return by the tests that led to it.
use native.Mathlib.Omega.{arith}
use mathlib.Core.Path.{sym, ap, ◌∙◌}
use Prim.Native.Nat.{ℕ}
use Rattle.tokens.specs.Token.{set_size}
use Rattle.tokens.specs.Descent.{Read}
use Rattle.tokens.specs.BetweenLaws.{lies-inside}
use Rattle.checking.specs.Fault.{judged, names_from}
use Rattle.checking.specs.SightNumber.{body_from}
use Rattle.checking.proofs.FaultLaws.{body-none, body-does}
use Rattle.checking.proofs.SightNumberLaws.{faulted-stop, faulted-read, next-made}
use Rattle.checking.proofs.BracketCountLaws.{other-above, next-on}
use Rattle.checking.proofs.line.body.Goals as goal
use Rattle.checking.proofs.line.body.Goals.{then-i-eq0-via-then-i-eq0, then-i-eq0-via-else-i-eq0+then-token_at-ne-DO}

pub returns-then-i-eq0 : goal.returns-then-i-eq0
returns-then-i-eq0 c =
    let a = c.args in
    elim c.then-i-eq0.branch [
      | then-i-eq0-via-then-i-eq0 w ↦
          c.refused.ensures ∙ ap (λ (r : Read ℕ). judged a.set.now a.at (body_from a.set.now a.at a.keyword a.condition r)) (sym (faulted-stop a.a c.next_of-i.ensures w.if-i-eq0.true))
      | then-i-eq0-via-else-i-eq0+then-token_at-ne-DO w ↦
          c.refused.ensures ∙ ap (judged a.set.now a.at) (body-none _ _ _ _ _ _ w.token_at.ensures w.if-token_at-ne-DO.true ∙ ap (body_from a.set.now a.at a.keyword a.condition) (sym (faulted-read a.a c.next_of-i.ensures w.if-i-eq0.false)))
    ]

pub parts-requires : goal.parts-requires
parts-requires c =
    let a = c.args in
    let k = next-made a.a c.next_of-i.ensures (omega (arith, lies-inside a.set.now c.next_of-i.result c.token_at.ensures (λ z. omega arith))) in (
      c.requires.0,
      (
        c.actions.ensures.1.0.goes _ ((next-on _ _ _ c.next_of-i.ensures c.if-i-eq0.false c.token_at.ensures (other-above _ (omega (arith, c.if-token_at-ne-DO.false))) k.next k.depth).goes _ c.requires.1),
        λ g. c.actions.ensures.1.1 g ∙ ap (names_from a.set.now a.keyword set_size set_size) k.next,
      ),
    )

pub returns : goal.returns
returns c =
    let a = c.args in
    let k = next-made a.a c.next_of-i.ensures (omega (arith, lies-inside a.set.now c.next_of-i.result c.token_at.ensures (λ z. omega arith))) in
    c.parts.ensures ∙
    ap (judged a.set.now a.at) (body-does _ _ _ _ _ _ c.token_at.ensures c.if-token_at-ne-DO.false _ k c.actions.ensures.0 ∙
    ap (body_from a.set.now a.at a.keyword a.condition) (sym (faulted-read a.a c.next_of-i.ensures c.if-i-eq0.false)))
