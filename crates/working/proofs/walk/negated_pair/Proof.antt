-- `walk::negated_pair` meets its contract: an alarm passes through, a value is worked.
use borrow.Author.Rules.{rules}
use mathlib.Core.Path.{refl, ap, ◌∙◌}
use native.Mathlib.Omega.{arith}
use mir.Syntax.{w32}
use Rattle.values.specs.Value.{negation_of}
use Rattle.values.specs.SignedLaws.{back}
use Rattle.working.specs.Working.{negated}
use Rattle.working.proofs.Pairs.{in-room, passes, enters, gives}
use Rattle.working.proofs.walk.negated_pair.Statement.{statement}
use Rattle.working.proofs.walk.negated_pair.Tie as tie

pub negated_pair_spec : {M : Type 1} → statement M
negated_pair_spec =
    tie.close
    (tie.spec
    (λ c κs. search rules)
    (λ c. passes _ c.next_of-i.ensures _ c.if-i-eq0.true)
    (λ c κs. search rules)
    (λ c κs. search rules)
    (λ c κs. search rules)
    (λ c.
    let v = c.before.before in
    let n = v.before.before in
    enters _ n.next_of-i.ensures v.value_of.ensures negated v.if-i-eq0.false
    (gives _ (c.worked_pair.ensures.1 (omega (arith, v.if-i-eq0.false), in-room _ n.next_of-i.ensures)) (c.negation.ensures ∙ ap negation_of (back w32 (record { sfits = v.value_of.type_inv }))) refl)))
