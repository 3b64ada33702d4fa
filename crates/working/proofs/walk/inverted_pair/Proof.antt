-- `walk::inverted_pair` meets its contract: an alarm passes through, a value is worked.
use borrow.Author.Rules.{rules}
use mathlib.Core.Path.{ap, ◌∙◌}
use mathlib.Core.Bool.{Bool, not}
use native.Mathlib.Omega.{arith}
use mir.Syntax.{w32}
use Rattle.values.specs.SignedLaws.{back}
use Rattle.working.specs.Operators.{is_yes, yes_no}
use Rattle.working.specs.Working.{inverted}
use Rattle.working.proofs.Pairs.{in-room, passes, enters, pairs}
use Rattle.working.proofs.walk.inverted_pair.Statement.{statement}
use Rattle.working.proofs.walk.inverted_pair.Tie as tie

pub inverted_pair_spec : {M : Type 1} → statement M
inverted_pair_spec =
    tie.close
    (tie.spec
    (λ c κs. search rules)
    (λ c. passes _ c.next_of-i.ensures _ c.if-i-eq0.true)
    (λ c κs. search rules)
    (λ c κs. search rules)
    (λ c κs. search rules)
    (λ c κs. search rules)
    (λ c.
    let y = c.before in
    let v = y.before.before in
    let n = v.before.before in
    enters _ n.next_of-i.ensures v.value_of.ensures inverted v.if-i-eq0.false
    (pairs _ c.pair_of.ensures (record { sfits = y.yes_no.type_inv }) (y.yes_no.ensures ∙ ap (λ (b : Bool). yes_no (not b)) (y.is_yes.ensures ∙ ap is_yes (back w32 (record { sfits = v.value_of.type_inv })))) (omega (arith, v.if-i-eq0.false)) (in-room _ n.next_of-i.ensures))))
