-- `walk::closed` meets its contract: an alarm passes through, a value is closed by the token behind it.
use borrow.Author.Rules.{rules}
use mathlib.Core.Path.{refl, sym, ap, ◌∙◌}
use native.Mathlib.Omega.{arith}
use Rattle.values.specs.declared.codes.Alarm.TheVariants.{Unsound}
use Rattle.tokens.specs.Descent.{read_close}
use Rattle.working.specs.Pair.{said}
use Rattle.working.specs.Working.{value_over}
use Rattle.tokens.specs.ArmLaws.{closes, closes-not}
use Rattle.working.proofs.Pairs.{passes, enters, alarm-said, next-said}
use Rattle.tokens.specs.BetweenLaws.{lies-inside}
use Rattle.working.proofs.walk.closed.Statement.{statement}
use Rattle.working.proofs.walk.closed.Tie as tie

pub closed_spec : {M : Type 1} → statement M
unfolding value_over
closed_spec =
    tie.close
    (tie.spec
    (λ c κs. search rules)
    (λ c. passes _ c.next_of-i.ensures _ c.if-i-eq0.true)
    (λ c κs. search rules)
    (λ c κs. search rules)
    (λ c.
    let d = c.before.before in
    let n = d.before.before.before in
    let a = n.args in
    enters _ n.next_of-i.ensures refl (read_close a.set.now (value_over a.r.now a.cells.now)) d.if-i-eq0.false
    (ap said c.alarm_of.ensures ∙ alarm-said Unsound ∙ sym (closes-not _ _ _ _ _ d.token_at.ensures c.if-token_at-ne-CLOSE.true)))
    (λ c. let d = c.before in record { fits = omega (arith, d.next_of-i.ensures, lies-inside d.args.set.now d.next_of-i.result d.token_at.ensures (λ e. omega arith)) })
    (λ c.
    let d = c.before in
    let n = d.before.before.before in
    let a = n.args in
    enters _ n.next_of-i.ensures refl (read_close a.set.now (value_over a.r.now a.cells.now)) d.if-i-eq0.false
    (next-said a.a n.next_of-i.ensures (omega (arith, lies-inside d.args.set.now d.next_of-i.result d.token_at.ensures (λ e. omega arith))) ∙ sym (closes _ _ _ _ _ d.token_at.ensures c.if-token_at-ne-CLOSE.false))))
