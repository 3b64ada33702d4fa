-- What was paired is said again.
use borrow.Author.Rules.{rules}
use mathlib.Core.Path.{ap, ◌∙◌}
use lib.IntN.{ℤ}
use mir.Syntax.{w32}
use mir.Val.{SFits}
use Rattle.values.specs.SignedLaws.{back}
use Rattle.working.specs.Pair.{pair_of, said}
use Rattle.working.proofs.Pairs.{pair-said, alarm-said}
use Rattle.working.proofs.pair.worked_pair.Goals as goal

pub returns-in-Ok : goal.returns-in-Ok
returns-in-Ok c =
    let f : SFits w32 c.in-Ok.v = search rules in
    let e = c.pair_of.ensures ∙ ap (λ (v : ℤ). pair_of v c.args.next) (back w32 f) in
    rw c.in-Ok.is (e, λ h. ap said e ∙ pair-said c.args.next f h.0 h.1)

pub returns-in-Err : goal.returns-in-Err
returns-in-Err c = let e = c.alarm_of.ensures in rw c.in-Err.is (e, λ h. ap said e ∙ alarm-said c.in-Err.a)
