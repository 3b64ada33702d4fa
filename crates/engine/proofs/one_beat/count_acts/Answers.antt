-- Where no bit is left, nothing is left to count.
use native.Mathlib.Nat.{div-one}
use mathlib.Core.Path.{sym}
use native.Mathlib.Omega.{arith}
use Rattle.engine.specs.ActCountLaws.{bits-next}
use Rattle.engine.proofs.BeatLaws.{count_none, count_turn, count-rest}
use Rattle.engine.proofs.one_beat.count_acts.Goals as goal

pub loop-k-init : goal.loop-k-init
loop-k-init c = (count_none _ _, sym (div-one _))

pub returns-then-rest-eq0 : goal.returns-then-rest-eq0
returns-then-rest-eq0 c = count-rest _ _ _ _ c.loop-k.invariant.0 c.loop-k.invariant.1 c.if-rest-eq0.true (omega arith)

pub loop-k-preserved : goal.loop-k-preserved
loop-k-preserved c = (count_turn _ _ _ _ c.loop-k.invariant.0 c.loop-k.invariant.1 c.one_more.ensures, bits-next _ _ _ c.loop-k.invariant.1)
