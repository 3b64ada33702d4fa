-- SetLaws has the turn of the loop.
use Rattle.std.proofs.Common.{sym, ◌∙◌, arith}
use Rattle.engine.proofs.SetLaws.{lines-fault, lines-order, lines-on}
use Rattle.engine.proofs.set.read_lines.Goals as goal

pub returns-in_default : goal.returns-in_default
returns-in_default c = sym (lines-fault _ _ _ _ _ _ _ c.token_at-start.ensures (omega arith) _ c.in_default.ensures) ∙ c.loop-k.invariant

pub returns-then-l-last : goal.returns-then-l-last
returns-then-l-last c = sym (lines-order _ _ _ _ _ _ _ c.token_at-start.ensures (omega arith) _ c.in-Ok.ensures c.if-l-last.true) ∙ c.loop-k.invariant

pub loop-k-preserved : goal.loop-k-preserved
loop-k-preserved c = sym (lines-on _ _ _ _ _ _ _ c.token_at-start.ensures (omega arith) _ c.in-Ok.ensures c.if-l-last.false) ∙ c.loop-k.invariant
