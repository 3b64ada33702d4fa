-- What the actions lock and release is written down behind what was.
use Rattle.std.proofs.Common.{◌≡◌, ◌*◌, ◌%◌, ◌^◌, ◌++◌, refl, ◌∙◌, arith}
use Rattle.std.proofs.Math.Nat.{one-mul}
use lib.Pow.{shl_exact}
use Rattle.std.specs.Prelude.{map}
use Rattle.engine.specs.Turn.{do_turn, lock_entry}
use Rattle.engine.proofs.turn.act.Goals as goal

pub returns-in_ok-actions-clause-turned : goal.returns-in_ok-actions-clause-turned
unfolding do_turn
returns-in_ok-actions-clause-turned c es =
    let d = c.in_ok-actions.ensures.done in
    let b : 1 * 2 ^ c.args.k % 2 ^ 64 ≡ 2 ^ c.args.k = shl_exact {a = 1} 1 c.args.k 64 (omega arith) (omega arith) ∙ one-mul _ in
    (es ++ map lock_entry d.0, rw (c.if-yes.true, rw b at d.1) refl)

pub returns-else-yes-clause-turned : goal.returns-else-yes-clause-turned
unfolding do_turn
returns-else-yes-clause-turned c es = (es, rw c.if-yes.false refl)
