-- Behind the word stands an axis, so its index is a byte.
use Rattle.std.proofs.Common.{◌≡◌, true, ◌+◌, sym, ◌∙◌, arith}
use Rattle.tokens.specs.Token.{is_axis}
use Rattle.tokens.specs.Descent.{token}
use Rattle.engine.proofs.ActionLaws.{axis-byte}
use Rattle.engine.proofs.action.drive.Goals as goal

pub overflow_cast-axis : goal.overflow_cast-axis
overflow_cast-axis c =
    let a = c.args in
    let h : is_axis (token a.set.now (a.p + 2)) ≡ true = rw (← c.token_at.ensures) (sym c.is_axis.ensures ∙ c.if-not-is_axis.false) in
    omega (arith, c.index_at-axis.ensures, axis-byte a.set.now a.w a.p h)
