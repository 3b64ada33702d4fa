-- `line::needs_space`: of two signs whether they would be one, else whether the second goes on with the first.
use Rattle.std.proofs.Common.{sym, ◌∙◌}
use Rattle.print.specs.OneSignLaws.{sign-space, word-space}
use Rattle.print.proofs.line.needs_space.Goals as goal

pub returns-then-goes_on : goal.returns-then-goes_on
returns-then-goes_on c = c.is_following.ensures ∙ sym (word-space c.args.t c.args.u (sym c.goes_on.ensures ∙ c.if-goes_on.true))

pub returns-else-goes_on : goal.returns-else-goes_on
returns-else-goes_on c = c.is_one_sign.ensures ∙ sym (sign-space c.args.t c.args.u (sym c.goes_on.ensures ∙ c.if-goes_on.false))
