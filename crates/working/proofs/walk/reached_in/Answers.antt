-- What the pair says, by the test of its place.
use mathlib.Core.Path.{sym, ap, ◌∙◌}
use lib.IntN.{ℤ}
use mir.Syntax.{w32}
use Rattle.std.specs.Prelude.{Err}
use Rattle.values.specs.SignedLaws.{back}
use Rattle.tokens.specs.Descent.{read}
use Rattle.working.specs.Working.{told}
use Rattle.working.proofs.Pairs.{said-stop, said-value}
use Rattle.working.proofs.walk.reached_in.Goals as goal

pub returns-then-i-eq0 : goal.returns-then-i-eq0
returns-then-i-eq0 c = ap Err c.alarm_in.ensures ∙ ap told (sym (said-stop c.args.w c.next_of-i.ensures c.if-i-eq0.true))

pub returns : goal.returns
returns c =
    ap (λ (v : ℤ). told (read v c.next_of-i.result)) (back w32 (record { sfits = c.value_of.type_inv })) ∙
    ap told (sym (said-value c.args.w c.next_of-i.ensures c.value_of.ensures c.if-i-eq0.false))
