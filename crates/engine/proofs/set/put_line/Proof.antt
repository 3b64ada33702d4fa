-- `set::put_line` meets its contract: the start, and then the tokens.
use borrow.Author.Rules.{rules}
use mathlib.Core.Path.{◌∙◌}
use Rattle.engine.specs.Set.{with_line}
use Rattle.engine.proofs.set.put_line.Statement.{statement}
use Rattle.engine.proofs.set.put_line.Tie as tie

pub put_line_spec : {M : Type 1} → statement M
unfolding with_line
put_line_spec = tie.close (tie.spec (λ c κs. search rules) (λ c κs. search rules) (λ c. c.put_tokens.ensures ∙ rw c.put.ensures))
