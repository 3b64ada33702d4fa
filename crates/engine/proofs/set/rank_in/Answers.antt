-- The place of the number, past the last if there is none.
use Rattle.std.proofs.Common.{ℕ, Option, unwrap_or, ap, ◌∙◌}
use Rattle.engine.proofs.SetLaws.{rank_position}
use Rattle.engine.proofs.set.rank_in.Goals as goal

pub returns : goal.returns
returns c = c.unwrap_or.ensures ∙ ap (λ (o : Option ℕ). unwrap_or o 32) c.place_of.ensures ∙ rank_position c.args.numbers.now c.args.n 32 c.told-numbers
