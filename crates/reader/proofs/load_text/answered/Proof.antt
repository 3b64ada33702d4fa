-- `load_text::answered` meets its contract: the state is that of power-on.
use borrow.Author.Rules.{rules}
use Rattle.reader.proofs.load_text.answered.Statement.{statement}
use Rattle.reader.proofs.load_text.answered.Tie as tie

pub answered_spec : {M : Type 1} → statement M
answered_spec = tie.close (tie.spec (λ c κs. search rules) (λ c. rw c.power_on.ensures))
