-- `pair::pair_of` meets its contract: the value's bits above the place.
use borrow.Author.Rules.{rules}
use mathlib.Core.Path.{ap, ◌∙◌}
use Prim.Native.Nat.{ℕ, ◌+◌, ◌*◌, ◌%◌}
use mir.Syntax.{w32}
use Rattle.tokens.specs.Token.{room}
use Rattle.values.specs.SignedLaws.{back}
use Rattle.values.specs.Complement.{twos_complement}
use Rattle.working.specs.Pair.{pair_of}
use Rattle.working.proofs.pair.pair_of.Statement.{statement}
use Rattle.working.proofs.pair.pair_of.Tie as tie

pub pair_of_spec : {M : Type 1} → statement M
unfolding pair_of
pair_of_spec =
    tie.close
    (tie.spec
    (λ c κs. search rules)
    (λ c. search rules)
    (λ c. search rules)
    (λ c. search rules)
    (λ c. let a = c.args in ap (λ (n : ℕ). n * room + a.next % room) (c.twos_complement.ensures ∙ ap twos_complement (back w32 c.ranges.v))))
