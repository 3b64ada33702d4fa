-- `arithmetic::in_range` meets its contract: each return by the tests that led to it.
use borrow.Author.Rules.{rules}
use mathlib.Core.Path.{sym}
use mir.Syntax.{w32}
use Rattle.values.specs.SignedLaws.{back, too-low, too-high, between}
use Rattle.values.proofs.arithmetic.in_range.Statement.{statement}
use Rattle.values.proofs.arithmetic.in_range.Tie as tie

pub in_range_spec : {M : Type 1} → statement M
in_range_spec =
    tie.close
    (tie.spec
    (λ c. search rules)
    (λ c. let b = back w32 c.ranges.v in sym (too-low _ (rw b at c.if-v.true)))
    (λ c. let b = back w32 c.ranges.v in sym (too-high _ (rw b at c.if-v-gt-TOP.true)))
    (λ c. let b = back w32 c.ranges.v in sym (between _ (rw b at c.if-v.false) (rw b at c.if-v-gt-TOP.false))))
