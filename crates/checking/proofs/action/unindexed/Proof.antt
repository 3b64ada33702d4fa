-- `action::unindexed` meets its contract: each return by the test that led to it.
use borrow.Author.Rules.{rules}
use native.Mathlib.Omega.{arith}
use mathlib.Core.Path.{◌∙◌}
use Rattle.checking.proofs.FaultLaws.{word-synfct, word-command}
use Rattle.checking.proofs.BracketCountLaws.{other-above}
use Rattle.checking.proofs.action.unindexed.Statement.{statement}
use Rattle.checking.proofs.action.unindexed.Tie as tie

pub unindexed_spec : {M : Type 1} → statement M
unindexed_spec =
    tie.close
    (tie.spec
    (λ c κs. search rules)
    (λ c. (c.synfct.ensures.0 ∙ word-synfct _ _ _ _ c.if-w-eq-SYNFCT.true, (λ g. other-above _ (omega (arith, c.if-w-eq-SYNFCT.true)), c.synfct.ensures.1)))
    (λ c κs. search rules)
    (λ c. (c.command.ensures.0 ∙ word-command _ _ _ _ c.if-w-eq-SYNFCT.false, c.command.ensures.1)))
