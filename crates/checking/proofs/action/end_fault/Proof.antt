-- `action::end_fault` meets its contract: 10 comes before 14.
use Rattle.checking.proofs.MoveLaws.{end-many, end-twice, end-fine}
use Rattle.checking.proofs.action.end_fault.Statement.{statement}
use Rattle.checking.proofs.action.end_fault.Tie as tie

pub end_fault_spec : {M : Type 1} → statement M
end_fault_spec =
    tie.close
    (tie.spec
    (λ c. end-many _ _ c.if-n-gt-ACTIONS.true)
    (λ c. end-fine _ _ c.if-n-gt-ACTIONS.false c.if-moved-eq0.true)
    (λ c. end-twice _ _ c.if-n-gt-ACTIONS.false c.if-moved-eq0.false))
