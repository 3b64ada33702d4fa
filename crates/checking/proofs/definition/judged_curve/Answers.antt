-- `definition::judged_curve` meets its contract: each return by the test that led to it.
use Rattle.checking.proofs.DefinitionLaws.{judged-faulty, judged-good}
use Rattle.checking.proofs.definition.judged_curve.Goals as goal

pub returns-then-low-ne0 : goal.returns-then-low-ne0
returns-then-low-ne0 c = judged-faulty _ _ _ _ c.limits_fault.ensures c.lower_of-low.ensures c.if-low-ne0.true

pub returns : goal.returns
returns c = judged-good _ _ _ _ c.limits_fault.ensures c.lower_of-low.ensures c.if-low-ne0.false
