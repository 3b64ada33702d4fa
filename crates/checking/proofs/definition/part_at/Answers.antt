-- `definition::part_at` meets its contract: each return by the tests that led to it.
use Rattle.checking.proofs.DefinitionLaws.{part_none, part-other, part-some}
use Rattle.checking.proofs.definition.part_at.Goals as goal
use Rattle.checking.proofs.definition.part_at.Goals.{then-n-lt-NUMBER-via-then-n-lt-NUMBER, then-n-lt-NUMBER-via-else-n-lt-NUMBER+then-token_at-sign}

pub returns-then-n-lt-NUMBER : goal.returns-then-n-lt-NUMBER
returns-then-n-lt-NUMBER c =
    elim c.then-n-lt-NUMBER.branch [
      | then-n-lt-NUMBER-via-then-n-lt-NUMBER w ↦ part_none _ _ _ _ c.token_at-n.ensures w.if-n-lt-NUMBER.true
      | then-n-lt-NUMBER-via-else-n-lt-NUMBER+then-token_at-sign w ↦ part-other _ _ _ _ c.token_at-n.ensures w.if-n-lt-NUMBER.false w.token_at.ensures w.if-token_at-sign.true
    ]

pub returns : goal.returns
returns c = part-some _ _ _ _ c.token_at-n.ensures c.if-n-lt-NUMBER.false c.token_at.ensures c.if-token_at-sign.false c.number_fault.ensures c.lower_of.ensures
