-- The sign put back by the arithmetic of values.
use mathlib.Core.Path.{sym, ◌∙◌}
use Rattle.couplers.specs.ConversionLaws.{signed-by-value}
use Rattle.couplers.proofs.reading.signed_thousandths.Goals as goal

pub returns : goal.returns
returns c = c.ok.ensures.value ∙ sym (signed-by-value c.args.negative c.args.size (sym c.signed.ensures))
