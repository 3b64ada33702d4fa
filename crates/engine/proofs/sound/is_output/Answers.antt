-- What `output` answers is no alarm exactly if its code is 0.
use mathlib.Core.Path.{ap, ◌∙◌}
use mir.Syntax.{w32}
use Rattle.std.specs.Prelude.{is_ok}
use Rattle.values.specs.CodeLaws.{ok-code}
use Rattle.values.specs.Value.{output_of}
use Rattle.values.specs.SignedLaws.{back}
use Rattle.engine.proofs.sound.is_output.Goals as goal

pub returns : goal.returns
returns c = c.is_ok.ensures.value ∙ ap is_ok (c.output.ensures ∙ ap output_of (back w32 c.ranges.v)) ∙ ok-code (output_of c.args.v)
