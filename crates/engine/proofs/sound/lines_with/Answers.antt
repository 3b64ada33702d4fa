-- The lines of a sound set are few.
use Rattle.std.proofs.Common.{◌≡◌, ℕ, Option, Some, Result, Ok, ok_or, sym, ◌∙◌, arith}
use Rattle.engine.specs.declared.set.Lines.{Lines}
use Rattle.engine.specs.SetCountLaws.{some-count}
use Rattle.engine.proofs.sound.lines_with.Goals as goal

some_in : (o : Option Lines) (l : Lines) (k : ℕ) → ◌≡◌ {A = Result Lines ℕ} (Ok l) (ok_or o k) → o ≡ Some l
some_in o l k e = grind arith

pub returns-clause-few : goal.returns-clause-few
returns-clause-few c = some-count c.args.set.now c.in_ok-lines.lines (sym c.sound_lines.ensures ∙ some_in _ _ _ c.in_ok-lines.ensures.value)
