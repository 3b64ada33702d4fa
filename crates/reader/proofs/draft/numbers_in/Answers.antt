-- `draft::numbers_in` meets its contract: the loop goes through all places.
use native.Mathlib.Omega.{arith}
use mathlib.Core.Path.{sym, ◌∙◌}
use mathlib.Core.List.{map}
use lib.ListN.{get_or-map, length-map}
use lib.Seq.{ext_get_or}
use Rattle.reader.specs.declared.draft.DraftLine.{DraftLine}
use Rattle.reader.specs.Draft.{no_draft_line}
use Rattle.reader.proofs.draft.numbers_in.Goals as goal

pub returns : goal.returns
returns c =
    let ls = c.args.lines.now in
    let m = length-map ls (λ (l : DraftLine). l.number) in
    ext_get_or 0 c.loop-k.numbers (map (λ (l : DraftLine). l.number) ls) (omega arith) (λ j h. c.loop-k.invariant.before j (omega arith) ∙ sym (get_or-map (λ (l : DraftLine). l.number) ls j no_draft_line))
