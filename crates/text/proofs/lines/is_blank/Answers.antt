-- `lines::is_blank`: each byte is a space.
use Rattle.std.proofs.Common.{sym, ◌∙◌, rules, tests}
use Rattle.std.proofs.lemmas.Iterator.{YieldsList-from_slice}
use Rattle.std.proofs.lemmas.Iterator.Search.{all_from_yields_List}
use Rattle.text.specs.Byte.{is_space}
use Rattle.text.specs.LinesLaws.{blank_all}
use Rattle.text.proofs.lines.is_blank.Goals as goal

pub returns : goal.returns
returns c =
    all_from_yields_List is_space _ _ c.all.result c.all.ensures.ran (YieldsList-from_slice c.args.part.now (cc)) (λ x b q k. search (rules, tests)) ∙
    sym (blank_all c.args.part.now)
