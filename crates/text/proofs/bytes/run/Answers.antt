-- `bytes::run`: the first byte that is not of the kind ends the run; ByteLaws has the laws.
use Rattle.std.proofs.Common.{◌≡◌, ◌∙◌, not, position, rules, tests}
use Rattle.std.proofs.lemmas.Iterator.{YieldsList-from_slice}
use Rattle.std.proofs.lemmas.Iterator.Search.{position_from_yields_List}
use Rattle.text.specs.Byte.{kind_of}
use Rattle.text.specs.ByteLaws.{run_first}
use Rattle.text.proofs.bytes.run.Goals as goal

pub returns : goal.returns
returns c =
    let p = kind_of c.args.kind in
    let e : c.position.result ≡ position (λ b. not (p b)) c.args.part.now = position_from_yields_List (λ b. not (p b)) _ _ c.position.result c.position.ensures.ran (YieldsList-from_slice c.args.part.now (cc)) (λ x b q k. search (rules, tests)) in
    c.unwrap_or.ensures ∙ run_first p c.args.part.now c.position.result e
