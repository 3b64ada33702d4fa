-- `name::solid_size`: the first space ends the name.
use Rattle.std.proofs.Common.{◌≡◌, refl, Bool, true, false, not, ◌∙◌, rules, tests, position}
use Rattle.std.proofs.lemmas.Iterator.{YieldsList-from_slice}
use Rattle.std.proofs.lemmas.Iterator.Search.{position_from_yields_List}
use Rattle.text.specs.ByteLaws.{run_first}
use Rattle.print.specs.NameRows.{no_space}
use Rattle.print.proofs.name.solid_size.Goals as goal

twice : (b : Bool) → not (not b) ≡ b
twice true = refl
twice false = refl

pub returns : goal.returns
returns c =
    let e : c.position.result ≡ position (λ b. not (no_space b)) c.args.row.now = position_from_yields_List (λ b. not (no_space b)) _ _ c.position.result c.position.ensures.ran (YieldsList-from_slice c.args.row.now (cc)) (λ x b q k. simp twice (search (rules, tests))) in
    c.unwrap_or.ensures ∙ run_first no_space c.args.row.now c.position.result e
