-- `scan::number_with`: the token of the digits before and behind the point; FirstLaws has the laws.
use Rattle.std.proofs.Common.{sym, ap, ◌∙◌, ℕ}
use Rattle.text.specs.First.{found}
use Rattle.text.specs.FirstLaws.{found_some, no-letter}
use Rattle.text.specs.NumberLaws.{number_real}
use Rattle.text.proofs.scan.number_with.Goals as goal

pub returns : goal.returns
returns c =
    found_some c.number_token-token.result c.number_end-size.result (λ z. number_real _ _ (sym c.number_token-token.ensures ∙ z)) ∙
    ap (λ (k : ℕ). found k c.number_end-size.result) c.number_token-token.ensures ∙
    no-letter c.args.part.now c.args.n c.args.m c.number_end-size.result c.number_end-size.ensures (sym c.is_letter_at.ensures ∙ c.if-is_letter_at.false)
