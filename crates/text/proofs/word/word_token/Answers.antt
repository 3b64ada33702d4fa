-- `word::word_token`: what one part of the table finds, else the next; WordLaws has the law.
use Rattle.std.proofs.Common.{◌≡◌, refl, ◌++◌, ℕ, Some, MatchOption, rules}
use Rattle.text.specs.Word.{keywords, variables, actions, axes, token_in, some_token, word_token}
use Rattle.text.specs.WordLaws.{joined}
use Rattle.text.proofs.word.word_token.Goals as goal

pub returns : goal.returns
unfolding word_token
returns c =
    let w = c.args.word.now in
    let v : MatchOption c.keyword.result (c.or_else.result ≡ some_token (token_in variables w)) (λ (t : ℕ). c.or_else.result ≡ Some t) = search rules in
    let k : MatchOption c.or_else.result (c.or_else-2.result ≡ some_token (token_in actions w)) (λ (t : ℕ). c.or_else-2.result ≡ Some t) = search rules in
    let x : MatchOption c.or_else-2.result (c.or_else-3.result ≡ some_token (token_in axes w)) (λ (t : ℕ). c.or_else-3.result ≡ Some t) = search rules in
    let a = joined keywords variables w refl c.keyword.result c.or_else.result c.keyword.ensures v in
    let b = joined (keywords ++ variables) actions w refl c.or_else.result c.or_else-2.result a k in
    joined (keywords ++ variables ++ actions) axes w refl c.or_else-2.result c.or_else-3.result b x
