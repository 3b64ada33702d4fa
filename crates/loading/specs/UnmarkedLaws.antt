-- Laws of lines and definitions without marks, as of any change that keeps whole numbers and values: their tokens are those of the text without marks, no fault sees a mark, and no curve does.
-- Nothing is assumed.
use Rattle.std.specs.Prelude.{◌≡◌, refl, List, [], ◌∷◌, map, ℕ, ◌+◌, ◌-◌, ◌%◌}
use Rattle.std.proofs.Common.{sym, ◌∙◌, arith, leb-true}
use Rattle.values.specs.Choice.{decide, chosen, refused}
use Rattle.tokens.specs.Token.{NUMBER, is_number, number_carried}
use Rattle.grammar.specs.Tree.{Line, line_tokens, Definition, definition_front}
use Rattle.grammar.specs.TreeFault.{line_fault, definition_fault}
use Rattle.grammar.specs.NumbersTo.{token_to}
use Rattle.grammar.specs.NumbersToLaws.{Keeps, to-tokens, to-fault, to-definition-tokens, to-definition-fault}
use Rattle.engine.specs.Set.{without_mark}
use Rattle.loading.specs.Unmarked.{unmarked, unmarked_tree, unmarked_definition}

-- a mark is no part of a value, and a whole number has none
pub unmarked-keeps : Keeps unmarked
unmarked-keeps = record { whole = λ n. omega arith; value = λ n. omega arith }

-- a token without its mark
pub without-mark : (t : ℕ) → without_mark t ≡ token_to unmarked t
unfolding without_mark token_to
without-mark t =
    decide _ (is_number t)
    (λ e. let l = leb-true NUMBER t e in let n : t - t % 2 ≡ NUMBER + unmarked (number_carried t) = omega arith in chosen _ _ _ e ∙ n ∙ sym (chosen _ _ _ e))
    (λ e. refused _ _ _ e ∙ sym (refused _ _ _ e))

pub without-marks : (l : List ℕ) → map without_mark l ≡ map (token_to unmarked) l
without-marks [] = refl
without-marks (t ∷ l) = rw (without-mark t, without-marks l)

-- the tokens of a line without marks
pub unmarked-tokens : (l : Line) → map without_mark (line_tokens l) ≡ line_tokens (unmarked_tree l)
unmarked-tokens l = without-marks (line_tokens l) ∙ to-tokens unmarked unmarked-keeps l

-- a line without marks has the same fault
pub unmarked-fault : (l : Line) → line_fault (unmarked_tree l) ≡ line_fault l
unmarked-fault l = to-fault unmarked unmarked-keeps l

-- so of a definition
pub unmarked-front : (d : Definition) → map without_mark (definition_front d) ≡ definition_front (unmarked_definition d)
unmarked-front d = without-marks (definition_front d) ∙ to-definition-tokens unmarked unmarked-keeps d

pub unmarked-definition-fault : (d : Definition) → definition_fault (unmarked_definition d) ≡ definition_fault d
unmarked-definition-fault d = to-definition-fault unmarked unmarked-keeps d
