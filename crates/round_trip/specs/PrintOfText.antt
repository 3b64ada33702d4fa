-- WHAT A TEXT PRINTS once it is loaded: its definitions by rising number, then its lines by rising number; and the empty set, which a text that is refused gives, prints nothing (document 02, Req 01 and Req 03). Theorems; nothing is assumed.
use Rattle.std.specs.Prelude.{◌≡◌, List, [], ◌++◌, map, ℕ}
use Rattle.std.proofs.Common.{sym, ap, subst, ◌∙◌}
use Rattle.grammar.specs.Tree.{Line, Definition, definition_front}
use Rattle.grammar.specs.ClosedTokens.{front}
use Rattle.text.specs.Lines.{token_lines}
use Rattle.reader.specs.Row.{by_number}
use Rattle.reader.specs.Load.{refused, outcome, load_set}
use Rattle.loading.specs.TextTrees.{Distinct, rising_trees, rising_definitions, row_lines, Takes}
use Rattle.loading.specs.TakenLaws.{kept_of}
use Rattle.loading.specs.TextLinesLaws.{text-lines}
use Rattle.loading.specs.TextByTrees.{trees-rows, takes-rows}
use Rattle.loading.specs.LoadAnswers.{refused-empty}
use Rattle.loading.specs.LoadedLaws.{rows_apart}
use Rattle.loading.specs.RisingTreesLaws.{by_order, good-pairs, pairs-order, rising-definitions}
use Rattle.print.specs.PrintText.{rows_text, print_text}
use Rattle.round_trip.specs.LoadedRowsLaws.{tokens, loaded-print, empty-print}
use Rattle.round_trip.specs.PrintTakenLaws.{pairs-fronts}

-- A TEXT THAT IS TAKEN, as the definitions ds and the lines xs, prints the definitions by rising number, then the lines by rising number
pub print-of-text : (t : List ℕ) (ds : List Definition) (xs : List Line) → Takes t ds xs → print_text (load_set t) ≡ rows_text (map definition_front (rising_definitions ds) ++ map front (rising_trees xs))
print-of-text t ds xs y =
    let rs = (kept_of t).rows in
    let h = takes-rows t ds xs y in
    let (apart, few) = rows_apart t (kept_of t) h in
    let n = (trees-rows t ds xs y.lines).1.rows in
    let e = by_order rs few apart (subst Distinct (sym n) y.lines.distinct) in
    let p = pairs-order xs rs (good-pairs (row_lines (token_lines t)) xs (text-lines (token_lines t) ds xs y.lines.good)) in
    loaded-print t (kept_of t) h
    ∙ ap (λ (l : List (List ℕ)). rows_text (l ++ map tokens (by_number rs))) (rising-definitions t ds xs y.lines)
    ∙ ap (λ (l : List (List ℕ)). rows_text (map definition_front (rising_definitions ds) ++ l)) (ap (map tokens) e ∙ pairs-fronts (rising_trees xs) _ p)

-- ONE THAT IS REFUSED prints nothing
pub refused-print : (t : List ℕ) (c k : ℕ) → outcome t ≡ refused c k → print_text (load_set t) ≡ []
refused-print t c k h = rw (refused-empty t c k h) empty-print
