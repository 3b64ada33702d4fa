-- Loading: text to code, line and set, over the lines of the grammar that the text's lines are written as (document 01, "Lines of text" and "Codes"; document 02, Req 03 and Req 08). Definitions only.
use Rattle.std.specs.Prelude.{Bool, true, false, ◌&&◌, List, [], ◌∷◌, ◌++◌, ℕ, zero, suc, ◌-◌, eqb, ltb, length, get_or, set}
use Rattle.std.proofs.Math.Option.{Option, none, some}
use Rattle.values.specs.Codes.{too_long, too_many_lines, makes_no_token, too_deep, not_in_grammar, used_above, not_in_set, wrong_curve}
use Rattle.tokens.specs.Token.{END, FCTDEF, max_lines, text_size}
use Rattle.tokens.specs.SingleFault.{opens_too_many}
use Rattle.grammar.specs.Tree.{Line, Definition, tree_number}
use Rattle.grammar.specs.TreeFault.{line_fault, definition_fault}
use Rattle.grammar.specs.TreeNames.{Name, names_in, each_known}
use Rattle.grammar.specs.TreeOf.{tree_of, definition_of}
use Rattle.engine.specs.Set.{is_known, is_defined, name_table, empty_set}
use Rattle.engine.specs.State.{power_on}
use Rattle.text.specs.Tokens.{Tokens, tokens_of}
use Rattle.text.specs.Lines.{Numbered, token_lines}
use Rattle.reader.specs.declared.load_text.Loaded.{Loaded}
use Rattle.reader.specs.Row.{Row, Kept, nothing, curves_there, numbers_of, by_number, set_of}

-- ---- a numbered line by itself: its lowest fault of 4 to 10, or 14

-- 5 if there is no line of the grammar; else its lowest fault of 6 to 10, or 14
abbrev pub tree_fault : Option Line → ℕ
tree_fault none = not_in_grammar
tree_fault (some l) = line_fault l

-- 4 to 10 and 14 of a line's tokens: 4 if they open too many brackets; else those of the line that is written as them
unfoldable pub fault_of : List ℕ → ℕ
fault_of ts = elim (opens_too_many ts 0) [ true ↦ too_deep | false ↦ tree_fault (tree_of ts) ]

abbrev pub number_of_tree : Option Line → ℕ
number_of_tree none = 0
number_of_tree (some l) = tree_number l

-- the number of the line that is written as some tokens
abbrev pub number_in : List ℕ → ℕ
number_in ts = number_of_tree (tree_of ts)

abbrev pub names_of_tree : Option Line → List Name
names_of_tree none = []
names_of_tree (some l) = names_in l

-- what the line that is written as some tokens names is all known
abbrev pub are_known : (ℕ → ℕ → Bool) → List ℕ → Bool
are_known known ts = each_known known (names_of_tree (tree_of ts))

-- ---- a line FCTDEF by itself: its lowest fault of 4, 5, 7 and 13

-- 5 if there is no definition of the grammar; else its lowest fault of 7 and 13
abbrev pub defined_fault : Option Definition → ℕ
defined_fault none = not_in_grammar
defined_fault (some d) = definition_fault d

unfoldable pub curve_fault_of : List ℕ → ℕ
curve_fault_of ts = elim (opens_too_many ts 0) [ true ↦ too_deep | false ↦ defined_fault (definition_of ts) ]

abbrev pub number_defined : Option Definition → ℕ
number_defined none = 0
number_defined (some d) = d.number

-- the number of the curve that some tokens define
abbrev pub curve_number_in : List ℕ → ℕ
curve_number_in ts = number_defined (definition_of ts)

-- ---- a line below others: the first of 3 to 10, 14, 11 and 13

-- a line FCTDEF: 13 also if its curve is defined above
unfoldable pub curve_below : List (List ℕ) → List ℕ → ℕ
curve_below cs ts =
    elim (curve_fault_of ts) [
      | zero ↦ elim (is_defined (curves_there cs) (curve_number_in ts)) [ true ↦ wrong_curve | false ↦ 0 ]
      | suc k ↦ suc k
    ]

-- every line is known, and of the curves those that are there
abbrev pub curve_table : List (List ℕ) → ℕ → ℕ → Bool
curve_table cs = name_table (λ n. true) (is_defined (curves_there cs))

-- a numbered line: 11 if its number is used above; 13 if it names a curve that is not defined above
unfoldable pub line_below : Kept → List ℕ → ℕ
line_below k ts =
    elim (fault_of ts) [
      | zero ↦
          elim (is_known (numbers_of k.rows) (number_in ts)) [
            | true ↦ used_above
            | false ↦ elim (are_known (curve_table k.curves) ts) [ true ↦ 0 | false ↦ wrong_curve ]
          ]
      | suc j ↦ suc j
    ]

-- a line defines a curve: its first token is FCTDEF, and no numbered line stands above it (below one, FCTDEF begins no line of the grammar: 5)
abbrev pub defines : Kept → List ℕ → Bool
defines k ts = eqb (length k.rows) 0 && eqb (get_or ts 0 END) FCTDEF

-- 4 to 11, 13 and 14 of a line's tokens, below what is kept
unfoldable pub tokens_fault : Kept → List ℕ → ℕ
tokens_fault k ts = elim (defines k ts) [ true ↦ curve_below k.curves ts | false ↦ line_below k ts ]

-- and 3
unfoldable pub fault_below : Kept → Tokens → ℕ
fault_below k ts = elim ts.good [ true ↦ tokens_fault k ts.list | false ↦ makes_no_token ]

-- ---- a text

-- what is taken of it, or the code and the line that refuse the text
pub data Outcome : Type 0 where
  taken : Kept → Outcome
  refused : ℕ → ℕ → Outcome

-- a numbered line, as it is taken
abbrev pub row_of : Numbered → Row
row_of l = record { place = l.place; number = number_in (tokens_of l.body).list; tokens = (tokens_of l.body).list }

abbrev pub with_row : Kept → Row → Kept
with_row k r = record { curves = k.curves; rows = k.rows ++ (r ∷ []) }

abbrev pub with_curve : Kept → List ℕ → Kept
with_curve k ts = record { curves = set k.curves (curve_number_in ts - 1) ts; rows = k.rows }

-- what is kept with a line more
unfoldable pub kept_with : Kept → Numbered → Kept
kept_with k l = elim (defines k (tokens_of l.body).list) [ true ↦ with_curve k (tokens_of l.body).list | false ↦ with_row k (row_of l) ]

-- the first faulty line below what is kept
unfoldable pub rows_from : Kept → List Numbered → Outcome
rows_from k [] = taken k
rows_from k (l ∷ ls) =
    elim (fault_below k (tokens_of l.body)) [
      | zero ↦ rows_from (kept_with k l) ls
      | suc f ↦ refused (suc f) l.place
    ]

-- the place of the first of some lines that does not pass a test; 0 if each does
unfoldable pub first_not : (Row → Bool) → List Row → ℕ
first_not is [] = 0
first_not is (r ∷ rs) = elim (is r) [ true ↦ first_not is rs | false ↦ r.place ]

abbrev pub is_named : (ℕ → ℕ → Bool) → Row → Bool
is_named known r = are_known known r.tokens

-- 12: the place of the first line with a name that is not known; 0 if there is none
abbrev pub first_unknown : (ℕ → ℕ → Bool) → List Row → ℕ
first_unknown known rs = first_not (is_named known) rs

-- the names of lines and curves that are known of what is kept; those of curves were asked line by line
abbrev pub kept_table : Kept → ℕ → ℕ → Bool
kept_table k = name_table (is_known (numbers_of k.rows)) (is_defined (curves_there k.curves))

unfoldable pub named : Outcome → Outcome
named (taken k) = elim (first_unknown (kept_table k) k.rows) [ zero ↦ taken k | suc j ↦ refused not_in_set (suc j) ]
named (refused c k) = refused c k

-- 1 and 2 with line 0, first; then the first faulty line; then 12
unfoldable pub outcome : List ℕ → Outcome
outcome t =
    elim (ltb text_size (length t)) [
      | true ↦ refused too_long 0
      | false ↦
          elim (ltb max_lines (length (token_lines t))) [
            | true ↦ refused too_many_lines 0
            | false ↦ named (rows_from nothing (token_lines t))
          ]
    ]

-- ---- what loading answers, and the set

abbrev pub answered : ℕ → ℕ → Loaded
answered c k = record { code = c; line = k; state = power_on }

unfoldable pub load_answer : List ℕ → Loaded
load_answer t = elim (outcome t) [ taken k ↦ answered 0 0 | refused c k ↦ answered c k ]

unfoldable pub load_set : List ℕ → List ℕ
load_set t = elim (outcome t) [ taken k ↦ set_of k.curves (by_number k.rows) | refused c j ↦ empty_set ]
