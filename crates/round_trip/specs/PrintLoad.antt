-- LOADING A PRINT GIVES THE SAME SET, AND PRINTING THAT THE SAME BYTES (document 02, Req 01): of every sound set whose print has at most 4,096 bytes; of a set from text, the whole array. Theorems; nothing is assumed.
use Rattle.std.specs.Prelude.{◌≡◌, refl, true, List, [], ◌∷◌, ◌++◌, map, ℕ, ◌≤◌, length, is_some}
use Rattle.std.proofs.Common.{sym, ◌∙◌, arith}
use Rattle.std.proofs.Math.Path.{ap}
use Rattle.std.proofs.lemmas.List.{map-append}
use Rattle.tokens.specs.Token.{set_size, text_size, max_curves}
use Rattle.grammar.specs.Tree.{Line, tree_number, Definition, definition_front}
use Rattle.grammar.specs.ClosedTokens.{front}
use Rattle.engine.specs.Set.{without_mark, sound_lines, lines_of}
use Rattle.reader.specs.Row.{Row, Kept, by_number, set_of}
use Rattle.reader.specs.Load.{taken, outcome, load_answer, load_set}
use Rattle.loading.specs.TextTrees.{curve_number, RisesBy}
use Rattle.loading.specs.TakenLaws.{there_of, kept_of}
use Rattle.loading.specs.LoadAnswers.{taken-answer, refused-empty, by-outcome}
use Rattle.loading.specs.LoadedLaws.{curves-three}
use Rattle.loading.specs.LoadedSound.{load-lines-sound, load-size}
use Rattle.loading.specs.LoadedLines.{load-lines}
use Rattle.print.specs.PrintText.{line_rows, rows_of, rows_text, print_text}
use Rattle.round_trip.specs.RoundTrip.{SameRows, Passes}
use Rattle.round_trip.specs.MarkLaws.{unmarked-twice, rows-unmarked}
use Rattle.round_trip.specs.SetTreesLaws.{SetTrees, sound-set-trees}
use Rattle.round_trip.specs.LoadedRowsLaws.{held_row, loaded_lines, loaded-rows, same_set, empty-print, empty-loaded}
use Rattle.round_trip.specs.PrintTakenLaws.{remarked_tree, remarked_definition, text-passes, print-taken, held-lines, held-curves, are-definitions}
use Rattle.round_trip.specs.CurveSlotsLaws.{AreCurves, held-are, printed-are, curves-same}
use Rattle.round_trip.specs.PrintFits.{print-fits}

-- rows without marks, twice
rows-twice : (rs : List (List ℕ)) → map (map without_mark) (map (map without_mark) rs) ≡ map (map without_mark) rs
rows-twice [] = refl
rows-twice (r ∷ rs) = rw (unmarked-twice r, rows-twice rs)

held-twice : (rs : List Row) → map (map without_mark) (map held_row rs) ≡ map held_row rs
held-twice [] = refl
held-twice (r ∷ rs) = rw (unmarked-twice r.tokens, held-twice rs)

module _ (s : List ℕ) (size : length s ≤ set_size) (sound : is_some (sound_lines s) ≡ true) where
  abbrev ds : List Definition
  ds = (sound-set-trees s size sound).0

  abbrev xs : List Line
  xs = (sound-set-trees s size sound).1

  abbrev whole : SetTrees s size sound ds xs
  whole = (sound-set-trees s size sound).2

  abbrev fronts : List (List ℕ)
  fronts = map definition_front ds ++ map front xs

  abbrev again : Kept
  again = kept_of (print_text s)

  print-is : print_text s ≡ rows_text fronts
  unfolding print_text
  print-is = ap rows_text whole.rows

  -- A SOUND SET IS PRINTED BY RISING NUMBER, its curves and behind them its lines, written as their trees are
  pub print-rises : (es : List Definition) × (ys : List Line) × (print_text s ≡ rows_text (map definition_front es ++ map front ys)) × RisesBy curve_number 0 es × RisesBy tree_number 0 ys
  print-rises = (ds, xs, print-is, whole.trees.order, whole.trees.rising)

  -- WRITTEN AS TEXT, A SOUND SET PASSES EACH LOADING CHECK, from 2 on, however long the text
  pub print-passes : (es : List Definition) × (ys : List Line) × Passes (print_text s) es ys
  print-passes = (map remarked_definition ds, map remarked_tree xs, rw print-is (text-passes ds xs whole.trees))

  module _ (short : length (print_text s) ≤ text_size) where
    fits : length (rows_text fronts) ≤ text_size
    fits = let n = ap length print-is in omega arith

    taken-again : outcome (print_text s) ≡ taken again
    taken-again = rw print-is (print-taken ds xs whole.trees fits)

    -- its lines and its curves are those that were printed, without marks
    lines-again : map held_row (by_number again.rows) ≡ map (map without_mark) (map front xs)
    lines-again = rw print-is (held-lines ds xs whole.trees fits)

    curves-again : map (map without_mark) (there_of again.curves) ≡ map (map without_mark) (map definition_front ds)
    curves-again = rw print-is (held-curves ds xs whole.trees fits)

    slots-again : AreCurves s again.curves
    slots-again n l m = printed-are s ds whole.curves again.curves (rw print-is (are-definitions ds xs whole.trees fits)) n l m

    rows-again : rows_of (load_set (print_text s)) ≡ map (map without_mark) (rows_of s)
    rows-again =
        loaded-rows (print_text s) again taken-again
        ∙ rw (lines-again, curves-again) (sym (map-append (map without_mark) (map definition_front ds) (map front xs)))
        ∙ ap (map (map without_mark)) (sym whole.rows)

    -- A PRINT IS TAKEN AGAIN and gives the same set, row by row
    pub print-load : ((load_answer (print_text s)).code ≡ 0) × SameRows (load_set (print_text s)) s
    print-load = ((taken-answer (print_text s) again taken-again).0, ap (map (map without_mark)) rows-again ∙ rows-twice (rows_of s))

    -- THE PRINT OF WHAT A PRINT LOADS is the same bytes
    pub print-again : print_text (load_set (print_text s)) ≡ print_text s
    unfolding print_text
    print-again = ap rows_text rows-again ∙ rows-unmarked (rows_of s)

    -- what the print gives is told by the rows: a set of curves and lines that are those of s is what its print loads
    set_same : (cs : List (List ℕ)) (rs : List Row) → length cs ≡ max_curves → AreCurves s cs → line_rows s (lines_of s).count 0 ≡ map held_row rs → load_set (print_text s) ≡ set_of cs rs
    set_same cs rs n a e =
        (taken-answer (print_text s) again taken-again).2
        ∙ same_set again.curves cs (by_number again.rows) rs
        (curves-same s again.curves cs (curves-three (print_text s) again taken-again) n slots-again a)
        (lines-again ∙ ap (map (map without_mark)) (sym whole.lines ∙ e) ∙ held-twice rs)

-- ---- a set from text

taken-same : (t : List ℕ) (q : Kept) → outcome t ≡ taken q → load_set (print_text (load_set t)) ≡ load_set t
taken-same t q h =
    let n = load-size t in
    set_same (load_set t) (omega arith) (load-lines-sound t) (print-fits t) q.curves (by_number q.rows) (curves-three t q h) (held-are (load_set t) q (load-lines t q h).3) (loaded_lines t q h)
    ∙ sym (taken-answer t q h).2

module _ (t : List ℕ) where
  -- WHATEVER THE TEXT, the print of its set is taken,
  pub print-taken-again : (load_answer (print_text (load_set t))).code ≡ 0
  print-taken-again = let n = load-size t in (print-load (load_set t) (omega arith) (load-lines-sound t) (print-fits t)).0

  -- gives the same array,
  pub print-same : load_set (print_text (load_set t)) ≡ load_set t
  print-same =
      by-outcome _ t
      (λ q h. taken-same t q h)
      (λ c k h. rw (refused-empty t c k h, empty-print) empty-loaded)

  -- and that prints the same bytes
  pub print-same-again : print_text (load_set (print_text (load_set t))) ≡ print_text (load_set t)
  print-same-again = ap print_text print-same
