-- Laws of the print of definitions and lines without a fault, by rising number, that name only each other: it passes each loading check but that of its length; if it is short enough, it is taken,
-- and the set that it gives holds these curves and lines. Nothing is assumed.
use Rattle.std.specs.Prelude.{◌≡◌, refl, Bool, true, List, [], ◌∷◌, ◌++◌, map, ℕ, suc, ◌≤◌, eqb, length}
use Rattle.std.proofs.Common.{sym, ap, subst, ◌∙◌, arith, length-append}
use Rattle.std.proofs.lemmas.List.{length-map}
use Rattle.tokens.specs.Token.{SYNFCT, is_lock, text_size}
use Rattle.tokens.specs.SingleFault.{opens_too_many}
use Rattle.grammar.specs.Tree.{Line, tree_number, Definition, definition_front}
use Rattle.grammar.specs.TreeNames.{Name, names_in}
use Rattle.grammar.specs.ClosedTokens.{front, front-end}
use Rattle.grammar.specs.NumbersTo.{numbers_to, definition_to}
use Rattle.grammar.specs.NumbersToLaws.{to-opens, to-fault, to-definition-fault, to-line-number, to-names-in}
use Rattle.grammar.specs.TreeOfLaws.{written-front}
use Rattle.engine.specs.Set.{without_mark, with_end}
use Rattle.soundness.specs.AnswerCodes.{OneOf}
use Rattle.text.specs.Tokens.{Tokens, tokens_of}
use Rattle.text.specs.Lines.{token_lines}
use Rattle.reader.specs.Row.{Row, by_number}
use Rattle.reader.specs.Load.{taken, outcome}
use Rattle.loading.specs.TextTrees.{Distinct, curve_number, RisesBy, numbers_named, GoodLine, GoodCurve, GoodLines, GoodText, AllNameOnly, AllUseOnly, row_lines, curve_lines, Takes}
use Rattle.loading.specs.TextLinesLaws.{text-lines, text-curves}
use Rattle.loading.specs.TextByTrees.{trees-rows, takes-rows}
use Rattle.loading.specs.TakenLaws.{there_of, kept_of}
use Rattle.loading.specs.LoadedLaws.{rows_apart}
use Rattle.loading.specs.LoadedCurves.{AreDefinitions}
use Rattle.loading.specs.TextCurvesLaws.{good-definitions}
use Rattle.loading.specs.RisingTreesLaws.{rises-distinct, rises-order, by_order, Pairs, good-pairs, rising-definitions}
use Rattle.print.specs.TokenText.{line_text}
use Rattle.print.specs.PrintText.{rows_text}
use Rattle.print.specs.ReadBack.{read_back}
use Rattle.round_trip.specs.RoundTrip.{Passes}
use Rattle.round_trip.specs.MarkLaws.{remarked, remarked-keeps, back_to, backs-unmarked}
use Rattle.round_trip.specs.FrontLaws.{front-back, definition-back}
use Rattle.round_trip.specs.SetTreesLaws.{GoodTree, GoodTrees, GoodDefinition, GoodDefinitions, SoundTrees}
use Rattle.round_trip.specs.PrintedLinesLaws.{Readable, row_read, printed_lines, print-lines, line-readable, curve-readable, all-readable}
use Rattle.round_trip.specs.LoadedRowsLaws.{tokens, held_row, held-unmarked}

-- ---- each line

-- a line as its print is read: a number has the mark of a written point just where it has a fraction
abbrev pub remarked_tree : Line → Line
remarked_tree = numbers_to remarked

abbrev pub remarked_definition : Definition → Definition
remarked_definition = definition_to remarked

-- what is read of a row that is printed
module _ (r : List ℕ) (h : Readable r) where
  tokens-back : (tokens_of (line_text r)).list ≡ map read_back r
  tokens-back = ap (λ (t : Tokens). t.list) (row_read r h)

  tokens-good : (tokens_of (line_text r)).good ≡ true
  tokens-good = ap (λ (t : Tokens). t.good) (row_read r h)

  opens_back : opens_too_many (tokens_of (line_text r)).list 0 ≡ opens_too_many r 0
  opens_back = rw (tokens-back, back_to r) (to-opens remarked remarked-keeps r 0)

good-line : (k : ℕ) (x : Line) → GoodTree x → GoodLine (record { place = k; body = line_text (front x) }) (remarked_tree x)
good-line k x g =
    let h = line-readable x g in
    record {
      tokens = tokens-good (front x) h;
      shallow = opens_back (front x) h ∙ g.shallow;
      written = front-end (remarked_tree x) ∙ ap with_end (sym (tokens-back (front x) h ∙ front-back x));
      faultless = to-fault remarked remarked-keeps x ∙ g.faultless;
    }

good-curve : (k : ℕ) (d : Definition) → GoodDefinition d → GoodCurve (record { place = k; body = line_text (definition_front d) }) (remarked_definition d)
good-curve k d g =
    let h = curve-readable d g in
    record {
      tokens = tokens-good (definition_front d) h;
      shallow = opens_back (definition_front d) h ∙ g.shallow;
      written = sym (tokens-back (definition_front d) h ∙ definition-back d);
      faultless = to-definition-fault remarked remarked-keeps d ∙ g.faultless;
    }

-- ---- all lines

good-lines : (xs : List Line) (k : ℕ) → GoodTrees xs → GoodLines (printed_lines k (map front xs)) (map remarked_tree xs)
good-lines [] k g = tt
good-lines (x ∷ xs) k g = (good-line k x g.0, good-lines xs (suc k) g.1)

good-text : (ds : List Definition) (xs : List Line) (k : ℕ) → GoodDefinitions ds → GoodTrees xs → GoodText (printed_lines k (map definition_front ds ++ map front xs)) (map remarked_definition ds) (map remarked_tree xs)
good-text [] xs k g h = good-lines xs k h
good-text (d ∷ ds) xs k g h = (good-curve k d g.0, good-text ds xs (suc k) g.1 h)

same_numbers : (xs : List Line) → map tree_number (map remarked_tree xs) ≡ map tree_number xs
same_numbers [] = refl
same_numbers (x ∷ xs) = rw (to-line-number remarked x, same_numbers xs)

same-curves : (ds : List Definition) → map curve_number (map remarked_definition ds) ≡ map curve_number ds
unfolding definition_to
same-curves [] = refl
same-curves (d ∷ ds) = rw (same-curves ds)

-- what is read names what was printed
named_back : (is : ℕ → Bool) (x : Line) (n : ℕ) → OneOf n (numbers_named is (names_in (remarked_tree x))) → OneOf n (numbers_named is (names_in x))
named_back is x n o = subst (λ (l : List Name). OneOf n (numbers_named is l)) (to-names-in remarked x) o

same-named : (ns : List ℕ) (xs : List Line) → AllNameOnly ns xs → AllNameOnly ns (map remarked_tree xs)
same-named ns [] h = tt
same-named ns (x ∷ xs) h = ((λ n o. h.0 n (named_back is_lock x n o)), same-named ns xs h.1)

same-used : (cs : List ℕ) (xs : List Line) → AllUseOnly cs xs → AllUseOnly cs (map remarked_tree xs)
same-used cs [] h = tt
same-used cs (x ∷ xs) h = ((λ n o. h.0 n (named_back (λ w. eqb w SYNFCT) x n o)), same-used cs xs h.1)

-- ---- by rising number

abbrev number : Row → ℕ
number r = r.number

lines-rise : (xs : List Line) (n : ℕ) → RisesBy tree_number n xs → RisesBy tree_number n (map remarked_tree xs)
lines-rise [] n h = tt
lines-rise (x ∷ xs) n h = rw (to-line-number remarked x) (h.0, lines-rise xs (tree_number x) h.1)

curves-rise : (ds : List Definition) (n : ℕ) → RisesBy curve_number n ds → RisesBy curve_number n (map remarked_definition ds)
unfolding definition_to
curves-rise [] n h = tt
curves-rise (d ∷ ds) n h = (h.0, curves-rise ds d.number h.1)

rows-rise : (xs : List Line) (rs : List Row) (n : ℕ) → Pairs xs rs → RisesBy tree_number n xs → RisesBy number n rs
rows-rise [] [] n p h = tt
rows-rise [] (r ∷ rs) n p h = absurd p
rows-rise (x ∷ xs) [] n p h = absurd p
rows-rise (x ∷ xs) (r ∷ rs) n p h = rw p.1 (h.0, rows-rise xs rs (tree_number x) p.2 h.1)

-- the tokens of rows are those of their lines
pub pairs-fronts : (xs : List Line) (rs : List Row) → Pairs xs rs → map tokens rs ≡ map front xs
pairs-fronts [] [] h = refl
pairs-fronts [] (r ∷ rs) h = absurd h
pairs-fronts (x ∷ xs) [] h = absurd h
pairs-fronts (x ∷ xs) (r ∷ rs) h = rw (written-front x r.tokens h.0, pairs-fronts xs rs h.2)

-- without marks they are those of what was printed
lines-back : (xs : List Line) → map (map without_mark) (map front (map remarked_tree xs)) ≡ map (map without_mark) (map front xs)
lines-back [] = refl
lines-back (x ∷ xs) = rw (← (front-back x), backs-unmarked (front x), lines-back xs)

curves-back : (ds : List Definition) → map (map without_mark) (map definition_front (map remarked_definition ds)) ≡ map (map without_mark) (map definition_front ds)
curves-back [] = refl
curves-back (d ∷ ds) = rw (← (definition-back d), backs-unmarked (definition_front d), curves-back ds)

-- ---- the print passes

lines-length : (rs : List (List ℕ)) (k : ℕ) → length (printed_lines k rs) ≡ length rs
lines-length [] k = refl
lines-length (r ∷ rs) k = ap suc (lines-length rs (suc k))

module _ (ds : List Definition) (xs : List Line) (trees : SoundTrees ds xs) where
  abbrev fronts : List (List ℕ)
  fronts = map definition_front ds ++ map front xs

  abbrev text : List ℕ
  text = rows_text fronts

  abbrev definitions : List Definition
  definitions = map remarked_definition ds

  abbrev lines : List Line
  lines = map remarked_tree xs

  text-lines-are : token_lines text ≡ printed_lines 1 fronts
  text-lines-are = print-lines fronts (all-readable ds xs trees.curves trees.good)

  -- EACH LOADING CHECK but that of its length
  pub text-passes : Passes text definitions lines
  text-passes =
      let e = text-lines-are in
      let n = lines-length fronts 1 in
      let a = length-append (map definition_front ds) (map front xs) in
      let b = length-map ds definition_front in
      let c = length-map xs front in
      let m = same_numbers xs in
      let k = same-curves ds in
      let f = trees.few in
      record {
        few = rw e (omega arith);
        good = rw e (good-text ds xs 1 trees.curves trees.good);
        distinct = rw m (rises-distinct tree_number xs 0 trees.rising);
        apart = rw k (rises-distinct curve_number ds 0 trees.order);
        uses = rw k (same-used (map curve_number ds) xs trees.uses);
        named = rw m (same-named (map tree_number xs) xs trees.named);
      }

  module _ (short : length text ≤ text_size) where
    pub text-takes : Takes text definitions lines
    text-takes =
        let p = text-passes in
        record {
          lines = record { small = record { short = short; few = p.few }; good = p.good; distinct = p.distinct; apart = p.apart; uses = p.uses };
          named = p.named;
        }

    -- THE PRINT IS TAKEN,
    pub print-taken : outcome text ≡ taken (kept_of text)
    print-taken = takes-rows text definitions lines text-takes

    abbrev rows : List Row
    rows = (kept_of text).rows

    pairs : Pairs lines rows
    pairs = good-pairs (row_lines (token_lines text)) lines (text-lines (token_lines text) definitions lines text-takes.lines.good)

    -- its lines stand by rising number,
    rows-order : by_number rows ≡ rows
    rows-order =
        let (apart, n) = rows_apart text (kept_of text) print-taken in
        let d = (trees-rows text definitions lines text-takes.lines).1.rows in
        by_order rows n apart (subst Distinct (sym d) text-takes.lines.distinct) ∙ rises-order number rows 0 (rows-rise lines rows 0 pairs (lines-rise xs 0 trees.rising))

    -- its lines are those that were printed, without marks,
    pub held-lines : map held_row (by_number rows) ≡ map (map without_mark) (map front xs)
    held-lines = ap (map held_row) rows-order ∙ held-unmarked rows ∙ ap (map (map without_mark)) (pairs-fronts lines rows pairs) ∙ lines-back xs

    -- and so are its curves,
    pub held-curves : map (map without_mark) (there_of (kept_of text).curves) ≡ map (map without_mark) (map definition_front ds)
    held-curves =
        ap (map (map without_mark)) (rising-definitions text definitions lines text-takes.lines ∙ ap (map definition_front) (rises-order curve_number definitions 0 (curves-rise ds 0 trees.order)))
        ∙ curves-back ds

    -- each in the place of its number
    pub are-definitions : AreDefinitions definitions (kept_of text).curves
    are-definitions = good-definitions (curve_lines (token_lines text)) definitions (text-curves (token_lines text) definitions lines text-takes.lines.good) text-takes.lines.apart
