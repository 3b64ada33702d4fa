-- Laws of the lines of a sound set as trees, and of its curves: its rows are their tokens, they have no fault, their numbers rise, and they name only each other. Nothing is assumed.
use Rattle.std.specs.Prelude.{◌≡◌, refl, true, false, List, [], ◌∷◌, ◌++◌, map, ltb, leb, length, get_or, is_some}
use Rattle.std.proofs.Common.{sym, ap, subst, ◌∙◌, inl, inr, ltb-true, ltb-false, lt-ltb, leb-true, le-leb}
use Prim.Native.Nat.{ℕ, zero, suc, ◌+◌, ◌-◌, ◌≤◌, ◌<◌}
use Rattle.std.proofs.Math.Decide.{ℕ_discrete}
use native.Mathlib.Omega.{arith}
use Rattle.std.proofs.lemmas.List.{length-map}
use Rattle.values.specs.Choice.{both, decide, and-true}
use Rattle.values.specs.Numbers.{clash}
use Rattle.tokens.specs.Token.{set_size, max_lines, max_curves, is_lock}
use Rattle.tokens.specs.SingleFault.{opens_too_many}
use Rattle.checking.specs.Fault.{fault_of_line}
use Rattle.checking.specs.CurveDefinition.{fault_of_definition}
use Rattle.grammar.specs.Tree.{Line, tree_number, Definition, definition_front}
use Rattle.grammar.specs.TreeFault.{line_fault, definition_fault}
use Rattle.grammar.specs.TreeNames.{names_in, each_known}
use Rattle.grammar.specs.ClosedTokens.{front, front-end}
use Rattle.grammar.specs.StandsLaws.{opens-stands}
use Rattle.grammar.specs.AgreementLine.{not-deep}
use Rattle.engine.specs.Set.{start_of, rank_in, is_known, curve_start, is_defined, curves_from, curves_in, set_table, sound_lines, lines_of, no_line}
use Rattle.grammar.specs.AgreementDefinition.{not-deep-definition}
use Rattle.engine.specs.SetLinesLaws.{lines-lined}
use Rattle.engine.specs.NamesByTreeLaws.{names-by-tree}
use Rattle.soundness.specs.AnswerCodes.{OneOf}
use Rattle.soundness.specs.SetSoundLaws.{lines-known, how_many, curve-defined, curves-few, rank-number, rank-inside}
use Rattle.turn_trees.specs.NamesLaws.{Defined}
use Rattle.turn_trees.specs.SoundTurns.{TreeAt, TreesFrom, TreesOf, tree-faultless, tree-number, tree-short, numbers-at, sound-trees}
use Rattle.turn_trees.specs.SoundCurves.{DefinitionAt, definition-faultless, definition-number, definition-found}
use Rattle.loading.specs.TextTrees.{curve_number, RisesBy, lines_named, curves_named, AllNameOnly, AllUseOnly}
use Rattle.loading.specs.TextNamesLaws.{line-names, named-positive, each_line, each-curve}
use Rattle.print.specs.PrintText.{row_at, curve_rows, line_rows, rows_of}
use Rattle.round_trip.specs.FrontLaws.{row-front, row-definition}

-- a line without a fault of 4 to 10 or 14
pub record GoodTree (x : Line) : Type 0 where
  pub faultless : line_fault x ≡ 0
  pub shallow : opens_too_many (front x) 0 ≡ false

abbrev pub GoodTrees : List Line → Type 0
GoodTrees [] = Unit {0}
GoodTrees (x ∷ xs) = GoodTree x × GoodTrees xs

-- a definition without a fault of 4, 7 and 13
pub record GoodDefinition (d : Definition) : Type 0 where
  pub faultless : definition_fault d ≡ 0
  pub shallow : opens_too_many (definition_front d) 0 ≡ false

abbrev pub GoodDefinitions : List Definition → Type 0
GoodDefinitions [] = Unit {0}
GoodDefinitions (d ∷ ds) = GoodDefinition d × GoodDefinitions ds

-- the definitions ds and the lines xs may be those of a set
pub record SoundTrees (ds : List Definition) (xs : List Line) : Type 0 where
  pub curves : GoodDefinitions ds
  pub good : GoodTrees xs
  pub order : RisesBy curve_number 0 ds
  pub rising : RisesBy tree_number 0 xs
  pub named : AllNameOnly (map tree_number xs) xs
  pub uses : AllUseOnly (map curve_number ds) xs
  pub few : length ds + length xs ≤ max_lines

-- the definitions ds are those of the curves that the set s has: each stands where the curve of its number begins, and each curve that begins somewhere has one
pub record DefinitionsIn (s : List ℕ) (ds : List Definition) : Type 0 where
  pub row : (d : Definition) → OneOf d ds → row_at s (curve_start s d.number) ≡ definition_front d
  pub begins : (d : Definition) → OneOf d ds → 0 < curve_start s d.number
  pub has : (n : ℕ) → 1 ≤ n → n ≤ max_curves → 0 < curve_start s n → (d : Definition) × OneOf d ds × (d.number ≡ n)

-- ---- which curves a set has

curves-at : (s : List ℕ) (m n j : ℕ) → get_or (curves_from s m n) j false ≡ true → (j < m) × (0 < curve_start s (n + j))
unfolding curves_from
curves-at s zero n j h = clash (cc)
curves-at s (suc m) n zero h = let z : n + 0 ≡ n = omega arith in (omega arith, rw z (ltb-true 0 (curve_start s n) h))
curves-at s (suc m) n (suc j) h = let z : n + suc j ≡ n + 1 + j = omega arith in let (a, b) = curves-at s m (n + 1) j h in (omega arith, rw z b)

at-curves : (s : List ℕ) (m n j : ℕ) → j < m → 0 < curve_start s (n + j) → get_or (curves_from s m n) j false ≡ true
unfolding curves_from
at-curves s zero n j l h = absurd (omega arith)
at-curves s (suc m) n zero l h = let z : n + 0 ≡ n = omega arith in lt-ltb 0 (curve_start s n) (rw z at h)
at-curves s (suc m) n (suc j) l h = let z : n + suc j ≡ n + 1 + j = omega arith in at-curves s m (n + 1) j (omega arith) (rw z at h)

defined-begins : (s : List ℕ) (n : ℕ) → Defined s n → (1 ≤ n) × (n ≤ max_curves) × (0 < curve_start s n)
defined-begins s n h =
    let (a, b) = both (leb 1 n) (get_or (curves_in s) (n - 1) false) h in
    let l = leb-true 1 n a in
    let (c, d) = curves-at s max_curves 1 (n - 1) b in
    let e : 1 + (n - 1) ≡ n = omega arith in
    (l, omega arith, rw e at d)

begins-defined : (s : List ℕ) (n : ℕ) → 1 ≤ n → n ≤ max_curves → 0 < curve_start s n → Defined s n
begins-defined s n l m h = let e : 1 + (n - 1) ≡ n = omega arith in and-true (le-leb 1 n l) (at-curves s max_curves 1 (n - 1) (omega arith) (rw e h))

-- ---- its curves as definitions

-- those of m curves from curve n on
record CurvesFrom (s : List ℕ) (m n : ℕ) (ds : List Definition) : Type 0 where
  rows : curve_rows s m n ≡ map definition_front ds
  good : GoodDefinitions ds
  rising : (l : ℕ) → l < n → RisesBy curve_number l ds
  many : length ds ≡ how_many (curves_from s m n)
  row : (d : Definition) → OneOf d ds → row_at s (curve_start s d.number) ≡ definition_front d
  begins : (d : Definition) → OneOf d ds → 0 < curve_start s d.number
  has : (j : ℕ) → n ≤ j → j < n + m → 0 < curve_start s j → (d : Definition) × OneOf d ds × (d.number ≡ j)

none_more : (s : List ℕ) (m n : ℕ) (ds : List Definition) → ltb 0 (curve_start s n) ≡ false → CurvesFrom s m (n + 1) ds → CurvesFrom s (suc m) n ds
unfolding curve_rows curves_from how_many
none_more s m n ds t f = record {
  rows = rw (curve_rows, t) f.rows;
  good = f.good;
  rising = λ l h. f.rising l (omega arith);
  many = let k = f.many in rw (t, curves_from, how_many) (omega arith);
  row = f.row;
  begins = f.begins;
  has = λ j a b c. at_place j a b c (ℕ_discrete j n);
}
  where
    at_place : (j : ℕ) → n ≤ j → j < n + suc m → 0 < curve_start s j → Dec (j ≡ n) → (d : Definition) × OneOf d ds × (d.number ≡ j)
    at_place j a b c (yes e) = let z = ltb-false 0 (curve_start s n) t in let w : 0 < curve_start s n = rw e at c in absurd (omega arith)
    at_place j a b c (no e) = f.has j (omega (arith, e)) (omega arith) c

module _ (s : List ℕ) (m n : ℕ) (ds : List Definition) (x : Definition) (t : ltb 0 (curve_start s n) ≡ true) (e : x.number ≡ n) (row : row_at s (curve_start s n) ≡ definition_front x) (f : CurvesFrom s m (n + 1) ds) where
  first-row : (d : Definition) → OneOf d (x ∷ ds) → row_at s (curve_start s d.number) ≡ definition_front d
  first-row d (inl i) = subst (λ (y : Definition). row_at s (curve_start s y.number) ≡ definition_front y) i (ap (λ (k : ℕ). row_at s (curve_start s k)) e ∙ row)
  first-row d (inr o) = f.row d o

  first-begins : (d : Definition) → OneOf d (x ∷ ds) → 0 < curve_start s d.number
  first-begins d (inl i) = subst (λ (y : Definition). 0 < curve_start s y.number) i (subst (λ (k : ℕ). 0 < curve_start s k) (sym e) (ltb-true 0 (curve_start s n) t))
  first-begins d (inr o) = f.begins d o

  first-has : (j : ℕ) → n ≤ j → j < n + suc m → 0 < curve_start s j → Dec (j ≡ n) → (d : Definition) × OneOf d (x ∷ ds) × (d.number ≡ j)
  first-has j a b c (yes i) = (x, inl refl, e ∙ sym i)
  first-has j a b c (no i) = let (d, o, k) = f.has j (omega (arith, i)) (omega arith) c in (d, inr o, k)

  one_more_lem : GoodDefinition x → CurvesFrom s (suc m) n (x ∷ ds)
  unfolding curve_rows curves_from how_many
  one_more_lem g = record {
    rows = rw (curve_rows, t, row, f.rows);
    good = (g, f.good);
    rising = λ l h. (omega arith, f.rising x.number (omega arith));
    many = let k = f.many in rw (t, curves_from, how_many) (omega arith);
    row = first-row;
    begins = first-begins;
    has = λ j a b c. first-has j a b c (ℕ_discrete j n);
  }

module _ (s : List ℕ) (sound : is_some (sound_lines s) ≡ true) where
  good-definition : (n : ℕ) → Defined s n → (d : Definition) → DefinitionAt s n d → GoodDefinition d
  good-definition n there d h = record {
    faultless = definition-faultless s sound n there d h;
    shallow = sym (opens-stands s (definition_front d) (curve_start s n) h.0 0 h.1) ∙ not-deep-definition s (curve_start s n) (let (_, e, _) = curve-defined s sound n there in ap fault_of_definition e);
  }

  curves-from : (m n : ℕ) → 1 ≤ n → n + m ≡ 1 + max_curves → (ds : List Definition) × CurvesFrom s m n ds
  unfolding curve_rows curves_from how_many
  curves-from zero n l e = ([], record { rows = refl; good = tt; rising = λ l h. tt; many = refl; row = λ d o. absurd o; begins = λ d o. absurd o; has = λ j a b c. absurd (omega arith) })
  curves-from (suc m) n l e =
      let (ds, f) = curves-from m (n + 1) (omega arith) (omega arith) in
      decide _ (ltb 0 (curve_start s n))
      (λ t.
      let there = begins-defined s n l (omega arith) (ltb-true 0 (curve_start s n) t) in
      let (d, h) = definition-found s sound n there in
      (d ∷ ds, one_more_lem s m n ds d t (definition-number s sound n there d h) (row-definition s d (curve_start s n) h.0 h.1) f (good-definition n there d h)))
      (λ t. (ds, none_more s m n ds t f))

one_at : (ns : List ℕ) (i n : ℕ) → i < length ns → get_or ns i 0 ≡ n → OneOf n ns
one_at [] i n l e = absurd (omega arith)
one_at (m ∷ ns) zero n l e = inl e
one_at (m ∷ ns) (suc i) n l e = inr (one_at ns i n (omega arith) e)

rows-from : (s : List ℕ) (xs : List Line) (k : ℕ) → TreesFrom s k xs → line_rows s (length xs) k ≡ map front xs
unfolding line_rows
rows-from s [] k t = refl
rows-from s (x ∷ xs) k t = rw (row-front s x (start_of s k) t.0.0 t.0.1, rows-from s xs (k + 1) t.1)

module _ (s : List ℕ) (size : length s ≤ set_size) (sound : is_some (sound_lines s) ≡ true) where
  module _ (k : ℕ) (inside : k < (lines_of s).count) (x : Line) (t : TreeAt s k x) where
    tree-good : GoodTree x
    tree-good = record {
      faultless = tree-faultless s size sound k inside x t;
      shallow = sym (opens-stands s (front x) (start_of s k) t.0 0 (rw (front-end x) at t.1)) ∙ not-deep s (start_of s k) (ap fault_of_line ((lines-lined s).listed.item k inside));
    }

    -- its number is that of its rank
    tree-rank : tree_number x ≡ (get_or (lines_of s).items k no_line).number
    tree-rank = tree-number s size sound k inside x t ∙ (lines-lined s).listed.number k inside

    -- what it names is known: lines,
    names-all : each_known (set_table s (lines_of s).numbers) (names_in x) ≡ true
    names-all = sym (names-by-tree s (set_table s (lines_of s).numbers) x (start_of s k) t.0 (tree-short s size sound k inside x t) t.1) ∙ lines-known s sound k inside

    tree-known : (n : ℕ) → OneOf n (lines_named x) → (1 ≤ n) × (rank_in (lines_of s).numbers n 0 < max_lines)
    tree-known n o =
        let ns = (lines_of s).numbers in
        (named-positive is_lock (names_in x) (line-names x tree-good.faultless) n o, ltb-true (rank_in ns n 0) max_lines (each_line (is_known ns) (is_defined (curves_in s)) (names_in x) names-all n o))

    -- and curves
    tree-defined : (n : ℕ) → OneOf n (curves_named x) → Defined s n
    tree-defined n o = each-curve (is_known (lines_of s).numbers) (is_defined (curves_in s)) (names_in x) names-all n o

  trees-good : (xs : List Line) (k : ℕ) → TreesFrom s k xs → k + length xs ≤ (lines_of s).count → GoodTrees xs
  trees-good [] k t c = tt
  trees-good (x ∷ xs) k t c = (tree-good k (omega arith) x t.0, trees-good xs (k + 1) t.1 (omega arith))

  trees-rise : (xs : List Line) (k n : ℕ) → TreesFrom s k xs → k + length xs ≤ (lines_of s).count → ((j : ℕ) → k ≤ j → j < (lines_of s).count → n < (get_or (lines_of s).items j no_line).number) → RisesBy tree_number n xs
  trees-rise [] k n t c h = tt
  trees-rise (x ∷ xs) k n t c h =
      let e = tree-rank k (omega arith) x t.0 in
      let l = h k (omega arith) (omega arith) in
      (omega arith, trees-rise xs (k + 1) (tree_number x) t.1 (omega arith) (λ j a b. let r = (lines-lined s).listed.rising k j (omega arith) b in omega arith))

  module _ (xs : List Line) (trees : TreesOf s xs) where
    -- a number that is known is that of a line
    known-tree : (n : ℕ) → 1 ≤ n → rank_in (lines_of s).numbers n 0 < max_lines → OneOf n (map tree_number xs)
    known-tree n p h =
        let ns = (lines_of s).numbers in
        let i = rank_in ns n 0 in
        let l = rank-inside s n p h in
        let c = trees.count in
        let m = length-map xs tree_number in
        let z : 0 + i ≡ i = omega arith in
        one_at (map tree_number xs) i n (omega arith) ((rw z at (numbers-at s size sound xs 0 i trees.trees (omega arith) (omega arith))) ∙ rank-number ns n (lines-lined s).numbers_length h)

    trees-named : (ys : List Line) (k : ℕ) → TreesFrom s k ys → k + length ys ≤ (lines_of s).count → AllNameOnly (map tree_number xs) ys
    trees-named [] k t c = tt
    trees-named (y ∷ ys) k t c = (
      (λ n o. let (p, h) = tree-known k (omega arith) y t.0 n o in known-tree n p h),
      trees-named ys (k + 1) t.1 (omega arith),
    )

    set_lines : line_rows s (lines_of s).count 0 ≡ map front xs
    set_lines = let c = trees.count in rw (← c) (rows-from s xs 0 trees.trees)

    module _ (ds : List Definition) (curves : CurvesFrom s max_curves 1 ds) where
      -- a curve that is defined has a definition
      defined-one : (n : ℕ) → Defined s n → OneOf n (map curve_number ds)
      defined-one n h =
          let (a, b, c) = defined-begins s n h in
          let (d, o, e) = curves.has n a (omega arith) c in
          subst (λ (k : ℕ). OneOf k (map curve_number ds)) e (one_number d ds o)
        where
          one_number : (d : Definition) (es : List Definition) → OneOf d es → OneOf d.number (map curve_number es)
          one_number d [] h = elim h [ ]
          one_number d (x ∷ es) (inl e) = inl (ap curve_number e)
          one_number d (x ∷ es) (inr o) = inr (one_number d es o)

      trees-use : (ys : List Line) (k : ℕ) → TreesFrom s k ys → k + length ys ≤ (lines_of s).count → AllUseOnly (map curve_number ds) ys
      trees-use [] k t c = tt
      trees-use (y ∷ ys) k t c = ((λ n o. defined-one n (tree-defined k (omega arith) y t.0 n o)), trees-use ys (k + 1) t.1 (omega arith))

      set-rows : rows_of s ≡ map definition_front ds ++ map front xs
      unfolding rows_of
      set-rows = rw (curves.rows, set_lines)

      set-trees : SoundTrees ds xs
      set-trees =
          let c = trees.count in
          let f = curves-few s sound in
          let m = curves.many in
          record {
            curves = curves.good;
            good = trees-good xs 0 trees.trees (omega arith);
            order = curves.rising 0 (omega arith);
            rising = trees-rise xs 0 0 trees.trees (omega arith) (λ j a b. let p = (lines-lined s).listed.positive j b in omega arith);
            named = trees-named xs 0 trees.trees (omega arith);
            uses = trees-use xs 0 trees.trees (omega arith);
            few = omega arith;
          }

  -- a set and its trees
  pub record SetTrees (ds : List Definition) (xs : List Line) : Type 0 where
    pub rows : rows_of s ≡ map definition_front ds ++ map front xs
    pub lines : line_rows s (lines_of s).count 0 ≡ map front xs
    pub trees : SoundTrees ds xs
    pub curves : DefinitionsIn s ds

  -- THE CURVES AND LINES OF A SOUND SET
  pub sound-set-trees : (ds : List Definition) × (xs : List Line) × SetTrees ds xs
  sound-set-trees =
      let (ds, f) = curves-from s sound max_curves 1 (omega arith) (omega arith) in
      let (xs, t) = sound-trees s size sound in
      (ds, xs, record { rows = set-rows xs t ds f; lines = set_lines xs t; trees = set-trees xs t ds f; curves = record { row = f.row; begins = f.begins; has = λ n a b c. f.has n a (omega arith) c } })
