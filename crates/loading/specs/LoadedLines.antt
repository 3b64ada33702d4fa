-- A SET THAT LOADING TAKES IS, LINE BY LINE, WHAT THE TEXT HAS: the trees of its lines, by rising number, and its definitions, each at its curve's number, without the marks of written points.
-- Theorem; nothing is assumed.
use Rattle.std.specs.Prelude.{Ok, ◌≡◌, true, false, List, [], ◌∷◌, map, ℕ, zero, suc, ◌+◌, ◌-◌, ◌≤◌, ◌<◌, length, get_or}
use Rattle.std.proofs.Common.{sym, subst, ◌∙◌, arith}
use Rattle.grammar.specs.Tree.{Line, line_tokens, tree_number, Definition, definition_front, DefinedAs}
use Rattle.tokens.specs.Token.{set_size, max_curves}
use Rattle.grammar.specs.Meaning.{Stands}
use Rattle.grammar.specs.AgreementLaws.{stands-place}
use Rattle.grammar.specs.TreeFault.{line_fault, parts_from, definition_fault}
use Rattle.engine.specs.Set.{line_count, start_of, line_of, curve_start, curve_line, with_end}
use Rattle.text.specs.Lines.{token_lines}
use Rattle.reader.specs.Row.{Row, Kept, nothing, is_there, no_row, by_number, ranked, set_of}
use Rattle.reader.specs.Load.{curve_fault_of, curve_number_in, taken, row_of, outcome, load_set}
use Rattle.loading.specs.TextTrees.{curve_lines, row_lines}
use Rattle.loading.specs.Unmarked.{unmarked_tree, unmarked_definition}
use Rattle.loading.specs.LoadAnswers.{taken-answer}
use Rattle.loading.specs.PlacedLaws.{held_tokens, Laid, CurveHeld, CurvesHeld, set-length, set-count}
use Rattle.loading.specs.StoredLineLaws.{written, held, written-curve, told_of, held-curve}
use Rattle.loading.specs.TakenLaws.{All, all-at, curves_added, taken-rows, taken-defined, AllTokens, taken-tokens, Fine, taken_fine}
use Rattle.loading.specs.ByNumberLaws.{Of, by_length, by-rises, by-of, by_rank_lem, rises-apart}
use Rattle.loading.specs.LinesReadLaws.{FineFrom}
use Rattle.loading.specs.LoadedLaws.{rows_apart, curves-three, curves-fine, each-by, taken-laid, taken-held}

-- the line of the text that is the row r stands in the set s at rank k
pub record HoldsLine (s : List ℕ) (k : ℕ) (r : Row) : Type 0 where
  -- it is a line of the grammar: this one,
  pub tree : Line
  -- without a fault of 6 to 10 or 14,
  pub faultless : line_fault tree ≡ 0
  -- with this number;
  pub number : tree_number tree ≡ r.number
  -- the text has its tokens,
  pub in_text : line_tokens tree ≡ with_end r.tokens
  -- the set has them where the rank begins, each number without the mark of a written point,
  pub in_set : Stands s (start_of s k) (line_tokens (unmarked_tree tree)) (start_of s k + length (line_tokens (unmarked_tree tree)))
  -- and so the engine reads the parts of that line there
  pub read : line_of s k ≡ Ok (parts_from (start_of s k) (unmarked_tree tree))

-- the line of the text with the tokens ts, which defines curve n, stands in the set s where that curve begins
pub record HoldsCurve (s : List ℕ) (n : ℕ) (ts : List ℕ) : Type 0 where
  -- it is a definition of the grammar: this one,
  pub tree : Definition
  -- without a fault of 7 and 13,
  pub faultless : definition_fault tree ≡ 0
  -- with this number;
  pub number : tree.number ≡ n
  -- the text has its tokens,
  pub in_text : DefinedAs tree ts
  -- the set has a start of the curve,
  pub begins : 0 < curve_start s n
  -- and has them there, each number without the mark of a written point,
  pub in_set : Stands s (curve_start s n) (with_end (definition_front (unmarked_definition tree))) (curve_start s n + length (with_end (definition_front (unmarked_definition tree))))
  -- and so the engine reads no fault there, that number, and the curve that the text defines
  pub read : curve_line s n ≡ told_of (curve_start s n) tree

-- a set holds what is kept of a text: its lines by rising number, and its curves by number
pub record HoldsAll (s : List ℕ) (q : Kept) : Type 0 where
  -- as many lines,
  pub count : line_count s ≡ length q.rows
  -- the row of each rank:
  pub row_of_rank : ℕ → Row
  -- it is one of the rows,
  pub from_rows : (k : ℕ) → k < length q.rows → Of q.rows (row_of_rank k)
  -- its line stands there,
  pub line : (k : ℕ) → k < length q.rows → HoldsLine s k (row_of_rank k)
  -- numbers rise by rank, so that no row has two ranks,
  pub rising : (i k : ℕ) → i < k → k < length q.rows → (row_of_rank i).number < (row_of_rank k).number
  -- and each row has a rank;
  pub every_row : (j : ℕ) → j < length q.rows → (k : ℕ) × (k < length q.rows) × (row_of_rank k ≡ get_or q.rows j no_row)
  -- each curve that is defined stands where its number says,
  pub curves : (n : ℕ) → 1 ≤ n → n ≤ max_curves → is_there (get_or q.curves (n - 1) []) ≡ true → HoldsCurve s n (get_or q.curves (n - 1) [])
  -- and another has no start
  pub no_curve : (n : ℕ) → 1 ≤ n → n ≤ max_curves → is_there (get_or q.curves (n - 1) []) ≡ false → curve_start s n ≡ 0

-- rows that are laid in a set from rank m on are held by it
laid-holds : (s : List ℕ) (rs : List Row) (m k : ℕ) → length s ≤ set_size → All Fine rs → Laid s (ranked rs m) → k < length rs → HoldsLine s (m + k) (get_or rs k no_row)
laid-holds s [] m k size f p h = absurd (omega arith)
laid-holds s (r ∷ rs) m (suc k) size f p h =
    let e : m + suc k ≡ m + 1 + k = omega arith in
    rw e (laid-holds s rs (m + 1) k size f.1 p.1 (omega arith))
laid-holds s (r ∷ rs) m zero size f p h =
    let z : m + 0 ≡ m = omega arith in
    let w = written r.tokens f.0.clean in
    let q = start_of s m + length (held_tokens r.tokens) in
    let (a, x, c) = held r.tokens w s (start_of s m) q size p.0 in
    let e = stands-place s (line_tokens (unmarked_tree w.tree)) (start_of s m) q a in
    rw z (record {
      tree = w.tree;
      faultless = w.faultless;
      number = sym w.number ∙ sym f.0.number;
      in_text = w.tokens;
      in_set = subst (λ (n : ℕ). Stands s (start_of s m) (line_tokens (unmarked_tree w.tree)) n) e a;
      read = x;
    })

-- so of a curve,
one-curve : (s : List ℕ) (n : ℕ) (ts : List ℕ) → CurveHeld s n ts → is_there ts ≡ true → curve_fault_of ts ≡ 0 → curve_number_in ts ≡ n → HoldsCurve s n ts
one-curve s n ts h t e i =
    let w = written-curve ts e in
    let (a, x) = held-curve ts w s (curve_start s n) _ (h.stands t) in
    let d = with_end (definition_front (unmarked_definition w.tree)) in
    record {
      tree = w.tree;
      faultless = w.faultless;
      number = sym w.number ∙ i;
      in_text = w.tokens;
      begins = h.begins t;
      in_set = subst (λ (m : ℕ). Stands s (curve_start s n) d m) (stands-place s d (curve_start s n) _ a) a;
      read = x;
    }

-- one of some from curve m on
curve-holds : (s : List ℕ) (cs : List (List ℕ)) (m j n : ℕ) → n ≡ m + j → CurvesHeld s cs m → FineFrom cs m → j < length cs → is_there (get_or cs j []) ≡ true → HoldsCurve s n (get_or cs j [])
curve-holds s [] m j n e h f l t = absurd (omega arith)
curve-holds s (ts ∷ cs) m zero n e h f l t = let z : n ≡ m = omega arith in let (c, i) = f.0 t in rw z (one-curve s m ts h.0 t c i)
curve-holds s (ts ∷ cs) m (suc j) n e h f l t = curve-holds s cs (m + 1) j n (omega arith) h.1 f.1 (omega arith) t

none-holds : (s : List ℕ) (cs : List (List ℕ)) (m j n : ℕ) → n ≡ m + j → CurvesHeld s cs m → j < length cs → is_there (get_or cs j []) ≡ false → curve_start s n ≡ 0
none-holds s [] m j n e h l t = absurd (omega arith)
none-holds s (ts ∷ cs) m zero n e h l t = let z : n ≡ m = omega arith in rw z (h.0.none t)
none-holds s (ts ∷ cs) m (suc j) n e h l t = none-holds s cs (m + 1) j n (omega arith) h.1 (omega arith) t

set_holds : (t : List ℕ) (q : Kept) → outcome t ≡ taken q → HoldsAll (set_of q.curves (by_number q.rows)) q
set_holds t q h =
    let rs = q.rows in
    let s = set_of q.curves (by_number rs) in
    let (apart, few) = rows_apart t q h in
    let n = by_length rs few apart in
    let z = set-length q.curves (by_number rs) in
    let c = curves-three t q h in
    record {
      count = set-count q.curves (by_number rs) ∙ n;
      row_of_rank = λ k. get_or (by_number rs) k no_row;
      from_rows = λ k l. all-at (Of rs) (by_number rs) k (by-of rs few apart) (omega arith);
      line = λ k l.
          let e : 0 + k ≡ k = omega arith in
          rw e at (laid-holds s (by_number rs) 0 k (omega arith) (each-by t q h Fine (taken_fine t q h)) (taken-laid t q h) (omega arith));
      rising = λ i k m l. rises-apart (by_number rs) 0 i k (by-rises rs few apart) m (omega arith);
      every_row = λ j l. let (k, u, v) = by_rank_lem rs few apart j l in (k, omega arith, v);
      curves = λ k l m u. curve-holds s q.curves 1 (k - 1) k (omega arith) (taken-held t q h) (curves-fine t q h) (omega arith) u;
      no_curve = λ k l m u. none-holds s q.curves 1 (k - 1) k (omega arith) (taken-held t q h) (omega arith) u;
    }

-- WHAT A TEXT HAS THAT IS TAKEN: the curves and the rows are its lines with tokens, those that begin with FCTDEF and the others behind them, in their order; these consist of tokens alone; and
-- the loaded set holds them
pub load-lines : (t : List ℕ) (q : Kept) → outcome t ≡ taken q →
    (q.rows ≡ map row_of (row_lines (token_lines t))) × (q.curves ≡ curves_added nothing.curves (curve_lines (token_lines t))) × AllTokens (token_lines t) × HoldsAll (load_set t) q
load-lines t q h = (taken-rows t q h, taken-defined t q h, taken-tokens t q h, rw (taken-answer t q h).2 (set_holds t q h))
