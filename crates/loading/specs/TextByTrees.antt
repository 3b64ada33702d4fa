-- WHAT LOADING ANSWERS, OVER TREES: a text is taken exactly if its lines with tokens are definitions and lines of the grammar without a fault of 3 to 14, and else refused with code and line as documents 01 and
-- 02 order it. Theorems; nothing is assumed.
use Rattle.std.specs.Prelude.{◌≡◌, refl, List, map, ◌↔◌, ℕ, zero, suc, ◌≤◌, ◌<◌, length}
use Rattle.std.proofs.Common.{sym, ap, subst, ◌∙◌, inl, inr, arith}
use Rattle.values.specs.Codes.{too_long, too_many_lines, not_in_set, wrong_curve, two_moves}
use Rattle.values.specs.Numbers.{clash}
use Rattle.grammar.specs.Tree.{Line, tree_number, Definition}
use Rattle.tokens.specs.Token.{max_lines}
use Rattle.text.specs.Lines.{token_lines}
use Rattle.reader.specs.Row.{Kept, nothing}
use Rattle.reader.specs.Load.{taken, refused, rows_from, first_unknown, kept_table, outcome, load_answer}
use Rattle.reader.specs.KeptLaws.{taken-apart}
use Rattle.loading.specs.LoadAnswers.{taken-answer, refused-answer, OfLine, no-12, by-load, code-1, code-2, code-line}
use Rattle.loading.specs.TakenLaws.{taking, kept_of, taken-kept, text-placed, rows-placed}
use Rattle.loading.specs.TextTrees.{curve_number, none_above, WrongCurve, TwoMoves, AllMoveOnce, row_lines, FirstBad, FirstFaulty, AllNameOnly, FirstUnnamed, Small, IsLines, Takes, Refuses, long, many, faulty, unnamed}
use Rattle.loading.specs.TextNamesLaws.{all_named, named-all, first-unnamed, unnamed-first, unnamed-place}
use Rattle.loading.specs.TextTreesLaws.{StandsFor, none-stands}
use Rattle.loading.specs.TextLinesLaws.{refused-rows, rows-refused, faulty-range, taken-trees, trees-taken, first-wrong, wrong_first, first-moves, moves-first, lines-move, text-lines}

module _ (t : List ℕ) where
  -- loading answers the code c and the line k
  abbrev pub Answers : ℕ → ℕ → Type 0
  Answers c k = ((load_answer t).code ≡ c) × ((load_answer t).line ≡ k)

  -- the first line that names what is not known, of what is kept
  abbrev unknown_in : Kept → ℕ
  unknown_in q = first_unknown (kept_table q) q.rows

  rows-outcome : Small t → (q : Kept) → rows_from nothing (token_lines t) ≡ taken q → unknown_in q ≡ 0 → outcome t ≡ taken q
  rows-outcome x q e f =
      let short = x.short in
      let few = x.few in
      by-load _ t
      (λ m h. absurd (omega arith))
      (λ l m h. absurd (omega arith))
      (λ l m d j a b g h. clash (cc))
      (λ l m r j g u h.
      let p : r ≡ q = cc in
      let z : suc j ≡ 0 = sym u ∙ ap unknown_in p ∙ f in
      absurd (omega arith))
      (λ l m r h. let y = (taking t r h).rows in let p : r ≡ q = cc in h ∙ ap taken p)

  faulty-answers : (c k : ℕ) → Small t → rows_from nothing (token_lines t) ≡ refused c k → Answers c k
  faulty-answers c k x e =
      let short = x.short in
      let few = x.few in
      by-load _ t
      (λ m h. absurd (omega arith))
      (λ l m h. absurd (omega arith))
      (λ l m d j a b f h. let z = refused-answer t d j h in let p : d ≡ c = cc in let q : j ≡ k = cc in (z.0 ∙ p, z.1 ∙ q))
      (λ l m q j f g h. clash (cc))
      (λ l m q h. let z = (taking t q h).rows in clash (cc))

  unknown-answers : (q : Kept) (k : ℕ) → Small t → rows_from nothing (token_lines t) ≡ taken q → unknown_in q ≡ suc k → Answers not_in_set (suc k)
  unknown-answers q k x e f =
      let short = x.short in
      let few = x.few in
      by-load _ t
      (λ m h. absurd (omega arith))
      (λ l m h. absurd (omega arith))
      (λ l m d j a b g h. clash (cc))
      (λ l m r j g u h.
      let z = refused-answer t not_in_set (suc j) h in
      let p : r ≡ q = cc in
      let y : suc j ≡ suc k = sym u ∙ ap unknown_in p ∙ f in
      (z.0, z.1 ∙ y))
      (λ l m r h.
      let y = taking t r h in
      let g = y.rows in
      let p : r ≡ q = cc in
      let z : 0 ≡ suc k = sym y.known ∙ ap unknown_in p ∙ f in
      absurd (omega arith))

  -- ---- to trees and back

  -- what is kept has the numbers of these trees
  abbrev pub Keeps : List Definition → List Line → Type 0
  Keeps ds xs = StandsFor (kept_of t) (record { curves = map curve_number ds; numbers = map tree_number xs })

  rows_few : Small t → rows_from nothing (token_lines t) ≡ taken (kept_of t) → length (kept_of t).rows ≤ max_lines
  rows_few x e = (taken-apart (token_lines t) (kept_of t) x.few e).1

  -- as the definition finds it
  kept-rows : (q : Kept) → rows_from nothing (token_lines t) ≡ taken q → rows_from nothing (token_lines t) ≡ taken (kept_of t)
  kept-rows q e = e ∙ ap taken (taken-kept t q e)

  kept-unknown : (q : Kept) (n : ℕ) → rows_from nothing (token_lines t) ≡ taken q → unknown_in q ≡ n → unknown_in (kept_of t) ≡ n
  kept-unknown q n e u = ap unknown_in (sym (taken-kept t q e)) ∙ u

  -- lines that are taken are definitions and lines of the grammar
  record ByTrees : Type 0 where
    defined : List Definition
    trees : List Line
    lines : IsLines t defined trees
    keeps : Keeps defined trees

  rows-trees : Small t → rows_from nothing (token_lines t) ≡ taken (kept_of t) → ByTrees
  rows-trees x e =
      let f = x.few in
      let w = taken-trees (token_lines t) nothing (kept_of t) none_above (omega arith) none-stands refl tt e in
      record {
        defined = w.defined;
        trees = w.trees;
        lines = record { small = x; good = w.good; distinct = w.distinct; apart = w.apart; uses = w.uses };
        keeps = w.stands;
      }

  -- and they are kept
  pub trees-rows : (ds : List Definition) (xs : List Line) → IsLines t ds xs → (rows_from nothing (token_lines t) ≡ taken (kept_of t)) × Keeps ds xs
  trees-rows ds xs x =
      let f = x.small.few in
      let (q, e, s) = trees-taken (token_lines t) ds xs nothing none_above (omega arith) none-stands refl x.good x.distinct x.apart x.uses in
      (kept-rows q e, subst (λ (p : Kept). StandsFor p (record { curves = map curve_number ds; numbers = map tree_number xs })) (taken-kept t q e) s)

  -- no line names a number that the text has not
  module _ (ds : List Definition) (xs : List Line) (x : IsLines t ds xs) (s : Keeps ds xs) (few : length (kept_of t).rows ≤ max_lines) where
    rows_named : unknown_in (kept_of t) ≡ 0 → AllNameOnly (map tree_number xs) xs
    rows_named u =
        subst (λ (ns : List ℕ). AllNameOnly ns xs) s.rows
        (all_named (kept_of t) few (map curve_number ds) s.defined (row_lines (token_lines t)) xs (rows-placed (token_lines t) (text-placed t)) (text-lines (token_lines t) ds xs x.good) u)

    named-rows : AllNameOnly (map tree_number xs) xs → unknown_in (kept_of t) ≡ 0
    named-rows h =
        named-all (kept_of t) few (map curve_number ds) s.defined (row_lines (token_lines t)) xs (text-lines (token_lines t) ds xs x.good) x.uses
        (subst (λ (ns : List ℕ). AllNameOnly ns xs) (sym s.rows) h)

    rows-unnamed : (k : ℕ) → unknown_in (kept_of t) ≡ suc k → FirstUnnamed (map tree_number xs) (row_lines (token_lines t)) xs (suc k)
    rows-unnamed k u =
        subst (λ (ns : List ℕ). FirstUnnamed ns (row_lines (token_lines t)) xs (suc k)) s.rows
        (first-unnamed (kept_of t) few (map curve_number ds) s.defined (row_lines (token_lines t)) xs k (text-lines (token_lines t) ds xs x.good) x.uses u)

    unnamed-rows : (k : ℕ) → FirstUnnamed (map tree_number xs) (row_lines (token_lines t)) xs k → unknown_in (kept_of t) ≡ k
    unnamed-rows k h =
        unnamed-first (kept_of t) few (map curve_number ds) s.defined (row_lines (token_lines t)) xs k (text-lines (token_lines t) ds xs x.good) x.uses
        (subst (λ (ns : List ℕ). FirstUnnamed ns (row_lines (token_lines t)) xs k) (sym s.rows) h)

  -- the lines of a text that is taken are its curves and rows
  pub takes-rows : (ds : List Definition) (xs : List Line) → Takes t ds xs → outcome t ≡ taken (kept_of t)
  takes-rows ds xs y =
      let z = y.lines in
      let (e, s) = trees-rows ds xs z in
      rows-outcome z.small (kept_of t) e (named-rows ds xs z s (rows_few z.small e) y.named)

  -- ---- the theorems

  -- A TEXT IS TAKEN exactly if it is short enough, has few enough lines with tokens, each makes tokens and is not too deep, they are written as definitions and behind them lines of the grammar without a fault,
  -- the numbers of curves are distinct and those of lines are, each SYNFCT names one of the curves, and each LOCK and UNLOCK one of the lines
  pub taken-iff : ((load_answer t).code ≡ 0) ↔ ((ds : List Definition) × (xs : List Line) × Takes t ds xs)
  taken-iff = (
    (λ e. by-load _ t
        (λ _ h. let z = (refused-answer t too_long 0 h).0 in absurd (omega arith))
        (λ _ _ h. let z = (refused-answer t too_many_lines 0 h).0 in absurd (omega arith))
        (λ _ _ c k a b _ h. let z = (refused-answer t c k h).0 in absurd (omega arith))
        (λ _ _ q k _ _ h. let z = (refused-answer t not_in_set (suc k) h).0 in absurd (omega arith))
        (λ l m q h.
        let y = taking t q h in
        let x : Small t = record { short = l; few = m } in
        let f = kept-rows q y.rows in
        let w = rows-trees x f in
        (w.defined, w.trees, record { lines = w.lines; named = rows_named w.defined w.trees w.lines w.keeps (rows_few x f) (kept-unknown q 0 y.rows y.known) }))),
    (λ x. let (ds, xs, y) = x in (taken-answer t (kept_of t) (takes-rows ds xs y)).0),
  )

  -- ONE MOVE: each line of a text that is taken moves no axis twice
  pub taken-moves : (ds : List Definition) (xs : List Line) → Takes t ds xs → AllMoveOnce xs
  taken-moves ds xs y = lines-move (row_lines (token_lines t)) xs (text-lines (token_lines t) ds xs y.lines.good)

  -- CODES 3 TO 11, 13 AND 14, c AND THE LINE k: the first line with a fault stands at k and has the fault c, the first of 3 to 10, 14, 11 and 13
  pub code-of-line : (c k : ℕ) → OfLine c → Answers c k ↔ (Small t × FirstFaulty none_above (token_lines t) c k)
  code-of-line c k r = (
    (λ x. by-load _ t
        (λ m h. let z = (refused-answer t too_long 0 h).0 in let w = x.0 in let low = r.0 in absurd (omega arith))
        (λ l m h. let z = (refused-answer t too_many_lines 0 h).0 in let w = x.0 in let low = r.0 in absurd (omega arith))
        (λ l m d j a b f h.
        let z = refused-answer t d j h in
        let p : d ≡ c = sym z.0 ∙ x.0 in
        let q : j ≡ k = sym z.1 ∙ x.1 in
        (record { short = l; few = m }, refused-rows (token_lines t) nothing none_above c k (omega arith) none-stands (rw (p, q) at f)))
        (λ l m q j f g h. let z = (refused-answer t not_in_set (suc j) h).0 in absurd (no-12 c r (sym x.0 ∙ z)))
        (λ l m q h. let z = (taken-answer t q h).0 in let w = x.0 in let low = r.0 in absurd (omega arith))),
    (λ x. let f = x.0.few in faulty-answers c k x.0 (rows-refused (token_lines t) nothing none_above c k (omega arith) none-stands x.1)),
  )

  -- CODE 13 AND THE LINE k: the first line with a fault stands at k, and is a definition whose lower limit is above its upper one, one of a curve that is defined above, or a line that uses a curve which is not
  -- defined above
  pub code-13 : (k : ℕ) → Answers wrong_curve k ↔ (Small t × FirstBad WrongCurve none_above (token_lines t) k)
  code-13 k = (
    (λ x. let (s, f) = (code-of-line wrong_curve k of-line).0 x in (s, first-wrong none_above (token_lines t) k f)),
    (λ x. (code-of-line wrong_curve k of-line).1 (x.0, wrong_first none_above (token_lines t) k x.1)),
  )
    where
      of-line : OfLine wrong_curve
      of-line = (omega arith, inr (inl refl))

  -- CODE 14 AND THE LINE k: the first line with a fault stands at k, and is a line without a fault of 3 to 10 that moves an axis twice
  pub code-14 : (k : ℕ) → Answers two_moves k ↔ (Small t × FirstBad TwoMoves none_above (token_lines t) k)
  code-14 k = (
    (λ x. let (s, f) = (code-of-line two_moves k of-line).0 x in (s, first-moves none_above (token_lines t) k f)),
    (λ x. (code-of-line two_moves k of-line).1 (x.0, moves-first none_above (token_lines t) k x.1)),
  )
    where
      of-line : OfLine two_moves
      of-line = (omega arith, inr (inr refl))

  -- CODE 12 AND THE LINE k: no line has such a fault, and the first with a LOCK or UNLOCK of a number that no line of the text has stands at k
  pub code-12 : (k : ℕ) → Answers not_in_set k ↔ ((ds : List Definition) × (xs : List Line) × IsLines t ds xs × FirstUnnamed (map tree_number xs) (row_lines (token_lines t)) xs k)
  code-12 k = (
    (λ x. by-load _ t
        (λ m h. let z = (refused-answer t too_long 0 h).0 in let w = x.0 in absurd (omega arith))
        (λ l m h. let z = (refused-answer t too_many_lines 0 h).0 in let w = x.0 in absurd (omega arith))
        (λ l m d j a b f h. let z = (refused-answer t d j h).0 in absurd (no-12 d b (sym z ∙ x.0)))
        (λ l m q j f g h.
        let z = refused-answer t not_in_set (suc j) h in
        let p : suc j ≡ k = sym z.1 ∙ x.1 in
        let y : Small t = record { short = l; few = m } in
        let e = kept-rows q f in
        let w = rows-trees y e in (
          w.defined,
          w.trees,
          w.lines,
          subst (λ (n : ℕ). FirstUnnamed (map tree_number w.trees) (row_lines (token_lines t)) w.trees n) p
              (rows-unnamed w.defined w.trees w.lines w.keeps (rows_few y e) j (kept-unknown q (suc j) f g)),
        ))
        (λ l m q h. let z = (taken-answer t q h).0 in let w = x.0 in absurd (omega arith))),
    (λ x. let (ds, xs, y, u) = x in by_place k (unnamed-place (map tree_number xs) (row_lines (token_lines t)) xs k (rows-placed (token_lines t) (text-placed t)) u) ds xs y u),
  )
    where
      by_place : (k : ℕ) → 1 ≤ k → (ds : List Definition) (xs : List Line) → IsLines t ds xs → FirstUnnamed (map tree_number xs) (row_lines (token_lines t)) xs k → Answers not_in_set k
      by_place zero p ds xs y u = absurd (omega arith)
      by_place (suc k) p ds xs y u =
          let (e, s) = trees-rows ds xs y in
          unknown-answers (kept_of t) k y.small e (unnamed-rows ds xs y s (rows_few y.small e) (suc k) u)

  -- A TEXT IS REFUSED WITH THE CODE c AND THE LINE k exactly as documents 01 and 02 order it: 1, 2, the first line with a fault of 3 to 11, 13 or 14, 12
  pub refused-iff : (c k : ℕ) → ((0 < c) × Answers c k) ↔ Refuses t c k
  refused-iff c k = (
    (λ x. by-load _ t
        (λ m h. let z = refused-answer t too_long 0 h in long (sym x.1.0 ∙ z.0) (sym x.1.1 ∙ z.1) m)
        (λ l m h. let z = refused-answer t too_many_lines 0 h in many (sym x.1.0 ∙ z.0) (sym x.1.1 ∙ z.1) l m)
        (λ l m d j a b f h.
        let z = refused-answer t d j h in
        let p : d ≡ c = sym z.0 ∙ x.1.0 in
        let (y, w) = (code-of-line c k (subst OfLine p b)).0 x.1 in
        faulty y w)
        (λ l m q j f g h.
        let z = refused-answer t not_in_set (suc j) h in
        let p = sym x.1.0 ∙ z.0 in
        let (ds, xs, y, w) = (code-12 k).0 (z.0, x.1.1) in
        unnamed p ds xs y w)
        (λ l m q h. let z = (taken-answer t q h).0 in let w = x.0 in let v = x.1.0 in absurd (omega arith))),
    refuses,
  )
    where
      refuses : Refuses t c k → (0 < c) × Answers c k
      refuses (long e f l) = let z = (code-1 t).1 l in let n = code-line t (omega arith) in (omega arith, (z ∙ sym e, n ∙ sym f))
      refuses (many e f l m) = let z = (code-2 t).1 (l, m) in let n = code-line t (omega arith) in (omega arith, (z ∙ sym e, n ∙ sym f))
      refuses (faulty x f) = let r = faulty-range none_above (token_lines t) c k f in let a = r.0 in (omega arith, (code-of-line c k r).1 (x, f))
      refuses (unnamed e ds xs y u) = let z = (code-12 k).1 (ds, xs, y, u) in (omega arith, (z.0 ∙ sym e, z.1))
