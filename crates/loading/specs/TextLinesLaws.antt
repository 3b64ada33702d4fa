-- Laws of the lines of a text one after the other, by their trees: the first faulty line is the one that the trees say, and where there is none the lines are definitions and behind them lines.
-- Nothing is assumed.
use Rattle.std.specs.Prelude.{◌≡◌, refl, List, [], ◌∷◌, ◌++◌, map, ◌⊎◌, ℕ, zero, suc, ◌+◌, ◌≤◌, length}
use Rattle.std.proofs.Common.{sym, ap, subst, ◌∙◌, append_assoc, append-nil, inl, inr, ⊎_elim, arith, length-append}
use Rattle.values.specs.Codes.{wrong_curve, two_moves}
use Rattle.values.specs.Numbers.{clash}
use Rattle.tokens.specs.Token.{max_lines}
use Rattle.grammar.specs.Tree.{Line, tree_number, Definition}
use Rattle.grammar.specs.TreeFault.{line_fault, definition_fault, PartFault, Proper}
use Rattle.grammar.specs.TreeFaultLaws.{line-proper, definition-range, definition-13}
use Rattle.grammar.specs.OneMove.{one-move, line-14}
use Rattle.text.specs.Tokens.{tokens_of}
use Rattle.text.specs.Lines.{Numbered}
use Rattle.reader.specs.Row.{Kept}
use Rattle.reader.specs.Load.{fault_below, taken, refused, row_of, with_row, with_curve, kept_with, rows_from}
use Rattle.reader.specs.KeptLaws.{next_row}
use Rattle.loading.specs.LoadAnswers.{OfLine}
use Rattle.loading.specs.TextTrees.{Distinct, curve_number, GoodLine, GoodCurve, AllUseOnly, Above, below_curve, below_line, MayDefine, IsNewLine, Faulty, no_token, deep, no_line, line_faulty, number_used, curve_faulty, curve_used, curve_unknown, WrongCurve, limits_crossed, defined_twice, not_defined, TwoMoves, AllMoveOnce, curve_lines, row_lines, GoodLines, GoodCurves, GoodText, FirstBad, FirstFaulty}
use Rattle.loading.specs.TextNamesLaws.{distinct-last, distinct-behind}
use Rattle.loading.specs.TextTreesLaws.{StandsFor, curve-begins, line-begins, faulty-below, line-below, curve-below, below-faulty, more-line, more-curve, below-good}

-- ---- the first faulty line

-- a fault is one of 3 to 11, or 13, or 14
line-range : (a : Above) (l : Numbered) (c : ℕ) → Faulty a l c → OfLine c
line-range a l c (no_token e g) = (omega arith, inl (omega arith))
line-range a l c (deep e g o) = (omega arith, inl (omega arith))
line-range a l c (no_line e g o h i) = (omega arith, inl (omega arith))
line-range a l c (line_faulty p g o x w e) = by-proper (line-proper x)
  where
    by-proper : Proper (line_fault x) → OfLine c
    by-proper (inl (inl z)) = absurd (omega arith)
    by-proper (inl (inr z)) = (omega (arith, z), inl (omega (arith, z)))
    by-proper (inr z) = (omega arith, inr (inr (omega arith)))
line-range a l c (number_used e x h u) = (omega arith, inl (omega arith))
line-range a l c (curve_faulty p m g o d w e) = by-range (definition-range d)
  where
    by-range : PartFault (definition_fault d) ⊎ (definition_fault d ≡ wrong_curve) → OfLine c
    by-range (inl (inl z)) = absurd (omega arith)
    by-range (inl (inr z)) = (omega (arith, z), inl (omega (arith, z)))
    by-range (inr z) = (omega arith, inr (inl (omega arith)))
line-range a l c (curve_used e m d h u) = (omega arith, inr (inl e))
line-range a l c (curve_unknown e x h u n o i) = (omega arith, inr (inl e))

pub faulty-range : (a : Above) (ls : List Numbered) (c k : ℕ) → FirstFaulty a ls c k → OfLine c
faulty-range a [] c k h = absurd h
faulty-range a (l ∷ ls) c k (inl (f, e)) = line-range a l c f
faulty-range a (l ∷ ls) c k (inr (inl (d, y, u, h))) = faulty-range (below_curve a d) ls c k h
faulty-range a (l ∷ ls) c k (inr (inr (x, y, u, h))) = faulty-range (below_line a x) ls c k h

-- what the definition refuses
pub refused-rows : (ls : List Numbered) (k : Kept) (a : Above) (c j : ℕ) → length k.rows + length ls ≤ max_lines → StandsFor k a → rows_from k ls ≡ refused c j → FirstFaulty a ls c j
unfolding rows_from
refused-rows [] k a c j few s h = clash (cc)
refused-rows (l ∷ ls) k a c j few s h =
    next_row _ k l ls (refused c j) h
    (λ f g. ⊎_elim
    (λ y. let (d, p, u, v, n) = y in inr (inl (d, p, u, refused-rows ls (kept_with k l) (below_curve a d) c j (omega arith) v g)))
    (λ y. let (x, p, u, v, n) = y in inr (inr (x, p, u, refused-rows ls (kept_with k l) (below_line a x) c j (omega arith) v g)))
    (below-good l k a (omega arith) s f))
    (λ i f g.
    let e : suc i ≡ c = cc in
    inl (subst (λ (n : ℕ). Faulty a l n) e (below-faulty l k a (omega arith) s i f), cc))

-- the next line, without a fault, and with one
next-good : (k p : Kept) (l : Numbered) (ls : List Numbered) → (fault_below k (tokens_of l.body) ≡ 0) × (kept_with k l ≡ p) → rows_from k (l ∷ ls) ≡ rows_from p ls
unfolding rows_from
next-good k p l ls (e, f) = rw (e, rows_from, f)

next-bad : (k : Kept) (l : Numbered) (ls : List Numbered) (c : ℕ) → 1 ≤ c → fault_below k (tokens_of l.body) ≡ c → rows_from k (l ∷ ls) ≡ refused c l.place
unfolding rows_from
next-bad k l ls zero p e = absurd (omega arith)
next-bad k l ls (suc c) p e = rw (e, rows_from)

pub rows-refused : (ls : List Numbered) (k : Kept) (a : Above) (c j : ℕ) → length k.rows + length ls ≤ max_lines → StandsFor k a → FirstFaulty a ls c j → rows_from k ls ≡ refused c j
rows-refused [] k a c j few s h = absurd h
rows-refused (l ∷ ls) k a c j few s (inl (f, e)) = next-bad k l ls c (let r = (line-range a l c f).0 in omega arith) (faulty-below l k a (omega arith) s c f) ∙ ap (refused c) e
rows-refused (l ∷ ls) k a c j few s (inr (inl (d, y, u, h))) =
    next-good k (with_curve k (tokens_of l.body).list) l ls (curve-below l k a (omega arith) s d y u)
    ∙ rows-refused ls (with_curve k (tokens_of l.body).list) (below_curve a d) c j (omega arith) (more-curve l k a (omega arith) s d y) h
rows-refused (l ∷ ls) k a c j few s (inr (inr (x, y, u, h))) =
    let n = length-append k.rows (row_of l ∷ []) in
    next-good k (with_row k (row_of l)) l ls (line-below l k a (omega arith) s x y u)
    ∙ rows-refused ls (with_row k (row_of l)) (below_line a x) c j (omega arith) (more-line l k a (omega arith) s x y) h

-- ---- no faulty line

-- below a line: some lines with numbers of their own, which use only curves above them
record LinesOf (a : Above) (ls : List Numbered) (q : Kept) : Type 0 where
  trees : List Line
  good : GoodLines ls trees
  stands : StandsFor q (record { curves = a.curves; numbers = a.numbers ++ map tree_number trees })
  distinct : Distinct (a.numbers ++ map tree_number trees)
  uses : AllUseOnly a.curves trees

one_line : (a : Above) (l : Numbered) (ls : List Numbered) (q : Kept) (x : Line) → GoodLine l x → IsNewLine a x → LinesOf (below_line a x) ls q → LinesOf a (l ∷ ls) q
one_line a l ls q x y u r =
    let e = append_assoc a.numbers (tree_number x ∷ []) (map tree_number r.trees) in
    record {
      trees = x ∷ r.trees;
      good = (y, r.good);
      stands = subst (λ (ns : List ℕ). StandsFor q (record { curves = a.curves; numbers = ns })) e r.stands;
      distinct = subst Distinct e r.distinct;
      uses = (u.1, r.uses);
    }

-- below a line no curve may be defined
no-more : (a : Above) (x : Line) → MayDefine (below_line a x) → ⊥
no-more a x e = let n = ap length e in let m = length-append a.numbers (tree_number x ∷ []) in omega arith

lines-trees : (ls : List Numbered) (k q : Kept) (a : Above) → length k.rows + length ls ≤ max_lines → StandsFor k a → (MayDefine a → ⊥) → Distinct a.numbers → rows_from k ls ≡ taken q → LinesOf a ls q
unfolding rows_from
lines-trees [] k q a few s o d h =
    let e : k ≡ q = cc in
    let n = sym (append-nil a.numbers) in
    record {
      trees = [];
      good = tt;
      stands = subst (λ (ns : List ℕ). StandsFor q (record { curves = a.curves; numbers = ns })) n (subst (λ (p : Kept). StandsFor p a) e s);
      distinct = subst Distinct n d;
      uses = tt;
    }
lines-trees (l ∷ ls) k q a few s o d h =
    next_row _ k l ls (taken q) h
    (λ f g. ⊎_elim
    (λ y. let (e, p, u, v, n) = y in absurd (o u.0))
    (λ y.
    let (x, p, u, v, n) = y in
    one_line a l ls q x p u (lines-trees ls (kept_with k l) q (below_line a x) (omega arith) v (no-more a x) (distinct-last a.numbers (tree_number x) d u.0) g))
    (below-good l k a (omega arith) s f))
    (λ i f g. clash (cc))

-- below none: some curves, and behind them such lines
pub record TreesOf (a : Above) (ls : List Numbered) (q : Kept) : Type 0 where
  pub defined : List Definition
  pub trees : List Line
  pub good : GoodText ls defined trees
  pub stands : StandsFor q (record { curves = a.curves ++ map curve_number defined; numbers = a.numbers ++ map tree_number trees })
  pub distinct : Distinct (a.numbers ++ map tree_number trees)
  pub apart : Distinct (a.curves ++ map curve_number defined)
  pub uses : AllUseOnly (a.curves ++ map curve_number defined) trees

no-curve : (a : Above) (ls : List Numbered) (q : Kept) → Distinct a.curves → LinesOf a ls q → TreesOf a ls q
no-curve a ls q d r =
    let n = sym (append-nil a.curves) in
    record {
      defined = [];
      trees = r.trees;
      good = r.good;
      stands = subst (λ (cs : List ℕ). StandsFor q (record { curves = cs; numbers = a.numbers ++ map tree_number r.trees })) n r.stands;
      distinct = r.distinct;
      apart = subst Distinct n d;
      uses = subst (λ (cs : List ℕ). AllUseOnly cs r.trees) n r.uses;
    }

one-curve : (a : Above) (l : Numbered) (ls : List Numbered) (q : Kept) (d : Definition) → GoodCurve l d → TreesOf (below_curve a d) ls q → TreesOf a (l ∷ ls) q
one-curve a l ls q d y r =
    let e = append_assoc a.curves (curve_number d ∷ []) (map curve_number r.defined) in
    record {
      defined = d ∷ r.defined;
      trees = r.trees;
      good = (y, r.good);
      stands = subst (λ (cs : List ℕ). StandsFor q (record { curves = cs; numbers = a.numbers ++ map tree_number r.trees })) e r.stands;
      distinct = r.distinct;
      apart = subst Distinct e r.apart;
      uses = subst (λ (cs : List ℕ). AllUseOnly cs r.trees) e r.uses;
    }

pub taken-trees : (ls : List Numbered) (k q : Kept) (a : Above) → length k.rows + length ls ≤ max_lines → StandsFor k a → MayDefine a → Distinct a.curves → rows_from k ls ≡ taken q → TreesOf a ls q
unfolding rows_from
taken-trees [] k q a few s m d h =
    let e : k ≡ q = cc in
    let n = sym (append-nil a.numbers) in
    no-curve a [] q d (record {
      trees = [];
      good = tt;
      stands = subst (λ (ns : List ℕ). StandsFor q (record { curves = a.curves; numbers = ns })) n (subst (λ (p : Kept). StandsFor p a) e s);
      distinct = subst Distinct (sym m ∙ n) tt;
      uses = tt;
    })
taken-trees (l ∷ ls) k q a few s m d h =
    next_row _ k l ls (taken q) h
    (λ f g. ⊎_elim
    (λ y.
    let (x, p, u, v, n) = y in
    one-curve a l ls q x p (taken-trees ls (kept_with k l) q (below_curve a x) (omega arith) v m (distinct-last a.curves (curve_number x) d u.1) g))
    (λ y.
    let (x, p, u, v, n) = y in
    no-curve a (l ∷ ls) q d (one_line a l ls q x p u (lines-trees ls (kept_with k l) q (below_line a x) (omega arith) v (no-more a x) (distinct-last a.numbers (tree_number x) (subst Distinct (sym m) tt) u.0) g)))
    (below-good l k a (omega arith) s f))
    (λ i f g. clash (cc))

-- and back
trees-lines : (ls : List Numbered) (xs : List Line) (k : Kept) (a : Above) → length k.rows + length ls ≤ max_lines → StandsFor k a → GoodLines ls xs →
    Distinct (a.numbers ++ map tree_number xs) → AllUseOnly a.curves xs → (q : Kept) × (rows_from k ls ≡ taken q) × StandsFor q (record { curves = a.curves; numbers = a.numbers ++ map tree_number xs })
unfolding rows_from
trees-lines [] [] k a few s g d u = (k, refl, subst (λ (ns : List ℕ). StandsFor k (record { curves = a.curves; numbers = ns })) (sym (append-nil a.numbers)) s)
trees-lines [] (x ∷ xs) k a few s g d u = absurd g
trees-lines (l ∷ ls) [] k a few s g d u = absurd g
trees-lines (l ∷ ls) (x ∷ xs) k a few s g d u =
    let n = length-append k.rows (row_of l ∷ []) in
    let e = append_assoc a.numbers (tree_number x ∷ []) (map tree_number xs) in
    let (q, f, r) = trees-lines ls xs (with_row k (row_of l)) (below_line a x) (omega arith) (more-line l k a (omega arith) s x g.0) g.1 (subst Distinct (sym e) d) u.1 in (
      q,
      next-good k (with_row k (row_of l)) l ls (line-below l k a (omega arith) s x g.0 (distinct-behind a.numbers (map tree_number xs) (tree_number x) d, u.0)) ∙ f,
      subst (λ (ns : List ℕ). StandsFor q (record { curves = a.curves; numbers = ns })) e r,
    )

pub trees-taken : (ls : List Numbered) (ds : List Definition) (xs : List Line) (k : Kept) (a : Above) → length k.rows + length ls ≤ max_lines → StandsFor k a → MayDefine a → GoodText ls ds xs →
    Distinct (a.numbers ++ map tree_number xs) → Distinct (a.curves ++ map curve_number ds) → AllUseOnly (a.curves ++ map curve_number ds) xs →
    (q : Kept) × (rows_from k ls ≡ taken q) × StandsFor q (record { curves = a.curves ++ map curve_number ds; numbers = a.numbers ++ map tree_number xs })
trees-taken ls [] xs k a few s m g d p u =
    let n = append-nil a.curves in
    let (q, f, r) = trees-lines ls xs k a few s g d (subst (λ (cs : List ℕ). AllUseOnly cs xs) n u) in
    (q, f, subst (λ (cs : List ℕ). StandsFor q (record { curves = cs; numbers = a.numbers ++ map tree_number xs })) (sym n) r)
trees-taken [] (y ∷ ds) xs k a few s m g d p u = absurd g
trees-taken (l ∷ ls) (y ∷ ds) xs k a few s m g d p u =
    let e = append_assoc a.curves (curve_number y ∷ []) (map curve_number ds) in
    let (q, f, r) = trees-taken ls ds xs (with_curve k (tokens_of l.body).list) (below_curve a y) (omega arith) (more-curve l k a (omega arith) s y g.0) m g.1 d (subst Distinct (sym e) p)
    (subst (λ (cs : List ℕ). AllUseOnly cs xs) (sym e) u) in (
      q,
      next-good k (with_curve k (tokens_of l.body).list) l ls (curve-below l k a (omega arith) s y g.0 (m, distinct-behind a.curves (map curve_number ds) (curve_number y) p)) ∙ f,
      subst (λ (cs : List ℕ). StandsFor q (record { curves = cs; numbers = a.numbers ++ map tree_number xs })) e r,
    )

-- ---- 13

-- what it says of a line
faulty-wrong : (a : Above) (l : Numbered) → Faulty a l wrong_curve → WrongCurve a l
faulty-wrong a l (no_token e g) = absurd (omega arith)
faulty-wrong a l (deep e g o) = absurd (omega arith)
faulty-wrong a l (no_line e g o h i) = absurd (omega arith)
faulty-wrong a l (line_faulty p g o x w e) = by-proper (line-proper x)
  where
    by-proper : Proper (line_fault x) → WrongCurve a l
    by-proper (inl (inl z)) = absurd (omega arith)
    by-proper (inl (inr z)) = absurd (omega (arith, z))
    by-proper (inr z) = absurd (omega arith)
faulty-wrong a l (number_used e x h u) = absurd (omega arith)
faulty-wrong a l (curve_faulty p m g o d w e) = let (f, b) = (definition-13 d).0 e in limits_crossed m g o d w f b
faulty-wrong a l (curve_used e m d h u) = defined_twice m d h u
faulty-wrong a l (curve_unknown e x h u n o i) = not_defined x h u n o i

wrong-faulty : (a : Above) (l : Numbered) → WrongCurve a l → Faulty a l wrong_curve
wrong-faulty a l (limits_crossed m g o d w f b) = curve_faulty (omega arith) m g o d w ((definition-13 d).1 (f, b))
wrong-faulty a l (defined_twice m d h u) = curve_used refl m d h u
wrong-faulty a l (not_defined x h u n o i) = curve_unknown refl x h u n o i

-- what is said of a line is said of the first faulty one
first_said : (P Q : Above → Numbered → Type 0) → ((a : Above) (l : Numbered) → P a l → Q a l) → (a : Above) (ls : List Numbered) (k : ℕ) → FirstBad P a ls k → FirstBad Q a ls k
first_said P Q f a [] k h = h
first_said P Q f a (l ∷ ls) k (inl (h, e)) = inl (f a l h, e)
first_said P Q f a (l ∷ ls) k (inr (inl (d, y, u, h))) = inr (inl (d, y, u, first_said P Q f (below_curve a d) ls k h))
first_said P Q f a (l ∷ ls) k (inr (inr (x, y, u, h))) = inr (inr (x, y, u, first_said P Q f (below_line a x) ls k h))

pub first-wrong : (a : Above) (ls : List Numbered) (k : ℕ) → FirstFaulty a ls wrong_curve k → FirstBad WrongCurve a ls k
first-wrong = first_said (λ a l. Faulty a l wrong_curve) WrongCurve faulty-wrong

pub wrong_first : (a : Above) (ls : List Numbered) (k : ℕ) → FirstBad WrongCurve a ls k → FirstFaulty a ls wrong_curve k
wrong_first = first_said WrongCurve (λ a l. Faulty a l wrong_curve) wrong-faulty

-- ---- 14

faulty-moves : (a : Above) (l : Numbered) → Faulty a l two_moves → TwoMoves a l
faulty-moves a l (no_token e g) = absurd (omega arith)
faulty-moves a l (deep e g o) = absurd (omega arith)
faulty-moves a l (no_line e g o h i) = absurd (omega arith)
faulty-moves a l (line_faulty p g o x w e) = let (f, t) = (line-14 x).0 e in record { tokens = g; shallow = o; tree = x; written = w; parts = f; twice = t }
faulty-moves a l (number_used e x h u) = absurd (omega arith)
faulty-moves a l (curve_faulty p m g o d w e) = by-range (definition-range d)
  where
    by-range : PartFault (definition_fault d) ⊎ (definition_fault d ≡ wrong_curve) → TwoMoves a l
    by-range (inl (inl z)) = absurd (omega arith)
    by-range (inl (inr z)) = absurd (omega (arith, z))
    by-range (inr z) = absurd (omega arith)
faulty-moves a l (curve_used e m d h u) = absurd (omega arith)
faulty-moves a l (curve_unknown e x h u n o i) = absurd (omega arith)

moves-faulty : (a : Above) (l : Numbered) → TwoMoves a l → Faulty a l two_moves
moves-faulty a l m = line_faulty (omega arith) m.tokens m.shallow m.tree m.written ((line-14 m.tree).1 (m.parts, m.twice))

pub first-moves : (a : Above) (ls : List Numbered) (k : ℕ) → FirstFaulty a ls two_moves k → FirstBad TwoMoves a ls k
first-moves = first_said (λ a l. Faulty a l two_moves) TwoMoves faulty-moves

pub moves-first : (a : Above) (ls : List Numbered) (k : ℕ) → FirstBad TwoMoves a ls k → FirstFaulty a ls two_moves k
moves-first = first_said TwoMoves (λ a l. Faulty a l two_moves) moves-faulty

-- the lines of a text without a fault each move no axis twice
pub lines-move : (ls : List Numbered) (xs : List Line) → GoodLines ls xs → AllMoveOnce xs
lines-move [] [] g = tt
lines-move [] (x ∷ xs) g = absurd g
lines-move (l ∷ ls) [] g = absurd g
lines-move (l ∷ ls) (x ∷ xs) g = (one-move x g.0.faultless, lines-move ls xs g.1)

-- ---- the two stretches of a text

good-lines : (ls : List Numbered) (xs : List Line) → GoodLines ls xs → (row_lines ls ≡ ls) × (curve_lines ls ≡ [])
unfolding row_lines curve_lines
good-lines [] xs g = (refl, refl)
good-lines (l ∷ ls) [] g = absurd g
good-lines (l ∷ ls) (x ∷ xs) g = let b = line-begins l x g.0.written in (rw (row_lines, b), rw (curve_lines, b))

-- the lines xs are the second,
pub text-lines : (ls : List Numbered) (ds : List Definition) (xs : List Line) → GoodText ls ds xs → GoodLines (row_lines ls) xs
unfolding row_lines
text-lines ls [] xs g = subst (λ (ms : List Numbered). GoodLines ms xs) (sym (good-lines ls xs g).0) g
text-lines [] (d ∷ ds) xs g = absurd g
text-lines (l ∷ ls) (d ∷ ds) xs g = let b = curve-begins l d g.0.written in rw (row_lines, b) (text-lines ls ds xs g.1)

-- the definitions ds the first
pub text-curves : (ls : List Numbered) (ds : List Definition) (xs : List Line) → GoodText ls ds xs → GoodCurves (curve_lines ls) ds
unfolding curve_lines
text-curves ls [] xs g = subst (λ (ms : List Numbered). GoodCurves ms []) (sym (good-lines ls xs g).1) tt
text-curves [] (d ∷ ds) xs g = absurd g
text-curves (l ∷ ls) (d ∷ ds) xs g = let b = curve-begins l d g.0.written in rw (curve_lines, b) (g.0, text-curves ls ds xs g.1)
