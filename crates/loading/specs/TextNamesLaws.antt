-- Laws of numbers and names by the trees of a text's lines: which numbers the rows have, and that the definition's test of names is what the trees name, by LOCK and UNLOCK and by SYNFCT.
-- Nothing is assumed.
use Rattle.std.specs.Prelude.{◌≡◌, Bool, ◌⊎◌, ℕ, zero, suc, ◌≤◌, ◌<◌, eqb, leb, length, get_or}
use Rattle.std.proofs.Math.Path.{refl, sym, subst}
use Rattle.std.proofs.Common.{ap, ◌∙◌, arith, ltb-true, leb-true, eqb-true}
use Rattle.std.proofs.Math.Bool.{true, false}
use Rattle.std.proofs.lemmas.Bool.{false≢true}
use mathlib.Core.List.{List, [], ◌∷◌, ◌++◌, map, map-append}
use Rattle.std.proofs.Math.Logic.{inl, inr, ⊎_elim}
use Rattle.std.proofs.Math.Decide.{dec_lt}
use Rattle.std.proofs.Math.ListN.{get_or-eq_default}
use Rattle.values.specs.Codes.{outside}
use Rattle.values.specs.Choice.{both, decide, choice, contrary, chosen, refused as not-Chosen, and-true}
use Rattle.values.specs.Numbers.{clash}
use Rattle.tokens.specs.Token.{max_lines, max_curves, SETAL, SYNFCT, is_lock, is_naming, between}
use Rattle.tokens.specs.SingleFault.{id_fault, call_fault, curve_fault}
use Rattle.grammar.specs.Tree.{Action, assign, assign_position, drive, code, call, synfct, Line, line}
use Rattle.grammar.specs.TreeFault.{action_fault, actions_fault, parts_fault, line_fault, keyword_of}
use Rattle.grammar.specs.TreeNames.{Name, action_names, actions_names, names_in, each_known}
use Rattle.grammar.specs.TreeOfLaws.{tree-of-tokens}
use Rattle.engine.specs.Set.{rank_in, is_known, is_defined, name_table}
use Rattle.soundness.specs.WriteSoundLaws.{lower-zero, unless-zero}
use Rattle.soundness.specs.SetSoundLaws.{rank-number}
use Rattle.soundness.specs.AnswerCodes.{OneOf}
use Rattle.text.specs.Tokens.{tokens_of}
use Rattle.text.specs.Lines.{Numbered}
use Rattle.reader.specs.Row.{Row, Kept, curves_there, numbers_of, no_row}
use Rattle.reader.specs.Load.{row_of, is_named, first_not, first_unknown, kept_table}
use Rattle.reader.specs.RisingLaws.{number_at, numbers-length}
use Rattle.loading.specs.TakenLaws.{Placed}
use Rattle.loading.specs.LinesReadLaws.{known_at}
use Rattle.loading.specs.TextTrees.{Distinct, GoodLine, GoodLines, numbers_named, lines_named, NamesOnly, AllNameOnly, UsesOnly, AllUseOnly, FirstUnnamed}

-- ---- numbers

pub one-first : (n : ℕ) (ns ms : List ℕ) → OneOf n ns → OneOf n (ns ++ ms)
one-first n [] ms h = elim h [ ]
one-first n (m ∷ ns) ms (inl e) = inl e
one-first n (m ∷ ns) ms (inr h) = inr (one-first n ns ms h)

pub one_last : (n : ℕ) (ns ms : List ℕ) → OneOf n ms → OneOf n (ns ++ ms)
one_last n [] ms h = h
one_last n (m ∷ ns) ms h = inr (one_last n ns ms h)

pub one_split : (n : ℕ) (ns ms : List ℕ) → OneOf n (ns ++ ms) → OneOf n ns ⊎ OneOf n ms
one_split n [] ms h = inr h
one_split n (m ∷ ns) ms (inl e) = inl (inl e)
one_split n (m ∷ ns) ms (inr h) = by-rest (one_split n ns ms h)
  where
    by-rest : OneOf n ns ⊎ OneOf n ms → OneOf n (m ∷ ns) ⊎ OneOf n ms
    by-rest (inl g) = inl (inr g)
    by-rest (inr g) = inr g

-- one number more that is none of them
pub distinct-last : (ns : List ℕ) (n : ℕ) → Distinct ns → (OneOf n ns → ⊥) → Distinct (ns ++ (n ∷ []))
distinct-last [] n d h = (λ x. x, tt)
distinct-last (m ∷ ns) n d h = (λ x. by_place (one_split m ns (n ∷ []) x), distinct-last ns n d.1 (λ x. h (inr x)))
  where
    by_place : OneOf m ns ⊎ OneOf m (n ∷ []) → ⊥
    by_place (inl x) = d.0 x
    by_place (inr (inl e)) = h (inl (sym e))
    by_place (inr (inr x)) = x

-- a number behind some is none of them
pub distinct-behind : (ns ms : List ℕ) (n : ℕ) → Distinct (ns ++ (n ∷ ms)) → OneOf n ns → ⊥
distinct-behind [] ms n d h = elim h [ ]
distinct-behind (m ∷ ns) ms n d (inl e) = d.0 (one_last m ns (n ∷ ms) (inl (sym e)))
distinct-behind (m ∷ ns) ms n d (inr h) = distinct-behind ns ms n d.1 h

-- ---- the numbers of some lines

abbrev pub numbers : List Row → List ℕ
numbers rs = map (λ (r : Row). r.number) rs

pub numbers-last : (rs : List Row) (r : Row) → numbers (rs ++ (r ∷ [])) ≡ numbers rs ++ (r.number ∷ [])
numbers-last rs r = map-append (λ (r : Row). r.number) rs (r ∷ [])

number-one : (rs : List Row) (i n : ℕ) → i < length rs → (get_or rs i no_row).number ≡ n → OneOf n (numbers rs)
number-one [] i n l e = absurd (omega arith)
number-one (r ∷ rs) zero n l e = inl e
number-one (r ∷ rs) (suc i) n l e = inr (number-one rs i n (omega arith) e)

one_number : (rs : List Row) (n : ℕ) → OneOf n (numbers rs) → (i : ℕ) × (i < length rs) × ((get_or rs i no_row).number ≡ n)
one_number [] n h = elim h [ ]
one_number (r ∷ rs) n (inl e) = (0, omega arith, e)
one_number (r ∷ rs) n (inr h) = let (i, l, e) = one_number rs n h in (suc i, omega arith, e)

-- a number from 1 on is known exactly if it is that of a line
module _ (rs : List Row) (few : length rs ≤ max_lines) (n : ℕ) where
  pub known-one : 1 ≤ n → is_known (numbers_of rs) n ≡ true → OneOf n (numbers rs)
  known-one p h =
      let i = rank_in (numbers_of rs) n 0 in
      let b : i < max_lines = ltb-true i max_lines h in
      let e = sym (number_at rs i few) ∙ rank-number (numbers_of rs) n (numbers-length rs) b in
      by_place i e (dec_lt i (length rs))
    where
      by_place : (i : ℕ) → (get_or rs i no_row).number ≡ n → Dec (i < length rs) → OneOf n (numbers rs)
      by_place i e (yes l) = number-one rs i n l e
      by_place i e (no l) = let z = ap (λ (r : Row). r.number) (get_or-eq_default rs no_row {n = i} (omega (arith, l))) in absurd (omega arith)

  pub one_known : OneOf n (numbers rs) → is_known (numbers_of rs) n ≡ true
  one_known h = let (i, l, e) = one_number rs n h in known_at (numbers_of rs) n i (numbers-length rs) (omega arith) (number_at rs i few ∙ e)

-- ---- what a line without a fault names

-- a name of a line or of a curve, from 1 on
abbrev GoodName : Name → Type 0
GoodName m = (is_naming m.word ≡ true) × (1 ≤ m.number)

abbrev pub AllGood : List Name → Type 0
AllGood [] = Unit {0}
AllGood (m ∷ l) = GoodName m × AllGood l

good-both : (l m : List Name) → AllGood l → AllGood m → AllGood (l ++ m)
good-both [] m g h = h
good-both (n ∷ l) m g h = (g.0, good-both l m g.1 h)

-- a number from 1 on
inside : (n high : ℕ) → between 1 high n ≡ true → 1 ≤ n
inside n high t = leb-true 1 n (both (leb 1 n) (leb n high) t).0

action-names : (kw : ℕ) (a : Action) → action_fault kw a ≡ 0 → AllGood (action_names a)
unfolding action_fault call_fault id_fault curve_fault
action-names kw (assign w v i a) f = tt
action-names kw (assign_position x v a) f = tt
action-names kw (drive w v x u a) f = tt
action-names kw (code m) f = tt
action-names kw (call w v m) f = by_word (is_naming w) refl
  where
    by_word : (b : Bool) → is_naming w ≡ b → AllGood (elim b as (λ _. List Name) [ true ↦ record { word = w; number = m } ∷ [] | false ↦ [] ])
    by_word false t = tt
    by_word true t =
        decide _ (eqb w SETAL) (λ s. let z : is_naming SETAL ≡ true = subst (λ (u : ℕ). is_naming u ≡ true) (eqb-true w SETAL s) t in absurd (false≢true z))
        (λ s. let y = rw s at f in ((t, inside m 255 (unless-zero (between 1 255 m) outside y (omega arith))), tt))
action-names kw (synfct n y z) f = ((refl, inside n max_curves (unless-zero (between 1 max_curves n) outside (lower-zero _ _ f).0 (omega arith))), tt)

actions-names : (kw : ℕ) (r : List Action) (a : Action) → actions_fault kw a r ≡ 0 → AllGood (actions_names a r)
unfolding actions_fault actions_names
actions-names kw [] a f = action-names kw a f
actions-names kw (b ∷ r) a f =
    let (x, y) = lower-zero (action_fault kw a) (actions_fault kw b r) f in
    good-both (action_names a) (actions_names b r) (action-names kw a x) (actions-names kw r b y)

pub line-names : (x : Line) → line_fault x ≡ 0 → AllGood (names_in x)
unfolding line_fault parts_fault names_in
line-names (line w v m c a r) f = actions-names (keyword_of c) r a (lower-zero _ _ (lower-zero _ _ (lower-zero _ _ f).0).1).0

-- ---- the numbers of some names

module _ (is : ℕ → Bool) (m : Name) (l : List Name) where
  named-first : is m.word ≡ true → numbers_named is (m ∷ l) ≡ m.number ∷ numbers_named is l
  unfolding numbers_named
  named-first t = chosen _ _ _ t

  named_none : is m.word ≡ false → numbers_named is (m ∷ l) ≡ numbers_named is l
  unfolding numbers_named
  named_none t = not-Chosen _ _ _ t

  first_one : is m.word ≡ true → OneOf m.number (numbers_named is (m ∷ l))
  first_one t = subst (OneOf m.number) (sym (named-first t)) (inl refl)

  rest-one : (n : ℕ) → OneOf n (numbers_named is l) → OneOf n (numbers_named is (m ∷ l))
  rest-one n o = decide _ (is m.word) (λ t. subst (OneOf n) (sym (named-first t)) (inr o)) (λ t. subst (OneOf n) (sym (named_none t)) o)

  -- one of them is the first, whose word passes, or one of the rest
  one-named : (n : ℕ) → OneOf n (numbers_named is (m ∷ l)) → ((is m.word ≡ true) × (m.number ≡ n)) ⊎ OneOf n (numbers_named is l)
  one-named n o =
      decide _ (is m.word)
      (λ t. ⊎_elim (λ e. inl (t, e)) (λ q. inr q) (subst (OneOf n) (named-first t) o))
      (λ t. inr (subst (OneOf n) (named_none t) o))

-- they are from 1 on
pub named-positive : (is : ℕ → Bool) (l : List Name) → AllGood l → (n : ℕ) → OneOf n (numbers_named is l) → 1 ≤ n
unfolding numbers_named
named-positive is [] g n o = absurd o
named-positive is (m ∷ l) g n o = let p = g.0.1 in ⊎_elim (λ x. let e = x.1 in omega arith) (named-positive is l g.1 n) (one-named is m l n o)

-- ---- the test of the definition: a table of lines and of curves

abbrev is_curve_name : ℕ → Bool
is_curve_name w = eqb w SYNFCT

module _ (lines curves : ℕ → Bool) where
  abbrev table : ℕ → ℕ → Bool
  table = name_table lines curves

  table-line : (m : Name) → is_lock m.word ≡ true → table m.word m.number ≡ lines m.number
  table-line m t = rw t

  table-curve : (m : Name) → is_lock m.word ≡ false → table m.word m.number ≡ curves m.number
  table-curve m t = rw t

  -- SYNFCT names no line, and what names no line is SYNFCT
  no-lock : (w : ℕ) → is_curve_name w ≡ true → is_lock w ≡ false
  no-lock w t = ap is_lock (eqb-true w SYNFCT t)

  no_line_lem : (w : ℕ) → is_naming w ≡ true → is_lock w ≡ false → is_curve_name w ≡ true
  no_line_lem w g t = rw t at g

  -- where each name is known, lines and curves are
  pub each_line : (l : List Name) → each_known table l ≡ true → (n : ℕ) → OneOf n (numbers_named is_lock l) → lines n ≡ true
  unfolding each_known numbers_named
  each_line [] h n o = absurd o
  each_line (m ∷ l) h n o =
      let (a, b) = both (table m.word m.number) (each_known table l) h in
      ⊎_elim (λ x. subst (λ (i : ℕ). lines i ≡ true) x.1 (sym (table-line m x.0) ∙ a)) (each_line l b n) (one-named is_lock m l n o)

  pub each-curve : (l : List Name) → each_known table l ≡ true → (n : ℕ) → OneOf n (numbers_named is_curve_name l) → curves n ≡ true
  unfolding each_known numbers_named
  each-curve [] h n o = absurd o
  each-curve (m ∷ l) h n o =
      let (a, b) = both (table m.word m.number) (each_known table l) h in
      ⊎_elim (λ x. subst (λ (i : ℕ). curves i ≡ true) x.1 (sym (table-curve m (no-lock m.word x.0)) ∙ a)) (each-curve l b n) (one-named is_curve_name m l n o)

  -- and the other way
  pub all_known_lem : (l : List Name) → AllGood l → ((n : ℕ) → OneOf n (numbers_named is_lock l) → lines n ≡ true) → ((n : ℕ) → OneOf n (numbers_named is_curve_name l) → curves n ≡ true) → each_known table l ≡ true
  unfolding each_known
  all_known_lem [] g f h = refl
  all_known_lem (m ∷ l) g f h =
      and-true
      (decide _ (is_lock m.word)
      (λ t. table-line m t ∙ f m.number (first_one is_lock m l t))
      (λ t. table-curve m t ∙ h m.number (first_one is_curve_name m l (no_line_lem m.word g.0.0 t))))
      (all_known_lem l g.1 (λ n o. f n (rest-one is_lock m l n o)) (λ n o. h n (rest-one is_curve_name m l n o)))

  -- one that fails
  abbrev pub Fails : List Name → Type 0
  Fails l = ((n : ℕ) × OneOf n (numbers_named is_lock l) × (lines n ≡ false)) ⊎ ((n : ℕ) × OneOf n (numbers_named is_curve_name l) × (curves n ≡ false))

  pub one-fails : (l : List Name) → AllGood l → each_known table l ≡ false → Fails l
  unfolding each_known
  one-fails [] g h = clash (cc)
  one-fails (m ∷ l) g h =
      decide _ (table m.word m.number)
      (λ t. later (one-fails l g.1 (rest t)))
      (λ t. decide _ (is_lock m.word)
      (λ w. inl (m.number, first_one is_lock m l w, sym (table-line m w) ∙ t))
      (λ w. inr (m.number, first_one is_curve_name m l (no_line_lem m.word g.0.0 w), sym (table-curve m w) ∙ t)))
    where
      rest : table m.word m.number ≡ true → each_known table l ≡ false
      rest t = decide _ (each_known table l) (λ u. contrary (and-true t u) h) (λ u. u)

      later : Fails l → Fails (m ∷ l)
      later (inl (n, o, e)) = inl (n, rest-one is_lock m l n o, e)
      later (inr (n, o, e)) = inr (n, rest-one is_curve_name m l n o, e)

-- ---- 12: below what is kept, of the curves cs at least, a line that uses only these

module _ (q : Kept) (few : length q.rows ≤ max_lines) (cs : List ℕ) (defined : (n : ℕ) → OneOf n cs → is_defined (curves_there q.curves) n ≡ true) where
  abbrev is_line : ℕ → Bool
  is_line n = is_known (numbers_of q.rows) n

  abbrev is_curve : ℕ → Bool
  is_curve n = is_defined (curves_there q.curves) n

  module _ (l : Numbered) (x : Line) (h : GoodLine l x) where
    named-is : is_named (kept_table q) (row_of l) ≡ each_known (kept_table q) (names_in x)
    named-is = rw ((tree-of-tokens (tokens_of l.body).list x).1 h.written)

    good-names : AllGood (names_in x)
    good-names = line-names x h.faultless

    named-only : is_named (kept_table q) (row_of l) ≡ true → NamesOnly (numbers q.rows) x
    named-only t n o = known-one q.rows few n (named-positive is_lock (names_in x) good-names n o) (each_line is_line is_curve (names_in x) (sym named-is ∙ t) n o)

    module _ (u : UsesOnly cs x) where
      only-named : NamesOnly (numbers q.rows) x → is_named (kept_table q) (row_of l) ≡ true
      only-named g = named-is ∙ all_known_lem is_line is_curve (names_in x) good-names (λ n o. one_known q.rows few n (g n o)) (λ n o. defined n (u n o))

      not_named : is_named (kept_table q) (row_of l) ≡ false → (n : ℕ) × OneOf n (lines_named x) × (OneOf n (numbers q.rows) → ⊥)
      not_named t = by_kind (one-fails is_line is_curve (names_in x) good-names (sym named-is ∙ t))
        where
          by_kind : Fails is_line is_curve (names_in x) → (n : ℕ) × OneOf n (lines_named x) × (OneOf n (numbers q.rows) → ⊥)
          by_kind (inl (n, o, e)) = (n, o, λ z. contrary (one_known q.rows few n z) e)
          by_kind (inr (n, o, e)) = contrary (defined n (u n o)) e

  -- of the lines ls, which are the lines xs
  pub all_named : (ls : List Numbered) (xs : List Line) → Placed ls → GoodLines ls xs → first_unknown (kept_table q) (map row_of ls) ≡ 0 → AllNameOnly (numbers q.rows) xs
  unfolding first_not
  all_named [] [] p g h = tt
  all_named [] (x ∷ xs) p g h = absurd g
  all_named (l ∷ ls) [] p g h = absurd g
  all_named (l ∷ ls) (x ∷ xs) p g h =
      choice _ (is_named (kept_table q) (row_of l)) (first_unknown (kept_table q) (map row_of ls)) l.place 0 h
      (λ t e. (named-only l x g.0 t, all_named ls xs p.1 g.1 e))
      (λ _ e. let r = p.0 in absurd (omega arith))

  pub named-all : (ls : List Numbered) (xs : List Line) → GoodLines ls xs → AllUseOnly cs xs → AllNameOnly (numbers q.rows) xs → first_unknown (kept_table q) (map row_of ls) ≡ 0
  unfolding first_not
  named-all [] [] g u h = refl
  named-all [] (x ∷ xs) g u h = absurd g
  named-all (l ∷ ls) [] g u h = absurd g
  named-all (l ∷ ls) (x ∷ xs) g u h = chosen _ _ _ (only-named l x g.0 u.0 h.0) ∙ named-all ls xs g.1 u.1 h.1

  pub first-unnamed : (ls : List Numbered) (xs : List Line) (k : ℕ) → GoodLines ls xs → AllUseOnly cs xs → first_unknown (kept_table q) (map row_of ls) ≡ suc k → FirstUnnamed (numbers q.rows) ls xs (suc k)
  unfolding first_not
  first-unnamed [] [] k g u h = absurd (omega arith)
  first-unnamed [] (x ∷ xs) k g u h = absurd g
  first-unnamed (l ∷ ls) [] k g u h = absurd g
  first-unnamed (l ∷ ls) (x ∷ xs) k g u h =
      choice _ (is_named (kept_table q) (row_of l)) (first_unknown (kept_table q) (map row_of ls)) l.place (suc k) h
      (λ t e. inr (named-only l x g.0 t, first-unnamed ls xs k g.1 u.1 e))
      (λ t e. inl (not_named l x g.0 u.0 t, e))

  pub unnamed-first : (ls : List Numbered) (xs : List Line) (k : ℕ) → GoodLines ls xs → AllUseOnly cs xs → FirstUnnamed (numbers q.rows) ls xs k → first_unknown (kept_table q) (map row_of ls) ≡ k
  unfolding first_not
  unnamed-first [] xs k g u h = absurd h
  unnamed-first (l ∷ ls) [] k g u h = absurd h
  unnamed-first (l ∷ ls) (x ∷ xs) k g u (inl (n, e)) = not-Chosen _ _ _ (decide _ (is_named (kept_table q) (row_of l)) (λ t. absurd (n.2 (named-only l x g.0 t n.0 n.1))) (λ t. t)) ∙ e
  unnamed-first (l ∷ ls) (x ∷ xs) k g u (inr (a, h)) = chosen _ _ _ (only-named l x g.0 u.0 a) ∙ unnamed-first ls xs k g.1 u.1 h

-- such a line stands at a place from 1 on
pub unnamed-place : (ns : List ℕ) (ls : List Numbered) (xs : List Line) (k : ℕ) → Placed ls → FirstUnnamed ns ls xs k → 1 ≤ k
unnamed-place ns [] xs k p h = absurd h
unnamed-place ns (l ∷ ls) [] k p h = absurd h
unnamed-place ns (l ∷ ls) (x ∷ xs) k p (inl (u, e)) = let q = p.0 in omega arith
unnamed-place ns (l ∷ ls) (x ∷ xs) k p (inr (a, h)) = unnamed-place ns ls xs k p.1 h
