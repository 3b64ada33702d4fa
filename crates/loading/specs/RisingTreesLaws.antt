-- Laws of some by rising number: they are the same, their numbers rise, and nothing else is so. So the rows of a text by rising number are told by its trees by rising number, and its curves by its definitions.
-- Nothing is assumed.
use Rattle.std.specs.Prelude.{◌≡◌, false, ◌⊎◌, ltb, length, get_or}
use Rattle.std.proofs.Math.Path.{refl, sym, ap, subst}
use Rattle.std.proofs.Common.{◌∙◌}
use Rattle.std.proofs.Math.Bool.{true}
use Rattle.std.proofs.lemmas.Bool.{false≢true}
use mathlib.Core.List.{List, [], ◌∷◌, map}
use Rattle.std.proofs.Math.Logic.{inl, inr, ⊎_elim}
use Prim.Native.Nat.{ℕ, zero, suc, ◌+◌, ◌-◌, ◌≤◌, ◌<◌}
use native.Mathlib.Omega.{arith}
use borrow.Author.Tests.{ltb-true, ltb-false, lt-ltb, le-leb}
use Rattle.values.specs.Choice.{decide, contrary, chosen, refused as not-Chosen, and-true}
use Rattle.tokens.specs.Token.{max_lines}
use Rattle.grammar.specs.Tree.{Line, line_tokens, tree_number, Definition, definition_front, DefinedAs}
use Rattle.grammar.specs.TreeOfLaws.{one-definition}
use Rattle.engine.specs.Set.{with_end}
use Rattle.soundness.specs.AnswerCodes.{OneOf}
use Rattle.text.specs.Lines.{Numbered, token_lines}
use Rattle.reader.specs.Row.{Row, is_there, no_row, by_number}
use Rattle.reader.specs.Load.{row_of}
use Rattle.reader.specs.Draft.{Apart}
use Rattle.loading.specs.TakenLaws.{All, there_of, kept_of}
use Rattle.loading.specs.ByNumberLaws.{Of, apart-number, by-rises, by-of, by_rank_lem}
use Rattle.loading.specs.TextTrees.{Distinct, put, in_order, rising_trees, curve_number, rising_definitions, RisesBy, GoodLines, IsLines}
use Rattle.loading.specs.TextNamesLaws.{numbers}
use Rattle.loading.specs.TextTreesLaws.{there-at, front-there, number-row}
use Rattle.loading.specs.TextLinesLaws.{text-curves}
use Rattle.loading.specs.LoadedCurves.{AreDefinitions}
use Rattle.loading.specs.LoadedTurns.{AreTrees}
use Rattle.loading.specs.TextCurvesLaws.{good-definitions}

-- ---- the same

module _ {A : Type 0} (f : A → ℕ) where
  put_one : (x z : A) (xs : List A) → OneOf z (put f x xs) → (x ≡ z) ⊎ OneOf z xs
  unfolding put
  put_one x z [] h = h
  put_one x z (y ∷ ys) h =
      decide _ (ltb (f x) (f y))
      (λ t. rw (t, put) at h)
      (λ t. let k : (y ≡ z) ⊎ OneOf z (put f x ys) = rw (t, put) at h in ⊎_elim (λ e. inr (inl e)) (λ o. ⊎_elim (λ e. inl e) (λ q. inr (inr q)) (put_one x z ys o)) k)

  one-put : (x z : A) (xs : List A) → (x ≡ z) ⊎ OneOf z xs → OneOf z (put f x xs)
  unfolding put
  one-put x z [] h = h
  one-put x z (y ∷ ys) h =
      decide _ (ltb (f x) (f y))
      (λ t. rw (t, put) h)
      (λ t. rw (t, put) (⊎_elim (λ e. inr (one-put x z ys (inl e))) (⊎_elim (λ e. inl e) (λ o. inr (one-put x z ys (inr o)))) h))

  -- each of some by rising number is one of them,
  pub order-one : (xs : List A) (z : A) → OneOf z (in_order f xs) → OneOf z xs
  unfolding in_order
  order-one [] z h = h
  order-one (x ∷ xs) z h = ⊎_elim (λ e. inl e) (λ o. inr (order-one xs z o)) (put_one x z (in_order f xs) h)

  -- and each of them is there
  pub one-order : (xs : List A) (z : A) → OneOf z xs → OneOf z (in_order f xs)
  unfolding in_order
  one-order [] z h = elim h [ ]
  one-order (x ∷ xs) z (inl e) = one-put x z (in_order f xs) (inl e)
  one-order (x ∷ xs) z (inr o) = one-put x z (in_order f xs) (inr (one-order xs z o))

  put-length : (x : A) (xs : List A) → length (put f x xs) ≡ suc (length xs)
  unfolding put
  put-length x [] = refl
  put-length x (y ∷ ys) = decide _ (ltb (f x) (f y)) (λ t. rw (t, put)) (λ t. rw (t, put, put-length x ys))

  -- as many
  pub order-length : (xs : List A) → length (in_order f xs) ≡ length xs
  unfolding in_order
  order-length [] = refl
  order-length (x ∷ xs) = put-length x (in_order f xs) ∙ ap suc (order-length xs)

  -- ---- rising

  put-rises : (x : A) (xs : List A) (n : ℕ) → n < f x → RisesBy f n xs → ((z : A) → OneOf z xs → f z ≡ f x → ⊥) → RisesBy f n (put f x xs)
  unfolding put
  put-rises x [] n l h o = (l, tt)
  put-rises x (y ∷ ys) n l h o =
      decide _ (ltb (f x) (f y))
      (λ t. rw (t, put) (l, (ltb-true (f x) (f y) t, h.1)))
      (λ t.
      let a = ltb-false (f x) (f y) t in
      let b = o y (inl refl) in
      rw (t, put) (h.0, put-rises x ys (f y) (omega (arith, b)) h.1 (λ z g. o z (inr g))))

  -- the number of one of some is one of their numbers
  pub one_number : (xs : List A) (z : A) → OneOf z xs → OneOf (f z) (map f xs)
  one_number [] z h = elim h [ ]
  one_number (x ∷ xs) z (inl e) = inl (ap f e)
  one_number (x ∷ xs) z (inr o) = inr (one_number xs z o)

  -- with numbers that are distinct and from 1 on
  pub order-rises : (xs : List A) → Distinct (map f xs) → ((z : A) → OneOf z xs → 1 ≤ f z) → RisesBy f 0 (in_order f xs)
  unfolding in_order
  order-rises [] d p = tt
  order-rises (x ∷ xs) d p =
      let a = p x (inl refl) in
      put-rises x (in_order f xs) 0 (omega arith) (order-rises xs d.1 (λ z o. p z (inr o)))
      (λ z o e. d.0 (subst (λ (n : ℕ). OneOf n (map f xs)) e (one_number xs z (order-one xs z o))))

  -- what rises from above n on is above n, so no two numbers are equal,
  rises-number : (xs : List A) (n m : ℕ) → RisesBy f n xs → OneOf m (map f xs) → n < m
  rises-number [] n m h o = elim o [ ]
  rises-number (x ∷ xs) n m h (inl e) = let l = h.0 in omega arith
  rises-number (x ∷ xs) n m h (inr o) = let l = h.0 in let i = rises-number xs (f x) m h.1 o in omega arith

  pub rises-distinct : (xs : List A) (n : ℕ) → RisesBy f n xs → Distinct (map f xs)
  rises-distinct [] n h = tt
  rises-distinct (x ∷ xs) n h = ((λ o. let l = rises-number xs (f x) (f x) h.1 o in omega arith), rises-distinct xs (f x) h.1)

  -- and it is by rising number
  put_first : (x : A) (xs : List A) → RisesBy f (f x) xs → put f x xs ≡ x ∷ xs
  unfolding put
  put_first x [] h = refl
  put_first x (y ∷ ys) h = chosen _ _ _ (lt-ltb (f x) (f y) h.0)

  pub rises-order : (xs : List A) (n : ℕ) → RisesBy f n xs → in_order f xs ≡ xs
  unfolding in_order
  rises-order [] n h = refl
  rises-order (x ∷ xs) n h = rw (rises-order xs (f x) h.1) (put_first x xs h.1)

  -- ---- nothing else is so

  rises-one : (xs : List A) (n : ℕ) (z : A) → RisesBy f n xs → OneOf z xs → n < f z
  rises-one [] n z h o = elim o [ ]
  rises-one (x ∷ xs) n z h (inl e) = subst (λ (y : A). n < f y) e h.0
  rises-one (x ∷ xs) n z h (inr o) = let a = h.0 in let b = rises-one xs (f x) z h.1 o in omega arith

  -- one of the later is not the first
  one_later : (x z : A) (xs ys : List A) → RisesBy f (f x) xs → OneOf z xs → (x ≡ z) ⊎ OneOf z ys → OneOf z ys
  one_later x z xs ys r o (inl e) = let u = rises-one xs (f x) z r o in let w = ap f e in absurd (omega arith)
  one_later x z xs ys r o (inr q) = q

  -- of the same, both rising, the first is the same
  same_first : (x y : A) (xs ys : List A) → RisesBy f (f x) xs → RisesBy f (f y) ys → (y ≡ x) ⊎ OneOf x ys → (x ≡ y) ⊎ OneOf y xs → x ≡ y
  same_first x y xs ys a b (inl e) k = sym e
  same_first x y xs ys a b (inr o) (inl e) = e
  same_first x y xs ys a b (inr o) (inr q) = let u = rises-one ys (f y) x b o in let v = rises-one xs (f x) y a q in absurd (omega arith)

  -- and all are
  pub same-rising : (xs ys : List A) (n : ℕ) → RisesBy f n xs → RisesBy f n ys → ((z : A) → OneOf z xs → OneOf z ys) → ((z : A) → OneOf z ys → OneOf z xs) → xs ≡ ys
  same-rising [] [] n a b g h = refl
  same-rising [] (y ∷ ys) n a b g h = absurd (h y (inl refl))
  same-rising (x ∷ xs) [] n a b g h = absurd (g x (inl refl))
  same-rising (x ∷ xs) (y ∷ ys) n a b g h =
      let e = same_first x y xs ys a.1 b.1 (g x (inl refl)) (h y (inl refl)) in
      let c : RisesBy f (f x) ys = rw e b.1 in
      let i = same-rising xs ys (f x) a.1 c
      (λ z o. one_later x z xs ys a.1 o (subst (λ (v : A). (v ≡ z) ⊎ OneOf z ys) (sym e) (g z (inr o))))
      (λ z o. one_later x z ys xs c o (h z (inr o))) in
      rw (e, i)

-- ---- rows

abbrev number : Row → ℕ
number r = r.number

row_one : (rs : List Row) (i : ℕ) → i < length rs → OneOf (get_or rs i no_row) rs
row_one [] i l = absurd (omega arith)
row_one (r ∷ rs) zero l = inl refl
row_one (r ∷ rs) (suc i) l = inr (row_one rs i (omega arith))

one-row : (rs : List Row) (z : Row) → OneOf z rs → (i : ℕ) × (i < length rs) × (get_or rs i no_row ≡ z)
one-row [] z h = elim h [ ]
one-row (r ∷ rs) z (inl e) = (0, omega arith, e)
one-row (r ∷ rs) z (inr o) = let (i, l, e) = one-row rs z o in (suc i, omega arith, e)

all_one : (P : Row → Type 0) (rs : List Row) (z : Row) → All P rs → OneOf z rs → P z
all_one P [] z h o = elim o [ ]
all_one P (r ∷ rs) z h (inl e) = subst P e h.0
all_one P (r ∷ rs) z h (inr o) = all_one P rs z h.1 o

-- rows by rising number, as the definition of loading has them
pub by_order : (rs : List Row) → length rs ≤ max_lines → Apart rs → Distinct (numbers rs) → by_number rs ≡ in_order number rs
by_order rs few apart d =
    same-rising number (by_number rs) (in_order number rs) 0 (by-rises rs few apart)
    (order-rises number rs d (λ z o. let (i, l, e) = one-row rs z o in subst (λ (r : Row). 1 ≤ r.number) e (apart-number rs i apart l)))
    (λ z o. let (j, l, e) = all_one (Of rs) (by_number rs) z (by-of rs few apart) o in one-order number rs z (subst (λ (r : Row). OneOf r rs) (sym e) (row_one rs j l)))
    (λ z o.
    let (i, l, e) = one-row rs z (order-one number rs z o) in
    let (k, u, v) = by_rank_lem rs few apart i l in
    subst (λ (r : Row). OneOf r (by_number rs)) (v ∙ e) (row_one (by_number rs) k u))

-- ---- trees and rows

-- each tree has the tokens and the number of its row
abbrev pub Pairs : List Line → List Row → Type 0
Pairs [] [] = Unit {0}
Pairs [] (r ∷ rs) = ⊥
Pairs (x ∷ xs) [] = ⊥
Pairs (x ∷ xs) (r ∷ rs) = (line_tokens x ≡ with_end r.tokens) × (r.number ≡ tree_number x) × Pairs xs rs

pub good-pairs : (ls : List Numbered) (xs : List Line) → GoodLines ls xs → Pairs xs (map row_of ls)
good-pairs [] [] g = tt
good-pairs [] (x ∷ xs) g = absurd g
good-pairs (l ∷ ls) [] g = absurd g
good-pairs (l ∷ ls) (x ∷ xs) g = (g.0.written, number-row l x g.0, good-pairs ls xs g.1)

pub pairs-trees : (xs : List Line) (rs : List Row) → Pairs xs rs → AreTrees xs rs
pairs-trees [] [] h = tt
pairs-trees [] (r ∷ rs) h = absurd h
pairs-trees (x ∷ xs) [] h = absurd h
pairs-trees (x ∷ xs) (r ∷ rs) h = (h.0, pairs-trees xs rs h.2)

pairs-put : (x : Line) (r : Row) (xs : List Line) (rs : List Row) → line_tokens x ≡ with_end r.tokens → r.number ≡ tree_number x → Pairs xs rs → Pairs (put tree_number x xs) (put number r rs)
unfolding put
pairs-put x r [] [] e n h = (e, n, tt)
pairs-put x r [] (q ∷ rs) e n h = absurd h
pairs-put x r (y ∷ ys) [] e n h = absurd h
pairs-put x r (y ∷ ys) (q ∷ rs) e n h =
    let m = h.1 in
    decide _ (ltb (tree_number x) (tree_number y))
    (λ t. let u : ltb r.number q.number ≡ true = rw (n, m) t in rw (t, u, put) (e, n, h))
    (λ t. let u : ltb r.number q.number ≡ false = rw (n, m) t in rw (t, u, put) (h.0, m, pairs-put x r ys rs e n h.2))

-- so by rising number
pub pairs-order : (xs : List Line) (rs : List Row) → Pairs xs rs → Pairs (rising_trees xs) (in_order number rs)
unfolding in_order
pairs-order [] [] h = tt
pairs-order [] (r ∷ rs) h = absurd h
pairs-order (x ∷ xs) [] h = absurd h
pairs-order (x ∷ xs) (r ∷ rs) h = pairs-put x r (rising_trees xs) (in_order number rs) h.0 h.1 (pairs-order xs rs h.2)

-- ---- definitions and curves

-- what rises from above n + 1 on rises from above n on
rises-lower : {A : Type 0} (f : A → ℕ) (xs : List A) (n : ℕ) → RisesBy f (n + 1) xs → RisesBy f n xs
rises-lower f [] n h = tt
rises-lower f (x ∷ xs) n h = (let l = h.0 in omega arith, h.1)

module _ (ds : List Definition) where
  -- the definitions, some of ds, of curves with the numbers from above n on
  record Fronts (cs : List (List ℕ)) (n : ℕ) : Type 0 where
    defined : List Definition
    rises : RisesBy curve_number n defined
    fronts : map definition_front defined ≡ there_of cs
    of : (z : Definition) → OneOf z defined → OneOf z ds
    each : (j : ℕ) → is_there (get_or cs j []) ≡ true → (z : Definition) × OneOf z defined × DefinedAs z (get_or cs j [])

  -- a curve with the number above n, or none
  one-front : (ts : List ℕ) (cs : List (List ℕ)) (n : ℕ) (d : Definition) → is_there ts ≡ true → OneOf d ds → curve_number d ≡ n + 1 → DefinedAs d ts → Fronts cs (n + 1) → Fronts (ts ∷ cs) n
  unfolding there_of
  one-front ts cs n d t o e w r = record {
    defined = d ∷ r.defined;
    rises = (omega arith, subst (λ (m : ℕ). RisesBy curve_number m r.defined) (sym e) r.rises);
    fronts = rw (w, r.fronts) (sym (chosen (is_there ts) _ _ t));
    of = of-each;
    each = each_of_lem;
  }
    where
      of-each : (z : Definition) → OneOf z (d ∷ r.defined) → OneOf z ds
      of-each z (inl i) = subst (λ (x : Definition). OneOf x ds) i o
      of-each z (inr i) = r.of z i

      each_of_lem : (j : ℕ) → is_there (get_or (ts ∷ cs) j []) ≡ true → (z : Definition) × OneOf z (d ∷ r.defined) × DefinedAs z (get_or (ts ∷ cs) j [])
      each_of_lem zero u = (d, inl refl, w)
      each_of_lem (suc j) u = let (z, i, v) = r.each j u in (z, inr i, v)

  no_front : (ts : List ℕ) (cs : List (List ℕ)) (n : ℕ) → is_there ts ≡ false → Fronts cs (n + 1) → Fronts (ts ∷ cs) n
  unfolding there_of
  no_front ts cs n t r = record {
    defined = r.defined;
    rises = rises-lower curve_number r.defined n r.rises;
    fronts = r.fronts ∙ sym (not-Chosen (is_there ts) _ _ t);
    of = r.of;
    each = each_of_lem;
  }
    where
      each_of_lem : (j : ℕ) → is_there (get_or (ts ∷ cs) j []) ≡ true → (z : Definition) × OneOf z r.defined × DefinedAs z (get_or (ts ∷ cs) j [])
      each_of_lem zero u = contrary u t
      each_of_lem (suc j) u = r.each j u

  have-fronts : (cs : List (List ℕ)) (n : ℕ) → ((j : ℕ) → is_there (get_or cs j []) ≡ true → (d : Definition) × OneOf d ds × (curve_number d ≡ n + 1 + j) × DefinedAs d (get_or cs j [])) → Fronts cs n
  unfolding there_of
  have-fronts [] n h = record { defined = []; rises = tt; fronts = refl; of = λ z o. absurd o; each = λ j t. absurd (false≢true t) }
  have-fronts (ts ∷ cs) n h =
      let r = have-fronts cs (n + 1) (λ j t. let (d, o, e, w) = h (suc j) t in (d, o, omega arith, w)) in
      decide _ (is_there ts) (λ t. let (d, o, e, w) = h 0 t in one-front ts cs n d t o (omega arith) w r) (λ t. no_front ts cs n t r)

-- THE CURVES THAT ARE THERE, by number, are the tokens of their definitions by rising number
pub definitions-order : (ds : List Definition) (cs : List (List ℕ)) → AreDefinitions ds cs → Distinct (map curve_number ds) → there_of cs ≡ map definition_front (rising_definitions ds)
definitions-order ds cs are apart =
    let r = have-fronts ds cs 0 (λ j t.
    let i : suc j - 1 ≡ j = omega arith in
    let (d, o, e) = are.each (suc j) (and-true (le-leb 1 (suc j) (omega arith)) (rw i (there-at cs j ∙ t))) in
    let k : curve_number d - 1 ≡ j = omega arith in
    (d, o, omega arith, rw k at (are.written d o))) in
    let same = same-rising curve_number r.defined (rising_definitions ds) 0 r.rises (order-rises curve_number ds apart (λ z o. (are.number z o).0))
    (λ z o. one-order curve_number ds z (r.of z o))
    (λ z o.
    let i = order-one curve_number ds z o in
    let w = are.written z i in
    let (y, p, v) = r.each (curve_number z - 1) (front-there z _ w) in
    subst (λ (x : Definition). OneOf x r.defined) (one-definition y z (v ∙ sym w)) p) in
    sym r.fronts ∙ ap (map definition_front) same

-- so those of a text
pub rising-definitions : (t : List ℕ) (ds : List Definition) (xs : List Line) → IsLines t ds xs → there_of (kept_of t).curves ≡ map definition_front (rising_definitions ds)
rising-definitions t ds xs x = definitions-order ds (kept_of t).curves (good-definitions _ ds (text-curves (token_lines t) ds xs x.good) x.apart) x.apart
