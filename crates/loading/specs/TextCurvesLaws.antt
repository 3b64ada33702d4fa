-- The definitions of a text are those of its curves: each stands in the place of its number, and each curve that is there is one of them. Laws; nothing is assumed.
use Rattle.std.specs.Prelude.{◌≡◌, refl, true, false, List, [], ◌∷◌, map, ◌⊎◌, ℕ, ◌-◌, ◌≤◌, leb, length, get_or, set}
use Rattle.std.proofs.Common.{sym, ap, subst, ◌∙◌, inl, inr, arith, length-set, get_or-set_same, get_or-set_other, leb-true}
use Rattle.std.proofs.Math.Decide.{ℕ_discrete}
use Rattle.values.specs.Choice.{both}
use Rattle.tokens.specs.Token.{max_curves}
use Rattle.grammar.specs.Tree.{Definition, DefinedAs}
use Rattle.soundness.specs.AnswerCodes.{OneOf}
use Rattle.text.specs.Tokens.{tokens_of}
use Rattle.text.specs.Lines.{Numbered}
use Rattle.reader.specs.Row.{nothing, is_there, curves_there}
use Rattle.reader.specs.Load.{curve_number_in}
use Rattle.reader.specs.CheckedLaws.{definition-number}
use Rattle.loading.specs.TextTrees.{Distinct, curve_number, GoodCurves}
use Rattle.loading.specs.TakenLaws.{curves_added}
use Rattle.loading.specs.TextTreesLaws.{there-at, none-there, curve-number-is}
use Rattle.loading.specs.LoadedCurves.{AreDefinitions}

abbrev tokens : Numbered → List ℕ
tokens l = (tokens_of l.body).list

-- the curves with a line more
abbrev more : List (List ℕ) → Numbered → List (List ℕ)
more cs l = set cs (curve_number_in (tokens l) - 1) (tokens l)

-- there are as many places
kept-length : (cs : List (List ℕ)) (ls : List Numbered) → length (curves_added cs ls) ≡ length cs
unfolding curves_added
kept-length cs [] = refl
kept-length cs (l ∷ ls) = kept-length (more cs l) ls ∙ length-set cs _ (tokens l)

-- a number that none of some definitions has: its curve stays
other-kept : (ls : List Numbered) (ds : List Definition) (cs : List (List ℕ)) (n : ℕ) → GoodCurves ls ds → 1 ≤ n → (OneOf n (map curve_number ds) → ⊥) →
    get_or (curves_added cs ls) (n - 1) [] ≡ get_or cs (n - 1) []
unfolding curves_added
other-kept [] [] cs n g i o = refl
other-kept [] (d ∷ ds) cs n g i o = absurd g
other-kept (l ∷ ls) [] cs n g i o = absurd g
other-kept (l ∷ ls) (d ∷ ds) cs n g i o =
    let e = curve-number-is l d g.0.written in
    let b = definition-number d g.0.faultless in
    other-kept ls ds (more cs l) n g.1 i (λ p. o (inr p)) ∙ get_or-set_other cs (curve_number_in (tokens l) - 1) (n - 1) (tokens l) [] (λ z. o (inl (omega arith)))

-- each definition is written as the tokens in the place of its number
written-kept : (ls : List Numbered) (ds : List Definition) (cs : List (List ℕ)) → length cs ≡ max_curves → GoodCurves ls ds → Distinct (map curve_number ds) →
    (d : Definition) → OneOf d ds → DefinedAs d (get_or (curves_added cs ls) (d.number - 1) [])
unfolding curves_added
written-kept [] [] cs s g h d o = absurd o
written-kept [] (x ∷ ds) cs s g h d o = absurd g
written-kept (l ∷ ls) [] cs s g h d o = absurd o
written-kept (l ∷ ls) (x ∷ ds) cs s g h d (inl z) =
    let e = curve-number-is l x g.0.written in
    let b = definition-number x g.0.faultless in
    let k : curve_number_in (tokens l) - 1 ≡ x.number - 1 = omega arith in
    let own : get_or (more cs l) (x.number - 1) [] ≡ tokens l = rw (← k) (get_or-set_same cs (curve_number_in (tokens l) - 1) (tokens l) [] (omega arith)) in
    subst (λ (y : Definition). DefinedAs y (get_or (curves_added (more cs l) ls) (y.number - 1) [])) z
    (g.0.written ∙ sym (other-kept ls ds (more cs l) x.number g.1 b.0 h.0 ∙ own))
written-kept (l ∷ ls) (x ∷ ds) cs s g h d (inr o) = written-kept ls ds (more cs l) (length-set cs _ (tokens l) ∙ s) g.1 h.1 d o

-- a curve that is there is that of a definition, or was there before
each-kept : (ls : List Numbered) (ds : List Definition) (cs : List (List ℕ)) (n : ℕ) → GoodCurves ls ds → 1 ≤ n → is_there (get_or (curves_added cs ls) (n - 1) []) ≡ true →
    ((d : Definition) × OneOf d ds × (d.number ≡ n)) ⊎ (is_there (get_or cs (n - 1) []) ≡ true)
unfolding curves_added
each-kept [] [] cs n g i t = inr t
each-kept [] (d ∷ ds) cs n g i t = absurd g
each-kept (l ∷ ls) [] cs n g i t = absurd g
each-kept (l ∷ ls) (d ∷ ds) cs n g i t = by-rest (each-kept ls ds (more cs l) n g.1 i t)
  where
    by_number_lem : Dec (d.number ≡ n) → is_there (get_or (more cs l) (n - 1) []) ≡ true → ((x : Definition) × OneOf x (d ∷ ds) × (x.number ≡ n)) ⊎ (is_there (get_or cs (n - 1) []) ≡ true)
    by_number_lem (yes e) u = inl (d, inl refl, e)
    by_number_lem (no e) u =
        let c = curve-number-is l d g.0.written in
        let b = definition-number d g.0.faultless in
        inr (ap is_there (sym (get_or-set_other cs (curve_number_in (tokens l) - 1) (n - 1) (tokens l) [] (λ z. e (omega arith)))) ∙ u)

    by-rest : ((x : Definition) × OneOf x ds × (x.number ≡ n)) ⊎ (is_there (get_or (more cs l) (n - 1) []) ≡ true) → ((x : Definition) × OneOf x (d ∷ ds) × (x.number ≡ n)) ⊎ (is_there (get_or cs (n - 1) []) ≡ true)
    by-rest (inl (x, o, e)) = inl (x, inr o, e)
    by-rest (inr u) = by_number_lem (ℕ_discrete d.number n) u

good-number : (ls : List Numbered) (ds : List Definition) → GoodCurves ls ds → (d : Definition) → OneOf d ds → (1 ≤ d.number) × (d.number ≤ max_curves)
good-number [] [] g d o = absurd o
good-number [] (x ∷ ds) g d o = absurd g
good-number (l ∷ ls) [] g d o = absurd o
good-number (l ∷ ls) (x ∷ ds) g d (inl e) = subst (λ (y : Definition). (1 ≤ y.number) × (y.number ≤ max_curves)) e (definition-number x g.0.faultless)
good-number (l ∷ ls) (x ∷ ds) g d (inr o) = good-number ls ds g.1 d o

-- THE DEFINITIONS OF A TEXT, whose numbers are distinct, are those of the curves that are taken of it
pub good-definitions : (ls : List Numbered) (ds : List Definition) → GoodCurves ls ds → Distinct (map curve_number ds) → AreDefinitions ds (curves_added nothing.curves ls)
good-definitions ls ds g h = record {
  number = λ d o. let b = good-number ls ds g d o in let e = kept-length nothing.curves ls in omega arith;
  written = written-kept ls ds nothing.curves refl g h;
  each = λ n t.
      let cs = curves_added nothing.curves ls in
      let (a, b) = both (leb 1 n) (get_or (curves_there cs) (n - 1) false) t in
      of-text n (each-kept ls ds nothing.curves n g (leb-true 1 n a) (sym (there-at cs (n - 1)) ∙ b));
}
  where
    of-text : (n : ℕ) → ((d : Definition) × OneOf d ds × (d.number ≡ n)) ⊎ (is_there (get_or nothing.curves (n - 1) []) ≡ true) → (d : Definition) × OneOf d ds × (d.number ≡ n)
    of-text n (inl x) = x
    of-text n (inr u) = absurd (none-there max_curves (n - 1) u)
