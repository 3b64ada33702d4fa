-- THE CURVES OF A SET THAT LOADING TAKES ARE THOSE OF THE DEFINITIONS OF ITS TEXT. Theorems; nothing is assumed.
use Rattle.std.specs.Prelude.{◌≡◌, refl, true, false, List, [], ◌∷◌, map, ℕ, zero, suc, ◌+◌, ◌-◌, ◌≤◌, ◌<◌, leb, length, get_or}
use Rattle.std.proofs.Common.{sym, ap, subst, ◌∙◌, inl, inr, arith, leb-true}
use Rattle.std.proofs.lemmas.Bool.{false≢true}
use Rattle.values.specs.Choice.{both, decide}
use Rattle.grammar.specs.Tree.{Definition, DefinedAs}
use Rattle.grammar.specs.Meaning.{Stands}
use Rattle.grammar.specs.NumbersTo.{definition_to}
use Rattle.engine.specs.Set.{curve_start, is_defined}
use Rattle.soundness.specs.AnswerCodes.{OneOf}
use Rattle.turn_trees.specs.TurnTree.{curve_named}
use Rattle.turn_trees.specs.NamesLaws.{Defined}
use Rattle.turn_trees.specs.SoundTurns.{CurvesOf}
use Rattle.turn_trees.specs.SoundCurves.{DefinitionAt, DefinitionsOf, definitions-curves}
use Rattle.turn_trees.specs.TurnNumbersTo.{curves-to}
use Rattle.reader.specs.Row.{Kept, is_there, curves_there, by_number, set_of}
use Rattle.reader.specs.Load.{taken, outcome}
use Rattle.loading.specs.Unmarked.{unmarked, unmarked_definition}
use Rattle.loading.specs.UnmarkedLaws.{unmarked-keeps}
use Rattle.loading.specs.PlacedLaws.{CurveHeld, CurvesHeld, held_tokens}
use Rattle.loading.specs.StoredLineLaws.{written-curve, held-front}
use Rattle.loading.specs.LinesReadLaws.{FineFrom}
use Rattle.loading.specs.TextTreesLaws.{there-at, front-there}
use Rattle.loading.specs.LoadedLaws.{curves-fine, taken-held, taken-there, taken-sound}

-- some definitions are those of curves that are taken: each is written as the tokens of the curve of its number,
pub record AreDefinitions (ds : List Definition) (cs : List (List ℕ)) : Type 0 where
  pub number : (d : Definition) → OneOf d ds → (1 ≤ d.number) × (d.number ≤ length cs)
  pub written : (d : Definition) → OneOf d ds → DefinedAs d (get_or cs (d.number - 1) [])
  -- and each curve that is there has one
  pub each : (n : ℕ) → is_defined (curves_there cs) n ≡ true → (d : Definition) × OneOf d ds × (d.number ≡ n)

-- the definitions of the curves from curve n on
record DefinitionsFrom (cs : List (List ℕ)) (n : ℕ) (ds : List Definition) : Type 0 where
  written : (d : Definition) → OneOf d ds → (j : ℕ) × (j < length cs) × (d.number ≡ n + j) × DefinedAs d (get_or cs j [])
  each : (j : ℕ) → is_there (get_or cs j []) ≡ true → (d : Definition) × OneOf d ds × (d.number ≡ n + j)

-- curves without a fault have definitions
have-definitions : (cs : List (List ℕ)) (n : ℕ) → FineFrom cs n → (ds : List Definition) × DefinitionsFrom cs n ds
have-definitions [] n f = ([], record { written = λ d o. absurd o; each = λ j t. absurd (false≢true t) })
have-definitions (ts ∷ cs) n f =
    let (ds, h) = have-definitions cs (n + 1) f.1 in
    decide _ (is_there ts)
    (λ t.
    let (c, i) = f.0 t in
    let w = written-curve ts c in
    (w.tree ∷ ds, record { written = one_more_lem w.tree ds h (sym w.number ∙ i) w.tokens; each = of-each w.tree ds h (sym w.number ∙ i) }))
    (λ t. (ds, record { written = λ d o. later d (h.written d o); each = none_more ds h t }))
  where
    later : (d : Definition) → (j : ℕ) × (j < length cs) × (d.number ≡ n + 1 + j) × DefinedAs d (get_or cs j []) → (j : ℕ) × (j < suc (length cs)) × (d.number ≡ n + j) × DefinedAs d (get_or (ts ∷ cs) j [])
    later d (j, l, e, w) = (suc j, omega arith, omega arith, w)

    one_more_lem : (x : Definition) (ds : List Definition) → DefinitionsFrom cs (n + 1) ds → x.number ≡ n → DefinedAs x ts →
        (d : Definition) → OneOf d (x ∷ ds) → (j : ℕ) × (j < suc (length cs)) × (d.number ≡ n + j) × DefinedAs d (get_or (ts ∷ cs) j [])
    one_more_lem x ds h e w d (inl z) = (0, omega arith, subst (λ (y : Definition). y.number ≡ n + 0) z (omega arith), subst (λ (y : Definition). DefinedAs y ts) z w)
    one_more_lem x ds h e w d (inr o) = later d (h.written d o)

    behind : (ds : List Definition) (j : ℕ) → (d : Definition) × OneOf d ds × (d.number ≡ n + 1 + j) → (d : Definition) × OneOf d ds × (d.number ≡ n + suc j)
    behind ds j (d, o, e) = (d, o, omega arith)

    of-each : (x : Definition) (ds : List Definition) → DefinitionsFrom cs (n + 1) ds → x.number ≡ n → (j : ℕ) → is_there (get_or (ts ∷ cs) j []) ≡ true → (d : Definition) × OneOf d (x ∷ ds) × (d.number ≡ n + j)
    of-each x ds h e zero t = (x, inl refl, omega arith)
    of-each x ds h e (suc j) t = let (d, o, i) = behind ds j (h.each j t) in (d, inr o, i)

    none_more : (ds : List Definition) → DefinitionsFrom cs (n + 1) ds → is_there ts ≡ false → (j : ℕ) → is_there (get_or (ts ∷ cs) j []) ≡ true → (d : Definition) × OneOf d ds × (d.number ≡ n + j)
    none_more ds h f zero t = absurd (false≢true (sym f ∙ t))
    none_more ds h f (suc j) t = behind ds j (h.each j t)

from_first : (cs : List (List ℕ)) (ds : List Definition) → DefinitionsFrom cs 1 ds → AreDefinitions ds cs
from_first cs ds h = record {
  number = λ d o. let (j, l, e, w) = h.written d o in omega arith;
  written = λ d o. let (j, l, e, w) = h.written d o in let z : d.number - 1 ≡ j = omega arith in rw z w;
  each = λ n t.
      let (a, b) = both (leb 1 n) (get_or (curves_there cs) (n - 1) false) t in
      let l = leb-true 1 n a in
      let (d, o, e) = h.each (n - 1) (sym (there-at cs (n - 1)) ∙ b) in
      (d, o, omega arith);
}

-- the curve at a place, of some that are held
held_at : (s : List ℕ) (cs : List (List ℕ)) (m j n : ℕ) → n ≡ m + j → j < length cs → CurvesHeld s cs m → CurveHeld s n (get_or cs j [])
held_at s [] m j n e l h = absurd (omega arith)
held_at s (ts ∷ cs) m zero n e l h = let z : n ≡ m = omega arith in rw z h.0
held_at s (ts ∷ cs) m (suc j) n e l h = held_at s cs (m + 1) j n (omega arith) (omega arith) h.1

-- one of some, without marks
one-unmarked : (ds : List Definition) (x : Definition) → OneOf x (map unmarked_definition ds) → (d : Definition) × OneOf d ds × (unmarked_definition d ≡ x)
one-unmarked [] x o = absurd o
one-unmarked (d ∷ ds) x (inl e) = (d, inl refl, e)
one-unmarked (d ∷ ds) x (inr o) = let (y, p, e) = one-unmarked ds x o in (y, inr p, e)

unmarked-one : (ds : List Definition) (d : Definition) → OneOf d ds → OneOf (unmarked_definition d) (map unmarked_definition ds)
unmarked-one [] d h = elim h [ ]
unmarked-one (x ∷ ds) d (inl e) = inl (ap unmarked_definition e)
unmarked-one (x ∷ ds) d (inr o) = inr (unmarked-one ds d o)

same_number : (d : Definition) → (unmarked_definition d).number ≡ d.number
unfolding definition_to
same_number d = refl

-- curves that are held by a set: it has their definitions without marks
module _ (s : List ℕ) (cs : List (List ℕ)) (held : CurvesHeld s cs 1) (ds : List Definition) (are : AreDefinitions ds cs) where
  one-stands : (d : Definition) → OneOf d ds → DefinitionAt s d.number (unmarked_definition d)
  one-stands d o =
      let (l, m) = are.number d o in
      let w = are.written d o in
      let ts = get_or cs (d.number - 1) [] in
      let h = held_at s cs 1 (d.number - 1) d.number (omega arith) (omega arith) held in
      let q = curve_start s d.number + length (held_tokens ts) in
      (q, subst (λ (x : List ℕ). Stands s (curve_start s d.number) x q) (held-front ts d w) (h.stands (front-there d ts w)))

  held-definitions : ((n : ℕ) → Defined s n → is_defined (curves_there cs) n ≡ true) → DefinitionsOf s (map unmarked_definition ds)
  held-definitions there = record {
    stands = λ x o.
        let (d, p, e) = one-unmarked ds x o in
        subst (λ (y : Definition). DefinitionAt s y.number y) e (subst (λ (n : ℕ). DefinitionAt s n (unmarked_definition d)) (sym (same_number d)) (one-stands d p));
    has = λ n h. let (d, o, e) = are.each n (there n h) in (unmarked_definition d, unmarked-one ds d o, same_number d ∙ e);
  }

module _ (t : List ℕ) (q : Kept) (h : outcome t ≡ taken q) where
  -- THE CURVES OF A TEXT THAT IS TAKEN HAVE DEFINITIONS
  pub loaded-definitions : (ds : List Definition) × AreDefinitions ds q.curves
  loaded-definitions = let (ds, f) = have-definitions q.curves 1 (curves-fine t q h) in (ds, from_first q.curves ds f)

  -- AND THE SET HAS THOSE THAT THESE NAME
  pub loaded-curves : (ds : List Definition) → AreDefinitions ds q.curves → CurvesOf (set_of q.curves (by_number q.rows)) (curve_named ds)
  loaded-curves ds are n there =
      let s = set_of q.curves (by_number q.rows) in
      let e = taken-there t q h in
      definitions-curves s (taken-sound t q h) (map unmarked_definition ds) (held-definitions s q.curves (taken-held t q h) ds are (λ m d. rw e at d)) n there
      ∙ curves-to unmarked unmarked-keeps ds n
