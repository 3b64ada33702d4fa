-- Laws of curves by their slots: of a set and of what is kept of a text, one that was loaded or its print, each curve that is there is there in both, with the same tokens but for marks.
-- Nothing is assumed.
use Rattle.std.specs.Prelude.{◌≡◌, refl, true, false, List, [], ◌∷◌, map, ℕ, suc, ◌-◌, ◌≤◌, ◌<◌, ltb, length, get_or}
use Rattle.std.proofs.Common.{sym, ap, subst, ◌∙◌, inl, inr, arith, ltb-true, ltb-false, lt-ltb, le-leb}
use Rattle.values.specs.Choice.{decide, contrary, and-true}
use Rattle.tokens.specs.Token.{max_curves}
use Rattle.grammar.specs.Tree.{Definition, definition_front}
use Rattle.grammar.specs.NumbersTo.{definition_to}
use Rattle.engine.specs.Set.{curve_start, without_mark}
use Rattle.soundness.specs.AnswerCodes.{OneOf}
use Rattle.reader.specs.Row.{Kept, is_there}
use Rattle.loading.specs.LoadedLines.{HoldsAll}
use Rattle.loading.specs.TextTreesLaws.{there-at}
use Rattle.loading.specs.LoadedCurves.{AreDefinitions}
use Rattle.print.specs.PrintText.{row_at}
use Rattle.print.specs.ReadBack.{read_back}
use Rattle.round_trip.specs.MarkLaws.{unmarked-twice, backs-unmarked}
use Rattle.round_trip.specs.FrontLaws.{definition-back}
use Rattle.round_trip.specs.SetTreesLaws.{DefinitionsIn}
use Rattle.round_trip.specs.LoadedRowsLaws.{definition-row}
use Rattle.round_trip.specs.PrintTakenLaws.{remarked_definition}

-- the tokens ts are those of curve n of the set s, but for marks; none where it has no such curve
pub record IsCurve (s : List ℕ) (n : ℕ) (ts : List ℕ) : Type 0 where
  pub begins : is_there ts ≡ true → 0 < curve_start s n
  pub same : is_there ts ≡ true → map without_mark ts ≡ map without_mark (row_at s (curve_start s n))
  pub none : is_there ts ≡ false → curve_start s n ≡ 0

-- so of some curves by number from 1 on
abbrev pub AreCurves : List ℕ → List (List ℕ) → Type 0
AreCurves s cs = (n : ℕ) → 1 ≤ n → n ≤ max_curves → IsCurve s n (get_or cs (n - 1) [])

-- ---- those of a loaded set

pub held-are : (s : List ℕ) (q : Kept) → HoldsAll s q → AreCurves s q.curves
held-are s q h n l m =
    let ts = get_or q.curves (n - 1) [] in
    record {
      begins = λ t. (h.curves n l m t).begins;
      same = λ t. let c = h.curves n l m t in sym (ap (map without_mark) (definition-row s (curve_start s n) _ c.tree ts c.in_text c.in_set) ∙ unmarked-twice ts);
      none = λ t. h.no_curve n l m t;
    }

-- ---- those of a print

one_map : (ds : List Definition) (z : Definition) → OneOf z (map remarked_definition ds) → (d : Definition) × OneOf d ds × (remarked_definition d ≡ z)
one_map [] z h = elim h [ ]
one_map (d ∷ ds) z (inl e) = (d, inl refl, e)
one_map (d ∷ ds) z (inr o) = let (x, p, e) = one_map ds z o in (x, inr p, e)

map-one : (ds : List Definition) (d : Definition) → OneOf d ds → OneOf (remarked_definition d) (map remarked_definition ds)
map-one [] d h = elim h [ ]
map-one (x ∷ ds) d (inl e) = inl (ap remarked_definition e)
map-one (x ∷ ds) d (inr o) = inr (map-one ds d o)

same_number : (d : Definition) → (remarked_definition d).number ≡ d.number
unfolding definition_to
same_number d = refl

front-there : (d : Definition) (ts : List ℕ) → definition_front d ≡ ts → is_there ts ≡ true
unfolding definition_front
front-there d ts e = let n = ap length e in lt-ltb 0 (length ts) (omega arith)

module _ (s : List ℕ) (ds : List Definition) (c : DefinitionsIn s ds) (cs : List (List ℕ)) (a : AreDefinitions (map remarked_definition ds) cs) (n : ℕ) (l : 1 ≤ n) (m : n ≤ max_curves) where
  abbrev ts : List ℕ
  ts = get_or cs (n - 1) []

  -- it is there: the definition of its number was printed
  printed-there : is_there ts ≡ true → (0 < curve_start s n) × (map without_mark ts ≡ map without_mark (row_at s (curve_start s n)))
  printed-there t =
      let (z, o, e) = a.each n (and-true (le-leb 1 n l) (there-at cs (n - 1) ∙ t)) in
      let (d, p, f) = one_map ds z o in
      let k : d.number ≡ n = sym (same_number d) ∙ ap (λ (x : Definition). x.number) f ∙ e in
      let w : definition_front z ≡ ts = a.written z o ∙ ap (λ (j : ℕ). get_or cs (j - 1) []) e in
      let r : row_at s (curve_start s n) ≡ definition_front d = ap (λ (j : ℕ). row_at s (curve_start s j)) (sym k) ∙ c.row d p in
      let b : ts ≡ map read_back (definition_front d) = sym w ∙ ap definition_front (sym f) ∙ sym (definition-back d) in
      (subst (λ (j : ℕ). 0 < curve_start s j) k (c.begins d p), ap (map without_mark) b ∙ backs-unmarked (definition_front d) ∙ sym (ap (map without_mark) r))

  -- it is not: the set has none
  printed-none : is_there ts ≡ false → curve_start s n ≡ 0
  printed-none t =
      decide _ (ltb 0 (curve_start s n))
      (λ u.
      let (d, p, e) = c.has n l m (ltb-true 0 (curve_start s n) u) in
      let w = a.written (remarked_definition d) (map-one ds d p) ∙ ap (λ (j : ℕ). get_or cs (j - 1) []) (same_number d ∙ e) in
      contrary (front-there (remarked_definition d) ts w) t)
      (λ u. let z = ltb-false 0 (curve_start s n) u in omega arith)

  pub printed-are : IsCurve s n ts
  printed-are = record { begins = λ t. (printed-there t).0; same = λ t. (printed-there t).1; none = printed-none }

-- ---- two that are those of one set

none_is : (ts : List ℕ) → is_there ts ≡ false → ts ≡ []
none_is [] h = refl
none_is (t ∷ ts) h = let n = ltb-false 0 (length (t ∷ ts)) h in absurd (omega arith)

one_same : (s : List ℕ) (n : ℕ) (bs cs : List ℕ) → IsCurve s n bs → IsCurve s n cs → map without_mark bs ≡ map without_mark cs
one_same s n bs cs b c =
    decide _ (is_there bs)
    (λ t. decide _ (is_there cs)
    (λ u. b.same t ∙ sym (c.same u))
    (λ u. let x = b.begins t in let y = c.none u in absurd (omega arith)))
    (λ t. decide _ (is_there cs)
    (λ u. let x = b.none t in let y = c.begins u in absurd (omega arith))
    (λ u. rw (none_is bs t, none_is cs u)))

by_place : (bs cs : List (List ℕ)) → length bs ≡ length cs → ((j : ℕ) → j < length cs → map without_mark (get_or bs j []) ≡ map without_mark (get_or cs j [])) → map (map without_mark) bs ≡ map (map without_mark) cs
by_place [] [] e h = refl
by_place [] (c ∷ cs) e h = absurd (omega arith)
by_place (b ∷ bs) [] e h = absurd (omega arith)
by_place (b ∷ bs) (c ∷ cs) e h = rw (h 0 (omega arith), by_place bs cs (omega arith) (λ j l. h (suc j) (omega arith)))

-- CURVES ARE TOLD BY THE SET, but for marks
pub curves-same : (s : List ℕ) (bs cs : List (List ℕ)) → length bs ≡ max_curves → length cs ≡ max_curves → AreCurves s bs → AreCurves s cs → map (map without_mark) bs ≡ map (map without_mark) cs
curves-same s bs cs x y b c =
    by_place bs cs (x ∙ sym y) (λ j l.
    let e : suc j - 1 ≡ j = omega arith in
    rw e at (one_same s (suc j) (get_or bs (suc j - 1) []) (get_or cs (suc j - 1) []) (b (suc j) (omega arith) (omega arith)) (c (suc j) (omega arith) (omega arith))))
