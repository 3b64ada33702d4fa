-- WHAT A TEXT THAT IS TAKEN DEFINES: each of its definitions is the curve of its number in the set, and no other curve is there. Theorems; nothing is assumed.
use Rattle.std.specs.Prelude.{◌≡◌, List, [], map, ℕ, ◌-◌, ◌≤◌, ◌<◌, get_or}
use Rattle.std.proofs.Common.{sym, ap, subst, ◌∙◌, arith, le-leb}
use Rattle.values.specs.Choice.{decide, and-true}
use Rattle.tokens.specs.Token.{max_curves}
use Rattle.grammar.specs.Tree.{Line, Definition, definition_front}
use Rattle.grammar.specs.Meaning.{Stands}
use Rattle.grammar.specs.TreeOfLaws.{one-definition}
use Rattle.engine.specs.Set.{curve_start, curve_line, with_end}
use Rattle.soundness.specs.AnswerCodes.{OneOf}
use Rattle.text.specs.Lines.{token_lines}
use Rattle.reader.specs.Row.{is_there}
use Rattle.reader.specs.Load.{load_set}
use Rattle.loading.specs.TextTrees.{curve_number, curve_lines, Takes}
use Rattle.loading.specs.Unmarked.{unmarked_definition}
use Rattle.loading.specs.StoredLineLaws.{told_of}
use Rattle.loading.specs.TakenLaws.{kept_of}
use Rattle.loading.specs.TextTreesLaws.{there-at, front-there}
use Rattle.loading.specs.TextLinesLaws.{text-curves}
use Rattle.loading.specs.TextByTrees.{takes-rows}
use Rattle.loading.specs.LoadedLaws.{curves-three}
use Rattle.loading.specs.LoadedLines.{HoldsCurve, load-lines}
use Rattle.loading.specs.LoadedCurves.{AreDefinitions}
use Rattle.loading.specs.RisingTreesLaws.{one_number}
use Rattle.loading.specs.TextCurvesLaws.{good-definitions}

module _ (t : List ℕ) (ds : List Definition) (xs : List Line) (takes : Takes t ds xs) where
  -- ITS DEFINITIONS ARE THOSE OF THE CURVES THAT ARE TAKEN
  pub curves-definitions : AreDefinitions ds (kept_of t).curves
  curves-definitions = good-definitions (curve_lines (token_lines t)) ds (text-curves (token_lines t) ds xs takes.lines.good) takes.lines.apart

  kept-curve : (d : Definition) → OneOf d ds → HoldsCurve (load_set t) d.number (definition_front d)
  kept-curve d o =
      let (l, m) = curves-definitions.number d o in
      let w = curves-definitions.written d o in
      let n = curves-three t (kept_of t) (takes-rows t ds xs takes) in
      let f = front-there d _ w in
      let h = (load-lines t (kept_of t) (takes-rows t ds xs takes)).3.curves d.number l (omega arith) f in
      subst (HoldsCurve (load_set t) d.number) (sym w) h

  -- EACH OF ITS DEFINITIONS stands in the set where the curve of its number begins, and the engine reads its curve there,
  pub curve-of-text : (d : Definition) → OneOf d ds →
      let p = curve_start (load_set t) d.number in
      (0 < p) × ((q : ℕ) × Stands (load_set t) p (with_end (definition_front (unmarked_definition d))) q) × (curve_line (load_set t) d.number ≡ told_of p d)
  curve-of-text d o =
      let h = kept-curve d o in
      let e = one-definition h.tree d h.in_text in
      let s : (q : ℕ) × Stands (load_set t) (curve_start (load_set t) d.number) (with_end (definition_front (unmarked_definition h.tree))) q = (_, h.in_set) in
      (h.begins, subst (λ (x : Definition). (q : ℕ) × Stands (load_set t) (curve_start (load_set t) d.number) (with_end (definition_front (unmarked_definition x))) q) e s, h.read ∙ ap (told_of _) e)

  -- AND NO OTHER CURVE has a start
  pub no-other-curve : (n : ℕ) → 1 ≤ n → n ≤ max_curves → (OneOf n (map curve_number ds) → ⊥) → curve_start (load_set t) n ≡ 0
  no-other-curve n l m o =
      let h = takes-rows t ds xs takes in
      let cs = (kept_of t).curves in
      decide _ (is_there (get_or cs (n - 1) []))
      (λ u. let (d, p, e) = curves-definitions.each n (and-true (le-leb 1 n l) (there-at cs (n - 1) ∙ u)) in absurd (o (subst (λ (k : ℕ). OneOf k (map curve_number ds)) e (one_number curve_number ds d p))))
      (λ u. (load-lines t (kept_of t) h).3.no_curve n l m u)
