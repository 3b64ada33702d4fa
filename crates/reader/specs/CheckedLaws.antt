-- WHAT THE CHECK TELLS OF A LINE ALONE is what its tree has: the fault, the number, and whether the names are known; of a line FCTDEF the fault and the curve's number. Nothing is assumed.
use Rattle.std.specs.Prelude.{Ok, Err, ◌+◌, ◌≡◌, Bool, true, List, [], ◌∷◌, ℕ, ◌≤◌, leb, length}
use Rattle.std.proofs.Math.Path.{refl, sym}
use Rattle.std.proofs.Common.{ap, ◌∙◌, arith, leb-true}
use Rattle.std.proofs.Math.Bool.{false}
use Rattle.std.proofs.Math.Option.{Option, none, some}
use Rattle.values.specs.Codes.{outside}
use Rattle.values.specs.Choice.{both, decide, choice, chosen, refused}
use Rattle.values.specs.PutLaws.{put-length}
use Rattle.tokens.specs.Token.{set_size, max_curves, between, AllReal}
use Rattle.tokens.specs.SingleFault.{opens_too_many, unless, id_fault, curve_fault}
use Rattle.checking.specs.declared.line.Line.{Line as Told}
use Rattle.checking.specs.Fault.{fault_of_line, line_at}
use Rattle.checking.specs.declared.definition.Definition.{Definition as Defined}
use Rattle.checking.specs.CurveDefinition.{fault_of_definition, definition_at}
use Rattle.grammar.specs.Tree.{Line, line, tree_number, Definition, definition_front}
use Rattle.grammar.specs.TreeFault.{curve_in, parts_fault, line_fault, numbers_fault, definition_fault}
use Rattle.grammar.specs.TreeFaultLaws.{line-proper, parts-fine, definition-proper, lower-first}
use Rattle.grammar.specs.DefinitionByTree.{curve-by-tree, defined-4, defined-5, defined-by-tree}
use Rattle.grammar.specs.TreeOf.{tree_of, definition_of}
use Rattle.grammar.specs.TreeOfLaws.{tree-of-tokens, no-tree, definition-of-tokens, no-definition}
use Rattle.grammar.specs.AgreementLine.{told-parts}
use Rattle.grammar.specs.AgreementDefinition.{told-definition}
use Rattle.grammar.specs.ClosedTokens.{line-fits}
use Rattle.grammar.specs.StandsLaws.{line-standing}
use Rattle.grammar.specs.LineByTree.{fault-4, fault-5, fault-by-tree, number-by-tree}
use Rattle.engine.specs.Set.{empty_set, names_known}
use Rattle.reader.specs.Row.{Row}
use Rattle.reader.specs.Load.{tree_fault, fault_of, number_in, are_known, defined_fault, curve_fault_of, curve_number_in, is_named, first_not}
use Rattle.reader.specs.Draft.{alone, names_alone}
use Rattle.reader.specs.StandLaws.{empty-length, alone-stands}
use Rattle.engine.specs.NamesByTreeLaws.{names-by-tree, no_names}

-- tokens without a fault of 4 to 10 or 14 are those of a line of the grammar, which has none
pub record Faultless (ts : List ℕ) : Type 0 where
  pub shallow : opens_too_many ts 0 ≡ false
  pub tree : Line
  pub found : tree_of ts ≡ some tree
  pub clean : line_fault tree ≡ 0

pub faultless : (ts : List ℕ) → fault_of ts ≡ 0 → Faultless ts
unfolding fault_of
faultless ts e = choice _ (opens_too_many ts 0) _ _ 0 e (λ _ z. absurd (omega arith)) (λ o z. go o (tree_of ts) refl z)
  where
    go : opens_too_many ts 0 ≡ false → (t : Option Line) → tree_of ts ≡ t → tree_fault t ≡ 0 → Faultless ts
    go o none f z = absurd (omega arith)
    go o (some l) f z = record { shallow = o; tree = l; found = f; clean = z }

-- no 7
within : (b : Bool) → unless b outside ≡ 0 → b ≡ true
within true h = refl
within false h = absurd (omega arith)

-- its number is 1 to 255
pub line-number : (l : Line) → line_fault l ≡ 0 → (1 ≤ tree_number l) × (tree_number l ≤ 255)
unfolding parts_fault id_fault
line-number (line w v n c a r) f = let (x, y) = both (leb 1 n) (leb n 255) (within (between 1 255 n) (lower-first _ _ (lower-first _ _ (parts-fine (line w v n c a r) f)))) in (leb-true 1 n x, leb-true n 255 y)

pub number_small : (ts : List ℕ) → fault_of ts ≡ 0 → number_in ts ≤ 255
number_small ts e = let w = faultless ts e in rw w.found (line-number w.tree w.clean).1

module _ (ts : List ℕ) (real : AllReal ts) (short : length ts ≤ set_size) where
  size : length (alone ts) ≤ set_size
  size = let m = put-length ts empty_set 0 in let e = empty-length in omega arith

  -- the fault
  pub check-fault : fault_of_line (line_at (alone ts) 0) ≡ fault_of ts
  unfolding fault_of
  check-fault =
      let h = alone-stands ts short in
      decide _ (opens_too_many ts 0)
      (λ t. (fault-4 (alone ts) ts 0 _ size real h).1 t ∙ sym (chosen _ _ _ t))
      (λ o. go o (tree_of ts) refl ∙ sym (refused _ _ _ o))
    where
      go : opens_too_many ts 0 ≡ false → (t : Option Line) → tree_of ts ≡ t → fault_of_line (line_at (alone ts) 0) ≡ tree_fault (tree_of ts)
      go o none f = rw f ((fault-5 (alone ts) ts 0 _ size real (alone-stands ts short)).1 (o, (no-tree ts).0 f))
      go o (some l) f = rw f ((fault-by-tree (alone ts) ts 0 _ size real (alone-stands ts short) (line_fault l) (line-proper l)).1 (o, (l, (tree-of-tokens ts l).0 f, refl)))

  -- a line that is refused has one
  pub check-refused : (k : ℕ) → line_at (alone ts) 0 ≡ Err k → k ≡ 0 → ⊥
  check-refused k e z = let (t, f) = told-parts (alone ts) 0 size (ap fault_of_line e ∙ z) in absurd (cc)

  -- of a line that names nothing all is known
  pub check-nameless : (known : ℕ → ℕ → Bool) (t : Told) → line_at (alone ts) 0 ≡ Ok t → t.names ≡ false → names_known (alone ts) known set_size 0 ≡ true
  check-nameless known t f h = no_names (alone ts) known 0 size t f h

  -- the number and the names, of a line without a fault
  module _ (e : fault_of ts ≡ 0) where
    pub check-number : (t : Told) → line_at (alone ts) 0 ≡ Ok t → t.number ≡ number_in ts
    check-number t f =
        let w = faultless ts e in
        rw w.found (number-by-tree (alone ts) ts 0 _ size real (alone-stands ts short) w.tree t f ((tree-of-tokens ts w.tree).0 w.found))

    pub check-names : (known : ℕ → ℕ → Bool) → names_known (alone ts) known set_size 0 ≡ are_known known ts
    check-names known =
        let w = faultless ts e in
        let g = line-standing (alone ts) ts 0 _ w.tree (alone-stands ts short) ((tree-of-tokens ts w.tree).0 w.found) in
        let f = line-fits (alone ts) w.tree 0 _ g in
        let n = size in
        rw w.found (names-by-tree (alone ts) known w.tree 0 _ (omega arith) g)

-- ---- a line FCTDEF

-- tokens without a fault of 4, 5, 7 and 13 are those of a definition of the grammar, which has none
pub record FaultlessCurve (ts : List ℕ) : Type 0 where
  pub shallow : opens_too_many ts 0 ≡ false
  pub tree : Definition
  pub found : definition_of ts ≡ some tree
  pub clean : definition_fault tree ≡ 0

pub faultless-curve : (ts : List ℕ) → curve_fault_of ts ≡ 0 → FaultlessCurve ts
unfolding curve_fault_of
faultless-curve ts e = choice _ (opens_too_many ts 0) _ _ 0 e (λ _ z. absurd (omega arith)) (λ o z. go o (definition_of ts) refl z)
  where
    go : opens_too_many ts 0 ≡ false → (t : Option Definition) → definition_of ts ≡ t → defined_fault t ≡ 0 → FaultlessCurve ts
    go o none f z = absurd (omega arith)
    go o (some d) f z = record { shallow = o; tree = d; found = f; clean = z }

-- its curve's number is 1 to 3
pub definition-number : (d : Definition) → definition_fault d ≡ 0 → (1 ≤ d.number) × (d.number ≤ max_curves)
unfolding definition_fault numbers_fault curve_fault
definition-number d f =
    let n = d.number in
    let z = lower-first _ _ (lower-first _ _ (lower-first _ _ (lower-first _ _ (lower-first _ _ (lower-first _ _ (lower-first _ _ f)))))) in
    let (x, y) = both (leb 1 n) (leb n max_curves) (within (between 1 max_curves n) z) in
    (leb-true 1 n x, leb-true n max_curves y)

pub curve-number : (ts : List ℕ) → curve_fault_of ts ≡ 0 → (1 ≤ curve_number_in ts) × (curve_number_in ts ≤ max_curves)
curve-number ts e = let w = faultless-curve ts e in rw w.found (definition-number w.tree w.clean)

module _ (ts : List ℕ) (real : AllReal ts) (short : length ts ≤ set_size) where
  -- the fault
  pub check-curve-fault : fault_of_definition (definition_at (alone ts) 0) ≡ curve_fault_of ts
  unfolding curve_fault_of
  check-curve-fault =
      let h = alone-stands ts short in
      decide _ (opens_too_many ts 0)
      (λ t. (defined-4 (alone ts) ts 0 _ real h).1 t ∙ sym (chosen _ _ _ t))
      (λ o. go o (definition_of ts) refl ∙ sym (refused _ _ _ o))
    where
      go : opens_too_many ts 0 ≡ false → (t : Option Definition) → definition_of ts ≡ t → fault_of_definition (definition_at (alone ts) 0) ≡ defined_fault (definition_of ts)
      go o none f = rw f ((defined-5 (alone ts) ts 0 _ real (alone-stands ts short)).1 (o, (no-definition ts).0 f))
      go o (some d) f = rw f ((defined-by-tree (alone ts) ts 0 _ real (alone-stands ts short) (definition_fault d) (definition-proper d)).1 (o, (d, (definition-of-tokens ts d).0 f, refl)))

  -- a line FCTDEF that is refused has one
  pub check-curve-refused : (k : ℕ) → definition_at (alone ts) 0 ≡ Err k → k ≡ 0 → ⊥
  check-curve-refused k e z = let (d, f) = told-definition (alone ts) 0 (ap fault_of_definition e ∙ z) in absurd (cc)

  -- the number of a curve without a fault
  pub check-curve-number : curve_fault_of ts ≡ 0 → (d : Defined) → definition_at (alone ts) 0 ≡ Ok d → d.number ≡ curve_number_in ts
  check-curve-number e d f =
      let w = faultless-curve ts e in
      let t = curve-by-tree (alone ts) ts 0 _ real (alone-stands ts short) w.tree w.shallow ((definition-of-tokens ts w.tree).0 w.found) w.clean in
      let same : d ≡ record { number = w.tree.number; curve = curve_in w.tree; end = 0 + length (definition_front w.tree) } = cc in
      rw w.found (ap (λ (x : Defined). x.number) same)

-- ---- some lines

-- each of some lines has real tokens, which fit a set and have no fault of 4 to 10 or 14
abbrev pub AllFaultless : List Row → Type 0
AllFaultless [] = Unit {0}
AllFaultless (r ∷ rs) = AllReal r.tokens × (length r.tokens ≤ set_size) × (fault_of r.tokens ≡ 0) × AllFaultless rs

-- the first that names what is not known, by its tokens and by its tree
pub first-unknown : (known : ℕ → ℕ → Bool) (rs : List Row) → AllFaultless rs → first_not (names_alone known) rs ≡ first_not (is_named known) rs
unfolding first_not
first-unknown known [] h = refl
first-unknown known (r ∷ rs) h = one_more_lem (names_alone known r) (is_named known r) _ _ (check-names r.tokens h.0 h.1 h.2 known) (first-unknown known rs h.3)
  where
    one_more_lem : (a b : Bool) (x y : ℕ) → a ≡ b → x ≡ y → ◌≡◌ {A = ℕ} (elim a as (λ _. ℕ) [ true ↦ x | false ↦ r.place ]) (elim b as (λ _. ℕ) [ true ↦ y | false ↦ r.place ])
    one_more_lem a true x y e f = rw (e, f)
    one_more_lem a false x y e f = rw e
