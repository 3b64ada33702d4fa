-- Laws of a line that is taken: it is a line of the grammar, and the check tells of it where it stands in a set, without its marks, what its tree has. So of a definition that is taken, and its
-- curve. Nothing is assumed.
use Rattle.std.specs.Prelude.{Result, Ok, ◌≡◌, Bool, true, false, List, [], ◌∷◌, map, ℕ, ◌+◌, ◌≤◌, length}
use Rattle.std.proofs.Common.{sym, ap, subst, ◌∙◌, arith, eq-eqb}
use Rattle.std.proofs.lemmas.List.{map-append}
use Rattle.values.specs.Choice.{chosen}
use Rattle.tokens.specs.Token.{END, set_size}
use Rattle.grammar.specs.Tree.{Line, line_tokens, tree_number, WrittenAs, Definition, definition_front, DefinedAs}
use Rattle.grammar.specs.Meaning.{Stands}
use Rattle.tokens.specs.SingleFault.{opens_too_many}
use Rattle.checking.specs.Fault.{line_at}
use Rattle.checking.specs.declared.definition.Definition.{Definition as Told}
use Rattle.checking.specs.CurveDefinition.{judged_curve, definition_at}
use Rattle.grammar.specs.TreeFault.{line_fault, parts_from, curve_in, definition_fault, defined_from}
use Rattle.grammar.specs.TreeNames.{names_in, each_known}
use Rattle.grammar.specs.TreeOf.{tree_of}
use Rattle.grammar.specs.TreeOfLaws.{tree-of-tokens, definition-of-tokens}
use Rattle.grammar.specs.NumbersTo.{definition_to}
use Rattle.grammar.specs.NumbersToLaws.{to-opens, to-line-number, to-names-in, to-curve}
use Rattle.grammar.specs.ClosedTokens.{line-fits}
use Rattle.grammar.specs.StandsLaws.{opens-stands}
use Rattle.grammar.specs.AgreementLine.{line-parts, parts-number}
use Rattle.grammar.specs.AgreementDefinition.{definition-agrees}
use Rattle.engine.specs.Set.{without_mark, with_end, names_known}
use Rattle.reader.specs.Load.{fault_of, number_in, names_of_tree, curve_fault_of, curve_number_in}
use Rattle.engine.specs.NamesByTreeLaws.{each-so, names-by-tree}
use Rattle.reader.specs.CheckedLaws.{faultless, faultless-curve}
use Rattle.loading.specs.Unmarked.{unmarked, unmarked_tree, unmarked_definition}
use Rattle.loading.specs.UnmarkedLaws.{unmarked-keeps, without-marks, unmarked-tokens, unmarked-fault, unmarked-front, unmarked-definition-fault}

-- ---- a row without marks

pub ended-unmarked : (l : List ℕ) → with_end (map without_mark l) ≡ map without_mark (with_end l)
unfolding without_mark
ended-unmarked l = sym (map-append without_mark l (END ∷ []))

-- as many brackets are open
opens-unmarked : (l : List ℕ) (n : ℕ) → opens_too_many (map without_mark l) n ≡ opens_too_many l n
opens-unmarked l n = rw (without-marks l) (to-opens unmarked unmarked-keeps l n)

-- ---- a line that is taken

-- the tree that some tokens are the line of, without a fault of 4 to 10 or 14
pub record Written (ts : List ℕ) : Type 0 where
  pub tree : Line
  pub tokens : WrittenAs tree ts
  pub faultless : line_fault tree ≡ 0
  pub shallow : opens_too_many ts 0 ≡ false
  pub number : number_in ts ≡ tree_number tree
  pub names : names_of_tree (tree_of ts) ≡ names_in tree

-- A LINE WITHOUT A FAULT IS WRITTEN AS A TREE
pub written : (ts : List ℕ) → fault_of ts ≡ 0 → Written ts
written ts fine =
    let w = faultless ts fine in
    record { tree = w.tree; tokens = (tree-of-tokens ts w.tree).0 w.found; faultless = w.clean; shallow = w.shallow; number = rw w.found; names = rw w.found }

module _ (ts : List ℕ) (w : Written ts) where
  -- the tokens without marks are those of the tree without marks
  held-tokens : with_end (map without_mark ts) ≡ line_tokens (unmarked_tree w.tree)
  held-tokens = ended-unmarked ts ∙ ap (map without_mark) (sym w.tokens) ∙ unmarked-tokens w.tree

  module _ (s : List ℕ) (p q : ℕ) (size : length s ≤ set_size) (h : Stands s p (with_end (map without_mark ts)) q) where
    stands : Stands s p (line_tokens (unmarked_tree w.tree)) q
    stands = subst (λ (x : List ℕ). Stands s p x q) held-tokens h

    -- WHERE IT STANDS WITHOUT MARKS, the tree without marks stands, the check finds no fault but the parts of that tree, and it has the same number
    pub held : Stands s p (line_tokens (unmarked_tree w.tree)) q × (line_at s p ≡ Ok (parts_from p (unmarked_tree w.tree))) × ((parts_from p (unmarked_tree w.tree)).number ≡ tree_number w.tree)
    held =
        let l = unmarked_tree w.tree in
        let o = opens-stands s (map without_mark ts) p q 0 h ∙ opens-unmarked ts 0 ∙ w.shallow in
        let f = unmarked-fault w.tree ∙ w.faultless in
        let (x, y) = line-parts s size l p q o stands f in
        (stands, x, parts-number p l ∙ to-line-number unmarked w.tree)

    -- and it names only what is known, if it named only such as is known
    pub names-held : (known known' : ℕ → ℕ → Bool) → ((w n : ℕ) → known' w n ≡ true → known w n ≡ true) → each_known known' (names_of_tree (tree_of ts)) ≡ true → names_known s known set_size p ≡ true
    names-held known known' f e =
        let n = line-fits s (unmarked_tree w.tree) p q stands in
        names-by-tree s known (unmarked_tree w.tree) p q (omega arith) stands
        ∙ ap (each_known known) (to-names-in unmarked w.tree) ∙ each-so known' known (names_in w.tree) f (ap (each_known known') (sym w.names) ∙ e)

-- ---- a definition that is taken

-- the definition that some tokens are, without a fault
pub record WrittenCurve (ts : List ℕ) : Type 0 where
  pub tree : Definition
  pub tokens : DefinedAs tree ts
  pub faultless : definition_fault tree ≡ 0
  pub shallow : opens_too_many ts 0 ≡ false
  pub number : curve_number_in ts ≡ tree.number

-- A CURVE WITHOUT A FAULT IS WRITTEN AS A DEFINITION
pub written-curve : (ts : List ℕ) → curve_fault_of ts ≡ 0 → WrittenCurve ts
written-curve ts fine =
    let w = faultless-curve ts fine in
    record { tree = w.tree; tokens = (definition-of-tokens ts w.tree).0 w.found; faultless = w.clean; shallow = w.shallow; number = rw w.found }

-- the tokens without marks, and their end, are those of the definition without marks
pub held-front : (ts : List ℕ) (d : Definition) → DefinedAs d ts → with_end (map without_mark ts) ≡ with_end (definition_front (unmarked_definition d))
held-front ts d w = ap with_end (ap (map without_mark) (sym w) ∙ unmarked-front d)

-- what the check tells of a definition d without a fault at the place p
abbrev pub told_of : ℕ → Definition → Result Told ℕ
told_of p d = Ok (record { number = d.number; curve = curve_in d; end = p + length (definition_front (unmarked_definition d)) })

-- WHERE IT STANDS WITHOUT MARKS, the definition without marks stands, and the check finds no fault, the same number and the same curve
pub held-curve : (ts : List ℕ) (w : WrittenCurve ts) (s : List ℕ) (p q : ℕ) → Stands s p (with_end (map without_mark ts)) q →
    Stands s p (with_end (definition_front (unmarked_definition w.tree))) q × (definition_at s p ≡ told_of p w.tree)
unfolding defined_from judged_curve definition_fault definition_to
held-curve ts w s p q h =
    let d = unmarked_definition w.tree in
    let o = opens-stands s (map without_mark ts) p q 0 h ∙ opens-unmarked ts 0 ∙ w.shallow in
    let g = subst (λ (x : List ℕ). Stands s p x q) (held-front ts w.tree w.tokens) h in
    let e : definition_at s p ≡ Ok (record { number = d.number; curve = curve_in d; end = p + length (definition_front d) }) =
    definition-agrees s d p q o g ∙ chosen _ _ _ (eq-eqb (definition_fault d) 0 (unmarked-definition-fault w.tree ∙ w.faultless)) in
    (g, e ∙ rw (to-curve unmarked unmarked-keeps w.tree))
