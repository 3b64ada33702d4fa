-- A DEFINITION'S FAULT BY ITS TREE, both ways: of the tokens of a line, wherever they stand, the check of FCTDEF tells 4, 5, or the fault of the definition that is written as them, and where it has none its curve. Theorems; nothing is assumed.
use Rattle.std.specs.Prelude.{Ok, ◌≡◌, true, false, List, [], ◌∷◌, ◌++◌, ◌⊎◌, ◌↔◌, ℕ, ◌+◌, ◌≤◌, length, drop}
use Rattle.std.proofs.Common.{sym, ◌∙◌, arith, eq-eqb}
use Rattle.std.proofs.Math.Path.{ap}
use Rattle.values.specs.Codes.{too_deep, not_in_grammar, confused}
use Rattle.values.specs.Choice.{decide, chosen}
use Rattle.checking.specs.CurveDefinition.{fault_of_definition, judged_curve, definition_at}
use Rattle.tokens.specs.Token.{END, AllReal}
use Rattle.tokens.specs.SingleFault.{opens_too_many}
use Rattle.grammar.specs.Tree.{Definition, definition_front, DefinedAs}
use Rattle.grammar.specs.Meaning.{Stands}
use Rattle.grammar.specs.TreeFault.{curve_in, definition_fault, defined_from}
use Rattle.grammar.specs.TreeFaultLaws.{definition-proper}
use Rattle.grammar.specs.ClosedTokens.{definition-closed, same_row}
use Rattle.grammar.specs.StandsLaws.{opens-stands}
use Rattle.grammar.specs.AgreementDefinition.{late-4, late-5, definition-agrees, definition-fault, definition-written, definition-five}

-- the tokens ts and their end stand in s from p on
module _ (s ts : List ℕ) (p q : ℕ) (real : AllReal ts) (h : Stands s p (ts ++ (END ∷ [])) q) where
  opens : opens_too_many (drop p s) 0 ≡ opens_too_many ts 0
  opens = opens-stands s ts p q 0 h

  deep : opens_too_many ts 0 ≡ true → fault_of_definition (definition_at s p) ≡ too_deep
  unfolding definition_at
  deep t = ap fault_of_definition (chosen _ _ _ (opens ∙ t))

  -- a definition stands there exactly if it is written as them
  stood : (d : Definition) (r : ℕ) → Stands s p (definition_front d ++ (END ∷ [])) r → DefinedAs d ts
  stood d r g = same_row s (definition_front d) ts p r q (definition-closed d) real g h

  standing : (d : Definition) → DefinedAs d ts → Stands s p (definition_front d ++ (END ∷ [])) q
  standing d w = rw w h

  of_tree : (d : Definition) → opens_too_many ts 0 ≡ false → DefinedAs d ts → fault_of_definition (definition_at s p) ≡ definition_fault d
  of_tree d o w = definition-fault s d p q (opens ∙ o) (standing d w)

  -- what it defines, where the check tells no fault
  pub curve-by-tree : (d : Definition) → opens_too_many ts 0 ≡ false → DefinedAs d ts → definition_fault d ≡ 0 → definition_at s p ≡ Ok (record { number = d.number; curve = curve_in d; end = p + length (definition_front d) })
  unfolding defined_from judged_curve definition_fault
  curve-by-tree d o w f = definition-agrees s d p q (opens ∙ o) (standing d w) ∙ chosen _ _ _ (eq-eqb (definition_fault d) 0 f)

  -- 4: more than eight brackets are open
  pub defined-4 : (fault_of_definition (definition_at s p) ≡ too_deep) ↔ (opens_too_many ts 0 ≡ true)
  defined-4 = (
    (λ e. decide _ (opens_too_many ts 0) (λ t. t) (λ o.
        let (d, r, g) = definition-written s p (opens ∙ o) (λ z. omega arith) in
        absurd (late-4 (definition_fault d) (definition-proper d) (sym (of_tree d o (stood d r g)) ∙ e)))),
    deep,
  )

  -- 5: they are not, and no definition is written as these tokens
  pub defined-5 : (fault_of_definition (definition_at s p) ≡ not_in_grammar) ↔ ((opens_too_many ts 0 ≡ false) × ((d : Definition) → DefinedAs d ts → ⊥))
  defined-5 = (
    (λ e. decide _ (opens_too_many ts 0)
        (λ t. let z = deep t in absurd (omega arith))
        (λ o. (o, λ d w. (definition-five s p (opens ∙ o)).0 e d q (standing d w)))),
    (λ x. (definition-five s p (opens ∙ x.0)).1 (λ d r g. x.1 d (stood d r g))),
  )

  -- ANY OTHER, OR NONE: they are not, a definition is written as these tokens, and that is its lowest fault
  pub defined-by-tree : (f : ℕ) → (f ≡ 0) ⊎ (confused ≤ f) → (fault_of_definition (definition_at s p) ≡ f) ↔ ((opens_too_many ts 0 ≡ false) × ((d : Definition) × DefinedAs d ts × (definition_fault d ≡ f)))
  defined-by-tree f late = (
    (λ e. decide _ (opens_too_many ts 0)
        (λ t. absurd (late-4 f late (sym e ∙ deep t)))
        (λ o.
        let (d, r, g) = definition-written s p (opens ∙ o) (λ z. late-5 f late (sym e ∙ z)) in
        let w = stood d r g in
        (o, (d, w, sym (of_tree d o w) ∙ e)))),
    (λ x. let (o, (d, w, e)) = x in of_tree d o w ∙ e),
  )
