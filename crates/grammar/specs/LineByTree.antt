-- A LINE'S FAULT BY ITS TREE, both ways: of the tokens of a line, wherever they stand, the check tells 4, 5, or the fault of a line of the grammar that is written as them. Theorems; nothing is assumed.
use Rattle.std.specs.Prelude.{Ok, ◌≡◌, refl, true, false, List, [], ◌∷◌, ◌++◌, ◌↔◌, ℕ, ◌≤◌, length, drop}
use Rattle.std.proofs.Common.{sym, ◌∙◌, inr, arith}
use Rattle.std.proofs.Math.Path.{ap}
use Rattle.values.specs.Codes.{too_deep, not_in_grammar, two_moves}
use Rattle.values.specs.Choice.{decide, chosen}
use Rattle.checking.specs.declared.line.Line.{Line as Told}
use Rattle.tokens.specs.Token.{END, set_size, AllReal}
use Rattle.tokens.specs.SingleFault.{opens_too_many}
use Rattle.checking.specs.Fault.{fault_of_line, line_at}
use Rattle.grammar.specs.Tree.{Line, tree_number, WrittenAs}
use Rattle.grammar.specs.Meaning.{Stands}
use Rattle.grammar.specs.TreeFault.{parts_from, moves_in, parts_fault, line_fault, AxesApart, Proper}
use Rattle.grammar.specs.TreeFaultLaws.{line-proper}
use Rattle.grammar.specs.OneMove.{line-14}
use Rattle.grammar.specs.AgreementLine.{line-written, line-fault, line-parts, fault-five, parts-number, not-deep, proper-4, proper-5}
use Rattle.grammar.specs.StandsLaws.{opens-stands, line-stood, line-standing}

-- the tokens ts and their end stand in s from p on
module _ (s ts : List ℕ) (p q : ℕ) (size : length s ≤ set_size) (real : AllReal ts) (h : Stands s p (ts ++ (END ∷ [])) q) where
  opens : opens_too_many (drop p s) 0 ≡ opens_too_many ts 0
  opens = opens-stands s ts p q 0 h

  deep : opens_too_many ts 0 ≡ true → fault_of_line (line_at s p) ≡ too_deep
  unfolding line_at
  deep t = ap fault_of_line (chosen _ _ _ (opens ∙ t))

  -- the fault of a line that is written so, and the number among its parts
  of_tree : (l : Line) → opens_too_many ts 0 ≡ false → WrittenAs l ts → fault_of_line (line_at s p) ≡ line_fault l
  of_tree l o w = line-fault s size l p q (opens ∙ o) (line-standing s ts p q l h w)

  pub number-by-tree : (l : Line) (t : Told) → line_at s p ≡ Ok t → WrittenAs l ts → t.number ≡ tree_number l
  number-by-tree l t e w =
      let f = ap fault_of_line e in
      let o = not-deep s p f in
      let g = line-standing s ts p q l h w in
      let (x, y) = line-parts s size l p q o g (sym (line-fault s size l p q o g) ∙ f) in
      let same : t ≡ parts_from p l = cc in
      ap (λ (z : Told). z.number) same ∙ parts-number p l

  -- 4: more than eight brackets are open
  pub fault-4 : (fault_of_line (line_at s p) ≡ too_deep) ↔ (opens_too_many ts 0 ≡ true)
  fault-4 = (
    (λ e. decide _ (opens_too_many ts 0) (λ t. t) (λ o.
        let (l, r, g) = line-written s p (opens ∙ o) (λ z. omega arith) in
        absurd (proper-4 (line_fault l) (line-proper l) (sym (of_tree l o (line-stood s ts p q r l real h g)) ∙ e)))),
    deep,
  )

  -- 5: they are not, and no line is written as these tokens
  pub fault-5 : (fault_of_line (line_at s p) ≡ not_in_grammar) ↔ ((opens_too_many ts 0 ≡ false) × ((l : Line) → WrittenAs l ts → ⊥))
  fault-5 = (
    (λ e. decide _ (opens_too_many ts 0)
        (λ t. let z = deep t in absurd (omega arith))
        (λ o. (o, λ l w. (fault-five s size p (opens ∙ o)).0 e l q (line-standing s ts p q l h w)))),
    (λ x. (fault-five s size p (opens ∙ x.0)).1 (λ l r g. x.1 l (line-stood s ts p q r l real h g))),
  )

  -- 0, OR 6 TO 10, OR 14: they are not, a line is written as these tokens, and that is its lowest fault
  pub fault-by-tree : (f : ℕ) → Proper f → (fault_of_line (line_at s p) ≡ f) ↔ ((opens_too_many ts 0 ≡ false) × ((l : Line) × WrittenAs l ts × (line_fault l ≡ f)))
  fault-by-tree f proper = (
    (λ e. decide _ (opens_too_many ts 0)
        (λ t. absurd (proper-4 f proper (sym e ∙ deep t)))
        (λ o.
        let (l, r, g) = line-written s p (opens ∙ o) (λ z. proper-5 f proper (sym e ∙ z)) in
        let w = line-stood s ts p q r l real h g in
        (o, (l, w, sym (of_tree l o w) ∙ e)))),
    (λ x. let (o, (l, w, e)) = x in of_tree l o w ∙ e),
  )

  -- 14: they are not, and of the line that is written as these tokens nothing else is wrong, but it moves an axis twice
  pub fault-14 : (fault_of_line (line_at s p) ≡ two_moves) ↔ ((opens_too_many ts 0 ≡ false) × ((l : Line) × WrittenAs l ts × (parts_fault l ≡ 0) × (AxesApart (moves_in l) → ⊥)))
  fault-14 =
      let f = fault-by-tree two_moves (inr refl) in (
        (λ e. let (o, (l, w, z)) = f.0 e in let (a, b) = (line-14 l).0 z in (o, (l, w, a, b))),
        (λ x. let (o, (l, w, a, b)) = x in f.1 (o, (l, w, (line-14 l).1 (a, b)))),
      )
