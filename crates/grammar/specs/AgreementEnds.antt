-- Where the check's reading of a line ends without a result, its code is 5, not in the grammar. Assumes nothing.
use Rattle.std.specs.Prelude.{◌≡◌, Bool, ◌&&◌, List, ◌++◌}
use Rattle.std.proofs.Math.Path.{refl}
use Rattle.std.proofs.Math.Bool.{true, false}
use Prim.Native.Nat.{ℕ, zero, suc, ◌+◌}
use Rattle.std.proofs.Math.Dec.{eqb}
use Rattle.values.specs.Codes.{not_in_grammar}
use Rattle.tokens.specs.Token.{is_number, is_variable, is_drive, is_call, is_factor, is_term, is_compare, is_whole, CLOSE, END, EQUALS, FALSE, M, MINUS, NOT, OPEN, SYNFCT, TRUE}
use Rattle.tokens.specs.Descent.{token, Read, read, ends, then, is_row, is_indexed, joined, more, read_product, read_sum, read_rest, read_expression, read_close, read_variable, read_truth, operand_from, read_operand, sum_at, expression_at}
use Rattle.tokens.specs.SingleFault.{lower}
use Rattle.checking.specs.Fault.{Sight, sight, fault_for, is_removal, assigned_at, assignment_at, command_at, is_synfct, synfct_at, unindexed_at, action_at, moves_at, actions_at}

-- a reading has a result, or ends with 5
abbrev pub Five : {A : Type 0} → Read A → Type 0
Five (read a q) = Unit {0}
Five (ends c) = c ≡ not_in_grammar

then-five : {A B : Type 0} (r : Read A) (f : A → ℕ → Read B) → Five r → ((a : A) (q : ℕ) → Five (f a q)) → Five (then r f)
then-five (read a q) f h g = g a q
then-five (ends c) f h g = h

choice-five : {A : Type 0} (b : Bool) (x y : Read A) → Five x → Five y → Five {A = A} (elim b as (λ _. Read A) [ true ↦ x | false ↦ y ])
choice-five true x y h g = h
choice-five false x y h g = g

fault_for-five : (t : Bool) (r : Read Sight) → Five r → Five (fault_for t r)
fault_for-five t (read a q) h = tt
fault_for-five t (ends c) h = h

module _ (s : List ℕ) where
  module _ (sub : ℕ → Read Sight) (five : (p : ℕ) → Five (sub p)) where
    joined-five : (o : ℕ) (a : Sight) (p : ℕ) → Five (joined s sight sub o a p)
    unfolding joined sight
    joined-five o a p = then-five (sub (p + 1)) _ (five (p + 1)) (λ b q. tt)

    row-five : (is_op : ℕ → Bool) (k : ℕ) (a : Sight) (p : ℕ) → Five (more s sight is_op sub k a p)
    unfolding more
    row-five is_op zero a p = tt
    row-five is_op (suc k) a p = choice-five (is_op (token s p)) _ _ (then-five (joined s sight sub (token s p) a p) _ (joined-five (token s p) a p) (λ b q. row-five is_op k b q)) tt

    product-five : (k p : ℕ) → Five (read_product s sight sub k p)
    unfolding read_product
    product-five k p = then-five (sub p) _ (five p) (λ a q. row-five is_factor k a q)

  module _ (sub : ℕ → Read Sight) (five : (p : ℕ) → Five (sub p)) where
    sum-five : (k p : ℕ) → Five (read_sum s sight sub k p)
    unfolding read_sum
    sum-five k p = then-five (read_product s sight sub k p) _ (product-five sub five k p) (λ a q. row-five (read_product s sight sub k) (product-five sub five k) is_term k a q)

    expression-five : (k p : ℕ) → Five (read_expression s sight sub k p)
    unfolding read_expression read_rest
    expression-five k p = then-five (read_sum s sight sub k p) _ (sum-five k p) (λ a q. choice-five (is_compare (token s q)) _ _ (joined-five (read_sum s sight sub k) (sum-five k) (token s q) a q) (row-five (read_sum s sight sub k) (sum-five k) (is_row (token s q)) k a q))

  operand-five : (k p : ℕ) → Five (read_operand s sight k p)
  unfolding read_operand operand_from read_variable read_close read_truth sight
  operand-five zero p = refl
  operand-five (suc k) p =
      let t = token s p in
      choice-five (is_number t) _ _ tt
      (choice-five (is_variable t) _ _ (choice-five (is_indexed s t p) _ _ tt refl)
      (choice-five (eqb t OPEN) _ _ (then-five (read_expression s sight (read_operand s sight k) k (p + 1)) _ (expression-five (read_operand s sight k) (operand-five k) k (p + 1)) (λ a q. choice-five (eqb (token s q) CLOSE) _ _ tt refl))
      (choice-five (eqb t MINUS) _ _ (then-five (read_operand s sight k (p + 1)) _ (operand-five k (p + 1)) (λ a q. tt))
      (choice-five (eqb t NOT) _ _ (then-five (read_operand s sight k (p + 1)) _ (operand-five k (p + 1)) (λ a q. tt))
      (choice-five (eqb t TRUE) _ _ tt
      (choice-five (eqb t FALSE) _ _ tt refl))))))

  -- a right side's reading ends with 5, if it ends
  right-five : (k p : ℕ) → Five (fault_for false (sum_at s sight k p))
  unfolding sum_at
  right-five k p = fault_for-five false (sum_at s sight k p) (sum-five (read_operand s sight k) (operand-five k) k p)

  -- so do a condition's
  pub condition-five : (k p : ℕ) → Five (fault_for true (expression_at s sight k p))
  unfolding expression_at
  condition-five k p = fault_for-five true (expression_at s sight k p) (expression-five (read_operand s sight k) (operand-five k) k p)

  action-five : (kw k p : ℕ) → Five (action_at s kw k p)
  unfolding action_at assignment_at assigned_at command_at unindexed_at synfct_at
  action-five kw k p =
      let w = token s p in
      choice-five (is_indexed s w p) _ _
      (choice-five (eqb (token s (p + 4)) EQUALS) _ _
      (choice-five (is_variable w) _ _
      (then-five (assigned_at s k (p + 5)) _ (choice-five (is_removal s (p + 5)) _ _ tt (right-five k (p + 5))) (λ f q. tt))
      (choice-five (is_drive w) _ _ (right-five k (p + 5)) refl))
      refl)
      (choice-five (eqb w SYNFCT) _ _ (choice-five (is_synfct s p) _ _ tt refl)
      (choice-five (is_whole (token s (p + 2))) _ _
      (choice-five (eqb w M) _ _
      (choice-five (eqb (token s (p + 1)) EQUALS) _ _ tt refl)
      (choice-five (is_call w && (eqb (token s (p + 1)) OPEN && eqb (token s (p + 3)) CLOSE)) _ _ tt refl))
      refl))

  -- and the actions'
  pub actions-five : (kw k j n : ℕ) (m : List ℕ) (f p : ℕ) → Five (actions_at s kw k j n m f p)
  unfolding actions_at
  actions-five kw k zero n m f p = refl
  actions-five kw k (suc j) n m f p = then-five (action_at s kw k p) _ (action-five kw k p) (λ g q. choice-five (eqb (token s q) END) _ _ tt (actions-five kw k j (n + 1) (m ++ moves_at s p) (lower f g) q))
