-- Laws of right sides, conditions and actions: wherever the tokens of a tree stand, the engine works them as the tree is worked, up to the place behind them. Nothing is assumed.
use Rattle.std.specs.Prelude.{◌≡◌, Bool, T, eqb, ℤ, length, get_or}
use Rattle.std.proofs.Math.Path.{refl}
use Rattle.std.proofs.Common.{◌∙◌, le-leb, lt-ltb, eq-eqb, ne_eqb}
use Rattle.std.proofs.Math.Bool.{true, false}
use mathlib.Core.List.{List, [], ◌∷◌, ◌++◌}
use Prim.Native.Nat.{ℕ, zero, suc, ◌+◌, ◌≤◌, ◌<◌}
use native.Mathlib.Omega.{arith}
use Rattle.std.proofs.lemmas.Bool.{eqb-false}
use Rattle.values.specs.Choice.{holds, chosen, refused}
use Rattle.values.specs.declared.curve.Curve.{Curve}
use Rattle.tokens.specs.Token.{END, EQUALS, LEFT, RIGHT, IN, IM, POS, MOV, M, SETAL, LOCK, UNLOCK, SYNFCT, COMMA, CLOSE, FIFO4, X, W, is_variable, is_drive, is_call, whole, whole_token, axis_of, set_size, max_lines, is_axis, is_lock}
use Rattle.tokens.specs.Descent.{token, Answer, good, stop, ◌>>=◌, is_index, index_of, index_at}
use Rattle.tokens.specs.ChooseLaws.{through, choose, choose-by}
use Rattle.checking.specs.Fault.{is_removal}
use Rattle.working.specs.Variables.{variable_value}
use Rattle.working.specs.Operators.{is_yes, from_worked}
use Rattle.working.specs.Working.{value_over, right_value, condition_value, variable_at}
use Rattle.engine.specs.Set.{rank_in, defined_curve}
use Rattle.engine.specs.Write.{change_fifo, write_to}
use Rattle.engine.specs.declared.write.Change.TheVariants.{Remove}
use Rattle.engine.specs.declared.write.Vars.{Vars}
use Rattle.engine.specs.Drive.{drive_order}
use Rattle.engine.specs.Action.{World, Did, Taken, from_reached, taken_at, assignment_of, drive_of, command_of, action_of, did, with_vars, ordered, lock_of, curve_assigned, synfct_of}
use Rattle.engine.specs.Actions.{actions_of}
use Rattle.grammar.specs.Tree.{number, variable, position, truth, bracket, minus, not, product, Sum, sum, Expression, Action, assign, assign_position, drive, code, call, synfct, Place, place_word, place_index, place_token, place_tokens, sum_tokens, expression_tokens, action_tokens, actions_tokens}
use Rattle.grammar.specs.Meaning.{sum_meaning, expression_meaning, Stands, EndsSum, EndsExpression}
use Rattle.grammar.specs.TreeFault.{is_removal_tree}
use Rattle.grammar.specs.Agreement.{sum_agrees, expression-agrees}
use Rattle.soundness.specs.ActionSoundLaws.{variable-there}
use Rattle.grammar.specs.AgreementLaws.{bounds, within, beyond, stands-split, parts-fit, numbered, whole-token, number-index, axis-index, index-stands, place-index}
use Rattle.grammar.specs.AgreementFault.{word-ends, end-ends, removal-agrees, actions-word}
use Rattle.turn_trees.specs.TurnTree.{Names, RightTaken, value_taken, taken_tree, condition_tree, ActionsDone, done_in, assign_tree, lock_tree, action_tree, actions_tree}
use Rattle.turn_trees.specs.LineNames.{ActionNames, ActionsName, SameRank, SameCurve}
use Rattle.turn_trees.specs.AlarmLaws.{right-stops, condition-stops, told-tree}

-- a value, and the place behind it
abbrev up_to_place : Answer ℤ → ℕ → Answer (ℤ × ℕ)
up_to_place m q = m >>= λ v. good (v, q)

-- what was taken and what was done, up to the place behind it
abbrev taken_up_to : ℕ → RightTaken → Answer Taken
taken_up_to q t = good (record { value = t.value; vars = t.vars; next = q })

abbrev pub done_up_to : ℕ → ActionsDone → Answer Did
done_up_to q d = good (record { world = d.world; next = q; notes = d.notes })

module _ (s : List ℕ) where
  -- ---- right sides and conditions

  right-tree : (r c : List ℤ) (a : Sum) (p q : ℕ) → length (sum_tokens a) ≤ set_size → Stands s p (sum_tokens a) q → EndsSum (token s q) →
      from_reached (right_value s r c p) ≡ up_to_place (sum_meaning (value_over r c) a) q
  unfolding right_value
  right-tree r c a p q l h e = rw (sum_agrees s (value_over r c) a set_size p q l h e) (told-tree (sum_meaning (value_over r c) a) q (right-stops r c a))

  pub condition-tree : (x : Vars) (e : Expression) (p q : ℕ) → length (expression_tokens e) ≤ set_size → Stands s p (expression_tokens e) q → EndsExpression (token s q) →
      (from_reached (condition_value s x.r x.cells p) >>= λ a. good (is_yes a.0)) ≡ condition_tree x e
  unfolding condition_value condition_tree
  condition-tree x e p q l h z =
      rw (expression-agrees s (value_over x.r x.cells) e set_size p q l h z, told-tree (expression_meaning (value_over x.r x.cells) e) q (condition-stops x.r x.cells e))
      (go (expression_meaning (value_over x.r x.cells) e))
    where
      go : (c : Answer ℤ) → (up_to_place c q >>= λ a. good (is_yes a.0)) ≡ (c >>= λ v. good (is_yes v))
      go (good v) = refl
      go (stop k) = refl

  -- a right side that is no removal
  value_taken_lem : (x : Vars) (a : Sum) (p q : ℕ) → length (sum_tokens a) ≤ set_size → Stands s p (sum_tokens a) q → EndsSum (token s q) →
      (from_reached (right_value s x.r x.cells p) >>= λ b. good (record { value = b.0; vars = x; next = b.1 })) ≡ (value_taken x a >>= taken_up_to q)
  value_taken_lem x a p q l h e = rw (right-tree x.r x.cells a p q l h e) (go (sum_meaning (value_over x.r x.cells) a))
    where
      go : (m : Answer ℤ) → (up_to_place m q >>= λ b. good (record { value = b.0; vars = x; next = b.1 })) ≡ (m >>= (λ v. good (record { value = v; vars = x })) >>= taken_up_to q)
      go (good v) = refl
      go (stop k) = refl

  no-removal : (x : Vars) (a : Sum) (p q : ℕ) → is_removal_tree a ≡ false → length (sum_tokens a) ≤ set_size → Stands s p (sum_tokens a) q → EndsSum (token s q) →
      taken_at s x p ≡ (value_taken x a >>= taken_up_to q)
  unfolding taken_at
  no-removal x a p q n l h e = refused _ _ _ ((removal-agrees s a p q h e).0 ∙ n) ∙ value_taken_lem x a p q l h e

  taken-tree : (x : Vars) (a : Sum) (p q : ℕ) → length (sum_tokens a) ≤ set_size → Stands s p (sum_tokens a) q → EndsSum (token s q) → taken_at s x p ≡ (taken_tree x a >>= taken_up_to q)
  unfolding taken_at taken_tree is_removal_tree sum_tokens
  taken-tree x (sum (product (variable w v i) r) t) p q l h e =
      let a = sum (product (variable w v i) r) t in
      let (m, n) = removal-agrees s a p q h e in
      choose-by (taken_up_to q) (is_removal s p) (is_removal_tree a) _ _ _ _ m
      (λ z. rw (h.0, n z) (through _ (change_fifo x.r x.cells Remove w) _ _ (λ c. refl)))
      (λ z. value_taken_lem x a p q l h e)
  taken-tree x (sum (product (number n) r) t) p q l h e = no-removal x (sum (product (number n) r) t) p q refl l h e
  taken-tree x (sum (product (position y v) r) t) p q l h e = no-removal x (sum (product (position y v) r) t) p q refl l h e
  taken-tree x (sum (product (truth b) r) t) p q l h e = no-removal x (sum (product (truth b) r) t) p q refl l h e
  taken-tree x (sum (product (bracket y) r) t) p q l h e = no-removal x (sum (product (bracket y) r) t) p q refl l h e
  taken-tree x (sum (product (minus y) r) t) p q l h e = no-removal x (sum (product (minus y) r) t) p q refl l h e
  taken-tree x (sum (product (not y) r) t) p q l h e = no-removal x (sum (product (not y) r) t) p q refl l h e

  -- ---- an action

  -- w[t]= stands at p, and what is assigned behind it
  target : (w t : ℕ) (l : List ℕ) (p q : ℕ) → is_index w t ≡ true → Stands s p (w ∷ LEFT ∷ t ∷ RIGHT ∷ EQUALS ∷ l) q → (index_at s w p ≡ index_of w t) × Stands s (p + 5) l q
  target w t l p q x h =
      let (i, f, g) = stands-split s (w ∷ LEFT ∷ t ∷ RIGHT ∷ []) (EQUALS ∷ l) p q h in
      let (a, b, c) = index-stands s w t p i x f in
      let five : i + 1 ≡ p + 5 = omega arith in
      (b, rw five at g.1)

  assign-tree : (x : World) (w t i : ℕ) (a : Sum) (p q : ℕ) → is_index w t ≡ true → index_of w t ≡ i → length (sum_tokens a) ≤ set_size →
      Stands s p (w ∷ LEFT ∷ t ∷ RIGHT ∷ EQUALS ∷ sum_tokens a) q → EndsSum (token s q) → assignment_of s x w p ≡ (assign_tree x w i a >>= done_up_to q)
  unfolding assignment_of assign_tree
  assign-tree x w t i a p q y z l h e =
      let (b, d) = target w t (sum_tokens a) p q y h in
      rw (taken-tree x.vars a (p + 5) q l d e, b, z) (go (taken_tree x.vars a))
    where
      go : (m : Answer RightTaken) → (m >>= taken_up_to q >>= λ u. write_to u.vars w i u.value >>= λ v. did u.next (with_vars x v))
          ≡ (m >>= (λ u. write_to u.vars w i u.value >>= λ v. done_in (with_vars x v)) >>= done_up_to q)
      go (good u) = through _ (write_to u.vars w i u.value) _ _ (λ v. refl)
      go (stop k) = refl

  -- a place stands at p, and what stands behind it
  place-stands : (y : Place) (l : List ℕ) (p q : ℕ) → Stands s p (place_tokens y ++ l) q → (token s p ≡ place_word y) × (index_at s (place_word y) p ≡ place_index y) × Stands s (p + 4) l q
  place-stands y l p q h =
      let (i, f, g) = stands-split s (place_tokens y) l p q h in
      let (v, x, k) = place-index y in
      let (a, b, c) = index-stands s (place_word y) (place_token y) p i x f in
      (f.0, b ∙ k, rw (← c) at g)

  -- and what is read there
  variable-stands : (r c : List ℤ) (y : Place) (l : List ℕ) (p q : ℕ) → Stands s p (place_tokens y ++ l) q → variable_at s r c p ≡ variable_value r c (place_word y) (place_index y)
  variable-stands r c y l p q h =
      let (i, f, g) = stands-split s (place_tokens y) l p q h in
      let (v, x, k) = place-index y in
      let (a, b, d) = index-stands s (place_word y) (place_token y) p i x f in
      variable-there s r c p (rw f.0 v) (rw f.0 a) ∙ rw (f.0, b, k)

  -- SYNFCT, where c is the curve that the set has
  synfct-tree : (x : World) (m : ℕ) (y z : Place) (c : Curve) (p q : ℕ) → defined_curve s m ≡ c → Stands s p (action_tokens (synfct m y z)) q →
      synfct_of s x p
      ≡ (from_worked (variable_value x.vars.r x.vars.cells (place_word z) (place_index z)) >>= (λ u. curve_assigned x.vars c u (place_word y) (place_index y) >>= λ v. done_in (with_vars x v)) >>= done_up_to q)
  unfolding synfct_of action_tokens
  synfct-tree x m y z c p q g h =
      let two : p + 1 + 1 ≡ p + 2 = omega arith in
      let four : p + 1 + 1 + 1 + 1 ≡ p + 4 = omega arith in
      let nine : p + 4 + 4 + 1 ≡ p + 9 = omega arith in
      let t : whole (token s (p + 2)) ≡ m = rw (rw two at h.1.1.0) (whole-token m).1 in
      let (w, i, d) = place-stands y (COMMA ∷ place_tokens z ++ (CLOSE ∷ [])) (p + 4) q (rw four at h.1.1.1.1) in
      let e = rw nine at d.1 in
      let (v, j, b) = place-stands z (CLOSE ∷ []) (p + 9) q e in
      let fourteen : p + 14 ≡ q = let k = b.1 in omega arith in
      rw (t, g, w, i, variable-stands x.vars.r x.vars.cells z (CLOSE ∷ []) (p + 9) q e, fourteen) (go (from_worked (variable_value x.vars.r x.vars.cells (place_word z) (place_index z))))
    where
      go : (r : Answer ℤ) → (r >>= λ a. curve_assigned x.vars c a (place_word y) (place_index y) >>= λ v. did q (with_vars x v))
          ≡ (r >>= (λ u. curve_assigned x.vars c u (place_word y) (place_index y) >>= λ v. done_in (with_vars x v)) >>= done_up_to q)
      go (good u) = through _ (curve_assigned x.vars c u (place_word y) (place_index y)) _ _ (λ v. refl)
      go (stop k) = refl

  module _ (numbers : List ℕ) (names : Names) (n : ℕ) where
    lock-tree : (x : World) (b : Bool) (k q : ℕ) → k < max_lines → lock_of names.cancelled x b k q ≡ (lock_tree names x b k >>= done_up_to q)
    unfolding lock_of lock_tree
    lock-tree x b k q h = chosen _ _ _ (lt-ltb k max_lines h) ∙ choose (done_up_to q) (get_or names.cancelled k false) _ _ _ _ refl refl

    -- LOCK or UNLOCK
    lock-word : (w : ℕ) → T (is_call w) → eqb w SETAL ≡ false → is_lock w ≡ true
    lock-word w v e = let b = bounds SETAL UNLOCK w v in within LOCK UNLOCK w (omega (arith, eqb-false w SETAL e)) (omega arith)

    action-tree : (x : World) (a : Action) (p q : ℕ) → ActionNames (SameRank numbers names) (SameCurve s names) a → length (action_tokens a) ≤ set_size → Stands s p (action_tokens a) q → EndsSum (token s q) →
        action_of s numbers names.cancelled n x p ≡ (action_tree names n x a >>= done_up_to q)
    unfolding action_of action_tree action_tokens drive_of command_of
    action-tree x (assign w v i a) p q g l h e =
        let f = numbered w v in
        let y = number-index w i f.2 in
        let b = bounds IN FIFO4 w v in
        let c = h.0 in
        let on : is_variable (token s p) ≡ true = rw c f.1 in
        refused _ _ _ (ne_eqb (token s p) END (λ z. omega arith)) ∙ chosen _ _ _ on ∙ rw c (assign-tree x w (whole_token i) i a p q y.0 y.1 (omega arith) h e)
    action-tree x (assign_position m v a) p q g l h e =
        let y = axis-index IM m refl v in
        let c = h.0 in
        let on : is_variable (token s p) ≡ true = rw c in
        refused _ _ _ (ne_eqb (token s p) END (λ z. omega arith)) ∙ chosen _ _ _ on ∙ rw c (assign-tree x IM m (axis_of m) a p q y.0 y.1 (omega arith) h e)
    action-tree x (drive w v m u a) p q g l h e =
        let b = bounds POS MOV w v in
        let c = h.0 in
        let y = axis-index w m (le-leb IM w (omega arith)) u in
        let (j, d) = target w m (sum_tokens a) p q y.0 h in
        let k = bounds X W m u in
        let off : is_variable (token s p) ≡ false = rw c (beyond IN IM w (omega arith)) in
        let on : is_drive (token s p) ≡ true = rw c (holds (is_drive w) v) in
        let i : index_at s w p ≡ axis_of m = j ∙ y.1 in
        let two : p + 1 + 1 ≡ p + 2 = omega arith in
        let t : is_axis (token s (p + 2)) ≡ true = rw (rw two at h.1.1.0) (holds (is_axis m) u) in
        refused _ _ _ (ne_eqb (token s p) END (λ z. omega arith)) ∙ refused _ _ _ off ∙ chosen _ _ _ on
        ∙ rw c (chosen _ _ _ t ∙ rw (right-tree x.vars.r x.vars.cells a (p + 5) q (omega arith) d e, i) (go (sum_meaning (value_over x.vars.r x.vars.cells) a)))
      where
        go : (r : Answer ℤ) → (up_to_place r q >>= λ b. drive_order n w (axis_of m) b.0 >>= λ o. did b.1 (ordered x o))
            ≡ (r >>= (λ y. drive_order n w (axis_of m) y >>= λ o. done_in (ordered x o)) >>= done_up_to q)
        go (good y) = through _ (drive_order n w (axis_of m) y) _ _ (λ o. refl)
        go (stop k) = refl
    action-tree x (code m) p q g l h e =
        let c = h.0 in
        let two : p + 1 + 1 ≡ p + 2 = omega arith in
        let three : p + 3 ≡ q = let z = h.1.1.1 in omega arith in
        let t : token s (p + 2) ≡ whole_token m = rw two at h.1.1.0 in
        let off : is_variable (token s p) ≡ false = rw c in
        let no : is_drive (token s p) ≡ false = rw c in
        refused _ _ _ (ne_eqb (token s p) END (λ z. omega arith)) ∙ refused _ _ _ off ∙ refused _ _ _ no
        ∙ refused _ _ _ (ne_eqb (token s p) SYNFCT (λ z. omega arith)) ∙ chosen _ _ _ (eq-eqb (token s p) M c) ∙ rw (t, (whole-token m).1, three)
    action-tree x (call w v m) p q g l h e =
        let c = h.0 in
        let b = bounds SETAL UNLOCK w v in
        let two : p + 1 + 1 ≡ p + 2 = omega arith in
        let four : p + 4 ≡ q = let z = h.1.1.1.1 in omega arith in
        let t : whole (token s (p + 2)) ≡ m = rw (rw two at h.1.1.0) (whole-token m).1 in
        let off : is_variable (token s p) ≡ false = rw c (beyond IN IM w (omega arith)) in
        let no : is_drive (token s p) ≡ false = rw c (beyond POS MOV w (omega arith)) in
        refused _ _ _ (ne_eqb (token s p) END (λ z. omega arith)) ∙ refused _ _ _ off ∙ refused _ _ _ no
        ∙ refused _ _ _ (ne_eqb (token s p) SYNFCT (λ z. omega arith)) ∙ refused _ _ _ (ne_eqb (token s p) M (λ z. omega arith))
        ∙ choose-by (done_up_to q) (eqb (token s p) SETAL) (eqb w SETAL) _ _ _ _ (rw c) (λ z. rw (t, four))
        (λ z. let k = g (lock-word w v z) in let on : is_call (token s p) ≡ true = rw c (holds (is_call w) v) in chosen _ _ _ on ∙ rw (c, t, four, ← k.1) (lock-tree x (eqb w LOCK) (rank_in numbers m 0) q k.0))
    action-tree x (synfct m y z) p q g l h e =
        let c = h.0 in
        let off : is_variable (token s p) ≡ false = rw c in
        let no : is_drive (token s p) ≡ false = rw c in
        refused _ _ _ (ne_eqb (token s p) END (λ t. omega arith)) ∙ refused _ _ _ off ∙ refused _ _ _ no ∙ chosen _ _ _ (eq-eqb (token s p) SYNFCT c)
        ∙ synfct-tree x m y z (names.curves m) p q g h

    -- ---- actions

    pub actions-tree : (r : List Action) (a : Action) (j : ℕ) (x : World) (p q : ℕ) → length r < j → ActionsName (SameRank numbers names) (SameCurve s names) a r → length (actions_tokens a r) ≤ set_size →
        Stands s p (actions_tokens a r) q → token s q ≡ END → actions_of s numbers names.cancelled n j x p ≡ (actions_tree names n x a r >>= done_up_to q)
    unfolding actions_of actions_tree actions_tokens
    actions-tree r a zero x p q j g l h e = absurd (omega arith)
    actions-tree [] a (suc m) x p q j g l h e = rw (action-tree x a p q g l h (end-ends (token s q) e)) (go (action_tree names n x a))
      where
        go : (b : Answer ActionsDone) →
            (b >>= done_up_to q >>= λ d. elim (eqb (token s d.next) END) [
              | true ↦ good d
              | false ↦ actions_of s numbers names.cancelled n m d.world d.next >>= λ f. good (record { world = f.world; next = f.next; notes = d.notes ++ f.notes })
            ]) ≡ (b >>= done_up_to q)
        go (good d) = chosen _ _ _ (eq-eqb (token s q) END e)
        go (stop k) = refl
    actions-tree (b ∷ r) a (suc m) x p q j g l h e =
        let (i, u, v) = stands-split s (action_tokens a) (actions_tokens b r) p q h in
        let L = parts-fit (action_tokens a) (actions_tokens b r) set_size l in
        let w = actions-word s b r i q v in
        rw (action-tree x a p i g.0 L.0 u (word-ends (token s i) w)) (go i w (action_tree names n x a) (λ y. actions-tree r b m y i q (omega arith) g.1 L.1 v e))
      where
        go : (i : ℕ) → IN ≤ token s i → (c : Answer ActionsDone) → ((y : World) → actions_of s numbers names.cancelled n m y i ≡ (actions_tree names n y b r >>= done_up_to q)) →
            (c >>= done_up_to i >>= λ d. elim (eqb (token s d.next) END) [
              | true ↦ good d
              | false ↦ actions_of s numbers names.cancelled n m d.world d.next >>= λ f. good (record { world = f.world; next = f.next; notes = d.notes ++ f.notes })
            ]) ≡ (c >>= (λ d. actions_tree names n d.world b r >>= λ f. good (record { world = f.world; notes = d.notes ++ f.notes })) >>= done_up_to q)
        go i w (good d) f = refused _ _ _ (ne_eqb (token s i) END (λ z. omega arith)) ∙ rw (f d.world) (last (actions_tree names n d.world b r))
          where
            last : (c : Answer ActionsDone) → (c >>= done_up_to q >>= λ f. good (record { world = f.world; next = f.next; notes = d.notes ++ f.notes }))
                ≡ (c >>= (λ f. good (record { world = f.world; notes = d.notes ++ f.notes })) >>= done_up_to q)
            last (good f) = refl
            last (stop k) = refl
        go i w (stop k) f = refl
