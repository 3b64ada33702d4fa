-- The check of what was written: where a line's tokens stand, the check tells the faults of its tree, or its parts. Assumes nothing.
use Rattle.std.specs.Prelude.{◌≡◌, cond, not as no?, ◌&&◌, ◌||◌, ◌⊎◌, T, drop}
use Rattle.std.proofs.Math.Path.{refl, sym, ap}
use Rattle.std.proofs.Common.{◌∙◌, inl, inr, not-suc-le-zero, le_trans}
use Rattle.std.proofs.Math.Bool.{true, false, and_assoc, or-true, or-false}
use Rattle.std.proofs.lemmas.Bool.{false≢true}
use mathlib.Core.List.{List, [], ◌∷◌, ◌++◌, append_assoc}
use Prim.Native.Nat.{ℕ, zero, suc, pred, ◌+◌, ◌-◌, ◌<◌, ◌≤◌}
use native.Mathlib.Omega.{arith}
use Rattle.std.proofs.Math.Dec.{eqb}
use Rattle.std.proofs.Math.ListN.{length, length-append}
use borrow.Author.Tests.{le-leb, eq-eqb, ne_eqb, eqb-true}
use Rattle.values.specs.Choice.{holds, both, decide, chosen, refused, same-choice}
use Rattle.tokens.specs.Token.{set_size, END, EQUALS, OPEN, CLOSE, COMMA, DO, LEFT, RIGHT, IM, M, SYNFCT, is_variable, is_drive, is_move, is_call, is_whole, is_fifo, is_naming, is_keyword, is_id, is_factor, is_term, NUMBER, whole, whole_token, axis_of, FALSE, FIFO1, FIFO4, IN, LOCK, MINUS, MOV, NOT, OVER, PLUS, POS, SETAL, TIMES, TRUE, UNLOCK}
use Rattle.grammar.specs.Tree.{Operand, number, variable, position, truth, bracket, minus, not, product, Factors, no_factor, factor, Sum, sum, Terms, no_term, term, Action, assign, assign_position, drive, code, call, synfct, Place, place_word, place_index, place_token, place_tokens, Condition, always, under, Line, line, operand_tokens, factors_tokens, sum_tokens, terms_tokens, action_tokens, actions_tokens, condition_tokens, line_tokens}
use Rattle.tokens.specs.Descent.{token, read, is_index, index_of, is_indexed, index_at, sum_at}
use Rattle.grammar.specs.Meaning.{sum_meaning, expression_meaning, Stands, EndsSum, EndsExpression}
use Rattle.tokens.specs.SingleFault.{lower, opens_too_many, read_fault, write_fault, id_fault, curve_fault}
use Rattle.checking.specs.Fault.{sight, fault_for, count_fault, moves_fault, number_of, is_removal, assigned_at, assignment_at, command_at, is_given, is_synfct, synfct_fault, synfct_at, unindexed_at, action_at, moves_at, actions_at, names_from, line_parts, body_at, rest_at, line_at}
use Rattle.grammar.specs.TreeFault.{right_fault, is_fifo_zero, is_alone, is_removal_tree, assigned_fault, action_fault, actions_fault, keyword_of, condition_fault, move_of, moves_of, parts_fault, line_fault, condition_place, parts_from, told_from}
use Rattle.grammar.specs.TreeNames.{Name, action_names, actions_names, names_in, has_names}
use Rattle.grammar.specs.Agreement.{sum_agrees, expression-agrees}
use Rattle.grammar.specs.AgreementLaws.{bounds, before, beyond, stands-split, stands-place, parts-fit, numbered, whole-token, number-index, axis-index, index-stands, place-index}
use Rattle.grammar.specs.TreeFaultLaws.{lower-none, lower-assoc, lower-first, number-kept, seen-sum, seen-expression, wanted_read}

-- ---- an action

pub word-ends : (w : ℕ) → IN ≤ w → EndsSum w
word-ends w h = record { factor = beyond TIMES OVER w (omega arith); term = beyond PLUS MINUS w (omega arith) }

pub end-ends : (t : ℕ) → t ≡ END → EndsSum t
end-ends t h = rw h (record { factor = refl; term = refl })

pub do-ends : EndsExpression DO
do-ends = record { sum = record { factor = refl; term = refl }; compare = refl; logic = refl }

pub action-long : (a : Action) → 1 ≤ length (action_tokens a)
unfolding action_tokens
action-long (assign w v i a) = omega arith
action-long (assign_position x v a) = omega arith
action-long (drive w v x u a) = omega arith
action-long (code n) = omega arith
action-long (call w v n) = omega arith
action-long (synfct n y z) = omega arith

actions-long : (r : List Action) (a : Action) → 1 ≤ length (actions_tokens a r)
unfolding actions_tokens
actions-long [] a = action-long a
actions-long (b ∷ r) a = let e = length-append (action_tokens a) (actions_tokens b r) in omega (arith, action-long a)

module _ (s : List ℕ) where
  no-fifo : (p t : ℕ) → token s p ≡ t → is_fifo t ≡ false → is_removal s p ≡ false
  unfolding is_removal
  no-fifo p t h e = rw (h, e)

  -- a removal is known by the first operand and the token behind it
  first-removal : (a : Operand) (p i : ℕ) → Stands s p (operand_tokens a) i → is_removal s p ≡ (is_fifo_zero a && no? (is_factor (token s i) || is_term (token s i)))
  unfolding operand_tokens is_removal
  first-removal (number n) p i h = no-fifo p (NUMBER + n) h.0 (beyond FIFO1 FIFO4 (NUMBER + n) (omega arith))
  first-removal (variable w v n) p i h =
      let x = number-index w n (numbered w v).2 in
      let g = index-stands s w (whole_token n) p i x.0 h in
      rw (h.0, g.0, g.1, x.1, g.2) (sym (and_assoc (is_fifo w) (eqb n 0) _))
  first-removal (position x v) p i h = no-fifo p IM h.0 refl
  first-removal (truth true) p i h = no-fifo p TRUE h.0 refl
  first-removal (truth false) p i h = no-fifo p FALSE h.0 refl
  first-removal (bracket e) p i h = no-fifo p OPEN h.0 refl
  first-removal (minus a) p i h = no-fifo p MINUS h.0 refl
  first-removal (not a) p i h = no-fifo p NOT h.0 refl

  removal-place : (a : Operand) (p i : ℕ) → Stands s p (operand_tokens a) i → is_fifo_zero a ≡ true → p + 4 ≡ i
  unfolding operand_tokens
  removal-place (number n) p i h e = absurd (false≢true e)
  removal-place (variable w v n) p i h e = let g = h.1.1.1.1 in omega arith
  removal-place (position x v) p i h e = absurd (false≢true e)
  removal-place (truth b) p i h e = absurd (false≢true e)
  removal-place (bracket x) p i h e = absurd (false≢true e)
  removal-place (minus a) p i h e = absurd (false≢true e)
  removal-place (not a) p i h e = absurd (false≢true e)

  -- an operator follows it, or not
  alone-agrees : (r : Factors) (t : Terms) (i j q : ℕ) → Stands s i (factors_tokens r) j → Stands s j (terms_tokens t) q → EndsSum (token s q) → (no? (is_factor (token s i) || is_term (token s i)) ≡ is_alone r t) × (is_alone r t ≡ true → i ≡ q)
  unfolding factors_tokens
  alone-agrees no_factor no_term i j q f g e = (rw (f, g, e.factor, e.term), λ x. f ∙ g)
  alone-agrees no_factor (term o v a r) i j q f g e = (rw (f, g.0, holds (is_term o) v, or-true (is_factor o)), λ x. absurd (false≢true x))
  alone-agrees (factor o v a r) t i j q f g e = (rw (f.0, holds (is_factor o) v), λ x. absurd (false≢true x))

  -- the reader's removal is the tree's
  pub removal-agrees : (a : Sum) (p q : ℕ) → Stands s p (sum_tokens a) q → EndsSum (token s q) → (is_removal s p ≡ is_removal_tree a) × (is_removal_tree a ≡ true → p + 4 ≡ q)
  unfolding is_removal_tree sum_tokens
  removal-agrees (sum (product a r) t) p q h e =
      let (j, l, g) = stands-split s (operand_tokens a ++ factors_tokens r) (terms_tokens t) p q h in
      let (i, f, m) = stands-split s (operand_tokens a) (factors_tokens r) p j l in
      let (x, y) = alone-agrees r t i j q m g e in
      (first-removal a p i f ∙ rw x, λ z. let b = both (is_fifo_zero a) (is_alone r t) z in removal-place a p i f b.0 ∙ y b.1)

  -- right sides
  right-agrees : (a : Sum) (k p q : ℕ) → length (sum_tokens a) ≤ k → Stands s p (sum_tokens a) q → EndsSum (token s q) → fault_for false (sum_at s sight k p) ≡ read (right_fault a) q
  unfolding right_fault
  right-agrees a k p q l h e = rw (sum_agrees s sight a k p q l h e) (wanted_read false (sum_meaning sight a) q (seen-sum a))

  assigned-agrees : (a : Sum) (k p q : ℕ) → length (sum_tokens a) ≤ k → Stands s p (sum_tokens a) q → EndsSum (token s q) → assigned_at s k p ≡ read (assigned_fault a) q
  unfolding assigned_at assigned_fault
  assigned-agrees a k p q l h e =
      let (x, y) = removal-agrees a p q h e in
      decide _ (is_removal_tree a)
      (λ z. chosen _ _ _ (x ∙ z) ∙ rw (z, y z))
      (λ z. refused _ _ _ (x ∙ z) ∙ rw z (right-agrees a k p q l h e))

  -- w[t]= stands at p, and what is assigned behind it
  target-stands : (w t : ℕ) (l : List ℕ) (kw k p q : ℕ) → is_index w t ≡ true → Stands s p (w ∷ LEFT ∷ t ∷ RIGHT ∷ EQUALS ∷ l) q → (action_at s kw k p ≡ assignment_at s k w p) × (index_at s w p ≡ index_of w t) × Stands s (p + 5) l q
  unfolding action_at
  target-stands w t l kw k p q x h =
      let (i, f, g) = stands-split s (w ∷ LEFT ∷ t ∷ RIGHT ∷ []) (EQUALS ∷ l) p q h in
      let (a, b, c) = index-stands s w t p i x f in
      let five : i + 1 ≡ p + 5 = omega arith in
      let on : is_indexed s (token s p) p ≡ true = rw h.0 a in
      let is : eqb (token s (p + 4)) EQUALS ≡ true = rw c (eq-eqb (token s i) EQUALS g.0) in
      (chosen _ _ _ on ∙ chosen _ _ _ is ∙ rw h.0, b, rw five at g.1)

  -- or no index behind the word w at p
  unindexed-stands : (w t kw k p : ℕ) → token s p ≡ w → token s (p + 1) ≡ t → eqb t LEFT ≡ false → action_at s kw k p ≡ unindexed_at s kw w p
  unfolding action_at is_indexed
  unindexed-stands w t kw k p h g e =
      let off : is_indexed s (token s p) p ≡ false = rw (g, e) in
      refused _ _ _ off ∙ rw h

  command-stands : (w t kw k p : ℕ) → eqb w SYNFCT ≡ false → token s p ≡ w → token s (p + 1) ≡ t → eqb t LEFT ≡ false → action_at s kw k p ≡ command_at s kw w p
  unfolding unindexed_at
  command-stands w t kw k p n h g e = unindexed-stands w t kw k p h g e ∙ refused _ _ _ n

  -- , and a place at p
  given-stands : (y : Place) (l : List ℕ) (p q : ℕ) → Stands s p (COMMA ∷ place_tokens y ++ l) q → (is_given s p ≡ true) × (token s (p + 1) ≡ place_word y) × (index_at s (place_word y) (p + 1) ≡ place_index y) × Stands s (p + 5) l q
  unfolding is_given
  given-stands y l p q h =
      let (i, f, g) = stands-split s (place_tokens y) l (p + 1) q h.1 in
      let (v, x, k) = place-index y in
      let (a, b, c) = index-stands s (place_word y) (place_token y) (p + 1) i x f in
      let five : i ≡ p + 5 = omega arith in
      let w : token s (p + 1) ≡ place_word y = f.0 in
      (rw (h.0, w, v) a, w, b ∙ k, rw five at g)

  -- SYNFCT and what stands in brackets behind it
  synfct-agrees : (n : ℕ) (y z : Place) (p q : ℕ) → Stands s p (action_tokens (synfct n y z)) q → synfct_at s p ≡ read (lower (curve_fault n) (lower (write_fault (place_word y) (place_index y)) (read_fault (place_word z) (place_index z)))) q
  unfolding action_tokens synfct_at is_synfct synfct_fault
  synfct-agrees n y z p q h =
      let two : p + 1 + 1 ≡ p + 2 = omega arith in
      let three : p + 1 + 1 + 1 ≡ p + 3 = omega arith in
      let four : p + 3 + 1 ≡ p + 4 = omega arith in
      let eight : p + 3 + 5 ≡ p + 8 = omega arith in
      let nine : p + 8 + 1 ≡ p + 9 = omega arith in
      let thirteen : p + 8 + 5 ≡ p + 13 = omega arith in
      let (x, m) = whole-token n in
      let t : token s (p + 2) ≡ whole_token n = rw two at h.1.1.0 in
      let (a, b, c, d) = given-stands y (COMMA ∷ place_tokens z ++ (CLOSE ∷ [])) (p + 3) q (rw three at h.1.1.1) in
      let (f, g, i, j) = given-stands z (CLOSE ∷ []) (p + 8) q (rw eight at d) in
      let w : token s (p + 4) ≡ place_word y = rw four at b in
      let v : token s (p + 9) ≡ place_word z = rw nine at g in
      let c' : index_at s (place_word y) (p + 4) ≡ place_index y = rw four at c in
      let i' : index_at s (place_word z) (p + 9) ≡ place_index z = rw nine at i in
      let e : token s (p + 13) ≡ CLOSE = rw thirteen at j.0 in
      let fourteen : p + 14 ≡ q = let k = j.1 in omega arith in
      let all : is_synfct s p ≡ true = rw (h.1.0, t, x, a, f, e) in
      chosen _ _ _ all ∙ rw (t, m, w, c', v, i', fourteen)

  assign-agrees : (kw w t i : ℕ) (a : Sum) (k p q : ℕ) → is_variable w ≡ true → is_index w t ≡ true → index_of w t ≡ i → length (sum_tokens a) ≤ k → Stands s p (w ∷ LEFT ∷ t ∷ RIGHT ∷ EQUALS ∷ sum_tokens a) q → EndsSum (token s q) → action_at s kw k p ≡ read (lower (write_fault w i) (assigned_fault a)) q
  unfolding assignment_at
  assign-agrees kw w t i a k p q v x y l h e =
      let (b, c, d) = target-stands w t (sum_tokens a) kw k p q x h in
      b ∙ chosen _ _ _ v ∙ rw (assigned-agrees a k (p + 5) q l d e, c, y)

  action-agrees : (kw : ℕ) (a : Action) (k p q : ℕ) → length (action_tokens a) ≤ k → Stands s p (action_tokens a) q → EndsSum (token s q) → action_at s kw k p ≡ read (action_fault kw a) q
  unfolding action_tokens action_fault assignment_at command_at unindexed_at
  action-agrees kw (assign w v i a) k p q l h e =
      let f = numbered w v in
      let x = number-index w i f.2 in
      assign-agrees kw w (whole_token i) i a k p q f.1 x.0 x.1 (omega arith) h e
  action-agrees kw (assign_position x v a) k p q l h e =
      let y = axis-index IM x refl v in
      assign-agrees kw IM x (axis_of x) a k p q refl y.0 y.1 (omega arith) h e
  action-agrees kw (drive w v x u a) k p q l h e =
      let b = bounds POS MOV w v in
      let y = axis-index w x (le-leb IM w (omega arith)) u in
      let (c, d, g) = target-stands w x (sum_tokens a) kw k p q y.0 h in
      c ∙ refused _ _ _ (beyond IN IM w (omega arith)) ∙ chosen _ _ _ (holds (is_drive w) v) ∙ right-agrees a k (p + 5) q (omega arith) g e
  action-agrees kw (code n) k p q l h e =
      let two : p + 1 + 1 ≡ p + 2 = omega arith in
      let three : p + 3 ≡ q = let z = h.1.1.1 in omega arith in
      let (x, y) = whole-token n in
      let t : token s (p + 2) ≡ whole_token n = rw two at h.1.1.0 in
      let b : is_whole (token s (p + 2)) ≡ true = rw t x in
      command-stands M EQUALS kw k p refl h.0 h.1.0 refl ∙ chosen _ _ _ b ∙ chosen _ _ _ (eq-eqb (token s (p + 1)) EQUALS h.1.0) ∙ rw (t, y, three)
  action-agrees kw (call w v n) k p q l h e =
      let two : p + 1 + 1 ≡ p + 2 = omega arith in
      let three : p + 1 + 1 + 1 ≡ p + 3 = omega arith in
      let four : p + 4 ≡ q = let z = h.1.1.1.1 in omega arith in
      let (x, y) = whole-token n in
      let r = bounds SETAL UNLOCK w v in
      let t : token s (p + 2) ≡ whole_token n = rw two at h.1.1.0 in
      let b : is_whole (token s (p + 2)) ≡ true = rw t x in
      let c : token s (p + 3) ≡ CLOSE = rw three at h.1.1.1.0 in
      let d : (is_call w && (eqb (token s (p + 1)) OPEN && eqb (token s (p + 3)) CLOSE)) ≡ true = rw (holds (is_call w) v, h.1.0, c) in
      command-stands w OPEN kw k p (ne_eqb w SYNFCT (λ z. omega arith)) h.0 h.1.0 refl ∙ chosen _ _ _ b ∙ refused _ _ _ (ne_eqb w M (λ z. omega arith)) ∙ chosen _ _ _ d ∙ rw (t, y, four)
  action-agrees kw (synfct n y z) k p q l h e = unindexed-stands SYNFCT OPEN kw k p h.0 h.1.0 refl ∙ synfct-agrees n y z p q h

  -- ---- actions

  -- an action begins with a word that neither goes on with a sum nor ends a line
  action-word : (a : Action) (p q : ℕ) → Stands s p (action_tokens a) q → IN ≤ token s p
  unfolding action_tokens
  action-word (assign w v i a) p q h = let b = bounds IN FIFO4 w v in let e = h.0 in omega arith
  action-word (assign_position x v a) p q h = let e = h.0 in omega arith
  action-word (drive w v x u a) p q h = let b = bounds POS MOV w v in let e = h.0 in omega arith
  action-word (code n) p q h = let e = h.0 in omega arith
  action-word (call w v n) p q h = let b = bounds SETAL UNLOCK w v in let e = h.0 in omega arith
  action-word (synfct n y z) p q h = let e = h.0 in omega arith

  pub actions-word : (a : Action) (r : List Action) (p q : ℕ) → Stands s p (actions_tokens a r) q → IN ≤ token s p
  unfolding actions_tokens
  actions-word a [] p q h = action-word a p q h
  actions-word a (b ∷ r) p q h = let (i, f, g) = stands-split s (action_tokens a) (actions_tokens b r) p q h in action-word a p i f

  -- what an action moves
  no_move : (w : ℕ) (l : List ℕ) → (w < POS) ⊎ (MOV < w) → cond (is_move w) l [] ≡ []
  no_move w l (inl h) = rw (ne_eqb w POS (λ z. omega arith), ne_eqb w MOV (λ z. omega arith))
  no_move w l (inr h) = rw (ne_eqb w POS (λ z. omega arith), ne_eqb w MOV (λ z. omega arith))

  action-moves : (a : Action) (p q : ℕ) → Stands s p (action_tokens a) q → moves_at s p ≡ move_of a
  unfolding action_tokens moves_at
  action-moves (assign w v i a) p q h = let b = bounds IN FIFO4 w v in rw h.0 (no_move w _ (inl (omega arith)))
  action-moves (assign_position x v a) p q h = rw h.0
  action-moves (drive w v x u a) p q h =
      let b = bounds POS MOV w v in
      let y = axis-index w x (le-leb IM w (omega arith)) u in
      let (c, d, g) = target-stands w x (sum_tokens a) 0 0 p q y.0 h in
      rw (h.0, d, y.1)
  action-moves (code n) p q h = rw h.0
  action-moves (call w v n) p q h = let b = bounds SETAL UNLOCK w v in rw h.0 (no_move w _ (inr (omega arith)))
  action-moves (synfct n y z) p q h = rw h.0

  actions-end : (kw k j n : ℕ) (m : List ℕ) (f g p q : ℕ) → 1 ≤ j → action_at s kw k p ≡ read g q → token s q ≡ END →
      actions_at s kw k j n m f p ≡ read (lower (lower f g) (lower (count_fault (n + 1)) (moves_fault (m ++ moves_at s p)))) q
  unfolding actions_at
  actions-end kw k zero n m f g p q l h e = absurd (not-suc-le-zero l)
  actions-end kw k (suc j) n m f g p q l h e = rw h (chosen _ _ _ (eq-eqb (token s q) END e))

  actions-next : (kw k j n : ℕ) (m : List ℕ) (f g p i : ℕ) → 1 ≤ j → action_at s kw k p ≡ read g i → IN ≤ token s i → actions_at s kw k j n m f p ≡ actions_at s kw k (pred j) (n + 1) (m ++ moves_at s p) (lower f g) i
  unfolding actions_at
  actions-next kw k zero n m f g p i l h e = absurd (not-suc-le-zero l)
  actions-next kw k (suc j) n m f g p i l h e = rw h (refused _ _ _ (ne_eqb (token s i) END (λ z. omega arith)))

  actions-agree : (kw k : ℕ) (r : List Action) (a : Action) (j n : ℕ) (z : List ℕ) (f p q : ℕ) → length (actions_tokens a r) ≤ k → length (actions_tokens a r) ≤ j → Stands s p (actions_tokens a r) q → token s q ≡ END →
      actions_at s kw k j n z f p ≡ read (lower f (lower (actions_fault kw a r) (lower (count_fault (suc (n + length r))) (moves_fault (z ++ moves_of a r))))) q
  unfolding actions_tokens actions_fault moves_of
  actions-agree kw k [] a j n z f p q l m h e =
      let one : suc (n + 0) ≡ n + 1 = omega arith in
      actions-end kw k j n z f (action_fault kw a) p q (le_trans (action-long a) m) (action-agrees kw a k p q l h (end-ends (token s q) e)) e ∙ rw (one, action-moves a p q h, lower-assoc f (action_fault kw a) _)
  actions-agree kw k (b ∷ r) a j n z f p q l m h e =
      let (i, x, y) = stands-split s (action_tokens a) (actions_tokens b r) p q h in
      let L = parts-fit (action_tokens a) (actions_tokens b r) k l in
      let w = actions-word b r i q y in
      let g = action_fault kw a in
      let c = suc (n + length (b ∷ r)) in
      let one : suc (n + 1 + length r) ≡ c = omega arith in
      let t = lower (count_fault c) (moves_fault (z ++ (move_of a ++ moves_of b r))) in
      let J = simp length-append at m in
      let A = action-long a in
      actions-next kw k j n z f g p i (omega arith) (action-agrees kw a k p i L.0 x (word-ends (token s i) w)) w
      ∙ actions-agree kw k r b (pred j) (n + 1) (z ++ moves_at s p) (lower f g) i q L.1 (omega arith) y e
      ∙ rw (one, action-moves a p i x, append_assoc z (move_of a) (moves_of b r), lower-assoc f g _, lower-assoc g (actions_fault kw b r) t)

  -- ---- what actions name

  naming : (w p : ℕ) → token s p ≡ w → is_naming w ≡ false → is_naming (token s p) ≡ false
  naming w p e h = rw e h

  below-naming : (w : ℕ) → w < LOCK → is_naming w ≡ false
  below-naming w h = rw (before LOCK UNLOCK w h, ne_eqb w SYNFCT (λ z. omega arith))

  action-naming : (a : Action) (p q : ℕ) → Stands s p (action_tokens a) q → is_naming (token s p) ≡ has_names (action_names a)
  unfolding action_tokens
  action-naming (assign w v i a) p q h = let b = bounds IN FIFO4 w v in naming w p h.0 (below-naming w (omega arith))
  action-naming (assign_position x v a) p q h = naming IM p h.0 refl
  action-naming (drive w v x u a) p q h = let b = bounds POS MOV w v in naming w p h.0 (below-naming w (omega arith))
  action-naming (code n) p q h = naming M p h.0 refl
  action-naming (call w v n) p q h =
      let name : List Name = record { word = w; number = n } ∷ [] in
      ap is_naming h.0 ∙ decide _ (is_naming w) (λ e. e ∙ ap has_names (sym (chosen (is_naming w) name [] e))) (λ e. e ∙ ap has_names (sym (refused (is_naming w) name [] e)))
  action-naming (synfct n y z) p q h = ap is_naming h.0

  has-append : (l m : List Name) → (has_names l || has_names m) ≡ has_names (l ++ m)
  has-append [] m = refl
  has-append (n ∷ l) m = refl

  names-agree : (kw k : ℕ) (r : List Action) (a : Action) (j p q : ℕ) → length (actions_tokens a r) ≤ k → length (actions_tokens a r) ≤ j → Stands s p (actions_tokens a r) q → token s q ≡ END → names_from s kw k j p ≡ has_names (actions_names a r)
  unfolding actions_tokens actions_names names_from
  names-agree kw k r a zero p q l m h e = absurd (omega (arith, actions-long r a))
  names-agree kw k [] a (suc j) p q l m h e =
      let c = action-agrees kw a k p q l h (end-ends (token s q) e) in
      simp (names_from, c, action-naming a p q h, eq-eqb (token s q) END e) (or-false (has_names (action_names a)))
  names-agree kw k (b ∷ r) a (suc j) p q l m h e =
      let (i, x, y) = stands-split s (action_tokens a) (actions_tokens b r) p q h in
      let L = parts-fit (action_tokens a) (actions_tokens b r) k l in
      let w = actions-word b r i q y in
      let J = simp length-append at m in
      let c = action-agrees kw a k p i L.0 x (word-ends (token s i) w) in
      simp (names_from, c, action-naming a p i x, ne_eqb (token s i) END (λ z. omega arith), names-agree kw k r b j i q L.1 (omega (arith, action-long a)) y e) (has-append (action_names a) (actions_names b r))

  -- ---- a line

  -- the lowest fault of a body, behind what stands before it
  abbrev body_fault : ℕ → ℕ → Action → List Action → ℕ
  body_fault kw f a r = lower f (lower (actions_fault kw a r) (lower (count_fault (suc (length r))) (moves_fault (moves_of a r))))

  body-agrees : (a : Action) (r : List Action) (p kw cp f i e : ℕ) → length (actions_tokens a r) ≤ set_size → token s i ≡ DO → Stands s (i + 1) (actions_tokens a r) e → token s e ≡ END → body_at s p kw cp f i ≡ line_parts s p kw cp (i + 1) (read (body_fault kw f a r) e)
  unfolding body_at
  body-agrees a r p kw cp f i e l d h t =
      let n : 0 + length r ≡ length r = omega arith in
      chosen _ _ _ (eq-eqb (token s i) DO d) ∙ rw (actions-agree kw set_size r a set_size 0 [] f (i + 1) e l l h t, n)

  -- what stands behind the head
  rest-agrees : (c : Condition) (a : Action) (r : List Action) (p f e : ℕ) → length (condition_tokens c) ≤ set_size → length (actions_tokens a r) ≤ set_size → (i : ℕ) → Stands s (p + 3) (condition_tokens c) i → token s i ≡ DO → Stands s (i + 1) (actions_tokens a r) e → token s e ≡ END → rest_at s p f ≡ line_parts s p (keyword_of c) (condition_place p c) (i + 1) (read (body_fault (keyword_of c) (lower f (condition_fault c)) a r) e)
  unfolding rest_at condition_tokens
  rest-agrees always a r p f e k l i g d h t =
      let no : is_keyword (token s (p + 3)) ≡ false = rw (g, d) in
      refused _ _ _ no ∙ rw (lower-none f, g) (body-agrees a r p 0 0 f i e l d h t)
  rest-agrees (under w v x) a r p f e k l i g d h t =
      let on : is_keyword (token s (p + 3)) ≡ true = rw g.0 (holds _ v) in
      let four : p + 3 + 1 ≡ p + 4 = omega arith in
      let z : EndsExpression (token s i) = rw d do-ends in
      chosen _ _ _ on ∙ rw (expression-agrees s sight x set_size (p + 4) i (omega arith) (rw four at g.1) z, wanted_read true (expression_meaning sight x) i (seen-expression x), g.0) (body-agrees a r p w (p + 4) _ i e l d h t)

  -- the parts of a line that stands from p up to q: where DO stands, and where it ends
  pub record LineStands (w n : ℕ) (c : Condition) (a : Action) (r : List Action) (p q : ℕ) : Type 0 where
    pub doing : ℕ
    pub end : ℕ
    pub word : token s p ≡ w
    pub equals : token s (p + 1) ≡ EQUALS
    pub number : token s (p + 2) ≡ whole_token n
    pub condition : Stands s (p + 3) (condition_tokens c) doing
    pub begins : token s doing ≡ DO
    pub actions : Stands s (doing + 1) (actions_tokens a r) end
    pub stops : token s end ≡ END
    pub behind : end + 1 ≡ q

  pub line-stands : (w : ℕ) (v : T (is_id w)) (n : ℕ) (c : Condition) (a : Action) (r : List Action) (p q : ℕ) → Stands s p (line_tokens (line w v n c a r)) q → LineStands w n c a r p q
  unfolding line_tokens
  line-stands w v n c a r p q h =
      let two : p + 1 + 1 ≡ p + 2 = omega arith in
      let three : p + 2 + 1 ≡ p + 3 = omega arith in
      let (t, g) = rw (two, three) at h.1.1 in
      let (i, x, y) = stands-split s (condition_tokens c) (DO ∷ actions_tokens a r ++ (END ∷ [])) (p + 3) q g in
      let (e, z, u) = stands-split s (actions_tokens a r) (END ∷ []) (i + 1) q y.1 in
      record { doing = i; end = e; word = h.0; equals = h.1.0; number = t; condition = x; begins = y.0; actions = z; stops = u.0; behind = u.1 }

  parts-agree : (w : ℕ) (v : T (is_id w)) (n : ℕ) (c : Condition) (a : Action) (r : List Action) (p q : ℕ) → length (actions_tokens a r) ≤ set_size → Stands s p (line_tokens (line w v n c a r)) q → (x : LineStands w n c a r p q) → line_parts s p (keyword_of c) (condition_place p c) (x.doing + 1) (read (line_fault (line w v n c a r)) x.end) ≡ told_from p (line w v n c a r)
  unfolding line_tokens line_parts told_from parts_from line_fault parts_fault names_in
  parts-agree w v n c a r p q m h x =
      let l = line w v n c a r in
      let d = stands-place s (condition_tokens c) (p + 3) x.doing x.condition in
      let e = stands-place s (line_tokens l) p q h in
      let actions : x.doing + 1 ≡ p + (length (condition_tokens c) + 4) = omega arith in
      let end : x.end ≡ p + (length (line_tokens l) - 1) = omega arith in
      let kept : line_fault l ≡ 0 → number_of n ≡ n = λ f. number-kept n (lower-first _ _ (lower-first _ _ (lower-first _ _ f))) in
      let names = names-agree (keyword_of c) set_size r a set_size (x.doing + 1) x.end m m x.actions x.stops in
      same-choice _ _ _ _ (λ f. rw (names, x.number, (whole-token n).1, kept (eqb-true (line_fault l) 0 f), x.word, actions, end))

  -- 14 stands behind the others
  whole-fault : (w : ℕ) (v : T (is_id w)) (n : ℕ) (c : Condition) (a : Action) (r : List Action) → body_fault (keyword_of c) (lower (id_fault n) (condition_fault c)) a r ≡ line_fault (line w v n c a r)
  unfolding line_fault parts_fault
  whole-fault w v n c a r =
      let x = lower (id_fault n) (condition_fault c) in
      let y = actions_fault (keyword_of c) a r in
      let z = count_fault (suc (length r)) in
      let m = moves_fault (moves_of a r) in
      sym (lower-assoc x (lower y z) m ∙ ap (lower x) (lower-assoc y z m))

  told-agrees : (w : ℕ) (v : T (is_id w)) (n : ℕ) (c : Condition) (a : Action) (r : List Action) (p q : ℕ) → length (line_tokens (line w v n c a r)) ≤ suc set_size → opens_too_many (drop p s) 0 ≡ false → Stands s p (line_tokens (line w v n c a r)) q → LineStands w n c a r p q → line_at s p ≡ told_from p (line w v n c a r)
  unfolding line_tokens line_at
  told-agrees w v n c a r p q l b h x =
      let m = simp length-append at l in
      let head : (is_id (token s p) && (eqb (token s (p + 1)) EQUALS && is_whole (token s (p + 2)))) ≡ true = rw (x.word, holds (is_id w) v, x.equals, x.number) (whole-token n).0 in
      let id : id_fault (whole (token s (p + 2))) ≡ id_fault n = rw (x.number, (whole-token n).1) in
      refused _ _ _ b ∙ chosen _ _ _ head ∙ ap (rest_at s p) id
      ∙ rest-agrees c a r p (id_fault n) x.end (omega arith) (omega arith) x.doing x.condition x.begins x.actions x.stops
      ∙ ap (λ (f : ℕ). line_parts s p (keyword_of c) (condition_place p c) (x.doing + 1) (read f x.end)) (whole-fault w v n c a r)
      ∙ parts-agree w v n c a r p q (omega arith) h x

  -- what the check tells of a line that stands at p; its tokens, the last not counted, are at most those of a set
  pub line-agrees : (l : Line) (p q : ℕ) → length (line_tokens l) ≤ suc set_size → opens_too_many (drop p s) 0 ≡ false → Stands s p (line_tokens l) q → line_at s p ≡ told_from p l
  line-agrees (line w v n c a r) p q l b h = told-agrees w v n c a r p q l b h (line-stands w v n c a r p q h)

  -- the place where it ends holds 0
  pub end-holds : (l : Line) (p q : ℕ) → Stands s p (line_tokens l) q → token s (parts_from p l).end ≡ END
  unfolding line_tokens parts_from
  end-holds (line w v n c a r) p q h =
      let x = line-stands w v n c a r p q h in
      let e = stands-place s (line_tokens (line w v n c a r)) p q h in
      let d : p + (length (line_tokens (line w v n c a r)) - 1) ≡ x.end = omega arith in
      rw d x.stops
