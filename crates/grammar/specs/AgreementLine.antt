-- The lines that the check finds: where it tells neither fault 4 nor fault 5, a line of the grammar is written; and what follows. Assumes nothing.
use Rattle.std.specs.Prelude.{Result, Ok, ◌≡◌, Bool, false, ◌&&◌, ◌↔◌, length, drop}
use Rattle.std.proofs.Math.Path.{refl, sym, ap, subst}
use Rattle.std.proofs.Common.{◌∙◌, inl, inr}
use Rattle.std.proofs.Math.Bool.{true}
use mathlib.Core.List.{List, [], ◌∷◌, ◌++◌}
use Prim.Native.Nat.{ℕ, zero, suc, ◌+◌, ◌≤◌}
use native.Mathlib.Omega.{arith}
use Rattle.std.proofs.Math.Dec.{eqb}
use borrow.Author.Tests.{le-leb, lt-leb, eq-eqb, eqb-true, eqb-false}
use Rattle.values.specs.Codes.{too_deep, not_in_grammar}
use Rattle.values.specs.Choice.{told-so, both, decide, choice, chosen, refused}
use Rattle.checking.specs.declared.line.Line.{Line as Told}
use Rattle.tokens.specs.Token.{set_size, END, EQUALS, LEFT, RIGHT, DO, IM, is_variable, has_axis, is_fifo, is_drive, is_call, is_keyword, is_id, is_whole, whole, CLOSE, COMMA, FIFO1, FIFO4, IN, M, MOV, OPEN, POS, SYNFCT}
use Rattle.grammar.specs.Tree.{variable, product, no_factor, Sum, sum, no_term, Action, assign, assign_position, drive, code, call, synfct, Place, cell, axis, place_tokens, Condition, always, under, Line, line, tree_number, sum_tokens, action_tokens, actions_tokens, condition_tokens, line_tokens}
use Rattle.tokens.specs.Descent.{token, Read, read, ends, is_indexed, index_at, sum_at, expression_at}
use Rattle.grammar.specs.Meaning.{Stands}
use Rattle.tokens.specs.SingleFault.{lower, opens_too_many}
use Rattle.checking.specs.Fault.{Sight, sight, fault_for, fault_of_line, is_removal, assigned_at, assignment_at, command_at, is_given, is_synfct, synfct_at, unindexed_at, action_at, moves_at, actions_at, line_parts, body_at, rest_at, line_at}
use Rattle.grammar.specs.TreeFault.{line_fault, Proper, parts_from, told_from}
use Rattle.grammar.specs.AgreementLaws.{bounds, within, ends_read, then-read, stands-join, whole-written, number-written, axis-written, variable-kind}
use Rattle.grammar.specs.AgreementRead.{sum-found, expression-found}
use Rattle.grammar.specs.AgreementFault.{line-agrees, end-holds}
use Rattle.grammar.specs.ClosedTokens.{line-fits}
use Rattle.grammar.specs.TreeFaultLaws.{line-proper}
use Rattle.grammar.specs.AgreementEnds.{Five, actions-five, condition-five}

-- a fault of 6 to 10, or 14, or none, is neither 4 nor 5
pub proper-4 : (n : ℕ) → Proper n → n ≡ too_deep → ⊥
proper-4 n (inl (inl h)) e = omega arith
proper-4 n (inl (inr h)) e = omega arith
proper-4 n (inr h) e = omega arith

pub proper-5 : (n : ℕ) → Proper n → n ≡ not_in_grammar → ⊥
proper-5 n (inl (inl h)) e = omega arith
proper-5 n (inl (inr h)) e = omega arith
proper-5 n (inr h) e = omega arith

module _ (s : List ℕ) where
  -- ---- right sides and actions that are read are written

  fault_for-read : (t : Bool) (r : Read Sight) (f q : ℕ) → fault_for t r ≡ read f q → (a : Sight) × (r ≡ read a q)
  fault_for-read t (read a i) f q h = (a, let e : i ≡ q = cc in ap (read a) e)
  fault_for-read t (ends c) f q h = ends_read _ c q f h

  right-found : (k p f q : ℕ) → fault_for false (sum_at s sight k p) ≡ read f q → (a : Sum) × Stands s p (sum_tokens a) q
  right-found k p f q h =
      let (v, e) = fault_for-read false (sum_at s sight k p) f q h in
      let b = sum-found s sight k p v q e in
      (b.tree, b.stands)

  removal-found : (p : ℕ) → is_removal s p ≡ true → (a : Sum) × Stands s p (sum_tokens a) (p + 4)
  unfolding is_removal sum_tokens
  removal-found p h =
      let w = token s p in
      let (f, g) = both (is_fifo w) _ h in
      let b = bounds FIFO1 FIFO4 w (told-so _ f) in
      let x = both (is_indexed s w p) _ g in
      (sum (product (variable w (told-so _ (within IN FIFO4 w (omega arith) (omega arith))) (index_at s w p)) no_factor) no_term, number-written s w p refl (lt-leb IM w (omega arith)) x.0)

  assigned-found : (k p f q : ℕ) → assigned_at s k p ≡ read f q → (a : Sum) × Stands s p (sum_tokens a) q
  unfolding assigned_at
  assigned-found k p f q h =
      choice _ (is_removal s p) _ _ _ h
      (λ t e. let i : p + 4 ≡ q = cc in let (a, z) = removal-found p t in (a, subst (λ (n : ℕ). Stands s p (sum_tokens a) n) i z))
      (λ t e. right-found k p f q e)

  -- w[t]= and what is assigned
  target_join : (w t : ℕ) (l : List ℕ) (p q : ℕ) → Stands s p (w ∷ LEFT ∷ t ∷ RIGHT ∷ []) (p + 4) → token s (p + 4) ≡ EQUALS → Stands s (p + 5) l q → Stands s p (w ∷ LEFT ∷ t ∷ RIGHT ∷ EQUALS ∷ l) q
  target_join w t l p q h e g =
      let five : p + 4 + 1 ≡ p + 5 = omega arith in
      stands-join s (w ∷ LEFT ∷ t ∷ RIGHT ∷ []) (EQUALS ∷ l) p (p + 4) q h (e, rw five g)

  assignment-found : (k p f q : ℕ) → is_indexed s (token s p) p ≡ true → token s (p + 4) ≡ EQUALS → assignment_at s k (token s p) p ≡ read f q → (a : Action) × Stands s p (action_tokens a) q
  unfolding assignment_at action_tokens
  assignment-found k p f q x y h =
      let w = token s p in
      choice _ (is_variable w) _ _ _ h
      (λ t e.
      let (g, i, c, d) = then-read (assigned_at s k (p + 5)) _ f q e in
      let j : i ≡ q = cc in
      let (a, z) = assigned-found k (p + 5) g q (rw j at c) in
      let kind = variable-kind w t in
      decide _ (has_axis w)
      (λ r.
      let (b, v, n) = axis-written s w p refl r x in
      (assign_position (token s (p + 2)) v a, target_join IM (token s (p + 2)) (sum_tokens a) p q (kind.0 r, b.1) y z))
      (λ r. (assign w (kind.1 r) (index_at s w p) a, target_join w _ (sum_tokens a) p q (number-written s w p refl r x) y z)))
      (λ _ h. choice _ (is_drive w) _ _ _ h
      (λ t e.
      let (a, z) = right-found k (p + 5) f q e in
      let r = bounds POS MOV w (told-so _ t) in
      let (b, v, n) = axis-written s w p refl (le-leb IM w (omega arith)) x in
      (drive w (told-so _ t) (token s (p + 2)) v a, target_join w (token s (p + 2)) (sum_tokens a) p q b y z))
      (λ _ e. ends_read _ not_in_grammar q f e))

  command-found : (kw p f q : ℕ) → command_at s kw (token s p) p ≡ read f q → (a : Action) × Stands s p (action_tokens a) q
  unfolding command_at action_tokens
  command-found kw p f q h =
      let w = token s p in
      let two : p + 1 + 1 ≡ p + 2 = omega arith in
      let three : p + 2 + 1 ≡ p + 3 = omega arith in
      let four : p + 3 + 1 ≡ p + 4 = omega arith in
      choice _ (is_whole (token s (p + 2))) _ _ _ h
      (λ t h.
      let n = whole-written (token s (p + 2)) t in
      choice _ (eqb w M) _ _ _ h
      (λ m h. choice _ (eqb (token s (p + 1)) EQUALS) _ _ _ h
      (λ y e. let i : p + 3 ≡ q = cc in (code (whole (token s (p + 2))), (eqb-true w M m, (eqb-true (token s (p + 1)) EQUALS y, rw (two, three) (n, i)))))
      (λ _ e. ends_read _ not_in_grammar q f e))
      (λ _ h. choice _ (is_call w && (eqb (token s (p + 1)) OPEN && eqb (token s (p + 3)) CLOSE)) _ _ _ h
      (λ y e.
      let (v, u) = both (is_call w) _ y in
      let (o, c) = both (eqb (token s (p + 1)) OPEN) _ u in
      let i : p + 4 ≡ q = cc in
      (call w (told-so _ v) (whole (token s (p + 2))), (refl, (eqb-true (token s (p + 1)) OPEN o, rw (two, three, four) (n, (eqb-true (token s (p + 3)) CLOSE c, i))))))
      (λ _ e. ends_read _ not_in_grammar q f e)))
      (λ _ e. ends_read _ not_in_grammar q f e)

  -- , and a place
  place_found : (p : ℕ) → is_given s p ≡ true → (y : Place) × Stands s p (COMMA ∷ place_tokens y) (p + 5)
  unfolding is_given
  place_found p h =
      let (c, g) = both (eqb (token s p) COMMA) _ h in
      let w = token s (p + 1) in
      let (t, x) = both (is_variable w) _ g in
      let kind = variable-kind w t in
      let five : p + 1 + 4 ≡ p + 5 = omega arith in
      let comma = eqb-true (token s p) COMMA c in
      decide _ (has_axis w)
      (λ r.
      let (b, v, n) = axis-written s w (p + 1) refl r x in
      let z : Stands s (p + 1) (IM ∷ LEFT ∷ token s (p + 1 + 2) ∷ RIGHT ∷ []) (p + 1 + 4) = (kind.0 r, b.1) in
      (axis (token s (p + 1 + 2)) v, (comma, rw five at z)))
      (λ r. (cell w (kind.1 r) (index_at s w (p + 1)), (comma, rw five at (number-written s w (p + 1) refl r x))))

  synfct-found : (p f q : ℕ) → token s p ≡ SYNFCT → synfct_at s p ≡ read f q → (a : Action) × Stands s p (action_tokens a) q
  unfolding synfct_at is_synfct action_tokens
  synfct-found p f q w h =
      let two : p + 1 + 1 ≡ p + 2 = omega arith in
      let three : p + 2 + 1 ≡ p + 3 = omega arith in
      let eight : p + 3 + 5 ≡ p + 8 = omega arith in
      let thirteen : p + 8 + 5 ≡ p + 13 = omega arith in
      choice _ (is_synfct s p) _ _ _ h
      (λ t e.
      let (o, a) = both (eqb (token s (p + 1)) OPEN) _ t in
      let (n, b) = both (is_whole (token s (p + 2))) _ a in
      let (c, g) = both (is_given s (p + 3)) _ b in
      let (d, i) = both (is_given s (p + 8)) _ g in
      let (y, u) = place_found (p + 3) c in
      let (z, v) = place_found (p + 8) d in
      let j : p + 14 ≡ q = cc in
      let k : p + 13 + 1 ≡ q = omega arith in
      let l = stands-join s (COMMA ∷ place_tokens z) (CLOSE ∷ []) (p + 8) (p + 13) q (rw thirteen at v) (eqb-true (token s (p + 13)) CLOSE i, k) in
      let m = stands-join s (COMMA ∷ place_tokens y) (COMMA ∷ place_tokens z ++ (CLOSE ∷ [])) (p + 3) (p + 8) q (rw eight at u) l in
      (synfct (whole (token s (p + 2))) y z, (w, (eqb-true (token s (p + 1)) OPEN o, rw (two, three) (whole-written (token s (p + 2)) n, m)))))
      (λ _ e. ends_read _ not_in_grammar q f e)

  unindexed-found : (kw p f q : ℕ) → unindexed_at s kw (token s p) p ≡ read f q → (a : Action) × Stands s p (action_tokens a) q
  unfolding unindexed_at
  unindexed-found kw p f q h =
      choice _ (eqb (token s p) SYNFCT) _ _ _ h (λ t e. synfct-found p f q (eqb-true (token s p) SYNFCT t) e) (λ _ e. command-found kw p f q e)

  action-found : (kw k p f q : ℕ) → action_at s kw k p ≡ read f q → (a : Action) × Stands s p (action_tokens a) q
  unfolding action_at
  action-found kw k p f q h =
      choice _ (is_indexed s (token s p) p) _ _ _ h
      (λ x h. choice _ (eqb (token s (p + 4)) EQUALS) _ _ _ h (λ y e. assignment-found k p f q x (eqb-true (token s (p + 4)) EQUALS y) e) (λ _ e. ends_read _ not_in_grammar q f e))
      (λ _ e. unindexed-found kw p f q e)

  actions-found : (kw k j n : ℕ) (m : List ℕ) (f p g q : ℕ) → actions_at s kw k j n m f p ≡ read g q → (a : Action) × (r : List Action) × Stands s p (actions_tokens a r) q × (token s q ≡ END)
  unfolding actions_at actions_tokens
  actions-found kw k zero n m f p g q h = ends_read _ not_in_grammar q g h
  actions-found kw k (suc j) n m f p g q h =
      let (d, i, e, u) = then-read (action_at s kw k p) _ g q h in
      let (a, z) = action-found kw k p d i e in
      choice _ (eqb (token s i) END) _ _ _ u
      (λ t e. let x : i ≡ q = cc in (a, [], subst (λ (n : ℕ). Stands s p (action_tokens a) n) x z, rw x at (eqb-true (token s i) END t)))
      (λ _ e. let (b, r, y, t) = actions-found kw k j (n + 1) (m ++ moves_at s p) (lower f d) i g q e in (a, b ∷ r, stands-join s (action_tokens a) (actions_tokens b r) p i q z y, t))

  -- ---- a line that is found is written

  -- DO at i, and one or more actions behind it up to the line's end
  record Body (i : ℕ) : Type 0 where
    first : Action
    rest : List Action
    end : ℕ
    begins : token s i ≡ DO
    stands : Stands s (i + 1) (actions_tokens first rest) end
    stops : token s end ≡ END

  parts-found : (p kw cp a : ℕ) (r : Read ℕ) (z : Result Told ℕ) → (fault_of_line z ≡ not_in_grammar → ⊥) → Five r → line_parts s p kw cp a r ≡ z → (g : ℕ) × (e : ℕ) × (r ≡ read g e)
  unfolding line_parts
  parts-found p kw cp a (read g e) z no5 five h = (g, e, refl)
  parts-found p kw cp a (ends k) z no5 five h = absurd (no5 (ap fault_of_line (sym h) ∙ five))

  body-found : (p kw cp f i : ℕ) (z : Result Told ℕ) → (fault_of_line z ≡ not_in_grammar → ⊥) → body_at s p kw cp f i ≡ z → Body i
  unfolding body_at
  body-found p kw cp f i z no5 h =
      choice _ (eqb (token s i) DO) _ _ z h
      (λ t e.
      let (g, n, m) = parts-found p kw cp (i + 1) (actions_at s kw set_size set_size 0 [] f (i + 1)) z no5 (actions-five s kw set_size set_size 0 [] f (i + 1)) e in
      let (a, r, y, u) = actions-found kw set_size set_size 0 [] f (i + 1) g n m in
      record { first = a; rest = r; end = n; begins = eqb-true (token s i) DO t; stands = y; stops = u })
      (λ _ e. absurd (no5 (ap fault_of_line (sym e))))

  -- what a choice by a reading came to
  outcome : {X : Type 0} (P : Type 0) (r : Read ℕ) (f : ℕ → ℕ → X) (g : ℕ → X) (z : X) → elim r as (λ _. X) [ read a q ↦ f a q | ends k ↦ g k ] ≡ z → ((a q : ℕ) → r ≡ read a q → f a q ≡ z → P) → ((k : ℕ) → r ≡ ends k → g k ≡ z → P) → P
  outcome P (read a q) f g z h x y = x a q refl h
  outcome P (ends k) f g z h x y = y k refl h

  rest-found : (p f : ℕ) (z : Result Told ℕ) → (fault_of_line z ≡ not_in_grammar → ⊥) → rest_at s p f ≡ z → (c : Condition) × (i : ℕ) × Stands s (p + 3) (condition_tokens c) i × Body i
  unfolding rest_at condition_tokens
  rest-found p f z no5 h =
      choice _ (is_keyword (token s (p + 3))) _ _ z h
      (λ t h. outcome _ (fault_for true (expression_at s sight set_size (p + 4))) _ _ z h
      (λ g i m e.
      let (v, r) = fault_for-read true (expression_at s sight set_size (p + 4)) g i m in
      let b = expression-found s sight set_size (p + 4) v i r in
      let four : p + 3 + 1 ≡ p + 4 = omega arith in
      (under (token s (p + 3)) (told-so _ t) b.tree, i, (refl, rw four b.stands), body-found p (token s (p + 3)) (p + 4) (lower f g) i z no5 e))
      (λ k m e. absurd (no5 (ap fault_of_line (sym e) ∙ (rw m at (condition-five s set_size (p + 4)))))))
      (λ _ e. (always, p + 3, refl, body-found p 0 0 f (p + 3) z no5 e))

  -- where no more than eight brackets are open and the check does not tell fault 5, a line of the grammar is written
  pub line-written : (p : ℕ) → opens_too_many (drop p s) 0 ≡ false → (fault_of_line (line_at s p) ≡ not_in_grammar → ⊥) → (l : Line) × (q : ℕ) × Stands s p (line_tokens l) q
  unfolding line_at line_tokens
  line-written p o no5 =
      choice _ (is_id (token s p) && (eqb (token s (p + 1)) EQUALS && is_whole (token s (p + 2)))) _ _ (line_at s p) (sym (refused (opens_too_many (drop p s) 0) _ _ o))
      (λ t e.
      let (v, u) = both (is_id (token s p)) _ t in
      let (a, w) = both (eqb (token s (p + 1)) EQUALS) _ u in
      let n = whole-written (token s (p + 2)) w in
      let (c, i, x, b) = rest-found p _ (line_at s p) no5 e in
      let two : p + 1 + 1 ≡ p + 2 = omega arith in
      let three : p + 2 + 1 ≡ p + 3 = omega arith in
      let body = actions_tokens b.first b.rest in
      let y = stands-join s body (END ∷ []) (i + 1) b.end (b.end + 1) b.stands (b.stops, refl) in
      let z = stands-join s (condition_tokens c) (DO ∷ body ++ (END ∷ [])) (p + 3) i (b.end + 1) x (b.begins, y) in
      (line (token s p) (told-so _ v) (whole (token s (p + 2))) c b.first b.rest, b.end + 1, (refl, (eqb-true (token s (p + 1)) EQUALS a, rw (two, three) (n, z)))))
      (λ _ e. absurd (no5 (ap fault_of_line (sym e))))

  -- ---- what follows

  -- THE CHECK OF WHAT WAS WRITTEN: of a line that is written at p with no more than eight brackets open, the check tells its tree's lowest fault, or its parts
  pub line-told : length s ≤ set_size → (l : Line) (p q : ℕ) → opens_too_many (drop p s) 0 ≡ false → Stands s p (line_tokens l) q → line_at s p ≡ told_from p l
  line-told n l p q o h = let f = line-fits s l p q h in line-agrees s l p q (omega arith) o h

  -- its fault
  pub line-fault : length s ≤ set_size → (l : Line) (p q : ℕ) → opens_too_many (drop p s) 0 ≡ false → Stands s p (line_tokens l) q → fault_of_line (line_at s p) ≡ line_fault l
  unfolding told_from parts_from
  line-fault n (line w v k c a r) p q o h =
      let l = line w v k c a r in
      ap fault_of_line (line-told n l p q o h) ∙ decide _ (eqb (line_fault l) 0)
      (λ t. ap fault_of_line (chosen _ _ _ t) ∙ sym (eqb-true (line_fault l) 0 t))
      (λ t. ap fault_of_line (refused _ _ _ t))

  -- its parts, where it has no fault; the place where it ends holds 0
  pub line-parts : length s ≤ set_size → (l : Line) (p q : ℕ) → opens_too_many (drop p s) 0 ≡ false → Stands s p (line_tokens l) q → line_fault l ≡ 0 → (line_at s p ≡ Ok (parts_from p l)) × (token s (parts_from p l).end ≡ END)
  unfolding told_from
  line-parts n l p q o h f = (line-told n l p q o h ∙ chosen _ _ _ (eq-eqb (line_fault l) 0 f), end-holds s l p q h)

  -- WHAT IS CHECKED IS WRITTEN SO: where the check tells neither fault 4 nor fault 5, a line of the grammar is written
  pub line-found : (p : ℕ) → (fault_of_line (line_at s p) ≡ too_deep → ⊥) → (fault_of_line (line_at s p) ≡ not_in_grammar → ⊥) → (l : Line) × (q : ℕ) × Stands s p (line_tokens l) q
  unfolding line_at
  line-found p no4 no5 =
      decide _ (opens_too_many (drop p s) 0)
      (λ t. absurd (no4 (ap fault_of_line (chosen _ _ _ t))))
      (λ t. line-written p t no5)

  -- FAULT 5 IS THE GRAMMAR'S: with no more than eight brackets open, the check tells fault 5 exactly where no line of the grammar is written
  pub fault-five : length s ≤ set_size → (p : ℕ) → opens_too_many (drop p s) 0 ≡ false → (fault_of_line (line_at s p) ≡ not_in_grammar) ↔ ((l : Line) (q : ℕ) → Stands s p (line_tokens l) q → ⊥)
  fault-five n p o = (
    (λ e l q h. proper-5 (line_fault l) (line-proper l) (sym (line-fault n l p q o h) ∙ e)),
    (λ none. decide _ (eqb (fault_of_line (line_at s p)) not_in_grammar)
        (λ t. eqb-true (fault_of_line (line_at s p)) not_in_grammar t)
        (λ t. let (l, q, h) = line-written p o (eqb-false (fault_of_line (line_at s p)) not_in_grammar t) in absurd (none l q h))),
  )

-- tokens without a fault have no fault 4
pub not-deep : (s : List ℕ) (p : ℕ) → fault_of_line (line_at s p) ≡ 0 → opens_too_many (drop p s) 0 ≡ false
unfolding line_at
not-deep s p clean =
    decide _ (opens_too_many (drop p s) 0)
    (λ t. let z : fault_of_line (line_at s p) ≡ too_deep = ap fault_of_line (chosen _ _ _ t) in absurd (omega arith))
    (λ t. t)

-- what has no fault has its parts told
pub told-parts : (s : List ℕ) (p : ℕ) → length s ≤ set_size → fault_of_line (line_at s p) ≡ 0 → (t : Told) × (line_at s p ≡ Ok t)
unfolding told_from
told-parts s p n clean =
    let o = not-deep s p clean in
    let (l, q, h) = line-written s p o (λ e. omega arith) in
    let e = line-told s n l p q o h in
    decide _ (eqb (line_fault l) 0)
    (λ t. (parts_from p l, e ∙ chosen _ _ _ t))
    (λ t. absurd (eqb-false (line_fault l) 0 t (sym (line-fault s n l p q o h) ∙ clean)))

-- the number among the parts of a line
pub parts-number : (p : ℕ) (l : Line) → (parts_from p l).number ≡ tree_number l
unfolding parts_from
parts-number p (line w v n c a r) = refl
