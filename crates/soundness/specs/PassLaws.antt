-- Laws of places: what is read, by any meaning, passes no line's end; so each LOCK, UNLOCK and SYNFCT that is reached names a line or a curve of the set. Nothing is assumed.
use Rattle.std.specs.Prelude.{◌≡◌, Bool, ◌&&◌, List, leb, length}
use Rattle.std.proofs.Math.Path.{refl}
use Rattle.std.proofs.Math.Bool.{true, false, cond}
use Prim.Native.Nat.{ℕ, zero, suc, ◌+◌, ◌≤◌, ◌<◌}
use Rattle.std.proofs.Math.Decide.{ℕ_discrete, dec_lt}
use native.Mathlib.Omega.{arith}
use Rattle.std.proofs.Math.Dec.{eqb}
use Rattle.std.proofs.Math.ListN.{get_or-eq_default}
use Rattle.std.proofs.Common.{eqb-true, leb-true, ne_eqb}
use Rattle.values.specs.Choice.{either, if_not, both}
use Rattle.values.specs.Numbers.{clash}
use Rattle.tokens.specs.Token.{END, EQUALS, OPEN, CLOSE, LEFT, RIGHT, TRUE, FALSE, MINUS, NOT, COMMA, FIFO1, FIFO4, M, NUMBER, X, W, IN, IM, POS, MOV, UNLOCK, SETAL, SYNFCT, between, is_number, is_variable, has_axis, is_axis, is_drive, is_call, is_fifo, is_factor, is_term, is_compare, is_logic, is_whole, number_carried, whole, set_size, is_naming}
use Rattle.tokens.specs.Descent.{token, Answer, good, stop, Read, read, ends, then, up_to, Meaning, is_row, is_index, is_indexed, index_at, joined, more, read_product, read_sum, read_rest, read_expression, read_close, read_variable, read_truth, operand_from, read_operand, sum_at, expression_at}
use Rattle.checking.specs.Fault.{Sight, sight, fault_for, is_removal, assigned_at, assignment_at, command_at, is_given, is_synfct, synfct_at, unindexed_at, action_at}
use Rattle.engine.specs.Set.{names_known}

-- a token that does not end a line
abbrev pub NoEnd : ℕ → Type 0
NoEnd t = t ≡ END → ⊥

-- one of a row of tokens that begins from 1 on
pub between-some : (low high t : ℕ) → 1 ≤ low → between low high t ≡ true → NoEnd t
between-some low high t l h e = let a = leb-true low t (both (leb low t) (leb t high) h).0 in omega arith

-- one known token
pub equal-some : (t a : ℕ) → 1 ≤ a → eqb t a ≡ true → NoEnd t
equal-some t a l h e = let q = eqb-true t a h in omega arith

-- a number
pub number-some : (t : ℕ) → is_number t ≡ true → NoEnd t
number-some t h e = let a = leb-true NUMBER t h in omega arith

-- a word that names a line or a curve
naming-some : (t : ℕ) → is_naming t ≡ true → NoEnd t
naming-some t h e = let g = rw e at h in clash (cc)

module _ (s : List ℕ) where
  -- from p up to q no line ends
  pub record Passed (p q : ℕ) : Type 0 where
    pub on : p ≤ q
    pub some : (i : ℕ) → p ≤ i → i < q → NoEnd (token s i)

  -- nothing is passed at once
  pub passed_none : (p : ℕ) → Passed p p
  passed_none p = record { on = omega arith; some = λ i l m. absurd (omega arith) }

  -- one place further
  pub passed-next : (p q r : ℕ) → Passed p q → r ≡ q + 1 → NoEnd (token s q) → Passed p r
  passed-next p q r h e n = record { on = omega (arith, h.on); some = λ i l m. by_place i l m (ℕ_discrete i q) }
    where
      by_place : (i : ℕ) → p ≤ i → i < r → Dec (i ≡ q) → NoEnd (token s i)
      by_place i l m (yes z) = rw z n
      by_place i l m (no z) = h.some i l (omega (arith, z))

  -- and on from there
  pub passed_on : (p q r : ℕ) → Passed p q → Passed q r → Passed p r
  passed_on p q r h k = record { on = omega (arith, h.on, k.on); some = λ i l m. by_place i l m (dec_lt i q) }
    where
      by_place : (i : ℕ) → p ≤ i → i < r → Dec (i < q) → NoEnd (token s i)
      by_place i l m (yes z) = h.some i l z
      by_place i l m (no z) = k.some i (omega (arith, z)) m

  passed-one : (p : ℕ) → NoEnd (token s p) → Passed p (p + 1)
  passed-one p n = passed-next p p (p + 1) (passed_none p) refl n

  -- what is read from p on ends behind p, in the same line
  abbrev pub Past : {A : Type 0} → ℕ → Read A → Type 0
  Past p (read a q) = Passed p q
  Past p (ends k) = Unit {0}

  past-from : {A : Type 0} (p q : ℕ) (y : Read A) → Passed p q → Past q y → Past p y
  past-from p q (read a r) h k = passed_on p q r h k
  past-from p q (ends c) h k = tt

  past-then : {A B : Type 0} (p : ℕ) (x : Read A) (f : A → ℕ → Read B) → Past p x → ((a : A) (q : ℕ) → Past q (f a q)) → Past p (then x f)
  past-then p (read a q) f h k = past-from p q (f a q) h (k a q)
  past-then p (ends c) f h k = tt

  past_up : {A : Type 0} (p q : ℕ) (z : Answer A) → Passed p q → Past p (up_to z q)
  past_up p q (good a) h = h
  past_up p q (stop c) h = tt

  -- [axis] or [number] behind the word at p
  indexed-past : (w p : ℕ) → NoEnd (token s p) → is_indexed s w p ≡ true → Passed p (p + 4)
  unfolding is_indexed is_index
  indexed-past w p n h =
      let a = (both (eqb (token s (p + 1)) LEFT) _ h).0 in
      let h1 = (both (eqb (token s (p + 1)) LEFT) _ h).1 in
      let b = (both (eqb (token s (p + 3)) RIGHT) _ h1).0 in
      let c = (both (eqb (token s (p + 3)) RIGHT) _ h1).1 in
      passed-next p (p + 3) (p + 4)
      (passed-next p (p + 2) (p + 3)
      (passed-next p (p + 1) (p + 2) (passed-one p n) (omega arith) (equal-some (token s (p + 1)) LEFT (omega arith) a))
      (omega arith) (by_kind (has_axis w) (token s (p + 2)) c))
      (omega arith) (equal-some (token s (p + 3)) RIGHT (omega arith) b)
    where
      by_kind : (b : Bool) (t : ℕ) → cond b (is_axis t) (is_whole t) ≡ true → NoEnd t
      by_kind true t h = between-some X W t (omega arith) h
      by_kind false t h = number-some t (both (is_number t) _ h).0

  module _ {A : Type 0} (𝓜 : Meaning A) where
    -- a reader that passes no end, wherever it begins
    abbrev Passes : (ℕ → Read A) → Type 0
    Passes f = (p : ℕ) → Past p (f p)

    joined-past : (f : ℕ → Read A) → Passes f → (o : ℕ) (a : A) (p : ℕ) → NoEnd (token s p) → Past p (joined s 𝓜 f o a p)
    unfolding joined
    joined-past f h o a p n = past-then p (f (p + 1)) _ (past-from p (p + 1) (f (p + 1)) (passed-one p n) (h (p + 1))) (λ b q. past_up q q (𝓜.join o a b) (passed_none q))

    more-past : (is_op : ℕ → Bool) → ((t : ℕ) → is_op t ≡ true → NoEnd t) → (f : ℕ → Read A) → Passes f → (k : ℕ) (a : A) (p : ℕ) → Past p (more s 𝓜 is_op f k a p)
    unfolding more
    more-past is_op ops f h zero a p = passed_none p
    more-past is_op ops f h (suc k) a p =
        either (Past p) (is_op (token s p))
        (λ e. past-then p (joined s 𝓜 f (token s p) a p) _ (joined-past f h (token s p) a p (ops (token s p) e)) (λ b q. more-past is_op ops f h k b q))
        (λ e. passed_none p)

    product-past : (f : ℕ → Read A) → Passes f → (k : ℕ) → Passes (read_product s 𝓜 f k)
    unfolding read_product
    product-past f h k p = past-then p (f p) _ (h p) (more-past is_factor (λ t. between-some 10 11 t (omega arith)) f h k)

    sum_past : (f : ℕ → Read A) → Passes f → (k : ℕ) → Passes (read_sum s 𝓜 f k)
    unfolding read_sum
    sum_past f h k p =
        past-then p (read_product s 𝓜 f k p) _ (product-past f h k p) (more-past is_term (λ t. between-some 8 9 t (omega arith)) (read_product s 𝓜 f k) (product-past f h k) k)

    rest-past : (f : ℕ → Read A) → Passes f → (k : ℕ) (a : A) (p : ℕ) → Past p (read_rest s 𝓜 f k a p)
    unfolding read_rest
    rest-past f h k a p =
        either (Past p) (is_compare (token s p))
        (λ e. joined-past (read_sum s 𝓜 f k) (sum_past f h k) (token s p) a p (between-some 2 7 (token s p) (omega arith) e))
        (λ e. more-past (is_row (token s p)) (λ t r. between-some 26 28 t (omega arith) (both (is_logic t) _ r).0) (read_sum s 𝓜 f k) (sum_past f h k) k a p)

    expression-past : (f : ℕ → Read A) → Passes f → (k : ℕ) → Passes (read_expression s 𝓜 f k)
    unfolding read_expression
    expression-past f h k p = past-then p (read_sum s 𝓜 f k p) _ (sum_past f h k p) (rest-past f h k)

    close-past : (a : A) (p : ℕ) → Past p (read_close s 𝓜 a p)
    unfolding read_close
    close-past a p = either (Past p) (eqb (token s p) CLOSE) (λ e. passed-one p (equal-some (token s p) CLOSE (omega arith) e)) (λ e. tt)

    variable-past : (p : ℕ) → NoEnd (token s p) → Past p (read_variable s 𝓜 (token s p) p)
    unfolding read_variable
    variable-past p n =
        either (Past p) (is_indexed s (token s p) p) (λ e. past_up p (p + 4) (𝓜.variable (token s p) (index_at s (token s p) p)) (indexed-past (token s p) p n e)) (λ e. tt)

    truth-past : (p : ℕ) → Past p (read_truth s 𝓜 (token s p) p)
    unfolding read_truth
    truth-past p =
        either (Past p) (eqb (token s p) TRUE) (λ e. passed-one p (equal-some (token s p) TRUE (omega arith) e)) λ e.
        either (Past p) (eqb (token s p) FALSE) (λ e. passed-one p (equal-some (token s p) FALSE (omega arith) e)) (λ e. tt)

    -- behind a token that does not end the line
    second_past : (x : ℕ → Read A) → Passes x → (p : ℕ) → NoEnd (token s p) → Past p (x (p + 1))
    second_past x h p n = past-from p (p + 1) (x (p + 1)) (passed-one p n) (h (p + 1))

    operand-from-past : (f : ℕ → Read A) → Passes f → (k p : ℕ) → Past p (operand_from s 𝓜 f k p (token s p))
    unfolding operand_from
    operand-from-past f h k p =
        either (Past p) (is_number (token s p)) (λ e. past_up p (p + 1) (𝓜.number (number_carried (token s p))) (passed-one p (number-some (token s p) e))) λ e.
        either (Past p) (is_variable (token s p)) (λ e. variable-past p (between-some IN IM (token s p) (omega arith) e)) λ e.
        either (Past p) (eqb (token s p) OPEN)
        (λ e. past-then p (read_expression s 𝓜 f k (p + 1)) _ (second_past (read_expression s 𝓜 f k) (expression-past f h k) p (equal-some (token s p) OPEN (omega arith) e)) close-past) λ e.
        either (Past p) (eqb (token s p) MINUS)
        (λ e. past-then p (f (p + 1)) _ (second_past f h p (equal-some (token s p) MINUS (omega arith) e)) (λ a q. past_up q q (𝓜.minus a) (passed_none q))) λ e.
        either (Past p) (eqb (token s p) NOT)
        (λ e. past-then p (f (p + 1)) _ (second_past f h p (equal-some (token s p) NOT (omega arith) e)) (λ a q. passed_none q)) λ e.
        truth-past p

    operand-past : (k : ℕ) → Passes (read_operand s 𝓜 k)
    unfolding read_operand
    operand-past zero p = tt
    operand-past (suc k) p = operand-from-past (read_operand s 𝓜 k) (operand-past k) k p

    -- a right side
    pub sum_at-past : (k p : ℕ) → Past p (sum_at s 𝓜 k p)
    unfolding sum_at
    sum_at-past k p = sum_past (read_operand s 𝓜 k) (operand-past k) k p

    -- and an expression
    pub expression_at-past : (k p : ℕ) → Past p (expression_at s 𝓜 k p)
    unfolding expression_at
    expression_at-past k p = expression-past (read_operand s 𝓜 k) (operand-past k) k p

  -- ---- an action

  -- so is it with the fault alone
  pub fault_past : (p : ℕ) (t : Bool) (y : Read Sight) → Past p y → Past p (fault_for t y)
  fault_past p t (read a q) h = h
  fault_past p t (ends k) h = tt

  assigned-past : (k p : ℕ) → Past p (assigned_at s k p)
  unfolding assigned_at is_removal
  assigned-past k p =
      if_not (Past p) (is_removal s p) (λ e. fault_past p false (sum_at s sight k p) (sum_at-past sight k p)) λ e.
      let n = between-some FIFO1 FIFO4 (token s p) (omega arith) (both (is_fifo (token s p)) _ e).0 in
      indexed-past (token s p) p n (both (is_indexed s (token s p) p) _ (both (is_fifo (token s p)) _ e).1).0

  assignment-past : (k p : ℕ) → is_indexed s (token s p) p ≡ true → eqb (token s (p + 4)) EQUALS ≡ true → Past p (assignment_at s k (token s p) p)
  unfolding assignment_at
  assignment-past k p i q =
      either (Past p) (is_variable (token s p))
      (λ v. past-then p (assigned_at s k (p + 5)) _ (behind (assigned_at s k (p + 5)) (between-some IN IM (token s p) (omega arith) v) (assigned-past k (p + 5))) (λ f r. passed_none r)) λ v.
      if_not (Past p) (is_drive (token s p)) (λ d. tt) λ d.
      behind (fault_for false (sum_at s sight k (p + 5))) (between-some POS MOV (token s p) (omega arith) d)
      (fault_past (p + 5) false (sum_at s sight k (p + 5)) (sum_at-past sight k (p + 5)))
    where
      front : NoEnd (token s p) → Passed p (p + 5)
      front n = passed-next p (p + 4) (p + 5) (indexed-past (token s p) p n i) (omega arith) (equal-some (token s (p + 4)) EQUALS (omega arith) q)

      behind : (y : Read ℕ) → NoEnd (token s p) → Past (p + 5) y → Past p y
      behind y n h = past-from p (p + 5) y (front n) h

  -- two tokens and a whole number
  three-past : (p : ℕ) → NoEnd (token s p) → NoEnd (token s (p + 1)) → is_whole (token s (p + 2)) ≡ true → Passed p (p + 3)
  three-past p a b w = passed-next p (p + 2) (p + 3) (passed-next p (p + 1) (p + 2) (passed-one p a) (omega arith) b) (omega arith) (number-some (token s (p + 2)) (both (is_number (token s (p + 2))) _ w).0)

  command-past : (kw p : ℕ) → Past p (command_at s kw (token s p) p)
  unfolding command_at
  command-past kw p =
      if_not (Past p) (is_whole (token s (p + 2))) (λ w. tt) λ w.
      either (Past p) (eqb (token s p) M)
      (λ m. if_not (Past p) (eqb (token s (p + 1)) EQUALS) (λ q. tt) (λ q. three-past p (equal-some (token s p) M (omega arith) m) (equal-some (token s (p + 1)) EQUALS (omega arith) q) w)) λ m.
      if_not (Past p) (is_call (token s p) && (eqb (token s (p + 1)) OPEN && eqb (token s (p + 3)) CLOSE)) (λ c. tt) λ c.
      let d = (both (is_call (token s p)) _ c).1 in
      let n = between-some SETAL UNLOCK (token s p) (omega arith) (both (is_call (token s p)) _ c).0 in
      let o = equal-some (token s (p + 1)) OPEN (omega arith) (both (eqb (token s (p + 1)) OPEN) _ d).0 in
      passed-next p (p + 3) (p + 4) (three-past p n o w) (omega arith) (equal-some (token s (p + 3)) CLOSE (omega arith) (both (eqb (token s (p + 1)) OPEN) _ d).1)

  -- , and a variable with its index
  given-past : (p : ℕ) → is_given s p ≡ true → Passed p (p + 5)
  unfolding is_given
  given-past p h =
      let (c, g) = both (eqb (token s p) COMMA) _ h in
      let (v, i) = both (is_variable (token s (p + 1))) _ g in
      let q : p + 1 + 4 ≡ p + 5 = omega arith in
      passed_on p (p + 1) (p + 5) (passed-one p (equal-some (token s p) COMMA (omega arith) c))
      (rw q at (indexed-past (token s (p + 1)) (p + 1) (between-some IN IM (token s (p + 1)) (omega arith) v) i))

  synfct-past : (p : ℕ) → NoEnd (token s p) → Past p (synfct_at s p)
  unfolding synfct_at is_synfct
  synfct-past p n =
      if_not (Past p) (is_synfct s p) (λ e. tt) λ e.
      let (o, f) = both (eqb (token s (p + 1)) OPEN) _ e in
      let (w, g) = both (is_whole (token s (p + 2))) _ f in
      let (a, h) = both (is_given s (p + 3)) _ g in
      let (b, c) = both (is_given s (p + 8)) _ h in
      let q : p + 3 + 5 ≡ p + 8 = omega arith in
      let r : p + 8 + 5 ≡ p + 13 = omega arith in
      passed-next p (p + 13) (p + 14)
      (passed_on p (p + 8) (p + 13)
      (passed_on p (p + 3) (p + 8) (three-past p n (equal-some (token s (p + 1)) OPEN (omega arith) o) w) (rw q at (given-past (p + 3) a)))
      (rw r at (given-past (p + 8) b)))
      (omega arith) (equal-some (token s (p + 13)) CLOSE (omega arith) c)

  unindexed-past : (kw p : ℕ) → Past p (unindexed_at s kw (token s p) p)
  unfolding unindexed_at
  unindexed-past kw p = either (Past p) (eqb (token s p) SYNFCT) (λ e. synfct-past p (equal-some (token s p) SYNFCT (omega arith) e)) (λ e. command-past kw p)

  -- an action that the check reads
  pub action-past : (kw k p : ℕ) → Past p (action_at s kw k p)
  unfolding action_at
  action-past kw k p =
      if_not (Past p) (is_indexed s (token s p) p) (λ i. unindexed-past kw p) λ i.
      if_not (Past p) (eqb (token s (p + 4)) EQUALS) (λ q. tt) (λ q. assignment-past k p i q)

  -- ---- the names in a line

  -- a word at q names what is known, where the names from p on were found known and no line ends before q
  names-from : (known : ℕ → ℕ → Bool) (left p q : ℕ) → names_known s known left p ≡ true → Passed p q → q < p + left → is_naming (token s q) ≡ true → known (token s q) (whole (token s (q + 2))) ≡ true
  unfolding names_known
  names-from known zero p q h k l e = absurd (omega (arith, k.on))
  names-from known (suc left) p q h k l e = by_place (ℕ_discrete q p) (λ g m. names-from known left (p + 1) q g m (omega arith) e)
    where
      here : (b c d : Bool) → b ≡ false → c ≡ true → elim b [ true ↦ true | false ↦ elim c [ true ↦ elim d [ true ↦ names_known s known left (p + 1) | false ↦ false ] | false ↦ names_known s known left (p + 1) ] ] ≡ true → d ≡ true
      here b c true x y z = refl
      here true c false x y z = clash (cc)
      here false true false x y z = clash (cc)
      here false false false x y z = clash (cc)

      later : (b c d : Bool) → b ≡ false → elim b [ true ↦ true | false ↦ elim c [ true ↦ elim d [ true ↦ names_known s known left (p + 1) | false ↦ false ] | false ↦ names_known s known left (p + 1) ] ] ≡ true → names_known s known left (p + 1) ≡ true
      later true c d x z = clash (cc)
      later false true true x z = z
      later false true false x z = clash (cc)
      later false false d x z = z

      by_place : Dec (q ≡ p) → (names_known s known left (p + 1) ≡ true → Passed (p + 1) q → known (token s q) (whole (token s (q + 2))) ≡ true) → known (token s q) (whole (token s (q + 2))) ≡ true
      by_place (yes z) rest =
          let g = rw z at e in
          rw z (here (eqb (token s p) END) (is_naming (token s p)) (known (token s p) (whole (token s (p + 2)))) (ne_eqb (token s p) END (naming-some (token s p) g)) g h)
      by_place (no z) rest =
          rest (later (eqb (token s p) END) (is_naming (token s p)) (known (token s p) (whole (token s (p + 2)))) (ne_eqb (token s p) END (k.some p (omega arith) (omega (arith, k.on, z)))) h)
          (record { on = omega (arith, k.on, z); some = λ i l m. k.some i (omega arith) m })

  -- so in a set of the size that the program has
  pub names-known : (known : ℕ → ℕ → Bool) (p q : ℕ) → length s ≤ set_size → names_known s known set_size p ≡ true → Passed p q → is_naming (token s q) ≡ true → known (token s q) (whole (token s (q + 2))) ≡ true
  names-known known p q l h k e = names-from known set_size p q h k (by_place (dec_lt q (length s))) e
    where
      by_place : Dec (q < length s) → q < p + set_size
      by_place (yes m) = omega arith
      by_place (no m) = absurd (naming-some (token s q) e (get_or-eq_default s 0 {n = q} (omega (arith, m))))
