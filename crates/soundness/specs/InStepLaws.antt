-- Laws of reading: two meanings that agree on each number, variable and operator agree on what is read and where it ends, and on what may stop it.
-- So where the check finds no fault, a worked value is in range, and working stops only by an alarm. Nothing is assumed.
use Rattle.std.specs.Prelude.{◌≡◌, refl, Bool, List, eqb}
use Rattle.std.proofs.Math.Bool.{true, false}
use Prim.Native.Nat.{ℕ, zero, suc, ◌+◌}
use Rattle.values.specs.Choice.{either, either_both}
use Rattle.tokens.specs.Token.{TRUE, FALSE, OPEN, CLOSE, MINUS, NOT, is_number, is_variable, is_factor, is_term, is_compare, number_carried}
use Rattle.tokens.specs.Descent.{token, Answer, good, stop, Read, read, ends, then, up_to, Meaning, is_row, is_indexed, index_at, joined, more, read_product, read_sum, read_rest, read_expression, read_close, read_variable, read_truth, operand_from, read_operand, sum_at, expression_at}

-- ---- two meanings in step

-- where the first reads something, the second reads something that agrees with it, and ends at the same place;
-- where the first stops and the second reads something, that tells why it may stop
module _ {A B : Type 0} (Ok : A → B → Type 0) (Stops : ℕ → B → Type 0) where
  -- of what is read
  abbrev pub InStep : Read A → Read B → Type 0
  InStep (read a p) (read b q) = Ok a b × (p ≡ q)
  InStep (read a p) (ends k) = ⊥
  InStep (ends c) (read b q) = Stops c b
  InStep (ends c) (ends k) = Unit {0}

  -- of what an operator gives
  abbrev pub Agree : Answer A → Answer B → Type 0
  Agree (good a) (good b) = Ok a b
  Agree (good a) (stop k) = ⊥
  Agree (stop c) (good b) = Stops c b
  Agree (stop c) (stop k) = Unit {0}

  -- what is read later tells it too
  abbrev pub Carries : B → Read B → Type 0
  Carries b (read d q) = (c : ℕ) → Stops c b → Stops c d
  Carries b (ends k) = Unit {0}

  -- and what an operator makes of it
  abbrev pub CarriesTo : B → Answer B → Type 0
  CarriesTo b (good d) = (c : ℕ) → Stops c b → Stops c d
  CarriesTo b (stop k) = Unit {0}

  -- two meanings that agree at each step
  pub record Steps (𝓜 : Meaning A) (𝓝 : Meaning B) : Type 0 where
    pub number : (n : ℕ) → Agree (𝓜.number n) (𝓝.number n)
    pub variable : (w i : ℕ) → Agree (𝓜.variable w i) (𝓝.variable w i)
    pub truth : (b : Bool) → Ok (𝓜.truth b) (𝓝.truth b)
    pub minus : (a : A) (b : B) → Ok a b → Agree (𝓜.minus a) (𝓝.minus b)
    pub not : (a : A) (b : B) → Ok a b → Ok (𝓜.not a) (𝓝.not b)
    pub join : (o : ℕ) (a c : A) (b d : B) → Ok a b → Ok c d → Agree (𝓜.join o a c) (𝓝.join o b d)
    pub minus_carries : (b : B) → CarriesTo b (𝓝.minus b)
    pub not_carries : (b : B) (c : ℕ) → Stops c b → Stops c (𝓝.not b)
    pub left_carries : (o : ℕ) (b d : B) → CarriesTo b (𝓝.join o b d)
    pub right_carries : (o : ℕ) (b d : B) → CarriesTo d (𝓝.join o b d)

  carried : (c : ℕ) (b : B) (y : Read B) → Carries b y → Stops c b → InStep (ends c) y
  carried c b (read d q) k h = k c h
  carried c b (ends e) k h = tt

  carries-up : (b : B) (z : Answer B) (p : ℕ) → CarriesTo b z → Carries b (up_to z p)
  carries-up b (good d) p h = h
  carries-up b (stop k) p h = tt

  carries-on : (b d : B) (z : Read B) → ((c : ℕ) → Stops c b → Stops c d) → Carries d z → Carries b z
  carries-on b d (read e q) h k = λ c x. k c (h c x)
  carries-on b d (ends e) h k = tt

  carries-then : (b : B) (y : Read B) (g : B → ℕ → Read B) → Carries b y → ((d : B) (q : ℕ) → Carries d (g d q)) → Carries b (then y g)
  carries-then b (read d q) g h k = carries-on b d (g d q) h (k d q)
  carries-then b (ends e) g h k = tt

  step_then : (x : Read A) (y : Read B) (f : A → ℕ → Read A) (g : B → ℕ → Read B) → InStep x y →
      ((b : B) (q : ℕ) → Carries b (g b q)) → ((a : A) (b : B) (p : ℕ) → Ok a b → InStep (f a p) (g b p)) → InStep (then x f) (then y g)
  step_then (read a p) (read b q) f g h stops goes = rw h.1 (goes a b q h.0)
  step_then (read a p) (ends k) f g h stops goes = absurd h
  step_then (ends c) (read b q) f g h stops goes = carried c b (g b q) (stops b q) h
  step_then (ends c) (ends k) f g h stops goes = tt

  step-up : (x : Answer A) (y : Answer B) (p : ℕ) → Agree x y → InStep (up_to x p) (up_to y p)
  step-up (good a) (good b) p h = (h, refl)
  step-up (good a) (stop k) p h = absurd h
  step-up (stop c) (good b) p h = h
  step-up (stop c) (stop k) p h = tt

  module _ (s : List ℕ) (𝓜 : Meaning A) (𝓝 : Meaning B) (st : Steps 𝓜 𝓝) where
    -- two readers in step at every place
    abbrev Both : (ℕ → Read A) → (ℕ → Read B) → Type 0
    Both f g = (p : ℕ) → InStep (f p) (g p)

    joined-carries : (g : ℕ → Read B) (o : ℕ) (b : B) (p : ℕ) → Carries b (joined s 𝓝 g o b p)
    unfolding joined
    joined-carries g o b p = by-second (g (p + 1))
      where
        by-second : (y : Read B) → Carries b (then y (λ d q. up_to (𝓝.join o b d) q))
        by-second (read d q) = carries-up b (𝓝.join o b d) q (st.left_carries o b d)
        by-second (ends k) = tt

    more-carries : (is_op : ℕ → Bool) (g : ℕ → Read B) (k : ℕ) (b : B) (p : ℕ) → Carries b (more s 𝓝 is_op g k b p)
    unfolding more
    more-carries is_op g zero b p = λ c x. x
    more-carries is_op g (suc k) b p =
        either (Carries b) (is_op (token s p))
        (λ e. carries-then b (joined s 𝓝 g (token s p) b p) _ (joined-carries g (token s p) b p) (λ d q. more-carries is_op g k d q))
        (λ e c x. x)

    rest-carries : (g : ℕ → Read B) (k : ℕ) (b : B) (p : ℕ) → Carries b (read_rest s 𝓝 g k b p)
    unfolding read_rest
    rest-carries g k b p =
        either (Carries b) (is_compare (token s p)) (λ e. joined-carries (read_sum s 𝓝 g k) (token s p) b p) (λ e. more-carries (is_row (token s p)) (read_sum s 𝓝 g k) k b p)

    close-carries : (b : B) (p : ℕ) → Carries b (read_close s 𝓝 b p)
    unfolding read_close
    close-carries b p = either (Carries b) (eqb (token s p) CLOSE) (λ e c x. x) (λ e. tt)

    joined_step : (f : ℕ → Read A) (g : ℕ → Read B) → Both f g → (o : ℕ) (a : A) (b : B) (p : ℕ) → Ok a b → InStep (joined s 𝓜 f o a p) (joined s 𝓝 g o b p)
    unfolding joined
    joined_step f g h o a b p k =
        step_then (f (p + 1)) (g (p + 1)) _ _ (h (p + 1)) (λ d q. carries-up d (𝓝.join o b d) q (st.right_carries o b d))
        (λ c d q l. step-up (𝓜.join o a c) (𝓝.join o b d) q (st.join o a c b d k l))

    more-step : (is_op : ℕ → Bool) (f : ℕ → Read A) (g : ℕ → Read B) → Both f g → (k : ℕ) (a : A) (b : B) (p : ℕ) → Ok a b → InStep (more s 𝓜 is_op f k a p) (more s 𝓝 is_op g k b p)
    unfolding more
    more-step is_op f g h zero a b p o = (o, refl)
    more-step is_op f g h (suc k) a b p o =
        let first = joined_step f g h (token s p) a b p o in
        either_both InStep (is_op (token s p))
        (λ e. step_then (joined s 𝓜 f (token s p) a p) (joined s 𝓝 g (token s p) b p) _ _ first (more-carries is_op g k) (more-step is_op f g h k))
        (λ e. (o, refl))

    product-step : (f : ℕ → Read A) (g : ℕ → Read B) → Both f g → (k : ℕ) → Both (read_product s 𝓜 f k) (read_product s 𝓝 g k)
    unfolding read_product
    product-step f g h k p = step_then (f p) (g p) _ _ (h p) (more-carries is_factor g k) (more-step is_factor f g h k)

    sum_step : (f : ℕ → Read A) (g : ℕ → Read B) → Both f g → (k : ℕ) → Both (read_sum s 𝓜 f k) (read_sum s 𝓝 g k)
    unfolding read_sum
    sum_step f g h k p =
        step_then (read_product s 𝓜 f k p) (read_product s 𝓝 g k p) _ _ (product-step f g h k p) (more-carries is_term (read_product s 𝓝 g k) k)
        (more-step is_term (read_product s 𝓜 f k) (read_product s 𝓝 g k) (product-step f g h k) k)

    rest-step : (f : ℕ → Read A) (g : ℕ → Read B) → Both f g → (k : ℕ) (a : A) (b : B) (p : ℕ) → Ok a b → InStep (read_rest s 𝓜 f k a p) (read_rest s 𝓝 g k b p)
    unfolding read_rest
    rest-step f g h k a b p o =
        either_both InStep (is_compare (token s p))
        (λ e. joined_step (read_sum s 𝓜 f k) (read_sum s 𝓝 g k) (sum_step f g h k) (token s p) a b p o)
        (λ e. more-step (is_row (token s p)) (read_sum s 𝓜 f k) (read_sum s 𝓝 g k) (sum_step f g h k) k a b p o)

    expression-step : (f : ℕ → Read A) (g : ℕ → Read B) → Both f g → (k : ℕ) → Both (read_expression s 𝓜 f k) (read_expression s 𝓝 g k)
    unfolding read_expression
    expression-step f g h k p = step_then (read_sum s 𝓜 f k p) (read_sum s 𝓝 g k p) _ _ (sum_step f g h k p) (rest-carries g k) (rest-step f g h k)

    close-step : (a : A) (b : B) (p : ℕ) → Ok a b → InStep (read_close s 𝓜 a p) (read_close s 𝓝 b p)
    unfolding read_close
    close-step a b p o = either_both InStep (eqb (token s p) CLOSE) (λ e. (o, refl)) (λ e. tt)

    variable-step : (w p : ℕ) → InStep (read_variable s 𝓜 w p) (read_variable s 𝓝 w p)
    unfolding read_variable
    variable-step w p =
        either_both InStep (is_indexed s w p) (λ e. step-up (𝓜.variable w (index_at s w p)) (𝓝.variable w (index_at s w p)) (p + 4) (st.variable w (index_at s w p))) (λ e. tt)

    truth-step : (t p : ℕ) → InStep (read_truth s 𝓜 t p) (read_truth s 𝓝 t p)
    unfolding read_truth
    truth-step t p =
        either_both InStep (eqb t TRUE) (λ e. (st.truth true, refl)) λ e.
        either_both InStep (eqb t FALSE) (λ e. (st.truth false, refl)) (λ e. tt)

    minus-carries : (b : B) (p : ℕ) → Carries b (up_to (𝓝.minus b) p)
    minus-carries b p = carries-up b (𝓝.minus b) p (st.minus_carries b)

    minus-step : (a : A) (b : B) (p : ℕ) → Ok a b → InStep (up_to (𝓜.minus a) p) (up_to (𝓝.minus b) p)
    minus-step a b p o = step-up (𝓜.minus a) (𝓝.minus b) p (st.minus a b o)

    operand-from-step : (f : ℕ → Read A) (g : ℕ → Read B) → Both f g → (k p t : ℕ) → InStep (operand_from s 𝓜 f k p t) (operand_from s 𝓝 g k p t)
    unfolding operand_from
    operand-from-step f g h k p t =
        either_both InStep (is_number t) (λ e. step-up (𝓜.number (number_carried t)) (𝓝.number (number_carried t)) (p + 1) (st.number (number_carried t))) λ e.
        either_both InStep (is_variable t) (λ e. variable-step t p) λ e.
        either_both InStep (eqb t OPEN)
        (λ e. step_then (read_expression s 𝓜 f k (p + 1)) (read_expression s 𝓝 g k (p + 1)) _ _ (expression-step f g h k (p + 1)) close-carries close-step) λ e.
        either_both InStep (eqb t MINUS) (λ e. step_then (f (p + 1)) (g (p + 1)) _ _ (h (p + 1)) minus-carries minus-step) λ e.
        either_both InStep (eqb t NOT) (λ e. step_then (f (p + 1)) (g (p + 1)) _ _ (h (p + 1)) (λ b q. st.not_carries b) (λ a b q o. (st.not a b o, refl))) λ e.
        truth-step t p

    operand_step : (k : ℕ) → Both (read_operand s 𝓜 k) (read_operand s 𝓝 k)
    unfolding read_operand
    operand_step zero p = tt
    operand_step (suc k) p = operand-from-step (read_operand s 𝓜 k) (read_operand s 𝓝 k) (operand_step k) k p (token s p)

    -- so right sides are read in step
    pub sum-in-step : (k p : ℕ) → InStep (sum_at s 𝓜 k p) (sum_at s 𝓝 k p)
    unfolding sum_at
    sum-in-step k p = sum_step (read_operand s 𝓜 k) (read_operand s 𝓝 k) (operand_step k) k p

    -- and so are expressions
    pub expression-in-step : (k p : ℕ) → InStep (expression_at s 𝓜 k p) (expression_at s 𝓝 k p)
    unfolding expression_at
    expression-in-step k p = expression-step (read_operand s 𝓜 k) (read_operand s 𝓝 k) (operand_step k) k p
