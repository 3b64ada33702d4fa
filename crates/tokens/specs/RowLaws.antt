-- The loop over a row, for any meaning, operator test and reader between the operators: what is read so far, and as many more as rounds are left, is the whole row.
-- The loop of a walk that hands on its readings as numbers, for the walk of the check and that of the values. How a product, a sum and an expression begin, and what stands behind a sum.
use Rattle.std.specs.Prelude.{◌≡◌, Bool, true, false, not, List, length}
use Rattle.std.proofs.Math.Path.{refl, sym}
use Rattle.std.proofs.Common.{ap, ◌∙◌}
use Prim.Native.Nat.{ℕ, zero, suc, ◌+◌, ◌-◌, ◌%◌, ◌<◌, ◌≤◌}
use native.Mathlib.Omega.{arith}
use Rattle.std.proofs.lemmas.Bool.{not-true, not-false}
use Rattle.tokens.specs.Token.{room, is_factor, is_term, is_compare, is_logic}
use Rattle.tokens.specs.Descent.{Read, read, ends, then, up_to, Meaning, is_row, token, joined, more, read_product, read_sum, read_rest, read_expression}
use Rattle.tokens.specs.ReadStepLaws.{passes, enters, stepped}
use Rattle.tokens.specs.BetweenLaws.{never, tested, no_row, lies-inside}

module _ (s : List ℕ) {A : Type 0} (𝓜 : Meaning A) (is_op : ℕ → Bool) (sub : ℕ → Read A) where
  more-again : (k : ℕ) (a : A) (p : ℕ) → 0 < k → is_op (token s p) ≡ true → then (joined s 𝓜 sub (token s p) a p) (more s 𝓜 is_op sub (k - 1)) ≡ more s 𝓜 is_op sub k a p
  unfolding more
  more-again zero a p l h = absurd (omega arith)
  more-again (suc k) a p l h = let q : suc k - 1 ≡ k = omega arith in simp (more, h, q)

  more-stops : (k : ℕ) (a : A) (p : ℕ) → is_op (token s p) ≡ false → more s 𝓜 is_op sub k a p ≡ read a p
  unfolding more
  more-stops zero a p h = refl
  more-stops (suc k) a p h = simp (more, h)

  more-spent : (k : ℕ) (a : A) (p : ℕ) → k ≤ 0 → more s 𝓜 is_op sub k a p ≡ read a p
  unfolding more
  more-spent zero a p l = refl
  more-spent (suc k) a p l = absurd (omega arith)

-- x, and as many more as k rounds give, is the whole row
pub record Kept (s : List ℕ) {A : Type 0} (𝓜 : Meaning A) (is_op : ℕ → Bool) (sub : ℕ → Read A) (whole : Read A) (k : ℕ) (x : Read A) : Type 0 where
  pub is-whole : then x (more s 𝓜 is_op sub k) ≡ whole

-- v at p, the operator t behind it, and b behind that
joins : (s : List ℕ) {A : Type 0} (𝓜 : Meaning A) (sub : ℕ → Read A) (v : A) (p : ℕ) {t : ℕ} {b x : Read A} → t ≡ token s p → b ≡ sub (p + 1) → x ≡ then b (λ y q. up_to (𝓜.join t v y) q) → x ≡ joined s 𝓜 sub (token s p) v p
unfolding joined
joins s 𝓜 sub v p {t} e i j = stepped (λ y q. up_to (𝓜.join t v y) q) (sub (p + 1)) i j (ap (λ (m : ℕ). joined s 𝓜 sub m v p) e)

-- ---- the rounds of the loop

module _ {s : List ℕ} {A : Type 0} {𝓜 : Meaning A} {is_op : ℕ → Bool} {sub : ℕ → Read A} {whole : Read A} {k : ℕ} {x : Read A} (kept : Kept s 𝓜 is_op sub whole k x) where
  -- the reading ended
  pub row-stops : {n : ℕ} → x ≡ ends n → x ≡ whole
  row-stops h = passes (more s 𝓜 is_op sub k) h ∙ kept.is-whole

  all_read : {v : A} {p : ℕ} → x ≡ read v p → more s 𝓜 is_op sub k v p ≡ read v p → x ≡ whole
  all_read h m = enters (more s 𝓜 is_op sub k) h (h ∙ sym m) ∙ kept.is-whole

  -- no operator stands behind it
  pub row_ends : {v : A} {p t : ℕ} {o : Bool} → x ≡ read v p → t ≡ token s p → o ≡ is_op t → not o ≡ true → x ≡ whole
  row_ends {v} {p} {t} {o} h e f g = all_read h (more-stops s 𝓜 is_op sub k v p (tested is_op e f (not-true o g)))

  -- no round is left
  row-spent : k ≤ 0 → x ≡ whole
  row-spent l = go x refl
    where
      go : (y : Read A) → x ≡ y → x ≡ whole
      go (read v p) h = all_read h (more-spent s 𝓜 is_op sub k v p l)
      go (ends n) h = row-stops h

  -- an operator stands behind it: b is what stands behind that, y the two joined
  row_goes : {v : A} {p t : ℕ} {o : Bool} {b y : Read A} → x ≡ read v p → t ≡ token s p → o ≡ is_op t → not o ≡ false → 0 < k → b ≡ sub (p + 1) → y ≡ then b (λ z q. up_to (𝓜.join t v z) q) → Kept s 𝓜 is_op sub whole (k - 1) y
  row_goes {v} {p} {t} {o} h e f g l i j =
      record {
        is-whole =
            ap (λ (r : Read A). then r (more s 𝓜 is_op sub (k - 1))) (joins s 𝓜 sub v p e i j) ∙
            enters (more s 𝓜 is_op sub k) h (more-again s 𝓜 is_op sub k v p l (tested is_op e f (not-false o g))) ∙
            kept.is-whole;
      }

-- ---- the loop of a walk

-- A walk hands on what it reads as numbers: `said` is what a number says, `value` and `code` what stands in it, its lowest bits are the next place, 0 where the reading ended.
pub record Says {A : Type 0} (said : ℕ → Read A) (value : ℕ → A) (code : ℕ → ℕ) : Type 0 where
  pub stops : (w : ℕ) {i : ℕ} → i ≡ w % room → i ≡ 0 → said w ≡ ends (code w)
  pub reads : (w : ℕ) {i : ℕ} → i ≡ w % room → (i ≡ 0 → ⊥) → said w ≡ read (value w) i

-- the number a, and as many more as k rounds give, is the number w and the row behind it
pub record Loop (s : List ℕ) {A : Type 0} (𝓜 : Meaning A) (is_op : ℕ → Bool) (sub : ℕ → Read A) (said : ℕ → Read A) (left w k a : ℕ) : Type 0 where
  pub kept : Kept s 𝓜 is_op sub (then (said w) (more s 𝓜 is_op sub left)) k (said a)

pub loop-begins : {s : List ℕ} {A : Type 0} {𝓜 : Meaning A} {is_op : ℕ → Bool} {sub said : ℕ → Read A} {left w : ℕ} → Loop s 𝓜 is_op sub said left w left w
loop-begins = record { kept = record { is-whole = refl } }

module _ {s : List ℕ} {A : Type 0} {𝓜 : Meaning A} {is_op : ℕ → Bool} {sub said : ℕ → Read A} {left w k a : ℕ} (loop : Loop s 𝓜 is_op sub said left w k a) where
  pub loop-spent : k ≤ 0 → said a ≡ then (said w) (more s 𝓜 is_op sub left)
  loop-spent l = row-spent loop.kept l

  -- an operator, which no end of a line is, lies inside
  pub loop-inside : {i t : ℕ} {o : Bool} → is_op 0 ≡ false → t ≡ token s i → o ≡ is_op t → not o ≡ false → i < length s
  loop-inside {i} {t} {o} z q f g = lies-inside s i q (λ e. never (sym z ∙ ap is_op (sym e) ∙ sym f ∙ not-false o g))

  module _ {value : ℕ → A} {code : ℕ → ℕ} (says : Says said value code) {i : ℕ} (e : i ≡ a % room) where
    pub loop-stops : i ≡ 0 → said a ≡ then (said w) (more s 𝓜 is_op sub left)
    loop-stops h = row-stops loop.kept (says.stops a e h)

    module _ (ne : i ≡ 0 → ⊥) {t : ℕ} {o : Bool} (q : t ≡ token s i) (f : o ≡ is_op t) where
      pub loop-ends : not o ≡ true → said a ≡ then (said w) (more s 𝓜 is_op sub left)
      loop-ends g = row_ends loop.kept (says.reads a e ne) q f g

      -- b is what stands behind the operator, x the value in a and it joined
      pub loop-goes : {v : A} {b x : ℕ} → not o ≡ false → 0 < k → v ≡ value a → said b ≡ sub (i + 1) → said x ≡ then (said b) (λ z r. up_to (𝓜.join t v z) r) → Loop s 𝓜 is_op sub said left w (k - 1) x
      loop-goes g l h m j = record { kept = row_goes loop.kept (says.reads a e ne ∙ ap (λ (u : A). read u i) (sym h)) q f g l m j }

-- ---- where a level begins

module _ (s : List ℕ) {A : Type 0} (𝓜 : Meaning A) (sub : ℕ → Read A) (k : ℕ) where
  module _ (p : ℕ) {x : Read A} where
    -- x is the first operand
    module _ (e : x ≡ sub p) where
      pub product_is : {y : Read A} → y ≡ then x (more s 𝓜 is_factor sub k) → y ≡ read_product s 𝓜 sub k p
      unfolding read_product
      product_is f = stepped (more s 𝓜 is_factor sub k) (sub p) e f refl

      pub product-begins : Kept s 𝓜 is_factor sub (read_product s 𝓜 sub k p) k x
      product-begins = record { is-whole = product_is refl }

    -- x is the first product
    module _ (e : x ≡ read_product s 𝓜 sub k p) where
      pub sum_is : {y : Read A} → y ≡ then x (more s 𝓜 is_term (read_product s 𝓜 sub k) k) → y ≡ read_sum s 𝓜 sub k p
      unfolding read_sum
      sum_is f = stepped (more s 𝓜 is_term (read_product s 𝓜 sub k) k) (read_product s 𝓜 sub k p) e f refl

      pub sum-begins : Kept s 𝓜 is_term (read_product s 𝓜 sub k) (read_sum s 𝓜 sub k p) k x
      sum-begins = record { is-whole = sum_is refl }

    -- x is the first sum
    module _ (e : x ≡ read_sum s 𝓜 sub k p) where
      pub expression-is : {y : Read A} → y ≡ then x (read_rest s 𝓜 sub k) → y ≡ read_expression s 𝓜 sub k p
      unfolding read_expression
      expression-is f = stepped (read_rest s 𝓜 sub k) (read_sum s 𝓜 sub k p) e f refl

      pub expression-stops : {n : ℕ} → x ≡ ends n → x ≡ read_expression s 𝓜 sub k p
      expression-stops h = expression-is (passes (read_rest s 𝓜 sub k) h)

  -- ---- behind the first sum x

  module _ {x : Read A} {v : A} {i t : ℕ} {o : Bool} (h : x ≡ read v i) (q : t ≡ token s i) (f : o ≡ is_compare t) where
    -- a comparison: b is what stands behind it, y the two joined
    pub rest-compares : {b y : Read A} → o ≡ true → b ≡ read_sum s 𝓜 sub k (i + 1) → y ≡ then b (λ z r. up_to (𝓜.join t v z) r) → y ≡ then x (read_rest s 𝓜 sub k)
    unfolding read_rest
    rest-compares g m j = enters (read_rest s 𝓜 sub k) h (joins s 𝓜 (read_sum s 𝓜 sub k) v i q m j ∙ sym (simp (read_rest, tested is_compare q f g)))

    module _ (g : o ≡ false) where
      -- y is it and the row
      pub rest-rows : {y : Read A} → y ≡ then x (more s 𝓜 (is_row t) (read_sum s 𝓜 sub k) k) → y ≡ then x (read_rest s 𝓜 sub k)
      unfolding read_rest
      rest-rows j =
          enters (read_rest s 𝓜 sub k) h (stepped (more s 𝓜 (is_row t) (read_sum s 𝓜 sub k) k) (read v i) h j
          (ap (λ (n : ℕ). more s 𝓜 (is_row n) (read_sum s 𝓜 sub k) k v i) q ∙ sym (simp (read_rest, tested is_compare q f g))))

      -- no row begins there
      pub rest-none : {l : Bool} → l ≡ is_logic t → not l ≡ true → x ≡ then x (read_rest s 𝓜 sub k)
      rest-none a b =
          let kept : Kept s 𝓜 (is_row t) (read_sum s 𝓜 sub k) (then x (read_rest s 𝓜 sub k)) k x = record { is-whole = rest-rows refl } in
          row_ends kept h q (no_row t a b) refl
