-- What a reading is by its first token, for any meaning: one law for each arm of the grammar.
use Rattle.std.specs.Prelude.{◌≡◌, refl, true, false, List}
use Rattle.std.proofs.Math.Path.{sym}
use Rattle.std.proofs.Common.{◌∙◌}
use Prim.Native.Nat.{ℕ, zero, suc, ◌+◌, ◌-◌, ◌<◌, ◌≤◌}
use native.Mathlib.Omega.{arith}
use borrow.Author.Tests.{le-leb, lt-leb, ne_eqb}
use Rattle.tokens.specs.Token.{MINUS, OPEN, CLOSE, TRUE, FALSE, NOT, NUMBER, is_variable, number_carried}
use Rattle.tokens.specs.Descent.{read, ends, then, up_to, Meaning, is_indexed, index_at, token, read_expression, read_close, read_variable, read_truth, operand_from, read_operand}

module _ (s : List ℕ) {A : Type 0} (𝓜 : Meaning A) where
  pub closes : (a : A) (p t : ℕ) → t ≡ token s p → t ≡ CLOSE → read_close s 𝓜 a p ≡ read a (p + 1)
  unfolding read_close
  closes a p t e h = simp (read_close, sym e, h)

  pub closes-not : (a : A) (p t : ℕ) → t ≡ token s p → (t ≡ CLOSE → ⊥) → read_close s 𝓜 a p ≡ ends 𝓜.wrong
  unfolding read_close
  closes-not a p t e h = simp (read_close, ne_eqb (token s p) CLOSE (λ q. h (e ∙ q)))

  pub indexed : (w p : ℕ) → is_indexed s w p ≡ true → read_variable s 𝓜 w p ≡ up_to (𝓜.variable w (index_at s w p)) (p + 4)
  unfolding read_variable
  indexed w p h = simp (read_variable, h)

  pub indexed-not : (w p : ℕ) → is_indexed s w p ≡ false → read_variable s 𝓜 w p ≡ ends 𝓜.wrong
  unfolding read_variable
  indexed-not w p h = simp (read_variable, h)

  module _ (t p : ℕ) where
    pub yes-truth : t ≡ TRUE → read_truth s 𝓜 t p ≡ read (𝓜.truth true) (p + 1)
    unfolding read_truth
    yes-truth h = rw h

    pub no_truth : t ≡ FALSE → read_truth s 𝓜 t p ≡ read (𝓜.truth false) (p + 1)
    unfolding read_truth
    no_truth h = rw h

    pub not-truth : (t ≡ TRUE → ⊥) → (t ≡ FALSE → ⊥) → read_truth s 𝓜 t p ≡ ends 𝓜.wrong
    unfolding read_truth
    not-truth f g = simp (read_truth, ne_eqb t TRUE f, ne_eqb t FALSE g)

  pub spent : (k p : ℕ) → k ≡ 0 → read_operand s 𝓜 k p ≡ ends 𝓜.wrong
  unfolding read_operand
  spent k p z = rw z

  module _ (k p t : ℕ) (ne : k ≡ 0 → ⊥) (e : t ≡ token s p) where
    first : read_operand s 𝓜 k p ≡ operand_from s 𝓜 (read_operand s 𝓜 (k - 1)) (k - 1) p t
    unfolding read_operand
    first = go k ne
      where
        go : (n : ℕ) → (n ≡ 0 → ⊥) → read_operand s 𝓜 n p ≡ operand_from s 𝓜 (read_operand s 𝓜 (n - 1)) (n - 1) p t
        go zero f = absurd (f refl)
        go (suc n) f = let q : suc n - 1 ≡ n = omega arith in rw (q, e)

    pub number-arm : NUMBER ≤ t → up_to (𝓜.number (number_carried t)) (p + 1) ≡ read_operand s 𝓜 k p
    unfolding operand_from
    number-arm h = sym (first ∙ simp (operand_from, le-leb NUMBER t h))

    pub variable-arm : t < NUMBER → is_variable t ≡ true → read_variable s 𝓜 t p ≡ read_operand s 𝓜 k p
    unfolding operand_from
    variable-arm h v = sym (first ∙ simp (operand_from, lt-leb NUMBER t h, v))

    pub open-arm : t ≡ OPEN → then (read_expression s 𝓜 (read_operand s 𝓜 (k - 1)) (k - 1) (p + 1)) (read_close s 𝓜) ≡ read_operand s 𝓜 k p
    unfolding operand_from
    open-arm h = sym (first ∙ rw h)

    pub minus-arm : t ≡ MINUS → then (read_operand s 𝓜 (k - 1) (p + 1)) (λ a q. up_to (𝓜.minus a) q) ≡ read_operand s 𝓜 k p
    unfolding operand_from
    minus-arm h = sym (first ∙ rw h)

    pub not-arm : t ≡ NOT → then (read_operand s 𝓜 (k - 1) (p + 1)) (λ a q. read (𝓜.not a) q) ≡ read_operand s 𝓜 k p
    unfolding operand_from
    not-arm h = sym (first ∙ rw h)

    pub truth-arm : t < NUMBER → is_variable t ≡ false → (t ≡ OPEN → ⊥) → (t ≡ MINUS → ⊥) → (t ≡ NOT → ⊥) → read_truth s 𝓜 t p ≡ read_operand s 𝓜 k p
    unfolding operand_from
    truth-arm h v o m n = sym (first ∙ simp (operand_from, lt-leb NUMBER t h, v, ne_eqb t OPEN o, ne_eqb t MINUS m, ne_eqb t NOT n))
