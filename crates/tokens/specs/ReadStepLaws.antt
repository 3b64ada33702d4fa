-- A step on a reading, for any meaning: what ends the reading passes through it, what is read goes into it.
use Rattle.std.specs.Prelude.{◌≡◌, ℕ}
use Rattle.std.proofs.Common.{sym, ap, ◌∙◌}
use Rattle.tokens.specs.Descent.{Read, read, ends, then}

module _ {A : Type 0} (f : A → ℕ → Read A) where
  pub passes : {x : Read A} {n : ℕ} → x ≡ ends n → x ≡ then x f
  passes h = h ∙ ap (λ (r : Read A). then r f) (sym h)

  pub enters : {x y : Read A} {v : A} {p : ℕ} → x ≡ read v p → y ≡ f v p → y ≡ then x f
  enters h e = e ∙ ap (λ (r : Read A). then r f) (sym h)

  -- x is a step on r, which is y
  pub stepped : {x z r : Read A} (y : Read A) → r ≡ y → x ≡ then r f → then y f ≡ z → x ≡ z
  stepped y e g h = g ∙ ap (λ (r : Read A). then r f) e ∙ h
