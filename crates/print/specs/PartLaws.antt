-- What is written of a fraction, by which of its digits are 0 behind all others. Assumes nothing.
use Rattle.std.specs.Prelude.{◌≡◌, ℕ, ◌/◌, ◌%◌}
use Rattle.std.proofs.Math.Path.{ap}
use Rattle.std.proofs.Common.{◌∙◌, eq-eqb, ne_eqb}
use mathlib.Core.List.{List, [], ◌∷◌}
use Rattle.values.specs.Choice.{chosen, refused}
use Rattle.text.specs.Byte.{POINT}
use Rattle.print.specs.TokenText.{digit, part_digits, part_text}

module _ (f : ℕ) where
  pub no_part : f ≡ 0 → part_text f ≡ []
  unfolding part_text
  no_part e = chosen _ _ _ (eq-eqb f 0 e)

  module _ (some : f ≡ 0 → ⊥) where
    part : {ds : List ℕ} → part_digits f ≡ ds → part_text f ≡ POINT ∷ ds
    unfolding part_text
    part e = refused _ _ _ (ne_eqb f 0 some) ∙ ap (λ (l : List ℕ). POINT ∷ l) e

    pub one-digit-part : f % 100 ≡ 0 → part_text f ≡ POINT ∷ digit (f / 100) ∷ []
    unfolding part_digits
    one-digit-part e = part (chosen _ _ _ (eq-eqb (f % 100) 0 e))

    module _ (more : f % 100 ≡ 0 → ⊥) where
      pub two-digit-part : f % 10 ≡ 0 → part_text f ≡ POINT ∷ digit (f / 100) ∷ digit (f / 10 % 10) ∷ []
      unfolding part_digits
      two-digit-part e = part (refused _ _ _ (ne_eqb (f % 100) 0 more) ∙ chosen _ _ _ (eq-eqb (f % 10) 0 e))

      pub three-digit-part : (f % 10 ≡ 0 → ⊥) → part_text f ≡ POINT ∷ digit (f / 100) ∷ digit (f / 10 % 10) ∷ digit (f % 10) ∷ []
      unfolding part_digits
      three-digit-part n = part (refused _ _ _ (ne_eqb (f % 100) 0 more) ∙ refused _ _ _ (ne_eqb (f % 10) 0 n))
