-- Laws of a cell as a count, read back from its bits.
use mathlib.Core.Path.{◌≡◌, refl, sym}
use mathlib.Core.Bool.{true, false}
use native.Mathlib.Omega.{arith}
use lib.Dec.{T}
use lib.IntN.{ℤ, pos, negsuc, nat_abs}
use lib.Signed.{lt_z, non_neg}
use mir.Syntax.{w8, w32}
use mir.Val.{Fits, SFits, to_z, of_z}
use borrow.Author.Tests.{ltb-true, ltb-false, le-leb, lt-leb}
use Rattle.values.specs.SignedLaws.{back}
use Rattle.tokens.specs.BetweenLaws.{never}
use Rattle.working.specs.Variables.{as_count}

below : (z : ℤ) → lt_z z (pos 0) ≡ true → 255 ≡ as_count z
below (pos n) h = absurd (omega (arith, ltb-true n 0 h))
below (negsuc n) h = refl

above : (z : ℤ) → lt_z (pos 16) z ≡ true → 255 ≡ as_count z
above (pos n) h = rw (lt-leb n 16 (ltb-true 16 n h))
above (negsuc n) h = refl

held : (z : ℤ) → lt_z z (pos 0) ≡ false → lt_z (pos 16) z ≡ false → nat_abs z ≡ as_count z
held (pos n) h k = rw (le-leb n 16 (ltb-false 16 n k))
held (negsuc n) h k = never (sym h)

byte : (z : ℤ) → lt_z z (pos 0) ≡ false → lt_z (pos 16) z ≡ false → T (non_neg z) × Fits w8 (nat_abs z)
byte (pos n) h k = (tt, omega (arith, ltb-false 16 n k))
byte (negsuc n) h k = never (sym h)

module _ {z : ℤ} (h : SFits w32 z) where
  pub count-below : lt_z (to_z w32 (of_z w32 z)) (pos 0) ≡ true → 255 ≡ as_count z
  count-below e = below z (rw (back w32 h) at e)

  pub count-above : lt_z (pos 16) (to_z w32 (of_z w32 z)) ≡ true → 255 ≡ as_count z
  count-above e = above z (rw (back w32 h) at e)

  pub count_fits : lt_z (to_z w32 (of_z w32 z)) (pos 0) ≡ false → lt_z (pos 16) (to_z w32 (of_z w32 z)) ≡ false → T (non_neg (to_z w32 (of_z w32 z))) × Fits w8 (nat_abs (to_z w32 (of_z w32 z)))
  count_fits e f = byte (to_z w32 (of_z w32 z)) e f

  pub count_held : lt_z (to_z w32 (of_z w32 z)) (pos 0) ≡ false → lt_z (pos 16) (to_z w32 (of_z w32 z)) ≡ false → nat_abs (to_z w32 (of_z w32 z)) ≡ as_count z
  count_held e f = rw (back w32 h) (held z (rw (back w32 h) at e) (rw (back w32 h) at f))
