-- Laws of sign and size: what follows from the definitions of Size.
use Rattle.std.specs.Prelude.{◌≡◌, refl, Bool, true, false, cond, ℕ, zero, suc, ◌+◌, ◌-◌, ◌/◌, ◌≤◌, ◌<◌, ltb, ℤ, pos, negsuc, nat_abs, neg_ℤ, ◌-ℤ◌}
use Rattle.std.proofs.Math.Nat.{zero-div}
use Rattle.std.proofs.Common.{arith, ltb-true, ltb-false}
use Rattle.std.proofs.Math.Dec.{leb-suc-zero}
use Rattle.std.proofs.Math.IntN.{sub_ℕ}
use Rattle.std.specs.Int.Signed.{lt_z, quot_z}
use Rattle.values.specs.Numbers.{clash, abs_neg}
use Rattle.values.specs.Size.{is_negative, signed_number}

-- the test that the code makes
pub below-zero : (z : ℤ) → lt_z z (pos 0) ≡ is_negative z
below-zero (pos n) = leb-suc-zero n
below-zero (negsuc n) = refl

-- a sign changes no size
pub signed-size : (negative : Bool) (size : ℕ) → nat_abs (signed_number negative size) ≡ size
signed-size true size = abs_neg (pos size)
signed-size false size = refl

-- sign and size make the number
pub sign-and-size : (z : ℤ) → signed_number (is_negative z) (nat_abs z) ≡ z
sign-and-size (pos n) = refl
sign-and-size (negsuc n) = refl

-- the negative of a number below 0 is its size
pub negative-size : (z : ℤ) → is_negative z ≡ true → neg_ℤ z ≡ pos (nat_abs z)
negative-size (pos n) e = clash (cc)
negative-size (negsuc n) e = refl

-- any other number is its size
pub other-size : (z : ℤ) → is_negative z ≡ false → z ≡ pos (nat_abs z)
other-size (pos n) e = refl
other-size (negsuc n) e = clash (cc)

-- a size with a minus, divided: what is left over of the size is dropped
pub negative-quotient : (n d : ℕ) → quot_z (neg_ℤ (pos n)) (pos d) ≡ neg_ℤ (pos (n / d))
negative-quotient zero d = rw (zero-div d)
negative-quotient (suc n) d = refl

-- ---- how far two numbers are apart

apart-test : (t : Bool) (m n : ℕ) → (t ≡ true → m < n) → (t ≡ false → n ≤ m) → nat_abs (cond t (negsuc (n - suc m)) (pos (m - n))) ≡ (m - n) + (n - m)
apart-test true m n h k = let l : m < n = h refl in omega arith
apart-test false m n h k = let l : n ≤ m = k refl in omega arith

apart : (m n : ℕ) → nat_abs (sub_ℕ m n) ≡ (m - n) + (n - m)
apart m n = apart-test (ltb m n) m n (ltb-true m n) (ltb-false m n)

-- with one sign, as far as their sizes
pub one-sign : (negative : Bool) (m n : ℕ) → nat_abs (signed_number negative m -ℤ signed_number negative n) ≡ (m - n) + (n - m)
one-sign true zero zero = refl
one-sign true zero (suc n) = omega arith
one-sign true (suc m) zero = omega (arith, apart zero (suc m))
one-sign true (suc m) (suc n) = omega (arith, apart (suc n) (suc m))
one-sign false m zero = omega arith
one-sign false m (suc n) = apart m (suc n)

-- with any signs, no less than their sizes
pub sizes-apart : (w v : ℤ) → (nat_abs w - nat_abs v) + (nat_abs v - nat_abs w) ≤ nat_abs (w -ℤ v)
sizes-apart (pos m) (pos zero) = omega arith
sizes-apart (pos m) (pos (suc n)) = omega (arith, apart m (suc n))
sizes-apart (pos m) (negsuc n) = omega arith
sizes-apart (negsuc m) (pos zero) = omega (arith, apart zero (suc m))
sizes-apart (negsuc m) (pos (suc n)) = omega arith
sizes-apart (negsuc m) (negsuc n) = omega (arith, apart (suc n) (suc m))
