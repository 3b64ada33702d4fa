-- Laws of the cut: the size cut, with the sign put back, is the cut toward zero of Value.
use Rattle.std.specs.Prelude.{◌≡◌, refl, cond, ℕ, zero, suc, ◌*◌, eqb, ℤ, pos, negsuc, nat_abs, neg_ℤ, ◌*ℤ◌, Err}
use Rattle.std.proofs.Common.{sym, ap}
use Rattle.std.proofs.Math.Nat.{zero-div}
use Rattle.std.specs.Int.Signed.{quot_z}
use Rattle.values.specs.declared.codes.Alarm.TheVariants.{ZeroDivisor}
use Rattle.values.specs.Size.{is_negative, signed_number}
use Rattle.values.specs.Value.{unit, valued, product_of, quotient_of}
use Rattle.values.specs.SizeLaws.{negative-quotient}
use Rattle.values.specs.Cut.{cut_size, differ, product_by_size, quotient_by_size}

-- a size with a minus, by a number below zero
both-cut : (n d : ℕ) → quot_z (neg_ℤ (pos n)) (negsuc d) ≡ pos (cut_size n (suc d))
both-cut zero d = rw (zero-div (suc d))
both-cut (suc n) d = refl

-- both operations, by the four pairs of signs

product-cut : (a b : ℤ) → signed_number (differ (is_negative a) (is_negative b)) (cut_size (nat_abs a * nat_abs b) unit) ≡ quot_z (a *ℤ b) (pos unit)
product-cut (pos m) (pos n) = refl
product-cut (pos m) (negsuc n) = sym (negative-quotient (m * suc n) unit)
product-cut (negsuc m) (pos n) = sym (negative-quotient (suc m * n) unit)
product-cut (negsuc m) (negsuc n) = refl

quotient-cut : (a b : ℤ) → signed_number (differ (is_negative a) (is_negative b)) (cut_size (nat_abs a * unit) (nat_abs b)) ≡ quot_z (a *ℤ pos unit) b
quotient-cut (pos m) (pos n) = refl
quotient-cut (pos m) (negsuc n) = refl
quotient-cut (negsuc m) (pos n) = sym (negative-quotient (suc m * unit) n)
quotient-cut (negsuc m) (negsuc n) = sym (both-cut (suc m * unit) n)

-- no answer is another one
pub product-by-size : (a b : ℤ) → product_by_size a b ≡ product_of a b
unfolding product_by_size product_of
product-by-size a b = ap valued (product-cut a b)

pub quotient-by-size : (a b : ℤ) → quotient_by_size a b ≡ quotient_of a b
unfolding quotient_by_size quotient_of
quotient-by-size a b = ap (λ (z : ℤ). cond (eqb (nat_abs b) 0) (Err ZeroDivisor) (valued z)) (quotient-cut a b)
