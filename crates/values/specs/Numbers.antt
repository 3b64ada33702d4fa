-- Laws on ℤ that bound a number by its absolute value, since the search for arithmetic facts reads only ℕ; and how an impossible case ends.
use Rattle.std.specs.Prelude.{◌≡◌, refl, Bool, true, false, cond, ℕ, zero, suc, ◌+◌, ◌*◌, ◌-◌, ◌/◌, ◌^◌, ◌≤◌, ◌<◌, ltb, ℤ, pos, negsuc, nat_abs, neg_ℤ, ◌+ℤ◌, ◌-ℤ◌, ◌*ℤ◌}
use Rattle.std.proofs.Common.{sym, ap, ◌∙◌, le_refl, arith, ltb-true}
use Rattle.std.proofs.Math.IntN.{sub_ℕ, +ℤ_idl, -ℤ-+ℤ_cancel}
use Rattle.std.specs.Int.Signed.{quot_z}
use Rattle.std.specs.Int.{Width, w32}
use mir.Val.{SFits, hbits}

-- whatever gives 0 ≡ 1, as two constructors that would be equal do, gives anything
pub clash : {X : Type 0} → ◌≡◌ {A = ℕ} 0 1 → X
clash e = absurd (omega arith)

pub abs_neg : (z : ℤ) → nat_abs (neg_ℤ z) ≡ nat_abs z
abs_neg (pos zero) = refl
abs_neg (pos (suc n)) = refl
abs_neg (negsuc n) = refl

abs-cond : (t : Bool) (a b : ℕ) → (t ≡ true → a < b) → nat_abs (cond t (negsuc (b - suc a)) (pos (a - b))) ≤ a + b
abs-cond true a b h = let l : a < b = h refl in omega arith
abs-cond false a b h = omega arith

abs-sub : (a b : ℕ) → nat_abs (sub_ℕ a b) ≤ a + b
abs-sub a b = abs-cond (ltb a b) a b (ltb-true a b)

pub abs-add : (a b : ℤ) → nat_abs (a +ℤ b) ≤ nat_abs a + nat_abs b
abs-add (pos a) (pos b) = le_refl (a + b)
abs-add (pos a) (negsuc b) = abs-sub a (suc b)
abs-add (negsuc a) (pos b) = let h : nat_abs (sub_ℕ b (suc a)) ≤ b + suc a = abs-sub b (suc a) in omega arith
abs-add (negsuc a) (negsuc b) = omega arith

pub abs-mul : (a b : ℤ) → nat_abs (a *ℤ b) ≡ nat_abs a * nat_abs b
abs-mul (pos a) (pos b) = refl
abs-mul (pos a) (negsuc b) = abs_neg (pos (a * suc b))
abs-mul (negsuc a) (pos b) = abs_neg (pos (suc a * b))
abs-mul (negsuc a) (negsuc b) = refl

pub abs-quot : (a b : ℤ) → nat_abs (quot_z a b) ≡ nat_abs a / nat_abs b
abs-quot (pos a) (pos b) = refl
abs-quot (pos a) (negsuc b) = abs_neg (pos (a / suc b))
abs-quot (negsuc a) (pos b) = abs_neg (pos (suc a / b))
abs-quot (negsuc a) (negsuc b) = refl

-- only 0 has the absolute value 0
pub abs-zero : (z : ℤ) → nat_abs z ≡ 0 → z ≡ pos 0
abs-zero (pos n) e = ap pos e
abs-zero (negsuc n) e = absurd (omega arith)

-- numbers whose difference is 0 are equal
pub no_difference : (a b : ℤ) → nat_abs (a -ℤ b) ≡ 0 → a ≡ b
no_difference a b e = sym (-ℤ-+ℤ_cancel a b) ∙ ap (λ (z : ℤ). z +ℤ b) (abs-zero (a -ℤ b) e) ∙ +ℤ_idl b

-- a number fits a width whose half is above its absolute value
pub fits-abs : (w : Width) (z : ℤ) → nat_abs z < 2 ^ hbits w → SFits w z
fits-abs w (pos n) h = record { sfits = h }
fits-abs w (negsuc n) h = record { sfits = omega arith }

-- the absolute value of an i32
pub abs32 : {z : ℤ} → SFits w32 z → nat_abs z ≤ 2147483648
abs32 {z = pos n} h = let l : n < 2147483648 = h.sfits in omega arith
abs32 {z = negsuc n} h = let l : n < 2147483648 = h.sfits in omega arith
