-- Signed numbers in the code: each is read back from its bits, and what two of them give fits twice the width.
use Rattle.std.specs.Prelude.{◌≡◌, true, false, ℕ, suc, ◌≤◌, ◌<◌, T, eqb, ℤ, pos, negsuc, nat_abs, neg_ℤ, ◌+ℤ◌, ◌-ℤ◌}
use Rattle.std.proofs.Common.{sym, ap, ◌∙◌, arith, lit<, Fits, SFits, to_z, of_z, ltb-true, ltb-false, le-leb, eq-eqb, ne_eqb}
use Rattle.std.proofs.Math.IntN.{ℤ_discrete, +ℤ_idl}
use Rattle.std.specs.Int.Signed.{lt_z, non_neg}
use Rattle.std.specs.Int.{Width, w32, w64}
use Rattle.std.proofs.lemmas.Int.{to_z-of_z, to_z_pos}
use Rattle.std.proofs.lemmas.Bool.{lt-leb}
use Rattle.values.specs.Size.{is_negative}
use Rattle.values.specs.Value.{top, unit, in_range, equal_to}
use Rattle.values.specs.Numbers.{clash, abs_neg, abs-add, fits-abs, abs32, abs-zero}
use Rattle.values.specs.SizeLaws.{below-zero}
use Rattle.values.specs.ValueLaws.{same-equal, other-equal}

-- ---- reading back

pub back : (w : Width) {z : ℤ} → SFits w z → to_z w (of_z w z) ≡ z
back w {z} h = to_z-of_z w z h

pub widened : {z : ℤ} → SFits w32 z → SFits w64 z
widened {z} h = fits-abs w64 z (omega (arith, abs32 h))

-- an i32 may be cast to an i64
pub cast64 : {z : ℤ} → SFits w32 z → SFits w64 (to_z w32 (of_z w32 z))
cast64 h = rw (back w32 h) (widened h)

-- an i32 after a cast to an i64
abbrev pub Wide : ℤ → ℤ
Wide z = to_z w64 (of_z w64 (to_z w32 (of_z w32 z)))

pub wide : {z : ℤ} → SFits w32 z → Wide z ≡ z
wide {z} h = ap (λ (y : ℤ). to_z w64 (of_z w64 y)) (back w32 h) ∙ back w64 (widened h)

-- ---- two i32, worked with as i64

module _ {a b : ℤ} (ha : SFits w32 a) (hb : SFits w32 b) where
  pub sum_fits : SFits w64 (a +ℤ b)
  sum_fits = fits-abs w64 _ (omega (arith, abs32 ha, abs32 hb, abs-add a b))

  pub difference-fits : SFits w64 (a -ℤ b)
  difference-fits = fits-abs w64 _ (omega (arith, abs32 ha, abs32 hb, abs-add a (neg_ℤ b), abs_neg b))

  -- an operation whose result fits may be done on the widened numbers, and gives what it gives on the numbers
  pub work-fits : (f : ℤ → ℤ → ℤ) → SFits w64 (f a b) → SFits w64 (f (Wide a) (Wide b))
  work-fits f h = rw (wide ha, wide hb) h

  pub worked : (f : ℤ → ℤ → ℤ) → SFits w64 (f a b) → to_z w64 (of_z w64 (f (Wide a) (Wide b))) ≡ f a b
  worked f h = rw (wide ha, wide hb) (back w64 h)

pub zero-fits : SFits w32 (pos 0)
zero-fits = record { sfits = lit< tt }

pub unit-fits : SFits w32 (pos unit)
unit-fits = record { sfits = lit< tt }

-- ---- equality, of the bits

pub same_bits : (w : Width) {a b : ℤ} → SFits w a → SFits w b → of_z w a ≡ of_z w b → a ≡ b
same_bits w ha hb e = sym (back w ha) ∙ ap (to_z w) e ∙ back w hb

pub equal-bits : {a b : ℤ} → SFits w32 a → SFits w32 b → eqb (of_z w32 a) (of_z w32 b) ≡ equal_to a b
equal-bits {a} {b} ha hb = by-equality (ℤ_discrete a b)
  where
    by-equality : Dec (a ≡ b) → eqb (of_z w32 a) (of_z w32 b) ≡ equal_to a b
    by-equality (yes e) = eq-eqb _ _ (ap (of_z w32) e) ∙ sym (same-equal e)
    by-equality (no f) = ne_eqb _ _ (λ e. f (same_bits w32 ha hb e)) ∙ sym (other-equal a b f)

pub bits-equal : {a b : ℤ} → SFits w32 a → SFits w32 b → of_z w32 a ≡ of_z w32 b → equal_to a b ≡ true
bits-equal ha hb e = same-equal (same_bits w32 ha hb e)

pub bits-other : (a b : ℤ) → (of_z w32 a ≡ of_z w32 b → ⊥) → equal_to a b ≡ false
bits-other a b f = other-equal a b (λ e. f (ap (of_z w32) e))

-- a divisor, by the test of its bits

pub zero_bits : {b : ℤ} → SFits w32 b → of_z w32 b ≡ 0 → eqb (nat_abs b) 0 ≡ true
zero_bits {b} h e = eq-eqb (nat_abs b) 0 (ap nat_abs (same_bits w32 h zero-fits e))

pub nonzero-bits : (b : ℤ) → (of_z w32 b ≡ 0 → ⊥) → eqb (nat_abs b) 0 ≡ false
nonzero-bits b f = ne_eqb (nat_abs b) 0 (λ e. f (ap (of_z w32) (abs-zero b e)))

-- ---- the range, by the two tests of the code

pub too-low : (z : ℤ) → lt_z z (negsuc 999999999) ≡ true → in_range z ≡ false
unfolding in_range
too-low (pos n) h = clash (cc)
too-low (negsuc n) h = lt-leb (suc n) top (omega (arith, ltb-true 999999999 n h))

pub too-high : (z : ℤ) → lt_z (pos 1000000000) z ≡ true → in_range z ≡ false
unfolding in_range
too-high (pos n) h = lt-leb _ _ (ltb-true 1000000000 n h)
too-high (negsuc n) h = clash (cc)

pub between : (z : ℤ) → lt_z z (negsuc 999999999) ≡ false → lt_z (pos 1000000000) z ≡ false → in_range z ≡ true
unfolding in_range
between (pos n) h k = le-leb _ _ (ltb-false 1000000000 n k)
between (negsuc n) h k = le-leb (suc n) top (omega (arith, ltb-false 999999999 n h))

-- two signed numbers, read back from their bits
pub both : {B : Type 0} (f : ℤ → ℤ → B) {a b : ℤ} → SFits w32 a → SFits w32 b → f (to_z w32 (of_z w32 a)) (to_z w32 (of_z w32 b)) ≡ f a b
both f ha hb = rw (back w32 ha, back w32 hb)

-- ---- sign and size

-- the negative of an i32, as an i64
turned : {z : ℤ} → SFits w32 z → pos 0 -ℤ Wide z ≡ neg_ℤ z
turned {z} h = rw (wide h) (+ℤ_idl (neg_ℤ z))

pub turned-fits : {z : ℤ} → SFits w32 z → SFits w64 (pos 0 -ℤ Wide z)
turned-fits {z} h = rw (turned h) (fits-abs w64 (neg_ℤ z) (omega (arith, abs32 h, abs_neg z)))

pub turned-back : {z : ℤ} → SFits w32 z → to_z w64 (of_z w64 (pos 0 -ℤ Wide z)) ≡ neg_ℤ z
turned-back h = back w64 (turned-fits h) ∙ turned h

-- a number that is its size may be cast to a u64
pub size-cast : (z : ℤ) (n : ℕ) → z ≡ pos n → n ≤ 2147483648 → T (non_neg z) × Fits w64 (nat_abs z)
size-cast z n e h = rw e (tt, record { fits = omega arith })

-- a size that fits an i32, as one, and its negative
pub size_back : (n : ℕ) → n < 2147483648 → to_z w32 n ≡ pos n
size_back n h = to_z_pos w32 n (omega arith)

negative : (n : ℕ) → n < 2147483648 → pos 0 -ℤ to_z w32 n ≡ neg_ℤ (pos n)
negative n h = rw (size_back n h) (+ℤ_idl (neg_ℤ (pos n)))

pub negative_fits : (n : ℕ) → n < 2147483648 → SFits w32 (pos 0 -ℤ to_z w32 n)
negative_fits n h = rw (negative n h) (fits-abs w32 (neg_ℤ (pos n)) (omega (arith, abs_neg (pos n))))

pub negative_back : (n : ℕ) → n < 2147483648 → to_z w32 (of_z w32 (pos 0 -ℤ to_z w32 n)) ≡ neg_ℤ (pos n)
negative_back n h = back w32 (negative_fits n h) ∙ negative n h

-- the test of a sign
pub sign-back : {z : ℤ} → SFits w32 z → lt_z (to_z w32 (of_z w32 z)) (pos 0) ≡ is_negative z
sign-back {z} h = rw (back w32 h) (below-zero z)

-- what `size_of` gives is the number's size
pub size_is : {z : ℤ} {n : ℕ} → SFits w32 z → n ≡ nat_abs (to_z w32 (of_z w32 z)) → n ≡ nat_abs z
size_is h e = e ∙ ap nat_abs (back w32 h)
