-- Laws of the first token of some bytes, one for each way to it. Assumes nothing.
use Rattle.std.proofs.Math.Path.{◌≡◌, sym, ap}
use Rattle.std.specs.Prelude.{refl, false, Option, Some, take, drop}
use Rattle.std.proofs.Common.{◌∙◌, arith}
use mathlib.Core.List.{List}
use Prim.Native.Nat.{ℕ, zero, suc, ◌+◌, ◌-◌}
use Rattle.std.proofs.Math.ListN.{get_or}
use Rattle.text.specs.declared.scan.First.{First}
use Rattle.text.specs.Byte.{is_digit, is_letter, run}
use Rattle.text.specs.Number.{number_token}
use Rattle.text.specs.First.{found, behind_point, with_point, number_with, number_first}

pub found_some : (t n : ℕ) → (t ≡ 0 → ⊥) → ◌≡◌ {A = Option First} (Some (record { token = t; size = n })) (found t n)
found_some zero n h = absurd (h refl)
found_some (suc t) n h = refl

-- ---- a number: n digits, and m behind a point

-- where the digits behind the point stand, if the number ends at e
digits-behind : (t : List ℕ) (n m e : ℕ) → e ≡ n + with_point m → take (e - (e - m)) (drop (e - m) t) ≡ take m (drop (n + 1) t)
digits-behind t n zero e h = let z : e - (e - 0) ≡ 0 = omega arith in rw z
digits-behind t n (suc m) e h =
    let z : e - (e - suc m) ≡ suc m = omega arith in
    let y : e - suc m ≡ n + 1 = omega arith in
    rw (z, y)

module _ (t : List ℕ) (n m e : ℕ) (h : e ≡ n + with_point m) where
  pub no-letter : is_letter (get_or t e 0) ≡ false → found (number_token (take n t) (take (e - (e - m)) (drop (e - m) t))) e ≡ number_with t n m
  unfolding number_with
  no-letter l = rw (digits-behind t n m e h, h) (rw (number_with, ap (λ (k : ℕ). is_letter (get_or t k 0)) (sym h) ∙ l))

pub number_is : (t : List ℕ) (n m : ℕ) → n ≡ 0 + run is_digit (drop 0 t) → m ≡ behind_point (drop n t) → number_with t n m ≡ number_first t
unfolding number_first
number_is t n m h g = let e : n ≡ run is_digit t = omega arith in rw (g, e)

-- ---- a sign
