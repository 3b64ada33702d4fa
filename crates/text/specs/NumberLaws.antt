-- Laws of the value of digits, digit by digit, and of the token of a number. Assumes nothing.
use Rattle.std.specs.Prelude.{◌≡◌, List, ℕ, ◌+◌, ◌*◌, ◌^◌, ◌≤◌, length, drop}
use Rattle.std.proofs.Common.{arith, drop_of_length-le}
use Rattle.std.proofs.Math.Nat.{pow-le-pow_right}
use borrow.Author.Tests.{le-leb}
use Rattle.values.specs.Value.{top}
use Rattle.tokens.specs.Token.{NUMBER}
use Rattle.text.specs.Number.{digits_value, written, is_fit, point_mark, number_token}

-- ---- digits

-- from a place on, with the value of those before it
module _ (l : List ℕ) (k n : ℕ) where
  pub value-ends : length l ≤ k → digits_value (drop k l) n ≡ n
  value-ends h = rw (drop_of_length-le l h)

-- what k bytes, digits or not, can be worth
abbrev pub Low : ℕ → ℕ → Type 0
Low k n = n + 23 ≤ 23 * 10 ^ k

pub low-within : (k n : ℕ) → Low k n → k ≤ 7 → n ≤ 230000000
low-within k n h g = let p = pow-le-pow_right {n = 10} (omega arith) g in omega arith

-- ---- the token

pub number_real : (a b : List ℕ) → number_token a b ≡ 0 → ⊥
unfolding number_token
number_real a b h = omega arith

-- with the mark m, and the thousandths n
pub value_in : (a b : List ℕ) (m : ℕ) → m ≡ point_mark b → (n : ℕ) → n ≡ written a b → length a ≤ 7 → length b ≤ 3 → n ≤ top → NUMBER + n * 2 + m ≡ number_token a b
unfolding is_fit number_token
value_in a b m e n w h g l = rw (number_token, is_fit, le-leb (length a) 7 h, le-leb (length b) 3 g, le-leb (written a b) top (rw w at l)) (omega arith)
