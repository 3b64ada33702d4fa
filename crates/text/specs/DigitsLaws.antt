-- A number in digits: its digits from the last on, how many they are, and the last put first. Assumes nothing.
use Rattle.std.specs.Prelude.{◌≡◌, refl, ltb, length, set}
use Rattle.std.proofs.Common.{sym, ap, ◌∙◌, length-append, pow-suc}
use mathlib.Core.List.{List, [], ◌∷◌, ◌++◌}
use Prim.Native.Nat.{ℕ, zero, suc, ◌+◌, ◌-◌, ◌*◌, ◌/◌, ◌%◌, ◌^◌, ◌≤◌, ◌<◌}
use native.Mathlib.Omega.{arith}
use borrow.Author.Tests.{lt-ltb, le-ltb, ltb-true, ltb-false}
use Rattle.std.proofs.lemmas.List.{set_comm}
use Rattle.values.specs.Choice.{either, decide}
use Rattle.values.specs.PutAt.{put_at}
use Rattle.text.specs.Digits.{digits_up, decimal, signed_text}

-- ---- from the last digit on

module _ (k n : ℕ) where
  pub one-digit : 0 < k → n < 10 → digits_up k n ≡ (48 + n) ∷ []
  unfolding digits_up
  one-digit h g = go k h
    where
      go : (k : ℕ) → 0 < k → digits_up k n ≡ (48 + n) ∷ []
      go zero h = absurd (omega arith)
      go (suc k) h = simp (digits_up, lt-ltb n 10 g)

  pub more-digits : 0 < k → 10 ≤ n → digits_up k n ≡ digits_up (k - 1) (n / 10) ++ ((48 + n % 10) ∷ [])
  unfolding digits_up
  more-digits h g = go k h
    where
      go : (k : ℕ) → 0 < k → digits_up k n ≡ digits_up (k - 1) (n / 10) ++ ((48 + n % 10) ∷ [])
      go zero h = absurd (omega arith)
      go (suc k) h = let e : suc k - 1 ≡ k = omega arith in simp (digits_up, le-ltb n 10 g, e)

pub no-digits : (k n : ℕ) → k ≡ 0 → digits_up k n ≡ []
unfolding digits_up
no-digits k n e = rw e

module _ (n : ℕ) where
  pub signed_high : 2147483648 ≤ n → n ≤ 4294967295 → signed_text n ≡ 45 ∷ decimal (4294967295 - n + 1)
  unfolding signed_text
  signed_high h g = let e : 4294967296 - n ≡ 4294967295 - n + 1 = omega arith in simp (signed_text, le-ltb n 2147483648 h, e)

-- ---- how many

pub digits-room : (k n : ℕ) → length (digits_up k n) ≤ k
unfolding digits_up
digits-room zero n = omega arith
digits-room (suc k) n =
    either (λ (y : List ℕ). length y ≤ suc k) (ltb n 10) (λ e. omega arith) λ e.
    let h = digits-room k (n / 10) in
    simp length-append (omega arith)

pub decimal-room : (n : ℕ) → length (decimal n) ≤ 10
decimal-room n = digits-room 10 n

pub signed-room : (n : ℕ) → length (signed_text n) ≤ 11
unfolding signed_text
signed-room n =
    let a = decimal-room n in
    let b = decimal-room (4294967296 - n) in
    either (λ (y : List ℕ). length y ≤ 11) (ltb n 2147483648) (λ e. omega arith) (λ e. omega arith)

-- ---- how many exactly

module _ (k n : ℕ) (h : 0 < k) (g : 10 ≤ n) where
  more-count : length (digits_up k n) ≡ length (digits_up (k - 1) (n / 10)) + 1
  more-count = ap length (more-digits k n h g) ∙ length-append (digits_up (k - 1) (n / 10)) ((48 + n % 10) ∷ [])

-- a number below 10 to the power j + 1, and not below that to the power j
pub count-is : (j k n : ℕ) → j < k → 10 ^ j ≤ n → n < 10 * 10 ^ j → length (digits_up k n) ≡ j + 1
count-is zero k n h g f = ap length (one-digit k n (omega arith) (omega arith))
count-is (suc j) k n h g f =
    let p = pow-suc 10 j in
    let e = count-is j (k - 1) (n / 10) (omega arith) (omega arith) (omega arith) in
    let c = more-count k n (omega arith) (omega arith) in
    omega arith

-- ---- the last digit first

-- as many digits as there are do
pub just_enough : (k n : ℕ) → digits_up (length (digits_up k n)) n ≡ digits_up k n
unfolding digits_up
just_enough zero n = refl
just_enough (suc k) n =
    decide (digits_up (length (digits_up (suc k) n)) n ≡ digits_up (suc k) n) (ltb n 10)
    (λ e.
    let h = ltb-true n 10 e in
    let d = one-digit (suc k) n (omega arith) h in
    ap (λ (l : List ℕ). digits_up (length l) n) d ∙ one-digit 1 n (omega arith) h ∙ sym d)
    (λ e.
    let h = ltb-false n 10 e in
    let p : suc k - 1 ≡ k = omega arith in
    let q : length (digits_up k (n / 10)) + 1 - 1 ≡ length (digits_up k (n / 10)) = omega arith in
    let c : length (digits_up (suc k) n) ≡ length (digits_up k (n / 10)) + 1 = rw p at (more-count (suc k) n (omega arith) h) in
    let m : digits_up (suc k) n ≡ digits_up k (n / 10) ++ ((48 + n % 10) ∷ []) = rw p at (more-digits (suc k) n (omega arith) h) in
    let o : digits_up (length (digits_up k (n / 10)) + 1) n ≡ digits_up (length (digits_up k (n / 10))) (n / 10) ++ ((48 + n % 10) ∷ []) = rw q at (more-digits (length (digits_up k (n / 10)) + 1) n (omega arith) h) in
    ap (λ (x : ℕ). digits_up x n) c ∙ o ∙ ap (λ (l : List ℕ). l ++ ((48 + n % 10) ∷ [])) (just_enough k (n / 10)) ∙ sym m)

-- the last byte of a text may be put first
put_last : (l s : List ℕ) (p b : ℕ) → put_at s p (l ++ (b ∷ [])) ≡ put_at (set s (p + length l) b) p l
put_last [] s p b = let e : p + 0 ≡ p = omega arith in rw e
put_last (t ∷ l) s p b =
    let e : p + 1 + length l ≡ p + length (t ∷ l) = omega arith in
    put_last l (set s p t) (p + 1) b ∙ ap (λ (y : List ℕ). put_at y (p + 1) l) (set_comm s p (p + 1 + length l) t b (λ f. omega arith) ∙ ap (λ (q : ℕ). set (set s q b) p t) e)

-- a number of which i digits are left
module _ (i n : ℕ) (h : 0 < i) (e : length (digits_up i n) ≡ i) where
  last-digit : digits_up i n ≡ digits_up (i - 1) (n / 10) ++ ((48 + n % 10) ∷ [])
  last-digit =
      decide (digits_up i n ≡ digits_up (i - 1) (n / 10) ++ ((48 + n % 10) ∷ [])) (ltb n 10)
      (λ f.
      let g = ltb-true n 10 f in
      let d = one-digit i n h g in
      let c = ap length d in
      let m : n % 10 ≡ n = omega arith in
      rw (m, no-digits (i - 1) (n / 10) (omega arith)) d)
      (λ f. more-digits i n h (ltb-false n 10 f))

  pub fewer_digits : length (digits_up (i - 1) (n / 10)) ≡ i - 1
  fewer_digits = let c = ap length last-digit ∙ length-append (digits_up (i - 1) (n / 10)) ((48 + n % 10) ∷ []) in omega arith

  pub put-last-digit : (s : List ℕ) (p : ℕ) → put_at (set s (p + (i - 1)) (48 + n % 10)) p (digits_up (i - 1) (n / 10)) ≡ put_at s p (digits_up i n)
  put-last-digit s p = sym (ap (put_at s p) last-digit ∙ put_last (digits_up (i - 1) (n / 10)) s p (48 + n % 10) ∙ ap (λ (x : ℕ). put_at (set s (p + x) (48 + n % 10)) p (digits_up (i - 1) (n / 10))) fewer_digits)
