-- Laws of a number in digits: a number in digits is worth what it was, has no more digits than any other writing of it, and reads on as digits. Assumes nothing.
use Rattle.std.specs.Prelude.{◌≡◌, refl, Bool, true, false, List, [], ◌∷◌, ◌++◌, ℕ, zero, suc, ◌+◌, ◌-◌, ◌*◌, ◌/◌, ◌%◌, ◌^◌, ◌≤◌, ◌<◌, ltb, leb, length, get_or}
use Rattle.std.proofs.Common.{ap, ◌∙◌, arith, pow-suc, mul_assoc, mul-le-mul_right, length-append, ltb-true, ltb-false, leb-true, le-leb}
use Rattle.std.proofs.Math.Nat.{pow-succ'}
use Rattle.values.specs.Choice.{decide, both}
use Rattle.text.specs.Byte.{is_digit, run}
use Rattle.text.specs.ByteLaws.{run_on, run-off}
use Rattle.text.specs.Number.{digits_value}
use Rattle.text.specs.Digits.{digits_up, decimal}
use Rattle.text.specs.DigitsLaws.{one-digit, more-digits}

-- ---- all of one kind

abbrev pub All : (ℕ → Bool) → List ℕ → Type 0
All p [] = Unit {0}
All p (b ∷ bs) = (p b ≡ true) × All p bs

pub all_append : (p : ℕ → Bool) (xs ys : List ℕ) → All p xs → All p ys → All p (xs ++ ys)
all_append p [] ys h g = g
all_append p (x ∷ xs) ys h g = (h.0, all_append p xs ys h.1 g)

-- a run over bytes of a kind ends where the bytes behind them are not of it
pub run-over : (p : ℕ → Bool) (xs ys : List ℕ) → All p xs → p (get_or ys 0 0) ≡ false → run p (xs ++ ys) ≡ length xs
unfolding run
run-over p [] [] h g = refl
run-over p [] (y ∷ ys) h g = run-off p y ys g
run-over p (x ∷ xs) ys h g = run_on p x (xs ++ ys) h.0 ∙ ap suc (run-over p xs ys h.1 g)

-- ---- digits

pub digit-is : (d : ℕ) → d < 10 → is_digit (48 + d) ≡ true
digit-is d h = simp (le-leb 48 (48 + d) (omega arith), le-leb (48 + d) 57 (omega arith))

pub digit-bounds : (b : ℕ) → is_digit b ≡ true → (48 ≤ b) × (b ≤ 57)
digit-bounds b h = let (l, u) = both (leb 48 b) (leb b 57) h in (leb-true 48 b l, leb-true b 57 u)

value-last : (xs : List ℕ) (n d : ℕ) → digits_value (xs ++ (d ∷ [])) n ≡ digits_value xs n * 10 + (d - 48)
value-last [] n d = refl
value-last (x ∷ xs) n d = value-last xs (n * 10 + (x - 48)) d

-- a number of more digits than one, where the room is not spent
up_more : (k n : ℕ) → 10 ≤ n → digits_up (suc k) n ≡ digits_up k (n / 10) ++ ((48 + n % 10) ∷ [])
up_more k n h = let e : suc k - 1 ≡ k = omega arith in more-digits (suc k) n (omega arith) h ∙ rw e

by_ten : (P : Type 0) (n : ℕ) → (n < 10 → P) → (10 ≤ n → P) → P
by_ten P n f g = decide P (ltb n 10) (λ e. f (ltb-true n 10 e)) (λ e. g (ltb-false n 10 e))

-- worth what the number was
up-value : (k n : ℕ) → n < 10 ^ k → digits_value (digits_up k n) 0 ≡ n
unfolding digits_up
up-value zero n h = omega arith
up-value (suc k) n h =
    by_ten _ n
    (λ l. rw (one-digit (suc k) n (omega arith) l) (omega arith))
    (λ l.
    let p = pow-suc 10 k in
    let i = up-value k (n / 10) (omega arith) in
    rw (up_more k n l) (value-last (digits_up k (n / 10)) 0 (48 + n % 10) ∙ rw i (omega arith)))

-- all digits
up-digits : (k n : ℕ) → All is_digit (digits_up k n)
unfolding digits_up
up-digits zero n = tt
up-digits (suc k) n =
    by_ten _ n
    (λ l. rw (one-digit (suc k) n (omega arith) l) (digit-is n l, tt))
    (λ l. rw (up_more k n l) (all_append is_digit (digits_up k (n / 10)) ((48 + n % 10) ∷ []) (up-digits k (n / 10)) (digit-is (n % 10) (omega arith), tt)))

-- no more than any writing of the number: j digits are enough where it is below 10^j
up-length : (k n j : ℕ) → n < 10 ^ suc j → length (digits_up k n) ≤ suc j
unfolding digits_up
up-length zero n j h = omega arith
up-length (suc k) n zero h = by_ten _ n (λ l. rw (one-digit (suc k) n (omega arith) l) (omega arith)) (λ l. absurd (omega arith))
up-length (suc k) n (suc j) h =
    by_ten _ n
    (λ l. rw (one-digit (suc k) n (omega arith) l) (omega arith))
    (λ l.
    let p = pow-suc 10 (suc j) in
    let i = up-length k (n / 10) j (omega arith) in
    let e = length-append (digits_up k (n / 10)) ((48 + n % 10) ∷ []) in
    rw (up_more k n l) (omega arith))

up-some : (k n : ℕ) → 0 < length (digits_up (suc k) n)
up-some k n =
    by_ten _ n
    (λ l. rw (one-digit (suc k) n (omega arith) l) (omega arith))
    (λ l. let e = length-append (digits_up k (n / 10)) ((48 + n % 10) ∷ []) in rw (up_more k n l) (omega arith))

module _ (n : ℕ) where
  pub decimal-value : n < 10000000000 → digits_value (decimal n) 0 ≡ n
  decimal-value h = up-value 10 n h

  pub decimal-digits : All is_digit (decimal n)
  decimal-digits = up-digits 10 n

  pub decimal-length : (j : ℕ) → n < 10 ^ suc j → length (decimal n) ≤ suc j
  decimal-length j h = up-length 10 n j h

  pub decimal-some : 0 < length (decimal n)
  decimal-some = up-some 9 n

-- ---- the value of some digits

-- digits are worth less than one more digit would be
pub value-below : (bs : List ℕ) (n : ℕ) → All is_digit bs → digits_value bs n < (n + 1) * 10 ^ length bs
value-below [] n h = omega arith
value-below (b ∷ bs) n h =
    let k = length bs in
    let (l, u) = digit-bounds b h.0 in
    let i = value-below bs (n * 10 + (b - 48)) h.1 in
    let m = mul-le-mul_right {m = n * 10 + (b - 48) + 1} {n = (n + 1) * 10} (10 ^ k) (omega arith) in
    let p = pow-succ' 10 k in
    let e = mul_assoc (n + 1) 10 (10 ^ k) in
    rw p (rw (← e) (omega arith))
