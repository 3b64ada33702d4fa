-- Laws of lines by rising number: they rise, each is one of the lines, each of the lines is among them, and they take the same room. Nothing is assumed.
use Rattle.std.specs.Prelude.{◌≡◌, refl, List, [], ◌∷◌, ltb}
use Rattle.std.proofs.Common.{sym, ◌∙◌, lt-ltb}
use Rattle.std.proofs.Math.Path.{ap}
use Prim.Native.Nat.{ℕ, zero, suc, ◌+◌, ◌≤◌, ◌<◌}
use Rattle.std.proofs.Math.Decide.{ℕ_discrete}
use native.Mathlib.Omega.{arith}
use Rattle.std.proofs.Math.ListN.{length, get_or}
use Rattle.values.specs.Choice.{decide}
use Rattle.tokens.specs.Token.{max_lines}
use Rattle.reader.specs.Row.{Row, numbers_of, total, least_above, no_row, rising, by_number}
use Rattle.reader.specs.Draft.{Apart}
use Rattle.reader.specs.RisingLaws.{rising-length, absent-at, Next, Found, sum_above, sum-next, sum_of, sum-all, count_above, count-all, least-found}
use Rattle.loading.specs.TextTrees.{RisesBy}
use Rattle.loading.specs.TakenLaws.{All}

-- ---- rows that are apart

-- two rows with one number are one
pub apart-same : (rs : List Row) (i j : ℕ) → Apart rs → i < length rs → j < length rs → (get_or rs i no_row).number ≡ (get_or rs j no_row).number → i ≡ j
apart-same [] i j a l m e = absurd (omega arith)
apart-same (r ∷ rs) zero zero a l m e = refl
apart-same (r ∷ rs) zero (suc j) a l m e = absurd (absent-at rs r.number j a.2 (omega arith) (sym e))
apart-same (r ∷ rs) (suc i) zero a l m e = absurd (absent-at rs r.number i a.2 (omega arith) e)
apart-same (r ∷ rs) (suc i) (suc j) a l m e = ap suc (apart-same rs i j a.3 (omega arith) (omega arith) e)

pub apart-number : (rs : List Row) (j : ℕ) → Apart rs → j < length rs → 1 ≤ (get_or rs j no_row).number
apart-number [] j a l = absurd (omega arith)
apart-number (r ∷ rs) zero a l = a.0
apart-number (r ∷ rs) (suc j) a l = apart-number rs j a.3 (omega arith)

next-at : (rs : List Row) (n x i : ℕ) → Next n x rs → i < length rs → n < (get_or rs i no_row).number → x ≤ (get_or rs i no_row).number
next-at [] n x i h l o = absurd (omega arith)
next-at (r ∷ rs) n x zero h l o = h.0 o
next-at (r ∷ rs) n x (suc i) h l o = next-at rs n x i h.1 (omega arith) o

-- ---- by rising number

-- the numbers of some rows rise, from above n on
abbrev pub Rises : ℕ → List Row → Type 0
Rises n rs = RisesBy (λ (r : Row). r.number) n rs

pub rises-above : (rs : List Row) (n k : ℕ) → Rises n rs → k < length rs → n < (get_or rs k no_row).number
rises-above [] n k h l = absurd (omega arith)
rises-above (r ∷ rs) n zero h l = h.0
rises-above (r ∷ rs) n (suc k) h l = let a = h.0 in let b = rises-above rs r.number k h.1 (omega arith) in omega arith

-- a later one has a higher number
pub rises-apart : (rs : List Row) (n i k : ℕ) → Rises n rs → i < k → k < length rs → (get_or rs i no_row).number < (get_or rs k no_row).number
rises-apart [] n i k h m l = absurd (omega arith)
rises-apart (r ∷ rs) n i zero h m l = absurd (omega arith)
rises-apart (r ∷ rs) n zero (suc k) h m l = rises-above rs r.number k h.1 (omega arith)
rises-apart (r ∷ rs) n (suc i) (suc k) h m l = rises-apart rs r.number i k h.1 (omega arith) (omega arith)

-- the places that one row takes
abbrev places : Row → ℕ
places r = length r.tokens + 1

total-sum : (rs : List Row) → total rs ≡ sum_of places rs
unfolding total sum_of
total-sum [] = refl
total-sum (r ∷ rs) = let i = total-sum rs in omega arith

-- a row above n counts
some-above : (rs : List Row) (n i : ℕ) → i < length rs → n < (get_or rs i no_row).number → 1 ≤ count_above n rs
unfolding sum_above
some-above [] n i l o = absurd (omega arith)
some-above (r ∷ rs) n zero l o = rw (lt-ltb n r.number o) (omega arith)
some-above (r ∷ rs) n (suc i) l o = let b = some-above rs n i (omega arith) o in omega arith

-- and without one a sum is 0
none-sum : (f : Row → ℕ) (rs : List Row) (n : ℕ) → count_above n rs ≡ 0 → sum_above f n rs ≡ 0
unfolding sum_above
none-sum f [] n e = refl
none-sum f (r ∷ rs) n e =
    decide _ (ltb n r.number)
    (λ t. let g = rw t at e in absurd (omega arith))
    (λ t. let g = rw t at e in rw t (let i = none-sum f rs n (omega arith) in omega arith))

-- a row of some rows
abbrev pub Of : List Row → Row → Type 0
Of rs r = (j : ℕ) × (j < length rs) × (r ≡ get_or rs j no_row)

module _ (rs : List Row) (few : length rs ≤ max_lines) (apart : Apart rs) where
  -- where the next row stands
  abbrev at : ℕ → ℕ
  at n = least_above (numbers_of rs) n

  abbrev row_after : ℕ → Row
  row_after n = get_or rs (at n) no_row

  found : (m n : ℕ) → count_above n rs ≡ suc m → Found rs n (at n)
  found m n e = least-found rs n few apart (omega arith)

  fewer : (m n : ℕ) → count_above n rs ≡ suc m → count_above (row_after n).number rs ≡ m
  fewer m n e = let s = sum-next (λ r. 1) rs n (at n) apart (found m n e) in omega arith

  rising-rises : (m n : ℕ) → count_above n rs ≡ m → Rises n (rising rs m n)
  unfolding rising
  rising-rises zero n e = tt
  rising-rises (suc m) n e = ((found m n e).over, rising-rises m (row_after n).number (fewer m n e))

  rising-of : (m n : ℕ) → count_above n rs ≡ m → All (Of rs) (rising rs m n)
  unfolding rising
  rising-of zero n e = tt
  rising-of (suc m) n e = ((at n, (found m n e).inside, refl), rising-of m (row_after n).number (fewer m n e))

  rising-sum : (f : Row → ℕ) (m n : ℕ) → count_above n rs ≡ m → sum_above f n rs ≡ sum_of f (rising rs m n)
  unfolding rising sum_of
  rising-sum f zero n e = none-sum f rs n e
  rising-sum f (suc m) n e = let s = sum-next f rs n (at n) apart (found m n e) in let i = rising-sum f m (row_after n).number (fewer m n e) in omega arith

  -- where a row of the rows stands among those with a number above n
  abbrev Rank : List Row → ℕ → Type 0
  Rank xs i = (k : ℕ) × (k < length xs) × (get_or xs k no_row ≡ get_or rs i no_row)

  rising-rank : (m n : ℕ) → count_above n rs ≡ m → (i : ℕ) → i < length rs → n < (get_or rs i no_row).number → Rank (rising rs m n) i
  unfolding rising
  rising-rank zero n e i l o = let c = some-above rs n i l o in absurd (omega arith)
  rising-rank (suc m) n e i l o =
      let f = found m n e in
      let b = next-at rs n (row_after n).number i f.next l o in
      by_number_lem f.inside b (λ u. rising-rank m (row_after n).number (fewer m n e) i l u) (ℕ_discrete (get_or rs i no_row).number (row_after n).number)
    where
      by_number_lem : at n < length rs → (row_after n).number ≤ (get_or rs i no_row).number → ((row_after n).number < (get_or rs i no_row).number → Rank (rising rs m (row_after n).number) i) →
          Dec ((get_or rs i no_row).number ≡ (row_after n).number) → Rank (rising rs (suc m) n) i
      by_number_lem a b g (yes q) = (0, omega arith, ap (λ (j : ℕ). get_or rs j no_row) (apart-same rs (at n) i apart a l (sym q)))
      by_number_lem a b g (no q) = let (k, u, v) = g (omega (arith, q)) in (suc k, omega arith, v)

  -- THE LINES BY NUMBER: as many,
  pub by_length : length (by_number rs) ≡ length rs
  by_length = rising-length rs (length rs) 0

  -- rising from 1 on,
  pub by-rises : Rises 0 (by_number rs)
  by-rises = rising-rises (length rs) 0 (count-all rs apart)

  -- each of them one of the lines,
  pub by-of : All (Of rs) (by_number rs)
  by-of = rising-of (length rs) 0 (count-all rs apart)

  -- each of the lines among them,
  pub by_rank_lem : (i : ℕ) → i < length rs → (k : ℕ) × (k < length (by_number rs)) × (get_or (by_number rs) k no_row ≡ get_or rs i no_row)
  by_rank_lem i l = rising-rank (length rs) 0 (count-all rs apart) i l (apart-number rs i apart l)

  -- with the same sum,
  pub by-sum : (f : Row → ℕ) → sum_of f (by_number rs) ≡ sum_of f rs
  by-sum f = sym (rising-sum f (length rs) 0 (count-all rs apart)) ∙ sum-all f rs apart

  -- in the same room
  pub by_total : total (by_number rs) ≡ total rs
  by_total = total-sum (by_number rs) ∙ by-sum places ∙ sym (total-sum rs)
