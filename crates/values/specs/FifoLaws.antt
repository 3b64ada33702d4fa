-- Laws of FIFOs: the definitions of Fifo told on a FIFO's contents, and what every change keeps.
use Rattle.std.specs.Prelude.{◌≡◌, Bool, cond, ◌&&◌, List, [], ◌∷◌, ◌++◌, leb, ℤ, pos, ◌+ℤ◌, take, set, replicate, Result, Ok, Err}
use Rattle.std.proofs.Math.Path.{refl, ap}
use Rattle.std.proofs.Common.{sym, ◌∙◌, add-one, length-append, length-take, length-drop, length-set, length-take-le, take_at, take-suc, take-suc-set, get_or-set_same, get_or-set_other}
use Rattle.std.proofs.Math.Bool.{true, false}
use Prim.Native.Nat.{ℕ, zero, suc, ◌+◌, ◌-◌, ◌*◌, ◌≤◌, ◌<◌}
use Rattle.std.proofs.Math.Decide.{ℕ_discrete, dec_lt}
use native.Mathlib.Omega.{arith}
use Rattle.std.proofs.Math.Dec.{eqb}
use Rattle.std.proofs.Math.IntN.{+ℤ_idl, +ℤ_idr, +ℤ_assoc}
use Rattle.std.proofs.Math.ListN.{length, drop, get_or, get_or-append, get_or-eq_default}
use Rattle.std.proofs.lemmas.List.{length-replicate, get_or-replicate}
use Rattle.std.proofs.Math.Seq.{get_or_at, get_or-take, get_or-drop, get_or-append-add, set_out}
use borrow.Author.Tests.{eq-eqb, ne_eqb, le-leb, eqb-true, eqb-false, leb-true}
use Rattle.values.specs.declared.codes.Alarm.{Alarm}
use Rattle.values.specs.declared.codes.Alarm.TheVariants.{FifoEmpty, FifoFull, NotAllowed, Unsound}
use Rattle.values.specs.declared.fifo.Moved.{Moved}
use Rattle.values.specs.Value.{unit, in_range, equal_to}
use Rattle.values.specs.ValueLaws.{Ranged, valued-in-range, abs-range}
use Rattle.values.specs.Fifo.{places, contents, Unused, change_of, count_after, fits, append_answer, appended, shifted, remove_answer, removed, value_at, oldest_of, newest_of, sum_first, sum_all, total_of, count_of, cleared, empty_answer, emptied}
use Rattle.values.specs.Numbers.{clash}

-- ---- a part of sixteen places with at most sixteen in use

-- they are a FIFO
pub fits-holds : (xs : List ℤ) (n : ℕ) → length xs ≡ places → n ≤ places → fits (length xs) n ≡ true
unfolding fits
fits-holds xs n e h = rw (eq-eqb (length xs) places e, le-leb n places h)

-- and nothing else is one
pub fits-bounds : (size n : ℕ) → fits size n ≡ true → (size ≡ places) × (n ≤ places)
unfolding fits
fits-bounds size n = by_size (eqb size places) refl
  where
    by_size : (b : Bool) → eqb size places ≡ b → (b && leb n places) ≡ true → (size ≡ places) × (n ≤ places)
    by_size true p h = (eqb-true size places p, leb-true n places h)
    by_size false p h = clash (cc)

-- ---- the changes, by cases: nothing changed, or what was done

module _ (P : List ℤ → ℕ → Type 0) (xs : List ℤ) (n : ℕ) (same : P xs n) where
  -- what holds before an append, and where it was done, holds after it
  pub append_cases : (v : ℤ) → (length xs ≡ places → n < places → P (set xs n v) (n + 1)) → P (appended xs n v) (count_after (append_answer xs n v) n)
  unfolding appended append_answer
  append_cases v done = by_tests_lem (fits (length xs) n) (eqb n places) refl refl
    where
      by_tests_lem : (a b : Bool) → fits (length xs) n ≡ a → eqb n places ≡ b → P (cond a (cond b xs (set xs n v)) xs) (count_after (cond a (cond b (Err FifoFull) (change_of v (n + 1))) (Err Unsound)) n)
      by_tests_lem false b p q = same
      by_tests_lem true true p q = same
      by_tests_lem true false p q = let f = fits-bounds (length xs) n p in done f.0 (omega (arith, f.1, eqb-false n places q))

  -- the same of a removal
  pub remove-cases : (length xs ≡ places → 0 < n → n ≤ places → P (shifted xs n) (n - 1)) → P (removed xs n) (count_after (remove_answer xs n) n)
  unfolding removed remove_answer
  remove-cases done = by_tests_lem (fits (length xs) n) (eqb n 0) refl refl
    where
      by_tests_lem : (a b : Bool) → fits (length xs) n ≡ a → eqb n 0 ≡ b → P (cond a (cond b xs (shifted xs n)) xs) (count_after (cond a (cond b (Err FifoEmpty) (change_of (get_or xs 0 (pos 0)) (n - 1))) (Err Unsound)) n)
      by_tests_lem false b p q = same
      by_tests_lem true true p q = same
      by_tests_lem true false p q = let f = fits-bounds (length xs) n p in done f.0 (omega (arith, eqb-false n 0 q)) f.1

  -- and of emptying
  pub empty-cases : (v : ℤ) → P (cleared xs) 0 → P (emptied xs n v) (count_after (empty_answer xs n v) n)
  unfolding emptied empty_answer
  empty-cases v done = by_tests_lem (fits (length xs) n) (equal_to v (pos 0))
    where
      by_tests_lem : (a b : Bool) → P (cond a (cond b (cleared xs) xs) xs) (count_after (cond a (cond b (change_of (pos 0) 0) (Err NotAllowed)) (Err Unsound)) n)
      by_tests_lem false b = same
      by_tests_lem true true = done
      by_tests_lem true false = same

-- ---- lengths are kept

shifted-length : (xs : List ℤ) (n : ℕ) → 0 < n → n ≤ length xs → length (shifted xs n) ≡ length xs
unfolding shifted
shifted-length xs n l h = simp (length-append, length-take, length-drop) (omega arith)

cleared-length : (xs : List ℤ) → length (cleared xs) ≡ length xs
unfolding cleared
cleared-length xs = length-replicate (length xs) (pos 0)

-- an append keeps the length
pub append-length : (xs : List ℤ) (n : ℕ) (v : ℤ) → length (appended xs n v) ≡ length xs
append-length xs n v = append_cases (λ ys k. length ys ≡ length xs) xs n refl v (λ e h. length-set xs n v)

-- a removal keeps the length
pub remove-length : (xs : List ℤ) (n : ℕ) → length (removed xs n) ≡ length xs
remove-length xs n = remove-cases (λ ys k. length ys ≡ length xs) xs n refl (λ e l h. shifted-length xs n l (omega arith))

-- emptying keeps the length
pub empty-length : (xs : List ℤ) (n : ℕ) (v : ℤ) → length (emptied xs n v) ≡ length xs
empty-length xs n v = empty-cases (λ ys k. length ys ≡ length xs) xs n refl v (cleared-length xs)

-- ---- the count stays at most sixteen

-- after an append
pub append-count : (xs : List ℤ) (n : ℕ) (v : ℤ) → n ≤ places → count_after (append_answer xs n v) n ≤ places
append-count xs n v h = append_cases (λ ys k. k ≤ places) xs n h v (λ e l. omega arith)

-- after a removal
pub remove-count : (xs : List ℤ) (n : ℕ) → n ≤ places → count_after (remove_answer xs n) n ≤ places
remove-count xs n h = remove-cases (λ ys k. k ≤ places) xs n h (λ e l m. omega arith)

-- after emptying
pub empty-count : (xs : List ℤ) (n : ℕ) (v : ℤ) → n ≤ places → count_after (empty_answer xs n v) n ≤ places
empty-count xs n v h = empty-cases (λ ys k. k ≤ places) xs n h v (omega arith)

-- ---- places after a change

module _ (xs : List ℤ) (n : ℕ) (l : 0 < n) (h : n ≤ length xs) where
  front_length : length (take (n - 1) (drop 1 xs)) ≡ n - 1
  front_length = length-take-le (n - 1) (drop 1 xs) (rw length-drop (omega arith))

  -- each place but the last holds what was behind it, the last is 0, and the rest is as it was
  shifted-before : (i : ℕ) → i < n - 1 → get_or (shifted xs n) i (pos 0) ≡ get_or xs (1 + i) (pos 0)
  unfolding shifted
  shifted-before i m =
      get_or-append (take (n - 1) (drop 1 xs)) (pos 0 ∷ drop n xs) (pos 0) i (rw front_length m)
      ∙ get_or-take (n - 1) (drop 1 xs) i (pos 0) m
      ∙ get_or-drop 1 xs i (pos 0)

  shifted-last : get_or (shifted xs n) (n - 1) (pos 0) ≡ pos 0
  unfolding shifted
  shifted-last = get_or_at (take (n - 1) (drop 1 xs)) (pos 0) (drop n xs) (pos 0) (n - 1) front_length

  shifted_behind : (i : ℕ) → n ≤ i → get_or (shifted xs n) i (pos 0) ≡ get_or xs i (pos 0)
  unfolding shifted
  shifted_behind i m =
      let e : length (take (n - 1) (drop 1 xs)) + suc (i - n) ≡ i = rw front_length (omega arith) in
      let f : n + (i - n) ≡ i = omega arith in
      ap (λ (k : ℕ). get_or (take (n - 1) (drop 1 xs) ++ (pos 0 ∷ drop n xs)) k (pos 0)) (sym e)
      ∙ get_or-append-add (take (n - 1) (drop 1 xs)) (pos 0 ∷ drop n xs) (suc (i - n)) (pos 0)
      ∙ get_or-drop n xs (i - n) (pos 0)
      ∙ ap (λ (k : ℕ). get_or xs k (pos 0)) f

  -- so what holds of every place and of 0 holds after the shift
  shifted-each : (P : ℤ → Type 0) → P (pos 0) → ((i : ℕ) → P (get_or xs i (pos 0))) → (i : ℕ) → P (get_or (shifted xs n) i (pos 0))
  shifted-each P z p i = by_place (dec_lt i (n - 1)) (ℕ_discrete i (n - 1))
    where
      by_place : Dec (i < n - 1) → Dec (i ≡ n - 1) → P (get_or (shifted xs n) i (pos 0))
      by_place (yes m) d = rw (shifted-before i m) (p (1 + i))
      by_place (no m) (yes e) = rw (e, shifted-last) z
      by_place (no m) (no e) = rw (shifted_behind i (omega (arith, m, e))) (p i)

-- what holds of a value and of every place holds after the value is set
pub set-each : {A : Type 0} (P : ℕ → A → Type 0) (xs : List A) (n : ℕ) (v d : A) → P n v → ((i : ℕ) → P i (get_or xs i d)) → (i : ℕ) → P i (get_or (set xs n v) i d)
set-each P xs n v d e p i = by_place (ℕ_discrete i n) (dec_lt n (length xs))
  where
    by_place : Dec (i ≡ n) → Dec (n < length xs) → P i (get_or (set xs n v) i d)
    by_place (yes q) (yes l) = rw (q, get_or-set_same xs n v d l) e
    by_place (yes q) (no l) = rw (set_out xs n v (omega (arith, l))) (p i)
    by_place (no q) m = rw (get_or-set_other xs n i v d q) (p i)

-- every place of a list of one value holds it, where that is the default too
pub same-each : {A : Type 0} (n i : ℕ) (v : A) → get_or (replicate n v) i v ≡ v
same-each n i v = by_place (dec_lt i n)
  where
    by_place : Dec (i < n) → get_or (replicate n v) i v ≡ v
    by_place (yes l) = get_or-replicate n i v v l
    by_place (no l) = get_or-eq_default (replicate n v) v {n = i} (rw length-replicate (omega (arith, l)))

cleared-place : (xs : List ℤ) (i : ℕ) → get_or (cleared xs) i (pos 0) ≡ pos 0
unfolding cleared
cleared-place xs i = same-each (length xs) i (pos 0)

-- ---- unused places stay 0

-- after an append
pub append-unused : (xs : List ℤ) (n : ℕ) (v : ℤ) → Unused xs n → Unused (appended xs n v) (count_after (append_answer xs n v) n)
append-unused xs n v u = append_cases Unused xs n u v (λ e h i m. get_or-set_other xs n i v (pos 0) (λ q. omega arith) ∙ u i (omega arith))

-- after a removal, the freed place among them
pub remove-unused : (xs : List ℤ) (n : ℕ) → Unused xs n → Unused (removed xs n) (count_after (remove_answer xs n) n)
remove-unused xs n u = remove-cases Unused xs n u (λ e l h i m. by_place l (omega arith) i m (ℕ_discrete i (n - 1)))
  where
    by_place : 0 < n → n ≤ length xs → (i : ℕ) → n - 1 ≤ i → Dec (i ≡ n - 1) → get_or (shifted xs n) i (pos 0) ≡ pos 0
    by_place l h i m (yes e) = rw (e, shifted-last xs n l h)
    by_place l h i m (no e) = shifted_behind xs n l h i (omega (arith, e)) ∙ u i (omega (arith, e))

-- after emptying, when all are unused
pub empty-unused : (xs : List ℤ) (n : ℕ) (v : ℤ) → Unused xs n → Unused (emptied xs n v) (count_after (empty_answer xs n v) n)
empty-unused xs n v u = empty-cases Unused xs n u v (λ i m. cleared-place xs i)

-- ---- places in range stay in range

-- every place of a part is in range
abbrev pub PlacesRanged : List ℤ → Type 0
PlacesRanged xs = (i : ℕ) → in_range (get_or xs i (pos 0)) ≡ true

abbrev pub InRange : ℤ → Type 0
InRange z = in_range z ≡ true

-- 0 is in range
pub zero-in-range : in_range (pos 0) ≡ true
zero-in-range = abs-range (pos 0) (omega arith)

-- after an append of a value in range
pub append-ranged : (xs : List ℤ) (n : ℕ) (v : ℤ) → PlacesRanged xs → in_range v ≡ true → PlacesRanged (appended xs n v)
append-ranged xs n v r e = append_cases (λ ys k. PlacesRanged ys) xs n r v (λ p h. set-each (λ _. InRange) xs n v (pos 0) e r)

-- after a removal
pub remove-ranged : (xs : List ℤ) (n : ℕ) → PlacesRanged xs → PlacesRanged (removed xs n)
remove-ranged xs n r = remove-cases (λ ys k. PlacesRanged ys) xs n r (λ p l h. shifted-each xs n l (omega arith) InRange zero-in-range r)

-- after emptying
pub empty-ranged : (xs : List ℤ) (n : ℕ) (v : ℤ) → PlacesRanged xs → PlacesRanged (emptied xs n v)
empty-ranged xs n v r = empty-cases (λ ys k. PlacesRanged ys) xs n r v (λ i. rw (cleared-place xs i) zero-in-range)

-- ---- the definitions told on the contents

-- appending puts a value behind the contents
pub append-contents : (xs : List ℤ) (n : ℕ) (v : ℤ) → length xs ≡ places → n < places → contents (appended xs n v) (n + 1) ≡ contents xs n ++ (v ∷ [])
unfolding appended
append-contents xs n v e h =
    rw (fits-holds xs n e (omega arith), ne_eqb n places (λ q. omega arith), add-one n) (take-suc-set xs n v (omega arith))

taken-one : (xs : List ℤ) (n : ℕ) → 0 < n → n ≤ length xs → take n xs ≡ get_or xs 0 (pos 0) ∷ take (n - 1) (drop 1 xs)
taken-one xs zero l h = absurd (omega arith)
taken-one [] (suc n) l h = absurd (omega arith)
taken-one (x ∷ xs) (suc n) l h = let e : suc n - 1 ≡ n = omega arith in rw e

-- removing takes the oldest off the contents
pub remove-contents : (xs : List ℤ) (n : ℕ) → length xs ≡ places → 0 < n → n ≤ places → contents xs n ≡ get_or xs 0 (pos 0) ∷ contents (removed xs n) (n - 1)
unfolding removed shifted
remove-contents xs n e l h =
    rw (fits-holds xs n e h, ne_eqb n 0 (λ q. omega arith), take_at (take (n - 1) (drop 1 xs)) (pos 0 ∷ drop n xs) (n - 1) (front_length xs n l (omega arith)))
    (taken-one xs n l (omega arith))

sum-snoc : (xs : List ℤ) (x : ℤ) → sum_all (xs ++ (x ∷ [])) ≡ sum_all xs +ℤ x
unfolding sum_all
sum-snoc [] x = +ℤ_idr x ∙ sym (+ℤ_idl x)
sum-snoc (y ∷ ys) x = ap (λ (s : ℤ). y +ℤ s) (sum-snoc ys x) ∙ sym (+ℤ_assoc y (sum_all ys) x)

-- the sum of the first places is the sum of the contents
pub sum-contents : (xs : List ℤ) (n : ℕ) → n ≤ length xs → sum_first xs n ≡ sum_all (contents xs n)
unfolding sum_first sum_all
sum-contents xs zero h = refl
sum-contents xs (suc n) h =
    ap (λ (s : ℤ). s +ℤ get_or xs n (pos 0)) (sum-contents xs n (omega arith))
    ∙ sym (sum-snoc (take n xs) (get_or xs n (pos 0)))
    ∙ ap sum_all (sym (take-suc xs n (pos 0) h))

module _ (xs : List ℤ) (n : ℕ) (e : length xs ≡ places) (l : 0 < n) (h : n ≤ places) where
  value-contents : (i : ℕ) → i < n → value_at xs n i ≡ Ok (get_or (contents xs n) i (pos 0))
  value-contents i m = rw (fits-holds xs n e h, ne_eqb n 0 (λ q. omega arith), get_or-take n xs i (pos 0) m)

  -- the oldest is the first of the contents
  pub oldest-contents : oldest_of xs n ≡ Ok (get_or (contents xs n) 0 (pos 0))
  unfolding oldest_of
  oldest-contents = value-contents 0 l

  -- the newest is the last of the contents
  pub newest-contents : newest_of xs n ≡ Ok (get_or (contents xs n) (n - 1) (pos 0))
  unfolding newest_of
  newest-contents = value-contents (n - 1) (omega arith)

-- ---- what is read is in range

value-ranged : (z : ℤ) → in_range z ≡ true → Ranged (Ok z)
value-ranged z h v e = let q : z ≡ v = cc in rw (← q) h

alarm-ranged : (k : Alarm) → Ranged (Err k)
alarm-ranged k v e = clash (cc)

-- where part and count are no FIFO there is no value
fit-ranged : (b : Bool) (s : Result ℤ Alarm) → (b ≡ true → Ranged s) → Ranged (cond b s (Err Unsound))
fit-ranged true s r v e = r refl v e
fit-ranged false s r v e = clash (cc)

place-ranged : (b : Bool) (z : ℤ) → in_range z ≡ true → Ranged (cond b (Err FifoEmpty) (Ok z))
place-ranged true z h = alarm-ranged FifoEmpty
place-ranged false z h = value-ranged z h

-- the value at a place, the oldest and the newest, where the places are
value-at-ranged : (xs : List ℤ) (n i : ℕ) → PlacesRanged xs → Ranged (value_at xs n i)
value-at-ranged xs n i r = fit-ranged (fits (length xs) n) _ (λ p. place-ranged (eqb n 0) (get_or xs i (pos 0)) (r i))

pub oldest-in-range : (xs : List ℤ) (n : ℕ) → PlacesRanged xs → Ranged (oldest_of xs n)
unfolding oldest_of
oldest-in-range xs n = value-at-ranged xs n 0

pub newest-in-range : (xs : List ℤ) (n : ℕ) → PlacesRanged xs → Ranged (newest_of xs n)
unfolding newest_of
newest-in-range xs n = value-at-ranged xs n (n - 1)

-- the sum
pub total-in-range : (xs : List ℤ) (n : ℕ) → Ranged (total_of xs n)
unfolding total_of
total-in-range xs n = fit-ranged (fits (length xs) n) _ (λ p. valued-in-range (sum_first xs n))

-- the count
pub count-in-range : (xs : List ℤ) (n : ℕ) → Ranged (count_of xs n)
unfolding count_of
count-in-range xs n =
    fit-ranged (fits (length xs) n) _
    (λ p. value-ranged (pos (n * unit)) (abs-range (pos (n * unit)) (omega (arith, (fits-bounds (length xs) n p).1))))

-- two changes that are the same moved the same value
pub change-value : {u v : ℤ} {j k : ℕ} → change_of u j ≡ change_of v k → u ≡ v
change-value {u} {v} {j} {k} e = let m : ◌≡◌ {A = Moved} (record { value = u; count = j }) (record { value = v; count = k }) = cc in ap (λ (x : Moved). x.value) m

-- what is removed, where the places are
pub removed-in-range : (xs : List ℤ) (n : ℕ) (v : ℤ) (k : ℕ) → PlacesRanged xs → remove_answer xs n ≡ change_of v k → in_range v ≡ true
unfolding remove_answer
removed-in-range xs n v k r = by_tests_lem (fits (length xs) n) (eqb n 0)
  where
    by_tests_lem : (a b : Bool) → cond a (cond b (Err FifoEmpty) (change_of (get_or xs 0 (pos 0)) (n - 1))) (Err Unsound) ≡ change_of v k → in_range v ≡ true
    by_tests_lem true false e = rw (← change-value e) (r 0)
    by_tests_lem true true e = clash (cc)
    by_tests_lem false b e = clash (cc)
