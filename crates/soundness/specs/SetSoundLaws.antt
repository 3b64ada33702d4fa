-- Laws of the lines of a set: the names that they use, the curves that it has, and how a line is found by its number. Nothing is assumed.
use Rattle.std.specs.Prelude.{Result, Ok, Err, ◌≡◌, refl, Bool, true, false, cond, List, [], ◌∷◌, ℕ, zero, suc, ◌+◌, ◌-◌, ◌≤◌, ◌<◌, eqb, ltb, leb, length, get_or, is_some, Option, Some, None, unwrap_or, option_and_then}
use Rattle.std.proofs.Common.{sym, ◌∙◌, arith, eqb-true, eq-eqb, leb-true}
use Rattle.std.proofs.Math.Decide.{dec_lt}
use Rattle.values.specs.Choice.{either, both}
use Rattle.values.specs.Numbers.{clash}
use Rattle.tokens.specs.Token.{set_size, max_lines, max_curves}
use Rattle.checking.specs.declared.definition.Definition.{Definition}
use Rattle.engine.specs.declared.set.Lines.{Lines}
use Rattle.engine.specs.SetLinesLaws.{Lined, lines-lined, first_lines}
use Rattle.engine.specs.Set.{empty_set, start_of, no_line, curve_start, curve_line, no_lines, lines_read, lines_from, rank_in, names_known, is_defined, curves_from, curves_in, set_table, has_number, is_curve, curves_sound, all_known, named_lines, sound_lines, lines_of}

-- ---- the names that its lines use

both_true : (a b : Bool) → elim a [ true ↦ b | false ↦ false ] ≡ true → (a ≡ true) × (b ≡ true)
both_true true b e = (refl, e)
both_true false b e = clash (cc)

all_known_lem : (s : List ℕ) (known : ℕ → ℕ → Bool) (m j : ℕ) → all_known s known m j ≡ true → (i k : ℕ) → i < m → k ≡ j + i → names_known s known set_size (start_of s k) ≡ true
unfolding all_known
all_known_lem s known zero j h i k l e = absurd (omega arith)
all_known_lem s known (suc m) j h zero k l e = let q : k ≡ j = omega arith in rw q (both_true (names_known s known set_size (start_of s j)) (all_known s known m (j + 1)) h).0
all_known_lem s known (suc m) j h (suc i) k l e =
    all_known_lem s known m (j + 1) (both_true (names_known s known set_size (start_of s j)) (all_known s known m (j + 1)) h).1 i k (omega arith) (omega arith)

-- a sound set passed the check of its curves and that of the names of its lines, and its lines are those that are read
pub sound-checked : (s : List ℕ) → is_some (sound_lines s) ≡ true →
    (curves_sound s max_curves 1 (first_lines s).count ≡ true) × (all_known s (set_table s (first_lines s).numbers) (first_lines s).count 0 ≡ true) × (lines_of s ≡ first_lines s)
unfolding sound_lines named_lines
sound-checked s = go (lines_read s)
  where
    by_tests_lem : (l : Lines) (a b : Bool) → let x : Option Lines = elim a [ true ↦ elim b [ true ↦ Some l | false ↦ None ] | false ↦ None ] in
        is_some x ≡ true → (a ≡ true) × (b ≡ true) × (unwrap_or x no_lines ≡ l)
    by_tests_lem l true true h = (refl, refl, refl)
    by_tests_lem l true false h = clash (cc)
    by_tests_lem l false b h = clash (cc)

    go : (o : Option Lines) →
        let l : Lines = unwrap_or o no_lines in
        let x : Option Lines = option_and_then (λ (l : Lines). elim (curves_sound s max_curves 1 l.count) [ true ↦ named_lines s l | false ↦ None ]) o in
        is_some x ≡ true → (curves_sound s max_curves 1 l.count ≡ true) × (all_known s (set_table s l.numbers) l.count 0 ≡ true) × (unwrap_or x no_lines ≡ l)
    go None h = clash (cc)
    go (Some l) h = by_tests_lem l (curves_sound s max_curves 1 l.count) (all_known s (set_table s l.numbers) l.count 0) h

-- each line of a sound set names only lines and curves of the set
pub lines-known : (s : List ℕ) → is_some (sound_lines s) ≡ true → (k : ℕ) → k < (lines_of s).count → names_known s (set_table s (lines_of s).numbers) set_size (start_of s k) ≡ true
lines-known s h =
    let c = sound-checked s h in
    rw c.2 (λ k l. all_known_lem s (set_table s (first_lines s).numbers) (first_lines s).count 0 c.1 k k l (omega arith))

-- ---- its curves

-- how many of a row of curves are there
unfoldable pub how_many : List Bool → ℕ
how_many [] = 0
how_many (b ∷ bs) = cond b 1 0 + how_many bs

-- what is so of m curves from curve n on, of which `there` says which are there, where k lines are before them: each that is there is one, and with them there are at most 32
record CurvesFine (s : List ℕ) (there : List Bool) (n k : ℕ) : Type 0 where
  curves : (j : ℕ) → get_or there j false ≡ true → is_curve s (n + j) ≡ true
  few : k + how_many there ≤ max_lines

-- one curve before them
one-before : (s : List ℕ) (there : List Bool) (n k i : ℕ) (b : Bool) → (b ≡ true → is_curve s n ≡ true) → i ≡ k + cond b 1 0 → CurvesFine s there (n + 1) i → CurvesFine s (b ∷ there) n k
unfolding how_many
one-before s there n k i b h e f = record { curves = at_place; few = omega (arith, f.few) }
  where
    at_place : (j : ℕ) → get_or (b ∷ there) j false ≡ true → is_curve s (n + j) ≡ true
    at_place zero g = let q : n + 0 ≡ n = omega arith in rw q (h g)
    at_place (suc j) g = let q : n + suc j ≡ n + 1 + j = omega arith in rw q (f.curves j g)

-- what the check of the curves found
checked-curves : (s : List ℕ) (m n k : ℕ) → curves_sound s m n k ≡ true → CurvesFine s (curves_from s m n) n k
unfolding curves_sound curves_from how_many
checked-curves s zero n k h = record { curves = λ j e. clash (cc); few = omega (arith, leb-true k max_lines h) }
checked-curves s (suc m) n k h = by_tests_lem (ltb 0 (curve_start s n)) (is_curve s n) refl h (checked-curves s m (n + 1))
  where
    by_tests_lem : (a b : Bool) → is_curve s n ≡ b → elim a [ true ↦ elim b [ true ↦ curves_sound s m (n + 1) (k + 1) | false ↦ false ] | false ↦ curves_sound s m (n + 1) k ] ≡ true →
        ((i : ℕ) → curves_sound s m (n + 1) i ≡ true → CurvesFine s (curves_from s m (n + 1)) (n + 1) i) → CurvesFine s (a ∷ curves_from s m (n + 1)) n k
    by_tests_lem true true c g f = one-before s _ n k (k + 1) true (λ _. c) (omega arith) (f (k + 1) g)
    by_tests_lem true false c g f = clash (cc)
    by_tests_lem false b c g f = one-before s _ n k k false (λ e. clash (cc)) (omega arith) (f k g)

-- each curve of a sound set is defined without a fault, by its number
pub curves-sound : (s : List ℕ) → is_some (sound_lines s) ≡ true → (n : ℕ) → is_defined (curves_in s) n ≡ true → is_curve s n ≡ true
curves-sound s h n d =
    let (l, e) = both (leb 1 n) (get_or (curves_in s) (n - 1) false) d in
    let q : n ≡ 1 + (n - 1) = omega (arith, leb-true 1 n l) in
    rw q ((checked-curves s max_curves 1 (first_lines s).count (sound-checked s h).0).curves (n - 1) e)

-- so its line has no fault, and its number
pub curve-defined : (s : List ℕ) → is_some (sound_lines s) ≡ true → (n : ℕ) → is_defined (curves_in s) n ≡ true → (x : Definition) × (curve_line s n ≡ Ok x) × (x.number ≡ n)
curve-defined s h n d = told (curve_line s n) refl (curves-sound s h n d)
  where
    told : (r : Result Definition ℕ) → curve_line s n ≡ r → has_number n r ≡ true → (x : Definition) × (curve_line s n ≡ Ok x) × (x.number ≡ n)
    told (Ok x) e t = (x, e, eqb-true x.number n t)
    told (Err k) e t = clash (cc)

-- and its lines and curves are at most 32
pub curves-few : (s : List ℕ) → is_some (sound_lines s) ≡ true → (lines_of s).count + how_many (curves_in s) ≤ max_lines
curves-few s h = let c = sound-checked s h in rw c.2 (checked-curves s max_curves 1 (first_lines s).count c.0).few

-- ---- found by its number

-- no rank is below the one that is counted from
pub rank-least : (ns : List ℕ) (n k : ℕ) → k ≤ rank_in ns n k
unfolding rank_in
rank-least [] n k = omega arith
rank-least (x ∷ xs) n k = either (λ r. k ≤ r) (eqb x n) (λ p. omega arith) (λ p. let h = rank-least xs n (k + 1) in omega arith)

rank-at : (ns : List ℕ) (n k : ℕ) → rank_in ns n k < k + length ns → get_or ns (rank_in ns n k - k) 0 ≡ n
unfolding rank_in
rank-at [] n k = λ h. absurd (omega arith)
rank-at (x ∷ xs) n k =
    either (λ r. r < k + suc (length xs) → get_or (x ∷ xs) (r - k) 0 ≡ n) (eqb x n)
    (λ p h. let e : k - k ≡ 0 = omega arith in rw e (eqb-true x n p)) λ p h.
    let l = rank-least xs n (k + 1) in
    let e : rank_in xs n (k + 1) - k ≡ suc (rank_in xs n (k + 1) - (k + 1)) = omega arith in
    rw e (rank-at xs n (k + 1) (omega arith))

-- a number is found no later than where it stands
pub rank-first : (ns : List ℕ) (n k i : ℕ) → i < length ns → get_or ns i 0 ≡ n → rank_in ns n k ≤ k + i
unfolding rank_in
rank-first [] n k i l e = absurd (omega arith)
rank-first (x ∷ xs) n k zero l e = rw (rank_in, eq-eqb x n e) (omega arith)
rank-first (x ∷ xs) n k (suc i) l e =
    either (λ r. r ≤ k + suc i) (eqb x n)
    (λ t. omega arith)
    (λ t. let h = rank-first xs n (k + 1) i (omega arith) e in omega arith)

-- a number found in 32 is the number at the rank found
pub rank-number : (ns : List ℕ) (n : ℕ) → length ns ≡ max_lines → rank_in ns n 0 < max_lines → get_or ns (rank_in ns n 0) 0 ≡ n
rank-number ns n e h = let q : rank_in ns n 0 - 0 ≡ rank_in ns n 0 = omega arith in rw q at (rank-at ns n 0 (omega arith))

-- a line's number, from 1 on, is found among the set's lines or not at all
pub rank-inside : (s : List ℕ) (n : ℕ) → 1 ≤ n → rank_in (lines_of s).numbers n 0 < max_lines → rank_in (lines_of s).numbers n 0 < (lines_of s).count
rank-inside s n l h = by_place (dec_lt (rank_in (lines_of s).numbers n 0) (lines_of s).count)
  where
    by_place : Dec (rank_in (lines_of s).numbers n 0 < (lines_of s).count) → rank_in (lines_of s).numbers n 0 < (lines_of s).count
    by_place (yes m) = m
    by_place (no m) =
        let a = rank-number (lines_of s).numbers n (lines-lined s).numbers_length h in
        let b = (lines-lined s).listed.none (rank_in (lines_of s).numbers n 0) (omega (arith, m)) in
        absurd (omega arith)

-- the number of a line of the set is found at the line's rank
pub rank-own : (s : List ℕ) (k : ℕ) → k < (lines_of s).count → rank_in (lines_of s).numbers (get_or (lines_of s).items k no_line).number 0 ≡ k
rank-own s k h = by_place (dec_lt r k)
  where
    lined : Lined s (lines_of s)
    lined = lines-lined s

    n : ℕ
    n = (get_or (lines_of s).items k no_line).number

    r : ℕ
    r = rank_in (lines_of s).numbers n 0

    first : r ≤ 0 + k
    first = rank-first (lines_of s).numbers n 0 k (omega (arith, lined.numbers_length, lined.few)) (lined.listed.number k h)

    by_place : Dec (r < k) → r ≡ k
    by_place (yes m) =
        let a = sym (lined.listed.number r (omega arith)) ∙ rank-number (lines_of s).numbers n lined.numbers_length (omega (arith, lined.few)) in
        let b = lined.listed.rising r k m h in
        absurd (omega arith)
    by_place (no m) = omega (arith, first, m)

-- ---- the empty set

-- it is sound, with no line
pub empty-sound : is_some (sound_lines empty_set) ≡ true
unfolding sound_lines named_lines curves_sound lines_read empty_set all_known lines_from
empty-sound = refl
