-- Laws on the axes that a line's actions move, as a list and as the check's word of bits; and a move that is read has an axis as its index.
use mathlib.Core.Path.{◌≡◌, refl, sym, ap, ◌∙◌}
use mathlib.Core.Bool.{Bool, true, false, cond, not, ◌&&◌, ◌||◌, or-false, or-true, or_assoc}
use mathlib.Core.Logic.{◌⊎◌, inl, inr}
use mathlib.Core.List.{List, [], ◌∷◌, ◌++◌, append-nil}
use Prim.Native.Nat.{ℕ, zero, suc, ◌+◌, ◌/◌, ◌%◌, ◌^◌, ◌-◌, ◌≤◌, ◌<◌}
use native.Mathlib.Omega.{arith}
use native.Mathlib.Nat.{pow-suc}
use native.Mathlib.Numerals.{one-add}
use lib.Dec.{eqb, leb}
use lib.ListN.{get_or}
use lib.Pow.{shr-shr}
use borrow.Author.Tests.{eqb-true, eqb-false, eq-eqb, ne_eqb, le-leb, lt-leb}
use Rattle.values.specs.Codes.{not_in_grammar, too_many_actions, two_moves}
use Rattle.values.specs.Choice.{both, contrary, decide}
use Rattle.tokens.specs.Token.{max_actions, LEFT, RIGHT, POS, MOV, X, W, is_axis, is_move}
use Rattle.tokens.specs.Descent.{Read, read, ends, is_index, index_of, is_indexed, index_at}
use Rattle.tokens.specs.BetweenLaws.{inside}
use Rattle.tokens.specs.SingleFault.{lower, unless}
use Rattle.checking.specs.Fault.{unindexed_at, action_at, count_fault, is_among, are_apart, moves_fault, moves_at}
use Rattle.checking.specs.SightNumber.{fault_of, all_moved, is_moved, with_move, end_fault}
use Rattle.checking.proofs.FaultLaws.{no-command-word, action-unindexed, word-command, Round, next-action}

-- ---- one more axis in a list

eqb-turned : (x y : ℕ) → eqb x y ≡ eqb y x
eqb-turned x y = decide _ (eqb x y) (λ h. h ∙ sym (eq-eqb y x (sym (eqb-true x y h)))) (λ h. h ∙ sym (ne_eqb y x (λ e. eqb-false x y h (sym e))))

among-behind : (x y : ℕ) (ys : List ℕ) → is_among x (ys ++ (y ∷ [])) ≡ (is_among x ys || eqb x y)
unfolding is_among
among-behind x y [] = or-false (eqb x y)
among-behind x y (z ∷ zs) = rw (among-behind x y zs) (sym (or_assoc (eqb x z) (is_among x zs) (eqb x y)))

turned : (a b c d : Bool) → (not (a || b) && (d && not c)) ≡ ((not a && d) && not (b || c))
turned true b c d = refl
turned false true c true = refl
turned false true c false = refl
turned false false c d = refl

apart-behind : (x : ℕ) (ys : List ℕ) → are_apart (ys ++ (x ∷ [])) ≡ (are_apart ys && not (is_among x ys))
unfolding is_among are_apart
apart-behind x [] = refl
apart-behind x (y ∷ ys) = rw (among-behind y x ys, apart-behind x ys, eqb-turned x y) (turned (is_among y ys) (eqb y x) (is_among x ys) (are_apart ys))

-- ---- one more bit in a word

down : (y m : ℕ) → m / 2 ^ suc y ≡ m / 2 / 2 ^ y
down y m = rw (← one-add y) (sym (shr-shr m 1 y))

half : (x m : ℕ) → (m + 2 ^ suc x) / 2 ≡ m / 2 + 2 ^ x
half x m = rw (pow-suc 2 x) (omega arith)

-- the bit x of m is not set: set, it is, and every other bit stays
own-bit : (x m : ℕ) → m / 2 ^ x % 2 ≡ 0 → (m + 2 ^ x) / 2 ^ x % 2 ≡ 1
own-bit zero m h = omega arith
own-bit (suc x) m h = rw (down x (m + 2 ^ suc x), half x m) (own-bit x (m / 2) (rw (← down x m) h))

other-bit : (x y m : ℕ) → m / 2 ^ x % 2 ≡ 0 → (x ≡ y → ⊥) → (m + 2 ^ x) / 2 ^ y % 2 ≡ m / 2 ^ y % 2
other-bit zero zero m h ne = absurd (ne refl)
other-bit zero (suc y) m h ne =
    let e : (m + 2 ^ 0) / 2 ≡ m / 2 = omega arith in
    rw (down y (m + 2 ^ 0), down y m, e)
other-bit (suc x) zero m h ne = rw (pow-suc 2 x) (omega arith)
other-bit (suc x) (suc y) m h ne = rw (down y (m + 2 ^ suc x), down y m, half x m) (other-bit x y (m / 2) (rw (← down x m) h) (λ e. ne (ap suc e)))

axes : (P : ℕ → Type 0) → P 1 → P 2 → P 3 → P 4 → P 5 → P 6 → (x : ℕ) → 1 ≤ x → x ≤ 6 → P x
axes P a b c d e f zero l h = absurd (omega arith)
axes P a b c d e f (suc zero) l h = a
axes P a b c d e f (suc (suc zero)) l h = b
axes P a b c d e f (suc (suc (suc zero))) l h = c
axes P a b c d e f (suc (suc (suc (suc zero)))) l h = d
axes P a b c d e f (suc (suc (suc (suc (suc zero))))) l h = e
axes P a b c d e f (suc (suc (suc (suc (suc (suc zero)))))) l h = f
axes P a b c d e f (suc (suc (suc (suc (suc (suc (suc x))))))) l h = absurd (omega arith)

-- the word has room for the bit of each axis that it has not
bit-fits : (x : ℕ) → 1 ≤ x → x ≤ 6 → (m : ℕ) → m ≤ all_moved → m / 2 ^ x % 2 ≡ 0 → m + 2 ^ x ≤ all_moved
bit-fits = axes (λ x. (m : ℕ) → m ≤ all_moved → m / 2 ^ x % 2 ≡ 0 → m + 2 ^ x ≤ all_moved)
    (λ m l h. omega arith) (λ m l h. omega arith) (λ m l h. omega arith) (λ m l h. omega arith) (λ m l h. omega arith) (λ m l h. omega arith)

bit-even : (x : ℕ) → 1 ≤ x → x ≤ 6 → (m : ℕ) → m % 2 ≡ 0 → (m + 2 ^ x) % 2 ≡ 0
bit-even = axes (λ x. (m : ℕ) → m % 2 ≡ 0 → (m + 2 ^ x) % 2 ≡ 0) (λ m h. omega arith) (λ m h. omega arith) (λ m h. omega arith) (λ m h. omega arith) (λ m h. omega arith) (λ m h. omega arith)

all_moved_lem : (x : ℕ) → 1 ≤ x → x ≤ 6 → is_moved all_moved x ≡ true
unfolding is_moved
all_moved_lem = axes (λ x. is_moved all_moved x ≡ true) refl refl refl refl refl refl

-- ---- the word tells of the list

-- each axis of the list has its bit in the word m, and no other has
pub record Bits (xs : List ℕ) (m : ℕ) : Type 0 where
  pub apart : are_apart xs ≡ true
  pub small : m ≤ all_moved
  pub even : m % 2 ≡ 0
  pub each : (y : ℕ) → 1 ≤ y → y ≤ 6 → is_moved m y ≡ is_among y xs

-- so it is, or an axis stands there twice and the word says so
abbrev pub Marks : List ℕ → ℕ → Type 0
Marks xs m = Bits xs m ⊎ ((are_apart xs ≡ false) × (m ≡ all_moved))

pub none-moved : Marks [] 0
unfolding is_moved is_among are_apart
none-moved = inl (record { apart = refl; small = omega arith; even = refl; each = axes (λ y. is_moved 0 y ≡ is_among y []) refl refl refl refl refl refl })

pub marks-small : (xs : List ℕ) (m : ℕ) → Marks xs m → m ≤ all_moved
marks-small xs m (inl b) = b.small
marks-small xs m (inr t) = let e = t.1 in omega arith

pub marks-fault : (xs : List ℕ) (m n : ℕ) → Marks xs m → end_fault n m ≡ lower (count_fault n) (moves_fault xs)
unfolding end_fault moves_fault
marks-fault xs m n (inl b) = rw (b.apart, b.even)
marks-fault xs m n (inr t) = rw (t.0, t.1)

module _ (xs : List ℕ) (m x : ℕ) (l : 1 ≤ x) (h : x ≤ 6) where
  unset : is_moved m x ≡ false → m / 2 ^ x % 2 ≡ 0
  unfolding is_moved
  unset z = let ne = eqb-false (m / 2 ^ x % 2) 1 z in omega (arith, ne)

  moved-again : Marks xs m → is_moved m x ≡ true → Marks (xs ++ (x ∷ [])) all_moved
  moved-again (inl b) z = inr (rw (apart-behind x xs, b.apart, sym (b.each x l h) ∙ z), refl)
  moved-again (inr t) z = inr (rw (apart-behind x xs, t.0), refl)

  moved-first : Marks xs m → is_moved m x ≡ false → Marks (xs ++ (x ∷ [])) (m + 2 ^ x)
  unfolding is_moved
  moved-first (inr t) z = contrary (all_moved_lem x l h) (rw t.1 at z)
  moved-first (inl b) z =
      let e = unset z in
      inl
      (record {
        apart = rw (apart-behind x xs, b.apart, sym (b.each x l h) ∙ z);
        small = bit-fits x l h m b.small e;
        even = bit-even x l h m b.even;
        each = λ y i j. rw (among-behind y x xs) (decide _ (eqb y x)
            (λ q. let w = eqb-true y x q in rw (q, w, own-bit x m e) (sym (or-true (is_among x xs))))
            (λ q. rw (q, other-bit x y m e (λ w. eqb-false y x q (sym w)), or-false (is_among y xs)) (b.each y i j)));
      })

-- behind an action that begins with the word w, whose index is x
pub marks-next : (xs : List ℕ) (m w x : ℕ) → Marks xs m → (is_move w ≡ true → (1 ≤ x) × (x ≤ 6)) → Marks (xs ++ cond (is_move w) (x ∷ []) []) (with_move m w x)
unfolding with_move
marks-next xs m w x k h =
    decide _ (is_move w)
    (λ a. decide _ (is_moved m x) (λ b. simp (with_move, a, b) (moved-again xs m x (h a).0 (h a).1 k b)) (λ b. simp (with_move, a, b) (moved-first xs m x (h a).0 (h a).1 k b)))
    (λ a. simp (with_move, a, append-nil) k)

-- ---- a move that is read

move-word : (w : ℕ) → is_move w ≡ true → (w ≡ POS) ⊎ (w ≡ MOV)
move-word w h = decide _ (eqb w POS) (λ e. inl (eqb-true w POS e)) (λ e. inr (eqb-true w MOV (rw e at h)))

axis-range : (t : ℕ) → is_axis t ≡ true → (1 ≤ t - 56) × (t - 56 ≤ 6)
axis-range t h = let a = inside X W t h in (omega (arith, a.0), omega (arith, a.1))

indexed-axis : (s : List ℕ) (w p : ℕ) → is_indexed s w p ≡ true → (w ≡ POS) ⊎ (w ≡ MOV) → (1 ≤ index_at s w p) × (index_at s w p ≤ 6)
unfolding is_indexed is_index index_at index_of
indexed-axis s w p h e = by_word e (both (eqb (get_or s (p + 3) 0) RIGHT) (is_index w (get_or s (p + 2) 0)) (both (eqb (get_or s (p + 1) 0) LEFT) _ h).1).1
  where
    by_word : (w ≡ POS) ⊎ (w ≡ MOV) → is_index w (get_or s (p + 2) 0) ≡ true → (1 ≤ index_at s w p) × (index_at s w p ≤ 6)
    by_word (inl e) i = rw e (axis-range (get_or s (p + 2) 0) (rw e at i))
    by_word (inr e) i = rw e (axis-range (get_or s (p + 2) 0) (rw e at i))

-- POS and MOV begin nothing where no index stands behind them
no_move : (s : List ℕ) (kw w p : ℕ) → (w ≡ POS) ⊎ (w ≡ MOV) → unindexed_at s kw w p ≡ ends not_in_grammar
no_move s kw w p (inl e) = sym (word-command s p kw w (omega arith)) ∙ no-command-word s kw w p (rw e) (rw e)
no_move s kw w p (inr e) = sym (word-command s p kw w (omega arith)) ∙ no-command-word s kw w p (rw e) (rw e)

no-reading : {g q k : ℕ} → ◌≡◌ {A = Read ℕ} (read g q) (ends k) → ⊥
no-reading e = let z : ◌≡◌ {A = ℕ} 0 1 = cc in omega arith

pub move-index : (s : List ℕ) (kw k p g q : ℕ) → action_at s kw k p ≡ read g q → is_move (get_or s p 0) ≡ true → (1 ≤ index_at s (get_or s p 0) p) × (index_at s (get_or s p 0) p ≤ 6)
move-index s kw k p g q e h =
    let w = move-word (get_or s p 0) h in
    decide _ (is_indexed s (get_or s p 0) p) (λ i. indexed-axis s (get_or s p 0) p i w) (λ i. let z : ◌≡◌ {A = Read ℕ} (read g q) (ends not_in_grammar) = sym e ∙ sym (action-unindexed s kw k p (get_or s p 0) refl i) ∙ no_move s kw (get_or s p 0) p w in absurd (no-reading z))

-- in a round of the loop over the actions: u is the action's first token
module _ {s : List ℕ} {kw k t n : ℕ} {xs : List ℕ} {low a y p i : ℕ} {whole : Read ℕ} (r : Round s kw k t n xs low a y p i whole) (o : i ≡ 0 → ⊥) {u : ℕ} (e : u ≡ get_or s p 0) where
  pub round-index : is_move u ≡ true → (1 ≤ index_at s u p) × (index_at s u p ≤ 6)
  round-index = rw e (move-index s kw k p (fault_of a) i (sym r.action ∙ next-action r o))

  pub round-marks : {m v : ℕ} → Marks xs m → v ≡ with_move m u (index_at s u p) → Marks (xs ++ moves_at s p) v
  unfolding moves_at
  round-marks {m} {v} h g = rw g (rw (← e) (marks-next xs m u (index_at s u p) h round-index))

-- ---- the code's steps, by the tests that told

module _ (n m : ℕ) where
  pub end-many : max_actions < n → too_many_actions ≡ end_fault n m
  unfolding end_fault count_fault lower
  end-many l = sym (rw (lt-leb n max_actions l) (by-moves (eqb (m % 2) 0)))
    where
      by-moves : (b : Bool) → lower too_many_actions (unless b two_moves) ≡ too_many_actions
      by-moves true = refl
      by-moves false = refl

  module _ (l : n ≤ max_actions) where
    few : leb n max_actions ≡ true
    few = le-leb n max_actions l

    pub end-fine : m % 2 ≡ 0 → 0 ≡ end_fault n m
    unfolding end_fault count_fault lower
    end-fine e = sym (rw (few, eq-eqb (m % 2) 0 e))

    pub end-twice : (m % 2 ≡ 0 → ⊥) → two_moves ≡ end_fault n m
    unfolding end_fault count_fault lower
    end-twice e = sym (rw (few, ne_eqb (m % 2) 0 e))

module _ (m w x : ℕ) where
  pub with_none : is_move w ≡ false → m ≡ with_move m w x
  unfolding with_move
  with_none h = sym (simp (with_move, h))

  module _ (h : is_move w ≡ true) where
    pub with-again : m / 2 ^ x % 2 ≡ 1 → all_moved ≡ with_move m w x
    unfolding with_move is_moved
    with-again e = sym (simp (with_move, is_moved, h, eq-eqb (m / 2 ^ x % 2) 1 e))

    pub with_first : (m / 2 ^ x % 2 ≡ 1 → ⊥) → m + 2 ^ x ≡ with_move m w x
    unfolding with_move is_moved
    with_first e = sym (simp (with_move, is_moved, h, ne_eqb (m / 2 ^ x % 2) 1 e))
