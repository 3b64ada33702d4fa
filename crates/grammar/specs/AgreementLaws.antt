-- Laws that both directions of the agreement rest on: tests of tokens, choices, steps of the reader, and where tokens stand. Assumes nothing.
use Rattle.std.specs.Prelude.{◌≡◌, refl, true, false, List, [], ◌∷◌, ◌++◌, ℕ, ◌+◌, ◌%◌, ◌≤◌, ◌<◌, T, eqb, leb, length, get_or}
use Rattle.std.proofs.Math.Bool.{and-false}
use Rattle.std.proofs.Common.{arith, length-append, leb-true, leb-false, le-leb, eq-eqb, eqb-true}
use Rattle.std.proofs.lemmas.Bool.{lt-leb}
use Rattle.values.specs.Numbers.{clash}
use Rattle.values.specs.Choice.{holds, told-so, both}
use Rattle.tokens.specs.Token.{NUMBER, LEFT, RIGHT, IM, between, is_number, is_variable, is_numbered, has_axis, is_axis, is_whole, number_carried, whole, whole_token, axis_of, FIFO4, IN}
use Rattle.tokens.specs.Descent.{Answer, good, stop, Read, read, ends, ◌>>=◌, then, up_to, is_index, index_of, is_indexed, index_at}
use Rattle.grammar.specs.Tree.{Place, cell, axis, place_word, place_index, place_token}
use Rattle.grammar.specs.Meaning.{Stands}

-- ---- tests

-- a token in a range, and outside of it
pub bounds : (low high t : ℕ) → T (between low high t) → (low ≤ t) × (t ≤ high)
bounds low high t v = let h = both (leb low t) (leb t high) (holds _ v) in (leb-true _ _ h.0, leb-true _ _ h.1)

pub within : (low high t : ℕ) → low ≤ t → t ≤ high → between low high t ≡ true
within low high t h g = rw (le-leb low t h, le-leb t high g)

pub before : (low high t : ℕ) → t < low → between low high t ≡ false
before low high t h = rw (lt-leb low t h)

pub beyond : (low high t : ℕ) → high < t → between low high t ≡ false
beyond low high t h = rw (lt-leb t high h) (and-false (leb low t))

-- ---- steps of the reader

-- going on with nothing
pub bind-good : {A : Type 0} (m : Answer A) → (m >>= good) ≡ m
bind-good (good a) = refl
bind-good (stop c) = refl

-- where a reading gave an answer, and going on from there gives an answer
pub goes_on_lem : {A B : Type 0} (m : Answer A) (r : Read A) (f : A → ℕ → Read B) (g : A → Answer B) (i q : ℕ) → r ≡ up_to m i → ((a : A) → f a i ≡ up_to (g a) q) → then r f ≡ up_to (m >>= g) q
goes_on_lem (good a) r f g i q e h = rw e (h a)
goes_on_lem (stop c) r f g i q e h = rw e

-- what a reading that went well is made of
pub ends_read : {A : Type 0} (P : Type 0) (c q : ℕ) (a : A) → ◌≡◌ {A = Read A} (ends c) (read a q) → P
ends_read P c q a h = clash (cc)

pub then-read : {A B : Type 0} (r : Read A) (f : A → ℕ → Read B) (b : B) (q : ℕ) → then r f ≡ read b q → (a : A) × (i : ℕ) × (r ≡ read a i) × (f a i ≡ read b q)
then-read (read a i) f b q h = (a, i, refl, h)
then-read (ends c) f b q h = ends_read _ c q b h

pub up_to-read : {A : Type 0} (m : Answer A) (i : ℕ) (a : A) (q : ℕ) → up_to m i ≡ read a q → (m ≡ good a) × (i ≡ q)
up_to-read (good x) i a q h = (cc, cc)
up_to-read (stop c) i a q h = ends_read _ c q a h

-- ---- where tokens stand

-- two rows, one behind the other, stand as one, with a place between them
pub stands-split : (s l m : List ℕ) (p q : ℕ) → Stands s p (l ++ m) q → (i : ℕ) × Stands s p l i × Stands s i m q
stands-split s [] m p q h = (p, refl, h)
stands-split s (t ∷ l) m p q h = let r = stands-split s l m (p + 1) q h.1 in (r.0, (h.0, r.1), r.2)

pub stands-join : (s l m : List ℕ) (p i q : ℕ) → Stands s p l i → Stands s i m q → Stands s p (l ++ m) q
stands-join s [] m p i q h g = rw h g
stands-join s (t ∷ l) m p i q h g = (h.0, stands-join s l m (p + 1) i q h.1 g)

-- the place behind is as many places on as there are tokens
pub stands-place : (s l : List ℕ) (p q : ℕ) → Stands s p l q → q ≡ p + length l
stands-place s [] p q h = omega arith
stands-place s (t ∷ l) p q h = let e = stands-place s l (p + 1) q h.1 in omega arith

-- the count of the tokens of both parts is enough for each
pub parts-fit : (l m : List ℕ) (k : ℕ) → length (l ++ m) ≤ k → (length l ≤ k) × (length m ≤ k)
parts-fit l m k h = let g = simp length-append at h in (omega arith, omega arith)

-- ---- a word and its index

-- a word that has a number for an index
pub numbered : (w : ℕ) → T (is_numbered w) → (is_number w ≡ false) × (is_variable w ≡ true) × (has_axis w ≡ false)
numbered w v = let b = bounds IN FIFO4 w v in (lt-leb NUMBER w (omega arith), within IN IM w (omega arith) (omega arith), lt-leb IM w (omega arith))

-- the token of a whole number is one without a point, and carries it
pub whole-token : (n : ℕ) → (is_whole (whole_token n) ≡ true) × (whole (whole_token n) ≡ n)
whole-token n = (rw (le-leb NUMBER (whole_token n) (omega arith)) (eq-eqb (number_carried (whole_token n) % 2000) 0 (omega arith)), omega arith)

-- it is the index of a word that has a number for an index; an axis is that of the others
pub number-index : (w n : ℕ) → has_axis w ≡ false → (is_index w (whole_token n) ≡ true) × (index_of w (whole_token n) ≡ n)
unfolding is_index index_of
number-index w n h = let g = whole-token n in (rw h g.0, rw h g.1)

pub axis-index : (w x : ℕ) → has_axis w ≡ true → T (is_axis x) → (is_index w x ≡ true) × (index_of w x ≡ axis_of x)
unfolding is_index index_of
axis-index w x h v = (rw h (holds _ v), rw h)

-- where w[t] stands at p, the reader sees its index, up to the place behind it
pub index-stands : (s : List ℕ) (w t p q : ℕ) → is_index w t ≡ true → Stands s p (w ∷ LEFT ∷ t ∷ RIGHT ∷ []) q → (is_indexed s w p ≡ true) × (index_at s w p ≡ index_of w t) × (p + 4 ≡ q)
unfolding is_indexed index_at
index-stands s w t p q v h =
    let two : p + 1 + 1 ≡ p + 2 = omega arith in
    let three : p + 1 + 1 + 1 ≡ p + 3 = omega arith in
    let l : get_or s (p + 1) 0 ≡ LEFT = h.1.0 in
    let i : get_or s (p + 2) 0 ≡ t = rw two at h.1.1.0 in
    let r : get_or s (p + 3) 0 ≡ RIGHT = rw three at h.1.1.1.0 in
    let e = h.1.1.1.1 in
    (rw (l, r, i) v, rw i, omega arith)

-- a token of a number without a point is that of a whole number
pub whole-written : (t : ℕ) → is_whole t ≡ true → t ≡ whole_token (whole t)
whole-written t h =
    let b = both (leb NUMBER t) (eqb (number_carried t % 2000) 0) h in
    let n = leb-true NUMBER t b.0 in
    let r = eqb-true (number_carried t % 2000) 0 b.1 in
    omega arith

-- what stands where the word w at p has an index behind it: a number, or an axis
pub index-written : (s : List ℕ) (w p : ℕ) → get_or s p 0 ≡ w → is_indexed s w p ≡ true → Stands s p (w ∷ LEFT ∷ get_or s (p + 2) 0 ∷ RIGHT ∷ []) (p + 4) × (is_index w (get_or s (p + 2) 0) ≡ true)
unfolding is_indexed
index-written s w p h e =
    let b = both (eqb (get_or s (p + 1) 0) LEFT) _ e in
    let c = both (eqb (get_or s (p + 3) 0) RIGHT) _ b.1 in
    let two : p + 1 + 1 ≡ p + 2 = omega arith in
    let three : p + 2 + 1 ≡ p + 3 = omega arith in
    let four : p + 3 + 1 ≡ p + 4 = omega arith in
    ((h, (eqb-true _ _ b.0, rw (two, three, four) (refl, (eqb-true _ _ c.0, refl)))), c.1)

pub number-written : (s : List ℕ) (w p : ℕ) → get_or s p 0 ≡ w → has_axis w ≡ false → is_indexed s w p ≡ true → Stands s p (w ∷ LEFT ∷ whole_token (index_at s w p) ∷ RIGHT ∷ []) (p + 4)
unfolding is_index index_at index_of
number-written s w p h a e =
    let (g, i) = index-written s w p h e in
    rw a (rw (← (whole-written (get_or s (p + 2) 0) (rw a at i))) g)

pub axis-written : (s : List ℕ) (w p : ℕ) → get_or s p 0 ≡ w → has_axis w ≡ true → is_indexed s w p ≡ true → Stands s p (w ∷ LEFT ∷ get_or s (p + 2) 0 ∷ RIGHT ∷ []) (p + 4) × T (is_axis (get_or s (p + 2) 0)) × (index_at s w p ≡ axis_of (get_or s (p + 2) 0))
unfolding is_index index_at index_of
axis-written s w p h a e =
    let (g, i) = index-written s w p h e in
    (g, told-so _ (rw a at i), rw a)

-- a variable has a number for an index, or is $AA_IM
pub variable-kind : (w : ℕ) → is_variable w ≡ true → (has_axis w ≡ true → w ≡ IM) × (has_axis w ≡ false → T (is_numbered w))
variable-kind w h =
    let b = bounds IN IM w (told-so _ h) in
    (λ a. let c = leb-true IM w a in omega arith, λ a. let c = leb-false IM w a in told-so _ (within IN FIFO4 w b.0 (omega arith)))

-- ---- a place

-- its word is a variable, and the token of its index is an index of it
pub place-index : (y : Place) → (is_variable (place_word y) ≡ true) × (is_index (place_word y) (place_token y) ≡ true) × (index_of (place_word y) (place_token y) ≡ place_index y)
place-index (cell w v i) = let f = numbered w v in let x = number-index w i f.2 in (f.1, x.0, x.1)
place-index (axis x v) = let g = axis-index IM x refl v in (refl, g.0, g.1)
