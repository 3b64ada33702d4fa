-- ONE AXIS, ONE MOVE IN A LINE (document 02, Req 08): a line without a fault moves no axis twice, 14 is told exactly where nothing else is wrong and an axis is moved twice, and without 14 a line has the fault that it had
-- before. Theorems; nothing is assumed.
use Rattle.std.specs.Prelude.{◌≡◌, refl, Bool, true, false, not, List, [], ◌∷◌, ◌↔◌, ℕ, zero, suc, ◌<◌, eqb, length, get_or}
use Rattle.std.proofs.Common.{inl, inr, arith, eqb-true, eq-eqb}
use Rattle.std.proofs.lemmas.Bool.{not-true}
use Rattle.values.specs.Codes.{two_moves}
use Rattle.values.specs.Choice.{both, decide, contrary}
use Rattle.tokens.specs.SingleFault.{lower, unless}
use Rattle.tokens.specs.SingleFaultLaws.{none_first}
use Rattle.checking.specs.Fault.{is_among, are_apart, moves_fault}
use Rattle.grammar.specs.Tree.{Line}
use Rattle.grammar.specs.TreeFault.{moves_in, parts_fault, line_fault, AxesApart, PartFault}
use Rattle.grammar.specs.TreeFaultLaws.{lower-none, lower-min, parts-proper}

-- ---- the test of axes is that they are apart

-- an axis is among some exactly if it stands at one of their places
found_at : (x : ℕ) (xs : List ℕ) → is_among x xs ≡ true → (j : ℕ) × (j < length xs) × (x ≡ get_or xs j 0)
unfolding is_among
found_at x [] h = contrary h refl
found_at x (y ∷ ys) h =
    decide _ (eqb x y)
    (λ e. (0, omega arith, eqb-true x y e))
    (λ e. let (j, l, z) = found_at x ys (rw e at h) in (suc j, omega arith, z))

not_at : (x : ℕ) (xs : List ℕ) → is_among x xs ≡ false → (j : ℕ) → j < length xs → x ≡ get_or xs j 0 → ⊥
unfolding is_among
not_at x [] h j l e = omega arith
not_at x (y ∷ ys) h zero l e = let z = eq-eqb x y e in contrary refl (rw z at h)
not_at x (y ∷ ys) h (suc j) l e =
    decide _ (eqb x y) (λ z. contrary refl (rw z at h)) (λ z. not_at x ys (rw z at h) j (omega arith) e)

apart-so : (xs : List ℕ) → are_apart xs ≡ true → AxesApart xs
unfolding are_apart
apart-so [] h i j l m e = omega arith
apart-so (x ∷ xs) h i zero l m e = omega arith
apart-so (x ∷ xs) h zero (suc j) l m e = not_at x xs (not-true (is_among x xs) (both (not (is_among x xs)) (are_apart xs) h).0) j (omega arith) e
apart-so (x ∷ xs) h (suc i) (suc j) l m e = apart-so xs (both (not (is_among x xs)) (are_apart xs) h).1 i j (omega arith) (omega arith) e

apart-told : (xs : List ℕ) → AxesApart xs → are_apart xs ≡ true
unfolding are_apart
apart-told [] h = refl
apart-told (x ∷ xs) h =
    let rest = apart-told xs (λ i j l m e. h (suc i) (suc j) (omega arith) (omega arith) e) in
    decide _ (is_among x xs)
    (λ t. let (j, l, e) = found_at x xs t in absurd (h 0 (suc j) (omega arith) (omega arith) e))
    (λ t. rw (t, rest))

-- ---- 14 behind the other faults

first-14 : (a : ℕ) (b : Bool) → PartFault a → (lower a (unless b two_moves) ≡ two_moves) ↔ ((a ≡ 0) × (b ≡ false))
first-14 a true (inl e) = ((λ h. let z : ◌≡◌ {A = ℕ} 0 two_moves = rw (e, none_first 0) at h in absurd (omega arith)), (λ h. contrary refl h.1))
first-14 a false (inl e) = ((λ _. (e, refl)), (λ _. rw (e, none_first two_moves)))
first-14 a true (inr h) = ((λ e. let z : a ≡ two_moves = rw (lower-none a) at e in absurd (omega arith)), (λ x. contrary refl x.1))
first-14 a false (inr h) = let m = lower-min a two_moves (omega arith) (omega arith) in ((λ e. absurd (omega arith)), (λ x. let z = x.0 in absurd (omega arith)))

not-14 : (a : ℕ) (b : Bool) → PartFault a → (lower a (unless b two_moves) ≡ two_moves → ⊥) → lower a (unless b two_moves) ≡ a
not-14 a true h n = lower-none a
not-14 a false (inl e) n = absurd (n (rw (e, none_first two_moves)))
not-14 a false (inr h) n = let m = lower-min a two_moves (omega arith) (omega arith) in omega arith

-- ---- the theorems

-- ONE MOVE: a line without a fault moves no axis twice
pub one-move : (l : Line) → line_fault l ≡ 0 → AxesApart (moves_in l)
unfolding line_fault moves_fault
one-move l h =
    decide _ (are_apart (moves_in l))
    (λ t. apart-so (moves_in l) t)
    (λ t. absurd (moved_twice (parts_fault l) (parts-proper l) (rw t at h)))
  where
    moved_twice : (a : ℕ) → PartFault a → lower a two_moves ≡ 0 → ⊥
    moved_twice a (inl e) z = let y : ◌≡◌ {A = ℕ} two_moves 0 = rw (e, none_first two_moves) at z in omega arith
    moved_twice a (inr g) z = let m = lower-min a two_moves (omega arith) (omega arith) in omega arith

-- 14, both ways: nothing else is wrong with the line, and it moves an axis twice
pub line-14 : (l : Line) → (line_fault l ≡ two_moves) ↔ ((parts_fault l ≡ 0) × (AxesApart (moves_in l) → ⊥))
unfolding line_fault moves_fault
line-14 l =
    let f = first-14 (parts_fault l) (are_apart (moves_in l)) (parts-proper l) in (
      (λ e. let (z, t) = f.0 e in (z, λ a. contrary (apart-told (moves_in l) a) t)),
      (λ x. f.1 (x.0, decide _ (are_apart (moves_in l)) (λ t. absurd (x.1 (apart-so (moves_in l) t))) (λ t. t))),
    )

-- AS BEFORE: without 14 the fault of a line is that of its number, its condition, its actions and their count
pub as_before : (l : Line) → (line_fault l ≡ two_moves → ⊥) → line_fault l ≡ parts_fault l
unfolding line_fault moves_fault
as_before l = not-14 (parts_fault l) (are_apart (moves_in l)) (parts-proper l)

-- a line whose axes are apart has the fault that it had
pub apart-as-before : (l : Line) → AxesApart (moves_in l) → line_fault l ≡ parts_fault l
apart-as-before l a = as_before l (λ e. ((line-14 l).0 e).1 a)
