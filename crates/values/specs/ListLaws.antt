-- Lists that are written from the front, or of which a part is copied there, and sums of the first places.
use Rattle.std.specs.Prelude.{◌≡◌, List, ◌∷◌, ◌++◌, ℕ, suc, ◌+◌, ◌-◌, ◌≤◌, ◌<◌, ℤ, pos, ◌+ℤ◌, length, take, drop, get_or, set, replicate}
use Rattle.std.proofs.Common.{ap, ◌∙◌, add-one, arith, length-drop, drop-cons, length-take-le}
use Rattle.std.proofs.lemmas.List.{replicate-append-replicate, set_at}
use Rattle.std.proofs.Math.Seq.{append_snoc}
use Rattle.std.specs.List.{copy_within}
use Rattle.values.specs.Fifo.{sum_first}

-- the place after what was written
pub put : {A : Type 0} (p : List A) (j : ℕ) → length p ≡ j → (d : List A) → j < length d → (x z : A) → set (p ++ drop j d) j x ≡ p ++ (x ∷ drop (j + 1) d)
put p j e d h x z = rw (drop-cons d j z h, set_at p (get_or d j z) (drop (suc j) d) x j e, add-one j)

-- the first n places without the first of them, copied to the front, and a 0 at the place that becomes free
pub put-last : (xs : List ℤ) (n : ℕ) → 0 < n → n ≤ length xs → set (copy_within xs 1 n 0) (n - 1) (pos 0) ≡ take (n - 1) (drop 1 xs) ++ (pos 0 ∷ drop n xs)
put-last xs n l h =
    let e : length (take (n - 1) (drop 1 xs)) ≡ n - 1 = length-take-le (n - 1) (drop 1 xs) (rw length-drop (omega arith)) in
    let f : n - 1 + 1 ≡ n = omega arith in
    let p : 0 + (n - 1) ≡ n - 1 = omega arith in
    let k : copy_within xs 1 n 0 ≡ take (n - 1) (drop 1 xs) ++ drop (n - 1) xs = rw p in
    ap (λ (ys : List ℤ). set ys (n - 1) (pos 0)) k
    ∙ put (take (n - 1) (drop 1 xs)) (n - 1) e xs (omega arith) (pos 0) (pos 0)
    ∙ ap (λ (m : ℕ). take (n - 1) (drop 1 xs) ++ (pos 0 ∷ drop m xs)) f

pub replicate_more : {A : Type 0} (i : ℕ) (v : A) (r : List A) → replicate i v ++ (v ∷ r) ≡ replicate (i + 1) v ++ r
replicate_more i v r = rw (← append_snoc, replicate-append-replicate i 1 v)

pub sum-next : (xs : List ℤ) (i : ℕ) → sum_first xs (i + 1) ≡ sum_first xs i +ℤ get_or xs i (pos 0)
unfolding sum_first
sum-next xs i = rw (add-one i)
