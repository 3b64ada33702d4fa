-- A text that is put into a buffer is one part of it: what stands before the place, as much of the text as has room, what stands behind. Assumes nothing.
use Rattle.std.proofs.Common.{◌≡◌, sym, ap, ◌∙◌, arith, add-one, List, [], ◌∷◌, ◌++◌, ℕ, zero, suc, ◌+◌, ◌-◌, min, ◌≤◌, ◌<◌, length, set, take, drop, append_assoc, length-set}
use borrow.Rule.Slice.PartMut.{put_mid, post_of}
use Rattle.std.proofs.Math.Seq.{take-suc-set, drop-drop}
use Rattle.std.proofs.lemmas.List.{drop-set-lt, take-append-drop}
use Rattle.values.specs.PutAt.{put_at}
use Rattle.values.specs.PutLaws.{put-past}

nothing_put : (s : List ℕ) (p : ℕ) → put_mid p 0 s [] ≡ s
nothing_put s p = take-append-drop p s

byte_put : (l s : List ℕ) (p j x : ℕ) → p < length s → put_mid p (suc j) s (x ∷ take j l) ≡ put_mid (p + 1) j (set s p x) (take j l)
byte_put l s p j x h =
    let t : take (p + 1) (set s p x) ≡ take p s ++ (x ∷ []) = rw add-one (take-suc-set s p x h) in
    let n : p + 1 + j ≡ p + suc j = omega arith in
    let d : post_of (p + 1) j (set s p x) ≡ post_of p (suc j) s = ap (λ (u : List ℕ). drop j u) (drop-set-lt (p + 1) s p x (omega arith)) ∙ drop-drop j (p + 1) s ∙ ap (λ (m : ℕ). drop m s) n ∙ sym (drop-drop (suc j) p s) in
    sym (ap (λ (u : List ℕ). u ++ (take j l ++ post_of (p + 1) j (set s p x))) t ∙ ap (λ (u : List ℕ). take p s ++ (x ∷ []) ++ (take j l ++ u)) d ∙ append_assoc (take p s) (x ∷ []) (take j l ++ post_of p (suc j) s))

pub put_part : (l s : List ℕ) (p k : ℕ) → p ≤ length s → k ≡ min (length l) (length s - p) → put_mid p k s (take k l) ≡ put_at s p l
put_part [] s p k h e = let z : k ≡ 0 = omega arith in rw z (nothing_put s p)
put_part (x ∷ l) s p zero h e = nothing_put s p ∙ sym (put-past (x ∷ l) s p (omega arith))
put_part (x ∷ l) s p (suc j) h e =
    let n = length-set s p x in
    byte_put l s p j x (omega arith) ∙ put_part l (set s p x) (p + 1) j (omega arith) (omega arith)
