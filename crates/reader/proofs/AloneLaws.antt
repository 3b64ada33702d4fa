-- Laws of tokens that are laid at the beginning of an array that is otherwise 0, and wiped off again.
use mathlib.Core.Path.{◌≡◌, refl, sym, ap, ◌∙◌}
use mathlib.Core.List.{List, [], ◌∷◌, ◌++◌}
use Prim.Native.Nat.{ℕ, suc, ◌+◌, ◌<◌, ◌≤◌}
use native.Mathlib.Omega.{arith}
use lib.ListN.{length, set, drop, replicate}
use lib.Seq.{set-set, set_comm, set-get_or}
use Rattle.values.specs.PutAt.{put_at}
use Rattle.tokens.specs.Token.{set_size}
use Rattle.engine.specs.Set.{empty_set}
use Rattle.reader.specs.Draft.{alone}
use Rattle.reader.specs.StandLaws.{zero-anywhere}

-- a place before what is put
put-set : (l s : List ℕ) (q p u : ℕ) → p < q → set (put_at s q l) p u ≡ put_at (set s p u) q l
put-set [] s q p u h = refl
put-set (t ∷ l) s q p u h = put-set l (set s q t) (q + 1) p u (omega arith) ∙ ap (λ (z : List ℕ). put_at z (q + 1) l) (set_comm s q p t u (λ e. omega arith))

zero-set : (m p : ℕ) → set {A = ℕ} (replicate m 0) p 0 ≡ replicate m 0
zero-set m p = ap (λ (x : ℕ). set (replicate m 0) p x) (sym (zero-anywhere m p)) ∙ set-get_or (replicate m 0) p 0

wiped-off : (ts : List ℕ) (m p : ℕ) → put_at (put_at (replicate m 0) p ts) p (replicate (length ts) 0) ≡ replicate m 0
wiped-off [] m p = refl
wiped-off (t ∷ ts) m p =
    ap (λ (z : List ℕ). put_at z (p + 1) (replicate (length ts) 0))
    (put-set ts (set (replicate m 0) p t) (p + 1) p 0 (omega arith) ∙ ap (λ (z : List ℕ). put_at z (p + 1) ts) (set-set (replicate m 0) p t 0 ∙ zero-set m p))
    ∙ wiped-off ts m (p + 1)

-- A LINE THAT IS WIPED OFF leaves nothing
pub wiped : (ts : List ℕ) → put_at (alone ts) 0 (replicate (length ts) 0) ≡ empty_set
unfolding empty_set
wiped ts = wiped-off ts set_size 0

-- ---- what is put at the beginning

put_cons : (l s : List ℕ) (x p : ℕ) → put_at (x ∷ s) (suc p) l ≡ x ∷ put_at s p l
put_cons [] s x p = refl
put_cons (t ∷ l) s x p = let e : suc p + 1 ≡ suc (p + 1) = omega arith in rw e (put_cons l (set s p t) x (p + 1))

pub put-front : (ts s : List ℕ) → length ts ≤ length s → ts ++ drop (length ts) s ≡ put_at s 0 ts
put-front [] s h = refl
put-front (t ∷ ts) [] h = absurd (omega arith)
put-front (t ∷ ts) (x ∷ s) h = ap (λ (l : List ℕ). t ∷ l) (put-front ts s (omega arith)) ∙ sym (put_cons ts s t 0)
