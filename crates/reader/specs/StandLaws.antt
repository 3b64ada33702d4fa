-- Tokens that are put into an array stand there; a line alone stands with its end.
use Rattle.std.specs.Prelude.{◌≡◌, refl, List, [], ◌∷◌, ◌++◌, ℕ, zero, suc, ◌+◌, ◌≤◌, length, get_or, set, replicate}
use Rattle.std.proofs.Common.{◌∙◌, arith, length-set, get_or-set_same, get_or-set_other}
use Rattle.std.proofs.lemmas.List.{length-replicate}
use Rattle.tokens.specs.Token.{END, set_size}
use Rattle.grammar.specs.Meaning.{Stands}
use Rattle.engine.specs.Set.{empty_set, with_end}
use Rattle.reader.specs.Draft.{alone}
use Rattle.values.specs.PutAt.{put_at}
use Rattle.values.specs.PutLaws.{put-before}

-- what is put stands there, if it fits
pub put-stands : (l s : List ℕ) (p q : ℕ) → p + length l ≡ q → q ≤ length s → Stands (put_at s p l) p l q
put-stands [] s p q e h = omega arith
put-stands (t ∷ l) s p q e h =
    let m = length-set s p t in
    (put-before l (set s p t) (p + 1) p (omega arith) ∙ get_or-set_same s p t 0 (omega arith), put-stands l (set s p t) (p + 1) q (omega arith) (omega arith))

-- behind what is put nothing changes
put-behind : (l s : List ℕ) (p j : ℕ) → p + length l ≤ j → get_or (put_at s p l) j 0 ≡ get_or s j 0
put-behind [] s p j h = refl
put-behind (t ∷ l) s p j h = put-behind l (set s p t) (p + 1) j (omega arith) ∙ get_or-set_other s p j t 0 (λ e. omega arith)

stands-last : (s l : List ℕ) (p q t : ℕ) → Stands s p l q → get_or s q 0 ≡ t → Stands s p (l ++ (t ∷ [])) (q + 1)
stands-last s [] p q t h e = let f : p ≡ q = h in rw f (e, refl)
stands-last s (u ∷ l) p q t h e = (h.0, stands-last s l (p + 1) q t h.1 e)

pub empty-length : length empty_set ≡ set_size
unfolding empty_set
empty-length = length-replicate {A = ℕ} set_size 0

pub zero-anywhere : (n j : ℕ) → get_or {A = ℕ} (replicate n 0) j 0 ≡ 0
zero-anywhere zero j = refl
zero-anywhere (suc n) zero = refl
zero-anywhere (suc n) (suc j) = zero-anywhere n j

-- A LINE ALONE stands with its end, which may lie past the array
pub alone-stands : (ts : List ℕ) → length ts ≤ set_size → Stands (alone ts) 0 (with_end ts) (length ts + 1)
unfolding empty_set
alone-stands ts h =
    let e = empty-length in
    stands-last (alone ts) ts 0 (length ts) END (put-stands ts empty_set 0 (length ts) (omega arith) (omega arith))
    (put-behind ts empty_set 0 (length ts) (omega arith) ∙ zero-anywhere set_size (length ts))
