-- A word whose bytes are those of a name, one by one as a `match` reads them, is the name, and has its token.
use Rattle.std.proofs.Common.{◌≡◌, sym, ap, ◌∙◌, List, [], ◌∷◌, ℕ, zero, suc, ◌+◌, ◌<◌, length, get_or, ext_get_or, arith}
use Rattle.text.specs.Word.{Words, token_in, some_token}

-- the bytes from place k on are those of a name
abbrev pub Reads : List ℕ → ℕ → List ℕ → Type 0
Reads word k [] = Unit {0}
Reads word k (b ∷ name) = (get_or word k 0 ≡ b) × Reads word (k + 1) name

read-at : (word name : List ℕ) (k i : ℕ) → Reads word k name → i < length name → get_or word (k + i) 0 ≡ get_or name i 0
read-at word [] k i r h = absurd (omega arith)
read-at word (b ∷ name) k zero r h = let e : k + 0 ≡ k = omega arith in ap (λ (j : ℕ). get_or word j 0) e ∙ r.0
read-at word (b ∷ name) k (suc i) r h = let e : k + suc i ≡ k + 1 + i = omega arith in ap (λ (j : ℕ). get_or word j 0) e ∙ read-at word name (k + 1) i r.1 (omega arith)

module _ (ws : Words) (word name : List ℕ) (e : length word ≡ length name) (r : Reads word 0 name) where
  name_is : name ≡ word
  name_is = ext_get_or 0 name word (sym e) (λ i h. let z : 0 + i ≡ i = omega arith in sym (read-at word name 0 i r h) ∙ ap (λ (j : ℕ). get_or word j 0) z)

  pub token-read : some_token (token_in ws name) ≡ some_token (token_in ws word)
  token-read = ap (λ (w : List ℕ). some_token (token_in ws w)) name_is
