-- Laws on the brackets of a line, counted token by token: what each bracket, and a token that is none, makes of the count.
use Rattle.std.specs.Prelude.{◌≡◌, List, ◌∷◌, ℕ, ◌+◌, ◌-◌, ◌<◌, length, drop, get_or}
use Rattle.std.proofs.Common.{◌∙◌, arith, add-one, drop-cons}
use borrow.Author.Tests.{lt-leb, eq-eqb, ne_eqb}
use Rattle.tokens.specs.SingleFault.{opens_too_many}

module _ (s : List ℕ) (i t n : ℕ) (l : i < length s) (e : t ≡ get_or s i 0) where
  falls : drop i s ≡ t ∷ drop (i + 1) s
  falls = drop-cons s i 0 l ∙ rw (add-one, e)

  module _ (m : ℕ) where
    pub bracket-open : t ≡ 12 → n < 8 → m ≡ n + 1 → opens_too_many (drop i s) n ≡ opens_too_many (drop (i + 1) s) m
    unfolding opens_too_many
    bracket-open z h q = rw (falls, q) (simp (opens_too_many, ne_eqb t 0 (λ y. omega arith), eq-eqb t 12 z, lt-leb 8 n h))

    pub bracket-close : t ≡ 13 → m ≡ n - 1 → opens_too_many (drop i s) n ≡ opens_too_many (drop (i + 1) s) m
    unfolding opens_too_many
    bracket-close z q = rw (falls, z, q)

    pub bracket-other : (t ≡ 0 → ⊥) → (t ≡ 12 → ⊥) → (t ≡ 13 → ⊥) → m ≡ n → opens_too_many (drop i s) n ≡ opens_too_many (drop (i + 1) s) m
    unfolding opens_too_many
    bracket-other a b c q = rw (falls, q) (simp (opens_too_many, ne_eqb t 0 a, ne_eqb t 12 b, ne_eqb t 13 c))
