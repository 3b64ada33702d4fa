-- Which signs are one with the sign before them, by the sign behind. Assumes nothing.
use Rattle.std.specs.Prelude.{◌≡◌, true, false, ℕ, eqb, leb}
use Rattle.std.proofs.Math.Bool.{and-true, and-false}
use Rattle.std.proofs.Common.{arith, ne_eqb, leb-true}
use Rattle.values.specs.Choice.{decide, both}
use Rattle.tokens.specs.Token.{EQUALS, SAME, LESS, MORE, ATLEAST, between}
use Rattle.print.specs.TokenText.{goes_on, is_following, is_opening, is_one_sign, needs_space}
use Rattle.print.specs.LineBack.{or-none}
use Rattle.print.specs.ToldLaws.{one-no-sign}

module _ (t u : ℕ) where
  -- before = and ==
  pub before-equals : u ≡ EQUALS → is_one_sign t u ≡ is_opening t
  before-equals e = rw (e, and-true (is_opening t), and-false (eqb t LESS)) (or-none (is_opening t))

  pub before_same : u ≡ SAME → is_one_sign t u ≡ is_opening t
  before_same e = rw (e, and-true (is_opening t), and-false (eqb t LESS)) (or-none (is_opening t))

  -- before > and >=
  pub before_more : u ≡ MORE → is_one_sign t u ≡ eqb t LESS
  before_more e = rw (e, and-false (is_opening t)) (and-true (eqb t LESS))

  pub before-atleast : u ≡ ATLEAST → is_one_sign t u ≡ eqb t LESS
  before-atleast e = rw (e, and-false (is_opening t)) (and-true (eqb t LESS))

  -- before no other
  pub before-other : (u ≡ EQUALS → ⊥) → (u ≡ SAME → ⊥) → (u ≡ MORE → ⊥) → (u ≡ ATLEAST → ⊥) → is_one_sign t u ≡ false
  before-other a b c d = rw (none, and-false (is_opening t), ne_eqb u MORE c, ne_eqb u ATLEAST d) (and-false (eqb t LESS))
    where
      none : between EQUALS SAME u ≡ false
      none =
          decide _ (between EQUALS SAME u)
          (λ e. let (l, r) = both (leb 1 u) (leb u 2) e in let p = leb-true 1 u l in let q = leb-true u 2 r in absurd (omega (arith, a, b)))
          (λ e. e)

-- ---- a space between two tokens, by the first

module _ (t u : ℕ) where
  pub sign-space : goes_on t ≡ false → needs_space t u ≡ is_one_sign t u
  unfolding needs_space
  sign-space g = rw g

  -- a word or a number
  pub word-space : goes_on t ≡ true → needs_space t u ≡ is_following u
  unfolding needs_space
  word-space g = rw (g, one-no-sign t u g) (or-none (is_following u))
