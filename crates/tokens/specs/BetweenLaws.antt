-- What a test says of the token that was tested, what the test of a range says of its bounds, and the other way round; and that a token lies inside its list.
use Rattle.std.specs.Prelude.{◌≡◌, refl, List, Bool, true, false, not, ◌&&◌, ◌||◌, ℕ, ◌<◌, ◌≤◌, eqb, leb, length, get_or}
use Rattle.std.proofs.Common.{sym, ap, ◌∙◌, arith, leb-true, le-leb}
use Rattle.std.proofs.lemmas.Bool.{false≢true, lt-leb, not-true}
use Rattle.std.proofs.Math.Decide.{dec_lt}
use Rattle.std.proofs.Math.ListN.{get_or-eq_default}
use Rattle.values.specs.Choice.{both}
use Rattle.tokens.specs.Token.{PLUS, MINUS, TIMES, OVER, between, is_factor, is_term, is_arithmetic, is_logic}
use Rattle.tokens.specs.Descent.{is_row}

pub never : {X : Type 0} → false ≡ true → X
never e = absurd (false≢true e)

-- a test's answer o, for the token u that was tested as t
pub tested : (f : ℕ → Bool) {t u : ℕ} {o b : Bool} → t ≡ u → o ≡ f t → o ≡ b → f u ≡ b
tested f e h g = ap f (sym e) ∙ sym h ∙ g

module _ (low high t : ℕ) where
  pub inside : between low high t ≡ true → (low ≤ t) × (t ≤ high)
  inside h = let b = both _ _ h in (leb-true low t b.0, leb-true t high b.1)

  pub is-inside : low ≤ t → t ≤ high → between low high t ≡ true
  is-inside l h = simp (le-leb low t l, le-leb t high h)

  not-inside : between low high t ≡ false → low ≤ t → t ≤ high → ⊥
  not-inside e l h = never (sym e ∙ is-inside l h)

  pub outside : (low ≤ t → t ≤ high → ⊥) → between low high t ≡ false
  outside f = go (leb low t) refl
    where
      go : (b : Bool) → leb low t ≡ b → b && leb t high ≡ false
      go true e = let g = f (leb-true _ _ e) in lt-leb t high (omega (arith, g))
      go false e = refl

  -- a token of a range above 0 is no end of a line
  pub no_end : 0 < low → {o : Bool} → o ≡ between low high t → o ≡ true → t ≡ 0 → ⊥
  no_end l e f z = let b = inside (sym e ∙ f) in omega arith

-- the operators of a term stand directly before those of a factor
pub arithmetic-range : (t : ℕ) → between PLUS OVER t ≡ is_arithmetic t
arithmetic-range t = go (is_factor t) (is_term t) refl refl
  where
    go : (f g : Bool) → is_factor t ≡ f → is_term t ≡ g → between PLUS OVER t ≡ (f || g)
    go true g e h = let i = inside TIMES OVER t e in is-inside PLUS OVER t (omega arith) i.1
    go false true e h = let i = inside PLUS MINUS t h in is-inside PLUS OVER t i.0 (omega arith)
    go false false e h =
        outside PLUS OVER t (λ l m.
        let f : TIMES ≤ t → ⊥ = λ k. not-inside TIMES OVER t e k m in
        let g = not-inside PLUS MINUS t h l in
        omega (arith, f, g))

-- a token that is no AND, OR or XOR begins no row
pub no_row : (t : ℕ) {o : Bool} → o ≡ is_logic t → not o ≡ true → false ≡ is_row t t
no_row t {o} e h = sym (ap (λ (b : Bool). b && eqb t t) (sym e ∙ not-true o h))

-- a token that is no end of a line lies inside
pub lies-inside : (s : List ℕ) (p : ℕ) {t : ℕ} → t ≡ get_or s p 0 → (t ≡ 0 → ⊥) → p < length s
lies-inside s p e ne = go (dec_lt p (length s))
  where
    go : Dec (p < length s) → p < length s
    go (yes l) = l
    go (no l) = absurd (ne (e ∙ get_or-eq_default s 0 {n = p} (omega (arith, l))))
