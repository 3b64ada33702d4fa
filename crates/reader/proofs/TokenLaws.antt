-- Laws of the tokens of a body from a place on: a turn of the loop over them.
use mathlib.Core.Path.{◌≡◌, sym, ap, ◌∙◌}
use mathlib.Core.Bool.{true, false}
use Rattle.std.specs.Prelude.{Option, None, Some}
use Rattle.values.specs.Choice.{decide}
use mathlib.Core.List.{List, ◌∷◌}
use Prim.Native.Nat.{ℕ, suc, ◌+◌, ◌-◌, ◌<◌, ◌≤◌}
use native.Mathlib.Omega.{arith}
use native.Mathlib.Numerals.{add-one}
use lib.ListN.{length, drop, get_or, drop_of_length-le, length-drop}
use lib.Seq.{drop-cons, drop-drop}
use borrow.Author.Tests.{eq-eqb, ne_eqb}
use Rattle.text.specs.declared.scan.First.{First}
use Rattle.text.specs.Byte.{SPACE}
use Rattle.text.specs.First.{token_of, size_of, first_token}
use Rattle.text.specs.Tokens.{Tokens, ending, with_token, tokens_of}
use Rattle.text.specs.TokensLaws.{first-within, tokens_none, tokens-space, tokens-end, tokens-one}
use Rattle.reader.specs.Draft.{written}

-- ---- the tokens from place i on

module _ (t : List ℕ) (i : ℕ) where
  pub ends_at : length t ≤ i → tokens_of (drop i t) ≡ ending true
  ends_at h = rw (drop_of_length-le t {i = i} h) tokens_none

  module _ (h : i < length t) where
    here : drop i t ≡ get_or t i 0 ∷ drop (suc i) t
    here = drop-cons t i 0 h

    pub space-at : get_or t i 0 ≡ SPACE → tokens_of (drop i t) ≡ tokens_of (drop (i + 1) t)
    space-at z = ap tokens_of here ∙ tokens-space (get_or t i 0) (drop (suc i) t) (eq-eqb (get_or t i 0) SPACE z) ∙ rw (add-one i)

    module _ (n : get_or t i 0 ≡ SPACE → ⊥) where
      pub none-at : None ≡ first_token (drop i t) → tokens_of (drop i t) ≡ ending false
      none-at e = ap tokens_of here ∙ tokens-end (get_or t i 0) (drop (suc i) t) (ne_eqb (get_or t i 0) SPACE n) (ap (λ (l : List ℕ). size_of (first_token l)) (sym here) ∙ ap (λ (x : Option First). size_of x) (sym e))

      -- f is the first token there
      module _ (f : First) (e : Some f ≡ first_token (drop i t)) where
        size_is : size_of (first_token (get_or t i 0 ∷ drop (suc i) t)) ≡ f.size
        size_is = ap (λ (l : List ℕ). size_of (first_token l)) (sym here) ∙ ap (λ (x : Option First). size_of x) (sym e)

        token-is : token_of (first_token (get_or t i 0 ∷ drop (suc i) t)) ≡ f.token
        token-is = ap (λ (l : List ℕ). token_of (first_token l)) (sym here) ∙ ap (λ (x : Option First). token_of x) (sym e)

        -- it takes some bytes, and none beyond the end
        pub some_size : f.size ≡ 0 → ⊥
        some_size z =
            let g : size_of (first_token (drop i t)) ≡ 0 = ap (λ (x : Option First). size_of x) (sym e) ∙ z in
            let k : ◌≡◌ {A = Option First} (Some f) None = e ∙ (first-within (drop i t)).takes g in
            absurd (cc)

        pub size-within : i + f.size ≤ length t
        size-within = let w = (first-within (drop i t)).fits in let d = length-drop i t in let g : f.size ≡ size_of (first_token (drop i t)) = ap (λ (x : Option First). size_of x) e in omega arith

        pub one_at : tokens_of (drop i t) ≡ with_token f.token (tokens_of (drop (i + f.size) t))
        one_at =
            let z = some_size in
            let k : f.size ≡ suc (f.size - 1) = omega (arith, z) in
            let p : suc i + (f.size - 1) ≡ i + f.size = omega (arith, z) in
            ap tokens_of here ∙ (tokens-one (get_or t i 0) (drop (suc i) t) (f.size - 1) (ne_eqb (get_or t i 0) SPACE n) (size_is ∙ k)
            ∙ rw (token-is, drop-drop (f.size - 1) (suc i) t, p))

-- ---- what is written of a line

module _ (ts : Tokens) where
  pub none-written : ts.good ≡ false → None ≡ written ts
  none-written g = rw g

  pub some-written : (n : ℕ) → ts.good ≡ true → n ≡ length ts.list → Some n ≡ written ts
  some-written n g e = rw (g, e)

  pub written-none : None ≡ written ts → ts.good ≡ false
  written-none e = decide _ ts.good (λ g. let f : ◌≡◌ {A = Option ℕ} None (Some (length ts.list)) = rw g at e in absurd (cc)) (λ g. g)

  pub written-some : (n : ℕ) → Some n ≡ written ts → (ts.good ≡ true) × (n ≡ length ts.list)
  written-some n e =
      decide _ ts.good
      (λ g. let f : ◌≡◌ {A = Option ℕ} (Some n) (Some (length ts.list)) = rw g at e in (g, cc))
      (λ g. let f : ◌≡◌ {A = Option ℕ} (Some n) None = rw g at e in absurd (cc))
