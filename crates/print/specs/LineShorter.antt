-- A LINE IS WRITTEN IN NO MORE BYTES THAN IT WAS READ FROM: each token takes no more, and a space stands only where the text had one too. Theorem; nothing is assumed.
use Rattle.std.specs.Prelude.{◌≡◌, refl, true, false, List, [], ◌∷◌, ◌++◌, ℕ, zero, suc, ◌+◌, ◌≤◌, length, drop, get_or}
use Rattle.std.proofs.Common.{sym, ap, ◌∙◌, arith, length-append, length-drop, get_or-drop}
use Rattle.values.specs.Choice.{decide, contrary}
use Rattle.values.specs.Numbers.{clash}
use Rattle.text.specs.Byte.{is_space}
use Rattle.text.specs.First.{token_of, size_of, first_token}
use Rattle.text.specs.Tokens.{Tokens, with_token, tokens_of}
use Rattle.text.specs.TokensLaws.{tokens_none, tokens-space, tokens-end, tokens-one, first-within}
use Rattle.print.specs.TokenText.{token_text, needs_space, gap, line_text}
use Rattle.print.specs.TokenBackLaws.{Printable}
use Rattle.print.specs.LineBack.{Printables, gap-none, gap-some}
use Rattle.print.specs.ToldLaws.{Left, side_by_side, Told, first-told}

-- by the first byte: none, a space, no token, or a token of a byte and k more
pub by_bytes : (P : List ℕ → Type 0) (t : List ℕ) → P [] → ((b : ℕ) (bs : List ℕ) → is_space b ≡ true → tokens_of (b ∷ bs) ≡ tokens_of bs → P (b ∷ bs)) → ((b : ℕ) (bs : List ℕ) → (tokens_of (b ∷ bs)).good ≡ false → P (b ∷ bs)) →
    ((b : ℕ) (bs : List ℕ) (k : ℕ) → k ≤ length bs → Told b bs (token_of (first_token (b ∷ bs))) k → tokens_of (b ∷ bs) ≡ with_token (token_of (first_token (b ∷ bs))) (tokens_of (drop k bs)) → P (b ∷ bs)) → P t
by_bytes P [] none space bad one = none
by_bytes P (b ∷ bs) none space bad one =
    decide (P (b ∷ bs)) (is_space b) (λ e. space b bs e (tokens-space b bs e)) λ e. go e (size_of (first_token (b ∷ bs))) refl
  where
    go : is_space b ≡ false → (m : ℕ) → (size_of (first_token (b ∷ bs))) ≡ m → P (b ∷ bs)
    go e zero z = bad b bs (ap (λ (x : Tokens). x.good) (tokens-end b bs e z))
    go e (suc k) z = let w = (first-within (b ∷ bs)).fits in one b bs k (omega arith) (first-told b bs k z) (tokens-one b bs k e z)

-- a text is as long as what its tokens are written as
abbrev Shorter : List ℕ → Type 0
Shorter t = (tokens_of t).good ≡ true → Printables (tokens_of t).list → length (line_text (tokens_of t).list) ≤ length t

next-room : (t u : ℕ) (us rest : List ℕ) → Left t (get_or rest 0 0) → (tokens_of rest).good ≡ true → (tokens_of rest).list ≡ u ∷ us → length (line_text (u ∷ us)) ≤ length rest →
    ((bs : List ℕ) → suc (length bs) ≡ length rest → tokens_of bs ≡ tokens_of rest → length (line_text (u ∷ us)) ≤ length bs) → length (gap t u ++ line_text (u ∷ us)) ≤ length rest
next-room t u us rest l g e h shorter =
    decide _ (needs_space t u)
    (λ n. rw (gap-some t u n) (by_bytes (λ r. Left t (get_or r 0 0) → (tokens_of r).good ≡ true → (tokens_of r).list ≡ u ∷ us →
    ((bs : List ℕ) → suc (length bs) ≡ length r → tokens_of bs ≡ tokens_of r → length (line_text (u ∷ us)) ≤ length bs) → suc (length (line_text (u ∷ us))) ≤ length r) rest
    (λ _ _ e _. let z = ap (λ (x : Tokens). x.list) tokens_none in clash (cc))
    (λ b bs s q _ _ e k. let z = k bs refl (sym q) in omega arith)
    (λ b bs x _ g _ _. contrary g x)
    (λ b bs k w d q l _ e _.
    let z = ap (λ (x : Tokens). x.list) q in
    let y : (token_of (first_token (b ∷ bs))) ≡ u = cc in
    contrary n (side_by_side t u b l (rw y at d.right)))
    l g e shorter))
    (λ n. rw (gap-none t u n) h)

-- of bytes that have the same tokens
same-shorter : (bs rest l : List ℕ) → tokens_of bs ≡ tokens_of rest → (tokens_of rest).list ≡ l → Shorter bs → (tokens_of rest).good ≡ true → Printables (tokens_of rest).list → length (line_text l) ≤ length bs
same-shorter bs rest l q e h g p = rw (← e, ← q) (h (rw q g) (rw q p))

none-shorter : (t : List ℕ) → length t ≤ 0 → Shorter t
unfolding line_text
none-shorter [] h g p = let z = ap (λ (x : Tokens). x.list) tokens_none in rw z (omega arith)
none-shorter (b ∷ bs) h g p = absurd (omega arith)

-- one token and what stands behind it
one-shorter : (t k : ℕ) (rest : List ℕ) → Left t (get_or rest 0 0) → (Printable t → length (token_text t) ≤ suc k) → ((bs : List ℕ) → length bs ≤ length rest → Shorter bs) →
    (tokens_of rest).good ≡ true → Printables (t ∷ (tokens_of rest).list) → length (line_text (t ∷ (tokens_of rest).list)) ≤ suc k + length rest
unfolding line_text
one-shorter t k rest l short again g p = go (tokens_of rest).list refl
  where
    go : (us : List ℕ) → (tokens_of rest).list ≡ us → length (line_text (t ∷ (tokens_of rest).list)) ≤ suc k + length rest
    go [] e = let s = short p.0 in rw e (omega arith)
    go (u ∷ us) e =
        let s = short p.0 in
        let h = again rest (omega arith) g p.1 in
        let r = next-room t u us rest l g e (rw e at h) (λ bs z q. same-shorter bs rest (u ∷ us) q e (again bs (omega arith)) g p.1) in
        let n = length-append (token_text t) (gap t u ++ line_text (u ∷ us)) in
        rw e (omega arith)

shorter-from : (n : ℕ) (t : List ℕ) → length t ≤ n → Shorter t
unfolding line_text
shorter-from zero t h = none-shorter t h
shorter-from (suc n) t h =
    by_bytes (λ x. length x ≤ suc n → Shorter x) t
    (λ _ _ _. let z = ap (λ (x : Tokens). x.list) tokens_none in rw z (omega arith))
    (λ b bs s q l g p. let i = shorter-from n bs (omega arith) in rw q (let r = i (rw q at g) (rw q at p) in omega arith))
    (λ b bs x l g _. contrary g x)
    (λ b bs k w d q l g p.
    let e = length-drop k bs in
    let c : get_or (drop k bs) 0 0 ≡ get_or bs k 0 = let z : k + 0 ≡ k = omega arith in get_or-drop k bs 0 0 ∙ ap (λ (j : ℕ). get_or bs j 0) z in
    let r = one-shorter (token_of (first_token (b ∷ bs))) k (drop k bs) (rw c d.left) d.short (λ ys m. shorter-from n ys (omega arith)) (rw q at g) (rw q at p) in
    rw q (omega arith))
    h

-- THE TOKENS OF SOME BYTES ARE WRITTEN IN NO MORE BYTES
pub line-shorter : (t : List ℕ) → (tokens_of t).good ≡ true → Printables (tokens_of t).list → length (line_text (tokens_of t).list) ≤ length t
line-shorter t = shorter-from (length t) t (omega arith)
