-- A SPACE IS PRINTED ONLY WHERE TWO TOKENS WOULD OTHERWISE NOT READ AS THEY STAND, and there it is (document 02, Req 01), both ways: `space-needed` that without a printed space the two read otherwise, `none_needed` that with none printed they read as they stand. Theorems; nothing is assumed.
use Rattle.std.specs.Prelude.{◌≡◌, refl, Bool, true, false, List, [], ◌∷◌, ◌++◌, ℕ, zero, suc, ◌+◌, ◌*◌, ◌%◌, drop, get_or}
use Rattle.std.proofs.Common.{sym, ap, ◌∙◌, arith, get_or-drop, le-leb, ne_eqb}
use Rattle.std.proofs.Math.Bool.{and-true}
use Rattle.std.proofs.lemmas.Bool.{not-true}
use Rattle.values.specs.Choice.{decide, contrary}
use Rattle.values.specs.Numbers.{clash}
use Rattle.values.specs.Value.{unit}
use Rattle.tokens.specs.Token.{NUMBER, is_number, number_carried, thousandths}
use Rattle.text.specs.Byte.{is_space}
use Rattle.text.specs.First.{token_of, first_token}
use Rattle.text.specs.Tokens.{Tokens, tokens_of}
use Rattle.text.specs.TokensLaws.{tokens_none}
use Rattle.print.specs.TokenText.{token_text, goes_on, needs_space, line_text}
use Rattle.print.specs.ReadBack.{mark, read_back}
use Rattle.print.specs.NameRows.{no_space}
use Rattle.print.specs.DecimalLaws.{All, all_append, digit-bounds}
use Rattle.print.specs.TokenBackLaws.{Printable, number-goes, back-number, back-other}
use Rattle.print.specs.LineBack.{or-none, number-follows, gap-none, line-back}
use Rattle.print.specs.ToldLaws.{Left, no-sign-one, side_by_side}
use Rattle.print.specs.OneSignLaws.{word-space}
use Rattle.print.specs.LineShorter.{by_bytes}
use Rattle.print.specs.TokenBytesLaws.{Passed, token-bytes}

-- ---- bytes without a space

solid : Passed no_space
solid = record { digit = λ b h. let (l, u) = digit-bounds b h in rw (ne_eqb b 32 (λ e. omega arith)); point = refl; names = refl }

all_drop : (p : ℕ → Bool) (k : ℕ) (bs : List ℕ) → All p bs → All p (drop k bs)
all_drop p zero bs h = h
all_drop p (suc k) [] h = tt
all_drop p (suc k) (b ∷ bs) h = all_drop p k bs h.1

-- the token behind another, where no space is
next-side : (t u : ℕ) (us rest : List ℕ) → Left t (get_or rest 0 0) → All no_space rest → (tokens_of rest).good ≡ true → (tokens_of rest).list ≡ u ∷ us → needs_space t u ≡ false
next-side t u us rest l n g e =
    by_bytes (λ r. Left t (get_or r 0 0) → All no_space r → (tokens_of r).good ≡ true → (tokens_of r).list ≡ u ∷ us → needs_space t u ≡ false) rest
    (λ _ _ _ e. let z = ap (λ (x : Tokens). x.list) tokens_none in clash (cc))
    (λ b bs s q _ n _ _. contrary s (not-true (is_space b) n.0))
    (λ b bs x _ _ g _. contrary g x)
    (λ b bs k w d q l _ _ e.
    let z = ap (λ (x : Tokens). x.list) q in
    let y : (token_of (first_token (b ∷ bs))) ≡ u = cc in
    side_by_side t u b l (rw y at d.right))
    l n g e

-- TWO TOKENS READ FROM BYTES WITHOUT A SPACE need none
first_two : (x : List ℕ) (t u : ℕ) (us : List ℕ) → All no_space x → tokens_of x ≡ record { list = t ∷ u ∷ us; good = true } → needs_space t u ≡ false
first_two x t u us n e =
    by_bytes (λ r. All no_space r → tokens_of r ≡ record { list = t ∷ u ∷ us; good = true } → needs_space t u ≡ false) x
    (λ _ e. let z = ap (λ (x : Tokens). x.list) (sym tokens_none ∙ e) in clash (cc))
    (λ b bs s q n _. contrary s (not-true (is_space b) n.0))
    (λ b bs g _ e. contrary (ap (λ (x : Tokens). x.good) e) g)
    (λ b bs k w d q n e.
    let f = sym q ∙ e in
    let l = ap (λ (x : Tokens). x.list) f in
    let y : (token_of (first_token (b ∷ bs))) ≡ t = cc in
    let z : (tokens_of (drop k bs)).list ≡ u ∷ us = cc in
    let i : k + 0 ≡ k = omega arith in
    let c : get_or (drop k bs) 0 0 ≡ get_or bs k 0 = get_or-drop k bs 0 0 ∙ ap (λ (j : ℕ). get_or bs j 0) i in
    next-side t u us (drop k bs) (rw (c, ← y) d.left) (all_drop no_space k bs n.1) (ap (λ (x : Tokens). x.good) f) z)
    n e

-- ---- what is read back needs a space where what was written does

module _ (t u : ℕ) where
  back-goes : is_number t ≡ true → is_number (read_back t) ≡ true
  back-goes e = rw (back-number t e) (le-leb NUMBER (NUMBER + (thousandths (number_carried t) * 2 + mark (thousandths (number_carried t) % unit))) (omega arith))

  -- before a number
  space-number : is_number u ≡ true → needs_space t u ≡ goes_on t
  unfolding needs_space
  space-number e = rw (number-follows u e, no-sign-one t u (number-goes u e), and-true (goes_on t)) (or-none (goes_on t))

back-first : (t u : ℕ) → needs_space (read_back t) u ≡ needs_space t u
back-first t u =
    decide _ (is_number t)
    (λ e. word-space (read_back t) u (number-goes (read_back t) (back-goes t u e)) ∙ sym (word-space t u (number-goes t e)))
    (λ e. rw (back-other t e))

back-second : (t u : ℕ) → needs_space t (read_back u) ≡ needs_space t u
back-second t u =
    decide _ (is_number u)
    (λ e. space-number t (read_back u) (back-goes u t e) ∙ sym (space-number t u e))
    (λ e. rw (back-other u e))

-- ---- both ways

-- WHERE A SPACE IS PRINTED, the two tokens would read otherwise without it
pub space-needed : (t u : ℕ) → needs_space t u ≡ true → tokens_of (token_text t ++ token_text u) ≡ record { list = read_back t ∷ read_back u ∷ []; good = true } → ⊥
space-needed t u n e =
    let f = first_two (token_text t ++ token_text u) (read_back t) (read_back u) [] (all_append no_space (token_text t) (token_text u) (token-bytes no_space solid t) (token-bytes no_space solid u)) e in
    contrary n (sym (back-second t u) ∙ sym (back-first t (read_back u)) ∙ f)

-- WHERE NONE IS PRINTED, they read as they stand
pub none_needed : (t u : ℕ) → Printable t → Printable u → needs_space t u ≡ false → tokens_of (token_text t ++ token_text u) ≡ record { list = read_back t ∷ read_back u ∷ []; good = true }
unfolding line_text
none_needed t u p q n = rw (gap-none t u n) at (line-back (t ∷ u ∷ []) (p, (q, tt)))
