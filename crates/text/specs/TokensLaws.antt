-- Laws of the tokens of some bytes: the first takes at least one byte and none beyond them, and what follows for all. Assumes nothing.
use Rattle.std.specs.Prelude.{◌≡◌, refl, true, false, Option, None, Some, List, [], ◌∷◌, ℕ, zero, suc, ◌+◌, ◌≤◌, ◌<◌, eqb, length, take, drop, get_or}
use Rattle.std.proofs.Math.Path.{ap}
use Rattle.std.proofs.Common.{◌∙◌, arith}
use Rattle.std.proofs.Math.Bool.{and-false}
use Rattle.std.proofs.Math.ListN.{length-drop}
use Rattle.values.specs.Choice.{decide}
use Rattle.tokens.specs.Token.{AllReal}
use Rattle.text.specs.declared.scan.First.{First}
use Rattle.text.specs.Byte.{POINT, is_digit, is_letter, starts_word, is_word_byte, is_space, run}
use Rattle.text.specs.ByteLaws.{run-within, run_on}
use Rattle.text.specs.Word.{pairs, singles, token_in, word_token}
use Rattle.text.specs.WordLaws.{token-skip}
use Rattle.text.specs.Number.{number_token}
use Rattle.text.specs.First.{found, token_of, size_of, word_first, behind_point, with_point, number_with, number_first, sign_first, first_token}
use Rattle.text.specs.Tokens.{ending, with_token, tokens_from, tokens_of}

-- ---- the first token

-- a first token of at most n bytes, none if it has none
pub record Within (n : ℕ) (f : Option First) : Type 0 where
  pub fits : size_of f ≤ n
  pub real : token_of f ≡ 0 → size_of f ≡ 0
  pub takes : size_of f ≡ 0 → f ≡ None

none_within : (n : ℕ) → Within n None
none_within n = record { fits = omega arith; real = λ h. refl; takes = λ h. refl }

found_within : (t k n : ℕ) → 0 < k → k ≤ n → Within n (found t k)
found_within zero k n l h = none_within n
found_within (suc t) k n l h = record { fits = h; real = λ z. absurd (omega arith); takes = λ z. absurd (omega arith) }

word-within : (b : ℕ) (bs : List ℕ) → Within (suc (length bs)) (word_first (b ∷ bs))
unfolding word_first
word-within b bs = let r = run-within is_word_byte bs in let h : 1 + run is_word_byte bs ≤ suc (length bs) = omega arith in found_within (word_token (take (1 + run is_word_byte bs) (b ∷ bs))) _ _ (omega arith) h

-- a point and the digits behind it stand in the bytes
pub behind-within : (t : List ℕ) → with_point (behind_point t) ≤ length t
unfolding behind_point
behind-within t = decide _ (eqb (get_or t 0 0) POINT) (λ e. rw (behind_point, e) (go (run is_digit (drop 1 t)) (run-within is_digit (drop 1 t)))) (λ e. rw (behind_point, e) (omega arith))
  where
    go : (n : ℕ) → n ≤ length (drop 1 t) → with_point n ≤ length t
    go zero h = omega arith
    go (suc n) h = let d = length-drop 1 t in omega arith

number-within : (t : List ℕ) → 0 < run is_digit t → Within (length t) (number_first t)
unfolding number_first number_with
number-within t l =
    let n = run is_digit t in
    let r = run-within is_digit t in
    let d = length-drop n t in
    let w = behind-within (drop n t) in
    let m = behind_point (drop n t) in
    decide _ (is_letter (get_or t (n + with_point m) 0))
    (λ e. rw (number_with, e) (none_within (length t)))
    (λ e. let h : n + with_point m ≤ length t = omega arith in rw (number_with, e) (found_within (number_token (take n t) (take m (drop (n + 1) t))) _ _ (omega arith) h))

-- no sign of two bytes is one byte
pub no-pair : (b : ℕ) → token_in pairs (b ∷ []) ≡ 0
no-pair b =
    let w = b ∷ [] in
    token-skip pairs w 0 (and-false (eqb b 61)) ∙ token-skip pairs w 1 (and-false (eqb b 60)) ∙ token-skip pairs w 2 (and-false (eqb b 60)) ∙ token-skip pairs w 3 (and-false (eqb b 62))

sign-within : (b : ℕ) (bs : List ℕ) → Within (suc (length bs)) (sign_first (b ∷ bs))
unfolding sign_first
sign-within b [] = rw (sign_first, no-pair b) (found_within (token_in singles (b ∷ [])) 1 1 (omega arith) (omega arith))
sign-within b (c ∷ cs) = go (token_in pairs (b ∷ c ∷ [])) refl
  where
    go : (k : ℕ) → token_in pairs (b ∷ c ∷ []) ≡ k → Within (suc (suc (length cs))) (sign_first (b ∷ c ∷ cs))
    go zero e = rw (sign_first, e) (found_within (token_in singles (b ∷ [])) 1 (suc (suc (length cs))) (omega arith) (omega arith))
    go (suc k) e = rw (sign_first, e) (found_within (suc k) 2 (suc (suc (length cs))) (omega arith) (omega arith))

pub first-within : (t : List ℕ) → Within (length t) (first_token t)
unfolding first_token
first-within [] = none_within 0
first-within (b ∷ bs) =
    decide _ (starts_word b)
    (λ e. rw (first_token, e) (word-within b bs))
    (λ e. decide _ (is_digit b) (λ d. rw (first_token, e, d) (number-within (b ∷ bs) (let r = run_on is_digit b bs d in omega arith))) (λ d. rw (first_token, e, d) (sign-within b bs)))

-- ---- all tokens, one step at a time

module _ (n b : ℕ) (bs : List ℕ) where
  from-space : is_space b ≡ true → tokens_from (suc n) (b ∷ bs) ≡ tokens_from n bs
  unfolding tokens_from
  from-space h = rw (tokens_from, h)

  from-none : is_space b ≡ false → size_of (first_token (b ∷ bs)) ≡ 0 → tokens_from (suc n) (b ∷ bs) ≡ ending false
  unfolding tokens_from
  from-none h z = rw (tokens_from, h, (first-within (b ∷ bs)).takes z)

  from_one : (k : ℕ) → is_space b ≡ false → size_of (first_token (b ∷ bs)) ≡ suc k → tokens_from (suc n) (b ∷ bs) ≡ with_token (token_of (first_token (b ∷ bs))) (tokens_from n (drop k bs))
  unfolding tokens_from
  from_one k h z = go (first_token (b ∷ bs)) refl z
    where
      go : (f : Option First) → first_token (b ∷ bs) ≡ f → size_of f ≡ suc k → tokens_from (suc n) (b ∷ bs) ≡ with_token (token_of f) (tokens_from n (drop k bs))
      go None e z = absurd (omega arith)
      go (Some f) e z = rw (tokens_from, h, e, z)

-- by the byte and the first token at hand: a space, no token, or a token of a byte and k more
by_first :
    (P : Type 0) (b : ℕ) (bs : List ℕ) →
    (is_space b ≡ true → P)
    → (is_space b ≡ false → size_of (first_token (b ∷ bs)) ≡ 0 → P)
    → ((k : ℕ) → is_space b ≡ false → size_of (first_token (b ∷ bs)) ≡ suc k → k ≤ length bs → P)
    → P
by_first P b bs space none one = decide P (is_space b) space (λ e. go e (size_of (first_token (b ∷ bs))) refl)
  where
    go : is_space b ≡ false → (m : ℕ) → size_of (first_token (b ∷ bs)) ≡ m → P
    go e zero z = none e z
    go e (suc k) z = let w = (first-within (b ∷ bs)).fits in one k e z (omega arith)

-- bytes enough are as good as more
fuel : (n m : ℕ) (t : List ℕ) → length t ≤ n → length t ≤ m → tokens_from n t ≡ tokens_from m t
unfolding tokens_from
fuel zero zero [] h g = refl
fuel zero (suc m) [] h g = refl
fuel (suc n) zero [] h g = refl
fuel (suc n) (suc m) [] h g = refl
fuel zero m (b ∷ bs) h g = absurd (omega arith)
fuel (suc n) zero (b ∷ bs) h g = absurd (omega arith)
fuel (suc n) (suc m) (b ∷ bs) h g =
    by_first _ b bs
    (λ e. rw (from-space n b bs e, from-space m b bs e) (fuel n m bs (omega arith) (omega arith)))
    (λ e z. rw (from-none n b bs e z, from-none m b bs e z))
    (λ k e z l.
    let d = length-drop k bs in
    rw (from_one n b bs k e z, from_one m b bs k e z)
    (ap (with_token (token_of (first_token (b ∷ bs)))) (fuel n m (drop k bs) (omega arith) (omega arith))))

pub tokens-fuel : (n : ℕ) (t : List ℕ) → length t ≤ n → tokens_from n t ≡ tokens_of t
unfolding tokens_of
tokens-fuel n t h = fuel n (length t) t h (omega arith)

pub tokens_none : tokens_of [] ≡ ending true
unfolding tokens_of tokens_from
tokens_none = refl

module _ (b : ℕ) (bs : List ℕ) where
  pub tokens-space : is_space b ≡ true → tokens_of (b ∷ bs) ≡ tokens_of bs
  unfolding tokens_of
  tokens-space h = from-space (length bs) b bs h

  pub tokens-end : is_space b ≡ false → size_of (first_token (b ∷ bs)) ≡ 0 → tokens_of (b ∷ bs) ≡ ending false
  unfolding tokens_of
  tokens-end h z = from-none (length bs) b bs h z

  pub tokens-one : (k : ℕ) → is_space b ≡ false → size_of (first_token (b ∷ bs)) ≡ suc k → tokens_of (b ∷ bs) ≡ with_token (token_of (first_token (b ∷ bs))) (tokens_of (drop k bs))
  unfolding tokens_of
  tokens-one k h z =
      let d = length-drop k bs in
      from_one (length bs) b bs k h z ∙ ap (with_token (token_of (first_token (b ∷ bs)))) (tokens-fuel (length bs) (drop k bs) (omega arith))

-- ---- how many there are, and that none is 0

from-within : (n : ℕ) (t : List ℕ) → length (tokens_from n t).list ≤ length t
unfolding tokens_from
from-within zero t = omega arith
from-within (suc n) [] = omega arith
from-within (suc n) (b ∷ bs) =
    by_first _ b bs
    (λ e. let i = from-within n bs in rw (from-space n b bs e) (omega arith))
    (λ e z. rw (from-none n b bs e z) (omega arith))
    (λ k e z l. let d = length-drop k bs in let i = from-within n (drop k bs) in rw (from_one n b bs k e z) (omega arith))

-- each token takes at least a byte
pub tokens-within : (t : List ℕ) → length (tokens_of t).list ≤ length t
unfolding tokens_of
tokens-within t = from-within (length t) t

none-real : AllReal []
none-real i h = absurd (omega arith)

one_more_lem : (t : ℕ) (l : List ℕ) → (t ≡ 0 → ⊥) → AllReal l → AllReal (t ∷ l)
one_more_lem t l h g zero i = h
one_more_lem t l h g (suc k) i = g k (omega arith)

from-real : (n : ℕ) (t : List ℕ) → AllReal (tokens_from n t).list
unfolding tokens_from
from-real zero t = none-real
from-real (suc n) [] = none-real
from-real (suc n) (b ∷ bs) =
    by_first (AllReal (tokens_from (suc n) (b ∷ bs)).list) b bs
    (λ e. rw (from-space n b bs e) (from-real n bs))
    (λ e z. rw (from-none n b bs e z) none-real)
    (λ k e z l.
    rw (from_one n b bs k e z)
    (one_more_lem (token_of (first_token (b ∷ bs))) (tokens_from n (drop k bs)).list (λ w. let r = (first-within (b ∷ bs)).real w in omega arith) (from-real n (drop k bs))))

pub tokens-real : (t : List ℕ) → AllReal (tokens_of t).list
unfolding tokens_of
tokens-real t = from-real (length t) t
