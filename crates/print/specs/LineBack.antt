-- THE TOKENS OF A LINE THAT IS WRITTEN ARE READ BACK. Assumes nothing.
use Rattle.std.specs.Prelude.{◌≡◌, Bool, true, false, not, ◌&&◌, ◌||◌, List, [], ◌∷◌, ◌++◌, map, ℕ, ◌/◌, ◌%◌, ◌<◌, eqb, leb, length}
use Rattle.std.proofs.Math.Path.{refl}
use Rattle.std.proofs.Common.{ap, ◌∙◌, append-nil, arith, length-append}
use Rattle.std.proofs.Math.Bool.{and-false}
use Rattle.std.proofs.Math.ListN.{get_or, get_or-append}
use borrow.Author.Tests.{eqb-true, ne_eqb, lt-leb, leb-true, not-true}
use Rattle.values.specs.Choice.{decide, both, chosen, refused, contrary}
use Rattle.values.specs.Value.{unit}
use Rattle.tokens.specs.Token.{NUMBER, is_number, is_variable, number_carried, thousandths}
use Rattle.text.specs.Byte.{POINT, DOLLAR, SPACE, is_digit, is_letter, starts_word, is_word_byte}
use Rattle.text.specs.Word.{pairs, names, token_in}
use Rattle.text.specs.WordLaws.{token-skip, rows}
use Rattle.text.specs.Tokens.{with_token, tokens_of}
use Rattle.text.specs.TokensLaws.{tokens_none, tokens-space}
use Rattle.text.specs.Digits.{decimal}
use Rattle.print.specs.TokenText.{part_text, number_text, name_text, token_text, goes_on, is_following, is_one_sign, needs_space, gap, line_text}
use Rattle.print.specs.ReadBack.{read_back}
use Rattle.print.specs.DecimalLaws.{All, digit-bounds, decimal-digits, decimal-some}
use Rattle.print.specs.NumberBackLaws.{Stops}
use Rattle.print.specs.TokenBackLaws.{has_name, name-says, Printable, number-goes, sign-no-number, Apart, by_token, token_back}

-- ---- bytes that make no sign of two

second : (a d c e : ℕ) → (c ≡ e → ⊥) → (eqb a d && (eqb c e && true)) ≡ false
second a d c e h = rw (ne_eqb c e h) (and-false (eqb a d))

pub one_more_lem : (a c : ℕ) → (c ≡ 61 → ⊥) → (c ≡ 62 → ⊥) → token_in pairs (a ∷ c ∷ []) ≡ 0
one_more_lem a c h g =
    let w = a ∷ c ∷ [] in
    token-skip pairs w 0 (second a 61 c 61 h) ∙ token-skip pairs w 1 (second a 60 c 62 g) ∙ token-skip pairs w 2 (second a 60 c 61 h) ∙ token-skip pairs w 3 (second a 62 c 61 h)

third : (a d b e : ℕ) → (eqb a d && (eqb b e && false)) ≡ false
third a d b e = rw (and-false (eqb b e)) (and-false (eqb a d))

pub two-more : (a b c : ℕ) → token_in pairs (a ∷ b ∷ c ∷ []) ≡ 0
two-more a b c =
    let w = a ∷ b ∷ c ∷ [] in
    token-skip pairs w 0 (third a 61 b 61) ∙ token-skip pairs w 1 (third a 60 b 62) ∙ token-skip pairs w 2 (third a 60 b 61) ∙ token-skip pairs w 3 (third a 62 b 61)

is_short : List ℕ → ℕ → Bool
is_short [] t = false
is_short (a ∷ []) t = true
is_short (a ∷ b ∷ []) t = true
is_short (a ∷ b ∷ c ∷ x) t = goes_on t

signs-short : rows is_short names ≡ true
unfolding is_short
signs-short = refl

pairs-off : (x : List ℕ) (t c : ℕ) → goes_on t ≡ false → is_short x t ≡ true → (c ≡ 61 → ⊥) → (c ≡ 62 → ⊥) → token_in pairs (x ++ (c ∷ [])) ≡ 0
unfolding is_short
pairs-off [] t c s h e g = contrary h refl
pairs-off (a ∷ []) t c s h e g = one_more_lem a c e g
pairs-off (a ∷ b ∷ []) t c s h e g = two-more a b c
pairs-off (a ∷ b ∷ d ∷ x) t c s h e g = contrary h s

-- ---- the first byte of a token

abbrev first : ℕ → ℕ
first t = get_or (token_text t) 0 0

-- of a number: a digit
some_first : (p : ℕ → Bool) (a m : List ℕ) → 0 < length a → All p a → p (get_or (a ++ m) 0 0) ≡ true
some_first p [] m l h = absurd (omega arith)
some_first p (b ∷ bs) m l h = h.0

number-begins : (n : ℕ) → is_digit (get_or (number_text n) 0 0) ≡ true
unfolding number_text
number-begins n = some_first is_digit (decimal (n / unit)) (part_text (n % unit)) (decimal-some (n / unit)) (decimal-digits (n / unit))

-- of a sign: no letter, digit, _ or point
is_bare : List ℕ → ℕ → Bool
is_bare x t = let c = get_or x 0 0 in goes_on t || (not (is_word_byte c) && (not (is_letter c) && (not (is_digit c) && not (eqb c POINT))))

signs-bare : rows is_bare names ≡ true
unfolding is_bare
signs-bare = refl

-- of a word: a letter or $, and $ just of a variable
is_begun : List ℕ → ℕ → Bool
is_begun x t = let c = get_or x 0 0 in not (goes_on t) || (starts_word c && (not (is_variable t) || eqb c DOLLAR))

words-begun : rows is_begun names ≡ true
unfolding is_begun
words-begun = refl

-- a sign behind a sign, unless they would be one
is_kept : List ℕ → ℕ → List ℕ → ℕ → Bool
is_kept x t y u = goes_on t || (goes_on u || (is_one_sign t u || eqb (token_in pairs (x ++ (get_or y 0 0 ∷ []))) 0))

signs-kept : rows (λ x t. rows (is_kept x t) names) names ≡ true
unfolding is_kept
signs-kept = refl

-- ---- where a token stops

module _ (t : ℕ) (p : Printable t) where
  -- behind a sign only a sign can be taken for more of it
  sign-off : (c : ℕ) → goes_on t ≡ false → (c ≡ 61 → ⊥) → (c ≡ 62 → ⊥) → token_in pairs (name_text t ++ (c ∷ [])) ≡ 0
  sign-off c s h g = pairs-off (name_text t) t c s (name-says is_short t signs-short (p.named (sign-no-number t s))) h g

  apart-sign : (c : ℕ) → goes_on t ≡ false → (c ≡ 61 → ⊥) → (c ≡ 62 → ⊥) → Apart t c
  apart-sign c s h g = record { number = λ e. contrary e (sign-no-number t s); sign = λ _. sign-off c s h g; word = λ _ e. contrary e s }

  -- at a byte that is no = and no >, and no part of a word or a number
  apart-byte : (c : ℕ) → Stops c → is_word_byte c ≡ false → (c ≡ 61 → ⊥) → (c ≡ 62 → ⊥) → Apart t c
  apart-byte c s w h g = record { number = λ _. s; sign = λ e. sign-off c e h g; word = λ _ _. w }

  pub apart-space : Apart t SPACE
  apart-space = apart-byte SPACE (record { digit = refl; letter = refl; point = refl }) refl (λ e. omega arith) (λ e. omega arith)

  pub apart-end : Apart t 0
  apart-end = apart-byte 0 (record { digit = refl; letter = refl; point = refl }) refl (λ e. omega arith) (λ e. omega arith)

pub neither : (a b : Bool) → (a || b) ≡ false → (a ≡ false) × (b ≡ false)
neither true b h = contrary refl h
neither false b h = (refl, h)

pub or-none : (b : Bool) → (b || false) ≡ b
or-none true = refl
or-none false = refl

not_first : (a b : Bool) → (a && b) ≡ false → b ≡ true → a ≡ false
not_first true b h g = contrary g h
not_first false b h g = refl

starts-no-sign : (c : ℕ) → starts_word c ≡ true → (c ≡ 61 → ⊥) × (c ≡ 62 → ⊥)
starts-no-sign c h = (λ e. contrary h (rw e), λ e. contrary h (rw e))

digit-no-sign : (c : ℕ) → is_digit c ≡ true → (c ≡ 61 → ⊥) × (c ≡ 62 → ⊥)
digit-no-sign c h = let (l, u) = digit-bounds c h in (λ e. omega arith, λ e. omega arith)

pub number-follows : (u : ℕ) → is_number u ≡ true → is_following u ≡ true
number-follows u h = let l = leb-true NUMBER u h in rw (number-goes u h, lt-leb u 43 (omega arith), and-false (leb 32 u))

-- where no space is needed before a token, the token before it stops there
module _ (t u : ℕ) (p : Printable t) (q : Printable u) (n : needs_space t u ≡ false) where
  word-off : (goes_on t && is_following u) ≡ false
  unfolding needs_space
  word-off = (neither (goes_on t && is_following u) (is_one_sign t u) n).0

  one-off : is_one_sign t u ≡ false
  unfolding needs_space
  one-off = (neither (goes_on t && is_following u) (is_one_sign t u) n).1

  at-number : is_number u ≡ true → Apart t (get_or (number_text (thousandths (number_carried u))) 0 0)
  at-number e =
      let (h, g) = digit-no-sign _ (number-begins (thousandths (number_carried u))) in
      apart-sign t p _ (not_first (goes_on t) (is_following u) word-off (number-follows u e)) h g

  at_sign : is_number u ≡ false → goes_on u ≡ false → Apart t (get_or (name_text u) 0 0)
  unfolding is_bare is_kept
  at_sign e s =
      let c = get_or (name_text u) 0 0 in
      let r = name-says is_bare u signs-bare (q.named e) in
      let (a, b) = both (not (is_word_byte c)) _ (rw s at r) in
      let (d, f) = both (not (is_letter c)) _ b in
      let (g, h) = both (not (is_digit c)) _ f in
      record {
        number = λ _. record { digit = not-true (is_digit c) g; letter = not-true (is_letter c) d; point = not-true (eqb c POINT) h };
        sign = λ k.
            let x = name-says (λ x i. rows (is_kept x i) names) t signs-kept (p.named (sign-no-number t k)) in
            let m = name-says (is_kept (name_text t) t) u x (q.named e) in
            eqb-true (token_in pairs (name_text t ++ (c ∷ []))) 0 (rw (k, s, one-off) at m);
        word = λ _ _. not-true (is_word_byte c) a;
      }

  at-word : is_number u ≡ false → goes_on u ≡ true → Apart t (get_or (name_text u) 0 0)
  unfolding is_begun
  at-word e s =
      let c = get_or (name_text u) 0 0 in
      let r = name-says is_begun u words-begun (q.named e) in
      let (a, b) = both (starts_word c) _ (rw s at r) in
      decide _ (is_variable u)
      (λ v. let z = eqb-true c DOLLAR (rw v at b) in rw z (apart-byte t p DOLLAR (record { digit = refl; letter = refl; point = refl }) refl (λ y. omega arith) (λ y. omega arith)))
      (λ v. let (h, g) = starts-no-sign c a in apart-sign t p c (not_first (goes_on t) (is_following u) word-off (rw (s, v))) h g)

  pub apart_next : Apart t (first u)
  apart_next = by_token _ u (λ e x. rw x (at-number e)) (λ e s x. rw x (at_sign e s)) (λ e s x. rw x (at-word e s))

-- ---- a line

-- every token of a line can be written and read back
abbrev pub Printables : List ℕ → Type 0
Printables [] = Unit {0}
Printables (t ∷ ts) = Printable t × Printables ts

pub gap-none : (t u : ℕ) → needs_space t u ≡ false → gap t u ≡ []
unfolding gap
gap-none t u h = refused _ _ _ h

pub gap-some : (t u : ℕ) → needs_space t u ≡ true → gap t u ≡ SPACE ∷ []
unfolding gap
gap-some t u h = chosen _ _ _ h

short-some : (x : List ℕ) (t : ℕ) → is_short x t ≡ true → 0 < length x
unfolding is_short
short-some [] t h = contrary h refl
short-some (a ∷ x) t h = omega arith

number-some : (n : ℕ) → 0 < length (number_text n)
unfolding number_text
number-some n = let e = length-append (decimal (n / unit)) (part_text (n % unit)) in let d = decimal-some (n / unit) in omega arith

name-some : (t : ℕ) → has_name t ≡ true → 0 < length (name_text t)
name-some t h = short-some (name_text t) t (name-says is_short t signs-short h)

pub text-some : (t : ℕ) → Printable t → 0 < length (token_text t)
text-some t p =
    by_token _ t
    (λ e x. rw x (number-some (thousandths (number_carried t))))
    (λ e s x. rw x (name-some t (p.named e)))
    (λ e s x. rw x (name-some t (p.named e)))

-- the bytes of a line begin with those of its first token
line-begins : (u : ℕ) (ts : List ℕ) → Printable u → get_or (line_text (u ∷ ts)) 0 0 ≡ first u
unfolding line_text
line-begins u [] p = refl
line-begins u (v ∷ ts) p = get_or-append (token_text u) (gap u v ++ line_text (v ∷ ts)) 0 0 (text-some u p)

-- the tokens behind the first
behind-back : (t u : ℕ) (ts : List ℕ) → Printable t → Printable u → tokens_of (token_text t ++ (gap t u ++ line_text (u ∷ ts))) ≡ with_token (read_back t) (tokens_of (line_text (u ∷ ts)))
behind-back t u ts p q =
    let l = line_text (u ∷ ts) in
    decide _ (needs_space t u)
    (λ n. rw (gap-some t u n) (token_back t (SPACE ∷ l) p (apart-space t p) ∙ ap (with_token (read_back t)) (tokens-space SPACE l refl)))
    (λ n. rw (gap-none t u n) (token_back t l p (rw (line-begins u ts q) (apart_next t u p q n))))

-- THE TOKENS OF A LINE ARE READ BACK
pub line-back : (ts : List ℕ) → Printables ts → tokens_of (line_text ts) ≡ record { list = map read_back ts; good = true }
unfolding line_text
line-back [] h = tokens_none
line-back (t ∷ []) h = rw (← (append-nil (token_text t))) (token_back t [] h.0 (apart-end t h.0) ∙ ap (with_token (read_back t)) tokens_none)
line-back (t ∷ u ∷ ts) h = behind-back t u ts h.0 h.1.0 ∙ ap (with_token (read_back t)) (line-back (u ∷ ts) h.1)
