-- A token that is written is read back, where the byte behind it does not go on with it. Assumes nothing.
use Rattle.std.specs.Prelude.{◌≡◌, refl, Bool, true, false, not, ◌&&◌, ◌||◌, Option, Some, List, [], ◌∷◌, ◌++◌, ℕ, zero, suc, ◌+◌, ◌*◌, ◌/◌, ◌%◌, ◌≤◌, ◌<◌, eqb, leb, length, get_or}
use Rattle.std.proofs.Common.{sym, ap, ◌∙◌, arith, eqb-true, ne_eqb, le-leb, leb-true}
use Rattle.std.proofs.Math.Seq.{take-append_seam, drop-append_seam}
use Rattle.std.proofs.lemmas.Bool.{lt-leb, not-true}
use Rattle.values.specs.Choice.{decide, both, chosen, refused, contrary}
use Rattle.values.specs.Value.{unit, top}
use Rattle.tokens.specs.Token.{NUMBER, ID, COMMA, is_number, number_carried, thousandths}
use Rattle.text.specs.Byte.{DOLLAR, is_digit, is_space, starts_word, is_word_byte, run}
use Rattle.text.specs.Word.{pairs, singles, names, token_in, word_token}
use Rattle.text.specs.WordLaws.{rows, is_named, name-passes}
use Rattle.text.specs.declared.scan.First.{First}
use Rattle.text.specs.First.{found, token_of, size_of, word_first, number_first, sign_first, first_token}
use Rattle.text.specs.FirstLaws.{found_some}
use Rattle.text.specs.Tokens.{with_token, tokens_of}
use Rattle.text.specs.TokensLaws.{tokens-one, no-pair}
use Rattle.text.specs.Digits.{decimal}
use Rattle.print.specs.TokenText.{part_text, number_text, name_text, token_text, goes_on}
use Rattle.print.specs.ReadBack.{mark, read_back}
use Rattle.print.specs.DecimalLaws.{All, run-over, digit-bounds, decimal-digits, decimal-some}
use Rattle.print.specs.NumberBackLaws.{Stops, number-back}

-- ---- from the first token to all

-- a token that takes just the bytes x
pub scan-first : (x rest : List ℕ) (t : ℕ) → 0 < length x → is_space (get_or x 0 0) ≡ false → first_token (x ++ rest) ≡ Some (record { token = t; size = length x }) → tokens_of (x ++ rest) ≡ with_token t (tokens_of rest)
scan-first [] rest t l s h = absurd (omega arith)
scan-first (b ∷ bs) rest t l s h =
    let z : (size_of (first_token (b ∷ bs ++ rest))) ≡ suc (length bs) = ap (λ (f : Option First). size_of f) h in
    let y : (token_of (first_token (b ∷ bs ++ rest))) ≡ t = ap (λ (f : Option First). token_of f) h in
    tokens-one b (bs ++ rest) (length bs) s z ∙ rw (y, drop-append_seam bs rest)

-- ---- names

-- every byte passes a test, computed
abbrev pub each : (ℕ → Bool) → List ℕ → Bool
each p [] = true
each p (b ∷ bs) = p b && each p bs

pub each_all : (p : ℕ → Bool) (bs : List ℕ) → each p bs ≡ true → All p bs
each_all p [] h = tt
each_all p (b ∷ bs) h = let (x, y) = both (p b) (each p bs) h in (x, each_all p bs y)

-- a token has a name in the table
unfoldable pub has_name : ℕ → Bool
has_name t = is_named names t

-- what a test says of every row of the table it says of the name of a token
pub name-says : (f : List ℕ → ℕ → Bool) (t : ℕ) → rows f names ≡ true → has_name t ≡ true → f (name_text t) t ≡ true
unfolding name_text has_name
name-says f t h n = name-passes f names t h n

-- ---- words

word_row : List ℕ → ℕ → Bool
word_row [] t = not (goes_on t)
word_row (c ∷ cs) t = not (goes_on t) || (starts_word c && (each is_word_byte cs && eqb (word_token (c ∷ cs)) t))

words-fit : rows word_row names ≡ true
unfolding word_token word_row
words-fit = refl

-- no letter and no $ is a space
word-no-space : (c : ℕ) → starts_word c ≡ true → is_space c ≡ false
word-no-space c h = decide _ (is_space c) (λ e. let z = eqb-true c 32 e in contrary h (rw z)) (λ e. e)

first-at-word : (c : ℕ) (cs : List ℕ) → starts_word c ≡ true → first_token (c ∷ cs) ≡ word_first (c ∷ cs)
unfolding first_token
first-at-word c cs h = chosen _ _ _ h

word_back : (x rest : List ℕ) (t : ℕ) → (t ≡ 0 → ⊥) → goes_on t ≡ true → word_row x t ≡ true → is_word_byte (get_or rest 0 0) ≡ false →
    (0 < length x) × (is_space (get_or x 0 0) ≡ false) × (first_token (x ++ rest) ≡ Some (record { token = t; size = length x }))
unfolding word_row word_first
word_back [] rest t z g h s = contrary (rw g at h) refl
word_back (c ∷ cs) rest t z g h s =
    let (a, b) = both (starts_word c) _ (rw g at h) in
    let (d, e) = both (each is_word_byte cs) _ b in
    let r = run-over is_word_byte cs rest (each_all is_word_byte cs d) s in
    let w = eqb-true (word_token (c ∷ cs)) t e in
    let n : 1 + run is_word_byte (cs ++ rest) ≡ suc (length cs) = omega arith in
    let f : word_first (c ∷ cs ++ rest) ≡ found (word_token (c ∷ cs)) (suc (length cs)) = rw n (ap (λ (y : List ℕ). found (word_token y) (suc (length cs))) (take-append_seam (c ∷ cs) rest)) in
    (omega arith, word-no-space c a, first-at-word c (cs ++ rest) a ∙ f ∙ rw w (sym (found_some t _ z)))

-- ---- signs

is_plain_byte : ℕ → Bool
is_plain_byte a = not (starts_word a) && (not (is_digit a) && not (is_space a))

sign_row : List ℕ → ℕ → Bool
sign_row [] t = goes_on t
sign_row (a ∷ []) t = goes_on t || (is_plain_byte a && eqb (token_in singles (a ∷ [])) t)
sign_row (a ∷ b ∷ []) t = goes_on t || (is_plain_byte a && eqb (token_in pairs (a ∷ b ∷ [])) t)
sign_row (a ∷ b ∷ c ∷ bs) t = goes_on t

signs-fit : rows sign_row names ≡ true
unfolding sign_row is_plain_byte
signs-fit = refl

first-at-sign : (a : ℕ) (bs : List ℕ) → is_plain_byte a ≡ true → (is_space a ≡ false) × (first_token (a ∷ bs) ≡ sign_first (a ∷ bs))
unfolding first_token is_plain_byte
first-at-sign a bs h =
    let (x, y) = both (not (starts_word a)) _ h in
    let (z, w) = both (not (is_digit a)) _ y in
    (not-true (is_space a) w, refused _ _ _ (not-true (starts_word a) x) ∙ refused _ _ _ (not-true (is_digit a) z))

-- a sign, and a byte that makes no sign of two with it
sign-one : (a t : ℕ) (rest : List ℕ) → (t ≡ 0 → ⊥) → token_in singles (a ∷ []) ≡ t → token_in pairs (a ∷ get_or rest 0 0 ∷ []) ≡ 0 → sign_first (a ∷ rest) ≡ Some (record { token = t; size = 1 })
unfolding sign_first
sign-one a t [] z e s = rw (sign_first, no-pair a, e) (sym (found_some t 1 z))
sign-one a t (c ∷ cs) z e s = rw (sign_first, s, e) (sym (found_some t 1 z))

sign-two : (a b t : ℕ) (rest : List ℕ) → (t ≡ 0 → ⊥) → token_in pairs (a ∷ b ∷ []) ≡ t → sign_first (a ∷ b ∷ rest) ≡ Some (record { token = t; size = 2 })
unfolding sign_first
sign-two a b zero rest z e = absurd (z refl)
sign-two a b (suc t) rest z e = rw (sign_first, e)

sign-back : (x rest : List ℕ) (t : ℕ) → (t ≡ 0 → ⊥) → goes_on t ≡ false → sign_row x t ≡ true → token_in pairs (x ++ (get_or rest 0 0 ∷ [])) ≡ 0 →
    (0 < length x) × (is_space (get_or x 0 0) ≡ false) × (first_token (x ++ rest) ≡ Some (record { token = t; size = length x }))
unfolding sign_row
sign-back [] rest t z g h s = contrary h g
sign-back (a ∷ []) rest t z g h s =
    let (p, e) = both (is_plain_byte a) _ (rw g at h) in
    let (y, f) = first-at-sign a rest p in
    (omega arith, y, f ∙ sign-one a t rest z (eqb-true (token_in singles (a ∷ [])) t e) s)
sign-back (a ∷ b ∷ []) rest t z g h s =
    let (p, e) = both (is_plain_byte a) _ (rw g at h) in
    let (y, f) = first-at-sign a (b ∷ rest) p in
    (omega arith, y, f ∙ sign-two a b t rest z (eqb-true (token_in pairs (a ∷ b ∷ [])) t e))
sign-back (a ∷ b ∷ c ∷ bs) rest t z g h s = contrary h g

-- ---- numbers

first-at-digit : (b : ℕ) (bs : List ℕ) → is_digit b ≡ true → (is_space b ≡ false) × (first_token (b ∷ bs) ≡ number_first (b ∷ bs))
unfolding first_token
first-at-digit b bs h =
    let (l, u) = digit-bounds b h in
    let s : starts_word b ≡ false = rw (lt-leb 65 b (omega arith), ne_eqb b DOLLAR (λ e. omega arith)) in
    (ne_eqb b 32 (λ e. omega arith), refused _ _ _ s ∙ chosen _ _ _ h)

digits-first : (a m rest : List ℕ) → 0 < length a → All is_digit a → (0 < length (a ++ m)) × (is_space (get_or (a ++ m) 0 0) ≡ false) × (first_token (a ++ m ++ rest) ≡ number_first (a ++ m ++ rest))
digits-first [] m rest l h = absurd (omega arith)
digits-first (b ∷ bs) m rest l h = let (s, f) = first-at-digit b (bs ++ m ++ rest) h.0 in (omega arith, s, f)

-- ---- a token

-- a token that can be written and read back: a number within the range, a sign or a word
pub record Printable (t : ℕ) : Type 0 where
  pub number : is_number t ≡ true → thousandths (number_carried t) ≤ top
  pub named : is_number t ≡ false → has_name t ≡ true

-- it is no end of a line
pub real : (t : ℕ) → Printable t → t ≡ 0 → ⊥
unfolding has_name
real t p e = contrary (rw e at (p.named (rw e))) refl

-- a number goes on
pub number-goes : (t : ℕ) → is_number t ≡ true → goes_on t ≡ true
number-goes t h = let l = leb-true NUMBER t h in rw (le-leb ID t (omega arith), ne_eqb t COMMA (λ e. omega arith))

-- what goes on stands behind the signs
pub goes-behind : (t : ℕ) → goes_on t ≡ true → ID ≤ t
goes-behind t h = leb-true ID t (both (leb ID t) _ h).0

-- so a sign is no number
pub sign-no-number : (t : ℕ) → goes_on t ≡ false → is_number t ≡ false
sign-no-number t g = decide _ (is_number t) (λ e. contrary (number-goes t e) g) (λ e. e)

-- the byte c does not go on with the token t
pub record Apart (t c : ℕ) : Type 0 where
  pub number : is_number t ≡ true → Stops c
  pub sign : goes_on t ≡ false → token_in pairs (name_text t ++ (c ∷ [])) ≡ 0
  pub word : is_number t ≡ false → goes_on t ≡ true → is_word_byte c ≡ false

-- by what a token is: a number, a sign, a word
pub by_token :
    (P : Type 0) (t : ℕ) → (is_number t ≡ true → token_text t ≡ number_text (thousandths (number_carried t)) → P)
    → (is_number t ≡ false → goes_on t ≡ false → token_text t ≡ name_text t → P)
    → (is_number t ≡ false → goes_on t ≡ true → token_text t ≡ name_text t → P)
    → P
unfolding token_text
by_token P t num sig wor =
    decide P (is_number t) (λ e. num e (chosen _ _ _ e)) λ e.
    decide P (goes_on t) (λ g. wor e g (refused _ _ _ e)) (λ g. sig e g (refused _ _ _ e))

pub text-name : (t : ℕ) → is_number t ≡ false → token_text t ≡ name_text t
unfolding token_text
text-name t e = refused _ _ _ e

pub text-number : (t : ℕ) → is_number t ≡ true → token_text t ≡ number_text (thousandths (number_carried t))
unfolding token_text
text-number t e = chosen _ _ _ e

pub back-number : (t : ℕ) → is_number t ≡ true → read_back t ≡ NUMBER + (thousandths (number_carried t) * 2 + mark (thousandths (number_carried t) % unit))
unfolding read_back
back-number t e = chosen _ _ _ e

pub back-other : (t : ℕ) → is_number t ≡ false → read_back t ≡ t
unfolding read_back
back-other t e = refused _ _ _ e

number-first : (n : ℕ) (rest : List ℕ) → (0 < length (number_text n)) × (is_space (get_or (number_text n) 0 0) ≡ false) × (first_token (number_text n ++ rest) ≡ number_first (number_text n ++ rest))
unfolding number_text
number-first n rest = digits-first (decimal (n / unit)) (part_text (n % unit)) rest (decimal-some (n / unit)) (decimal-digits (n / unit))

-- A TOKEN IS READ BACK
pub token_back : (t : ℕ) (rest : List ℕ) → Printable t → Apart t (get_or rest 0 0) → tokens_of (token_text t ++ rest) ≡ with_token (read_back t) (tokens_of rest)
token_back t rest p a =
    by_token _ t
    (λ e x.
    let n = thousandths (number_carried t) in
    let (l, s, f) = number-first n rest in
    rw (x, back-number t e) (scan-first (number_text n) rest _ l s (f ∙ number-back n (p.number e) rest (a.number e))))
    (λ e g x.
    let (l, s, f) = sign-back (name_text t) rest t (real t p) g (name-says sign_row t signs-fit (p.named e)) (a.sign g) in
    rw (x, back-other t e) (scan-first (name_text t) rest t l s f))
    (λ e g x.
    let (l, s, f) = word_back (name_text t) rest t (real t p) g (name-says word_row t words-fit (p.named e)) (a.word e g) in
    rw (x, back-other t e) (scan-first (name_text t) rest t l s f))
