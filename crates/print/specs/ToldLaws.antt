-- What the reading of a first token tells: the byte behind it does not go on with it, it begins with the first byte, and it is written in no more bytes; so two tokens that are read with nothing between them need no space. Assumes nothing.
use Rattle.std.specs.Prelude.{◌≡◌, refl, Bool, true, false, not, ◌&&◌, ◌||◌, Option, None, List, [], ◌∷◌, ◌++◌, ℕ, zero, suc, ◌+◌, ◌≤◌, eqb, leb, length, take, drop, get_or}
use Rattle.std.proofs.Common.{sym, ap, ◌∙◌, arith, get_or-drop, drop-drop, length-take-le, get_or-take, eq-eqb, ne_eqb, le-leb}
use Rattle.std.proofs.Math.Bool.{and-false}
use Rattle.std.proofs.lemmas.Bool.{lt-leb, not-true}
use Rattle.values.specs.Choice.{decide, both, chosen, refused, contrary}
use Rattle.tokens.specs.Token.{NUMBER, is_number, is_variable}
use Rattle.text.specs.Byte.{POINT, is_digit, is_letter, starts_word, is_word_byte, run}
use Rattle.text.specs.ByteLaws.{run_on, run-off, run-within}
use Rattle.text.specs.Number.{number_token}
use Rattle.text.specs.Word.{pairs, singles, words, names, same_bytes, token_in, word_token}
use Rattle.text.specs.WordLaws.{same-is, rows, found-passes}
use Rattle.text.specs.declared.scan.First.{First}
use Rattle.text.specs.First.{found, token_of, size_of, word_first, behind_point, with_point, number_with, number_first, sign_first, first_token}
use Rattle.text.specs.TokensLaws.{no-pair}
use Rattle.print.specs.TokenText.{name_text, token_text, goes_on, is_following, is_one_sign, needs_space}
use Rattle.print.specs.DecimalLaws.{All}
use Rattle.print.specs.TokenBackLaws.{has_name, name-says, Printable, number-goes, goes-behind, sign-no-number, text-name, text-number}
use Rattle.print.specs.LineBack.{neither, one_more_lem, two-more}
use Rattle.print.specs.NumberShorterLaws.{number-shorter}

-- ---- what the reading of a first token tells

-- the byte c behind a token that was read does not go on with it
pub record Left (t c : ℕ) : Type 0 where
  pub word : goes_on t ≡ true → (is_letter c ≡ false) × (is_digit c ≡ false)
  pub sign : goes_on t ≡ false → token_in pairs (name_text t ++ (c ∷ [])) ≡ 0
  pub named : goes_on t ≡ false → has_name t ≡ true

-- it begins with the byte c
pub record Right (u c : ℕ) : Type 0 where
  pub follows : is_following u ≡ true → is_letter c ≡ false → is_digit c ≡ false → ⊥
  pub sign : goes_on u ≡ false → get_or (name_text u) 0 0 ≡ c
  pub named : goes_on u ≡ false → has_name u ≡ true

-- two signs that would be one, read one behind the other
is_met : List ℕ → ℕ → List ℕ → ℕ → Bool
is_met x t y u = goes_on t || (goes_on u || (not (is_one_sign t u) || not (eqb (token_in pairs (x ++ (get_or y 0 0 ∷ []))) 0)))

signs-met : rows (λ x t. rows (is_met x t) names) names ≡ true
unfolding is_met
signs-met = refl

or-first : (a b : Bool) → (a || not b) ≡ true → b ≡ true → a ≡ true
or-first true b h g = refl
or-first false true h g = contrary h refl
or-first false false h g = contrary g refl

-- what is no sign is none of them
no_sign : (t k : ℕ) → goes_on t ≡ true → k ≤ 15 → eqb t k ≡ false
no_sign t k h u = let l = goes-behind t h in ne_eqb t k (λ e. omega arith)

-- only a sign is one with a sign before it, or behind it
pub no-sign-one : (t u : ℕ) → goes_on u ≡ true → is_one_sign t u ≡ false
no-sign-one t u h =
    let l = goes-behind u h in
    rw (lt-leb u 2 (omega arith), and-false (leb 1 u), and-false (eqb t 1 || (eqb t 4 || eqb t 5)), no_sign u 5 h (omega arith), no_sign u 7 h (omega arith)) (and-false (eqb t 4))

pub one-no-sign : (t u : ℕ) → goes_on t ≡ true → is_one_sign t u ≡ false
one-no-sign t u h = rw (no_sign t 1 h (omega arith), no_sign t 4 h (omega arith), no_sign t 5 h (omega arith))

-- two signs that would be one do not stand side by side as they are read
sign-by-sign : (t u c : ℕ) → goes_on t ≡ false → goes_on u ≡ false → Left t c → Right u c → is_one_sign t u ≡ false
unfolding is_met
sign-by-sign t u c s v l r =
    let a = name-says (λ x i. rows (is_met x i) names) t signs-met (l.named s) in
    let m = name-says (is_met (name_text t) t) u a (r.named v) in
    let z : eqb (token_in pairs (name_text t ++ (get_or (name_text u) 0 0 ∷ []))) 0 ≡ true = rw (r.sign v) (eq-eqb _ 0 (l.sign s)) in
    not-true (is_one_sign t u) (or-first (not (is_one_sign t u)) _ (rw (s, v) at m) z)

-- TWO TOKENS READ WITH NOTHING BETWEEN THEM need no space
pub side_by_side : (t u c : ℕ) → Left t c → Right u c → needs_space t u ≡ false
unfolding needs_space
side_by_side t u c l r =
    decide _ (goes_on t)
    (λ s.
    let (a, b) = l.word s in
    let f : is_following u ≡ false = decide _ (is_following u) (λ e. absurd (r.follows e a b)) (λ e. e) in
    rw (f, and-false (goes_on t)) (one-no-sign t u s))
    (λ s. rw s (decide _ (goes_on u) (λ v. no-sign-one t u v) (λ v. sign-by-sign t u c s v l r)))

-- what is known of the first token t of k + 1 bytes
pub record Told (b : ℕ) (bs : List ℕ) (t k : ℕ) : Type 0 where
  pub left : Left t (get_or bs k 0)
  pub right : Right t b
  pub short : Printable t → length (token_text t) ≤ suc k

-- the byte behind a run is not of its kind
run-off-behind : (p : ℕ → Bool) (bs : List ℕ) → p 0 ≡ false → p (get_or bs (run p bs) 0) ≡ false
unfolding run
run-off-behind p [] z = z
run-off-behind p (b ∷ bs) z = decide _ (p b) (λ e. rw (run_on p b bs e) (run-off-behind p bs z)) (λ e. rw (run-off p b bs e) e)

-- ---- a word

word_told : List ℕ → ℕ → Bool
word_told x t = same_bytes (name_text t) x && (goes_on t && (not (is_number t) && (is_variable t || is_letter (get_or x 0 0))))

words-told : rows word_told words ≡ true
unfolding word_told name_text
words-told = refl

found-size : (t n k : ℕ) → (size_of (found t n)) ≡ suc k → ((token_of (found t n)) ≡ t) × (n ≡ suc k) × (t ≡ 0 → ⊥)
found-size zero n k h = absurd (omega arith)
found-size (suc t) n k h = (refl, h, λ e. omega arith)

word-told : (x : List ℕ) → (word_token x ≡ 0 → ⊥) → word_told x (word_token x) ≡ true
unfolding word_token
word-told x z = found-passes word_told words x words-told z

not-letter : (c : ℕ) → is_word_byte c ≡ false → (is_letter c ≡ false) × (is_digit c ≡ false)
not-letter c h = let (a, b) = neither (is_letter c) _ h in let (d, e) = neither (is_digit c) _ b in (a, d)

told-word : (b : ℕ) (bs : List ℕ) (k : ℕ) → (size_of (word_first (b ∷ bs))) ≡ suc k → Told b bs (token_of (word_first (b ∷ bs))) k
unfolding word_first word_told
told-word b bs k h =
    let n = run is_word_byte bs in
    let x = take (1 + n) (b ∷ bs) in
    let (e, f, z) = found-size (word_token x) (1 + n) k h in
    let w = run-within is_word_byte bs in
    let l = length-take-le (1 + n) (b ∷ bs) (omega arith) in
    rw e (go (word_token x) x (word-told x z) (omega arith) (omega arith) (get_or-take (1 + n) (b ∷ bs) 0 0 (omega arith)))
  where
    go : (t : ℕ) (x : List ℕ) → word_told x t ≡ true → run is_word_byte bs ≡ k → length x ≡ suc k → get_or x 0 0 ≡ b → Told b bs t k
    go t x q r l f =
        let (same, q1) = both (same_bytes (name_text t) x) _ q in
        let (s, q2) = both (goes_on t) _ q1 in
        let (num, q3) = both (not (is_number t)) _ q2 in
        let c = not-letter (get_or bs k 0) (rw (← r) (run-off-behind is_word_byte bs refl)) in
        record {
          left = record { word = λ _. c; sign = λ e. contrary s e; named = λ e. contrary s e };
          right = record {
            follows = λ e x d. contrary (let (_, v) = both (goes_on t) _ e in rw (not-true (is_variable t) v, f) at q3) x;
            sign = λ e. contrary s e;
            named = λ e. contrary s e;
          };
          short = λ p. rw (text-name t (not-true (is_number t) num), same-is (name_text t) x same) (omega arith);
        }

-- ---- a sign

sign_told : List ℕ → ℕ → Bool
sign_told x t = same_bytes (name_text t) x && (not (goes_on t) && has_name t)

pairs-told : rows sign_told pairs ≡ true
unfolding sign_told name_text has_name
pairs-told = refl

singles-told : rows sign_told singles ≡ true
unfolding sign_told name_text has_name
singles-told = refl

sign-told : (b : ℕ) (bs x : List ℕ) (t k : ℕ) → sign_told x t ≡ true → length x ≡ suc k → get_or x 0 0 ≡ b → token_in pairs (x ++ (get_or bs k 0 ∷ [])) ≡ 0 → Told b bs t k
unfolding sign_told
sign-told b bs x t k q l f z =
    let (same, q1) = both (same_bytes (name_text t) x) _ q in
    let (sign, named) = both (not (goes_on t)) _ q1 in
    let s = not-true (goes_on t) sign in
    let e = same-is (name_text t) x same in
    record {
      left = record { word = λ g. contrary g s; sign = λ _. rw e z; named = λ _. named };
      right = record { follows = λ a x d. contrary (both (goes_on t) _ a).0 s; sign = λ _. rw e f; named = λ _. named };
      short = λ p. rw (text-name t (sign-no-number t s), e) (omega arith);
    }

pairs-lone : (a : ℕ) → token_in pairs (a ∷ 0 ∷ []) ≡ 0
pairs-lone a = one_more_lem a 0 (λ e. omega arith) (λ e. omega arith)

told-sign : (b : ℕ) (bs : List ℕ) (k : ℕ) → (size_of (sign_first (b ∷ bs))) ≡ suc k → Told b bs (token_of (sign_first (b ∷ bs))) k
unfolding sign_first
told-sign b [] k h =
    let n = no-pair b in
    let g : (size_of (found (token_in singles (b ∷ [])) 1)) ≡ suc k = rw (sign_first, n) at h in
    let (e, f, z) = found-size (token_in singles (b ∷ [])) 1 k g in
    rw (sign_first, n, e) (sign-told b [] (b ∷ []) _ k (found-passes sign_told singles (b ∷ []) singles-told z) f refl (pairs-lone b))
told-sign b (c ∷ cs) k h = go (token_in pairs (b ∷ c ∷ [])) refl
  where
    go : (m : ℕ) → token_in pairs (b ∷ c ∷ []) ≡ m → Told b (c ∷ cs) (token_of (sign_first (b ∷ c ∷ cs))) k
    go zero n =
        let g : (size_of (found (token_in singles (b ∷ [])) 1)) ≡ suc k = rw (sign_first, n) at h in
        let (e, f, z) = found-size (token_in singles (b ∷ [])) 1 k g in
        let y : k ≡ 0 = omega arith in
        rw (sign_first, n, e) (sign-told b (c ∷ cs) (b ∷ []) _ k (found-passes sign_told singles (b ∷ []) singles-told z) f refl (rw y n))
    go (suc m) n =
        let g : 2 ≡ suc k = rw (sign_first, n) at h in
        let y : k ≡ 1 = omega arith in
        let t = found-passes sign_told pairs (b ∷ c ∷ []) pairs-told (λ z. omega arith) in
        rw (sign_first, n) (sign-told b (c ∷ cs) (b ∷ c ∷ []) (suc m) k (rw n at t) (omega arith) refl (rw y (two-more b c (get_or cs 0 0))))

-- ---- a number

-- the bytes of a run
run-all : (p : ℕ → Bool) (bs : List ℕ) → All p (take (run p bs) bs)
unfolding run
run-all p [] = tt
run-all p (b ∷ bs) = decide _ (p b) (λ e. rw (run_on p b bs e) (e, run-all p bs)) (λ e. rw (run-off p b bs e) tt)

-- the byte behind a number, and the digits behind its point
record Pointed (t : List ℕ) (m : ℕ) : Type 0 where
  behind : is_digit (get_or t (with_point m) 0) ≡ false
  digits : All is_digit (take m (drop 1 t))
  fits : m ≤ length (drop 1 t)

pointed-is : (t : List ℕ) → is_digit (get_or t 0 0) ≡ false → Pointed t (behind_point t)
unfolding behind_point
pointed-is t h =
    decide _ (eqb (get_or t 0 0) POINT)
    (λ e. rw (behind_point, e) (record { behind = go (run is_digit (drop 1 t)) refl; digits = run-all is_digit (drop 1 t); fits = run-within is_digit (drop 1 t) }))
    (λ e. rw (behind_point, e) (record { behind = h; digits = tt; fits = omega arith }))
  where
    go : (m : ℕ) → run is_digit (drop 1 t) ≡ m → is_digit (get_or t (with_point m) 0) ≡ false
    go zero e = h
    go (suc m) e = let r = run-off-behind is_digit (drop 1 t) refl in let z : 1 + suc m ≡ suc (suc m) = omega arith in rw (e, get_or-drop 1 t (suc m) 0, z) at r

number-low : (a d : List ℕ) → NUMBER ≤ number_token a d
unfolding number_token
number-low a d = omega arith

-- a number of n digits, and m behind its point
module _ (b : ℕ) (bs : List ℕ) (k n m : ℕ) (h : is_digit b ≡ true) (da : All is_digit (take n (b ∷ bs))) (some : 1 ≤ n) (fits : n ≤ length (b ∷ bs)) (p : Pointed (drop n (b ∷ bs)) m) (f : n + with_point m ≡ suc k) (e : is_letter (get_or bs k 0) ≡ false) where
  abbrev before : List ℕ
  before = take n (b ∷ bs)

  abbrev behind : List ℕ
  behind = take m (drop (n + 1) (b ∷ bs))

  number-made : Told b bs (number_token before behind) k
  number-made =
      let t = b ∷ bs in
      let d = drop-drop 1 n t in
      let low = number-low before behind in
      let goes : goes_on (number_token before behind) ≡ true = number-goes (number_token before behind) (le-leb NUMBER (number_token before behind) low) in
      let digit : is_digit (get_or bs k 0) ≡ false = rw (get_or-drop n t (with_point m) 0, f) at p.behind in
      let la = length-take-le n t fits in
      let fb : m ≤ length (drop (n + 1) t) = rw d at p.fits in
      let lb = length-take-le m (drop (n + 1) t) fb in
      record {
        left = record { word = λ _. (e, digit); sign = λ s. contrary goes s; named = λ s. contrary goes s };
        right = record { follows = λ _ _ c. contrary h c; sign = λ s. contrary goes s; named = λ s. contrary goes s };
        short = λ q.
            let num = le-leb NUMBER (number_token before behind) low in
            let text = text-number (number_token before behind) num in
            let u = number-shorter before behind da (rw d at p.digits) (omega arith) (q.number num) in
            let w = ap with_point lb in
            rw text (omega arith);
      }

told-number : (b : ℕ) (bs : List ℕ) (k : ℕ) → is_digit b ≡ true → (size_of (number_first (b ∷ bs))) ≡ suc k → Told b bs (token_of (number_first (b ∷ bs))) k
unfolding number_first number_with
told-number b bs k h g =
    let t = b ∷ bs in
    let n = run is_digit t in
    let m = behind_point (drop n t) in
    let T = number_token (take n t) (take m (drop (n + 1) t)) in
    decide _ (is_letter (get_or t (n + with_point m) 0))
    (λ e. let eq : number_first t ≡ None = chosen _ _ _ e in let z = sym (ap (λ (f : Option First). size_of f) eq) ∙ g in absurd (omega arith))
    (λ e.
    let eq : number_first t ≡ found T (n + with_point m) = refused _ _ _ e in
    let (x, f, z) = found-size T (n + with_point m) k (sym (ap (λ (f : Option First). size_of f) eq) ∙ g) in
    let s : n ≡ suc (run is_digit bs) = run_on is_digit b bs h in
    let y : get_or (drop n t) 0 0 ≡ get_or t n 0 = let z : n + 0 ≡ n = omega arith in get_or-drop n t 0 0 ∙ ap (λ (j : ℕ). get_or t j 0) z in
    rw (ap (λ (f : Option First). token_of f) eq ∙ x)
    (number-made b bs k n m h (run-all is_digit t) (omega arith) (run-within is_digit t) (pointed-is (drop n t) (ap is_digit y ∙ run-off-behind is_digit t refl)) f (rw f at e)))

-- ---- any of them

pub first-told : (b : ℕ) (bs : List ℕ) (k : ℕ) → (size_of (first_token (b ∷ bs))) ≡ suc k → Told b bs (token_of (first_token (b ∷ bs))) k
unfolding first_token
first-told b bs k h =
    decide _ (starts_word b)
    (λ e. rw (first_token, e) (told-word b bs k (rw (first_token, e) at h)))
    (λ e. decide _ (is_digit b)
    (λ d. rw (first_token, e, d) (told-number b bs k d (rw (first_token, e, d) at h)))
    (λ d. rw (first_token, e, d) (told-sign b bs k (rw (first_token, e, d) at h))))
