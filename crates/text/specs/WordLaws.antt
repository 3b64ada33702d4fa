-- Laws of names in a table: it is read both ways, and what a computed test says of every row it says of what is read; and of bytes compared. Assumes nothing.
use Rattle.std.specs.Prelude.{◌≡◌, Bool, true, false, not, ◌&&◌, ◌||◌, Option, Some, MatchOption, List, [], ◌∷◌, ◌++◌, ◌↔◌, ℕ, zero, suc, eqb, length, get_or, drop}
use Rattle.std.proofs.Math.Path.{refl}
use Rattle.std.proofs.Common.{sym, ap, ◌∙◌, arith, eqb-true, eq-eqb}
use Rattle.std.proofs.Math.Bool.{and-false}
use Rattle.std.proofs.lemmas.Bool.{false≢true}
use Rattle.values.specs.Choice.{decide, both, contrary}
use Rattle.text.specs.Word.{Words, pairs, singles, words, names, same_bytes, token_in, name_in, word_token, some_token}

-- ---- bytes

-- of different lengths
pub same-lengths : (a b : List ℕ) → (length a ≡ length b → ⊥) → same_bytes a b ≡ false
same-lengths [] [] h = absurd (h refl)
same-lengths [] (y ∷ b) h = refl
same-lengths (x ∷ a) [] h = refl
same-lengths (x ∷ a) (y ∷ b) h = rw (same-lengths a b (λ e. h (ap suc e))) (and-false (eqb x y))

-- the same bytes are the same list
pub same-is : (a b : List ℕ) → same_bytes a b ≡ true → a ≡ b
same-is [] [] h = refl
same-is [] (y ∷ b) h = absurd (false≢true h)
same-is (x ∷ a) [] h = absurd (false≢true h)
same-is (x ∷ a) (y ∷ b) h =
    let (p, q) = both (eqb x y) (same_bytes a b) h in
    ap (λ (z : ℕ). z ∷ a) (eqb-true x y p) ∙ ap (λ (l : List ℕ). y ∷ l) (same-is a b q)

same_self : (a : List ℕ) → same_bytes a a ≡ true
same_self [] = refl
same_self (x ∷ a) = rw (eq-eqb x x refl) (same_self a)

pub is_same : (a b : List ℕ) → a ≡ b → same_bytes a b ≡ true
is_same a b e = rw e (same_self b)

-- ---- a name that is not the word is passed by

pub token-skip : (ws : Words) (word : List ℕ) (k : ℕ) → same_bytes word (get_or ws k ([], 0)).0 ≡ false → token_in (drop k ws) word ≡ token_in (drop (suc k) ws) word
token-skip [] word zero h = refl
token-skip [] word (suc k) h = refl
token-skip (w ∷ ws) word zero h = rw (token_in, h)
token-skip (w ∷ ws) word (suc k) h = token-skip ws word k h

-- ---- a test of every row

-- computed
abbrev pub rows : (List ℕ → ℕ → Bool) → Words → Bool
rows f [] = true
rows f (w ∷ ws) = f w.0 w.1 && rows f ws

-- a token has a name
abbrev pub is_named : Words → ℕ → Bool
is_named [] t = false
is_named (w ∷ ws) t = eqb w.1 t || is_named ws t

-- WHAT A TEST SAYS OF EVERY ROW it says of the name of a token
pub name-passes : (f : List ℕ → ℕ → Bool) (ws : Words) (t : ℕ) → rows f ws ≡ true → is_named ws t ≡ true → f (name_in ws t) t ≡ true
name-passes f [] t h n = contrary n refl
name-passes f (w ∷ ws) t h n =
    let (a, b) = both (f w.0 w.1) (rows f ws) h in
    decide _ (eqb w.1 t)
    (λ e. rw (name_in, e) (rw (eqb-true w.1 t e) at a))
    (λ e. rw (name_in, e) (name-passes f ws t b (rw e at n)))

-- .. and of a word and the token that is found for it
pub found-passes : (f : List ℕ → ℕ → Bool) (ws : Words) (word : List ℕ) → rows f ws ≡ true → (token_in ws word ≡ 0 → ⊥) → f word (token_in ws word) ≡ true
found-passes f [] word h g = absurd (g refl)
found-passes f (w ∷ ws) word h g =
    let (a, b) = both (f w.0 w.1) (rows f ws) h in
    decide _ (same_bytes word w.0)
    (λ e. rw (token_in, e) (rw (sym (same-is word w.0 e)) at a))
    (λ e. rw (token_in, e) (found-passes f ws word b (rw (token_in, e) at g)))

-- ---- the table read both ways

-- no name and no token stands twice, computed
abbrev pub is_apart : Words → Bool
is_apart [] = true
is_apart (w ∷ ws) = eqb (token_in ws w.0) 0 && (same_bytes (name_in ws w.1) [] && is_apart ws)

module _ (word : List ℕ) (t : ℕ) (some : word ≡ [] → ⊥) (real : t ≡ 0 → ⊥) where
  name-of-found : (ws : Words) → is_apart ws ≡ true → token_in ws word ≡ t → name_in ws t ≡ word
  name-of-found [] h e = absurd (real (sym e))
  name-of-found (w ∷ ws) h e =
      let (a, b) = both (eqb (token_in ws w.0) 0) (same_bytes (name_in ws w.1) [] && is_apart ws) h in
      let (d, g) = both (same_bytes (name_in ws w.1) []) (is_apart ws) b in
      decide _ (same_bytes word w.0)
      (λ s. let q : w.1 ≡ t = rw (token_in, s) at e in rw (name_in, eq-eqb w.1 t q) (sym (same-is word w.0 s)))
      (λ s.
      let i = name-of-found ws g (rw (token_in, s) at e) in
      decide _ (eqb w.1 t)
      (λ x. absurd (some (sym i ∙ ap (name_in ws) (sym (eqb-true w.1 t x)) ∙ same-is (name_in ws w.1) [] d)))
      (λ x. rw (name_in, x) i))

  token-of-name : (ws : Words) → is_apart ws ≡ true → name_in ws t ≡ word → token_in ws word ≡ t
  token-of-name [] h e = absurd (some (sym e))
  token-of-name (w ∷ ws) h e =
      let (a, b) = both (eqb (token_in ws w.0) 0) (same_bytes (name_in ws w.1) [] && is_apart ws) h in
      let (d, g) = both (same_bytes (name_in ws w.1) []) (is_apart ws) b in
      decide _ (eqb w.1 t)
      (λ x. let q : w.0 ≡ word = rw (name_in, x) at e in rw (token_in, is_same word w.0 (sym q)) (eqb-true w.1 t x))
      (λ x.
      let i = token-of-name ws g (rw (name_in, x) at e) in
      decide _ (same_bytes word w.0)
      (λ s. absurd (real (sym i ∙ ap (token_in ws) (same-is word w.0 s) ∙ eqb-true (token_in ws w.0) 0 a)))
      (λ s. rw (token_in, s) i))

  -- A TABLE IS READ BOTH WAYS, if in it names and tokens are apart
  pub both_ways : (ws : Words) → is_apart ws ≡ true → (token_in ws word ≡ t) ↔ (name_in ws t ≡ word)
  both_ways ws h = (name-of-found ws h, token-of-name ws h)

  -- so the one table, and its words
  pub table-both-ways : (token_in names word ≡ t) ↔ (name_in names t ≡ word)
  table-both-ways = both_ways names refl

  pub words-both-ways : (word_token word ≡ t) ↔ (name_in words t ≡ word)
  unfolding word_token
  words-both-ways = both_ways words refl

-- ---- a part of the table

-- what a part finds the table finds
in-first : (us ws : Words) (word : List ℕ) → (token_in us word ≡ 0 → ⊥) → token_in (us ++ ws) word ≡ token_in us word
in-first [] ws word h = absurd (h refl)
in-first (u ∷ us) ws word h =
    decide _ (same_bytes word u.0)
    (λ e. rw (token_in, e))
    (λ e. rw (token_in, e) (in-first us ws word (rw (token_in, e) at h)))

in_rest : (us ws : Words) (word : List ℕ) → is_apart (us ++ ws) ≡ true → (token_in ws word ≡ 0 → ⊥) → token_in (us ++ ws) word ≡ token_in ws word
in_rest [] ws word h z = refl
in_rest (u ∷ us) ws word h z =
    let (a, b) = both (eqb (token_in (us ++ ws) u.0) 0) (same_bytes (name_in (us ++ ws) u.1) [] && is_apart (us ++ ws)) h in
    let (d, g) = both (same_bytes (name_in (us ++ ws) u.1) []) (is_apart (us ++ ws)) b in
    let i = in_rest us ws word g z in
    decide _ (same_bytes word u.0)
    (λ e. absurd (z (sym i ∙ ap (token_in (us ++ ws)) (same-is word u.0 e) ∙ eqb-true (token_in (us ++ ws) u.0) 0 a)))
    (λ e. rw (token_in, e) i)

module _ (word : List ℕ) where
  pub pair-in-table : (token_in pairs word ≡ 0 → ⊥) → token_in names word ≡ token_in pairs word
  pair-in-table h = in-first pairs (singles ++ words) word h

  pub single-in-table : (token_in singles word ≡ 0 → ⊥) → token_in names word ≡ token_in singles word
  single-in-table h =
      let e = in-first singles words word h in
      in_rest pairs (singles ++ words) word refl (λ z. h (sym e ∙ z)) ∙ e

  pub word-in-table : (word_token word ≡ 0 → ⊥) → token_in names word ≡ word_token word
  unfolding word_token
  word-in-table h = in_rest (pairs ++ singles) words word refl h

-- every token of a table is one
abbrev pub are_tokens : Words → Bool
are_tokens ws = rows (λ v t. not (eqb t 0)) ws

in-second : (us ws : Words) (word : List ℕ) → are_tokens us ≡ true → token_in us word ≡ 0 → token_in (us ++ ws) word ≡ token_in ws word
in-second [] ws word h z = refl
in-second (u ∷ us) ws word h z =
    let (a, b) = both (not (eqb u.1 0)) (are_tokens us) h in
    decide _ (same_bytes word u.0)
    (λ s. absurd (false≢true (rw (eq-eqb u.1 0 (rw (token_in, s) at z)) at a)))
    (λ s. rw (token_in, s) (in-second us ws word b (rw (token_in, s) at z)))

-- what one part finds, else the other, the two together find
pub joined : (us ws : Words) (word : List ℕ) → are_tokens us ≡ true → (r o : Option ℕ) → r ≡ some_token (token_in us word) → MatchOption r (o ≡ some_token (token_in ws word)) (λ t. o ≡ Some t) → o ≡ some_token (token_in (us ++ ws) word)
joined us ws word real r o e h = go (token_in us word) refl
  where
    go : (t : ℕ) → token_in us word ≡ t → o ≡ some_token (token_in (us ++ ws) word)
    go zero z = rw (in-second us ws word real z) (rw (e, z) at h)
    go (suc t) z = rw (in-first us ws word (λ y. absurd (omega arith)), z) (rw (e, z) at h)
