-- Laws on the count of brackets: which tokens it passes over, how it goes on behind tokens, brackets and signs, and what that says of what was read.
use mathlib.Core.Path.{◌≡◌, refl, sym, ap, ◌∙◌}
use mathlib.Core.Bool.{Bool, true, false, cond}
use mathlib.Core.List.{List}
use Prim.Native.Nat.{ℕ, zero, suc, ◌+◌, ◌<◌, ◌≤◌}
use native.Mathlib.Omega.{arith}
use lib.Dec.{eqb}
use lib.ListN.{drop, get_or}
use borrow.Author.Tests.{eqb-true, leb-true}
use Rattle.values.specs.Choice.{both}
use Rattle.tokens.specs.Token.{ID, IDS, is_id, EQUALS, OPEN, CLOSE, COMMA, MINUS, LEFT, RIGHT, IN, IM, X, W, NUMBER, is_variable, has_axis, is_axis, is_whole, between}
use Rattle.tokens.specs.Descent.{is_index, is_indexed}
use Rattle.tokens.specs.SingleFault.{brackets_open, opens_too_many}
use Rattle.tokens.specs.BetweenLaws.{inside, lies-inside}
use Rattle.tokens.specs.BracketLaws.{bracket-open, bracket-close, bracket-other}
use Rattle.checking.specs.Fault.{is_given, is_synfct}
use Rattle.checking.specs.SightNumber.{next_of, depth_of, signs_behind}
use Rattle.checking.specs.Brackets.{NoBracket, CountsOn, InGrammar, Counted, Onward, InBrackets, SameEnd, Joined}

-- ---- tokens that the count passes over

-- those above )
pub other-above : (t : ℕ) → CLOSE < t → NoBracket t
other-above t l = record { no_end = λ e. omega arith; no-open = λ e. omega arith; no-close = λ e. omega arith }

-- those between the end and (
pub other-below : (t : ℕ) → 0 < t → t < OPEN → NoBracket t
other-below t l m = record { no_end = λ e. omega arith; no-open = λ e. omega arith; no-close = λ e. omega arith }

-- those of a range above )
pub other-high : (low high t : ℕ) {o : Bool} → CLOSE < low → o ≡ between low high t → o ≡ true → NoBracket t
other-high low high t l e f = let b = inside low high t (sym e ∙ f) in other-above t (omega arith)

-- a number, and an index
pub other-whole : (t : ℕ) → is_whole t ≡ true → NoBracket t
other-whole t h = let i = leb-true NUMBER t (both _ _ h).0 in other-above t (omega arith)

index-other : (w t : ℕ) → is_index w t ≡ true → NoBracket t
unfolding is_index
index-other w t = go (has_axis w)
  where
    go : (b : Bool) → cond b (is_axis t) (is_whole t) ≡ true → NoBracket t
    go true h = let i = inside X W t h in other-above t (omega arith)
    go false h = other-whole t h

-- ---- the count from place to place

module _ (s : List ℕ) where
  pub counts-token : (p q : ℕ) {t : ℕ} → t ≡ get_or s p 0 → NoBracket t → q ≡ p + 1 → CountsOn s p 0 q
  counts-token p q {t} e k i n l = rw i (bracket-other s p t n (lies-inside s p e k.no_end) e n k.no_end k.no-open k.no-close refl)

  -- one after the other, each at most as deep as m
  pub counts-then : (p q r : ℕ) {d e : ℕ} (m : ℕ) → d ≤ m → e ≤ m → CountsOn s p d q → CountsOn s q e r → CountsOn s p m r
  counts-then p q r m a b f g n l = f n (omega arith) ∙ g n (omega arith)

  -- brackets around what is at most d deep
  pub counts-brackets : (p q : ℕ) {d : ℕ} (m : ℕ) → d < m → get_or s p 0 ≡ OPEN → get_or s q 0 ≡ CLOSE → CountsOn s (p + 1) d q → CountsOn s p m (q + 1)
  counts-brackets p q m l o c f n b =
      bracket-open s p OPEN n (lies-inside s p (sym o) (λ z. omega arith)) (sym o) (n + 1) refl (omega arith) refl ∙
      f (n + 1) (omega arith) ∙
      bracket-close s q CLOSE (n + 1) (lies-inside s q (sym c) (λ z. omega arith)) (sym c) n refl (omega arith)

  -- the signs behind the one at p
  pub counts-signs : (k p n : ℕ) → n ≡ signs_behind s k p → CountsOn s (p + 1) 0 (p + n + 1)
  unfolding signs_behind
  counts-signs zero p n e m l = let z : p + n ≡ p = omega arith in rw z
  counts-signs (suc k) p n e m l = go (eqb (get_or s (p + 1) 0) MINUS) refl (counts-signs k (p + 1) (signs_behind s k (p + 1)) refl m l)
    where
      go : (b : Bool) → eqb (get_or s (p + 1) 0) MINUS ≡ b → opens_too_many (drop (p + 1 + 1) s) m ≡ opens_too_many (drop (p + 1 + signs_behind s k (p + 1) + 1) s) m → opens_too_many (drop (p + 1) s) m ≡ opens_too_many (drop (p + n + 1) s) m
      go false h f = let w : n ≡ 0 = e ∙ simp (signs_behind, h) in let z : p + n ≡ p = omega arith in rw z
      go true h f =
          let w : n ≡ 1 + signs_behind s k (p + 1) = e ∙ simp (signs_behind, h) in
          let z : p + n + 1 ≡ p + 1 + signs_behind s k (p + 1) + 1 = omega arith in
          rw z (counts-token (p + 1) (p + 1 + 1) (sym (eqb-true _ _ h)) (other-below MINUS (omega arith) (omega arith)) refl m l ∙ f)

  -- the index of the word w at p
  pub counts-index : (w p : ℕ) → is_indexed s w p ≡ true → CountsOn s (p + 1) 0 (p + 4)
  unfolding is_indexed
  counts-index w p h =
      let a = both (eqb (get_or s (p + 1) 0) LEFT) _ h in
      let b = both (eqb (get_or s (p + 3) 0) RIGHT) _ a.1 in
      let left = counts-token (p + 1) (p + 2) (sym (eqb-true _ _ a.0)) (other-above LEFT (omega arith)) (omega arith) in
      let index = counts-token (p + 2) (p + 3) refl (index-other w (get_or s (p + 2) 0) b.1) (omega arith) in
      let right = counts-token (p + 3) (p + 4) (sym (eqb-true _ _ b.0)) (other-above RIGHT (omega arith)) (omega arith) in
      counts-then (p + 1) (p + 2) (p + 4) 0 (omega arith) (omega arith) left (counts-then (p + 2) (p + 3) (p + 4) 0 (omega arith) (omega arith) index right)

  -- the same, and the = behind it
  pub counts-assigned : (w p : ℕ) → is_indexed s w p ≡ true → get_or s (p + 4) 0 ≡ EQUALS → CountsOn s (p + 1) 0 (p + 5)
  counts-assigned w p h e = counts-then (p + 1) (p + 4) (p + 5) 0 (omega arith) (omega arith) (counts-index w p h) (counts-token (p + 4) (p + 5) (sym e) (other-below EQUALS (omega arith) (omega arith)) (omega arith))

  -- = and a number
  pub counts-code : (p : ℕ) → get_or s (p + 1) 0 ≡ EQUALS → is_whole (get_or s (p + 2) 0) ≡ true → CountsOn s (p + 1) 0 (p + 3)
  counts-code p e h =
      counts-then (p + 1) (p + 2) (p + 3) 0 (omega arith) (omega arith) (counts-token (p + 1) (p + 2) (sym e) (other-below EQUALS (omega arith) (omega arith)) (omega arith)) (counts-token (p + 2) (p + 3) refl (other-whole _ h) (omega arith))

  -- ID or IDS, = and a number
  pub counts-head : (p : ℕ) → is_id (get_or s p 0) ≡ true → get_or s (p + 1) 0 ≡ EQUALS → is_whole (get_or s (p + 2) 0) ≡ true → CountsOn s p 0 (p + 3)
  counts-head p i e h = counts-then p (p + 1) (p + 3) 0 (omega arith) (omega arith) (counts-token p (p + 1) refl (other-high ID IDS (get_or s p 0) (omega arith) refl i) refl) (counts-code p e h)

  -- a number in brackets
  pub counts-call : (p : ℕ) → get_or s (p + 1) 0 ≡ OPEN → is_whole (get_or s (p + 2) 0) ≡ true → get_or s (p + 3) 0 ≡ CLOSE → CountsOn s (p + 1) 1 (p + 4)
  counts-call p o h c =
      let i : p + 2 ≡ p + 1 + 1 = omega arith in
      let j : p + 3 + 1 ≡ p + 4 = omega arith in
      rw j at (counts-brackets (p + 1) (p + 3) 1 (omega arith) o c (rw i at (counts-token (p + 2) (p + 3) refl (other-whole _ h) (omega arith))))

  -- , and a variable with its index
  pub counts-given : (p : ℕ) → is_given s p ≡ true → CountsOn s p 0 (p + 5)
  unfolding is_given
  counts-given p h =
      let a = both (eqb (get_or s p 0) COMMA) _ h in
      let b = both (is_variable (get_or s (p + 1) 0)) _ a.1 in
      let one : p + 1 + 1 ≡ p + 2 = omega arith in
      let four : p + 1 + 4 ≡ p + 5 = omega arith in
      let comma = counts-token p (p + 1) (sym (eqb-true _ _ a.0)) (other-above COMMA (omega arith)) refl in
      let word = counts-token (p + 1) (p + 2) refl (other-high IN IM (get_or s (p + 1) 0) (omega arith) refl b.0) (omega arith) in
      let index = rw (one, four) at (counts-index (get_or s (p + 1) 0) (p + 1) b.1) in
      counts-then p (p + 1) (p + 5) 0 (omega arith) (omega arith) comma (counts-then (p + 1) (p + 2) (p + 5) 0 (omega arith) (omega arith) word index)

  -- what stands behind SYNFCT
  pub counts-synfct : (p : ℕ) → is_synfct s p ≡ true → CountsOn s (p + 1) 1 (p + 14)
  unfolding is_synfct
  counts-synfct p h =
      let a = both (eqb (get_or s (p + 1) 0) OPEN) _ h in
      let b = both (is_whole (get_or s (p + 2) 0)) _ a.1 in
      let c = both (is_given s (p + 3)) _ b.1 in
      let d = both (is_given s (p + 8)) _ c.1 in
      let two : p + 2 ≡ p + 1 + 1 = omega arith in
      let eight : p + 3 + 5 ≡ p + 8 = omega arith in
      let thirteen : p + 8 + 5 ≡ p + 13 = omega arith in
      let behind : p + 13 + 1 ≡ p + 14 = omega arith in
      let number = counts-token (p + 2) (p + 3) refl (other-whole _ b.0) (omega arith) in
      let target = rw eight at (counts-given (p + 3) c.0) in
      let variable = rw thirteen at (counts-given (p + 8) d.0) in
      let inner = counts-then (p + 2) (p + 3) (p + 13) 0 (omega arith) (omega arith) number (counts-then (p + 3) (p + 8) (p + 13) 0 (omega arith) (omega arith) target variable) in
      rw behind at (counts-brackets (p + 1) (p + 13) 1 (omega arith) (eqb-true _ _ a.0) (eqb-true _ _ d.1) (rw two at inner))

  -- ---- what was read

  same_place : (n : ℕ) {i j : ℕ} → i ≡ j → opens_too_many (drop i s) n ≡ opens_too_many (drop j s) n
  same_place n e = ap (λ (k : ℕ). opens_too_many (drop k s) n) e

  -- x was read from p to q
  pub counted-to : (p x : ℕ) {d q : ℕ} → next_of x ≡ q → depth_of x ≡ d → (InGrammar x → CountsOn s p d q) → Counted s p x
  counted-to p x e h f = record { counts = λ g. rw (e, h) (f g) }

  -- and a, which was read from p, up to i
  up_to : (a p : ℕ) {i : ℕ} → i ≡ next_of a → (i ≡ 0 → ⊥) → Counted s p a → CountsOn s p (depth_of a) i
  up_to a p e o f n l = f.counts (λ z. o (e ∙ z)) n l ∙ same_place n (sym e)

  -- no token from q on
  pub counted_none : (q x : ℕ) → next_of x ≡ q → Counted s q x
  counted_none q x e = record { counts = λ g n l. same_place n (sym e) }

  pub counted-nothing : (p : ℕ) {x : ℕ} → next_of x ≡ 0 → Counted s p x
  counted-nothing p e = record { counts = λ g. absurd (g e) }

  -- behind what no bracket stands in
  pub counted-behind : (p q : ℕ) {x : ℕ} → CountsOn s p 0 q → Counted s q x → Counted s p x
  counted-behind p q {x} f h = record { counts = λ g. counts-then p q (next_of x) (depth_of x) (omega arith) (omega arith) f (h.counts g) }

  -- behind one token
  pub counted-token : (p : ℕ) {t x : ℕ} → t ≡ get_or s p 0 → (InGrammar x → NoBracket t) → Counted s (p + 1) x → Counted s p x
  counted-token p e k h = record { counts = λ g. (counted-behind p (p + 1) (counts-token p (p + 1) e (k g) refl) h).counts g }

  -- ---- what was read goes on

  pub onward-same : (x : ℕ) → Onward s x x
  onward-same x = record { goes = λ p f. f }

  pub onward_then : {w x y : ℕ} → Onward s w x → Onward s x y → Onward s w y
  onward_then f g = record { goes = λ p h. g.goes p (f.goes p h) }

  pub onward-nothing : (w : ℕ) {x : ℕ} → next_of x ≡ 0 → Onward s w x
  onward-nothing w e = record { goes = λ p f. counted-nothing p e }

  pub same-end-on : {w x : ℕ} → SameEnd w x → Onward s w x
  same-end-on {w} {x} v = record { goes = λ p f. counted-to p x v.next v.depth (λ g. f.counts (λ z. g (v.next ∙ z))) }

  -- x says of b how it was read
  pub joined-counted : (p : ℕ) {a b x : ℕ} → Counted s p b → Joined a b x → Counted s p x
  joined-counted p h j = record { counts = λ g n l. h.counts (λ z. g (j.next ∙ z)) n (omega (arith, j.second g)) ∙ same_place n (sym j.next) }

  -- b was read behind a
  pub joined-next : {a b x i : ℕ} → i ≡ next_of a → (i ≡ 0 → ⊥) → Counted s i b → Joined a b x → Onward s a x
  joined-next {a} {b} {x} {i} e o h j =
      record { goes = λ p f. record { counts = λ g. counts-then p i (next_of x) (depth_of x) (j.first g) (omega arith) (up_to a p e o f) ((joined-counted i h j).counts g) } }

  -- b was read behind a and an operator
  pub joined-on : {a b x i t : ℕ} → i ≡ next_of a → (i ≡ 0 → ⊥) → t ≡ get_or s i 0 → NoBracket t → Counted s (i + 1) b → Joined a b x → Onward s a x
  joined-on {i = i} e o q k h j = joined-next e o (counted-token i q (λ g. k) h) j

  -- x is a and the token behind it
  pub next-on : (a x : ℕ) {i t : ℕ} → i ≡ next_of a → (i ≡ 0 → ⊥) → t ≡ get_or s i 0 → NoBracket t → next_of x ≡ i + 1 → depth_of x ≡ depth_of a → Onward s a x
  next-on a x {i} e o q k v d =
      record { goes = λ p f. counted-to p x v d (λ g. counts-then p i (i + 1) (depth_of a) (omega arith) (omega arith) (up_to a p e o f) (counts-token i (i + 1) q k refl)) }

  -- x is a in brackets, closed at i
  pub closed_on : (a x : ℕ) {i : ℕ} → i ≡ next_of a → (i ≡ 0 → ⊥) → get_or s i 0 ≡ CLOSE → next_of x ≡ i + 1 → (depth_of x ≤ brackets_open → depth_of a < depth_of x) → InBrackets s a x
  closed_on a x {i} e o c v d =
      record { goes = λ p h f. counted-to p x v refl (λ g n l. counts-brackets p i (depth_of x) (d (omega arith)) h c (up_to a (p + 1) e o f) n l) }

  pub closed-nothing : (a : ℕ) {x : ℕ} → next_of x ≡ 0 → InBrackets s a x
  closed-nothing a e = record { goes = λ p h f. counted-nothing p e }

  -- what was read tells the whole count
  pub counted-whole : (a : ℕ) {i : ℕ} (p : ℕ) → i ≡ next_of a → (i ≡ 0 → ⊥) → depth_of a ≤ brackets_open → Counted s p a → opens_too_many (drop i s) 0 ≡ opens_too_many (drop p s) 0
  counted-whole a p e o l f = sym (up_to a p e o f 0 (omega arith))
