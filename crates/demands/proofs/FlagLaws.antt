-- What each entry of the history does to the flags that the history gives, rank by rank. Assumes nothing.
use Rattle.std.specs.Prelude.{◌≡◌, ◌≢◌, true, cond, ◌&&◌, ◌||◌, List, [], ◌∷◌, eqb, ltb, length, set, replicate}
use Rattle.std.proofs.Math.Path.{refl}
use Rattle.std.proofs.Common.{sym, ap, subst, ◌∙◌, arith, nltb→le, get_or-set_same, get_or-set_other, ext_get_or, eq-eqb, eqb-true, ltb-true}
use Rattle.std.proofs.Math.Bool.{Bool, false, not, and-true, and-false}
use Prim.Native.Nat.{ℕ, zero, suc, ◌<◌, ◌≤◌}
use Rattle.std.proofs.Math.Dec.{leb-suc-zero}
use Rattle.std.proofs.Math.ListN.{get_or, length-set}
use Rattle.std.proofs.lemmas.List.{length-replicate, get_or-replicate}
use Rattle.std.proofs.lemmas.Bool.{eqb-false}
use Rattle.tokens.specs.Token.{WHEN, FROM, EVERY, max_lines}
use Rattle.engine.specs.declared.set.Lines.{Lines}
use Rattle.engine.specs.Set.{no_line}
use Rattle.engine.specs.Turn.{worked, locks, cancels, resets}
use Rattle.engine.specs.Keyword.{remembers}
use Rattle.engine.specs.Calls.{reset_cancelled}
use Rattle.demands.specs.History.{History, only, or_else, is_cancelled, is_locked, was_true, ever_true}
use Rattle.demands.specs.Run.{ranks, by_rank, cancelled_by, locked_by, remembers_by, memory_by}

-- ---- a value for each rank

length-ranks : (f : ℕ → Bool) (n : ℕ) → length (ranks f n) ≡ n
unfolding ranks
length-ranks f zero = refl
length-ranks f (suc n) = ap suc (length-ranks (λ k. f (suc k)) n)

get_or-ranks : (f : ℕ → Bool) (n i : ℕ) → i < n → get_or (ranks f n) i false ≡ f i
unfolding ranks
get_or-ranks f zero i h = absurd (omega arith)
get_or-ranks f (suc n) zero h = refl
get_or-ranks f (suc n) (suc i) h = get_or-ranks (λ k. f (suc k)) n i (omega arith)

pub length-by_rank : (f : ℕ → Bool) → length (by_rank f) ≡ max_lines
unfolding by_rank
length-by_rank f = length-ranks f max_lines

pub by_rank-at : (f : ℕ → Bool) (k : ℕ) → k < max_lines → get_or (by_rank f) k false ≡ f k
unfolding by_rank
by_rank-at f k h = get_or-ranks f max_lines k h

-- a list of 32 is by rank what it holds at each
pub as-by_rank : (l : List Bool) (f : ℕ → Bool) → length l ≡ max_lines → ((j : ℕ) → j < max_lines → get_or l j false ≡ f j) → l ≡ by_rank f
as-by_rank l f n h = ext_get_or false l (by_rank f) (n ∙ sym (length-by_rank f)) (λ j b. h j (omega arith) ∙ sym (by_rank-at f j (omega arith)))

pub by_rank-none : (f : ℕ → Bool) → ((j : ℕ) → j < max_lines → f j ≡ false) → replicate max_lines false ≡ by_rank f
by_rank-none f h = as-by_rank (replicate max_lines false) f (length-replicate max_lines false) (λ j b. get_or-replicate max_lines j false false b ∙ sym (h j b))

get_or_set : (l : List Bool) (k j : ℕ) (v : Bool) → k < length l → get_or (set l k v) j false ≡ cond (eqb k j) v (get_or l j false)
get_or_set l k j v h = go (eqb k j) refl
  where
    go : (e : Bool) → eqb k j ≡ e → get_or (set l k v) j false ≡ cond e v (get_or l j false)
    go true e = let p : k ≡ j = eqb-true k j e in rw (← p) (get_or-set_same l k v false h)
    go false e = get_or-set_other l k j v false (λ q. eqb-false k j e (sym q))

pub by_rank-set : (f g : ℕ → Bool) (k : ℕ) (v : Bool) → k < max_lines → ((j : ℕ) → j < max_lines → cond (eqb k j) v (f j) ≡ g j) → set (by_rank f) k v ≡ by_rank g
by_rank-set f g k v b h =
    as-by_rank (set (by_rank f) k v) g (length-set (by_rank f) k v ∙ length-by_rank f)
    (λ j c. get_or_set (by_rank f) k j v (rw (length-by_rank f) b) ∙ rw (by_rank-at f j c) (h j c))

-- ---- what each entry does to the flags that the history gives

-- WHEN, FROM or not; EVERY or not; what the history said before
worked-step : (a b v ever was : Bool) →
    cond a (or_else (only (true && v) true) ever) (cond b (or_else (only true v) was) false) ≡ cond a (cond a ever (cond b was false) || v) (cond b v (cond a ever (cond b was false)))
worked-step true b true true was = refl
worked-step true b true false was = refl
worked-step true b false true was = refl
worked-step true b false false was = refl
worked-step false true v ever was = refl
worked-step false false v ever was = refl

worked_same : (kw k : ℕ) (r : History) (v : Bool) → remembers_by kw k (worked k v ∷ r) ≡ remembers kw (remembers_by kw k r) v
unfolding remembers
worked_same kw k r v = rw (eq-eqb k k refl) (worked-step (eqb kw WHEN || eqb kw FROM) (eqb kw EVERY) v (ever_true k r) (was_true k r))

worked-other : (kw k j : ℕ) (r : History) (v : Bool) → eqb k j ≡ false → remembers_by kw j (worked k v ∷ r) ≡ remembers_by kw j r
worked-other kw k j r v e = rw e

none-remembers : (kw k : ℕ) (r : History) → ever_true k r ≡ false → was_true k r ≡ false → remembers_by kw k r ≡ false
none-remembers kw k r p q = rw (p, q) (go (eqb kw WHEN || eqb kw FROM) (eqb kw EVERY))
  where
    go : (a b : Bool) → cond a false (cond b false false) ≡ false
    go true b = refl
    go false true = refl
    go false false = refl

module _ (ls : Lines) where
  -- the condition of a line that is not cancelled was worked
  pub worked-memory : (k : ℕ) (v : Bool) (r : History) → k < max_lines → cancelled_by ls r k ≡ false →
      set (by_rank (memory_by ls r)) k (remembers (get_or ls.items k no_line).keyword (remembers_by (get_or ls.items k no_line).keyword k r) v) ≡ by_rank (memory_by ls (worked k v ∷ r))
  worked-memory k v r b c = by_rank-set (memory_by ls r) (memory_by ls (worked k v ∷ r)) k (new k) b (λ j d. go j (eqb k j) refl)
    where
      kw : ℕ → ℕ
      kw j = (get_or ls.items j no_line).keyword

      new : ℕ → Bool
      new j = remembers (kw j) (remembers_by (kw j) j r) v

      go : (j : ℕ) (e : Bool) → eqb k j ≡ e → cond e (new k) (memory_by ls r j) ≡ memory_by ls (worked k v ∷ r) j
      go j true e =
          let p : k ≡ j = eqb-true k j e in
          subst (λ (i : ℕ). cond true (new k) (memory_by ls r i) ≡ memory_by ls (worked k v ∷ r) i) p (rw (worked_same (kw k) k r v, c) (sym (and-true (new k))))
      go j false e = rw (worked-other (kw j) k j r v e)

  -- a line that is not cancelled was locked or released
  pub lock-locked : (k : ℕ) (b : Bool) (r : History) → k < max_lines → cancelled_by ls r k ≡ false → set (by_rank (locked_by ls r)) k b ≡ by_rank (locked_by ls (locks k b ∷ r))
  lock-locked k b r h c = by_rank-set (locked_by ls r) (locked_by ls (locks k b ∷ r)) k b h (λ j d. go j (eqb k j) refl)
    where
      go : (j : ℕ) (e : Bool) → eqb k j ≡ e → cond e b (locked_by ls r j) ≡ or_else (only e b) (is_locked j r) && not (cancelled_by ls r j)
      go j true e = let p : k ≡ j = eqb-true k j e in let q : cancelled_by ls r j ≡ false = rw p at c in rw q (sym (and-true b))
      go j false e = refl

  -- a line of the set was cancelled
  module _ (k : ℕ) (r : History) (h : k < max_lines) (c : ltb k ls.count ≡ true) where
    counted-too : (j : ℕ) → eqb k j ≡ true → ltb j ls.count ≡ true
    counted-too j e = let p : k ≡ j = eqb-true k j e in rw p at c

    pub cancel-cancelled : set (by_rank (cancelled_by ls r)) k true ≡ by_rank (cancelled_by ls (cancels k ∷ r))
    cancel-cancelled = by_rank-set (cancelled_by ls r) (cancelled_by ls (cancels k ∷ r)) k true h (λ j d. go j (eqb k j) refl)
      where
        go : (j : ℕ) (e : Bool) → eqb k j ≡ e → cond e true (cancelled_by ls r j) ≡ or_else (only e true) (is_cancelled (get_or ls.items j no_line).ids j r) && ltb j ls.count
        go j true e = rw (counted-too j e)
        go j false e = refl

    cleared-flag : (f : ℕ → Bool) (j : ℕ) (e : Bool) → eqb k j ≡ e →
        cond e false (f j && not (cancelled_by ls r j)) ≡ f j && not (or_else (only e true) (is_cancelled (get_or ls.items j no_line).ids j r) && ltb j ls.count)
    cleared-flag f j true e = rw (counted-too j e) (sym (and-false (f j)))
    cleared-flag f j false e = refl

    pub cancel-locked : set (by_rank (locked_by ls r)) k false ≡ by_rank (locked_by ls (cancels k ∷ r))
    cancel-locked = by_rank-set (locked_by ls r) (locked_by ls (cancels k ∷ r)) k false h (λ j d. cleared-flag (λ i. is_locked i r) j (eqb k j) refl)

    pub cancel-memory : set (by_rank (memory_by ls r)) k false ≡ by_rank (memory_by ls (cancels k ∷ r))
    cancel-memory = by_rank-set (memory_by ls r) (memory_by ls (cancels k ∷ r)) k false h (λ j d. cleared-flag (λ i. remembers_by (get_or ls.items i no_line).keyword i r) j (eqb k j) refl)

  -- a control reset
  pub reset-locked : (r : History) → replicate max_lines false ≡ by_rank (locked_by ls (resets ∷ r))
  reset-locked r = by_rank-none (locked_by ls (resets ∷ r)) (λ j b. refl)

  pub reset-memory : (r : History) → replicate max_lines false ≡ by_rank (memory_by ls (resets ∷ r))
  reset-memory r = by_rank-none (memory_by ls (resets ∷ r)) (λ j b. rw (none-remembers (get_or ls.items j no_line).keyword j (resets ∷ r) refl refl))

  reset-length : (cs : List Bool) (n : ℕ) → length (reset_cancelled ls.items cs n) ≡ length cs
  unfolding reset_cancelled
  reset-length cs zero = refl
  reset-length cs (suc n) = length-set (reset_cancelled ls.items cs n) n _ ∙ reset-length cs n

  -- the first n ranks are those below n
  reset-at : (cs : List Bool) (n j : ℕ) → n ≤ length cs →
      get_or (reset_cancelled ls.items cs n) j false ≡ cond (ltb j n) (get_or cs j false || not (get_or ls.items j no_line).ids) (get_or cs j false)
  unfolding reset_cancelled
  reset-at cs zero j h = rw (leb-suc-zero j)
  reset-at cs (suc n) j h =
      get_or_set (reset_cancelled ls.items cs n) n j _ (rw (reset-length cs n) (omega arith))
      ∙ go (eqb n j) (ltb j n) (ltb j (suc n)) refl refl refl (reset-at cs n j (omega arith))
    where
      new : ℕ → Bool
      new i = get_or cs i false || not (get_or ls.items i no_line).ids

      go : (e b c : Bool) → eqb n j ≡ e → ltb j n ≡ b → ltb j (suc n) ≡ c → get_or (reset_cancelled ls.items cs n) j false ≡ cond b (new j) (get_or cs j false) →
          cond e (new n) (get_or (reset_cancelled ls.items cs n) j false) ≡ cond c (new j) (get_or cs j false)
      go true b true e p q i = let w : n ≡ j = eqb-true n j e in rw w
      go true b false e p q i = let w : n ≡ j = eqb-true n j e in let g : suc n ≤ j = nltb→le j (suc n) (rw q tt) in absurd (omega arith)
      go false true true e p q i = i
      go false true false e p q i = let g : j < n = ltb-true j n p in let f : suc n ≤ j = nltb→le j (suc n) (rw q tt) in absurd (omega arith)
      go false false true e p q i = let g : n ≤ j = nltb→le j n (rw p tt) in let f : j < suc n = ltb-true j (suc n) q in let w : j ≢ n = λ q. eqb-false n j e (sym q) in absurd (omega arith)
      go false false false e p q i = i

  pub reset-cancelled : (r : History) → ls.count ≤ max_lines → reset_cancelled ls.items (by_rank (cancelled_by ls r)) ls.count ≡ by_rank (cancelled_by ls (resets ∷ r))
  reset-cancelled r n =
      as-by_rank _ (cancelled_by ls (resets ∷ r)) (reset-length (by_rank (cancelled_by ls r)) ls.count ∙ length-by_rank (cancelled_by ls r))
      (λ j b. reset-at (by_rank (cancelled_by ls r)) ls.count j (rw (length-by_rank (cancelled_by ls r)) n)
      ∙ rw (by_rank-at (cancelled_by ls r) j b) (go (get_or ls.items j no_line).ids (is_cancelled (get_or ls.items j no_line).ids j r) (ltb j ls.count)))
    where
      go : (i c b : Bool) → cond b (c && b || not i) (c && b) ≡ or_else (only (not i) true) c && b
      go true true true = refl
      go true true false = refl
      go true false true = refl
      go true false false = refl
      go false true true = refl
      go false true false = refl
      go false false true = refl
      go false false false = refl

  -- nothing is written down yet
  pub new-locked : replicate max_lines false ≡ by_rank (locked_by ls [])
  new-locked = by_rank-none (locked_by ls []) (λ j b. refl)

  pub new-cancelled : replicate max_lines false ≡ by_rank (cancelled_by ls [])
  new-cancelled = by_rank-none (cancelled_by ls []) (λ j b. refl)

  pub new-memory : replicate max_lines false ≡ by_rank (memory_by ls [])
  new-memory = by_rank-none (memory_by ls []) (λ j b. rw (none-remembers (get_or ls.items j no_line).keyword j [] refl refl))
