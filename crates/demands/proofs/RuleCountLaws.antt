-- Laws of counts by rank: what a beat and a control reset leave at each rank. Assumes nothing.
use Rattle.std.specs.Prelude.{◌≡◌, Bool, true, false, List, ℕ, zero, suc, ◌+◌, min, ◌<◌, ◌≤◌, ltb, length, get_or, set}
use Rattle.std.proofs.Math.Path.{refl}
use Rattle.std.proofs.Common.{ap, ◌∙◌, arith, nltb→le, length-set, get_or-set_same, get_or-set_other, ltb-true}
use Rattle.std.proofs.Math.Bool.{cond}
use Rattle.std.proofs.Math.Decide.{ℕ_discrete}
use Rattle.engine.specs.ActCount.{acts_top, is_acted, one_more, counted_acts, reset_acts}

-- a list whose first n places are set one after the other
module _ {A : Type 0} (xs : List A) (d : A) (new : ℕ → A) (filled : ℕ → List A) (none : filled zero ≡ xs) (more : (n : ℕ) → filled (suc n) ≡ set (filled n) n (new n)) where
  pub filled-length : (n : ℕ) → length (filled n) ≡ length xs
  filled-length zero = ap length none
  filled-length (suc n) = ap length (more n) ∙ length-set (filled n) n (new n) ∙ filled-length n

  pub filled_at : (n k : ℕ) → k < n → n ≤ length xs → get_or (filled n) k d ≡ new k
  filled_at zero k h l = absurd (omega arith)
  filled_at (suc n) k h l = ap (λ (ys : List A). get_or ys k d) (more n) ∙ by_place (ℕ_discrete k n) (λ m. filled_at n k m (omega arith))
    where
      by_place : Dec (k ≡ n) → (k < n → get_or (filled n) k d ≡ new k) → get_or (set (filled n) n (new n)) k d ≡ new k
      by_place (yes q) f = rw q (get_or-set_same (filled n) n (new n) d (rw (filled-length n) (omega arith)))
      by_place (no q) f = get_or-set_other (filled n) n k (new n) d q ∙ f (omega (arith, q))

module _ (acts : List ℕ) where
  -- a beat in which the lines of this word acted
  pub counted-length : (word n : ℕ) → length (counted_acts acts word n) ≡ length acts
  unfolding counted_acts
  counted-length word = filled-length acts 0 (λ k. one_more (get_or acts k 0) (is_acted word k)) (counted_acts acts word) refl (λ n. refl)

  pub counted-at : (word n k : ℕ) → k < n → n ≤ length acts → get_or (counted_acts acts word n) k 0 ≡ one_more (get_or acts k 0) (is_acted word k)
  unfolding counted_acts
  counted-at word = filled_at acts 0 (λ k. one_more (get_or acts k 0) (is_acted word k)) (counted_acts acts word) refl (λ n. refl)

  -- a control reset after which these lines are cancelled
  pub reset-acts-length : (cancelled : List Bool) (n : ℕ) → length (reset_acts cancelled acts n) ≡ length acts
  unfolding reset_acts
  reset-acts-length cancelled = filled-length acts 0 (λ k. cond (get_or cancelled k false) (get_or acts k 0) 0) (reset_acts cancelled acts) refl (λ n. refl)

  pub reset-acts-at : (cancelled : List Bool) (n k : ℕ) → k < n → n ≤ length acts → get_or (reset_acts cancelled acts n) k 0 ≡ cond (get_or cancelled k false) (get_or acts k 0) 0
  unfolding reset_acts
  reset-acts-at cancelled = filled_at acts 0 (λ k. cond (get_or cancelled k false) (get_or acts k 0) 0) (reset_acts cancelled acts) refl (λ n. refl)

-- one more, up to the top, is what has no top, up to the top
pub more-up-to : (a : ℕ) (b : Bool) → one_more (min acts_top a) b ≡ min acts_top (a + cond b 1 0)
unfolding one_more
more-up-to a true = by-test (ltb (min acts_top a) acts_top) refl
  where
    by-test : (c : Bool) → ltb (min acts_top a) acts_top ≡ c → cond c (min acts_top a + 1) (min acts_top a) ≡ min acts_top (a + 1)
    by-test true e = omega (arith, ltb-true (min acts_top a) acts_top e)
    by-test false e = omega (arith, nltb→le (min acts_top a) acts_top (rw e tt))
more-up-to a false = omega arith
