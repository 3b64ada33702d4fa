-- Laws of the counts of acts: a rank that has not been come to is as it was; behind the last line that acted nothing changes.
use Rattle.std.specs.Prelude.{◌≡◌, refl, Bool, List, ℕ, zero, suc, ◌+◌, ◌/◌, ◌^◌, ◌≤◌, get_or}
use Rattle.std.proofs.Common.{sym, ◌∙◌, arith, add-one, pow-suc, get_or-set_other}
use Rattle.std.proofs.Math.Nat.{div-div-eq-div-mul}
use Rattle.std.proofs.lemmas.List.{set-get_or}
use Rattle.engine.specs.ActCount.{one_more, counted_acts, reset_acts}

pub counts-later : (acts : List ℕ) (word n m : ℕ) → n ≤ m → get_or (counted_acts acts word n) m 0 ≡ get_or acts m 0
unfolding counted_acts
counts-later acts word zero m h = refl
counts-later acts word (suc n) m h = get_or-set_other (counted_acts acts word n) n m _ 0 (λ z. omega arith) ∙ counts-later acts word n m (omega arith)

pub recounts-later : (cancelled : List Bool) (acts : List ℕ) (n m : ℕ) → n ≤ m → get_or (reset_acts cancelled acts n) m 0 ≡ get_or acts m 0
unfolding reset_acts
recounts-later cancelled acts zero m h = refl
recounts-later cancelled acts (suc n) m h = get_or-set_other (reset_acts cancelled acts n) n m _ 0 (λ z. omega arith) ∙ recounts-later cancelled acts n m (omega arith)

-- the word without its first k bits, and one bit less
pub bits-next : (word k rest : ℕ) → rest ≡ word / 2 ^ k → rest / 2 ≡ word / 2 ^ (k + 1)
bits-next word k rest r = rw (r, add-one k, pow-suc) (div-div-eq-div-mul word (2 ^ k) 2)

module _ (acts : List ℕ) (word : ℕ) where
  -- no line from rank k on acted
  none-next : (k : ℕ) → word / 2 ^ k ≡ 0 → counted_acts acts word (k + 1) ≡ counted_acts acts word k
  unfolding counted_acts one_more
  none-next k z = rw (add-one k) (simp (counted_acts, z) (rw (← counts-later acts word k k (omega arith)) (set-get_or _ _ _)))

  pub no-more : (m k : ℕ) → word / 2 ^ k ≡ 0 → counted_acts acts word (k + m) ≡ counted_acts acts word k
  no-more zero k z = let e : k + 0 ≡ k = omega arith in rw e refl
  no-more (suc m) k z =
      let e : k + suc m ≡ k + 1 + m = omega arith in
      rw e (no-more m (k + 1) (sym (bits-next word k 0 (sym z))) ∙ none-next k z)
