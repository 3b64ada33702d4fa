-- Laws of runs of bytes of one kind. Assumes nothing.
use Rattle.std.specs.Prelude.{◌≡◌, refl, Bool, true, false, not, Option, unwrap_or, List, [], ◌∷◌, ℕ, suc, ◌+◌, ◌≤◌, length, drop, position, nat_lt}
use Rattle.std.specs.List.{position_or_len}
use Rattle.std.proofs.lemmas.List.Recursion.{is_position_or_len}
use borrow.Author.Tests.{ltb-false}
use Rattle.std.proofs.Common.{arith, length-drop}
use Rattle.values.specs.Choice.{decide}
use Rattle.text.specs.Byte.{run}

module _ (p : ℕ → Bool) (b : ℕ) (bs : List ℕ) where
  pub run_on : p b ≡ true → run p (b ∷ bs) ≡ suc (run p bs)
  unfolding run
  run_on h = rw (run, h)

  pub run-off : p b ≡ false → run p (b ∷ bs) ≡ 0
  unfolding run
  run-off h = rw (run, h)

-- a run is no longer than the bytes
pub run-within : (p : ℕ → Bool) (t : List ℕ) → run p t ≤ length t
unfolding run
run-within p [] = omega arith
run-within p (b ∷ bs) =
    let i = run-within p bs in
    decide _ (p b) (λ e. rw (run_on p b bs e) (omega arith)) (λ e. rw (run-off p b bs e) (omega arith))

-- the first byte that is not of the kind ends the run; without one all bytes are of it
module _ (p : ℕ → Bool) where
  run_before : (t : List ℕ) → run p t ≡ position_or_len (λ b. not (p b)) t
  unfolding run
  run_before = is_position_or_len (run p) (λ b. not (p b)) refl (λ b bs. decide _ (p b) (λ e. rw (run_on p b bs e, e) (omega arith)) (λ e. rw (run-off p b bs e, e)))

  module _ (t : List ℕ) where
    pub run_first : (o : Option ℕ) → o ≡ position (λ b. not (p b)) t → unwrap_or o (length t) ≡ run p t
    run_first o h =
        let w = run-within p t in
        decide _ (nat_lt (run p t) (length t))
        (λ e. rw (h, ← run_before t, e))
        (λ e. let g = ltb-false _ _ e in rw (h, ← run_before t, e) (omega arith))

-- where it ends is not beyond the end
pub run_fits : (p : ℕ → Bool) (t : List ℕ) (k : ℕ) → k ≤ length t → k + run p (drop k t) ≤ length t
run_fits p t k h = let r = run-within p (drop k t) in let d = length-drop k t in omega arith
