-- Laws on the indices of a variable: its last index where it is none of those tested, and what lies inside.
use Rattle.std.specs.Prelude.{◌≡◌, true, false, ℕ, ◌≤◌}
use Rattle.std.proofs.Common.{arith, ne_eqb}
use Rattle.tokens.specs.Token.{IN, INA, OUT, MARKER, PARAM, R, TIMER, FIFO1, FIFO4, IM, between, is_fifo}
use Rattle.tokens.specs.Index.{first_index, last_index, is_inside}
use Rattle.tokens.specs.BetweenLaws.{inside, outside}

no-marker : (w : ℕ) → (w ≡ MARKER → ⊥) → (w ≡ PARAM → ⊥) → between MARKER PARAM w ≡ false
no-marker w m p = outside MARKER PARAM w (λ l h. omega arith)

-- the last index of every other word
pub last-other : (w : ℕ) → (w ≡ R → ⊥) → (w ≡ MARKER → ⊥) → (w ≡ PARAM → ⊥) → (w ≡ TIMER → ⊥) → is_fifo w ≡ false → (w ≡ INA → ⊥) → (w ≡ IM → ⊥) → (w ≡ IN → ⊥) → (w ≡ OUT → ⊥) → last_index w ≡ 0
last-other w r m p t f a x i o =
    simp (ne_eqb w R r, no-marker w m p, ne_eqb w TIMER t, f, ne_eqb w INA a, ne_eqb w IM x, ne_eqb w IN i, ne_eqb w OUT o)

pub last-fifo : (w : ℕ) → is_fifo w ≡ true → last_index w ≡ 4
last-fifo w f =
    let b = inside FIFO1 FIFO4 w f in
    simp (ne_eqb w R (λ e. omega arith), outside MARKER PARAM w (λ l h. omega arith), ne_eqb w TIMER (λ e. omega arith), f)

pub last-inside : (w i : ℕ) → is_inside w i ≡ true → i ≤ last_index w
unfolding is_inside
last-inside w i h = (inside (first_index w) (last_index w) i h).1
