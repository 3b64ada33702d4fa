-- Laws of where the variables lie: none lies past the last cell.
use Rattle.std.specs.Prelude.{◌≡◌, refl, Bool, true, false, cond, ℕ, ◌+◌, ◌<◌, ◌≤◌, eqb}
use Rattle.std.proofs.Common.{arith, eqb-true, ne_eqb}
use Rattle.std.proofs.lemmas.Bool.{eqb-false}
use Rattle.tokens.specs.Token.{IN, INA, OUT, MARKER, PARAM, R, TIMER, IM, is_fifo}
use Rattle.tokens.specs.Index.{last_index, is_inside}
use Rattle.tokens.specs.IndexLaws.{last-other, last-inside}
use Rattle.working.specs.Variables.{cell_start, cell_of, cell_count}

by_word : (w n : ℕ) → cell_start n + last_index n < cell_count → ((w ≡ n → ⊥) → cell_start w + last_index w < cell_count) → cell_start w + last_index w < cell_count
by_word w n at else = go (eqb w n) refl
  where
    go : (b : Bool) → eqb w n ≡ b → cell_start w + last_index w < cell_count
    go true e = rw (eqb-true w n e) at
    go false e = else (eqb-false w n e)

cell-ends : (w : ℕ) → (w ≡ R → ⊥) → is_fifo w ≡ false → cell_start w + last_index w < cell_count
cell-ends w r f =
    by_word w MARKER (omega arith) λ m.
    by_word w PARAM (omega arith) λ p.
    by_word w TIMER (omega arith) λ t.
    by_word w OUT (omega arith) λ o.
    by_word w INA (omega arith) λ a.
    by_word w IM (omega arith) λ x.
    by_word w IN (omega arith) λ i.
    rw (last-other w r m p t f a x i o) (simp (ne_eqb w MARKER m, ne_eqb w PARAM p, ne_eqb w TIMER t, ne_eqb w OUT o, ne_eqb w INA a, ne_eqb w IM x) (omega arith))

most : (b : Bool) {x y : ℕ} → x ≤ cell_count → y ≤ cell_count → cond b x y ≤ cell_count
most true h k = h
most false h k = k

pub start-most : (w : ℕ) → cell_start w ≤ cell_count
start-most w =
    most (eqb w MARKER) (omega arith) (most (eqb w PARAM) (omega arith) (most (eqb w TIMER) (omega arith)
    (most (eqb w OUT) (omega arith) (most (eqb w INA) (omega arith) (most (eqb w IM) (omega arith) (omega arith))))))

pub cell-inside : (w i : ℕ) → (w ≡ R → ⊥) → is_fifo w ≡ false → is_inside w i ≡ true → cell_of w i < cell_count
unfolding cell_of
cell-inside w i r f h = omega (arith, cell-ends w r f, last-inside w i h)
