-- Counts that are fit, and that they stay so until the last line. Assumes nothing.
use Rattle.std.specs.Prelude.{◌≡◌, true, ◌&&◌, ℕ, zero, suc, ◌+◌, ◌*◌, ◌≤◌, ◌<◌, leb, ltb}
use Rattle.std.proofs.Common.{arith, leb-true, le-leb, ltb-true, lt-ltb}
use Rattle.values.specs.Choice.{both, and-true}
use Rattle.engine.specs.Order.{max_orders}
use Rattle.transcript.specs.declared.totals.Counts.{Counts}
use Rattle.transcript.specs.Totals.{last_line, one_if, counting, counting_any, calling, calling_any, are_fit}

-- ---- counts that are fit

pub record FitCounts (n : Counts) : Type 0 where
  pub lines : n.lines < last_line
  pub beats : n.beats.0 ≤ n.lines
  pub coded : n.coded ≤ n.beats.0
  pub orders : n.orders ≤ n.beats.0 * max_orders

-- each of the tests
pub fit-counts : (n : Counts) → are_fit n ≡ true → FitCounts n
unfolding are_fit
fit-counts n h =
    let l = ltb n.lines last_line in
    let b = leb n.beats.0 n.lines in
    let c = leb n.coded n.beats.0 in
    let o = leb n.orders (n.beats.0 * max_orders) in
    let h₁ = (both l (b && (c && o)) h).1 in
    let h₂ = (both b (c && o) h₁).1 in
    record {
      lines = ltb-true _ _ (both l (b && (c && o)) h).0;
      beats = leb-true _ _ (both b (c && o) h₁).0;
      coded = leb-true _ _ (both c o h₂).0;
      orders = leb-true _ _ (both c o h₂).1;
    }

pub counts-fit : (n : Counts) → FitCounts n → are_fit n ≡ true
unfolding are_fit
counts-fit n f = and-true (lt-ltb _ _ f.lines) (and-true (le-leb _ _ f.beats) (and-true (le-leb _ _ f.coded) (le-leb _ _ f.orders)))

-- ---- a line that is counted

-- a beat counts for one
one-most : (c : ℕ) → one_if c ≤ 1
one-most zero = omega arith
one-most (suc c) = omega arith

-- before the last line they stay fit
pub counting-fit : (n : Counts) (code orders : ℕ) → FitCounts n → orders ≤ max_orders → (n.lines + 1 ≡ last_line → ⊥) → FitCounts (counting n code orders)
counting-fit n code orders f o h =
    let k = one-most code in
    let b = f.beats in
    let l = f.lines in
    let c = f.coded in
    let d = f.orders in
    record { lines = omega (arith, h); beats = omega arith; coded = omega arith; orders = omega arith }

pub calling-fit : (n : Counts) → FitCounts n → (n.lines + 1 ≡ last_line → ⊥) → FitCounts (calling n)
calling-fit n f h =
    let l = f.lines in
    let b = f.beats in
    record { lines = omega (arith, h); beats = omega arith; coded = f.coded; orders = f.orders }

-- ---- counts that anyone may have made

-- those with a line still to come are counted
pub any-counting : (n : Counts) (code orders : ℕ) → FitCounts n → orders ≤ max_orders → counting_any n code orders ≡ counting n code orders
unfolding counting_any
any-counting n code orders f o = rw (counts-fit n f, le-leb orders max_orders o)

pub any-calling : (n : Counts) → FitCounts n → calling_any n ≡ calling n
unfolding calling_any
any-calling n f = rw (counts-fit n f)
