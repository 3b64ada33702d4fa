-- Laws of one action: what is removed, and the index of an axis.
use Rattle.std.specs.Prelude.{◌≡◌, Bool, true, false, cond, List, ℕ, ◌+◌, ◌≤◌, leb, get_or}
use Rattle.std.proofs.Common.{arith, leb-true}
use Rattle.values.specs.Choice.{both}
use Rattle.tokens.specs.Token.{X, W, has_axis, is_axis, is_fifo}
use Rattle.tokens.specs.Descent.{token, index_of, index_at}
use Rattle.checking.specs.Fault.{is_removal}

-- what is removed stands in a FIFO
pub removal-fifo : (s : List ℕ) (p : ℕ) → is_removal s p ≡ true → is_fifo (get_or s p 0) ≡ true
unfolding is_removal
removal-fifo s p h = (both (is_fifo (get_or s p 0)) _ h).0

-- the index of an axis is a byte, whatever the word before it
pub axis-byte : (s : List ℕ) (w p : ℕ) → is_axis (token s (p + 2)) ≡ true → index_at s w p ≤ 255
unfolding index_at index_of
axis-byte s w p h = let t = token s (p + 2) in let b = leb-true t W (both (leb X t) (leb t W) h).1 in go (has_axis w) (omega arith) (omega arith)
  where
    go : (b : Bool) {x y : ℕ} → x ≤ 255 → y ≤ 255 → cond b x y ≤ 255
    go true x y = x
    go false x y = y
