-- The row of slot `k` goes behind what was put, and what is left is that of the next slots; behind the last one nothing is left.
use Rattle.std.proofs.Common.{rules, ◌≡◌, ◌++◌, ◌+◌, ◌-◌, ◌<◌, ◌||◌, ℕ, Bool, List, sym, ap, arith}
use Rattle.values.specs.PutLaws.{put_as, left_after, left-none}
use Rattle.tokens.specs.Token.{max_curves}
use Rattle.print.specs.PrintText.{rows_text}
use Rattle.print.specs.PrintOrder.{has_row, slot_rows, rows_behind, slot_text}
use Rattle.print.specs.PrintOrderLaws.{slots-rows, slots_next, slots-over}
use Rattle.print.proofs.set_print.put_rows.Goals.{then-behind, else-behind}
use Rattle.print.proofs.set_print.put_rows.Goals as goal

next-left : (s : List ℕ) (count k : ℕ) (b : Bool) {c : Bool} → c ≡ (b || has_row s k) → k < max_curves + count →
    rows_behind b (slot_rows s (max_curves + count - k) k) ≡ slot_text s b k ++ rows_behind c (slot_rows s (max_curves + count - (k + 1)) (k + 1))
next-left s count k b e h = rw e (slots_next s b (max_curves + count) k h)

pub loop-k-preserved : goal.loop-k-preserved
loop-k-preserved c =
    let more : c.if-behind.behind ≡ (c.loop-k.behind || has_row c.args.set.now c.loop-k.k) = elim c.if-behind.branch [ then-behind w ↦ search rules | else-behind w ↦ search rules ] in
    record {
      left = left_after _ c.loop-k.invariant.left (next-left c.args.set.now c.args.count c.loop-k.k c.loop-k.behind more (omega arith)) c.put_slot-at.ensures.put;
      room = omega arith;
    }

pub returns : goal.returns
returns c =
    put_as (ap rows_text (sym (slots-rows c.args.set.now c.args.count)))
    (left-none c.loop-k.invariant.left (slots-over c.args.set.now c.loop-k.behind (max_curves + c.args.count) c.loop-k.k (omega arith)))
