-- A beat as it is worked in place, counted and put.
use mathlib.Core.Path.{◌≡◌, refl, sym, ap, ◌∙◌}
use mathlib.Core.List.{List, ◌++◌}
use Prim.Native.Nat.{ℕ, zero, suc, ◌+◌, ◌*◌, ◌/◌, ◌≤◌}
use native.Mathlib.Omega.{arith}
use lib.ListN.{length, drop, replicate, length-drop, length-replicate}
use lib.Seq.{drop-append-le}
use Rattle.tokens.specs.Descent.{Answer, good, stop}
use Rattle.engine.specs.declared.held.Held.{Held}
use Rattle.engine.specs.declared.one_beat.BeatCode.{BeatCode}
use Rattle.engine.specs.Turn.{Turned}
use Rattle.engine.specs.Beat.{buffer_size, buffered, whole_beat, turned_answer, beat_answer, beat_buffer}
use Rattle.engine.specs.Held.{state_held, kept_held, known_held, turned_code, given_with, LeavesBeat, few_lines}
use Rattle.engine.specs.HeldLaws.{known-over-lines, beat-any-buffer, left-beat}
use Rattle.engine.specs.Order.{order_size, max_orders}
use Rattle.values.specs.PutAt.{IsPut}
use Rattle.values.specs.PutLaws.{put_as}
use Rattle.transcript.specs.declared.beat_line.Lent.{Lent}
use Rattle.transcript.specs.OutputLaws.{code-room}
use Rattle.transcript.specs.declared.in_place.Workplace.{Workplace}
use Rattle.transcript.specs.declared.totals.Counts.{Counts}
use Rattle.transcript.specs.declared.totals.Totals.{Totals}
use Rattle.transcript.specs.declared.view.View.{View}
use Rattle.transcript.specs.Output.{code_line, order_lines, code_room}
use Rattle.transcript.specs.Totals.{counting}
use Rattle.transcript.specs.Tally.{counted, given_by, answer_of, buffer_of, beat_text, printed_by, beat_printed}
use Rattle.transcript.specs.InPlace.{totals_at}
use Rattle.transcript.specs.InPlaceLaws.{KeptBeside}
use Rattle.transcript.specs.SessionRoomLaws.{beat-orders}
use Rattle.transcript.proofs.OutLaws.{order-alone}

-- where C ends
pub code-near : (beat code orders : ℕ) {s t : List ℕ} {at q : ℕ} → IsPut s at (code_line beat code orders) t q → q ≤ at + code_room
code-near beat code orders h = let r = code-room beat code orders in let e = h.behind in omega arith

-- by the view
pub seen : (text : List ℕ) {v w : View} → v ≡ w → printed_by v text ≡ printed_by w text
seen text e = ap (λ (x : View). printed_by x text) e

-- ---- of a buffer the bytes of the orders are printed, and none behind them

orders-alone : (n : ℕ) (o b : List ℕ) → order_size * n ≤ length o → order_lines n (o ++ b) ≡ order_lines n o
unfolding order_lines
orders-alone zero o b h = refl
orders-alone (suc n) o b h =
    let d = length-drop order_size o in
    rw (order-alone o b (omega arith), drop-append-le order_size o b (omega arith), orders-alone n (drop order_size o) b (omega arith))

-- so they do not depend on the buffer that it was lent
orders-any : (b c : List ℕ) (y : Answer Turned) → order_lines (turned_code y).orders (buffered b y) ≡ order_lines (turned_code y).orders (buffered c y)
unfolding order_lines
orders-any b c (good t) =
    let o = t.world.orders in
    let n = length o / order_size in
    orders-alone n o (drop (length o) b) (omega arith) ∙ sym (orders-alone n o (drop (length o) c) (omega arith))
orders-any b c (stop k) = refl

-- ---- a beat of a line that lends l, worked in w

module _ (s : List ℕ) (w : Workplace) (l : Lent) (beside : KeptBeside s w) (size : length w.orders ≡ buffer_size) where
  abbrev turned : Answer Turned
  turned = known_held w.known s (few_lines w.lines) w.held (given_with l.automatic l.word l.sent l.positions w.orders)

  whole : turned ≡ whole_beat s (state_held w.held) (given_with l.automatic l.word l.sent l.positions w.orders)
  whole = known-over-lines s (state_held w.held) (given_with l.automatic l.word l.sent l.positions w.orders) beside.read beside.told

  any-buffer : whole_beat s (state_held w.held) (given_by l) ≡ whole_beat s (state_held w.held) (given_with l.automatic l.word l.sent l.positions w.orders)
  any-buffer = beat-any-buffer s (state_held w.held) l.automatic l.word l.sent l.positions (replicate buffer_size 0) w.orders (length-replicate {A = ℕ} buffer_size 0 ∙ sym size)

  -- it answers b, and leaves h held and o in the order buffer
  module _ {b : BeatCode} {h : Held} {o : List ℕ} (e : LeavesBeat turned (kept_held w.held l.sent) w.held w.orders b h o) where
    answer-is : answer_of s (totals_at w) l ≡ record { code = b.code; orders = b.orders; acted = b.acted; state = state_held h }
    unfolding answer_of beat_answer
    answer-is = ap (turned_answer (state_held w.held) (kept_held w.held l.sent)) any-buffer ∙ sym (left-beat s w.held (given_with l.automatic l.word l.sent l.positions w.orders) whole e).0

    pub few-orders : b.orders ≤ max_orders
    few-orders = rw answer-is at (beat-orders s (totals_at w) l)

    pub beat-counted : {c : Counts} → c ≡ counting w.counts b.code b.orders → ◌≡◌ {A = Totals} (record { counts = c; state = state_held h }) (counted (totals_at w) (answer_of s (totals_at w) l))
    beat-counted k = rw (k, answer-is)

    orders-printed : order_lines b.orders (buffer_of s (totals_at w) l) ≡ order_lines b.orders o
    unfolding buffer_of beat_buffer
    orders-printed =
        let n : b.orders ≡ (turned_code (whole_beat s (state_held w.held) (given_by l))).orders = ap (λ (y : BeatCode). y.orders) (e.value ∙ ap turned_code (whole ∙ sym any-buffer)) in
        let q : o ≡ buffered w.orders (whole_beat s (state_held w.held) (given_by l)) = e.orders_after ∙ ap (buffered w.orders) (whole ∙ sym any-buffer) in
        rw (q, n) (orders-any (replicate buffer_size 0) w.orders (whole_beat s (state_held w.held) (given_by l)))

    printed : beat_text s (totals_at w) l ≡ code_line (w.counts.beats.0 + 1) b.code b.orders ++ order_lines b.orders o
    unfolding beat_text
    printed = rw (answer-is, orders-printed)

    pub beat-put : {at : ℕ} {u v : List ℕ} {q : ℕ} → IsPut u at (printed_by w.counts.view (code_line (w.counts.beats.0 + 1) b.code b.orders ++ order_lines b.orders o)) v q → IsPut u at (beat_printed s (totals_at w) l) v q
    unfolding beat_printed
    beat-put f = put_as (ap (printed_by w.counts.view) printed) f
