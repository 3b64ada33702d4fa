-- The lines behind the line * and the beats of a session, counted, and what is printed at its end (document 01, "On both sides of each edge"; document 02, Req 06 and 07). Definitions only.
use Rattle.std.specs.Prelude.{Bool, cond, ◌&&◌, List, ℕ, zero, suc, ◌+◌, ◌*◌, leb, ltb, Result, Ok, Err, []}
use Rattle.engine.specs.Order.{max_orders}
use Rattle.engine.specs.declared.state.State.{State}
use Rattle.engine.specs.State.{power_on}
use Rattle.engine.specs.declared.status.Status.{Status as LineStates}
use Rattle.engine.specs.Status.{status_of}
use Rattle.transcript.specs.declared.view.View.{View}
use Rattle.transcript.specs.declared.view.View.TheVariants.{Run, Status}
use Rattle.transcript.specs.Output.{end_line, status_rows}
use Rattle.transcript.specs.declared.totals.Counts.{Counts}
use Rattle.transcript.specs.declared.totals.Totals.{Totals}

-- after 1,000,000 lines behind the line * a session ends as at the end of input
abbrev pub last_line : ℕ
last_line = 1000000

-- before the first of them
abbrev pub no_totals : View → Totals
no_totals v = record { counts = record { view = v; lines = 0; beats = record { 0 = 0 }; coded = 0; orders = 0 }; state = power_on }

-- END
abbrev pub end_counts : Counts → List ℕ
end_counts n = end_line n.beats.0 n.coded n.orders

-- the rows of a status picture; refused, none
abbrev pub rows_in : Result LineStates ℕ → List ℕ
rows_in (Ok x) = status_rows x.count 0 x.lines
rows_in (Err k) = []

-- the status picture of the set s
abbrev pub picture : List ℕ → State → List ℕ
picture s st = rows_in (status_of s st)

-- at the end, over the set s: END, or the picture
abbrev pub end_by : View → List ℕ → Totals → List ℕ
end_by Run s n = end_counts n.counts
end_by Status s n = picture s n.state

abbrev pub ended : List ℕ → Totals → List ℕ
ended s n = end_by n.counts.view s n

-- one more beat with a code
abbrev pub one_if : ℕ → ℕ
one_if zero = 0
one_if (suc c) = 1

-- the counts with a line and its beat, by its code and its orders
abbrev pub counting : Counts → ℕ → ℕ → Counts
counting n code orders = record { view = n.view; lines = n.lines + 1; beats = record { 0 = n.beats.0 + 1 }; coded = n.coded + one_if code; orders = n.orders + orders }

-- the counts with a line that is no beat
abbrev pub calling : Counts → Counts
calling n = record { view = n.view; lines = n.lines + 1; beats = n.beats; coded = n.coded; orders = n.orders }

-- counts that a session may have with a line still to come: no more beats than lines
unfoldable pub are_fit : Counts → Bool
are_fit n = ltb n.lines last_line && (leb n.beats.0 n.lines && (leb n.coded n.beats.0 && leb n.orders (n.beats.0 * max_orders)))

-- ---- counts that anyone may have made

-- the counts with a line and its beat, where a line is still to come and the beat has no more orders than one may have; else the same
unfoldable pub counting_any : Counts → ℕ → ℕ → Counts
counting_any n code orders = cond (are_fit n && leb orders max_orders) (counting n code orders) n

-- the counts with a line that is no beat, where one is still to come; else the same
unfoldable pub calling_any : Counts → Counts
calling_any n = cond (are_fit n) (calling n) n
