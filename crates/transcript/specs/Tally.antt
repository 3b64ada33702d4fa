-- A line of a session worked: a beat, counted, and what is printed of it; a call, which prints nothing and is no beat (document 01, "On both sides of each edge"; document 02, Req 07). Definitions only.
use Rattle.std.specs.Prelude.{List, [], ◌++◌, ℕ, ◌+◌, replicate}
use Rattle.transcript.specs.declared.beat_line.Lent.{Lent}
use Rattle.transcript.specs.declared.beat_line.Said.{Said}
use Rattle.transcript.specs.declared.beat_line.Said.TheVariants.{Beat, ProgramEnd, ControlReset}
use Rattle.engine.specs.declared.one_beat.Beaten.{Beaten}
use Rattle.engine.specs.declared.state.State.{State}
use Rattle.engine.specs.Calls.{program_end_call, control_reset_call}
use Rattle.engine.specs.Beat.{buffer_size, Given, beat_answer, beat_buffer}
use Rattle.transcript.specs.Output.{code_line, order_lines}
use Rattle.transcript.specs.declared.view.View.{View}
use Rattle.transcript.specs.declared.view.View.TheVariants.{Run, Status}
use Rattle.transcript.specs.declared.totals.Totals.{Totals}
use Rattle.transcript.specs.Totals.{counting, calling}

-- the totals with what a beat answers
abbrev pub counted : Totals → Beaten → Totals
counted n x = record { counts = counting n.counts x.code x.orders; state = x.state }

-- the totals with a line that is no beat, by the state that its call leaves
abbrev pub counted_call : Totals → State → Totals
counted_call n x = record { counts = calling n.counts; state = x }

-- what a line gives to its beat: what it lends, and a buffer of zeros for the orders
abbrev pub given_by : Lent → Given
given_by l = record { automatic = l.automatic; word = l.word; readings = l.sent; lent = l.positions; buffer = replicate buffer_size 0 }

-- a beat of the set s
unfoldable pub answer_of : List ℕ → Totals → Lent → Beaten
answer_of s n l = beat_answer s n.state (given_by l)

unfoldable pub buffer_of : List ℕ → Totals → Lent → List ℕ
buffer_of s n l = beat_buffer s n.state (given_by l)

-- what is printed of a beat: C, then an O per order
unfoldable pub beat_text : List ℕ → Totals → Lent → List ℕ
beat_text s n l = code_line (n.counts.beats.0 + 1) (answer_of s n l).code (answer_of s n l).orders ++ order_lines (answer_of s n l).orders (buffer_of s n l)

-- by the view: nothing of a beat goes with the status picture
abbrev pub printed_by : View → List ℕ → List ℕ
printed_by Run text = text
printed_by Status text = []

unfoldable pub beat_printed : List ℕ → Totals → Lent → List ℕ
beat_printed s n l = printed_by n.counts.view (beat_text s n l)

-- ---- by what the line says

-- the totals with it; a call that is refused leaves the state as it is
abbrev pub said_counted : List ℕ → Totals → Said → Totals
said_counted s n (Beat l) = counted n (answer_of s n l)
said_counted s n ProgramEnd = counted_call n (program_end_call s n.state).state
said_counted s n ControlReset = counted_call n (control_reset_call s n.state).state

-- what is printed of it
abbrev pub said_printed : List ℕ → Totals → Said → List ℕ
said_printed s n (Beat l) = beat_printed s n l
said_printed s n ProgramEnd = []
said_printed s n ControlReset = []
