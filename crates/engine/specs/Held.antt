-- A beat in place: the state as it is held, its cells behind those of the inputs, and what a beat leaves of it. Definitions only.
use Rattle.std.specs.Prelude.{◌≡◌, Bool, true, false, leb, List, ℕ, ◌/◌, ℤ, length, drop, Option, Some, None}
use Rattle.couplers.specs.declared.reading.Reading.{Reading}
use Rattle.couplers.specs.declared.channel.Channel.{Channel}
use Rattle.couplers.specs.Channel.{sampled_all, channels_kept}
use Rattle.tokens.specs.Descent.{Answer, good, stop}
use Rattle.engine.specs.declared.set.Lines.{Lines}
use Rattle.engine.specs.declared.state.State.{State}
use Rattle.engine.specs.declared.held.Held.{Held}
use Rattle.engine.specs.declared.one_beat.BeatCode.{BeatCode}
use Rattle.engine.specs.Order.{order_size}
use Rattle.working.specs.Variables.{input_count}
use Rattle.tokens.specs.Token.{max_lines}
use Rattle.engine.specs.ActCount.{counted_acts}
use Rattle.engine.specs.Cells.{spread_cells}
use Rattle.engine.specs.Turn.{Turned, turns_from}
use Rattle.engine.specs.Beat.{buffered, Given, begun_with, beat_over, beat_known}

-- a state, held for a beat
abbrev pub held_of : State → Held
held_of st = record { r = st.r; cells = spread_cells st.cells; runs = st.runs; channels = st.channels; locked = st.locked; cancelled = st.cancelled; memory = st.memory; acts = st.acts }

-- the state that is held
abbrev pub state_held : Held → State
state_held h = record { r = h.r; cells = drop input_count h.cells; runs = h.runs; channels = h.channels; locked = h.locked; cancelled = h.cancelled; memory = h.memory; acts = h.acts }

abbrev pub given_with : Bool → ℕ → List Reading → List ℤ → List ℕ → Given
given_with automatic word readings lent buffer = record { automatic = automatic; word = word; readings = readings; lent = lent; buffer = buffer }

-- what the channels keep after a good beat
abbrev pub kept_held : Held → List Reading → List Channel
kept_held h readings = (channels_kept h.channels (sampled_all h.channels readings))

-- lines that were read, if they are no more than a set may have
abbrev pub few_lines : Option Lines → Option Lines
few_lines (Some l) = elim (leb l.count max_lines) [ true ↦ Some l | false ↦ None ]
few_lines None = None

-- its turns over these lines, from these analogues and positions, and the beat
abbrev pub turns_held : List ℕ → Lines → Held → Bool → ℕ → List ℤ → List ℤ → Answer Turned
turns_held s ls h automatic word values lent = turns_from s ls.numbers h.cancelled automatic ls.items ls.count 0 (begun_with (state_held h) word values lent)

abbrev pub beat_held : List ℕ → Option Lines → Held → Given → Answer Turned
beat_held s ls h g = beat_over s ls (state_held h) g

-- and where the caller says whether they and the state are sound
abbrev pub known_held : Bool → List ℕ → Option Lines → Held → Given → Answer Turned
known_held known s ls h g = beat_known known s ls (state_held h) g

-- what the call answers
abbrev pub turned_code : Answer Turned → BeatCode
turned_code (good t) = record { code = 0; orders = length t.world.orders / order_size; acted = t.world.acted }
turned_code (stop k) = record { code = k; orders = 0; acted = 0 }

-- what is held afterwards, where the channels keep these after a good beat; on any code all is as it was
abbrev pub held_after : Held → List Channel → Answer Turned → Held
held_after h kept (good t) = record {
  r = t.world.vars.r;
  cells = t.world.vars.cells;
  runs = t.world.vars.runs;
  channels = kept;
  locked = t.world.locked;
  cancelled = h.cancelled;
  memory = t.world.memory;
  acts = counted_acts h.acts t.world.acted max_lines;
}
held_after h kept (stop k) = h

-- a beat in place that comes to y answers x, and leaves i of the state h that was held, and c of the order buffer b
abbrev pub LeavesBeat : Answer Turned → List Channel → Held → List ℕ → BeatCode → Held → List ℕ → Type 0
LeavesBeat y kept h b x i c = record { value : x ≡ turned_code y; state_after : i ≡ held_after h kept y; orders_after : c ≡ buffered b y }
