-- A beat: its checks 22, 20, 21, 23 in that order, the turns, and the undoing of all by the first alarm (document 01, "A beat" and "Codes"; document 02, Req 05). Definitions only.
use Rattle.std.specs.Prelude.{Bool, true, false, ◌&&◌, List, [], ◌∷◌, ◌++◌, ℕ, ◌*◌, ◌/◌, eqb, ltb, ℤ, length, drop, Option, is_some, unwrap_or}
use Rattle.values.specs.Codes.{short_buffer, wrong_numbers, unsound, faulty_channel}
use Rattle.couplers.specs.declared.reading.Reading.{Reading}
use Rattle.couplers.specs.declared.channel.Channel.{Channel}
use Rattle.couplers.specs.declared.channel.Samples.{Samples}
use Rattle.couplers.specs.Channel.{sampled_all, values_given, channels_kept}
use Rattle.tokens.specs.Descent.{Answer, good, stop, ◌>>=◌}
use Rattle.engine.specs.declared.set.Lines.{Lines}
use Rattle.engine.specs.declared.state.State.{State}
use Rattle.engine.specs.declared.one_beat.Beaten.{Beaten}
use Rattle.engine.specs.Set.{no_lines, lines_of}
use Rattle.engine.specs.Order.{order_size, max_orders}
use Rattle.working.specs.Variables.{input_count, position_count}
use Rattle.tokens.specs.Token.{max_lines}
use Rattle.engine.specs.ActCount.{counted_acts}
use Rattle.engine.specs.Cells.{beat_cells}
use Rattle.engine.specs.Sound.{is_sound, state_sound, all_ranged}
use Rattle.engine.specs.Action.{World}
use Rattle.engine.specs.Turn.{beat_in, Turned, turns_from}

-- the bytes of the order buffer
abbrev pub buffer_size : ℕ
buffer_size = max_orders * order_size

-- six positions, each within range
unfoldable pub are_inputs : List ℤ → Bool
are_inputs lent = eqb (length lent) position_count && all_ranged lent

-- what a beat is given: whether it is in AUTOMATIC, the input word, the readings of the channels, the positions, the order buffer
pub record Given : Type 0 where
  pub automatic : Bool
  pub word : ℕ
  pub readings : List Reading
  pub lent : List ℤ
  pub buffer : List ℕ

-- what the channels make of the readings
abbrev pub samples_in : State → Given → Option Samples
samples_in st g = sampled_all st.channels g.readings

-- and what they keep after a good beat
abbrev pub kept_in : State → Given → List Channel
kept_in st g = channels_kept st.channels (samples_in st g)

-- the beat as it begins, with these analogues and positions
abbrev pub begun_with : State → ℕ → List ℤ → List ℤ → World
begun_with st word values lent = record {
  vars = record { r = st.r; cells = beat_cells word values lent st.runs st.cells; runs = st.runs };
  locked = st.locked;
  memory = st.memory;
  acted = 0;
  orders = [];
}

unfoldable pub beat_begun : State → Given → World
beat_begun st g = begun_with st g.word (values_given (samples_in st g)) g.lent

-- the state as it ends, the channels then keeping these; each line that acted counts one more
unfoldable pub beat_ended : State → List Channel → World → State
beat_ended st kept x = record {
  r = x.vars.r;
  cells = drop input_count x.vars.cells;
  runs = x.vars.runs;
  channels = kept;
  locked = x.locked;
  cancelled = st.cancelled;
  memory = x.memory;
  acts = counted_acts st.acts x.acted max_lines;
}

-- its turns, over these lines
abbrev pub all_turns : List ℕ → Lines → State → Given → Answer Turned
all_turns s ls st g = turns_from s ls.numbers st.cancelled g.automatic ls.items ls.count 0 (beat_begun st g)

-- a beat over these lines, where `sound` says whether they and the state are: what it came to and what is written down of it, or the code of a refusal or an alarm
abbrev pub beat_where : Bool → List ℕ → Lines → State → Given → Answer Turned
beat_where sound s ls st g =
    elim sound [
      | true ↦
          elim (ltb (length g.buffer) buffer_size) [
            | true ↦ stop short_buffer
            | false ↦
                elim (are_inputs g.lent) [
                  | true ↦
                      elim (is_some (samples_in st g)) [
                        | true ↦ all_turns s ls st g >>= λ t. good (record { world = t.world; entries = beat_in g.automatic ∷ t.entries })
                        | false ↦ stop faulty_channel
                      ]
                  | false ↦ stop wrong_numbers
                ]
          ]
      | false ↦ stop unsound
    ]

-- there are sound lines, read before, and a state is sound with them
abbrev pub sound_over : Option Lines → State → Bool
sound_over ls st = is_some ls && state_sound (unwrap_or ls no_lines).count st

-- a beat over lines that were read before
unfoldable pub beat_over : List ℕ → Option Lines → State → Given → Answer Turned
beat_over s ls st g = beat_where (sound_over ls st) s (unwrap_or ls no_lines) st g

-- the same, where the caller says whether they are sound: of the state nothing is asked
unfoldable pub beat_known : Bool → List ℕ → Option Lines → State → Given → Answer Turned
beat_known known s ls st g = beat_where (is_some ls && known) s (unwrap_or ls no_lines) st g

-- the beat: that over the set's own lines
unfoldable pub whole_beat : List ℕ → State → Given → Answer Turned
whole_beat s st g = beat_where (is_sound s st) s (lines_of s) st g

-- what the call answers, where the channels keep these after a good beat; a beat that is refused or undone keeps all as it was
abbrev pub turned_answer : State → List Channel → Answer Turned → Beaten
turned_answer st kept (good t) = record { code = 0; orders = length t.world.orders / order_size; acted = t.world.acted; state = beat_ended st kept t.world }
turned_answer st kept (stop k) = record { code = k; orders = 0; acted = 0; state = st }

-- the order buffer afterwards
abbrev pub buffered : List ℕ → Answer Turned → List ℕ
buffered b (good t) = t.world.orders ++ drop (length t.world.orders) b
buffered b (stop k) = b

unfoldable pub beat_answer : List ℕ → State → Given → Beaten
beat_answer s st g = turned_answer st (kept_in st g) (whole_beat s st g)

unfoldable pub beat_buffer : List ℕ → State → Given → List ℕ
beat_buffer s st g = buffered g.buffer (whole_beat s st g)
