-- The engine's run from a load on, and the run of a control that keeps no flags: it has the rest of the state and the history, and decides by the rule alone.
-- Definitions only; assumes nothing.
use Rattle.std.specs.Prelude.{Bool, true, false, cond, not, ◌&&◌, ◌||◌, List, [], ◌∷◌, ◌++◌, map, ℕ, zero, suc, ◌+◌, ◌/◌, eqb, ltb, ℤ, length, get_or, is_some, Option}
use Rattle.values.specs.Codes.{short_buffer, wrong_numbers, unsound, faulty_channel, unknown_line}
use Rattle.couplers.specs.declared.channel.Channel.{Channel}
use Rattle.couplers.specs.declared.channel.Samples.{Samples}
use Rattle.tokens.specs.Token.{WHEN, FROM, EVERY, max_lines}
use Rattle.tokens.specs.Descent.{Answer, good, stop, ◌>>=◌}
use Rattle.working.specs.Operators.{is_yes}
use Rattle.working.specs.Working.{condition_value}
use Rattle.checking.specs.declared.line.Line.{Line}
use Rattle.engine.specs.declared.set.Lines.{Lines}
use Rattle.engine.specs.declared.state.State.{State}
use Rattle.engine.specs.declared.one_beat.Beaten.{Beaten}
use Rattle.engine.specs.declared.calls.Called.{Called}
use Rattle.engine.specs.Set.{no_line, rank_in, lines_of}
use Rattle.engine.specs.State.{power_on}
use Rattle.engine.specs.Sound.{is_sound}
use Rattle.engine.specs.Action.{World, from_reached}
use Rattle.engine.specs.Turn.{Entry, beat_in, worked, locks, cancels, resets, Turned, do_turn}
use Rattle.engine.specs.Order.{order_size}
use Rattle.engine.specs.Beat.{buffer_size, are_inputs, buffered, beat_answer, beat_buffer, Given, samples_in, beat_begun, beat_ended, whole_beat, kept_in}
use Rattle.engine.specs.Calls.{lock_call, unlock_call, cancel_call, program_end_call, control_reset_state, control_reset_call}
use Rattle.soundness.specs.Call.{Call, do_beat, do_lock, do_unlock, do_cancel, do_program_end, do_control_reset}
use Rattle.soundness.specs.ProgramEnd.{live_ids}
use Rattle.demands.specs.History.{History, after, is_cancelled, is_locked, was_true, ever_true, is_automatic, takes_by_rule, tries_by_rule, acts_by_rule}

-- ---- the calls after a load, and what the caller sees of each

-- the code, the number of orders, the word of the lines that acted, and the order buffer afterwards (0, 0 and none of a host's call)
pub record Reply : Type 0 where
  pub code : ℕ
  pub orders : ℕ
  pub acted : ℕ
  pub buffer : List ℕ

abbrev pub coded : ℕ → Reply
coded c = record { code = c; orders = 0; acted = 0; buffer = [] }

-- where a run stands: what the control keeps, the history, and the calls so far with their replies, newest first
pub record Now (S : Type 0) : Type 0 where
  pub kept : S
  pub history : History
  pub told : List (Call × Reply)

-- what a beat adds to the history: a failed one nothing
abbrev pub entries_of : Answer Turned → List Entry
entries_of (good t) = t.entries
entries_of (stop c) = []

-- what a host's call adds: a refused one nothing
abbrev pub noted : ℕ → List Entry → History → History
noted c es r = elim (eqb c 0) [ true ↦ after es r | false ↦ r ]

-- the rank of the line with the number n
abbrev pub rank_of : List ℕ → ℕ → ℕ
rank_of s n = rank_in (lines_of s).numbers n 0

-- what a program end adds, where these lines are cancelled before it: the cancel of each ID line still live, in rising rank
abbrev pub end_entries : Lines → List Bool → List Entry
end_entries ls cancelled = map cancels (live_ids ls.items cancelled ls.count)

-- ---- the engine's run

-- a host's call that gave x and is written down as es
abbrev pub hosted : Call → Called → List Entry → Now State → Now State
hosted c x es n = record { kept = x.state; history = noted x.code es n.history; told = (c, coded x.code) ∷ n.told }

-- a beat that was given g, gave x, left the buffer b and wrote down es
abbrev pub beaten : Given → Beaten → List ℕ → List Entry → Now State → Now State
beaten g x b es n = record {
  kept = x.state;
  history = after es n.history;
  told = (do_beat g, record { code = x.code; orders = x.orders; acted = x.acted; buffer = b }) ∷ n.told;
}

-- one call of the engine, as its definitions have it
unfoldable pub step : List ℕ → Call → Now State → Now State
step s (do_beat g) n = beaten g (beat_answer s n.kept g) (beat_buffer s n.kept g) (entries_of (whole_beat s n.kept g)) n
step s (do_lock k) n = hosted (do_lock k) (lock_call s n.kept k) (locks (rank_of s k) true ∷ []) n
step s (do_unlock k) n = hosted (do_unlock k) (unlock_call s n.kept k) (locks (rank_of s k) false ∷ []) n
step s (do_cancel k) n = hosted (do_cancel k) (cancel_call s n.kept k) (cancels (rank_of s k) ∷ []) n
step s do_program_end n = hosted do_program_end (program_end_call s n.kept) (end_entries (lines_of s) n.kept.cancelled) n
step s do_control_reset n = hosted do_control_reset (control_reset_call s n.kept) (resets ∷ []) n

-- the calls, one after the other
unfoldable pub run_from : List ℕ → List Call → Now State → Now State
run_from s [] n = n
run_from s (c ∷ cs) n = run_from s cs (step s c n)

-- after a load: the state of power-on, and nothing written down
abbrev pub loaded : Now State
loaded = record { kept = power_on; history = []; told = [] }

-- the engine's run of these calls over the set s, from the load on
abbrev pub engine_run : List ℕ → List Call → Now State
engine_run s cs = run_from s cs loaded

-- ---- what the history says of locks, cancels and memory

-- a value for each of the first n ranks
unfoldable pub ranks : (ℕ → Bool) → ℕ → List Bool
ranks f zero = []
ranks f (suc n) = f 0 ∷ ranks (λ k. f (suc k)) n

-- so for each of the 32 ranks
unfoldable pub by_rank : (ℕ → Bool) → List Bool
by_rank f = ranks f max_lines

-- a line of the set is cancelled
abbrev pub cancelled_by : Lines → History → ℕ → Bool
cancelled_by ls r k = is_cancelled (get_or ls.items k no_line).ids k r && ltb k ls.count

-- it is locked, and not cancelled
abbrev pub locked_by : Lines → History → ℕ → Bool
locked_by ls r k = is_locked k r && not (cancelled_by ls r k)

-- what a line with this keyword has to remember: WHEN and FROM, that its condition was true once; EVERY, that it was true when last worked
abbrev pub remembers_by : ℕ → ℕ → History → Bool
remembers_by kw k r = cond (eqb kw WHEN || eqb kw FROM) (ever_true k r) (cond (eqb kw EVERY) (was_true k r) false)

-- it remembers something, and is not cancelled
abbrev pub memory_by : Lines → History → ℕ → Bool
memory_by ls r k = remembers_by (get_or ls.items k no_line).keyword k r && not (cancelled_by ls r k)

-- ---- the control that keeps no flags

-- the rest: all that it keeps beside the history, which is every field of a state but the flags (locked, cancelled, memory)
pub record Rest : Type 0 where
  pub r : List ℤ
  pub cells : List ℤ
  pub runs : List Bool
  pub channels : List Channel
  pub acts : List ℕ

abbrev pub rest_of : State → Rest
rest_of st = record { r = st.r; cells = st.cells; runs = st.runs; channels = st.channels; acts = st.acts }

-- the state with these flags
abbrev pub with_rest : Rest → List Bool → List Bool → List Bool → State
with_rest v locked cancelled memory = record { r = v.r; cells = v.cells; runs = v.runs; channels = v.channels; locked = locked; cancelled = cancelled; memory = memory; acts = v.acts }

abbrev pub without_flags : Rest → State
without_flags v = with_rest v [] [] []

-- the state that the rest and the history make up
unfoldable pub state_by : Lines → Rest → History → State
state_by ls v r = with_rest v (by_rank (locked_by ls r)) (by_rank (cancelled_by ls r)) (by_rank (memory_by ls r))

-- what the channels make of the readings
abbrev pub samples_by : Rest → Given → Option Samples
samples_by v g = samples_in (without_flags v) g

-- a beat begins without flags
unfoldable pub begun_by : Rest → Given → World
begun_by v g = beat_begun (without_flags v) g

-- and leaves none
unfoldable pub ended_by : Rest → Given → World → Rest
ended_by v g x = rest_of (beat_ended (without_flags v) (kept_in (without_flags v) g) x)

module _ (s : List ℕ) (ls : Lines) where
  -- the condition, worked if the rule says so; then the actions, if the rule says so (a LOCK in text asks the history which lines are cancelled)
  unfoldable pub try_by_rule : Line → ℕ → History → World → Answer Turned
  try_by_rule l k r x =
      elim (tries_by_rule l.keyword k r) [
        | true ↦
            from_reached (condition_value s x.vars.r x.vars.cells l.condition) >>= λ a.
            do_turn s ls.numbers (by_rank (cancelled_by ls r)) (is_automatic r) l k x (worked k (is_yes a.0) ∷ []) (acts_by_rule l.keyword k r (is_yes a.0))
        | false ↦ do_turn s ls.numbers (by_rank (cancelled_by ls r)) (is_automatic r) l k x [] (acts_by_rule l.keyword k r false)
      ]

  -- its turn, if the rule says that it takes one
  unfoldable pub turn_by_rule : Line → ℕ → History → World → Answer Turned
  turn_by_rule l k r x = elim (takes_by_rule l k r) [ true ↦ try_by_rule l k r x | false ↦ good (record { world = x; entries = [] }) ]

  -- the turns of m lines from rank k on; each sees what was written down before it
  unfoldable pub turns_by_rule : ℕ → ℕ → History → World → Answer Turned
  turns_by_rule zero k r x = good (record { world = x; entries = [] })
  turns_by_rule (suc m) k r x =
      turn_by_rule (get_or ls.items k no_line) k r x >>= λ t.
      turns_by_rule m (k + 1) (after t.entries r) t.world >>= λ u.
      good (record { world = u.world; entries = t.entries ++ u.entries })

-- a beat: 22 is asked of the set, the rest and what the history gives of locks, cancels and memory, then 20, 21 and 23; its first entry is its mode
unfoldable pub beat_by_rule : List ℕ → Rest → History → Given → Answer Turned
beat_by_rule s v r g =
    elim (is_sound s (state_by (lines_of s) v r)) [
      | true ↦
          elim (ltb (length g.buffer) buffer_size) [
            | true ↦ stop short_buffer
            | false ↦
                elim (are_inputs g.lent) [
                  | true ↦
                      elim (is_some (samples_by v g)) [
                        | true ↦
                            turns_by_rule s (lines_of s) (lines_of s).count 0 (beat_in g.automatic ∷ r) (begun_by v g) >>= λ t.
                            good (record { world = t.world; entries = beat_in g.automatic ∷ t.entries })
                        | false ↦ stop faulty_channel
                      ]
                  | false ↦ stop wrong_numbers
                ]
          ]
      | false ↦ stop unsound
    ]

-- the code of a call that names a line: 22, then 40 for a line that is not in the set or that the history says is cancelled
unfoldable pub code_by_rule : List ℕ → Rest → History → ℕ → ℕ
code_by_rule s v r n =
    elim (is_sound s (state_by (lines_of s) v r)) [
      | true ↦
          elim (ltb (rank_of s n) (lines_of s).count) [
            | true ↦ elim (is_cancelled (get_or (lines_of s).items (rank_of s n) no_line).ids (rank_of s n) r) [ true ↦ unknown_line | false ↦ 0 ]
            | false ↦ unknown_line
          ]
      | false ↦ unsound
    ]

-- the code of a program end: 22 or 0
unfoldable pub end_code_by_rule : List ℕ → Rest → History → ℕ
end_code_by_rule s v r = elim (is_sound s (state_by (lines_of s) v r)) [ true ↦ 0 | false ↦ unsound ]

-- a host's call with the code k leaves the rest as it was
abbrev pub hosted_by_rule : Call → ℕ → List Entry → Now Rest → Now Rest
hosted_by_rule c k es n = record { kept = n.kept; history = noted k es n.history; told = (c, coded k) ∷ n.told }

-- a failed beat leaves all as it was
abbrev pub beaten_by_rule : Given → Answer Turned → Now Rest → Now Rest
beaten_by_rule g (good t) n = record {
  kept = ended_by n.kept g t.world;
  history = after t.entries n.history;
  told = (do_beat g, record { code = 0; orders = length t.world.orders / order_size; acted = t.world.acted; buffer = buffered g.buffer (good t) }) ∷ n.told;
}
beaten_by_rule g (stop k) n = record { kept = n.kept; history = n.history; told = (do_beat g, record { code = k; orders = 0; acted = 0; buffer = g.buffer }) ∷ n.told }

-- what the engine's control reset leaves of the rest
abbrev pub cleared : Rest → Lines → History → Rest
cleared v ls r = rest_of (control_reset_state ls.items ls.count (state_by ls v r))

-- a control reset: one entry, and the rest cleared
unfoldable pub control_reset_by_rule : List ℕ → Now Rest → Now Rest
control_reset_by_rule s n =
    elim (is_sound s (state_by (lines_of s) n.kept n.history)) [
      | true ↦ record { kept = cleared n.kept (lines_of s) n.history; history = resets ∷ n.history; told = (do_control_reset, coded 0) ∷ n.told }
      | false ↦ record { kept = n.kept; history = n.history; told = (do_control_reset, coded unsound) ∷ n.told }
    ]

-- one call by the rule
unfoldable pub step_by_rule : List ℕ → Call → Now Rest → Now Rest
step_by_rule s (do_beat g) n = beaten_by_rule g (beat_by_rule s n.kept n.history g) n
step_by_rule s (do_lock k) n = hosted_by_rule (do_lock k) (code_by_rule s n.kept n.history k) (locks (rank_of s k) true ∷ []) n
step_by_rule s (do_unlock k) n = hosted_by_rule (do_unlock k) (code_by_rule s n.kept n.history k) (locks (rank_of s k) false ∷ []) n
step_by_rule s (do_cancel k) n = hosted_by_rule (do_cancel k) (code_by_rule s n.kept n.history k) (cancels (rank_of s k) ∷ []) n
step_by_rule s do_program_end n = hosted_by_rule do_program_end (end_code_by_rule s n.kept n.history) (end_entries (lines_of s) (by_rank (cancelled_by (lines_of s) n.history))) n
step_by_rule s do_control_reset n = control_reset_by_rule s n

-- the calls, one after the other
unfoldable pub run_by_rule_from : List ℕ → List Call → Now Rest → Now Rest
run_by_rule_from s [] n = n
run_by_rule_from s (c ∷ cs) n = run_by_rule_from s cs (step_by_rule s c n)

-- the run of these calls by the rule alone, from the load on
abbrev pub run_by_rule : List ℕ → List Call → Now Rest
run_by_rule s cs = run_by_rule_from s cs (record { kept = rest_of power_on; history = []; told = [] })
