-- Time: beats, milliseconds and timers (document 01, "Values and time"). Definitions only; TimeLaws has what follows from them.
use Rattle.std.specs.Prelude.{Bool, true, false, cond, ℕ, ◌*◌, min, ℤ, pos, ◌+ℤ◌}
use Rattle.values.specs.declared.time.Beats.{Beats}
use Rattle.values.specs.declared.time.Millis.{Millis}
use Rattle.values.specs.declared.time.Timer.{Timer}
use Rattle.values.specs.Value.{top, less_than}

-- one beat is 4 ms
abbrev pub beat_millis : ℕ
beat_millis = 4

abbrev pub timer : ℤ → Bool → Timer
timer t on = record { time = record { 0 = t }; runs = on }

-- the time that so many beats take, at most the top
unfoldable pub millis_of : Beats → Millis
millis_of b = record { 0 = pos (min top (beat_millis * b.0)) }

-- the time by which a timer grows: that of one beat
abbrev pub step : ℤ
step = (millis_of (record { 0 = 1 })).0

-- never beyond the top
abbrev pub up_to_top : ℤ → ℤ
up_to_top t = cond (less_than (pos top) t) (pos top) t

-- a running timer grows at the start of each beat
unfoldable pub grown_timer : Timer → Timer
grown_timer t = cond t.runs (timer (up_to_top (t.time.0 +ℤ step)) true) t

-- writing 0 or more sets the value and runs; a negative stops and keeps the value
unfoldable pub written_timer : Timer → ℤ → Timer
written_timer t v = cond (less_than v (pos 0)) (timer t.time.0 false) (timer v true)
