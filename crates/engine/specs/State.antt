-- The state: every variable but the inputs, what the channels keep, and for each line, by rank, whether it is locked, cancelled, its memory, and how often it acted. Definitions only.
use Rattle.std.specs.Prelude.{false, pos, replicate}
use Rattle.couplers.specs.Channel.{fresh_channels}
use Rattle.tokens.specs.Token.{max_lines}
use Rattle.working.specs.Variables.{r_count, timer_count, state_cells}
use Rattle.engine.specs.declared.state.State.{State}

-- power-on: all 0, timers stopped, no channel ever good, no lock, cancel or memory, no line acted
unfoldable pub power_on : State
power_on = record {
  r = replicate r_count (pos 0);
  cells = replicate state_cells (pos 0);
  runs = replicate timer_count false;
  channels = fresh_channels;
  locked = replicate max_lines false;
  cancelled = replicate max_lines false;
  memory = replicate max_lines false;
  acts = replicate max_lines 0;
}
