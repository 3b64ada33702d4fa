-- The answers of a working and of a load as one number each. Definitions only.
use Rattle.std.specs.Prelude.{ℕ, ◌+◌, ◌*◌, ℤ, negsuc, ◌-ℤ◌, pos, Result, Ok, Err}
use Rattle.values.specs.declared.codes.Alarm.{Alarm}
use Rattle.values.specs.Codes.{code_of}
use Rattle.working.specs.declared.walk.Reached.{Reached}
use Rattle.reader.specs.declared.load_text.Loaded.{Loaded}

-- -2^40
abbrev pub alarms : ℤ
alarms = negsuc 1099511627775

-- a value is itself, an alarm of the code k is -2^40 - k, below every value
abbrev pub packed : Result Reached Alarm → ℤ
packed (Ok g) = g.value
packed (Err a) = alarms -ℤ pos (code_of a)

-- the code is the lowest byte, the line stands above it; the state is that of power-on in each case
abbrev pub packed_load : Loaded → ℕ
packed_load l = l.line * 256 + l.code
