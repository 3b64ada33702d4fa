-- What the walk hands on, as one number of 64 bits: its remainder by `room` is the next place, 0 where an alarm ends it; its quotient has the 32 bits of the value, or the code of the alarm. Definitions only.
use Rattle.std.specs.Prelude.{true, false, ℕ, ◌+◌, ◌*◌, ◌/◌, ◌%◌, eqb, ℤ, Result, Ok, Err}
use Rattle.values.specs.Complement.{twos_complement, signed}
use Rattle.tokens.specs.Token.{room}
use Rattle.tokens.specs.Descent.{Read, read, ends}
use Rattle.values.specs.declared.codes.Alarm.{Alarm}
use Rattle.values.specs.Codes.{code_of}

unfoldable pub pair_of : ℤ → ℕ → ℕ
pair_of v p = twos_complement v * room + p % room

abbrev pub alarm_of : ℕ → ℕ
alarm_of k = k * room

abbrev pub next_of : ℕ → ℕ
next_of w = w % room

unfoldable pub value_of : ℕ → ℤ
value_of w = signed (w / room % 4294967296)

abbrev pub alarm_in : ℕ → ℕ
alarm_in w = w / room % 256

-- what a working gave, and a place
abbrev pub worked_pair : Result ℤ Alarm → ℕ → ℕ
worked_pair (Ok v) p = pair_of v p
worked_pair (Err a) p = alarm_of (code_of a)

-- what a pair says
unfoldable pub said : ℕ → Read ℤ
said w = elim (eqb (next_of w) 0) [ true ↦ ends (alarm_in w) | false ↦ read (value_of w) (next_of w) ]
