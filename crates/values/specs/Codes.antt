-- The codes of document 01 ("Codes") and document 02, each named once; 0 is success. Definitions only.
use Rattle.std.specs.Prelude.{cond, ℕ, eqb, Result, Ok, Err}
use Rattle.values.specs.declared.codes.Alarm.{Alarm}
use Rattle.values.specs.declared.codes.Alarm.TheVariants.{OutOfRange, ZeroDivisor, FifoEmpty, FifoFull, NotAllowed, Unsound}

-- text above 4,096 bytes
abbrev pub too_long : ℕ
too_long = 1

-- more than 32 lines with tokens
abbrev pub too_many_lines : ℕ
too_many_lines = 2

-- a byte or word that makes no token
abbrev pub makes_no_token : ℕ
makes_no_token = 3

-- more than eight brackets ( open
abbrev pub too_deep : ℕ
too_deep = 4

-- not in the grammar
abbrev pub not_in_grammar : ℕ
not_in_grammar = 5

-- yes/no and number confused
abbrev pub confused : ℕ
confused = 6

-- number or index outside its range
abbrev pub outside : ℕ
outside = 7

-- write to a read-only place, or FIFO [0] read elsewhere
abbrev pub read_only : ℕ
read_only = 8

-- M without WHEN or EVERY
abbrev pub m_alone : ℕ
m_alone = 9

-- more than eight actions
abbrev pub too_many_actions : ℕ
too_many_actions = 10

-- line number used above
abbrev pub used_above : ℕ
used_above = 11

-- LOCK or UNLOCK of a number not in the set
abbrev pub not_in_set : ℕ
not_in_set = 12

-- a curve whose lower limit is above its upper one, that is defined twice, or used but not defined
abbrev pub wrong_curve : ℕ
wrong_curve = 13

-- two moves of one axis in a line
abbrev pub two_moves : ℕ
two_moves = 14

-- order buffer under 2,048 bytes
abbrev pub short_buffer : ℕ
short_buffer = 20

-- not six positions, or one out of range
abbrev pub wrong_numbers : ℕ
wrong_numbers = 21

-- set or state not sound
abbrev pub unsound : ℕ
unsound = 22

-- a channel is faulty and never was good, or already had 25 faulty beats in a row
abbrev pub faulty_channel : ℕ
faulty_channel = 23

-- print buffer under 4,096 bytes, or too short for the print
abbrev pub short_print : ℕ
short_print = 24

-- a result outside the values
abbrev pub out_of_range : ℕ
out_of_range = 30

-- a zero divisor
abbrev pub zero_divisor : ℕ
zero_divisor = 31

-- a reading of an empty FIFO
abbrev pub fifo_empty : ℕ
fifo_empty = 32

-- a value more than a FIFO holds
abbrev pub fifo_full : ℕ
fifo_full = 33

-- a value that the target does not take
abbrev pub not_allowed : ℕ
not_allowed = 34

-- host names a line not in the set, or cancelled
abbrev pub unknown_line : ℕ
unknown_line = 40

-- the code of an alarm
abbrev pub code_of : Alarm → ℕ
code_of OutOfRange = out_of_range
code_of ZeroDivisor = zero_divisor
code_of FifoEmpty = fifo_empty
code_of FifoFull = fifo_full
code_of NotAllowed = not_allowed
code_of Unsound = unsound

-- the alarm with a code; `Unsound` where none has it
abbrev pub alarm_with : ℕ → Alarm
alarm_with k =
    cond (eqb k out_of_range) OutOfRange
    (cond (eqb k zero_divisor) ZeroDivisor
    (cond (eqb k fifo_empty) FifoEmpty
    (cond (eqb k fifo_full) FifoFull
    (cond (eqb k not_allowed) NotAllowed Unsound))))

-- the code of an answer
abbrev pub answer_code : {A : Type 0} → Result A Alarm → ℕ
answer_code (Ok x) = 0
answer_code (Err a) = code_of a
