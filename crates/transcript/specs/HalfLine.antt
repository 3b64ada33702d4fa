-- A line behind the line * read byte by byte, as the code does; that this comes to what BeatLine says is shown in the crate `sessions`. Behind that the words for digits that the code reads at once. Definitions only.
use Rattle.std.specs.Prelude.{◌≡◌, Bool, true, false, cond, ◌&&◌, ◌||◌, List, [], ◌∷◌, ℕ, ◌+◌, ◌-◌, ◌*◌, ◌%◌, ◌≤◌, min, eqb, leb, ltb, ℤ, pos, set, replicate, Option, None, Some}
use Rattle.couplers.specs.declared.reading.Reading.{Reading}
use Rattle.couplers.specs.declared.reading.Reading.TheVariants.{Break, Short}
use Rattle.couplers.specs.Conversion.{reading_of}
use Rattle.couplers.specs.Channel.{channel_count}
use Rattle.working.specs.Variables.{position_count}
use Rattle.text.specs.Byte.{CR, SPACE, is_digit}
use Rattle.transcript.specs.declared.beat_line.HalfLine.{HalfLine}
use Rattle.transcript.specs.declared.beat_line.Lent.{Lent}
use Rattle.transcript.specs.declared.beat_line.Said.{Said}
use Rattle.transcript.specs.declared.beat_line.Said.TheVariants.{ProgramEnd, ControlReset}
use Rattle.transcript.specs.declared.beat_line.Stage.{Stage}
use Rattle.transcript.specs.declared.beat_line.Stage.TheVariants.{Empty, Open, Endable, Ill, Return, PRead, PeRead, PeReturn, RRead, RsRead, RsReturn}
use Rattle.transcript.specs.BeatLine.{minus, is_hex, hex_digit, left_off, says_beat}

-- fields are counted from 0: the mode, the input word, the readings, the positions
abbrev pub first_position : ℕ
first_position = channel_count + 2

abbrev pub last_field : ℕ
last_field = first_position + position_count - 1

unfoldable pub is_reading : ℕ → Bool
is_reading field = leb 2 field && ltb field first_position

-- nothing of the field is read
abbrev pub is_empty : Stage → Bool
is_empty Empty = true
is_empty _ = false

-- the field may end there
abbrev pub is_endable : Stage → Bool
is_endable Endable = true
is_endable _ = false

-- no field is under way any more: the line is ill-formed or a call, or a CR stands behind it
abbrev pub is_past : Stage → Bool
is_past Empty = false
is_past Open = false
is_past Endable = false
is_past _ = true

-- before its first byte
abbrev pub no_half_line : HalfLine
no_half_line = record { field = 0; stage = Empty; automatic = false; word = 0; negative = false; value = 0; sent = replicate channel_count left_off; positions = replicate position_count (pos 0) }

abbrev pub with_stage : HalfLine → Stage → HalfLine
with_stage r s = record { field = r.field; stage = s; automatic = r.automatic; word = r.word; negative = r.negative; value = r.value; sent = r.sent; positions = r.positions }

abbrev pub ill_formed : HalfLine → HalfLine
ill_formed r = with_stage r Ill

-- more digits than any field may have; a value is never beyond it
abbrev pub highest : ℕ
highest = 10000000000

-- the digits of a reading stand behind a 1, so that zeros before the others count: the value of B, the first of eight digits, and one beyond these, for S
abbrev pub break_value : ℕ
break_value = 27

abbrev pub eight_digits : ℕ
eight_digits = 4294967296

abbrev pub short_value : ℕ
short_value = 8589934592

-- the reading that a value says
unfoldable pub reading_by : ℕ → Reading
reading_by v = cond (eqb v break_value) Break (cond (leb short_value v) Short (reading_of (v % eight_digits)))

-- the greatest value of the field under way
unfoldable pub greatest : HalfLine → ℕ
greatest r = elim (eqb r.field 1) [ true ↦ 65535 | false ↦ elim (is_reading r.field) [ true ↦ short_value | false ↦ elim r.negative [ true ↦ 2147483648 | false ↦ 2147483647 ] ] ]

-- the number of the field under way
abbrev pub signed : Bool → ℕ → ℤ
signed true n = minus n
signed false n = pos n

-- what a line holds behind a field that is over: this input word, these readings, these positions
abbrev pub with_held : HalfLine → ℕ → List Reading → List ℤ → HalfLine
with_held r w rs ps = record { field = r.field; stage = r.stage; automatic = r.automatic; word = w; negative = false; value = 0; sent = rs; positions = ps }

-- the line with the value of the field under way
unfoldable pub with_field : HalfLine → HalfLine
with_field r =
    elim (leb r.value (greatest r)) [
      | true ↦
          elim (eqb r.field 1) [
            | true ↦ with_held r r.value r.sent r.positions
            | false ↦
                elim (is_reading r.field) [
                  | true ↦ with_held r r.word (set r.sent (r.field - 2) (reading_by r.value)) r.positions
                  | false ↦ with_held r r.word r.sent (set r.positions (r.field - first_position) (signed r.negative r.value))
                ]
          ]
      | false ↦ ill_formed r
    ]

-- the field under way is over, if it may end there
unfoldable pub closed : HalfLine → HalfLine
closed r =
    elim (is_endable r.stage) [
      | true ↦ elim (eqb r.field 0) [ true ↦ r | false ↦ with_field r ]
      | false ↦ ill_formed r
    ]

-- a space behind it: the next field begins, if there may be one
unfoldable pub space_after : HalfLine → HalfLine
space_after r =
    elim (is_endable r.stage && ltb r.field last_field) [
      | true ↦ record { field = r.field + 1; stage = Empty; automatic = r.automatic; word = r.word; negative = r.negative; value = r.value; sent = r.sent; positions = r.positions }
      | false ↦ ill_formed r
    ]

-- the stage behind the first byte of a line that is no mode: that of PE or of RS
unfoldable pub letter_stage : ℕ → Stage
letter_stage b = cond (eqb b 80) PRead (cond (eqb b 82) RRead Ill)

-- this stage, if the byte is the one that may stand there
abbrev pub followed : ℕ → ℕ → Stage → Stage
followed b wanted next = cond (eqb b wanted) next Ill

-- the stage behind the next byte of PE, of RS, of an ill-formed line
unfoldable pub call_stage : Stage → ℕ → Stage
call_stage PRead b = followed b 69 PeRead
call_stage RRead b = followed b 83 RsRead
call_stage PeRead b = followed b CR PeReturn
call_stage RsRead b = followed b CR RsReturn
call_stage _ b = Ill

-- the first byte of a line: the mode's letter, or that of a call
unfoldable pub mode_byte : HalfLine → ℕ → HalfLine
mode_byte r b =
    elim (is_empty r.stage) [
      | true ↦
          elim (eqb b 65 || eqb b 77) [
            | true ↦ record { field = r.field; stage = Endable; automatic = eqb b 65; word = r.word; negative = r.negative; value = r.value; sent = r.sent; positions = r.positions }
            | false ↦ with_stage r (letter_stage b)
          ]
      | false ↦ ill_formed r
    ]

-- a minus before the digits of a position, not of the input word
unfoldable pub minus_byte : HalfLine → HalfLine
minus_byte r =
    elim (is_empty r.stage && leb 2 r.field) [
      | true ↦ record { field = r.field; stage = Open; automatic = r.automatic; word = r.word; negative = true; value = r.value; sent = r.sent; positions = r.positions }
      | false ↦ ill_formed r
    ]

unfoldable pub digit_byte : HalfLine → ℕ → HalfLine
digit_byte r b = record { field = r.field; stage = Endable; automatic = r.automatic; word = r.word; negative = r.negative; value = min highest (r.value * 10 + (b - 48)); sent = r.sent; positions = r.positions }

-- a byte of the input word or a position
unfoldable pub number_byte : HalfLine → ℕ → HalfLine
number_byte r b = elim (is_digit b) [ true ↦ digit_byte r b | false ↦ elim (eqb b 45) [ true ↦ minus_byte r | false ↦ ill_formed r ] ]

-- a reading that says v may end there: B, or eight digits
unfoldable pub reading_stage : ℕ → Stage
reading_stage v = elim (eqb v break_value || leb eight_digits v) [ true ↦ Endable | false ↦ Open ]

abbrev pub with_reading : HalfLine → ℕ → HalfLine
with_reading r v = record { field = r.field; stage = reading_stage v; automatic = r.automatic; word = r.word; negative = r.negative; value = v; sent = r.sent; positions = r.positions }

-- the digits so far, behind a 1
unfoldable pub digits_so_far : HalfLine → ℕ
digits_so_far r = elim (is_empty r.stage) [ true ↦ 1 | false ↦ r.value ]

-- a digit of a reading, if it has not eight
unfoldable pub hex_byte : HalfLine → ℕ → HalfLine
hex_byte r b = elim (ltb (digits_so_far r) eight_digits) [ true ↦ with_reading r (digits_so_far r * 16 + hex_digit b) | false ↦ ill_formed r ]

-- a byte of a reading
unfoldable pub reading_byte : HalfLine → ℕ → HalfLine
reading_byte r b =
    elim (is_hex b) [
      | true ↦ hex_byte r b
      | false ↦ elim (eqb b 83 && is_empty r.stage) [ true ↦ with_reading r short_value | false ↦ ill_formed r ]
    ]

-- a byte of a field, by what it is
unfoldable pub field_byte : HalfLine → ℕ → HalfLine
field_byte r b = elim (eqb r.field 0) [ true ↦ mode_byte r b | false ↦ elim (is_reading r.field) [ true ↦ reading_byte r b | false ↦ number_byte r b ] ]

-- the next byte of the line
unfoldable pub read_byte : HalfLine → ℕ → HalfLine
read_byte r b =
    elim (is_past r.stage) [
      | true ↦ with_stage r (call_stage r.stage b)
      | false ↦
          elim (eqb b SPACE) [
            | true ↦ space_after (closed r)
            | false ↦ elim (eqb b CR) [ true ↦ elim (is_endable r.stage) [ true ↦ with_stage r Return | false ↦ ill_formed r ] | false ↦ field_byte r b ]
          ]
    ]

-- bytes of the line, none of them an LF
unfoldable pub read_on : HalfLine → List ℕ → HalfLine
read_on r [] = r
read_on r (b ∷ bs) = read_on (read_byte r b) bs

-- no byte was read
unfoldable pub is_untouched : HalfLine → Bool
is_untouched r = eqb r.field 0 && is_empty r.stage

-- at the line's LF a CR before it is dropped
unfoldable pub without_cr : HalfLine → HalfLine
without_cr r =
    elim r.stage [
      | Return ↦ with_stage r Endable
      | PeReturn ↦ with_stage r PeRead
      | RsReturn ↦ with_stage r RsRead
      | _ ↦ r
    ]

-- what a beat line that ends there lends: it has a mode and an input word
unfoldable pub read_lent : HalfLine → Option Lent
read_lent r =
    elim (is_endable (closed r).stage && leb 1 r.field) [
      | true ↦ Some (record { automatic = (closed r).automatic; word = (closed r).word; sent = (closed r).sent; positions = (closed r).positions })
      | false ↦ None
    ]

-- what it says
unfoldable pub read_said : HalfLine → Option Said
read_said r = elim r.stage [ PeRead ↦ Some ProgramEnd | RsRead ↦ Some ControlReset | _ ↦ says_beat (read_lent r) ]

-- ---- digits read at once

-- a line with digits of its field
abbrev pub with_value : HalfLine → ℕ → HalfLine
with_value r v = record { field = r.field; stage = Endable; automatic = r.automatic; word = r.word; negative = r.negative; value = v; sent = r.sent; positions = r.positions }

-- the input word or a position is under way
pub record IsNumber (r : HalfLine) : Type 0 where
  pub behind_mode : 1 ≤ r.field
  pub kind : is_reading r.field ≡ false
  pub goes_on : is_past r.stage ≡ false

-- a reading is
pub record InReading (r : HalfLine) : Type 0 where
  pub kind : is_reading r.field ≡ true
  pub goes_on : is_past r.stage ≡ false
