-- A line behind the line *: a beat line, A or M, the input word, up to eight readings, up to six positions, one space apart (document 01, "On both sides of each edge"; document 02, Req 05); or a call, PE or RS (Req 07). Definitions only.
use Rattle.std.specs.Prelude.{Bool, true, false, cond, ◌&&◌, ◌||◌, List, [], ◌∷◌, ◌++◌, ℕ, zero, suc, ◌+◌, ◌-◌, ◌*◌, eqb, leb, ℤ, pos, negsuc, length, take, drop, replicate, Option, None, Some}
use Rattle.couplers.specs.declared.reading.Reading.{Reading}
use Rattle.couplers.specs.declared.reading.Reading.TheVariants.{Break, Short}
use Rattle.couplers.specs.Conversion.{reading_of}
use Rattle.couplers.specs.Channel.{channel_count}
use Rattle.working.specs.Variables.{position_count}
use Rattle.tokens.specs.Token.{between}
use Rattle.text.specs.Byte.{bytes, SPACE, is_digit}
use Rattle.text.specs.Lines.{split}
use Rattle.text.specs.Word.{same_bytes}
use Rattle.text.specs.Number.{digits_value}
use Rattle.transcript.specs.declared.beat_line.Lent.{Lent}
use Rattle.transcript.specs.declared.beat_line.Said.{Said}
use Rattle.transcript.specs.declared.beat_line.Said.TheVariants.{Beat, ProgramEnd, ControlReset}

-- Lent is what the host lends in a beat: the mode, the input word, what the channels send, the positions; Said is what a line says: a beat, with what is lent for it, the end of the part program, or a control reset.

-- the fields of a line: a space ends one and begins the next
abbrev pub fields : List ℕ → List (List ℕ)
fields l = split SPACE l

-- A (AUTOMATIC) or M
unfoldable pub mode_of : List ℕ → Option Bool
mode_of f = elim (same_bytes f (bytes "A")) [ true ↦ Some true | false ↦ elim (same_bytes f (bytes "M")) [ true ↦ Some false | false ↦ None ] ]

-- digits only, and at least one
unfoldable pub all_digits : List ℕ → Bool
all_digits [] = true
all_digits (b ∷ bs) = is_digit b && all_digits bs

abbrev pub are_digits : List ℕ → Bool
are_digits [] = false
are_digits (b ∷ bs) = all_digits (b ∷ bs)

-- a whole number of at most `top`, in digits; leading zeros pass
unfoldable pub whole_of : ℕ → List ℕ → Option ℕ
whole_of top f = elim (are_digits f && leb (digits_value f 0) top) [ true ↦ Some (digits_value f 0) | false ↦ None ]

-- the input word
abbrev pub word_of : List ℕ → Option ℕ
word_of f = whole_of 65535 f

abbrev pub positive : Option ℕ → Option ℤ
positive (Some n) = Some (pos n)
positive None = None

abbrev pub minus : ℕ → ℤ
minus zero = pos 0
minus (suc n) = negsuc n

abbrev pub negative : Option ℕ → Option ℤ
negative (Some n) = Some (minus n)
negative None = None

-- a number with an optional minus, fitting 32 bits
unfoldable pub lent_number : List ℕ → Option ℤ
lent_number [] = None
lent_number (b ∷ bs) = elim (eqb b 45) [ true ↦ negative (whole_of 2147483648 bs) | false ↦ positive (whole_of 2147483647 (b ∷ bs)) ]

-- a digit of a number of bits, in upper case, and what it says
abbrev pub is_hex : ℕ → Bool
is_hex b = is_digit b || between 65 70 b

abbrev pub hex_digit : ℕ → ℕ
hex_digit b = cond (is_digit b) (b - 48) (b - 55)

unfoldable pub all_hex : List ℕ → Bool
all_hex [] = true
all_hex (b ∷ bs) = is_hex b && all_hex bs

-- the digits behind those that say v
unfoldable pub hex_value : List ℕ → ℕ → ℕ
hex_value [] v = v
hex_value (b ∷ bs) v = hex_value bs (v * 16 + hex_digit b)

-- the digits of a reading: neither fewer nor more
abbrev pub hex_count : ℕ
hex_count = 8

-- a reading: B (a wire break), S (a short circuit), or the bits of a number of volts in eight digits
unfoldable pub lent_reading : List ℕ → Option Reading
lent_reading f =
    elim (same_bytes f (bytes "B")) [
      | true ↦ Some Break
      | false ↦
          elim (same_bytes f (bytes "S")) [
            | true ↦ Some Short
            | false ↦ elim (all_hex f && eqb (length f) hex_count) [ true ↦ Some (reading_of (hex_value f 0)) | false ↦ None ]
          ]
    ]

-- a reading that is left off: 00000000
abbrev pub left_off : Reading
left_off = reading_of 0

-- each of some fields, where all of them say something
abbrev pub behind_first : {A : Type 0} → Option A → Option (List A) → Option (List A)
behind_first (Some v) (Some vs) = Some (v ∷ vs)
behind_first (Some v) None = None
behind_first None vs = None

unfoldable pub each_of : {A : Type 0} → (List ℕ → Option A) → List (List ℕ) → Option (List A)
each_of said [] = Some []
each_of said (f ∷ fs) = behind_first (said f) (each_of said fs)

-- so many in all, those left off being x
abbrev pub filled : {A : Type 0} → ℕ → A → List A → List A
filled n x vs = take n (vs ++ replicate n x)

-- the first eight fields behind the input word are readings, the others positions
abbrev pub readings_of : List (List ℕ) → Option (List Reading)
readings_of fs = each_of lent_reading (take channel_count fs)

-- at most six
unfoldable pub lent_positions : List (List ℕ) → Option (List ℤ)
lent_positions fs = elim (leb (length fs) position_count) [ true ↦ each_of lent_number fs | false ↦ None ]

abbrev pub positions_of : List (List ℕ) → Option (List ℤ)
positions_of fs = lent_positions (drop channel_count fs)

abbrev pub lending : Bool → ℕ → List Reading → List ℤ → Lent
lending a w rs ps = record { automatic = a; word = w; sent = filled channel_count left_off rs; positions = filled position_count (pos 0) ps }

abbrev pub lent_of : Option Bool → Option ℕ → Option (List Reading) → Option (List ℤ) → Option Lent
lent_of (Some a) (Some w) (Some rs) (Some ps) = Some (lending a w rs ps)
lent_of (Some a) (Some w) (Some rs) None = None
lent_of (Some a) (Some w) None ps = None
lent_of (Some a) None rs ps = None
lent_of None w rs ps = None

-- what a line lends; none if it is ill-formed
unfoldable pub fields_lent : List (List ℕ) → Option Lent
fields_lent [] = None
fields_lent (m ∷ []) = None
fields_lent (m ∷ w ∷ fs) = lent_of (mode_of m) (word_of w) (readings_of fs) (positions_of fs)

unfoldable pub line_lent : List ℕ → Option Lent
line_lent l = fields_lent (fields l)

-- ---- what a line says

-- a beat, if something is lent for it
abbrev pub says_beat : Option Lent → Option Said
says_beat (Some l) = Some (Beat l)
says_beat None = None

-- PE or RS, and nothing else in the line; or a beat; none if it is ill-formed
unfoldable pub line_said : List ℕ → Option Said
line_said l =
    elim (same_bytes l (bytes "PE")) [
      | true ↦ Some ProgramEnd
      | false ↦ elim (same_bytes l (bytes "RS")) [ true ↦ Some ControlReset | false ↦ says_beat (line_lent l) ]
    ]
