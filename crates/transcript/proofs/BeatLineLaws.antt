-- A line read byte by byte: the next byte, what a digit is, the value of a field in the code; and digits read at once, which come to the same.
use mathlib.Core.Path.{◌≡◌, refl, sym, ap, ◌∙◌}
use mathlib.Core.Bool.{true, false, ◌||◌}
use mathlib.Core.List.{List}
use Prim.Native.Nat.{ℕ, ◌+◌, ◌-◌, ◌*◌, ◌≤◌, ◌<◌, min}
use native.Mathlib.Omega.{arith}
use native.Mathlib.Numerals.{add-one}
use lib.Dec.{eqb, leb}
use lib.ListN.{length, get_or, drop}
use lib.Seq.{drop-cons}
use borrow.Author.Tests.{ne_eqb, lt-ltb, leb-true}
use Rattle.tokens.specs.BetweenLaws.{inside, lies-inside}
use Rattle.values.specs.Choice.{decide, either, both}
use Rattle.text.specs.Byte.{is_digit}
use Rattle.transcript.specs.declared.beat_line.HalfLine.{HalfLine}
use Rattle.transcript.specs.declared.beat_line.Stage.{Stage}
use Rattle.transcript.specs.BeatLine.{is_hex, hex_digit}
use Rattle.transcript.specs.HalfLine.{is_empty, is_past, highest, is_reading, break_value, eight_digits, digit_byte, number_byte, reading_stage, with_reading, digits_so_far, hex_byte, reading_byte, field_byte, read_byte, read_on, with_value, IsNumber, InReading}

-- ---- the bytes from place i on

module _ (t : List ℕ) (r : HalfLine) (i : ℕ) where
  pub read_next : i < length t → {x : HalfLine} → x ≡ read_byte r (get_or t i 0) → read_on x (drop (i + 1) t) ≡ read_on r (drop i t)
  unfolding read_on
  read_next h e = rw (e, drop-cons t i 0 h, add-one i)

-- ---- digits read at once

-- a byte that is not 0 stands within
pub stands : (t : List ℕ) (i : ℕ) {b : ℕ} → get_or t i 0 ≡ b → 0 < b → i < length t
stands t i e h = lies-inside t i (sym e) (λ f. omega arith)

pub digit-stands : (t : List ℕ) (i : ℕ) → is_digit (get_or t i 0) ≡ true → i < length t
digit-stands t i d = let w = inside 48 57 (get_or t i 0) d in stands t i refl (omega arith)

-- a digit of the input word or a position
module _ (r : HalfLine) (n : IsNumber r) where
  digit-is : (b : ℕ) → is_digit b ≡ true → with_value r (min highest (r.value * 10 + (b - 48))) ≡ read_byte r b
  unfolding read_byte field_byte number_byte digit_byte
  digit-is b d =
      let w = inside 48 57 b d in
      let h = n.behind_mode in
      let g = n.goes_on in
      simp (read_byte, field_byte, number_byte, digit_byte, n.goes_on, ne_eqb b 32 (λ e. omega arith), ne_eqb b 13 (λ e. omega arith), ne_eqb r.field 0 (λ e. omega arith), n.kind, d)

  -- one at place i
  pub digit-read : (t : List ℕ) (i : ℕ) → is_digit (get_or t i 0) ≡ true → {v : ℕ} → v ≡ min highest (r.value * 10 + (get_or t i 0 - 48)) → read_on (with_value r v) (drop (i + 1) t) ≡ read_on r (drop i t)
  digit-read t i d e = read_next t r i (digit-stands t i d) (ap (with_value r) e ∙ digit-is (get_or t i 0) d)

  pub number-on : (v : ℕ) → IsNumber (with_value r v)
  number-on v = record { behind_mode = n.behind_mode; kind = n.kind; goes_on = refl }

-- a digit of a reading
pub hex-range : (b : ℕ) → is_hex b ≡ true → (48 ≤ b) × (b ≤ 70)
hex-range b h =
    decide ((48 ≤ b) × (b ≤ 70)) (is_digit b)
    (λ e. let w = inside 48 57 b e in (w.0, omega arith))
    (λ e. let w = inside 65 70 b (rw e at h) in (omega arith, w.1))

pub hex-stands : (t : List ℕ) (i : ℕ) → is_hex (get_or t i 0) ≡ true → i < length t
hex-stands t i d = let w = hex-range (get_or t i 0) d in stands t i refl (omega arith)

-- a digit that is read brings a reading on
pub stage-some : (v : ℕ) → (is_empty (reading_stage v) ≡ false) × (is_past (reading_stage v) ≡ false)
unfolding reading_stage
stage-some v = either (λ (y : Stage). (is_empty y ≡ false) × (is_past y ≡ false)) (eqb v break_value || leb eight_digits v) (λ e. (refl, refl)) (λ e. (refl, refl))

pub so_far : (r : HalfLine) (v : ℕ) → digits_so_far (with_reading r v) ≡ v
unfolding digits_so_far
so_far r v = let s = (stage-some v).0 in simp (digits_so_far, s)

module _ (r : HalfLine) (n : InReading r) where
  behind-word : 2 ≤ r.field
  unfolding is_reading
  behind-word = leb-true 2 r.field (both _ _ n.kind).0

  hex-is : (b : ℕ) → is_hex b ≡ true → digits_so_far r < eight_digits → with_reading r (digits_so_far r * 16 + hex_digit b) ≡ read_byte r b
  unfolding read_byte field_byte reading_byte hex_byte
  hex-is b d l =
      let w = hex-range b d in
      let h = behind-word in
      let g = n.goes_on in
      simp (read_byte, field_byte, reading_byte, hex_byte, n.goes_on, ne_eqb b 32 (λ e. omega arith), ne_eqb b 13 (λ e. omega arith), ne_eqb r.field 0 (λ e. omega arith), n.kind, d, lt-ltb (digits_so_far r) eight_digits l)

  -- one at place i
  pub hex-read : (t : List ℕ) (i : ℕ) → is_hex (get_or t i 0) ≡ true → {u : ℕ} → digits_so_far r ≡ u → u < eight_digits → {d : ℕ} → d ≡ hex_digit (get_or t i 0) → read_on (with_reading r (u * 16 + d)) (drop (i + 1) t) ≡ read_on r (drop i t)
  hex-read t i h e l f = rw (← e, f) (read_next t r i (hex-stands t i h) (hex-is (get_or t i 0) h (rw (← e) at l)))

  pub reading-on : (v : ℕ) → InReading (with_reading r v)
  reading-on v = record { kind = n.kind; goes_on = (stage-some v).1 }
