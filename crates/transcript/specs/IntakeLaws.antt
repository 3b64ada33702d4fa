-- An intake that could have come from a beginning stays such a one, and tells no more text than is kept; what an intake comes to in each phase, and that one in any other phase takes nothing in, one that is over among them. Assumes nothing.
use Rattle.std.specs.Prelude.{◌≡◌, refl, true, false, ◌&&◌, ◌||◌, List, [], ◌∷◌, ℕ, ◌≤◌, eqb, leb, ltb, set}
use Rattle.std.proofs.Common.{arith}
use borrow.Author.Tests.{leb-true, le-leb, ltb-true}
use Rattle.values.specs.Choice.{either, either-cond, both, and-true}
use Rattle.values.specs.PutAt.{put_at}
use Rattle.text.specs.Byte.{LF, CR, SPACE, is_digit}
use Rattle.transcript.specs.declared.set_text.Place.{Place}
use Rattle.transcript.specs.declared.beat_line.HalfLine.{HalfLine}
use Rattle.transcript.specs.declared.intake.Intake.{Intake}
use Rattle.transcript.specs.declared.intake.Phase.{Phase}
use Rattle.transcript.specs.declared.intake.Phase.TheVariants.{Text, Beats, Over}
use Rattle.transcript.specs.SetText.{kept_size, is_alone, star_ends, place_on, place_end, last_size}
use Rattle.transcript.specs.BeatLine.{is_hex}
use Rattle.transcript.specs.HalfLine.{last_field, is_empty, is_endable, is_past, no_half_line, is_reading, eight_digits, with_field, closed, space_after, mode_byte, minus_byte, digit_byte, number_byte, digits_so_far, hex_byte, reading_byte, field_byte, read_byte, read_on, greatest, is_untouched, without_cr}
use Rattle.transcript.specs.declared.intake.Arrived.{Arrived}
use Rattle.transcript.specs.Intake.{size_in, with_phase, with_place, with_half_line, intake_fits, bytes_taken, bytes_kept, nothing_came, text_whole, text_line_over, text_line_kept, line_read, line_over, line_kept, input_over}

-- ---- a line's fields: a space begins the next only below the fifteenth

abbrev Narrow : HalfLine → Type 0
Narrow r = r.field ≤ last_field

pub closed-field : (r : HalfLine) → (closed r).field ≡ r.field
unfolding closed with_field
closed-field r =
    let P : HalfLine → Type 0 = λ y. y.field ≡ r.field in
    either P (is_endable r.stage)
    (λ e. either P (eqb r.field 0) (λ g. refl) λ g.
    either P (leb r.value (greatest r)) (λ h. either P (eqb r.field 1) (λ k. refl) (λ k. either P (is_reading r.field) (λ d. refl) (λ d. refl))) (λ h. refl))
    (λ e. refl)

space-narrow : (r : HalfLine) → Narrow r → Narrow (space_after r)
unfolding space_after
space-narrow r n =
    either Narrow (is_endable r.stage && ltb r.field last_field)
    (λ e. let h = ltb-true r.field last_field (both (is_endable r.stage) (ltb r.field last_field) e).1 in omega arith)
    (λ e. n)

reading-narrow : (r : HalfLine) (b : ℕ) → Narrow r → Narrow (reading_byte r b)
unfolding reading_byte hex_byte
reading-narrow r b n =
    either Narrow (is_hex b)
    (λ e. either Narrow (ltb (digits_so_far r) eight_digits) (λ g. n) (λ g. n))
    (λ e. either Narrow (eqb b 83 && is_empty r.stage) (λ g. n) (λ g. n))

field-narrow : (r : HalfLine) (b : ℕ) → Narrow r → Narrow (field_byte r b)
unfolding field_byte mode_byte number_byte minus_byte digit_byte
field-narrow r b n =
    either Narrow (eqb r.field 0) (λ e. either Narrow (is_empty r.stage) (λ g. either Narrow (eqb b 65 || eqb b 77) (λ h. n) (λ h. n)) (λ g. n)) λ e.
    either Narrow (is_reading r.field) (λ d. reading-narrow r b n) λ d.
    either Narrow (is_digit b) (λ g. n) λ g.
    either Narrow (eqb b 45) (λ h. either Narrow (is_empty r.stage && leb 2 r.field) (λ k. n) (λ k. n)) (λ h. n)

pub byte-narrow : (r : HalfLine) (b : ℕ) → r.field ≤ last_field → (read_byte r b).field ≤ last_field
unfolding read_byte
byte-narrow r b n =
    either Narrow (is_past r.stage) (λ e. n) λ e.
    either Narrow (eqb b SPACE) (λ g. space-narrow (closed r) (rw closed-field n)) λ g.
    either Narrow (eqb b CR) (λ h. either Narrow (is_endable r.stage) (λ k. n) (λ k. n)) (λ h. field-narrow r b n)

pub read-narrow : (r : HalfLine) (l : List ℕ) → r.field ≤ last_field → (read_on r l).field ≤ last_field
unfolding read_on
read-narrow r [] n = n
read-narrow r (b ∷ bs) n = read-narrow (read_byte r b) bs (byte-narrow r b n)

-- ---- one that is fit

pub record FitIntake (x : Intake) : Type 0 where
  pub size : x.place.size ≤ kept_size
  pub start : x.place.start ≤ x.place.size
  pub field : x.half.field ≤ last_field

-- each of the tests
pub intake-parts : (x : Intake) → intake_fits x ≡ true → FitIntake x
unfolding intake_fits
intake-parts x h =
    let f = leb x.half.field last_field in
    let s = leb x.place.start x.place.size in
    let p = leb x.place.size kept_size in
    let h₁ = (both p (s && f) h).1 in
    record {
      size = leb-true _ _ (both p (s && f) h).0;
      start = leb-true _ _ (both s f h₁).0;
      field = leb-true _ _ (both s f h₁).1;
    }

pub intake-whole : (x : Intake) → FitIntake x → intake_fits x ≡ true
unfolding intake_fits
intake-whole x f = and-true (le-leb _ _ f.size) (and-true (le-leb _ _ f.start) (le-leb _ _ f.field))

-- in any phase
pub phase-fit : {x : Intake} (p : Phase) → FitIntake x → FitIntake (with_phase x p)
phase-fit p f = record { size = f.size; start = f.start; field = f.field }

-- ---- it stays so

place-fit : (p : Place) (l : List ℕ) → p.size ≤ kept_size → p.start ≤ p.size → ((place_on p l).size ≤ kept_size) × ((place_on p l).start ≤ (place_on p l).size)
unfolding place_on
place-fit p l h g = (omega arith, omega arith)

pub bytes_fit : (x : Intake) (l : List ℕ) → FitIntake x → FitIntake (bytes_taken x l)
unfolding bytes_taken
bytes_fit x l f =
    let p = place-fit x.place l f.size f.start in
    elim x.phase as (λ q. FitIntake (elim q [ Text ↦ with_place x (place_on x.place l) | Beats ↦ with_half_line x (read_on x.half l) | _ ↦ x ])) [
      | Text ↦ record { size = p.0; start = p.1; field = f.field }
      | Beats ↦ record { size = f.size; start = f.start; field = read-narrow x.half l f.field }
      | _ ↦ f
    ]

abbrev ArrivedFit : Arrived → Type 0
ArrivedFit a = FitIntake a.intake × (size_in a.arrival ≤ kept_size)

-- no byte of the next line is read
new_line : {x : Intake} (p : Phase) → FitIntake x → FitIntake (record { phase = p; place = x.place; half = no_half_line })
new_line p f = record { size = f.size; start = f.start; field = omega arith }

text-line-fit : (x : Intake) → FitIntake x → ArrivedFit (text_line_over x)
unfolding text_line_over place_end
text-line-fit x f =
    let s = f.start in
    let n = f.size in
    either ArrivedFit (star_ends x.place.star) (λ e. (new_line Beats f, omega arith))
    (λ e. (record { size = omega arith; start = omega arith; field = f.field }, omega arith))

-- nor is the text that is told longer than what is kept
pub line-fit : (x : Intake) → FitIntake x → FitIntake (line_over x).intake × (size_in (line_over x).arrival ≤ kept_size)
unfolding line_over
line-fit x f =
    elim x.phase as (λ q. ArrivedFit (elim q [ Text ↦ text_line_over x | Beats ↦ line_read x (without_cr x.half) | _ ↦ nothing_came x ])) [
      | Text ↦ text-line-fit x f
      | Beats ↦ (new_line x.phase f, omega arith)
      | _ ↦ (f, omega arith)
    ]

last_within : (x : Intake) → FitIntake x → last_size x.place ≤ kept_size
last_within x f =
    let s = f.start in
    let n = f.size in
    either-cond (λ (y : ℕ). y ≤ kept_size) (is_alone x.place.star) x.place.start x.place.size (omega arith) n

pub input_fit : (x : Intake) → FitIntake x → FitIntake (input_over x).intake × (size_in (input_over x).arrival ≤ kept_size)
unfolding input_over
input_fit x f =
    let untouched : Arrived = elim (is_untouched x.half) [ true ↦ nothing_came x | false ↦ line_read x x.half ] in
    elim x.phase as (λ q. ArrivedFit (elim q [ Text ↦ text_whole x (last_size x.place) | Beats ↦ untouched | _ ↦ nothing_came x ])) [
      | Text ↦ (new_line Beats f, last_within x f)
      | Beats ↦ either ArrivedFit (is_untouched x.half) (λ u. (f, omega arith)) (λ u. (new_line x.phase f, omega arith))
      | _ ↦ (f, omega arith)
    ]

-- ---- by the phase

-- where it is not set text, and where it is neither
no_text : {A : Type 0} (a b : A) (p : Phase) → (p ≡ Text → ⊥) → elim p [ Text ↦ a | _ ↦ b ] ≡ b
no_text a b Text h = absurd (h refl)
no_text a b _ h = refl

neither : {A : Type 0} (a b c : A) (p : Phase) → (p ≡ Text → ⊥) → (p ≡ Beats → ⊥) → elim p [ Text ↦ a | Beats ↦ b | _ ↦ c ] ≡ c
neither a b c Text h g = absurd (h refl)
neither a b c Beats h g = absurd (g refl)
neither a b c _ h g = refl

module _ (x : Intake) where
  module _ (h : x.phase ≡ Text) where
    pub text-bytes : (l : List ℕ) → bytes_taken x l ≡ with_place x (place_on x.place l)
    unfolding bytes_taken
    text-bytes l = simp (bytes_taken, h)

    pub text-bytes-kept : (t l : List ℕ) → bytes_kept x t l ≡ put_at t x.place.size l
    unfolding bytes_kept
    text-bytes-kept t l = simp (bytes_kept, h)

    pub text-line : line_over x ≡ text_line_over x
    unfolding line_over
    text-line = simp (line_over, h)

    pub text-line-kept : (t : List ℕ) → line_kept x t ≡ text_line_kept x t
    unfolding line_kept
    text-line-kept t = simp (line_kept, h)

    pub text-input : input_over x ≡ text_whole x (last_size x.place)
    unfolding input_over
    text-input = simp (input_over, h)

  module _ (h : x.phase ≡ Beats) where
    pub beats-bytes : (l : List ℕ) → bytes_taken x l ≡ with_half_line x (read_on x.half l)
    unfolding bytes_taken
    beats-bytes l = simp (bytes_taken, h)

    pub beats-bytes-kept : (t l : List ℕ) → bytes_kept x t l ≡ t
    unfolding bytes_kept
    beats-bytes-kept t l = simp (bytes_kept, h)

    pub beats-line : line_over x ≡ line_read x (without_cr x.half)
    unfolding line_over
    beats-line = simp (line_over, h)

    pub beats-new : is_untouched x.half ≡ true → input_over x ≡ nothing_came x
    unfolding input_over
    beats-new u = simp (input_over, h) (simp u)

    pub beats-input : is_untouched x.half ≡ false → input_over x ≡ line_read x x.half
    unfolding input_over
    beats-input u = simp (input_over, h) (simp (u, h))

  -- in any other nothing is taken in
  module _ (h : x.phase ≡ Text → ⊥) where
    pub else-bytes-kept : (t l : List ℕ) → bytes_kept x t l ≡ t
    unfolding bytes_kept
    else-bytes-kept t l = no_text (put_at t x.place.size l) t x.phase h

    pub else-line-kept : (t : List ℕ) → line_kept x t ≡ t
    unfolding line_kept
    else-line-kept t = no_text (text_line_kept x t) t x.phase h

    module _ (g : x.phase ≡ Beats → ⊥) where
      pub else-bytes : (l : List ℕ) → bytes_taken x l ≡ x
      unfolding bytes_taken
      else-bytes l = neither (with_place x (place_on x.place l)) (with_half_line x (read_on x.half l)) x x.phase h g

      pub else-line : line_over x ≡ nothing_came x
      unfolding line_over
      else-line = neither (text_line_over x) (line_read x (without_cr x.half)) (nothing_came x) x.phase h g

      pub else-input : input_over x ≡ nothing_came x
      unfolding input_over
      else-input = neither (text_whole x (last_size x.place)) (elim (is_untouched x.half) [ true ↦ nothing_came x | false ↦ line_read x x.half ]) (nothing_came x) x.phase h g

  -- a line of set text, by whether it is *
  module _ (h : star_ends x.place.star ≡ true) where
    pub star-line : text_line_over x ≡ text_whole x x.place.start
    unfolding text_line_over
    star-line = simp (text_line_over, h)

    pub star-line-kept : (t : List ℕ) → text_line_kept x t ≡ t
    unfolding text_line_kept
    star-line-kept t = simp (text_line_kept, h)

  module _ (h : star_ends x.place.star ≡ false) where
    pub plain-line : text_line_over x ≡ nothing_came (with_place x (place_end x.place))
    unfolding text_line_over
    plain-line = simp (text_line_over, h)

    pub plain-line-kept : (t : List ℕ) → text_line_kept x t ≡ set t x.place.size LF
    unfolding text_line_kept
    plain-line-kept t = simp (text_line_kept, h)

-- ---- over

module _ (x : Intake) (o : x.phase ≡ Over) where
  pub over-bytes : (l : List ℕ) → bytes_taken x l ≡ x
  unfolding bytes_taken
  over-bytes l = simp (bytes_taken, o)

  pub over-bytes-kept : (t l : List ℕ) → bytes_kept x t l ≡ t
  unfolding bytes_kept
  over-bytes-kept t l = simp (bytes_kept, o)

  pub over-line : line_over x ≡ nothing_came x
  unfolding line_over
  over-line = simp (line_over, o)

  pub over-line-kept : (t : List ℕ) → line_kept x t ≡ t
  unfolding line_kept
  over-line-kept t = simp (line_kept, o)

  pub over-input : input_over x ≡ nothing_came x
  unfolding input_over
  over-input = simp (input_over, o)
