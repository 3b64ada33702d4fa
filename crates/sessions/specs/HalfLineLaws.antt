-- A line read byte by byte lends what it says by its fields. Assumes nothing.
use Rattle.std.specs.Prelude.{◌≡◌, Bool, ◌&&◌, ◌||◌, ltb, ℤ, pos, take, drop, set, replicate, Option, None, Some}
use Rattle.std.proofs.Math.Path.{refl, sym, ap}
use Rattle.std.proofs.Common.{◌∙◌, le_refl, length-append, take_all}
use Rattle.std.proofs.Math.Bool.{true, false, and-false}
use mathlib.Core.List.{List, [], ◌∷◌, ◌++◌, append-nil}
use Prim.Native.Nat.{ℕ, zero, suc, ◌+◌, ◌*◌, ◌-◌, ◌%◌, min, ◌≤◌, ◌<◌}
use native.Mathlib.Omega.{arith}
use Rattle.std.proofs.Math.Dec.{eqb, leb}
use Rattle.std.proofs.Math.ListN.{length, length-drop, drop_of_length-le}
use Rattle.std.proofs.lemmas.List.{set_at}
use Rattle.std.proofs.Math.Seq.{append_snoc}
use borrow.Author.Tests.{leb-true, leb-false, le-leb, lt-leb, ltb-true, ltb-false, lt-ltb, le-ltb, eqb-true, eqb-false, ne_eqb}
use Rattle.values.specs.Choice.{decide, either, either_both, either-cond, both, and-true, contrary}
use Rattle.values.specs.Numbers.{clash}
use Rattle.text.specs.Byte.{CR, SPACE, is_digit}
use Rattle.text.specs.Number.{digits_value}
use Rattle.text.specs.Lines.{before as start_of, split}
use Rattle.text.specs.LinesLaws.{split-some}
use Rattle.couplers.specs.Conversion.{reading_of}
use Rattle.transcript.specs.declared.beat_line.HalfLine.{HalfLine}
use Rattle.couplers.specs.declared.reading.Reading.{Reading}
use Rattle.transcript.specs.declared.beat_line.Stage.{Stage}
use Rattle.transcript.specs.declared.beat_line.Stage.TheVariants.{Empty, Open, Endable, Ill, Return, PRead, PeRead, PeReturn, RRead, RsRead, RsReturn}
use Rattle.transcript.specs.declared.beat_line.Lent.{Lent}
use Rattle.transcript.specs.BeatLine.{fields, mode_of, all_digits, are_digits, whole_of, word_of, positive, negative, lent_number, is_hex, hex_digit, all_hex, hex_value, lent_reading, left_off, behind_first, each_of, filled, readings_of, lent_positions, positions_of, lent_of, fields_lent, line_lent}
use Rattle.transcript.specs.IntakeLaws.{closed-field}
use Rattle.transcript.specs.HalfLine.{no_half_line, is_empty, is_endable, is_past, ill_formed, with_stage, highest, is_reading, reading_by, greatest, signed, with_field, closed, space_after, letter_stage, followed, call_stage, mode_byte, minus_byte, digit_byte, number_byte, reading_stage, digits_so_far, hex_byte, reading_byte, field_byte, read_byte, read_on, read_lent}

-- ---- stages

-- what may end is that
pub endable-is : (s : Stage) → is_endable s ≡ true → s ≡ Endable
endable-is Endable h = refl
endable-is _ h = clash (cc)

-- where no field is under way none may end, and something was read
pub past-ends : {s : Stage} → is_past s ≡ true → s ≡ Endable → ⊥
past-ends h e = let q = rw e at h in cc

pub past-read : (s : Stage) → is_past s ≡ true → is_empty s ≡ false
past-read Empty h = clash (cc)
past-read _ h = refl

-- once ill-formed or a call, no beat line
abbrev pub Past : HalfLine → Type 0
Past r = is_past r.stage ≡ true

-- ---- the bytes of one field

-- a byte of the field under way, a space too
unfoldable in_field : HalfLine → ℕ → HalfLine
in_field r b =
    elim (is_past r.stage) [
      | true ↦ with_stage r (call_stage r.stage b)
      | false ↦ elim (eqb b CR) [ true ↦ elim (is_endable r.stage) [ true ↦ with_stage r Return | false ↦ ill_formed r ] | false ↦ field_byte r b ]
    ]

unfoldable field_on : HalfLine → List ℕ → HalfLine
field_on r [] = r
field_on r (b ∷ bs) = field_on (in_field r b) bs

pub call-high : (s : Stage) (b : ℕ) → is_past (call_stage s b) ≡ true
unfolding call_stage
call-high s b = go s
  where
    on : (wanted : ℕ) (next : Stage) → is_past next ≡ true → is_past (followed b wanted next) ≡ true
    on w n h = either-cond (λ (y : Stage). is_past y ≡ true) (eqb b w) n Ill h refl

    go : (t : Stage) → is_past (call_stage t b) ≡ true
    go PRead = on 69 PeRead refl
    go RRead = on 83 RsRead refl
    go PeRead = on CR PeReturn refl
    go RsRead = on CR RsReturn refl
    go _ = refl

pub letter-high : (b : ℕ) → is_past (letter_stage b) ≡ true
unfolding letter_stage
letter-high b = let P : Stage → Type 0 = λ y. is_past y ≡ true in either-cond P (eqb b 80) PRead _ refl (either-cond P (eqb b 82) RRead Ill refl refl)

bad-byte : (r : HalfLine) (b : ℕ) → Past r → Past (in_field r b)
unfolding in_field
bad-byte r b h = either Past (is_past r.stage) (λ e. call-high r.stage b) (λ e. contrary h e)

bad-on : (r : HalfLine) (f : List ℕ) → Past r → Past (field_on r f)
unfolding field_on
bad-on r [] h = h
bad-on r (b ∷ bs) h = bad-on (in_field r b) bs (bad-byte r b h)

-- ---- digits

abbrev half : ℕ → Stage → Bool → ℕ → Bool → ℕ → List Reading → List ℤ → HalfLine
half k st a w ng v ss ps = record { field = k; stage = st; automatic = a; word = w; negative = ng; value = v; sent = ss; positions = ps }

digit-range : (b : ℕ) → is_digit b ≡ true → 48 ≤ b
digit-range b h = leb-true 48 b (both (leb 48 b) (leb b 57) h).0

module _ (k : ℕ) (inside : 1 ≤ k) (kind : is_reading k ≡ false) (a : Bool) (w : ℕ) (ng : Bool) (ss : List Reading) (ps : List ℤ) where
  digit-step : (st : Stage) (v b : ℕ) → is_past st ≡ false → is_digit b ≡ true → in_field (half k st a w ng v ss ps) b ≡ half k Endable a w ng (min highest (v * 10 + (b - 48))) ss ps
  unfolding in_field field_byte number_byte digit_byte
  digit-step st v b s d =
      let P : HalfLine → Type 0 = λ y. y ≡ half k Endable a w ng (min highest (v * 10 + (b - 48))) ss ps in
      let low = digit-range b d in
      either P (is_past st) (λ e. contrary e s) λ e.
      either P (eqb b CR) (λ g. absurd (omega (arith, eqb-true b CR g))) λ g.
      either P (eqb k 0) (λ z. absurd (omega (arith, eqb-true k 0 z))) λ z.
      either P (is_reading k) (λ z. contrary z kind) λ z.
      either P (is_digit b) (λ y. refl) (λ y. clash (cc))

  -- any other byte, but a minus that may stand there
  other_step : (st : Stage) (v b : ℕ) → is_digit b ≡ false → (eqb b 45 ≡ true → (is_empty st && leb 2 k) ≡ false) → Past (in_field (half k st a w ng v ss ps) b)
  unfolding in_field field_byte number_byte minus_byte
  other_step st v b d m =
      let P = Past in
      either P (is_past st) (λ e. call-high st b) λ e.
      either P (eqb b CR) (λ g. either P (is_endable st) (λ u. refl) (λ u. refl)) λ g.
      either P (eqb k 0) (λ z. absurd (omega (arith, eqb-true k 0 z))) λ z.
      either P (is_reading k) (λ z. contrary z kind) λ z.
      either P (is_digit b) (λ y. clash (cc)) λ y.
      either P (eqb b 45) (λ n. let q = m n in either P (is_empty st && leb 2 k) (λ u. clash (cc)) (λ u. refl)) (λ n. refl)

  capped : (x d : ℕ) → min highest (min highest x * 10 + d) ≡ min highest (x * 10 + d)
  capped x d = omega arith

  digits-on : (f : List ℕ) (x : ℕ) → all_digits f ≡ true → field_on (half k Endable a w ng (min highest x) ss ps) f ≡ half k Endable a w ng (min highest (digits_value f x)) ss ps
  unfolding field_on all_digits
  digits-on [] x h = refl
  digits-on (b ∷ bs) x h =
      let d = (both (is_digit b) (all_digits bs) h).0 in
      let t = (both (is_digit b) (all_digits bs) h).1 in
      rw (digit-step Endable (min highest x) b refl d, capped x (b - 48)) (digits-on bs (x * 10 + (b - 48)) t)

  digits-bad : (f : List ℕ) (v : ℕ) → all_digits f ≡ false → Past (field_on (half k Endable a w ng v ss ps) f)
  unfolding field_on all_digits
  digits-bad [] v h = clash (cc)
  digits-bad (b ∷ bs) v h =
      decide (Past (field_on (in_field (half k Endable a w ng v ss ps) b) bs)) (is_digit b)
      (λ e. rw (digit-step Endable v b refl e) (digits-bad bs (min highest (v * 10 + (b - 48))) (rw e at h)))
      (λ e. bad-on (in_field (half k Endable a w ng v ss ps) b) bs (other_step Endable v b e (λ m. refl)))

  -- digits alone, from nothing of the field or its minus
  whole-on : (st : Stage) (b : ℕ) (bs : List ℕ) → is_past st ≡ false → all_digits (b ∷ bs) ≡ true → field_on (half k st a w ng 0 ss ps) (b ∷ bs) ≡ half k Endable a w ng (min highest (digits_value (b ∷ bs) 0)) ss ps
  unfolding field_on all_digits
  whole-on st b bs s h =
      rw (digit-step st 0 b s (both (is_digit b) (all_digits bs) h).0) (digits-on bs (0 * 10 + (b - 48)) (both (is_digit b) (all_digits bs) h).1)

  whole-bad : (st : Stage) (b : ℕ) (bs : List ℕ) → is_past st ≡ false → all_digits (b ∷ bs) ≡ false → (eqb b 45 ≡ true → (is_empty st && leb 2 k) ≡ false) → Past (field_on (half k st a w ng 0 ss ps) (b ∷ bs))
  unfolding field_on all_digits
  whole-bad st b bs s h m =
      decide (Past (field_on (in_field (half k st a w ng 0 ss ps) b) bs)) (is_digit b)
      (λ e. rw (digit-step st 0 b s e) (digits-bad bs (min highest (0 * 10 + (b - 48))) (rw e at h)))
      (λ e. bad-on (in_field (half k st a w ng 0 ss ps) b) bs (other_step st 0 b e m))

-- ---- a number, as a field and as it is read

whole-some : (top : ℕ) (f : List ℕ) → are_digits f ≡ true → digits_value f 0 ≤ top → whole_of top f ≡ Some (digits_value f 0)
unfolding whole_of
whole-some top f h l =
    let P : Option ℕ → Type 0 = λ y. y ≡ Some (digits_value f 0) in
    either P (are_digits f && leb (digits_value f 0) top) (λ e. refl) (λ e. let g = and-true h (le-leb (digits_value f 0) top l) in clash (cc))

whole-great : (top : ℕ) (f : List ℕ) → top < digits_value f 0 → whole_of top f ≡ None
unfolding whole_of
whole-great top f l =
    let P : Option ℕ → Type 0 = λ y. y ≡ None in
    either P (are_digits f && leb (digits_value f 0) top) (λ e. absurd (omega (arith, leb-true (digits_value f 0) top (both (are_digits f) _ e).1))) (λ e. refl)

whole-none : (top : ℕ) (f : List ℕ) → are_digits f ≡ false → whole_of top f ≡ None
unfolding whole_of
whole-none top f h =
    let P : Option ℕ → Type 0 = λ y. y ≡ None in
    either P (are_digits f && leb (digits_value f 0) top) (λ e. let g = (both (are_digits f) _ e).0 in clash (cc)) (λ e. refl)

-- what closing the field comes to: this, or the line is ill-formed
abbrev Closes : HalfLine → Option HalfLine → Type 0
Closes r (Some c) = (r.stage ≡ Endable) × (closed r ≡ c)
Closes r None = (closed r).stage ≡ Ill

abbrev stored : {A : Type 0} → (A → HalfLine) → Option A → Option HalfLine
stored s (Some x) = Some (s x)
stored s None = None

pub bad-closes : (r : HalfLine) → (r.stage ≡ Endable → ⊥) → (closed r).stage ≡ Ill
unfolding closed
bad-closes r h = either (λ (y : HalfLine). y.stage ≡ Ill) (is_endable r.stage) (λ e. absurd (h (endable-is r.stage e))) (λ e. refl)

-- the value so far is within a limit exactly if the true one is
within_cap : (v top : ℕ) → top < highest → v ≤ top → min highest v ≡ v
within_cap v top t h = omega arith

-- the input word
word-kind : is_reading 1 ≡ false
unfolding is_reading
word-kind = refl

word-closes : (a : Bool) (w v : ℕ) (ss : List Reading) (ps : List ℤ) → v ≤ 65535 → closed (half 1 Endable a w false (min highest v) ss ps) ≡ half 1 Endable a v false 0 ss ps
unfolding closed with_field greatest
word-closes a w v ss ps h =
    rw (within_cap v 65535 (omega arith) h)
    (either (λ (y : HalfLine). y ≡ half 1 Endable a v false 0 ss ps) (leb v 65535) (λ e. refl) (λ e. absurd (omega (arith, leb-false v 65535 e))))

word-great : (a : Bool) (w v : ℕ) (ss : List Reading) (ps : List ℤ) → 65535 < v → (closed (half 1 Endable a w false (min highest v) ss ps)).stage ≡ Ill
unfolding closed with_field greatest
word-great a w v ss ps h =
    either (λ (y : HalfLine). y.stage ≡ Ill) (leb (min highest v) 65535) (λ e. absurd (omega (arith, leb-true (min highest v) 65535 e))) (λ e. refl)

word-field : (a : Bool) (w : ℕ) (ss : List Reading) (ps : List ℤ) (f : List ℕ) → Closes (field_on (half 1 Empty a w false 0 ss ps) f) (stored (λ n. half 1 Endable a n false 0 ss ps) (word_of f))
unfolding field_on whole_of closed
word-field a w ss ps [] = refl
word-field a w ss ps (b ∷ bs) =
    let f = b ∷ bs in
    let r = half 1 Empty a w false 0 ss ps in
    let s : ℕ → HalfLine = λ n. half 1 Endable a n false 0 ss ps in
    let v = digits_value (b ∷ bs) 0 in
    let on = whole-on 1 (omega arith) word-kind a w false ss ps Empty b bs refl in
    decide (Closes (field_on r f) (stored s (word_of f))) (all_digits f)
    (λ d. decide (Closes (field_on r f) (stored s (word_of f))) (leb v 65535)
    (λ e. let h = leb-true v 65535 e in rw (whole-some 65535 f d h, on d) (refl, word-closes a w v ss ps h))
    (λ e. let h = leb-false v 65535 e in rw (whole-great 65535 f h, on d) (word-great a w v ss ps h)))
    (λ d. rw (whole-none 65535 f d) (bad-closes (field_on r f) (past-ends (whole-bad 1 (omega arith) word-kind a w false ss ps Empty b bs refl d (λ m. refl)))))

-- a position
abbrev top_of : Bool → ℕ
top_of true = 2147483648
top_of false = 2147483647

top-low : (ng : Bool) → top_of ng < highest
top-low true = omega arith
top-low false = omega arith

position-kind : (j : ℕ) → is_reading (j + 10) ≡ false
unfolding is_reading
position-kind j = rw (le-leb 2 (j + 10) (omega arith)) (le-ltb (j + 10) 10 (omega arith))

greatest-number : (j : ℕ) (st : Stage) (a : Bool) (w : ℕ) (ng : Bool) (v : ℕ) (ss : List Reading) (ps : List ℤ) → greatest (half (j + 10) st a w ng v ss ps) ≡ top_of ng
unfolding greatest
greatest-number j st a w true v ss ps = either (λ (y : ℕ). y ≡ 2147483648) (eqb (j + 10) 1) (λ e. absurd (omega (arith, eqb-true (j + 10) 1 e))) (λ e. rw (position-kind j))
greatest-number j st a w false v ss ps = either (λ (y : ℕ). y ≡ 2147483647) (eqb (j + 10) 1) (λ e. absurd (omega (arith, eqb-true (j + 10) 1 e))) (λ e. rw (position-kind j))

module _ (j : ℕ) (a : Bool) (w : ℕ) (ss : List Reading) (ps : List ℤ) where
  abbrev filed : ℤ → HalfLine
  filed n = half (j + 10) Endable a w false 0 ss (set ps j n)

  number-closes : (ng : Bool) (v : ℕ) → v ≤ top_of ng → closed (half (j + 10) Endable a w ng (min highest v) ss ps) ≡ filed (signed ng v)
  unfolding closed with_field
  number-closes ng v h =
      let r = half (j + 10) Endable a w ng v ss ps in
      let P : HalfLine → Type 0 = λ y. y ≡ filed (signed ng v) in
      let g = greatest-number j Endable a w ng v ss ps in
      let i : j + 10 - 10 ≡ j = omega arith in
      rw (within_cap v (top_of ng) (top-low ng) h)
      (either P (eqb (j + 10) 0) (λ e. absurd (omega (arith, eqb-true (j + 10) 0 e))) λ e.
      either P (leb v (greatest r))
      (λ l. either P (eqb (j + 10) 1) (λ u. absurd (omega (arith, eqb-true (j + 10) 1 u))) (λ u. rw (position-kind j, i)))
      (λ l. absurd (omega (arith, leb-false v (greatest r) l))))

  number-great : (ng : Bool) (v : ℕ) → top_of ng < v → (closed (half (j + 10) Endable a w ng (min highest v) ss ps)).stage ≡ Ill
  unfolding closed with_field
  number-great ng v h =
      let r = half (j + 10) Endable a w ng (min highest v) ss ps in
      let P : HalfLine → Type 0 = λ y. y.stage ≡ Ill in
      let g = greatest-number j Endable a w ng (min highest v) ss ps in
      let t = top-low ng in
      either P (eqb (j + 10) 0) (λ e. absurd (omega (arith, eqb-true (j + 10) 0 e))) λ e.
      either P (leb (min highest v) (greatest r)) (λ l. absurd (omega (arith, leb-true (min highest v) (greatest r) l))) (λ l. refl)

  -- the digits of a number, its minus passed over
  digits-field : (ng : Bool) (st : Stage) (f : List ℕ) → (is_past st ≡ false) × (st ≡ Endable → ⊥) → ((b : ℕ) (bs : List ℕ) → f ≡ b ∷ bs → eqb b 45 ≡ true → (is_empty st && leb 2 (j + 10)) ≡ false) →
      Closes (field_on (half (j + 10) st a w ng 0 ss ps) f) (stored (λ n. filed (signed ng n)) (whole_of (top_of ng) f))
  unfolding field_on
  digits-field ng st [] s m = rw (whole-none (top_of ng) [] refl) (bad-closes (half (j + 10) st a w ng 0 ss ps) s.1)
  digits-field ng st (b ∷ bs) s m =
      let f = b ∷ bs in
      let r = half (j + 10) st a w ng 0 ss ps in
      let o : ℕ → HalfLine = λ n. filed (signed ng n) in
      let v = digits_value (b ∷ bs) 0 in
      let on = whole-on (j + 10) (omega arith) (position-kind j) a w ng ss ps st b bs s.0 in
      decide (Closes (field_on r f) (stored o (whole_of (top_of ng) f))) (all_digits f)
      (λ d. decide (Closes (field_on r f) (stored o (whole_of (top_of ng) f))) (leb v (top_of ng))
      (λ e. let h = leb-true v (top_of ng) e in rw (whole-some (top_of ng) f d h, on d) (refl, number-closes ng v h))
      (λ e. let h = leb-false v (top_of ng) e in rw (whole-great (top_of ng) f h, on d) (number-great ng v h)))
      (λ d. rw (whole-none (top_of ng) f d)
      (bad-closes (field_on r f) (past-ends (whole-bad (j + 10) (omega arith) (position-kind j) a w ng ss ps st b bs s.0 d (m b bs refl)))))

  minus-step : in_field (half (j + 10) Empty a w false 0 ss ps) 45 ≡ half (j + 10) Open a w true 0 ss ps
  unfolding in_field field_byte number_byte minus_byte
  minus-step =
      let P : HalfLine → Type 0 = λ y. y ≡ half (j + 10) Open a w true 0 ss ps in
      either P (eqb (j + 10) 0) (λ e. absurd (omega (arith, eqb-true (j + 10) 0 e))) λ e.
      either P (is_reading (j + 10)) (λ z. contrary z (position-kind j)) λ z.
      either P (leb 2 (j + 10)) (λ u. refl) (λ u. absurd (omega (arith, leb-false 2 (j + 10) u)))

  as-negative : (r : HalfLine) (o : Option ℕ) → Closes r (stored (λ n. filed (signed true n)) o) → Closes r (stored filed (negative o))
  as-negative r (Some n) h = h
  as-negative r None h = h

  as-positive : (r : HalfLine) (o : Option ℕ) → Closes r (stored (λ n. filed (signed false n)) o) → Closes r (stored filed (positive o))
  as-positive r (Some n) h = h
  as-positive r None h = h

  -- the first byte of some is that byte
  head-is : (b c : ℕ) (bs cs : List ℕ) → ◌≡◌ {A = List ℕ} (b ∷ bs) (c ∷ cs) → b ≡ c
  head-is b c bs cs e = cc

  position-field : (f : List ℕ) → Closes (field_on (half (j + 10) Empty a w false 0 ss ps) f) (stored filed (lent_number f))
  unfolding field_on lent_number
  position-field [] = bad-closes (half (j + 10) Empty a w false 0 ss ps) (λ z. cc)
  position-field (b ∷ bs) =
      let r = half (j + 10) Empty a w false 0 ss ps in
      either (λ y. Closes (field_on r (b ∷ bs)) (stored filed y)) (eqb b 45)
      (λ e. let q = eqb-true b 45 e in
      rw (q, minus-step) (as-negative (field_on (half (j + 10) Open a w true 0 ss ps) bs) (whole_of 2147483648 bs) (digits-field true Open bs (refl, λ z. cc) (λ c cs u m. refl))))
      (λ e. as-positive (field_on r (b ∷ bs)) (whole_of 2147483647 (b ∷ bs)) (digits-field false Empty (b ∷ bs) (refl, λ z. cc)
      (λ c cs u m. absurd (eqb-false b 45 e (head-is b c bs cs u ∙ eqb-true c 45 m)))))

-- ---- a reading

-- the numbers from which on there are so many digits
abbrev sixteens : ℕ → ℕ
sixteens zero = 1
sixteens (suc n) = sixteens n * 16

sixteens-rise : (m n : ℕ) → sixteens n ≤ sixteens (m + n)
sixteens-rise zero n = let e : 0 + n ≡ n = omega arith in rw e (le_refl (sixteens n))
sixteens-rise (suc m) n = let e : suc m + n ≡ suc (m + n) = omega arith in let h = sixteens-rise m n in rw e (omega arith)

sixteens-low : (n : ℕ) → n ≤ 7 → sixteens n ≤ 268435456
sixteens-low n h = let e : 7 - n + n ≡ 7 = omega arith in rw e at (sixteens-rise (7 - n) n)

hex-small : (b : ℕ) → is_hex b ≡ true → (hex_digit b ≤ 15) × (48 ≤ b)
hex-small b h =
    decide ((hex_digit b ≤ 15) × (48 ≤ b)) (is_digit b)
    (λ e. let l = both (leb 48 b) (leb b 57) e in
    let x = leb-true 48 b l.0 in
    let y = leb-true b 57 l.1 in
    rw e (omega arith, omega arith))
    (λ e. let l = both (leb 65 b) (leb b 70) (rw e at h) in
    let x = leb-true 65 b l.0 in
    let y = leb-true b 70 l.1 in
    rw e (omega arith, omega arith))

-- of the digits only B says eleven
hex-eleven : (b : ℕ) → is_hex b ≡ true → hex_digit b ≡ 11 → b ≡ 66
hex-eleven b h d =
    decide (b ≡ 66) (is_digit b)
    (λ e. let l = both (leb 48 b) (leb b 57) e in
    let y = leb-true b 57 l.1 in
    let g = rw e at d in omega arith)
    (λ e. let l = both (leb 65 b) (leb b 70) (rw e at h) in
    let x = leb-true 65 b l.0 in
    let g = rw e at d in omega arith)

-- the value of digits behind others, where those are a 1 and what else they say
hex-behind : (f : List ℕ) (n u : ℕ) → hex_value f (sixteens n + u) ≡ sixteens (n + length f) + hex_value f u
unfolding hex_value
hex-behind [] n u = let e : n + 0 ≡ n = omega arith in rw e
hex-behind (b ∷ bs) n u =
    let e : n + suc (length bs) ≡ suc n + length bs = omega arith in
    let g : (sixteens n + u) * 16 + hex_digit b ≡ sixteens (suc n) + (u * 16 + hex_digit b) = omega arith in
    rw (e, g) (hex-behind bs (suc n) (u * 16 + hex_digit b))

hex-under : (f : List ℕ) (n u : ℕ) → u < sixteens n → all_hex f ≡ true → hex_value f u < sixteens (n + length f)
unfolding hex_value all_hex
hex-under [] n u h g = let e : n + 0 ≡ n = omega arith in rw e h
hex-under (b ∷ bs) n u h g =
    let e : n + suc (length bs) ≡ suc n + length bs = omega arith in
    let s = (hex-small b (both (is_hex b) (all_hex bs) g).0).0 in
    rw e (hex-under bs (suc n) (u * 16 + hex_digit b) (omega arith) (both (is_hex b) (all_hex bs) g).1)

-- a reading that goes on says something
pub stage-on : (v : ℕ) → (is_empty (reading_stage v) ≡ false) × (is_past (reading_stage v) ≡ false)
unfolding reading_stage
stage-on v = either (λ (y : Stage). (is_empty y ≡ false) × (is_past y ≡ false)) (eqb v 27 || leb 4294967296 v) (λ e. (refl, refl)) (λ e. (refl, refl))

reading-kind : (j : ℕ) → j < 8 → is_reading (j + 2) ≡ true
unfolding is_reading
reading-kind j h = and-true (le-leb 2 (j + 2) (omega arith)) (lt-ltb (j + 2) 10 (omega arith))

module _ (j : ℕ) (small : j < 8) (a : Bool) (w : ℕ) (ss : List Reading) (ps : List ℤ) where
  -- a reading that says v, and one of which nothing is read
  abbrev saying : ℕ → HalfLine
  saying v = half (j + 2) (reading_stage v) a w false v ss ps

  abbrev unsaid : HalfLine
  unsaid = half (j + 2) Empty a w false 0 ss ps

  so_far : (v : ℕ) → digits_so_far (saying v) ≡ v
  unfolding digits_so_far
  so_far v = either (λ (y : ℕ). y ≡ v) (is_empty (reading_stage v)) (λ e. contrary e (stage-on v).0) (λ e. refl)

  none_so_far : digits_so_far unsaid ≡ 1
  unfolding digits_so_far
  none_so_far = refl

  -- a digit
  digit-in : (r : HalfLine) (b : ℕ) → r.field ≡ j + 2 → is_past r.stage ≡ false → is_hex b ≡ true → in_field r b ≡ hex_byte r b
  unfolding in_field field_byte reading_byte
  digit-in r b k s d =
      let P : HalfLine → Type 0 = λ y. y ≡ hex_byte r b in
      let low = (hex-small b d).1 in
      let kind : is_reading r.field ≡ true = ap is_reading k ∙ reading-kind j small in
      either P (is_past r.stage) (λ e. contrary e s) λ e.
      either P (eqb b CR) (λ g. absurd (omega (arith, eqb-true b CR g))) λ g.
      either P (eqb r.field 0) (λ z. absurd (omega (arith, eqb-true r.field 0 z))) λ z.
      either P (is_reading r.field) (λ z. either P (is_hex b) (λ y. refl) (λ y. contrary d y)) (λ z. contrary kind z)

  hex-taken : (r : HalfLine) (b : ℕ) → digits_so_far r < 4294967296 → hex_byte r b ≡ half r.field (reading_stage (digits_so_far r * 16 + hex_digit b)) r.automatic r.word r.negative (digits_so_far r * 16 + hex_digit b) r.sent r.positions
  unfolding hex_byte
  hex-taken r b h =
      either (λ (y : HalfLine). y ≡ half r.field (reading_stage (digits_so_far r * 16 + hex_digit b)) r.automatic r.word r.negative (digits_so_far r * 16 + hex_digit b) r.sent r.positions) (ltb (digits_so_far r) 4294967296)
      (λ e. refl) (λ e. absurd (omega (arith, ltb-false (digits_so_far r) 4294967296 e)))

  hex-refused : (r : HalfLine) (b : ℕ) → 4294967296 ≤ digits_so_far r → Past (hex_byte r b)
  unfolding hex_byte
  hex-refused r b h = either Past (ltb (digits_so_far r) 4294967296) (λ e. absurd (omega (arith, ltb-true (digits_so_far r) 4294967296 e))) (λ e. refl)

  hex-step : (v b : ℕ) → v < 4294967296 → is_hex b ≡ true → in_field (saying v) b ≡ saying (v * 16 + hex_digit b)
  hex-step v b h d = digit-in (saying v) b refl (stage-on v).1 d ∙ hex-taken (saying v) b (rw (so_far v) h) ∙ ap (λ (x : ℕ). saying (x * 16 + hex_digit b)) (so_far v)

  hex-first : (b : ℕ) → is_hex b ≡ true → in_field unsaid b ≡ saying (1 * 16 + hex_digit b)
  hex-first b d = digit-in unsaid b refl refl d ∙ hex-taken unsaid b (rw none_so_far (omega arith)) ∙ ap (λ (x : ℕ). saying (x * 16 + hex_digit b)) none_so_far

  hex-over : (v b : ℕ) → 4294967296 ≤ v → is_hex b ≡ true → Past (in_field (saying v) b)
  hex-over v b h d = rw (digit-in (saying v) b refl (stage-on v).1 d) (hex-refused (saying v) b (rw (so_far v) h))

  -- any other byte, but an S that may stand there
  other-in : (r : HalfLine) (b : ℕ) → r.field ≡ j + 2 → is_hex b ≡ false → (eqb b 83 && is_empty r.stage) ≡ false → Past (in_field r b)
  unfolding in_field field_byte reading_byte
  other-in r b k d m =
      let P = Past in
      let kind : is_reading r.field ≡ true = ap is_reading k ∙ reading-kind j small in
      either P (is_past r.stage) (λ e. call-high r.stage b) λ e.
      either P (eqb b CR) (λ g. either P (is_endable r.stage) (λ u. refl) (λ u. refl)) λ g.
      either P (eqb r.field 0) (λ z. absurd (omega (arith, eqb-true r.field 0 z))) λ z.
      either P (is_reading r.field)
      (λ z. either P (is_hex b) (λ y. contrary y d) λ y. either P (eqb b 83 && is_empty r.stage) (λ u. contrary u m) (λ u. refl))
      (λ z. contrary kind z)

  -- behind something no S may stand
  no_short : (v b : ℕ) → (eqb b 83 && is_empty (reading_stage v)) ≡ false
  no_short v b = let s = (stage-on v).0 in rw s (and-false (eqb b 83))

  short-first : in_field unsaid 83 ≡ saying 8589934592
  unfolding in_field field_byte reading_byte
  short-first =
      let P : HalfLine → Type 0 = λ y. y ≡ saying 8589934592 in
      either P (eqb (j + 2) 0) (λ z. absurd (omega (arith, eqb-true (j + 2) 0 z))) λ z.
      either P (is_reading (j + 2)) (λ y. refl) (λ y. contrary (reading-kind j small) y)

  -- ---- digits

  hex-on : (f : List ℕ) (n u : ℕ) → u < sixteens n → n + length f ≤ 8 → all_hex f ≡ true → field_on (saying (sixteens n + u)) f ≡ saying (sixteens (n + length f) + hex_value f u)
  unfolding field_on all_hex hex_value
  hex-on [] n u h l g = let e : n + 0 ≡ n = omega arith in rw e
  hex-on (b ∷ bs) n u h l g =
      let d = both (is_hex b) (all_hex bs) g in
      let s = (hex-small b d.0).0 in
      let q = sixteens-low n (omega arith) in
      let e : n + suc (length bs) ≡ suc n + length bs = omega arith in
      let i : (sixteens n + u) * 16 + hex_digit b ≡ sixteens (suc n) + (u * 16 + hex_digit b) = omega arith in
      rw (hex-step (sixteens n + u) b (omega arith) d.0, i, e) (hex-on bs (suc n) (u * 16 + hex_digit b) (omega arith) (omega arith) d.1)

  -- more than eight
  hex-long : (f : List ℕ) (n u : ℕ) → u < sixteens n → n ≤ 8 → 9 ≤ n + length f → all_hex f ≡ true → Past (field_on (saying (sixteens n + u)) f)
  unfolding field_on all_hex
  hex-long [] n u h m l g = absurd (omega arith)
  hex-long (b ∷ bs) n u h m l g =
      let d = both (is_hex b) (all_hex bs) g in
      let s = (hex-small b d.0).0 in
      decide (Past (field_on (in_field (saying (sixteens n + u)) b) bs)) (leb 8 n)
      (λ e. let k : n ≡ 8 = omega (arith, leb-true 8 n e) in
      let big : 4294967296 ≤ sixteens n + u = rw k (omega arith) in
      bad-on (in_field (saying (sixteens n + u)) b) bs (hex-over (sixteens n + u) b big d.0))
      (λ e. let k = leb-false 8 n e in
      let q = sixteens-low n (omega arith) in
      let i : (sixteens n + u) * 16 + hex_digit b ≡ sixteens (suc n) + (u * 16 + hex_digit b) = omega arith in
      rw (hex-step (sixteens n + u) b (omega arith) d.0, i) (hex-long bs (suc n) (u * 16 + hex_digit b) (omega arith) (omega arith) (omega arith) d.1))

  -- another byte among them
  hex-bad : (f : List ℕ) (v : ℕ) → all_hex f ≡ false → Past (field_on (saying v) f)
  unfolding field_on all_hex
  hex-bad [] v h = clash (cc)
  hex-bad (b ∷ bs) v h =
      decide (Past (field_on (in_field (saying v) b) bs)) (is_hex b)
      (λ e. decide (Past (field_on (in_field (saying v) b) bs)) (leb 4294967296 v)
      (λ g. bad-on (in_field (saying v) b) bs (hex-over v b (leb-true 4294967296 v g) e))
      (λ g. rw (hex-step v b (leb-false 4294967296 v g) e) (hex-bad bs (v * 16 + hex_digit b) (rw e at h))))
      (λ e. bad-on (in_field (saying v) b) bs (other-in (saying v) b refl e (no_short v b)))

  -- ---- what it comes to

  abbrev told : Reading → HalfLine
  told x = half (j + 2) Endable a w false 0 (set ss j x) ps

  greatest-reading : (st : Stage) (v : ℕ) → greatest (half (j + 2) st a w false v ss ps) ≡ 8589934592
  unfolding greatest
  greatest-reading st v =
      let P : ℕ → Type 0 = λ y. y ≡ 8589934592 in
      either P (eqb (j + 2) 1) (λ e. absurd (omega (arith, eqb-true (j + 2) 1 e))) λ e.
      either P (is_reading (j + 2)) (λ z. refl) (λ z. contrary (reading-kind j small) z)

  two-closes : (v : ℕ) → v ≤ 8589934592 → closed (half (j + 2) Endable a w false v ss ps) ≡ told (reading_by v)
  unfolding closed with_field
  two-closes v h =
      let P : HalfLine → Type 0 = λ y. y ≡ told (reading_by v) in
      let r = half (j + 2) Endable a w false v ss ps in
      let g = greatest-reading Endable v in
      let i : j + 2 - 2 ≡ j = omega arith in
      either P (eqb (j + 2) 0) (λ e. absurd (omega (arith, eqb-true (j + 2) 0 e))) λ e.
      either P (leb v (greatest r))
      (λ l. either P (eqb (j + 2) 1) (λ u. absurd (omega (arith, eqb-true (j + 2) 1 u))) λ u. either P (is_reading (j + 2)) (λ z. rw i) (λ z. contrary (reading-kind j small) z))
      (λ l. absurd (omega (arith, leb-false v (greatest r) l)))

  reading-closes : (v : ℕ) → v ≤ 8589934592 → reading_stage v ≡ Endable → ((saying v).stage ≡ Endable) × (closed (saying v) ≡ told (reading_by v))
  reading-closes v h s = (s, rw s (two-closes v h))

  -- no end is reached by fewer than eight digits that are not B alone
  unended : (v : ℕ) → (v ≡ 27 → ⊥) → v < 4294967296 → reading_stage v ≡ Open
  unfolding reading_stage
  unended v h l = simp (reading_stage, ne_eqb v 27 h, lt-leb 4294967296 v l)

  reading-one : (b : ℕ) → Closes (field_on unsaid (b ∷ [])) (stored told (lent_reading (b ∷ [])))
  unfolding field_on lent_reading reading_stage reading_by
  reading-one b =
      decide (Closes (in_field unsaid b) (stored told (lent_reading (b ∷ [])))) (eqb b 66)
      (λ e. let q = eqb-true b 66 e in rw (q, hex-first 66 refl) (reading-closes 27 (omega arith) refl)) λ e.
      decide (Closes (in_field unsaid b) (stored told (lent_reading (b ∷ [])))) (eqb b 83)
      (λ g. let q = eqb-true b 83 g in rw (q, short-first) (reading-closes 8589934592 (omega arith) refl)) λ g.
      rw (lent_reading, e, g, and-false (all_hex (b ∷ [])))
      (decide ((closed (in_field unsaid b)).stage ≡ Ill) (is_hex b)
      (λ d. let s = (hex-small b d).0 in
      let u = unended (1 * 16 + hex_digit b) (λ z. eqb-false b 66 e (hex-eleven b d (omega arith))) (omega arith) in
      rw (hex-first b d) (bad-closes (saying (1 * 16 + hex_digit b)) (λ z. let y : Open ≡ Endable = sym u ∙ z in cc)))
      (λ d. bad-closes (in_field unsaid b) (past-ends (other-in unsaid b refl d (rw g)))))

  long-reading : (b c : ℕ) (cs : List ℕ) → lent_reading (b ∷ c ∷ cs) ≡ elim (all_hex (b ∷ c ∷ cs) && eqb (length (b ∷ c ∷ cs)) 8) [ true ↦ Some (reading_of (hex_value (b ∷ c ∷ cs) 0)) | false ↦ None ]
  unfolding lent_reading
  long-reading b c cs =
      let f = b ∷ c ∷ cs in
      let P : Option Reading → Type 0 = λ y. y ≡ elim (all_hex f && eqb (length f) 8) [ true ↦ Some (reading_of (hex_value f 0)) | false ↦ None ] in
      either P (eqb b 66 && false) (λ e. let z = (both (eqb b 66) false e).1 in clash (cc)) λ e.
      either P (eqb b 83 && false) (λ g. let z = (both (eqb b 83) false g).1 in clash (cc)) (λ g. refl)

  -- eight digits say their number
  eight-say : (x : ℕ) → x < 4294967296 → (reading_stage (4294967296 + x) ≡ Endable) × (reading_by (4294967296 + x) ≡ reading_of x)
  unfolding reading_stage reading_by
  eight-say x h =
      let m : (4294967296 + x) % 4294967296 ≡ x = omega arith in
      let n = ne_eqb (4294967296 + x) 27 (λ e. omega arith) in
      (simp (reading_stage, n, le-leb 4294967296 (4294967296 + x) (omega arith)), simp (reading_by, n, lt-leb 8589934592 (4294967296 + x) (omega arith), m))

  first-digit : (b : ℕ) (bs : List ℕ) → is_hex b ≡ true → field_on unsaid (b ∷ bs) ≡ field_on (saying (sixteens 1 + hex_digit b)) bs
  unfolding field_on
  first-digit b bs d = rw (hex-first b d)

  reading-long : (b c : ℕ) (cs : List ℕ) → Closes (field_on unsaid (b ∷ c ∷ cs)) (stored told (lent_reading (b ∷ c ∷ cs)))
  unfolding all_hex hex_value field_on
  reading-long b c cs =
      let f = b ∷ c ∷ cs in
      let bs = c ∷ cs in
      let goal : Type 0 = Closes (field_on unsaid f) (stored told (lent_reading f)) in
      let none_is : (all_hex f && eqb (length f) 8) ≡ false → lent_reading f ≡ None = λ e. long-reading b c cs ∙ rw e in
      let bad : (all_hex f && eqb (length f) 8) ≡ false → ((field_on unsaid f).stage ≡ Endable → ⊥) → goal = λ e z. rw (none_is e) (bad-closes (field_on unsaid f) z) in
      decide goal (all_hex f)
      (λ d.
      let h = both (is_hex b) (all_hex bs) d in
      let s = (hex-small b h.0).0 in
      let first = first-digit b bs h.0 in
      decide goal (eqb (length f) 8)
      (λ e. let l = eqb-true (length f) 8 e in
      let k : 1 + length bs ≡ 8 = omega arith in
      let on = hex-on bs 1 (hex_digit b) (omega arith) (omega arith) h.1 in
      let low = hex-under bs 1 (hex_digit b) (omega arith) h.1 in
      let x = hex_value bs (0 * 16 + hex_digit b) in
      eight d e (first ∙ on ∙ ap (λ (n : ℕ). saying (sixteens n + hex_value bs (hex_digit b))) k) (rw k at low))
      (λ e. let m = eqb-false (length f) 8 e in
      bad (rw (d, e)) (decide ((field_on unsaid f).stage ≡ Endable → ⊥) (leb 9 (length f))
      (λ g. λ z. past-ends (hex-long bs 1 (hex_digit b) (omega arith) (omega arith) (omega (arith, leb-true 9 (length f) g)) h.1) (rw first at z))
      (λ g. λ z. few h.1 s first (omega (arith, leb-false 9 (length f) g)) z))))
      (λ d. bad (rw d) (past-ends (mixed d)))
    where
      eight : all_hex (b ∷ c ∷ cs) ≡ true → eqb (length (b ∷ c ∷ cs)) 8 ≡ true → field_on unsaid (b ∷ c ∷ cs) ≡ saying (4294967296 + hex_value (c ∷ cs) (hex_digit b)) → hex_value (c ∷ cs) (hex_digit b) < 4294967296 → Closes (field_on unsaid (b ∷ c ∷ cs)) (stored told (lent_reading (b ∷ c ∷ cs)))
      eight d e on low =
          let x = hex_value (c ∷ cs) (hex_digit b) in
          let y = eight-say x low in
          let z : 0 * 16 + hex_digit b ≡ hex_digit b = omega arith in
          rw (long-reading b c cs, d, e, on, z, ← y.1) (reading-closes (4294967296 + x) (omega arith) y.0)

      -- fewer digits than eight, and more than one
      few : all_hex (c ∷ cs) ≡ true → hex_digit b ≤ 15 → field_on unsaid (b ∷ c ∷ cs) ≡ field_on (saying (sixteens 1 + hex_digit b)) (c ∷ cs) → 1 + length (c ∷ cs) ≤ 7 → (field_on unsaid (b ∷ c ∷ cs)).stage ≡ Endable → ⊥
      few h s first l z =
          let n = 1 + length (c ∷ cs) in
          let on = hex-on (c ∷ cs) 1 (hex_digit b) (omega arith) (omega arith) h in
          let low = hex-under (c ∷ cs) 1 (hex_digit b) (omega arith) h in
          let top = sixteens-low n l in
          let i : length cs + 2 ≡ n = omega arith in
          let two = rw i at (sixteens-rise (length cs) 2) in
          let u = unended (sixteens n + hex_value (c ∷ cs) (hex_digit b)) (λ v. omega arith) (omega arith) in
          let y = rw (first, on, u) at z in cc

      -- another byte among the digits
      mixed : all_hex (b ∷ c ∷ cs) ≡ false → Past (field_on unsaid (b ∷ c ∷ cs))
      mixed d =
          decide (Past (field_on (in_field unsaid b) (c ∷ cs))) (is_hex b)
          (λ e. rw (hex-first b e) (hex-bad (c ∷ cs) (1 * 16 + hex_digit b) (rw e at d))) λ e.
          decide (Past (field_on (in_field unsaid b) (c ∷ cs))) (eqb b 83)
          (λ g. let q = eqb-true b 83 g in rw (q, short-first) (behind-short c cs))
          (λ g. bad-on (in_field unsaid b) (c ∷ cs) (other-in unsaid b refl e (rw g)))
        where
          behind-short : (c : ℕ) (cs : List ℕ) → Past (field_on (saying 8589934592) (c ∷ cs))
          behind-short c cs =
              decide (Past (field_on (in_field (saying 8589934592) c) cs)) (is_hex c)
              (λ e. bad-on (in_field (saying 8589934592) c) cs (hex-over 8589934592 c (omega arith) e))
              (λ e. bad-on (in_field (saying 8589934592) c) cs (other-in (saying 8589934592) c refl e (no_short 8589934592 c)))

  reading-field : (f : List ℕ) → Closes (field_on unsaid f) (stored told (lent_reading f))
  unfolding field_on lent_reading all_hex
  reading-field [] = bad-closes unsaid (λ z. cc)
  reading-field (b ∷ []) = reading-one b
  reading-field (b ∷ c ∷ cs) = reading-long b c cs

-- ---- the mode

after-mode : (a : Bool) (w : ℕ) (ss : List Reading) (ps : List ℤ) (b : ℕ) → ((in_field (half 0 Empty a w false 0 ss ps) b).field ≡ 0) × (is_empty (in_field (half 0 Empty a w false 0 ss ps) b).stage ≡ false)
unfolding in_field field_byte mode_byte
after-mode a w ss ps b =
    let P : HalfLine → Type 0 = λ y. (y.field ≡ 0) × (is_empty y.stage ≡ false) in
    either P (eqb b CR) (λ e. (refl, refl)) λ e.
    either P (eqb b 65 || eqb b 77) (λ g. (refl, refl)) (λ g. (refl, past-read (letter_stage b) (letter-high b)))

-- behind the letter there may be none
mode-more : (r : HalfLine) (c : ℕ) → r.field ≡ 0 → is_empty r.stage ≡ false → Past (in_field r c)
unfolding in_field field_byte mode_byte
mode-more r c z s =
    let P = Past in
    either P (is_past r.stage) (λ e. call-high r.stage c) λ e.
    either P (eqb c CR) (λ g. either P (is_endable r.stage) (λ u. refl) (λ u. refl)) λ g.
    either P (eqb r.field 0)
    (λ u. either P (is_empty r.stage) (λ y. contrary y s) (λ y. refl))
    (λ u. absurd (eqb-false r.field 0 u z))

mode-byte-bad : (a : Bool) (w : ℕ) (ss : List Reading) (ps : List ℤ) (b : ℕ) → eqb b 65 ≡ false → eqb b 77 ≡ false → Past (in_field (half 0 Empty a w false 0 ss ps) b)
unfolding in_field field_byte mode_byte
mode-byte-bad a w ss ps b h g =
    let P = Past in
    either P (eqb b CR) (λ e. refl) λ e.
    either P (eqb b 65 || eqb b 77) (λ y. let z = rw (h, g) at y in clash (cc)) (λ y. letter-high b)

-- a letter and more is no mode
long-mode : (b c : ℕ) (cs : List ℕ) → mode_of (b ∷ c ∷ cs) ≡ None
unfolding mode_of
long-mode b c cs =
    let P : Option Bool → Type 0 = λ y. y ≡ None in
    either P (eqb b 65 && false) (λ e. let z = (both (eqb b 65) false e).1 in clash (cc)) λ e.
    either P (eqb b 77 && false) (λ g. let z = (both (eqb b 77) false g).1 in clash (cc)) (λ g. refl)

mode-field : (a : Bool) (w : ℕ) (ss : List Reading) (ps : List ℤ) (f : List ℕ) → Closes (field_on (half 0 Empty a w false 0 ss ps) f) (stored (λ x. half 0 Endable x w false 0 ss ps) (mode_of f))
unfolding field_on in_field field_byte mode_byte closed mode_of
mode-field a w ss ps [] = refl
mode-field a w ss ps (b ∷ []) =
    let r = half 0 Empty a w false 0 ss ps in
    let s : Bool → HalfLine = λ x. half 0 Endable x w false 0 ss ps in
    decide (Closes (field_on r (b ∷ [])) (stored s (mode_of (b ∷ [])))) (eqb b 65)
    (λ e. let q = eqb-true b 65 e in rw q (refl, refl)) λ e.
    decide (Closes (field_on r (b ∷ [])) (stored s (mode_of (b ∷ [])))) (eqb b 77)
    (λ g. let q = eqb-true b 77 g in rw q (refl, refl))
    (λ g. rw (mode_of, e, g) (bad-closes (in_field r b) (past-ends (mode-byte-bad a w ss ps b e g))))
mode-field a w ss ps (b ∷ c ∷ cs) =
    let r = in_field (half 0 Empty a w false 0 ss ps) b in
    let m = after-mode a w ss ps b in
    rw (long-mode b c cs) (bad-closes (field_on (in_field r c) cs) (past-ends (bad-on (in_field r c) cs (mode-more r c m.0 m.1))))

-- ---- field by field

-- what is lent by the fields left, the first of them under way
unfoldable by_fields : HalfLine → List (List ℕ) → Option Lent
by_fields r [] = None
by_fields r (f ∷ []) = read_lent (field_on r f)
by_fields r (f ∷ g ∷ gs) = by_fields (read_byte (field_on r f) SPACE) (g ∷ gs)

open-space : (r : HalfLine) (fs : List (List ℕ)) → (fs ≡ [] → ⊥) → by_fields r ([] ∷ fs) ≡ by_fields (read_byte r SPACE) fs
unfolding by_fields field_on
open-space r [] h = absurd (h refl)
open-space r (f ∷ fs) h = refl

open-byte : (r : HalfLine) (b : ℕ) (fs : List (List ℕ)) → (fs ≡ [] → ⊥) → by_fields r (start_of b fs) ≡ by_fields (in_field r b) fs
unfolding by_fields field_on
open-byte r b [] h = absurd (h refl)
open-byte r b (f ∷ []) h = refl
open-byte r b (f ∷ g ∷ gs) h = refl

no-space : (r : HalfLine) (b : ℕ) → eqb b SPACE ≡ false → read_byte r b ≡ in_field r b
unfolding read_byte in_field
no-space r b h =
    let P : HalfLine → HalfLine → Type 0 = λ x y. x ≡ y in
    either_both P (is_past r.stage) (λ e. refl) λ e.
    either (λ (y : HalfLine). y ≡ elim (eqb b CR) [ true ↦ elim (is_endable r.stage) [ true ↦ with_stage r Return | false ↦ ill_formed r ] | false ↦ field_byte r b ]) (eqb b SPACE) (λ g. clash (cc)) (λ g. refl)

-- reading a line is reading its fields
read-fields : (r : HalfLine) (l : List ℕ) → read_lent (read_on r l) ≡ by_fields r (fields l)
unfolding read_on split by_fields field_on
read-fields r [] = refl
read-fields r (b ∷ bs) =
    either (λ y. read_lent (read_on (read_byte r b) bs) ≡ by_fields r y) (eqb b SPACE)
    (λ e. let q = eqb-true b SPACE e in rw q (read-fields (read_byte r SPACE) bs ∙ sym (open-space r (fields bs) (split-some SPACE bs))))
    (λ e. rw (no-space r b e) (read-fields (in_field r b) bs ∙ sym (open-byte r b (fields bs) (split-some SPACE bs))))

-- ---- a field that closes, and one that does not

pub unclosed-lent : (r : HalfLine) → (closed r).stage ≡ Ill → read_lent r ≡ None
unfolding read_lent
unclosed-lent r h =
    either (λ (y : Option Lent). y ≡ None) (is_endable (closed r).stage && leb 1 r.field) (λ e. let q = rw h at (both _ (leb 1 r.field) e).0 in clash (cc)) (λ e. refl)

unclosed-space : (r : HalfLine) → (closed r).stage ≡ Ill → Past (read_byte r SPACE)
unfolding read_byte space_after
unclosed-space r h =
    let P = Past in
    either P (is_past r.stage) (λ e. call-high r.stage SPACE) λ e.
    either P (is_endable (closed r).stage && ltb (closed r).field 15)
    (λ g. let q = rw h at (both _ (ltb (closed r).field 15) g).0 in clash (cc))
    (λ g. refl)

bad-fields : (r : HalfLine) (fs : List (List ℕ)) → Past r → by_fields r fs ≡ None
unfolding by_fields
bad-fields r [] h = refl
bad-fields r (f ∷ []) h = unclosed-lent (field_on r f) (bad-closes (field_on r f) (past-ends (bad-on r f h)))
bad-fields r (f ∷ g ∷ gs) h =
    bad-fields (read_byte (field_on r f) SPACE) (g ∷ gs) (unclosed-space (field_on r f) (bad-closes (field_on r f) (past-ends (bad-on r f h))))

unclosed-fields : (r : HalfLine) (f : List ℕ) (fs : List (List ℕ)) → (closed (field_on r f)).stage ≡ Ill → by_fields r (f ∷ fs) ≡ None
unfolding by_fields
unclosed-fields r f [] h = unclosed-lent (field_on r f) h
unclosed-fields r f (g ∷ gs) h = bad-fields (read_byte (field_on r f) SPACE) (g ∷ gs) (unclosed-space (field_on r f) h)

module _ (k : ℕ) (a : Bool) (w : ℕ) (ss : List Reading) (ps : List ℤ) where
  -- the line ends with the field
  closed-lent : (r : HalfLine) → 1 ≤ k → closed r ≡ half k Endable a w false 0 ss ps → read_lent r ≡ Some (record { automatic = a; word = w; sent = ss; positions = ps })
  unfolding read_lent
  closed-lent r i h =
      let f : r.field ≡ k = sym (closed-field r) ∙ ap (λ (y : HalfLine). y.field) h in
      let s : (closed r).stage ≡ Endable = ap (λ (y : HalfLine). y.stage) h in
      either (λ (y : Option Lent). y ≡ Some (record { automatic = a; word = w; sent = ss; positions = ps })) (is_endable (closed r).stage && leb 1 r.field)
      (λ e. rw h) (λ e. let q = and-true (ap is_endable s) (le-leb 1 r.field (omega arith)) in clash (cc))

  -- a space stands behind it
  closed-space : (r : HalfLine) → k < 15 → r.stage ≡ Endable → closed r ≡ half k Endable a w false 0 ss ps → read_byte r SPACE ≡ half (k + 1) Empty a w false 0 ss ps
  unfolding read_byte space_after
  closed-space r i s h =
      let P : HalfLine → Type 0 = λ y. y ≡ half (k + 1) Empty a w false 0 ss ps in
      either P (is_past r.stage) (λ e. let q = rw s at e in clash (cc)) λ e.
      rw h (either P (ltb k 15) (λ g. refl) (λ g. absurd (omega (arith, ltb-false k 15 g))))

  closed-last : (r : HalfLine) → 15 ≤ k → r.stage ≡ Endable → closed r ≡ half k Endable a w false 0 ss ps → Past (read_byte r SPACE)
  unfolding read_byte space_after
  closed-last r i s h =
      let P = Past in
      either P (is_past r.stage) (λ e. call-high r.stage SPACE) λ e.
      rw h (either P (ltb k 15) (λ g. absurd (omega (arith, ltb-true k 15 g))) (λ g. refl))

-- ---- a run of fields of one kind

-- by whether something is said
pub by_option : {A : Type 0} (P : Type 0) (o : Option A) → (o ≡ None → P) → ((x : A) → o ≡ Some x → P) → P
by_option P None f g = f refl
by_option P (Some x) f g = g x refl

take_same : {A : Type 0} (x : A) (n m : ℕ) → take n (replicate (n + m) x) ≡ replicate n x
take_same x zero m = refl
take_same x (suc n) m = let e : suc n + m ≡ suc (n + m) = omega arith in rw e (ap (λ r. x ∷ r) (take_same x n m))

-- those left off are x
left-off : {A : Type 0} (x : A) (n : ℕ) (us : List A) → length us ≤ n → (m : ℕ) → take n (us ++ replicate (n + m) x) ≡ us ++ replicate (n - length us) x
left-off x n [] h m = let e : n - 0 ≡ n = omega arith in rw e (take_same x n m)
left-off x zero (u ∷ us) h m = absurd (omega arith)
left-off x (suc n) (u ∷ us) h m =
    let e : suc n + m ≡ n + suc m = omega arith in
    let d : suc n - suc (length us) ≡ n - length us = omega arith in
    rw (e, d) (ap (λ r. u ∷ r) (left-off x n us (omega arith) (suc m)))

-- what is said behind others
abbrev behind_those : {A : Type 0} → List A → Option (List A) → Option (List A)
behind_those vs (Some us) = Some (vs ++ us)
behind_those vs None = None

one_more_lem : {A : Type 0} (vs : List A) (v : A) (o : Option (List A)) → behind_those (vs ++ (v ∷ [])) o ≡ behind_those vs (behind_first (Some v) o)
one_more_lem vs v (Some us) = ap (λ r. Some r) (append_snoc vs v us)
one_more_lem vs v None = refl

behind-none : {A : Type 0} (o : Option (List A)) → behind_those [] o ≡ o
behind-none (Some us) = refl
behind-none None = refl

none-taken : {A : Type 0} (n : ℕ) → take {A = A} n [] ≡ []
none-taken zero = refl
none-taken (suc n) = refl

none_dropped : {A : Type 0} (n : ℕ) → drop {A = A} n [] ≡ []
none_dropped zero = refl
none_dropped (suc n) = refl

-- so many fields from `first` on, each said by `said`, x where they are left off; `next` has what the fields behind them come to
module _ {A : Type 0} (x : A) (size first : ℕ) (said : List ℕ → Option A) (a : Bool) (w : ℕ) (sent_in : List A → List Reading) (positions_in : List A → List ℤ) (behind_mode : 1 ≤ first) (fits : size + first ≤ 16)
    (reads : (j : ℕ) → j < size → (vs : List A) (f : List ℕ) → Closes (field_on (half (j + first) Empty a w false 0 (sent_in vs) (positions_in vs)) f) (stored (λ v. half (j + first) Endable a w false 0 (sent_in (set vs j v)) (positions_in (set vs j v))) (said f)))
    (next : List A → List ℕ → List (List ℕ) → Option Lent)
    (goes : (us : List A) (r : HalfLine) (k : ℕ) → k + 1 ≡ size → r.stage ≡ Endable → closed r ≡ half (k + first) Endable a w false 0 (sent_in us) (positions_in us) → (g : List ℕ) (gs : List (List ℕ)) → by_fields (read_byte r SPACE) (g ∷ gs) ≡ next us g gs) where
  -- before the field j of them, with those so far
  abbrev padded : ℕ → List A → List A
  padded j vs = vs ++ replicate (size - j) x

  abbrev before : ℕ → List A → HalfLine
  before j vs = half (j + first) Empty a w false 0 (sent_in (padded j vs)) (positions_in (padded j vs))

  -- what all of them come to, with the fields behind them
  abbrev ends : Option (List A) → List (List ℕ) → Option Lent
  ends None gs = None
  ends (Some us) [] = Some (record { automatic = a; word = w; sent = sent_in (filled size x us); positions = positions_in (filled size x us) })
  ends (Some us) (g ∷ gs) = next (filled size x us) g gs

  -- one in its place, and those so far with it
  placed : (vs : List A) (j : ℕ) (v : A) → length vs ≡ j → j < size → set (padded j vs) j v ≡ padded (j + 1) (vs ++ (v ∷ []))
  placed vs j v l h =
      let m : size - j ≡ suc (size - (j + 1)) = omega arith in
      rw m (set_at vs x (replicate (size - (j + 1)) x) v j l ∙ sym (append_snoc vs v (replicate (size - (j + 1)) x)))

  longer : (vs : List A) (v : A) (j : ℕ) → length vs ≡ j → length (vs ++ (v ∷ [])) ≡ j + 1
  longer vs v j l = length-append vs (v ∷ []) ∙ ap (λ (n : ℕ). n + 1) l

  all-filled : (us : List A) (j : ℕ) → length us ≡ j → j ≤ size → filled size x us ≡ padded j us
  all-filled us j l h = let e : size + 0 ≡ size = omega arith in rw (e, l) at (left-off x size us (omega arith) 0)

  -- the line with the field j of them closed, v the last
  abbrev IsClosed : ℕ → List A → List ℕ → A → Type 0
  IsClosed j vs f v = let us = padded (j + 1) (vs ++ (v ∷ [])) in Closes (field_on (before j vs) f) (Some (half (j + first) Endable a w false 0 (sent_in us) (positions_in us)))

  -- the fields from f on, behind those so far
  run-said : (fs : List (List ℕ)) (f : List ℕ) (j : ℕ) (vs : List A) → length vs ≡ j → j < size →
      ((v : A) → IsClosed j vs f v → by_fields (before j vs) (f ∷ fs) ≡ ends (behind_those (vs ++ (v ∷ [])) (each_of said (take (size - (j + 1)) fs))) (drop (size - (j + 1)) fs)) →
      by_fields (before j vs) (f ∷ fs) ≡ ends (behind_those vs (each_of said (take (size - j) (f ∷ fs)))) (drop (size - j) (f ∷ fs))
  unfolding each_of
  run-said fs f j vs l h go =
      let m : size - j ≡ suc (size - (j + 1)) = omega arith in
      let n = size - (j + 1) in
      by_option (by_fields (before j vs) (f ∷ fs) ≡ ends (behind_those vs (behind_first (said f) (each_of said (take n fs)))) (drop n fs)) (said f)
      (λ e. let c = rw e at (reads j h (padded j vs) f) in rw (unclosed-fields (before j vs) f fs c, e))
      (λ v e. let c = rw (e, placed vs j v l h) at (reads j h (padded j vs) f) in
      rw (e, ← (one_more_lem vs v (each_of said (take n fs)))) (go v c))
      ∙ ap (λ (k : ℕ). ends (behind_those vs (each_of said (take k (f ∷ fs)))) (drop k (f ∷ fs))) (sym m)

  last-field : (f : List ℕ) (j : ℕ) (vs : List A) → length vs ≡ j → j < size → (v : A) → IsClosed j vs f v →
      by_fields (before j vs) (f ∷ []) ≡ ends (behind_those (vs ++ (v ∷ [])) (each_of said (take (size - (j + 1)) []))) (drop (size - (j + 1)) [])
  unfolding by_fields each_of
  last-field f j vs l h v c =
      let us = vs ++ (v ∷ []) in
      rw (none-taken {A = List ℕ} (size - (j + 1)), none_dropped {A = List ℕ} (size - (j + 1)), append-nil us, all-filled us (j + 1) (longer vs v j l) (omega arith))
      (closed-lent (j + first) a w (sent_in (padded (j + 1) us)) (positions_in (padded (j + 1) us)) (field_on (before j vs) f) (omega arith) c.1)

  more-fields : (f g : List ℕ) (gs : List (List ℕ)) (j : ℕ) (vs : List A) → length vs ≡ j → j < size → (v : A) → IsClosed j vs f v →
      (j + 1 < size → by_fields (before (j + 1) (vs ++ (v ∷ []))) (g ∷ gs) ≡ ends (behind_those (vs ++ (v ∷ [])) (each_of said (take (size - (j + 1)) (g ∷ gs)))) (drop (size - (j + 1)) (g ∷ gs))) →
      by_fields (before j vs) (f ∷ g ∷ gs) ≡ ends (behind_those (vs ++ (v ∷ [])) (each_of said (take (size - (j + 1)) (g ∷ gs)))) (drop (size - (j + 1)) (g ∷ gs))
  unfolding by_fields each_of
  more-fields f g gs j vs l h v c go =
      let us = vs ++ (v ∷ []) in
      decide (by_fields (read_byte (field_on (before j vs) f) SPACE) (g ∷ gs) ≡ ends (behind_those us (each_of said (take (size - (j + 1)) (g ∷ gs)))) (drop (size - (j + 1)) (g ∷ gs))) (ltb (j + 1) size)
      (λ i. let s = ltb-true (j + 1) size i in
      let k : j + first + 1 ≡ j + 1 + first = omega arith in
      ap (λ (r : HalfLine). by_fields r (g ∷ gs)) (closed-space (j + first) a w (sent_in (padded (j + 1) us)) (positions_in (padded (j + 1) us)) (field_on (before j vs) f) (omega arith) c.0 c.1)
      ∙ ap (λ (n : ℕ). by_fields (half n Empty a w false 0 (sent_in (padded (j + 1) us)) (positions_in (padded (j + 1) us))) (g ∷ gs)) k ∙ go s)
      (λ i. let s = ltb-false (j + 1) size i in
      let z : size - (j + 1) ≡ 0 = omega arith in
      goes (padded (j + 1) us) (field_on (before j vs) f) j (omega arith) c.0 c.1 g gs
      ∙ ap (λ (r : List A). next r g gs) (sym (all-filled us (j + 1) (longer vs v j l) (omega arith)))
      ∙ rw (z, append-nil us))

  run-fields : (fs : List (List ℕ)) (f : List ℕ) (j : ℕ) (vs : List A) → length vs ≡ j → j < size →
      by_fields (before j vs) (f ∷ fs) ≡ ends (behind_those vs (each_of said (take (size - j) (f ∷ fs)))) (drop (size - j) (f ∷ fs))
  run-fields [] f j vs l h = run-said [] f j vs l h (last-field f j vs l h)
  run-fields (g ∷ gs) f j vs l h = run-said (g ∷ gs) f j vs l h (λ v c. more-fields f g gs j vs l h v c (run-fields gs g (j + 1) (vs ++ (v ∷ [])) (longer vs v j l)))

-- ---- the positions

-- what a line lends with its positions
abbrev with_positions : Bool → ℕ → List Reading → Option (List ℤ) → Option Lent
with_positions a w ss (Some ps) = Some (record { automatic = a; word = w; sent = ss; positions = filled 6 (pos 0) ps })
with_positions a w ss None = None

module _ (a : Bool) (w : ℕ) (ss : List Reading) where
  abbrev no_more : List ℤ → List ℕ → List (List ℕ) → Option Lent
  no_more ps g gs = None

  no-more : (us : List ℤ) (r : HalfLine) (k : ℕ) → k + 1 ≡ 6 → r.stage ≡ Endable → closed r ≡ half (k + 10) Endable a w false 0 ss us → (g : List ℕ) (gs : List (List ℕ)) → by_fields (read_byte r SPACE) (g ∷ gs) ≡ None
  no-more us r k e s h g gs = bad-fields (read_byte r SPACE) (g ∷ gs) (closed-last (k + 10) a w ss us r (omega arith) s h)

  abbrev ends_with : Option (List ℤ) → List (List ℕ) → Option Lent
  ends_with = ends (pos 0) 6 10 lent_number a w (λ _. ss) (λ ps. ps) (omega arith) (omega arith) (λ j h ps f. position-field j a w ss ps f) no_more no-more

  position-fields : (f : List ℕ) (fs : List (List ℕ)) → by_fields (half 10 Empty a w false 0 ss (replicate 6 (pos 0))) (f ∷ fs) ≡ with_positions a w ss (lent_positions (f ∷ fs))
  unfolding lent_positions
  position-fields f fs =
      run-fields (pos 0) 6 10 lent_number a w (λ _. ss) (λ ps. ps) (omega arith) (omega arith) (λ j h ps f. position-field j a w ss ps f) no_more no-more fs f 0 [] refl (omega arith)
      ∙ ap (λ o. ends_with o (drop 6 (f ∷ fs))) (behind-none (each_of lent_number (take 6 (f ∷ fs))))
      ∙ either (λ y. ends_with (each_of lent_number (take 6 (f ∷ fs))) (drop 6 (f ∷ fs)) ≡ with_positions a w ss y) (leb (length (f ∷ fs)) 6)
      (λ e. let h = leb-true (length (f ∷ fs)) 6 e in rw (take_all 6 (f ∷ fs) h, drop_of_length-le (f ∷ fs) h) (few (each_of lent_number (f ∷ fs))))
      (λ e. many (each_of lent_number (take 6 (f ∷ fs))) (drop 6 (f ∷ fs)) (let h = leb-false (length (f ∷ fs)) 6 e in let d = length-drop 6 (f ∷ fs) in omega arith))
    where
      few : (o : Option (List ℤ)) → ends_with o [] ≡ with_positions a w ss o
      few (Some ps) = refl
      few None = refl

      many : (o : Option (List ℤ)) (gs : List (List ℕ)) → 1 ≤ length gs → ends_with o gs ≡ None
      many o [] h = absurd (omega arith)
      many (Some ps) (g ∷ gs) h = refl
      many None (g ∷ gs) h = refl

-- ---- the readings

module _ (a : Bool) (w : ℕ) where
  abbrev nowhere : List ℤ
  nowhere = replicate 6 (pos 0)

  abbrev positions_behind : List Reading → List ℕ → List (List ℕ) → Option Lent
  positions_behind ss g gs = with_positions a w ss (lent_positions (g ∷ gs))

  to-positions : (us : List Reading) (r : HalfLine) (k : ℕ) → k + 1 ≡ 8 → r.stage ≡ Endable → closed r ≡ half (k + 2) Endable a w false 0 us nowhere → (g : List ℕ) (gs : List (List ℕ)) → by_fields (read_byte r SPACE) (g ∷ gs) ≡ positions_behind us g gs
  to-positions us r k e s h g gs =
      let n : k + 2 + 1 ≡ 10 = omega arith in
      rw (closed-space (k + 2) a w us nowhere r (omega arith) s h, n) (position-fields a w us g gs)

  reading-fields : (f : List ℕ) (fs : List (List ℕ)) → by_fields (half 2 Empty a w false 0 (replicate 8 left_off) nowhere) (f ∷ fs) ≡ lent_of (Some a) (Some w) (readings_of (f ∷ fs)) (positions_of (f ∷ fs))
  unfolding lent_positions each_of
  reading-fields f fs =
      run-fields left_off 8 2 lent_reading a w (λ ss. ss) (λ _. nowhere) (omega arith) (omega arith) (λ j h ss f. reading-field j h a w ss nowhere f) positions_behind to-positions fs f 0 [] refl (omega arith)
      ∙ rw (behind-none (readings_of (f ∷ fs))) (come (readings_of (f ∷ fs)) (drop 8 (f ∷ fs)))
    where
      come : (o : Option (List Reading)) (gs : List (List ℕ)) → ends left_off 8 2 lent_reading a w (λ ss. ss) (λ _. nowhere) (omega arith) (omega arith) (λ j h ss f. reading-field j h a w ss nowhere f) positions_behind to-positions o gs ≡ lent_of (Some a) (Some w) o (lent_positions gs)
      come None gs = refl
      come (Some rs) [] = refl
      come (Some rs) (g ∷ gs) = with-those (lent_positions (g ∷ gs))
        where
          with-those : (o : Option (List ℤ)) → with_positions a w (filled 8 left_off rs) o ≡ lent_of (Some a) (Some w) (Some rs) o
          with-those (Some ps) = refl
          with-those None = refl

-- ---- the line

-- a mode alone
mode-alone : (r : HalfLine) → (closed r).field ≡ 0 → read_lent r ≡ None
unfolding read_lent
mode-alone r h =
    let f = closed-field r in
    either (λ (y : Option Lent). y ≡ None) (is_endable (closed r).stage && leb 1 r.field) (λ e. absurd (omega (arith, leb-true 1 r.field (both (is_endable (closed r).stage) _ e).1))) (λ e. refl)

module _ (a : Bool) where
  abbrev before_word : HalfLine
  before_word = half 1 Empty a 0 false 0 (replicate 8 left_off) (replicate 6 (pos 0))

  no_word : (rs : Option (List Reading)) (ps : Option (List ℤ)) → lent_of (Some a) None rs ps ≡ None
  no_word rs ps = refl

  word_fields : (w : List ℕ) (fs : List (List ℕ)) → by_fields before_word (w ∷ fs) ≡ lent_of (Some a) (word_of w) (readings_of fs) (positions_of fs)
  unfolding by_fields each_of lent_positions
  word_fields w fs =
      by_option (by_fields before_word (w ∷ fs) ≡ lent_of (Some a) (word_of w) (readings_of fs) (positions_of fs)) (word_of w)
      (λ e. let c = rw e at (word-field a 0 (replicate 8 left_off) (replicate 6 (pos 0)) w) in rw (unclosed-fields before_word w fs c, e))
      (λ x e. rw e (behind x (rw e at (word-field a 0 (replicate 8 left_off) (replicate 6 (pos 0)) w)) fs))
    where
      behind : (x : ℕ) → Closes (field_on before_word w) (Some (half 1 Endable a x false 0 (replicate 8 left_off) (replicate 6 (pos 0)))) → (fs : List (List ℕ)) →
          by_fields before_word (w ∷ fs) ≡ lent_of (Some a) (Some x) (readings_of fs) (positions_of fs)
      behind x c [] = closed-lent 1 a x (replicate 8 left_off) (replicate 6 (pos 0)) (field_on before_word w) (omega arith) c.1
      behind x c (g ∷ gs) =
          rw (closed-space 1 a x (replicate 8 left_off) (replicate 6 (pos 0)) (field_on before_word w) (omega arith) c.0 c.1) (reading-fields a x g gs)

line-fields : (fs : List (List ℕ)) → by_fields no_half_line fs ≡ fields_lent fs
unfolding by_fields fields_lent
line-fields [] = refl
line-fields (m ∷ []) =
    by_option (read_lent (field_on no_half_line m) ≡ None) (mode_of m)
    (λ e. unclosed-lent (field_on no_half_line m) (rw e at (mode-field false 0 (replicate 8 left_off) (replicate 6 (pos 0)) m)))
    (λ a e. let c = rw e at (mode-field false 0 (replicate 8 left_off) (replicate 6 (pos 0)) m) in mode-alone (field_on no_half_line m) (ap (λ (y : HalfLine). y.field) c.1))
line-fields (m ∷ w ∷ fs) =
    by_option (by_fields no_half_line (m ∷ w ∷ fs) ≡ lent_of (mode_of m) (word_of w) (readings_of fs) (positions_of fs)) (mode_of m)
    (λ e. rw (unclosed-fields no_half_line m (w ∷ fs) (rw e at (mode-field false 0 (replicate 8 left_off) (replicate 6 (pos 0)) m)), e))
    (λ a e. let c = rw e at (mode-field false 0 (replicate 8 left_off) (replicate 6 (pos 0)) m) in
    rw (closed-space 0 a 0 (replicate 8 left_off) (replicate 6 (pos 0)) (field_on no_half_line m) (omega arith) c.0 c.1, e) (word_fields a w fs))

-- a line lends what it says, if that is a beat
pub lent-last : (l : List ℕ) → read_lent (read_on no_half_line l) ≡ line_lent l
unfolding line_lent
lent-last l = read-fields no_half_line l ∙ line-fields (fields l)
