-- A line behind the line * read byte by byte says what it says as a whole: PE, RS, a beat, or nothing. Assumes nothing.
use Rattle.std.specs.Prelude.{◌≡◌, refl, Bool, true, false, ◌&&◌, ◌||◌, List, [], ◌∷◌, ◌↔◌, ℕ, ◌+◌, ◌*◌, eqb, leb, ltb, None, Some}
use Rattle.std.proofs.Common.{sym, ap, ◌∙◌, arith}
use Rattle.std.proofs.Math.Bool.{and-false}
use borrow.Author.Tests.{eqb-true, eq-eqb, ne_eqb}
use Rattle.values.specs.Choice.{decide, either, either-cond, contrary, and-true}
use Rattle.values.specs.Numbers.{clash}
use Rattle.text.specs.Byte.{bytes, CR, SPACE, is_digit}
use Rattle.text.specs.Lines.{without_return}
use Rattle.text.specs.Word.{same_bytes}
use Rattle.transcript.specs.declared.beat_line.HalfLine.{HalfLine}
use Rattle.transcript.specs.declared.beat_line.Stage.{Stage}
use Rattle.transcript.specs.declared.beat_line.Stage.TheVariants.{Empty, Open, Endable, Ill, Return, PRead, PeRead, PeReturn, RRead, RsRead, RsReturn, Unknown}
use Rattle.transcript.specs.declared.beat_line.Said.TheVariants.{ProgramEnd, ControlReset}
use Rattle.transcript.specs.BeatLine.{is_hex, hex_digit, says_beat, line_lent, line_said}
use Rattle.transcript.specs.HalfLine.{no_half_line, is_empty, is_endable, is_past, ill_formed, with_stage, closed, space_after, letter_stage, followed, call_stage, mode_byte, minus_byte, digit_byte, number_byte, is_reading, reading_stage, digits_so_far, hex_byte, reading_byte, field_byte, read_byte, read_on, is_untouched, without_cr, read_lent, read_said}
use Rattle.sessions.specs.HalfLineLaws.{Past, endable-is, past-ends, past-read, call-high, letter-high, bad-closes, unclosed-lent, stage-on, lent-last}

-- ---- stages

-- of a line that is not whole as PE or RS
abbrev is_unsaid : Stage → Bool
is_unsaid PeRead = false
is_unsaid RsRead = false
is_unsaid _ = true

-- nor begins so
abbrev is_calm : Stage → Bool
is_calm PRead = false
is_calm RRead = false
is_calm PeRead = false
is_calm RsRead = false
is_calm _ = true

-- nothing may follow: the line is ill-formed, a CR stands behind it, or its stage is none of a line's
abbrev is_dead : Stage → Bool
is_dead Ill = true
is_dead Return = true
is_dead PeReturn = true
is_dead RsReturn = true
is_dead (Unknown k) = true
is_dead _ = false

-- no CR stands behind the line
abbrev is_bare : Stage → Bool
is_bare Return = false
is_bare PeReturn = false
is_bare RsReturn = false
is_bare _ = true

-- a field is under way, or the line is ill-formed
abbrev is_low : Stage → Bool
is_low Empty = true
is_low Open = true
is_low Endable = true
is_low Ill = true
is_low _ = false

abbrev Unsaid : Stage → Type 0
Unsaid s = is_unsaid s ≡ true

abbrev Calm : Stage → Type 0
Calm s = is_calm s ≡ true

abbrev Dead : Stage → Type 0
Dead s = is_dead s ≡ true

abbrev Bare : Stage → Type 0
Bare s = is_bare s ≡ true

abbrev Low : Stage → Type 0
Low s = is_low s ≡ true

low-calm : (s : Stage) → Low s → Calm s
low-calm Empty h = refl
low-calm Open h = refl
low-calm Endable h = refl
low-calm Ill h = refl
low-calm _ h = clash (cc)

low-bare : (s : Stage) → Low s → Bare s
low-bare Return h = clash (cc)
low-bare PeReturn h = clash (cc)
low-bare RsReturn h = clash (cc)
low-bare _ h = refl

dead-past : (s : Stage) → Dead s → is_past s ≡ true
dead-past Empty h = clash (cc)
dead-past Open h = clash (cc)
dead-past Endable h = clash (cc)
dead-past _ h = refl

dead-calm : (s : Stage) → Dead s → Calm s
dead-calm Ill h = refl
dead-calm Return h = refl
dead-calm PeReturn h = refl
dead-calm RsReturn h = refl
dead-calm (Unknown k) h = refl
dead-calm _ h = clash (cc)

calm-unsaid : (s : Stage) → Calm s → Unsaid s
calm-unsaid PeRead h = clash (cc)
calm-unsaid RsRead h = clash (cc)
calm-unsaid _ h = refl

-- ---- the next stage of a call

-- one of these
call-cases : (P : Stage → Type 0) (s : Stage) (b : ℕ) → P Ill → P PeRead → P RsRead → (eqb b CR ≡ true → P PeReturn × P RsReturn) → P (call_stage s b)
unfolding call_stage
call-cases P PRead b ill end reset return = either-cond P (eqb b 69) PeRead Ill end ill
call-cases P RRead b ill end reset return = either-cond P (eqb b 83) RsRead Ill reset ill
call-cases P PeRead b ill end reset return = decide (P (followed b CR PeReturn)) (eqb b CR) (λ e. rw e (return e).0) (λ e. rw e ill)
call-cases P RsRead b ill end reset return = decide (P (followed b CR RsReturn)) (eqb b CR) (λ e. rw e (return e).1) (λ e. rw e ill)
call-cases P _ b ill end reset return = ill

-- behind both letters nothing but a CR
call-dead : (s : Stage) (b : ℕ) → (s ≡ PRead → ⊥) → (s ≡ RRead → ⊥) → Dead (call_stage s b)
unfolding call_stage
call-dead PRead b p q = absurd (p refl)
call-dead RRead b p q = absurd (q refl)
call-dead PeRead b p q = either-cond Dead (eqb b CR) PeReturn Ill refl refl
call-dead RsRead b p q = either-cond Dead (eqb b CR) RsReturn Ill refl refl
call-dead _ b p q = refl

-- and behind that nothing
call-ill : (s : Stage) (b : ℕ) → Calm s → call_stage s b ≡ Ill
unfolding call_stage
call-ill PRead b c = clash (cc)
call-ill RRead b c = clash (cc)
call-ill PeRead b c = clash (cc)
call-ill RsRead b c = clash (cc)
call-ill _ b c = refl

-- a CR stands behind both letters only
call-return : (s : Stage) → Unsaid s → call_stage s CR ≡ Ill
unfolding call_stage
call-return PeRead u = clash (cc)
call-return RsRead u = clash (cc)
call-return _ u = refl

high_byte : (r : HalfLine) (b : ℕ) → Past r → read_byte r b ≡ with_stage r (call_stage r.stage b)
unfolding read_byte
high_byte r b h = simp (read_byte, h)

-- ---- a line of which nothing more can come

dead-byte : (r : HalfLine) (b : ℕ) → Dead r.stage → (read_byte r b).stage ≡ Ill
dead-byte r b d = rw (high_byte r b (dead-past r.stage d)) (call-ill r.stage b (dead-calm r.stage d))

dead-next : (r : HalfLine) (b : ℕ) → Dead r.stage → Dead (read_byte r b).stage
dead-next r b d = rw (dead-byte r b d) refl

dead-on : (r : HalfLine) (l : List ℕ) → Dead r.stage → Dead (read_on r l).stage
unfolding read_on
dead-on r [] d = d
dead-on r (b ∷ bs) d = dead-on (read_byte r b) bs (dead-next r b d)

-- a line that is no call says what it lends
plain-said : (r : HalfLine) → Unsaid r.stage → read_said r ≡ says_beat (read_lent r)
unfolding read_said
plain-said r u = go r.stage u
  where
    go : (s : Stage) → Unsaid s → elim s [ PeRead ↦ Some ProgramEnd | RsRead ↦ Some ControlReset | _ ↦ says_beat (read_lent r) ] ≡ says_beat (read_lent r)
    go PeRead k = clash (cc)
    go RsRead k = clash (cc)
    go _ k = refl

-- it says nothing
nothing_said : (r : HalfLine) → (r.stage ≡ Endable → ⊥) → Unsaid r.stage → read_said r ≡ None
unfolding read_said
nothing_said r h u = plain-said r u ∙ ap says_beat (unclosed-lent r (bad-closes r h))

dead-said : (r : HalfLine) → Dead r.stage → read_said r ≡ None
dead-said r d = nothing_said r (past-ends (dead-past r.stage d)) (calm-unsaid r.stage (dead-calm r.stage d))

no_return : (r : HalfLine) → Bare r.stage → without_cr r ≡ r
unfolding without_cr
no_return r h = go r.stage h
  where
    go : (s : Stage) → Bare s → elim s [ Return ↦ with_stage r Endable | PeReturn ↦ with_stage r PeRead | RsReturn ↦ with_stage r RsRead | _ ↦ r ] ≡ r
    go Return k = clash (cc)
    go PeReturn k = clash (cc)
    go RsReturn k = clash (cc)
    go _ k = refl

-- whether an LF stands behind it or not
dead_end : (r : HalfLine) (b : ℕ) (bs : List ℕ) → Dead r.stage → read_said (without_cr (read_on r (b ∷ bs))) ≡ None
unfolding read_on
dead_end r b [] d =
    rw (no_return (read_byte r b) (low-bare (read_byte r b).stage (ap is_low (dead-byte r b d)))) (dead-said (read_byte r b) (dead-next r b d))
dead_end r b (c ∷ cs) d = dead_end (read_byte r b) c cs (dead-next r b d)

-- ---- a byte that is no CR

stage-low : (v : ℕ) → Low (reading_stage v)
unfolding reading_stage
stage-low v = either Low (eqb v 27 || leb 4294967296 v) (λ e. refl) (λ e. refl)

-- a byte of a reading is read, or the line is ill-formed
reading-touched : (r : HalfLine) (b : ℕ) → (is_empty (reading_byte r b).stage ≡ false) × Low (reading_byte r b).stage
unfolding reading_byte hex_byte
reading-touched r b =
    let P : HalfLine → Type 0 = λ y. (is_empty y.stage ≡ false) × Low y.stage in
    let on : (v : ℕ) → (is_empty (reading_stage v) ≡ false) × Low (reading_stage v) = λ v. ((stage-on v).0, stage-low v) in
    either P (is_hex b) (λ e. either P (ltb (digits_so_far r) 4294967296) (λ g. on (digits_so_far r * 16 + hex_digit b)) (λ g. (refl, refl))) (λ e. either P (eqb b 83 && is_empty r.stage) (λ g. on 8589934592) (λ g. (refl, refl)))

-- what holds of the stages of a field, of those that its first byte may lead to, and of those behind a call's
byte-cases : (P : Stage → Type 0) (r : HalfLine) (b : ℕ) → eqb b CR ≡ false → ((s : Stage) → Low s → P s) → (Past r → P (call_stage r.stage b)) → (r.field ≡ 0 → is_empty r.stage ≡ true → P (letter_stage b)) → P (read_byte r b).stage
unfolding read_byte space_after field_byte mode_byte number_byte minus_byte digit_byte
byte-cases P r b h low call letter =
    let Q : HalfLine → Type 0 = λ y. P y.stage in
    let none_read = low Empty refl in
    let ill = low Ill refl in
    either Q (is_past r.stage) (λ e. call e) λ e.
    either Q (eqb b SPACE) (λ g. either Q (is_endable (closed r).stage && ltb (closed r).field 15) (λ k. none_read) (λ k. ill)) λ g.
    either Q (eqb b CR) (λ k. clash (cc)) λ k.
    either Q (eqb r.field 0) (λ z. either Q (is_empty r.stage) (λ y. either Q (eqb b 65 || eqb b 77) (λ m. low Endable refl) (λ m. letter (eqb-true r.field 0 z) y)) (λ y. ill)) λ z.
    either Q (is_reading r.field) (λ k. low (reading_byte r b).stage (reading-touched r b).1) λ y.
    either Q (is_digit b) (λ d. low Endable refl) λ d.
    either Q (eqb b 45) (λ m. either Q (is_empty r.stage && leb 2 r.field) (λ y. low Open refl) (λ y. ill)) (λ m. ill)

letter-bare : (b : ℕ) → Bare (letter_stage b)
unfolding letter_stage
letter-bare b = either-cond Bare (eqb b 80) PRead _ refl (either-cond Bare (eqb b 82) RRead Ill refl refl)

-- leaves none behind the line
other-bare : (r : HalfLine) (b : ℕ) → eqb b CR ≡ false → Bare (read_byte r b).stage
other-bare r b h = byte-cases Bare r b h low-bare (λ g. call-cases Bare r.stage b refl refl refl (λ e. clash (cc))) (λ f g. letter-bare b)

-- ---- a CR

-- the stage behind it
return-stage : (P : Stage → Type 0) (r : HalfLine) → P Ill → (r.stage ≡ Endable → P Return) → (Past r → P (call_stage r.stage CR)) → P (read_byte r CR).stage
unfolding read_byte
return-stage P r ill end call =
    let Q : HalfLine → Type 0 = λ y. P y.stage in
    either Q (is_past r.stage) (λ e. call e) λ e.
    either Q (is_endable r.stage) (λ g. end (endable-is r.stage g)) (λ g. ill)

return-dead : (r : HalfLine) → Dead (read_byte r CR).stage
unfolding call_stage
return-dead r = return-stage Dead r refl (λ e. refl) (λ h. by_call r.stage)
  where
    by_call : (s : Stage) → Dead (call_stage s CR)
    by_call PeRead = refl
    by_call RsRead = refl
    by_call _ = refl

end-byte : (r : HalfLine) → r.stage ≡ Endable → read_byte r CR ≡ with_stage r Return
unfolding read_byte
end-byte r q = rw q

-- at the end of the line it is dropped
same-stage : (r : HalfLine) (s : Stage) → r.stage ≡ s → with_stage r s ≡ r
same-stage r s q = λ i. record { field = r.field; stage = sym q i; automatic = r.automatic; word = r.word; negative = r.negative; value = r.value; sent = r.sent; positions = r.positions }

return-last : (r : HalfLine) → read_said (without_cr (read_byte r CR)) ≡ read_said r
unfolding call_stage without_cr
return-last r = go r.stage refl
  where
    from-two : r.stage ≡ Endable → without_cr (read_byte r CR) ≡ r
    from-two q = ap without_cr (end-byte r q) ∙ same-stage r Endable q

    from-call : {s n : Stage} → r.stage ≡ s → is_past s ≡ true → without_cr (with_stage r (call_stage s CR)) ≡ with_stage r n → without_cr (read_byte r CR) ≡ with_stage r n
    from-call q h e = ap without_cr (high_byte r CR (rw q h) ∙ ap (λ (s : Stage). with_stage r (call_stage s CR)) q) ∙ e

    from-other : (r.stage ≡ Endable → ⊥) → Unsaid r.stage → read_said (without_cr (read_byte r CR)) ≡ read_said r
    from-other two u =
        let ill : (read_byte r CR).stage ≡ Ill = return-stage (λ (y : Stage). y ≡ Ill) r refl (λ z. absurd (two z)) (λ z. call-return r.stage u) in
        ap read_said (no_return (read_byte r CR) (low-bare (read_byte r CR).stage (ap is_low ill))) ∙ dead-said (read_byte r CR) (return-dead r) ∙ sym (nothing_said r two u)

    go : (s : Stage) → r.stage ≡ s → read_said (without_cr (read_byte r CR)) ≡ read_said r
    go Endable q = ap read_said (from-two q)
    go PeRead q = ap read_said (from-call {n = PeRead} q refl refl ∙ same-stage r PeRead q)
    go RsRead q = ap read_said (from-call {n = RsRead} q refl refl ∙ same-stage r RsRead q)
    go _ q = from-other (λ z. let y = sym q ∙ z in cc) (ap is_unsaid q)

returned : (r : HalfLine) (l : List ℕ) → Bare r.stage → read_said (without_cr (read_on r l)) ≡ read_said (read_on r (without_return l))
unfolding read_on without_return
returned r [] h = ap read_said (no_return r h)
returned r (b ∷ []) h =
    either (λ (y : List ℕ). read_said (without_cr (read_byte r b)) ≡ read_said (read_on r y)) (eqb b CR)
    (λ e. let q = eqb-true b CR e in rw q (return-last r))
    (λ e. ap read_said (no_return (read_byte r b) (other-bare r b e)))
returned r (b ∷ c ∷ cs) h =
    decide (read_said (without_cr (read_on (read_byte r b) (c ∷ cs))) ≡ read_said (read_on (read_byte r b) (without_return (c ∷ cs)))) (eqb b CR)
    (λ e. let q = eqb-true b CR e in
    let d : Dead (read_byte r b).stage = rw q (return-dead r) in
    dead_end (read_byte r b) c cs d ∙ sym (dead-said (read_on (read_byte r b) (without_return (c ∷ cs))) (dead-on (read_byte r b) (without_return (c ∷ cs)) d)))
    (λ e. returned (read_byte r b) (c ∷ cs) (other-bare r b e))

-- ---- a beat line says no call

-- a line of which something was read
touched : (r : HalfLine) (b : ℕ) → is_untouched (read_byte r b) ≡ false
unfolding read_byte space_after field_byte mode_byte number_byte minus_byte digit_byte is_untouched
touched r b =
    let P : HalfLine → Type 0 = λ y. (eqb y.field 0 && is_empty y.stage) ≡ false in
    let read : (y : HalfLine) → is_empty y.stage ≡ false → P y = λ y h. rw h (and-false (eqb y.field 0)) in
    either P (is_past r.stage) (λ e. read (with_stage r (call_stage r.stage b)) (past-read (call_stage r.stage b) (call-high r.stage b))) λ e.
    either P (eqb b SPACE) (λ g. either P (is_endable (closed r).stage && ltb (closed r).field 15) (λ k. rw (ne_eqb ((closed r).field + 1) 0 (λ z. omega arith))) (λ k. read (ill_formed (closed r)) refl)) λ g.
    either P (eqb b CR) (λ k. either P (is_endable r.stage) (λ y. read (with_stage r Return) refl) (λ y. read (ill_formed r) refl)) λ k.
    either P (eqb r.field 0)
    (λ z. either P (is_empty r.stage) (λ y. either P (eqb b 65 || eqb b 77) (λ m. and-false (eqb r.field 0)) (λ m. read (with_stage r (letter_stage b)) (past-read (letter_stage b) (letter-high b)))) (λ y. read (ill_formed r) refl)) λ z.
    either P (is_reading r.field) (λ k. read (reading_byte r b) (reading-touched r b).0) λ y.
    either P (is_digit b) (λ d. read (digit_byte r b) refl) λ d.
    either P (eqb b 45) (λ m. either P (is_empty r.stage && leb 2 r.field) (λ y. and-false (eqb r.field 0)) (λ y. read (ill_formed r) refl)) (λ m. read (ill_formed r) refl)

-- and that does not begin as a call
pub record Quiet (r : HalfLine) : Type 0 where
  pub begun : is_untouched r ≡ false
  pub calm : Calm r.stage

-- no first letter follows in it
quiet-letter : (r : HalfLine) → is_untouched r ≡ false → r.field ≡ 0 → is_empty r.stage ≡ true → ⊥
unfolding is_untouched
quiet-letter r h f e = contrary (and-true (eq-eqb r.field 0 f) e) h

quiet-calm : (r : HalfLine) (b : ℕ) → Quiet r → Calm (read_byte r b).stage
quiet-calm r b q =
    let call : Calm (call_stage r.stage b) = ap is_calm (call-ill r.stage b q.calm) in
    decide (Calm (read_byte r b).stage) (eqb b CR)
    (λ e. let c = eqb-true b CR e in rw c (dead-calm (read_byte r CR).stage (return-dead r)))
    (λ e. byte-cases Calm r b e low-calm (λ z. call) (λ f g. absurd (quiet-letter r q.begun f g)))

quiet-on : (r : HalfLine) (l : List ℕ) → Quiet r → Quiet (read_on r l)
unfolding read_on
quiet-on r [] q = q
quiet-on r (b ∷ bs) q = quiet-on (read_byte r b) bs (record { begun = touched r b; calm = quiet-calm r b q })

-- ---- what a line says

plain-line : (l : List ℕ) → same_bytes l (bytes "PE") ≡ false → same_bytes l (bytes "RS") ≡ false → line_said l ≡ says_beat (line_lent l)
unfolding line_said
plain-line l p q = simp (line_said, p, q)

-- a line that is no call
no_call : (l : List ℕ) → Unsaid (read_on no_half_line l).stage → same_bytes l (bytes "PE") ≡ false → same_bytes l (bytes "RS") ≡ false → read_said (read_on no_half_line l) ≡ line_said l
no_call l u p q = plain-said (read_on no_half_line l) u ∙ ap says_beat (lent-last l) ∙ sym (plain-line l p q)

-- two bytes behind the first letter of a call
two-more : (r : HalfLine) (c d : ℕ) → Past r → Dead (read_byte (read_byte r c) d).stage
two-more r c d h =
    let s = call_stage r.stage c in
    let P : Stage → Type 0 = λ y. (y ≡ PRead → ⊥) × (y ≡ RRead → ⊥) in
    let first : P s = call-cases P r.stage c (λ e. cc, λ e. cc) (λ e. cc, λ e. cc) (λ e. cc, λ e. cc) (λ e. ((λ e. cc, λ e. cc), (λ e. cc, λ e. cc))) in
    rw (high_byte r c h, high_byte (with_stage r s) d (call-high r.stage c)) (call-dead s d first.0 first.1)

dead-unsaid : (s : Stage) → Dead s → Unsaid s
dead-unsaid s d = calm-unsaid s (dead-calm s d)

-- a line that begins with P
p-line : (bs : List ℕ) → read_said (read_on no_half_line (80 ∷ bs)) ≡ line_said (80 ∷ bs)
unfolding read_on read_byte field_byte mode_byte letter_stage call_stage read_said line_said
p-line [] = no_call (80 ∷ []) refl refl refl
p-line (c ∷ []) =
    decide (read_said (read_on no_half_line (80 ∷ c ∷ [])) ≡ line_said (80 ∷ c ∷ [])) (eqb c 69)
    (λ e. let q = eqb-true c 69 e in rw q)
    (λ e. no_call (80 ∷ c ∷ []) (rw e) (rw e) refl)
p-line (c ∷ d ∷ ds) =
    let r = read_byte no_half_line 80 in
    let x = read_byte (read_byte r c) d in
    no_call (80 ∷ c ∷ d ∷ ds) (dead-unsaid (read_on x ds).stage (dead-on x ds (two-more r c d refl))) (and-false (eqb c 69)) refl

-- with R
r-line : (bs : List ℕ) → read_said (read_on no_half_line (82 ∷ bs)) ≡ line_said (82 ∷ bs)
unfolding read_on read_byte field_byte mode_byte letter_stage call_stage read_said line_said
r-line [] = no_call (82 ∷ []) refl refl refl
r-line (c ∷ []) =
    decide (read_said (read_on no_half_line (82 ∷ c ∷ [])) ≡ line_said (82 ∷ c ∷ [])) (eqb c 83)
    (λ e. let q = eqb-true c 83 e in rw q)
    (λ e. no_call (82 ∷ c ∷ []) (rw e) refl (rw e))
r-line (c ∷ d ∷ ds) =
    let r = read_byte no_half_line 82 in
    let x = read_byte (read_byte r c) d in
    no_call (82 ∷ c ∷ d ∷ ds) (dead-unsaid (read_on x ds).stage (dead-on x ds (two-more r c d refl))) refl (and-false (eqb c 83))

-- with another byte
first-quiet : (b : ℕ) → eqb b 80 ≡ false → eqb b 82 ≡ false → Quiet (read_byte no_half_line b)
first-quiet b p q = record { begun = touched no_half_line b; calm = calm }
  where
    letter : Calm (letter_stage b)
    letter = unfold letter_stage in rw (p, q)

    calm : Calm (read_byte no_half_line b).stage
    calm =
        decide (Calm (read_byte no_half_line b).stage) (eqb b CR)
        (λ e. let c = eqb-true b CR e in rw c (dead-calm (read_byte no_half_line CR).stage (return-dead no_half_line)))
        (λ e. byte-cases Calm no_half_line b e low-calm (λ z. clash (cc)) (λ f g. letter))

-- the last line, without an LF: it says what it says as a whole
pub said-last : (l : List ℕ) → read_said (read_on no_half_line l) ≡ line_said l
unfolding read_on
said-last [] = no_call [] refl refl refl
said-last (b ∷ bs) =
    decide (read_said (read_on no_half_line (b ∷ bs)) ≡ line_said (b ∷ bs)) (eqb b 80) (λ e. let q = eqb-true b 80 e in rw q (p-line bs)) λ e.
    decide (read_said (read_on no_half_line (b ∷ bs)) ≡ line_said (b ∷ bs)) (eqb b 82) (λ g. let q = eqb-true b 82 g in rw q (r-line bs)) λ g.
    let c = (quiet-on (read_byte no_half_line b) bs (first-quiet b e g)).calm in
    no_call (b ∷ bs) (calm-unsaid (read_on (read_byte no_half_line b) bs).stage c) (rw e) (rw g)

-- a line behind which an LF stood says what it says without its CR
pub said-ended : (l : List ℕ) → read_said (without_cr (read_on no_half_line l)) ≡ line_said (without_return l)
said-ended l = returned no_half_line l refl ∙ said-last (without_return l)

-- ---- a line of which nothing was read

touched-on : (r : HalfLine) (l : List ℕ) → is_untouched r ≡ false → is_untouched (read_on r l) ≡ false
unfolding read_on
touched-on r [] h = h
touched-on r (b ∷ bs) h = touched-on (read_byte r b) bs (touched r b)

pub untouched : (l : List ℕ) → (is_untouched (read_on no_half_line l) ≡ true) ↔ (l ≡ [])
unfolding read_on is_untouched
untouched [] = ((λ h. refl), (λ h. refl))
untouched (b ∷ bs) = ((λ h. let q = touched-on (read_byte no_half_line b) bs (touched no_half_line b) in clash (cc)), (λ h. clash (cc)))
