-- A session prints what the definition says, whatever the pieces of its input. Assumes nothing.
use Rattle.std.specs.Prelude.{◌≡◌, refl, true, false, List, [], ◌∷◌, ◌++◌, ℕ, ◌+◌, min, ◌≤◌, eqb, leb, length, take, set, None, Some}
use Rattle.std.proofs.Common.{sym, ap, ◌∙◌, append_assoc, arith, length-append, length-set, leb-true, leb-false}
use Rattle.values.specs.Choice.{decide, either, either_both}
use Rattle.values.specs.Numbers.{clash}
use Rattle.text.specs.Byte.{LF}
use Rattle.text.specs.Lines.{before, split, text_lines}
use Rattle.text.specs.LinesLaws.{split-some}
use Rattle.values.specs.PutAt.{put_at}
use Rattle.values.specs.PutLaws.{put-length, put-past, put-join}
use Rattle.transcript.specs.declared.set_text.Place.{Place}
use Rattle.transcript.specs.declared.set_text.Star.{Star}
use Rattle.transcript.specs.declared.beat_line.HalfLine.{HalfLine}
use Rattle.transcript.specs.declared.intake.Intake.{Intake}
use Rattle.transcript.specs.declared.intake.Phase.{Phase}
use Rattle.transcript.specs.declared.intake.Phase.TheVariants.{Text, Beats}
use Rattle.reader.specs.Load.{load_answer}
use Rattle.transcript.specs.HalfLine.{read_byte, read_on}
use Rattle.transcript.specs.Totals.{last_line}
use Rattle.transcript.specs.Tally.{said_counted}
use Rattle.transcript.specs.declared.intake.Arrival.{Arrival}
use Rattle.transcript.specs.declared.intake.Arrival.TheVariants.{Nothing, WholeText, LineCame}
use Rattle.transcript.specs.Intake.{with_place, with_half_line, bytes_kept, text_line_kept, line_over, line_kept}
use Rattle.transcript.specs.IntakeLaws.{text-bytes, text-bytes-kept, beats-bytes, beats-bytes-kept, else-bytes, else-bytes-kept}
use Rattle.transcript.specs.Machine.{Machine, Fed, opened, said_of, said_end, arrival_worked, keeping, chunk, line_end, behind, fed_lines}
use Rattle.transcript.specs.SetText.{kept_size, star_after, star_on, star_ends, place_on}
use Rattle.transcript.specs.SessionRoomLaws.{by_code}

-- ---- bytes of a line, in two parts

read-append : (r : HalfLine) (l k : List ℕ) → read_on r (l ++ k) ≡ read_on (read_on r l) k
unfolding read_on
read-append r [] k = refl
read-append r (b ∷ bs) k = read-append (read_byte r b) bs k

star-append : (s : Star) (l k : List ℕ) → star_on s (l ++ k) ≡ star_on (star_on s l) k
unfolding star_on
star-append s [] k = refl
star-append s (b ∷ bs) k = star-append (star_after s b) bs k

place-append : (p : Place) (l k : List ℕ) → place_on p (l ++ k) ≡ place_on (place_on p l) k
unfolding place_on
place-append p l k =
    let e : min kept_size (p.size + (length l + length k)) ≡ min kept_size (min kept_size (p.size + length l) + length k) = omega arith in
    rw (length-append l k, e, star-append p.star l k)

-- a text that is no longer than what is kept
abbrev pub Held : Machine → Type 0
Held m = length m.text ≤ kept_size

pub text-append : (s : List ℕ) (p : ℕ) (l k : List ℕ) → length s ≤ kept_size → put_at s p (l ++ k) ≡ put_at (put_at s p l) (min kept_size (p + length l)) k
text-append s p l k h =
    decide (put_at s p (l ++ k) ≡ put_at (put_at s p l) (min kept_size (p + length l)) k) (leb (p + length l) kept_size)
    (λ e. let i = leb-true (p + length l) kept_size e in let q : min kept_size (p + length l) ≡ p + length l = omega arith in rw q (put-join l k s p (p + length l) refl))
    (λ e. let i = leb-false (p + length l) kept_size e in
    let n = put-length l s p in
    put-join l k s p (p + length l) refl ∙ put-past k (put_at s p l) (p + length l) (omega arith) ∙ sym (put-past k (put_at s p l) (min kept_size (p + length l)) (omega arith)))

-- by the phase
abbrev text_on : Machine → List ℕ → Machine
text_on m l = let x = m.session.intake in keeping m (put_at m.text x.place.size l) (with_place x (place_on x.place l))

abbrev beats_on : Machine → List ℕ → Machine
beats_on m l = let x = m.session.intake in keeping m m.text (with_half_line x (read_on x.half l))

module _ (m : Machine) (l : List ℕ) where
  pub chunk-text : m.session.intake.phase ≡ Text → chunk m l ≡ text_on m l
  unfolding chunk
  chunk-text h = let x = m.session.intake in rw (text-bytes x h l, text-bytes-kept x h m.text l)

  pub chunk-beats : m.session.intake.phase ≡ Beats → chunk m l ≡ beats_on m l
  unfolding chunk
  chunk-beats h = let x = m.session.intake in rw (beats-bytes x h l, beats-bytes-kept x h m.text l)

  pub chunk-else : (m.session.intake.phase ≡ Text → ⊥) → (m.session.intake.phase ≡ Beats → ⊥) → chunk m l ≡ m
  unfolding chunk
  chunk-else h g = let x = m.session.intake in rw (else-bytes x h g l, else-bytes-kept x h m.text l)

-- what holds in each phase
pub by_phase : (P : Type 0) (p : Phase) → (p ≡ Text → P) → (p ≡ Beats → P) → ((p ≡ Text → ⊥) → (p ≡ Beats → ⊥) → P) → P
by_phase P Text f g h = f refl
by_phase P Beats f g h = g refl
by_phase P _ f g h = h (λ e. cc) (λ e. cc)

-- bytes of a line in two parts are taken as the whole
pub chunk-append : (m : Machine) (l k : List ℕ) → Held m → chunk m (l ++ k) ≡ chunk (chunk m l) k
unfolding place_on
chunk-append m l k h =
    let on : Machine → Machine = λ y. chunk y k in
    by_phase (chunk m (l ++ k) ≡ chunk (chunk m l) k) m.session.intake.phase
    (λ e. chunk-text m (l ++ k) e ∙ in-text ∙ sym (ap on (chunk-text m l e) ∙ chunk-text (text_on m l) k e))
    (λ e. chunk-beats m (l ++ k) e ∙ in-beats ∙ sym (ap on (chunk-beats m l e) ∙ chunk-beats (beats_on m l) k e))
    (λ e g. chunk-else m (l ++ k) e g ∙ sym (chunk-else m k e g) ∙ sym (ap on (chunk-else m l e g)))
  where
    in-text : text_on m (l ++ k) ≡ text_on (text_on m l) k
    in-text = let x = m.session.intake in λ i. keeping m (text-append m.text x.place.size l k h i) (with_place x (place-append x.place l k i))

    in-beats : beats_on m (l ++ k) ≡ beats_on (beats_on m l) k
    in-beats = let x = m.session.intake in λ i. keeping m m.text (with_half_line x (read-append x.half l k i))

-- ---- the text stays as long as it is

pub chunk-held : (m : Machine) (l : List ℕ) → length (chunk m l).text ≡ length m.text
unfolding chunk bytes_kept
chunk-held m l =
    let x = m.session.intake in
    elim x.phase as (λ p. length {A = ℕ} (elim p [ Text ↦ put_at m.text x.place.size l | _ ↦ m.text ]) ≡ length m.text) [ Text ↦ put-length l m.text x.place.size | _ ↦ refl ]

-- what comes in is worked without it
arrival-text : (m : Machine) (a : Arrival) → (arrival_worked m a).machine.text ≡ m.text
unfolding arrival_worked opened said_end said_of
arrival-text m Nothing = refl
arrival-text m (WholeText n) = by_code (λ (y : Fed). y.machine.text ≡ m.text) (load_answer (take n m.text)).code (λ e. refl) (λ c e. refl)
arrival-text m (LineCame None) = refl
arrival-text m (LineCame (Some x)) =
    either (λ (y : Fed). y.machine.text ≡ m.text) (eqb (said_counted m.set m.session.totals x).counts.lines last_line) (λ e. refl) (λ e. refl)

kept-held : (x : Intake) (t : List ℕ) → length (line_kept x t) ≡ length t
unfolding line_kept text_line_kept
kept-held x t =
    let ends : List ℕ = elim (star_ends x.place.star) [ true ↦ t | false ↦ set t x.place.size LF ] in
    let same : length ends ≡ length t = either (λ (y : List ℕ). length y ≡ length t) (star_ends x.place.star) (λ g. refl) (λ g. length-set t x.place.size LF) in
    elim x.phase as (λ p. length {A = ℕ} (elim p [ Text ↦ ends | _ ↦ t ]) ≡ length t) [ Text ↦ same | _ ↦ refl ]

pub line-held : (m : Machine) → length (line_end m).machine.text ≡ length m.text
unfolding line_end
line-held m =
    let x = m.session.intake in
    ap length (arrival-text (keeping m (line_kept x m.text) (line_over x).intake) (line_over x).arrival) ∙ kept-held x m.text

-- ---- lines

-- lines behind lines: the last of the first goes on with the first of the others
unfoldable join_lines : List (List ℕ) → List (List ℕ) → List (List ℕ)
join_lines [] ys = ys
join_lines (l ∷ []) [] = l ∷ []
join_lines (l ∷ []) (y ∷ ys) = (l ++ y) ∷ ys
join_lines (l ∷ k ∷ ls) ys = l ∷ join_lines (k ∷ ls) ys

-- there is a line
abbrev AnyLine : List (List ℕ) → Type 0
AnyLine ls = ls ≡ [] → ⊥

join-nil : (ys : List (List ℕ)) → AnyLine ys → join_lines ([] ∷ []) ys ≡ ys
unfolding join_lines
join-nil [] h = absurd (h refl)
join-nil (y ∷ ys) h = refl

join-line : (l : List ℕ) (ls ys : List (List ℕ)) → AnyLine ls → join_lines (l ∷ ls) ys ≡ l ∷ join_lines ls ys
unfolding join_lines
join-line l [] ys h = absurd (h refl)
join-line l (k ∷ ls) ys h = refl

join-before : (b : ℕ) (ls ys : List (List ℕ)) → AnyLine ls → AnyLine ys → join_lines (before b ls) ys ≡ before b (join_lines ls ys)
unfolding join_lines
join-before b [] ys h g = absurd (h refl)
join-before b (l ∷ []) [] h g = refl
join-before b (l ∷ []) (y ∷ ys) h g = refl
join-before b (l ∷ k ∷ ls) ys h g = refl

lines-append : (a b : List ℕ) → text_lines (a ++ b) ≡ join_lines (text_lines a) (text_lines b)
unfolding split
lines-append [] b = sym (join-nil (text_lines b) (split-some LF b))
lines-append (c ∷ cs) b =
    either_both (λ (x y : List (List ℕ)). x ≡ join_lines y (text_lines b)) (eqb c LF)
    (λ e. ap (λ (y : List (List ℕ)). [] ∷ y) (lines-append cs b) ∙ sym (join-line [] (text_lines cs) (text_lines b) (split-some LF cs)))
    (λ e. ap (before c) (lines-append cs b) ∙ sym (join-before c (text_lines cs) (text_lines b) (split-some LF cs) (split-some LF b)))

join-some : (ls ys : List (List ℕ)) → AnyLine ls → AnyLine (join_lines ls ys)
unfolding join_lines
join-some [] ys h g = absurd (h refl)
join-some (l ∷ []) [] h g = clash (cc)
join-some (l ∷ []) (y ∷ ys) h g = clash (cc)
join-some (l ∷ k ∷ ls) ys h g = clash (cc)

-- a line, its LF and what follows
pub fed-line : (m : Machine) (l : List ℕ) (ls : List (List ℕ)) → AnyLine ls → fed_lines m (l ∷ ls) ≡ behind (line_end (chunk m l)).output (fed_lines (line_end (chunk m l)).machine ls)
unfolding fed_lines
fed-line m l [] h = absurd (h refl)
fed-line m l (k ∷ ls) h = refl

-- what was printed before
behind-behind : (o p : List ℕ) (f : Fed) → behind o (behind p f) ≡ behind (o ++ p) f
behind-behind o p f = λ i. record { machine = f.machine; output = sym (append_assoc o p f.output) i }

fed-head : (m : Machine) (l : List ℕ) (ys : List (List ℕ)) (y : List ℕ) → Held m → fed_lines m ((l ++ y) ∷ ys) ≡ fed_lines (chunk m l) (y ∷ ys)
unfolding fed_lines
fed-head m l [] y h = rw (chunk-append m l y h)
fed-head m l (z ∷ zs) y h = rw (chunk-append m l y h)

fed-join : (ls ys : List (List ℕ)) (m : Machine) → AnyLine ls → AnyLine ys → Held m → fed_lines m (join_lines ls ys) ≡ behind (fed_lines m ls).output (fed_lines (fed_lines m ls).machine ys)
unfolding join_lines fed_lines
fed-join [] ys m h g t = absurd (h refl)
fed-join (l ∷ []) [] m h g t = absurd (g refl)
fed-join (l ∷ []) (y ∷ ys) m h g t = fed-head m l ys y t
fed-join (l ∷ k ∷ ls) ys m h g t =
    let f = line_end (chunk m l) in
    let a = chunk-held m l in
    let b = line-held (chunk m l) in
    fed-line m l (join_lines (k ∷ ls) ys) (join-some (k ∷ ls) ys (λ z. clash (cc)))
    ∙ ap (behind f.output) (fed-join (k ∷ ls) ys f.machine (λ z. clash (cc)) g (omega arith))
    ∙ behind-behind f.output (fed_lines f.machine (k ∷ ls)).output (fed_lines (fed_lines f.machine (k ∷ ls)).machine ys)

-- input in two pieces is fed as the whole
pub pieces : (m : Machine) (a b : List ℕ) → Held m →
    fed_lines m (text_lines (a ++ b)) ≡ behind (fed_lines m (text_lines a)).output (fed_lines (fed_lines m (text_lines a)).machine (text_lines b))
pieces m a b h = rw (lines-append a b) (fed-join (text_lines a) (text_lines b) m (split-some LF a) (split-some LF b) h)

-- the text is held throughout
pub fed-held : (ls : List (List ℕ)) (m : Machine) → length (fed_lines m ls).machine.text ≡ length m.text
unfolding fed_lines
fed-held [] m = refl
fed-held (l ∷ []) m = chunk-held m l
fed-held (l ∷ k ∷ ls) m = fed-held (k ∷ ls) (line_end (chunk m l)).machine ∙ line-held (chunk m l) ∙ chunk-held m l
