-- What a session prints, line by line, is what the definition says. Assumes nothing.
use Rattle.std.specs.Prelude.{◌≡◌, Bool, true, cond, eqb, leb, ltb, set, Option, None, Some}
use Rattle.std.proofs.Math.Path.{refl, sym, ap}
use Rattle.std.proofs.Common.{◌∙◌, length-set, length-take, take_all, take-suc-set, leb-true, leb-false, lt-ltb}
use Rattle.std.proofs.Math.Bool.{false}
use mathlib.Core.List.{List, [], ◌∷◌, ◌++◌, append_assoc, append-nil}
use Prim.Native.Nat.{ℕ, zero, suc, ◌+◌, min, ◌≤◌, ◌<◌}
use native.Mathlib.Omega.{arith}
use Rattle.std.proofs.Math.ListN.{length, take, length-append}
use Rattle.std.proofs.lemmas.List.{take-append-le, take-set-le}
use Rattle.std.proofs.Math.Seq.{append_snoc}
use Rattle.values.specs.Codes.{too_long}
use Rattle.values.specs.Choice.{decide, either}
use Rattle.values.specs.Numbers.{clash}
use Rattle.engine.specs.State.{power_on}
use Rattle.text.specs.Byte.{LF}
use Rattle.text.specs.Lines.{text_lines, without_return}
use Rattle.text.specs.LinesLaws.{split-some}
use Rattle.values.specs.PutAt.{put_at}
use Rattle.tokens.specs.Token.{text_size}
use Rattle.reader.specs.Load.{Outcome, refused, outcome, load_answer, load_set}
use Rattle.values.specs.PutLaws.{put-length, put-past}
use Rattle.transcript.specs.declared.set_text.Place.{Place}
use Rattle.transcript.specs.declared.beat_line.HalfLine.{HalfLine}
use Rattle.transcript.specs.Input.{Input, is_star, beat_lines, cut, input_of}
use Rattle.transcript.specs.declared.beat_line.Said.{Said}
use Rattle.transcript.specs.declared.beat_line.Said.TheVariants.{Beat, ProgramEnd, ControlReset}
use Rattle.transcript.specs.BeatLine.{line_said}
use Rattle.transcript.specs.Output.{load_line, error_line}
use Rattle.transcript.specs.declared.session.Session.{Session}
use Rattle.transcript.specs.declared.totals.Totals.{Totals}
use Rattle.transcript.specs.declared.view.View.{View}
use Rattle.transcript.specs.Totals.{last_line, no_totals, ended}
use Rattle.transcript.specs.Tally.{said_counted, said_printed}
use Rattle.transcript.specs.Synrun.{beats_text, loaded_text, printout}
use Rattle.transcript.specs.HalfLine.{no_half_line, read_on, without_cr, is_untouched, read_said}
use Rattle.transcript.specs.declared.intake.Phase.TheVariants.{Text, Beats, Over}
use Rattle.transcript.specs.Intake.{bytes_taken, bytes_kept, line_over, line_kept, input_over}
use Rattle.transcript.specs.IntakeLaws.{beats-input, star-line, star-line-kept, plain-line, plain-line-kept, over-input}
use Rattle.transcript.specs.Machine.{Machine, Fed, begun, with_totals, stopped, standing, opened, said_of, said_end, arrival_worked, chunk, line_end, fed_lines, end_after, last_output, finished}
use Rattle.transcript.specs.declared.set_text.Star.TheVariants.{Empty}
use Rattle.transcript.specs.SetText.{is_alone, kept_size, star_ends, place_on, place_end, last_size}
use Rattle.transcript.specs.StarLaws.{star-last, star-ended, cut-star, cut-last, cut-here, cut_later}
use Rattle.transcript.specs.SessionRoomLaws.{by_code, by_lent, over-chunk, over-line}
use Rattle.sessions.specs.HalfLineLaws.{by_option}
use Rattle.sessions.specs.SaidLaws.{said-last, said-ended, untouched}
use Rattle.sessions.specs.MachineLaws.{text-append}

-- ---- all that is printed

-- from a machine on, with the lines of the input left
unfoldable pub prints : Machine → List (List ℕ) → List ℕ
prints m ls = (fed_lines m ls).output ++ finished (fed_lines m ls).machine

-- from what was printed on
abbrev onward : Fed → List (List ℕ) → List ℕ
onward f ls = f.output ++ prints f.machine ls

prints-last : (m : Machine) (l : List ℕ) → prints m (l ∷ []) ≡ finished (chunk m l)
unfolding prints fed_lines
prints-last m l = refl

prints-line : (m : Machine) (l k : List ℕ) (ls : List (List ℕ)) → prints m (l ∷ k ∷ ls) ≡ onward (line_end (chunk m l)) (k ∷ ls)
unfolding prints fed_lines
prints-line m l k ls =
    let f = line_end (chunk m l) in
    append_assoc f.output (fed_lines f.machine (k ∷ ls)).output (finished (fed_lines f.machine (k ∷ ls)).machine)

-- ---- over

end-over : (s : List ℕ) (x : Session) → x.intake.phase ≡ Over → end_after s x ≡ []
unfolding end_after
end-over s x o = rw (end_after, o)

pub over-finished : (m : Machine) → m.session.intake.phase ≡ Over → finished m ≡ []
unfolding finished arrival_worked
over-finished m o = rw (over-input m.session.intake o) (end-over m.set m.session o)

pub over-fed : (ls : List (List ℕ)) (m : Machine) → m.session.intake.phase ≡ Over → fed_lines m ls ≡ standing m
unfolding fed_lines
over-fed [] m o = refl
over-fed (l ∷ []) m o = rw (over-chunk m l o)
over-fed (l ∷ k ∷ ls) m o = rw (over-chunk m l o, over-line m o) (over-fed (k ∷ ls) m o)

pub over-prints : (ls : List (List ℕ)) (m : Machine) → m.session.intake.phase ≡ Over → prints m ls ≡ []
unfolding prints
over-prints ls m o = rw (over-fed ls m o) (over-finished m o)

over-onward : (m : Machine) (o : List ℕ) (ls : List (List ℕ)) → m.session.intake.phase ≡ Over → onward (record { machine = m; output = o }) ls ≡ o
over-onward m o ls h = ap (λ (y : List ℕ). o ++ y) (over-prints ls m h) ∙ append-nil o

-- ---- the lines behind the line *

-- each is counted as a line, and leaves the view
pub said-lines : (s : List ℕ) (n : Totals) (x : Said) → (said_counted s n x).counts.lines ≡ n.counts.lines + 1
said-lines s n (Beat l) = refl
said-lines s n ProgramEnd = refl
said-lines s n ControlReset = refl

pub said-view : (s : List ℕ) (n : Totals) (x : Said) → (said_counted s n x).counts.view ≡ n.counts.view
said-view s n (Beat l) = refl
said-view s n ProgramEnd = refl
said-view s n ControlReset = refl

module _ (s : List ℕ) (n : Totals) where
  -- after the last line nothing more is read
  pub beats-over : (ls : List (List ℕ)) → eqb n.counts.lines last_line ≡ true → beats_text s n ls ≡ ended s n
  unfolding beats_text
  beats-over [] h = refl
  beats-over (l ∷ ls) h = either (λ (y : List ℕ). y ≡ ended s n) (eqb n.counts.lines last_line) (λ e. refl) (λ e. clash (cc))

  pub beats-none : (l : List ℕ) (ls : List (List ℕ)) → eqb n.counts.lines last_line ≡ false → line_said l ≡ None → beats_text s n (l ∷ ls) ≡ error_line (n.counts.lines + 1)
  unfolding beats_text
  beats-none l ls h g =
      let P : List ℕ → Type 0 = λ y. y ≡ error_line (n.counts.lines + 1) in
      either P (eqb n.counts.lines last_line) (λ e. clash (cc)) (λ e. by_lent P (line_said l) (λ u. refl) (λ x u. clash (cc)))

  pub beats-some : (l : List ℕ) (ls : List (List ℕ)) (x : Said) → eqb n.counts.lines last_line ≡ false → line_said l ≡ Some x →
      beats_text s n (l ∷ ls) ≡ said_printed s n x ++ beats_text s (said_counted s n x) ls
  unfolding beats_text
  beats-some l ls x h g =
      let P : List ℕ → Type 0 = λ y. y ≡ said_printed s n x ++ beats_text s (said_counted s n x) ls in
      either P (eqb n.counts.lines last_line) (λ e. clash (cc)) (λ e. by_lent P (line_said l) (λ u. clash (cc)) (λ y u. let q : y ≡ x = cc in rw q))

-- a machine that reads such a line, with what was read of it
abbrev beating : List ℕ → List ℕ → Place → Totals → HalfLine → Machine
beating t s p n r = record {
  text = t;
  set = s;
  session = record { intake = record { phase = Beats; place = p; half = r }; totals = n };
}

module _ (t s : List ℕ) (p : Place) (n : Totals) where
  -- before the first byte of a line
  abbrev awaiting : Machine
  awaiting = beating t s p n no_half_line

  -- an ill-formed line
  abbrev ill_ended : Fed
  ill_ended = record { machine = record { text = t; set = s; session = stopped awaiting.session }; output = error_line (n.counts.lines + 1) }

  end_none : said_end awaiting None ≡ ill_ended
  unfolding said_end
  end_none = refl

  module _ (x : Said) where
    abbrev next : Totals
    next = said_counted s n x

    -- the last line, and any other
    abbrev last_said : Fed
    last_said = record { machine = record { text = t; set = s; session = stopped (with_totals awaiting.session next) }; output = said_printed s n x ++ ended s next }

    abbrev one_said : Fed
    one_said = record { machine = beating t s p next no_half_line; output = said_printed s n x }

    said-last-line : eqb next.counts.lines last_line ≡ true → said_end awaiting (Some x) ≡ last_said
    unfolding said_end said_of
    said-last-line h = either (λ (y : Fed). y ≡ last_said) (eqb next.counts.lines last_line) (λ e. refl) (λ e. clash (cc))

    said_more : eqb next.counts.lines last_line ≡ false → said_end awaiting (Some x) ≡ one_said
    unfolding said_end said_of
    said_more h = either (λ (y : Fed). y ≡ one_said) (eqb next.counts.lines last_line) (λ e. clash (cc)) (λ e. refl)

  -- a line with its LF, and a last line without
  line_read_lem : (l : List ℕ) → line_end (chunk awaiting l) ≡ said_end awaiting (read_said (without_cr (read_on no_half_line l)))
  unfolding chunk bytes_taken bytes_kept line_end line_over line_kept arrival_worked
  line_read_lem l = refl

  nothing_read : finished (chunk awaiting []) ≡ beats_text s n []
  unfolding finished chunk bytes_taken bytes_kept input_over arrival_worked end_after read_on is_untouched beats_text
  nothing_read = refl

  something-read : (b : ℕ) (bs : List ℕ) → finished (chunk awaiting (b ∷ bs)) ≡ last_output (said_end awaiting (read_said (read_on no_half_line (b ∷ bs))))
  unfolding finished chunk bytes_taken bytes_kept arrival_worked
  something-read b bs = rw (beats-input (record { phase = Beats; place = p; half = read_on no_half_line (b ∷ bs) }) refl read)
    where
      read : is_untouched (read_on no_half_line (b ∷ bs)) ≡ false
      read = decide (is_untouched (read_on no_half_line (b ∷ bs)) ≡ false) (is_untouched (read_on no_half_line (b ∷ bs))) (λ e. let z = (untouched (b ∷ bs)).0 e in clash (cc)) (λ e. e)

  -- the last line, without an LF
  last-said : (l : List ℕ) → eqb n.counts.lines last_line ≡ false → last_output (said_end awaiting (line_said l)) ≡ beats_text s n (l ∷ [])
  unfolding end_after beats_text
  last-said l h =
      let on : Option Said → List ℕ = λ o. last_output (said_end awaiting o) in
      by_option (on (line_said l) ≡ beats_text s n (l ∷ [])) (line_said l)
      (λ e. ap on e ∙ ap last_output end_none ∙ append-nil (error_line (n.counts.lines + 1)) ∙ sym (beats-none s n l [] h e))
      (λ x e. decide (on (line_said l) ≡ beats_text s n (l ∷ [])) (eqb (next x).counts.lines last_line)
      (λ g. ap on e ∙ ap last_output (said-last-line x g) ∙ append-nil (said_printed s n x ++ ended s (next x)) ∙ sym (beats-some s n l [] x h e))
      (λ g. ap on e ∙ ap last_output (said_more x g) ∙ sym (beats-some s n l [] x h e)))

module _ (t s : List ℕ) (p : Place) where
  beats-print : (ls : List (List ℕ)) (n : Totals) → (ls ≡ [] → ⊥) → eqb n.counts.lines last_line ≡ false → prints (awaiting t s p n) ls ≡ beats_text s n (beat_lines ls)
  unfolding beat_lines
  beats-print [] n g h = absurd (g refl)
  beats-print ([] ∷ []) n g h = prints-last (awaiting t s p n) [] ∙ nothing_read t s p n
  beats-print ((b ∷ bs) ∷ []) n g h =
      prints-last (awaiting t s p n) (b ∷ bs) ∙ something-read t s p n b bs
      ∙ ap (λ (o : Option Said). last_output (said_end (awaiting t s p n) o)) (said-last (b ∷ bs)) ∙ last-said t s p n (b ∷ bs) h
  beats-print (l ∷ k ∷ ls) n g h =
      let c = without_return l in
      let rest = beat_lines (k ∷ ls) in
      let to : Fed → List ℕ = λ f. onward f (k ∷ ls) in
      let on : Option Said → List ℕ = λ o. to (said_end (awaiting t s p n) o) in
      prints-line (awaiting t s p n) l k ls ∙ ap to (line_read_lem t s p n l) ∙ ap on (said-ended l)
      ∙ by_option (on (line_said c) ≡ beats_text s n (c ∷ rest)) (line_said c)
      (λ e. ap on e ∙ ap to (end_none t s p n) ∙ over-onward _ (error_line (n.counts.lines + 1)) (k ∷ ls) refl ∙ sym (beats-none s n c rest h e))
      (λ x e. decide (on (line_said c) ≡ beats_text s n (c ∷ rest)) (eqb (next t s p n x).counts.lines last_line)
      (λ z. ap on e ∙ ap to (said-last-line t s p n x z) ∙ over-onward _ (said_printed s n x ++ ended s (next t s p n x)) (k ∷ ls) refl
      ∙ ap (λ (y : List ℕ). said_printed s n x ++ y) (sym (beats-over s (next t s p n x) rest z)) ∙ sym (beats-some s n c rest x h e))
      (λ z. ap on e ∙ ap to (said_more t s p n x z) ∙ ap (λ (y : List ℕ). said_printed s n x ++ y) (beats-print (k ∷ ls) (next t s p n x) (λ u. clash (cc)) z)
      ∙ sym (beats-some s n c rest x h e)))

-- ---- set text: what is kept of it

take_put : (n : ℕ) (s : List ℕ) (p : ℕ) (l : List ℕ) → n ≤ p → take n (put_at s p l) ≡ take n s
take_put n s p [] h = refl
take_put n s p (b ∷ bs) h = take_put n (set s p b) (p + 1) bs (omega arith) ∙ take-set-le n s p b h

-- where c bytes are kept
module _ (c : ℕ) where
  -- s begins with the first bytes of d, as many as are kept
  abbrev pub Begins : List ℕ → List ℕ → Type 0
  Begins s d = take (min c (length d)) s ≡ take c d

  kept_byte : (s d : List ℕ) (b : ℕ) → length s ≡ c → Begins s d → length d < c → Begins (set s (min c (length d)) b) (d ++ (b ∷ []))
  kept_byte s d b n k h =
      let m : min c (length d) ≡ length d = omega arith in
      let l : min c (length d + 1) ≡ suc (length d) = omega arith in
      let a = length-append d (b ∷ []) in
      let e : take (length d) s ≡ d = rw m at (k ∙ take_all c d (omega arith)) in
      rw (m, a, l) (take-suc-set s (length d) b (omega arith) ∙ ap (λ (y : List ℕ). y ++ (b ∷ [])) e ∙ sym (take_all c (d ++ (b ∷ [])) (omega arith)))

  -- a text that is longer already
  kept-long : (l s d : List ℕ) → length s ≡ c → Begins s d → c ≤ length d → Begins (put_at s (min c (length d)) l) (d ++ l)
  kept-long l s d n k h =
      let m : min c (length d) ≡ c = omega arith in
      let a = length-append d l in
      let w : min c (length d + length l) ≡ c = omega arith in
      rw (m, a, w, put-past l s c (omega arith)) (rw m at k ∙ sym (take-append-le c d l h))

  kept_put : (l s d : List ℕ) → length s ≡ c → Begins s d → Begins (put_at s (min c (length d)) l) (d ++ l)
  kept_put [] s d n k = rw (append-nil d) k
  kept_put (b ∷ bs) s d n k =
      decide (Begins (put_at s (min c (length d)) (b ∷ bs)) (d ++ (b ∷ bs))) (leb c (length d))
      (λ e. kept-long (b ∷ bs) s d n k (leb-true c (length d) e))
      (λ e. let h = leb-false c (length d) e in
      let a = length-append d (b ∷ []) in
      let q : min c (length d) + 1 ≡ min c (length (d ++ (b ∷ []))) = omega arith in
      rw (q, ← (append_snoc d b bs)) (kept_put bs (set s (min c (length d)) b) (d ++ (b ∷ [])) (length-set s (min c (length d)) b ∙ n) (kept_byte s d b n k h)))

-- ---- loading

module _ (v : View) (i : Input) where
  pub loaded-zero : (load_answer i.text).code ≡ 0 → loaded_text v i ≡ beats_text (load_set i.text) (no_totals v) i.beats
  unfolding loaded_text
  loaded-zero h = by_code (λ (y : List ℕ). y ≡ beats_text (load_set i.text) (no_totals v) i.beats) (load_answer i.text).code (λ e. refl) (λ c e. absurd (omega arith))

  pub loaded-suc : (c : ℕ) → (load_answer i.text).code ≡ suc c → loaded_text v i ≡ load_line (suc c) (load_answer i.text).line
  unfolding loaded_text
  loaded-suc c h =
      by_code (λ (y : List ℕ). y ≡ load_line (suc c) (load_answer i.text).line) (load_answer i.text).code (λ e. absurd (omega arith)) (λ d e. let q : suc d ≡ suc c = sym e ∙ h in rw q)

-- a text above 4,096 bytes is refused, whatever it is
long-outcome : (t : List ℕ) → text_size < length t → outcome t ≡ refused too_long 0
unfolding outcome
long-outcome t h = either (λ (y : Outcome). y ≡ refused too_long 0) (ltb text_size (length t)) (λ e. refl) (λ e. let q = lt-ltb text_size (length t) h in clash (cc))

long-answer : (t : List ℕ) → text_size < length t → load_answer t ≡ record { code = too_long; line = 0; state = power_on }
unfolding load_answer
long-answer t h = rw (long-outcome t h, load_answer)

long-loaded : (v : View) (t : List ℕ) (bs : List (List ℕ)) → text_size < length t → loaded_text v (record { text = t; beats = bs }) ≡ load_line 1 0
long-loaded v t bs h =
    let a = long-answer t h in
    loaded-suc v (record { text = t; beats = bs }) 0 (rw a) ∙ rw a

-- the bytes that are kept say all that the text does
kept-load : (v : View) (d : List ℕ) (bs : List (List ℕ)) → loaded_text v (record { text = take kept_size d; beats = bs }) ≡ loaded_text v (record { text = d; beats = bs })
kept-load v d bs =
    decide (loaded_text v (record { text = take kept_size d; beats = bs }) ≡ loaded_text v (record { text = d; beats = bs })) (leb (length d) kept_size)
    (λ e. ap (λ (y : List ℕ). loaded_text v (record { text = y; beats = bs })) (take_all kept_size d (leb-true (length d) kept_size e)))
    (λ e. let h = leb-false (length d) kept_size e in
    let l = length-take kept_size d in
    long-loaded v (take kept_size d) bs (omega arith) ∙ sym (long-loaded v d bs (omega arith)))

-- ---- set text

-- at the beginning of a line, with n bytes kept
abbrev at_line : ℕ → Place
at_line n = record { size = n; start = n; star = Empty }

abbrev texting : View → List ℕ → List ℕ → Place → Machine
texting v t s p = record {
  text = t;
  set = s;
  session = record { intake = record { phase = Text; place = p; half = no_half_line }; totals = no_totals v };
}

-- the text before what is left of the input
abbrev with_text : List ℕ → Input → Input
with_text d i = record { text = d ++ i.text; beats = i.beats }

module _ (v : View) (t s : List ℕ) (p : Place) where
  -- the text is whole: beat lines are awaited
  abbrev whole : Machine
  whole = awaiting t s p (no_totals v)

  -- a text that is taken, and one that is not
  abbrev taken_text : List ℕ → Fed
  taken_text x = record { machine = awaiting t (load_set x) p (no_totals v); output = [] }

  abbrev refused_text : List ℕ → ℕ → Fed
  refused_text x c = record { machine = record { text = t; set = load_set x; session = stopped whole.session }; output = load_line (suc c) (load_answer x).line }

  opened-zero : (x : List ℕ) → (load_answer x).code ≡ 0 → opened whole x ≡ taken_text x
  unfolding opened
  opened-zero x h = by_code (λ (y : Fed). y ≡ taken_text x) (load_answer x).code (λ e. refl) (λ c e. absurd (omega arith))

  opened-suc : (x : List ℕ) (c : ℕ) → (load_answer x).code ≡ suc c → opened whole x ≡ refused_text x c
  unfolding opened
  opened-suc x c h = by_code (λ (y : Fed). y ≡ refused_text x c) (load_answer x).code (λ e. absurd (omega arith)) (λ d e. let q : suc d ≡ suc c = sym e ∙ h in rw q)

  -- the text x is whole, and lines follow
  opened-prints : (x k : List ℕ) (ls : List (List ℕ)) → onward (opened whole x) (k ∷ ls) ≡ loaded_text v (record { text = x; beats = beat_lines (k ∷ ls) })
  opened-prints x k ls = by_code_lem (load_answer x).code refl
    where
      by_code_lem : (c : ℕ) → (load_answer x).code ≡ c → onward (opened whole x) (k ∷ ls) ≡ loaded_text v (record { text = x; beats = beat_lines (k ∷ ls) })
      by_code_lem zero e =
          ap (λ (f : Fed). onward f (k ∷ ls)) (opened-zero x e) ∙ beats-print t (load_set x) p (k ∷ ls) (no_totals v) (λ z. clash (cc)) refl
          ∙ sym (loaded-zero v (record { text = x; beats = beat_lines (k ∷ ls) }) e)
      by_code_lem (suc c) e =
          ap (λ (f : Fed). onward f (k ∷ ls)) (opened-suc x c e) ∙ over-onward _ (load_line (suc c) (load_answer x).line) (k ∷ ls) refl
          ∙ sym (loaded-suc v (record { text = x; beats = beat_lines (k ∷ ls) }) c e)

  -- and none does
  opened-last : (x : List ℕ) → last_output (opened whole x) ≡ loaded_text v (record { text = x; beats = [] })
  unfolding end_after beats_text
  opened-last x = by_code_lem (load_answer x).code refl
    where
      by_code_lem : (c : ℕ) → (load_answer x).code ≡ c → last_output (opened whole x) ≡ loaded_text v (record { text = x; beats = [] })
      by_code_lem zero e = ap last_output (opened-zero x e) ∙ sym (loaded-zero v (record { text = x; beats = [] }) e)
      by_code_lem (suc c) e = ap last_output (opened-suc x c e) ∙ append-nil (load_line (suc c) (load_answer x).line) ∙ sym (loaded-suc v (record { text = x; beats = [] }) c e)

  -- the input is over: the text is whole, the line * left off
  input-ends : finished (texting v t s p) ≡ loaded_text v (record { text = take (last_size p) t; beats = [] })
  unfolding finished input_over arrival_worked
  input-ends = opened-last (take (last_size p) t)

  finished-star : is_alone p.star ≡ true → finished (texting v t s p) ≡ loaded_text v (record { text = take p.start t; beats = [] })
  finished-star h = input-ends ∙ ap (λ (b : Bool). loaded_text v (record { text = take (cond b p.start p.size) t; beats = [] })) h

  finished-text : is_alone p.star ≡ false → finished (texting v t s p) ≡ loaded_text v (record { text = take p.size t; beats = [] })
  finished-text h = input-ends ∙ ap (λ (b : Bool). loaded_text v (record { text = take (cond b p.start p.size) t; beats = [] })) h

  -- the line * is over
  ended-star : star_ends p.star ≡ true → line_end (texting v t s p) ≡ opened whole (take p.start t)
  unfolding line_end line_over line_kept arrival_worked
  ended-star h = let x = (texting v t s p).session.intake in rw (star-line x h, star-line-kept x h t)

  -- any other line is
  ended-text : star_ends p.star ≡ false → line_end (texting v t s p) ≡ standing (texting v (set t p.size LF) s (place_end p))
  unfolding line_end line_over line_kept arrival_worked
  ended-text h = let x = (texting v t s p).session.intake in rw (plain-line x h, plain-line-kept x h t)

chunk-texting : (v : View) (t s : List ℕ) (p : Place) (l : List ℕ) → chunk (texting v t s p) l ≡ texting v (put_at t p.size l) s (place_on p l)
unfolding chunk bytes_taken bytes_kept
chunk-texting v t s p l = refl

module _ (v : View) (t s d l : List ℕ) (n : length t ≡ kept_size) (k : Begins kept_size t d) where
  abbrev size : ℕ
  size = min kept_size (length d)

  abbrev begin : Machine
  begin = texting v t s (at_line size)

  -- before the line: the text as it stood
  text-before : (bs : List (List ℕ)) → loaded_text v (record { text = take size (put_at t size l); beats = bs }) ≡ loaded_text v (record { text = d ++ []; beats = bs })
  text-before bs =
      ap (λ (y : List ℕ). loaded_text v (record { text = y; beats = bs })) (take_put size t size l (omega arith) ∙ k) ∙ kept-load v d bs
      ∙ ap (λ (y : List ℕ). loaded_text v (record { text = y; beats = bs })) (sym (append-nil d))

  -- with the line
  text-after : loaded_text v (record { text = take (place_on (at_line size) l).size (put_at t size l); beats = [] }) ≡ loaded_text v (record { text = d ++ l; beats = [] })
  unfolding place_on
  text-after =
      let a = length-append d l in
      let q : min kept_size (size + length l) ≡ min kept_size (length (d ++ l)) = omega arith in
      ap (λ (y : ℕ). loaded_text v (record { text = take y (put_at t size l); beats = [] })) q
      ∙ ap (λ (y : List ℕ). loaded_text v (record { text = y; beats = [] })) (kept_put kept_size l t d n k) ∙ kept-load v (d ++ l) []

  -- the last line of the text, without an LF
  last-text : finished (chunk begin l) ≡ loaded_text v (with_text d (cut (l ∷ [])))
  unfolding place_on
  last-text =
      let p = place_on (at_line size) l in
      let st = star-last l in
      decide (finished (chunk begin l) ≡ loaded_text v (with_text d (cut (l ∷ [])))) (is_star l)
      (λ e. ap finished (chunk-texting v t s (at_line size) l) ∙ finished-star v (put_at t size l) s p (st ∙ e) ∙ text-before [] ∙ ap (λ (y : Input). loaded_text v (with_text d y)) (sym (cut-star l e)))
      (λ e. ap finished (chunk-texting v t s (at_line size) l) ∙ finished-text v (put_at t size l) s p (st ∙ e) ∙ text-after ∙ ap (λ (y : Input). loaded_text v (with_text d y)) (sym (cut-last l e)))

  -- the line * and what follows it
  star-onward : (k : List ℕ) (ls : List (List ℕ)) → is_star (without_return l) ≡ true → onward (line_end (chunk begin l)) (k ∷ ls) ≡ loaded_text v (with_text d (cut (l ∷ k ∷ ls)))
  unfolding place_on
  star-onward k ls e =
      let p = place_on (at_line size) l in
      ap (λ (m : Machine). onward (line_end m) (k ∷ ls)) (chunk-texting v t s (at_line size) l)
      ∙ ap (λ (f : Fed). onward f (k ∷ ls)) (ended-star v (put_at t size l) s p (star-ended l ∙ e))
      ∙ opened-prints v (put_at t size l) s p (take size (put_at t size l)) k ls
      ∙ text-before (beat_lines (k ∷ ls))
      ∙ ap (λ (y : Input). loaded_text v (with_text d y)) (sym (cut-here l k ls e))

  -- any other line, with its LF
  abbrev more : List ℕ
  more = l ++ (LF ∷ [])

  more-place : place_end (place_on (at_line size) l) ≡ at_line (min kept_size (length (d ++ more)))
  unfolding place_on place_end
  more-place =
      let a = length-append d more in
      let b = length-append l (LF ∷ []) in
      let q : min kept_size (min kept_size (size + length l) + 1) ≡ min kept_size (length (d ++ more)) = omega arith in
      ap at_line q

  more-text : set (put_at t size l) (place_on (at_line size) l).size LF ≡ put_at t size more
  unfolding place_on
  more-text = sym (text-append t size l (LF ∷ []) (omega arith))

  text-line : (k : List ℕ) (ls : List (List ℕ)) → is_star (without_return l) ≡ false →
      onward (line_end (chunk begin l)) (k ∷ ls) ≡ prints (texting v (put_at t size more) s (at_line (min kept_size (length (d ++ more))))) (k ∷ ls)
  text-line k ls e =
      let p = place_on (at_line size) l in
      ap (λ (m : Machine). onward (line_end m) (k ∷ ls)) (chunk-texting v t s (at_line size) l)
      ∙ ap (λ (f : Fed). onward f (k ∷ ls)) (ended-text v (put_at t size l) s p (star-ended-place e))
      ∙ ap (λ (y : List ℕ). prints (texting v y s (place_end p)) (k ∷ ls)) more-text
      ∙ ap (λ (y : Place). prints (texting v (put_at t size more) s y) (k ∷ ls)) more-place
    where
      star-ended-place : is_star (without_return l) ≡ false → star_ends (place_on (at_line size) l).star ≡ false
      star-ended-place h = unfold place_on in (star-ended l ∙ h)

  more_cut : (k : List ℕ) (ls : List (List ℕ)) → is_star (without_return l) ≡ false → loaded_text v (with_text (d ++ more) (cut (k ∷ ls))) ≡ loaded_text v (with_text d (cut (l ∷ k ∷ ls)))
  more_cut k ls e =
      let c = cut (k ∷ ls) in
      ap (λ (y : List ℕ). loaded_text v (record { text = y; beats = c.beats })) (append_assoc d more c.text ∙ ap (λ (y : List ℕ). d ++ y) (append_snoc l LF c.text))
      ∙ ap (λ (y : Input). loaded_text v (with_text d y)) (sym (cut_later l k ls e))

-- the lines left behind the text d
text-prints : (v : View) (ls : List (List ℕ)) (t s d : List ℕ) → (ls ≡ [] → ⊥) → length t ≡ kept_size → Begins kept_size t d →
    prints (texting v t s (at_line (min kept_size (length d)))) ls ≡ loaded_text v (with_text d (cut ls))
text-prints v [] t s d g n k = absurd (g refl)
text-prints v (l ∷ []) t s d g n k = prints-last (begin v t s d l n k) l ∙ last-text v t s d l n k
text-prints v (l ∷ h ∷ ls) t s d g n k =
    let b = begin v t s d l n k in
    let u = more v t s d l n k in
    let z = min kept_size (length d) in
    decide (prints b (l ∷ h ∷ ls) ≡ loaded_text v (with_text d (cut (l ∷ h ∷ ls)))) (is_star (without_return l))
    (λ e. prints-line b l h ls ∙ star-onward v t s d l n k h ls e)
    (λ e. prints-line b l h ls ∙ text-line v t s d l n k h ls e
    ∙ text-prints v (h ∷ ls) (put_at t z u) s (d ++ u) (λ y. clash (cc)) (put-length u t z ∙ n) (kept_put kept_size u t d n k)
    ∙ more_cut v t s d l n k h ls e)

-- ---- the session

-- a machine at the beginning, whatever its text and its set hold
abbrev pub starting : View → List ℕ → List ℕ → Machine
starting v t s = record { text = t; set = s; session = begun v }

-- what it prints, and what it prints at the end of input, is all that the definition has
pub session-prints : (v : View) (text set t : List ℕ) → length text ≡ kept_size → let f = fed_lines (starting v text set) (text_lines t) in f.output ++ finished f.machine ≡ printout v t
unfolding prints printout input_of
session-prints v text set t n = text-prints v (text_lines t) text set [] (split-some LF t) n refl
