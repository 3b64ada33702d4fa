-- END's three numbers are the counts over what was printed before it: the C lines, those of them with a code, and the O lines; PE and RS count as lines only, toward the number of an E line and toward the 1,000,000. Assumes nothing.
use Rattle.std.specs.Prelude.{◌≡◌, refl, Bool, true, false, not, ◌&&◌, ◌||◌, List, [], ◌∷◌, ◌++◌, ◌⊎◌, ℕ, zero, suc, ◌+◌, ◌*◌, ◌-◌, ◌/◌, ◌%◌, ◌≤◌, ◌<◌, eqb, ltb, length, get_or, take, drop, Option, None, Some}
use Rattle.std.proofs.Common.{sym, ap, ◌∙◌, append_assoc, inl, inr, arith, length-append, eqb-true, eq-eqb, ne_eqb}
use Rattle.std.proofs.Math.Bool.{and-false}
use Rattle.values.specs.Choice.{either}
use Rattle.values.specs.Numbers.{clash}
use Rattle.engine.specs.Order.{order_size}
use Rattle.engine.specs.declared.one_beat.Beaten.{Beaten}
use Rattle.text.specs.Byte.{bytes, LF, SPACE}
use Rattle.text.specs.Digits.{digits_up, decimal, signed_text}
use Rattle.text.specs.Word.{same_bytes}
use Rattle.text.specs.Lines.{before, split, text_lines}
use Rattle.reader.specs.Load.{load_answer, load_set}
use Rattle.transcript.specs.Input.{input_of}
use Rattle.transcript.specs.declared.beat_line.Lent.{Lent}
use Rattle.transcript.specs.declared.beat_line.Said.{Said}
use Rattle.transcript.specs.declared.beat_line.Said.TheVariants.{Beat, ProgramEnd, ControlReset}
use Rattle.transcript.specs.BeatLine.{says_beat, fields, line_lent, line_said}
use Rattle.transcript.specs.Output.{spaced, printed_line, decimals, four_of, code_line, order_line, order_lines, error_line, end_line}
use Rattle.transcript.specs.declared.totals.Totals.{Totals}
use Rattle.transcript.specs.declared.view.View.{View}
use Rattle.transcript.specs.declared.view.View.TheVariants.{Run}
use Rattle.transcript.specs.Totals.{last_line, no_totals, end_by, ended, one_if}
use Rattle.transcript.specs.Tally.{counted, answer_of, buffer_of, beat_text, printed_by, beat_printed, said_counted, said_printed}
use Rattle.transcript.specs.Synrun.{beats_text, printout, synrun}
use Rattle.transcript.specs.SessionRoomLaws.{by_lent}
use Rattle.sessions.specs.SessionLaws.{said-lines, said-view, beats-over, beats-some, loaded-zero}

-- ---- counting

-- how many of some lines are of a kind
abbrev one : Bool → ℕ
one true = 1
one false = 0

unfoldable pub count : (List ℕ → Bool) → List (List ℕ) → ℕ
count p [] = 0
count p (l ∷ ls) = one (p l) + count p ls

-- a field of a line, counted from 0
abbrev pub field_of : List ℕ → ℕ → List ℕ
field_of l k = get_or (fields l) k []

-- a line that begins with the field C: a beat; with the field O: an order
abbrev pub is_beat : List ℕ → Bool
is_beat l = same_bytes (field_of l 0) (bytes "C")

abbrev pub is_order : List ℕ → Bool
is_order l = same_bytes (field_of l 0) (bytes "O")

-- a beat whose code, the field behind its number, is not 0
abbrev pub is_coded : List ℕ → Bool
is_coded l = is_beat l && not (same_bytes (field_of l 2) (bytes "0"))

-- so many lines of a kind in what was printed
abbrev pub lines_in : (List ℕ → Bool) → List ℕ → ℕ
lines_in p t = count p (text_lines t)

-- ---- bytes that end neither a field nor a line

-- each at least n
abbrev Above : ℕ → List ℕ → Type 0
Above n [] = Unit {0}
Above n (b ∷ bs) = (n ≤ b) × Above n bs

above-append : (n : ℕ) (a b : List ℕ) → Above n a → Above n b → Above n (a ++ b)
above-append n [] b h g = g
above-append n (x ∷ xs) b h g = (h.0, above-append n xs b h.1 g)

above-less : (n k : ℕ) (a : List ℕ) → k ≤ n → Above n a → Above k a
above-less n k [] l h = tt
above-less n k (x ∷ xs) l h = let u = h.0 in (omega arith, above-less n k xs l h.1)

digits_above : (k n : ℕ) → Above 33 (digits_up k n)
unfolding digits_up
digits_above zero n = tt
digits_above (suc k) n = either (Above 33) (ltb n 10) (λ e. (omega arith, tt)) (λ e. above-append 33 (digits_up k (n / 10)) ((48 + n % 10) ∷ []) (digits_above k (n / 10)) (omega arith, tt))

decimal-above : (n : ℕ) → Above 33 (decimal n)
decimal-above n = digits_above 10 n

signed_above : (n : ℕ) → Above 33 (signed_text n)
unfolding signed_text
signed_above n = either (Above 33) (ltb n 2147483648) (λ e. decimal-above n) (λ e. (omega arith, decimal-above (4294967296 - n)))

-- a part, the byte that ends it and the rest
part-first : (e n : ℕ) (l rest : List ℕ) → e < n → Above n l → split e (l ++ (e ∷ rest)) ≡ l ∷ split e rest
unfolding split
part-first e n [] rest g h = rw (split, eq-eqb e e refl)
part-first e n (b ∷ bs) rest g h =
    let u = h.0 in
    either (λ (y : List (List ℕ)). y ≡ (b ∷ bs) ∷ split e rest) (eqb b e) (λ q. absurd (omega (arith, eqb-true b e q))) (λ q. ap (before b) (part-first e n bs rest g h.1))

count-first : (p : List ℕ → Bool) (l rest : List ℕ) → Above 11 l → lines_in p (l ++ (LF ∷ rest)) ≡ one (p l) + lines_in p rest
unfolding count
count-first p l rest h = rw (part-first LF 11 l rest (omega arith) h)

-- ---- a line: a word and fields

-- without its end
abbrev line_body : List ℕ → List (List ℕ) → List ℕ
line_body word fs = word ++ spaced fs

line-body : (word : List ℕ) (fs : List (List ℕ)) (rest : List ℕ) → printed_line word fs ++ rest ≡ line_body word fs ++ (LF ∷ rest)
line-body word fs rest = simp append_assoc

-- fields without a space or an LF
abbrev AllAbove : List (List ℕ) → Type 0
AllAbove [] = Unit {0}
AllAbove (f ∷ fs) = Above 33 f × AllAbove fs

spaced-above : (fs : List (List ℕ)) → AllAbove fs → Above 11 (spaced fs)
unfolding spaced
spaced-above [] h = tt
spaced-above (f ∷ fs) h = (omega arith, above-append 11 f (spaced fs) (above-less 33 11 f (omega arith) h.0) (spaced-above fs h.1))

body-above : (word : List ℕ) (fs : List (List ℕ)) → Above 33 word → AllAbove fs → Above 11 (line_body word fs)
body-above word fs h g = above-append 11 word (spaced fs) (above-less 33 11 word (omega arith) h) (spaced-above fs g)

-- its first field
body-first : (word f : List ℕ) (fs : List (List ℕ)) → Above 33 word → fields (line_body word (f ∷ fs)) ≡ word ∷ fields (line_body f fs)
unfolding spaced
body-first word f fs h = part-first SPACE 33 word (f ++ spaced fs) (omega arith) h

-- ---- a C line

abbrev code_body : ℕ → ℕ → ℕ → List ℕ
code_body number code orders = line_body (bytes "C") (decimals (number ∷ code ∷ orders ∷ []))

code-above : (number code orders : ℕ) → Above 11 (code_body number code orders)
code-above number code orders =
    body-above (bytes "C") (decimals (number ∷ code ∷ orders ∷ [])) (omega arith, tt) (decimal-above number, (decimal-above code, (decimal-above orders, tt)))

code-line : (number code orders : ℕ) (rest : List ℕ) → code_line number code orders ++ rest ≡ code_body number code orders ++ (LF ∷ rest)
unfolding code_line
code-line number code orders rest = line-body (bytes "C") (decimals (number ∷ code ∷ orders ∷ [])) rest

code-fields : (number code orders : ℕ) → fields (code_body number code orders) ≡ bytes "C" ∷ decimal number ∷ decimal code ∷ fields (line_body (decimal orders) [])
code-fields number code orders =
    body-first (bytes "C") (decimal number) (decimals (code ∷ orders ∷ [])) (omega arith, tt)
    ∙ ap (λ (y : List (List ℕ)). bytes "C" ∷ y) (body-first (decimal number) (decimal code) (decimals (orders ∷ [])) (decimal-above number))
    ∙ ap (λ (y : List (List ℕ)). bytes "C" ∷ decimal number ∷ y) (body-first (decimal code) (decimal orders) [] (decimal-above code))

-- a number is written 0 exactly if it is 0
long_same : (a : List ℕ) (x : ℕ) → 1 ≤ length a → same_bytes (a ++ (x ∷ [])) (bytes "0") ≡ false
long_same [] x h = absurd (omega arith)
long_same (b ∷ []) x h = and-false (eqb b 48)
long_same (b ∷ c ∷ cs) x h = and-false (eqb b 48)

digits-some : (k n : ℕ) → 1 ≤ length (digits_up (suc k) n)
unfolding digits_up
digits-some k n = either (λ (y : List ℕ). 1 ≤ length y) (ltb n 10) (λ e. omega arith) (λ e. simp length-append (omega arith))

zero-written : (n : ℕ) → one (not (same_bytes (decimal n) (bytes "0"))) ≡ one_if n
unfolding digits_up
zero-written zero = refl
zero-written (suc n) =
    either (λ (y : List ℕ). one (not (same_bytes y (bytes "0"))) ≡ 1) (ltb (suc n) 10)
    (λ e. rw (ne_eqb (48 + suc n) 48 (λ q. omega arith)))
    (λ e. rw (long_same (digits_up 9 (suc n / 10)) (48 + suc n % 10) (digits-some 8 (suc n / 10))))

module _ (number code orders : ℕ) where
  code-is-beat : one (is_beat (code_body number code orders)) ≡ 1
  code-is-beat = rw (code-fields number code orders)

  code-is-coded : one (is_coded (code_body number code orders)) ≡ one_if code
  code-is-coded = rw (code-fields number code orders) (zero-written code)

  code-no-order : one (is_order (code_body number code orders)) ≡ 0
  code-no-order = rw (code-fields number code orders)

-- ---- an O line

-- its fields behind the first
abbrev order_fields : List ℕ → List (List ℕ)
order_fields o = decimal (get_or o 0 0) ∷ decimal (get_or o 2 0) ∷ signed_text (four_of (drop 4 o)) ∷ []

abbrev order_body : List ℕ → List ℕ
order_body o = line_body (bytes "O") (decimal (get_or o 1 0) ∷ order_fields o)

order-above : (o : List ℕ) → Above 11 (order_body o)
order-above o =
    body-above (bytes "O") (decimal (get_or o 1 0) ∷ order_fields o) (omega arith, tt)
    (decimal-above (get_or o 1 0), (decimal-above (get_or o 0 0), (decimal-above (get_or o 2 0), (signed_above (four_of (drop 4 o)), tt))))

order-line : (o rest : List ℕ) → order_line o ++ rest ≡ order_body o ++ (LF ∷ rest)
unfolding order_line
order-line o rest = line-body (bytes "O") (decimal (get_or o 1 0) ∷ order_fields o) rest

-- a line of a kind that goes by its first field
order-first : (o : List ℕ) → field_of (order_body o) 0 ≡ bytes "O"
order-first o = ap (λ (y : List (List ℕ)). get_or y 0 []) (body-first (bytes "O") (decimal (get_or o 1 0)) (order_fields o) (omega arith, tt))

module _ (o : List ℕ) where
  order-no-beat : one (is_beat (order_body o)) ≡ 0
  order-no-beat = rw (order-first o)

  order-no-code : one (is_coded (order_body o)) ≡ 0
  order-no-code = rw (order-first o)

  order-is-order : one (is_order (order_body o)) ≡ 1
  order-is-order = rw (order-first o)

-- ---- what a beat adds

-- n lines of orders add n times what one of them does
orders-add : (p : List ℕ → Bool) (x : ℕ) → ((o : List ℕ) → one (p (order_body o)) ≡ x) → (n : ℕ) (b rest : List ℕ) → lines_in p (order_lines n b ++ rest) ≡ n * x + lines_in p rest
unfolding order_lines
orders-add p x h zero b rest = omega arith
orders-add p x h (suc n) b rest =
    let u = orders-add p x h n (drop order_size b) rest in
    let v = h b in
    let c = count-first p (order_body b) (order_lines n (drop order_size b) ++ rest) (order-above b) in
    let os = order_lines n (drop order_size b) in
    let e : order_line b ++ os ++ rest ≡ order_body b ++ (LF ∷ (os ++ rest)) = append_assoc (order_line b) os rest ∙ order-line b (os ++ rest) in
    rw e (omega arith)

-- a C line and its O lines add what each does
beat-adds : (p : List ℕ → Bool) (x y : ℕ) (s : List ℕ) (n : Totals) (l : Lent) (rest : List ℕ) → one (p (code_body (n.counts.beats.0 + 1) (answer_of s n l).code (answer_of s n l).orders)) ≡ y →
    ((o : List ℕ) → one (p (order_body o)) ≡ x) → lines_in p (beat_text s n l ++ rest) ≡ y + ((answer_of s n l).orders * x + lines_in p rest)
unfolding beat_text
beat-adds p x y s n l rest g h =
    let a = answer_of s n l in
    let body = code_body (n.counts.beats.0 + 1) a.code a.orders in
    let os = order_lines a.orders (buffer_of s n l) in
    let head = code_line (n.counts.beats.0 + 1) a.code a.orders in
    let e : head ++ os ++ rest ≡ body ++ (LF ∷ (os ++ rest)) = append_assoc head os rest ∙ code-line (n.counts.beats.0 + 1) a.code a.orders (os ++ rest) in
    let c = count-first p body (os ++ rest) (code-above (n.counts.beats.0 + 1) a.code a.orders) in
    let d = orders-add p x h a.orders (buffer_of s n l) rest in
    rw e (c ∙ omega arith)

module _ (s : List ℕ) (n : Totals) (l : Lent) (rest : List ℕ) where
  abbrev answer : Beaten
  answer = answer_of s n l

  beats-one : lines_in is_beat (beat_text s n l ++ rest) ≡ 1 + lines_in is_beat rest
  beats-one = let e = beat-adds is_beat 0 1 s n l rest (code-is-beat (n.counts.beats.0 + 1) answer.code answer.orders) order-no-beat in omega arith

  coded-one : lines_in is_coded (beat_text s n l ++ rest) ≡ one_if answer.code + lines_in is_coded rest
  coded-one = let e = beat-adds is_coded 0 (one_if answer.code) s n l rest (code-is-coded (n.counts.beats.0 + 1) answer.code answer.orders) order-no-code in omega arith

  orders-all : lines_in is_order (beat_text s n l ++ rest) ≡ answer.orders + lines_in is_order rest
  orders-all = let e = beat-adds is_order 1 0 s n l rest (code-no-order (n.counts.beats.0 + 1) answer.code answer.orders) order-is-order in omega arith

-- ---- what stands at the end

-- END with what was counted before and in what was shown
abbrev end_from : Totals → List ℕ → List ℕ
end_from n shown = end_line (n.counts.beats.0 + lines_in is_beat shown) (n.counts.coded + lines_in is_coded shown) (n.counts.orders + lines_in is_order shown)

nothing-counted : (n : Totals) → (n.counts.beats.0 + lines_in is_beat [] ≡ n.counts.beats.0) × (n.counts.coded + lines_in is_coded [] ≡ n.counts.coded) × (n.counts.orders + lines_in is_order [] ≡ n.counts.orders)
unfolding count split
nothing-counted n = (omega arith, omega arith, omega arith)

-- in the view of a run: END, and all that there is to print of a beat
end-now : (s : List ℕ) (n : Totals) → n.counts.view ≡ Run → ended s n ≡ end_from n []
end-now s n r = ap (λ (v : View). end_by v s n) r ∙ counts
  where
    counts : end_by Run s n ≡ end_from n []
    counts = let e = nothing-counted n in rw (e.0, e.1, e.2)

-- of any line
abbrev shown_of : List ℕ → Totals → Said → List ℕ
shown_of s n (Beat l) = beat_text s n l
shown_of s n ProgramEnd = []
shown_of s n ControlReset = []

said-run : (s : List ℕ) (n : Totals) (x : Said) → n.counts.view ≡ Run → said_printed s n x ≡ shown_of s n x
unfolding beat_printed
said-run s n (Beat l) r = ap (λ (v : View). printed_by v (beat_text s n l)) r
said-run s n ProgramEnd r = refl
said-run s n ControlReset r = refl

-- ---- a line before what follows

-- a line PE or RS
abbrev pub is_call : List ℕ → Bool
is_call l = same_bytes l (bytes "PE") || same_bytes l (bytes "RS")

-- a line counts as a beat, unless it is a call
abbrev pub beats_of : Said → ℕ
beats_of (Beat l) = 1
beats_of ProgramEnd = 0
beats_of ControlReset = 0

call-said : (l : List ℕ) (x : Said) → line_said l ≡ Some x → beats_of x + one (is_call l) ≡ 1
unfolding line_said
call-said l x =
    let P : Option Said → Type 0 = λ o. o ≡ Some x → beats_of x + one (is_call l) ≡ 1 in
    either P (same_bytes l (bytes "PE")) (λ e h. let q : ProgramEnd ≡ x = cc in rw (← q, e)) λ e.
    either P (same_bytes l (bytes "RS")) (λ g h. let q : ControlReset ≡ x = cc in rw (← q, e, g)) λ g h.
    rw (e, g) (lent (line_lent l) h)
  where
    lent : (o : Option Lent) → says_beat o ≡ Some x → beats_of x + 0 ≡ 1
    lent None h = clash (cc)
    lent (Some l) h = let q : Beat l ≡ x = cc in rw (← q)

module _ (s : List ℕ) (n : Totals) (shown : List ℕ) where
  said-beats : (x : Said) → lines_in is_beat (shown_of s n x ++ shown) ≡ beats_of x + lines_in is_beat shown
  said-beats (Beat l) = beats-one s n l shown
  said-beats ProgramEnd = omega arith
  said-beats ControlReset = omega arith

  beat-later : (l : Lent) → end_from (counted n (answer_of s n l)) shown ≡ end_from n (beat_text s n l ++ shown)
  beat-later l =
      let then = counted n (answer_of s n l) in
      let b = beats-one s n l shown in
      let c = coded-one s n l shown in
      let o = orders-all s n l shown in
      let p : then.counts.beats.0 + lines_in is_beat shown ≡ n.counts.beats.0 + lines_in is_beat (beat_text s n l ++ shown) = omega arith in
      let q : then.counts.coded + lines_in is_coded shown ≡ n.counts.coded + lines_in is_coded (beat_text s n l ++ shown) = omega arith in
      let r : then.counts.orders + lines_in is_order shown ≡ n.counts.orders + lines_in is_order (beat_text s n l ++ shown) = omega arith in
      λ i. end_line (p i) (q i) (r i)

  end_later : (x : Said) → end_from (said_counted s n x) shown ≡ end_from n (shown_of s n x ++ shown)
  end_later (Beat l) = beat-later l
  end_later ProgramEnd = refl
  end_later ControlReset = refl

  -- what is printed of it, what is shown then, and the last line
  later : (x : Said) (text last end : List ℕ) → n.counts.view ≡ Run → last ≡ end → text ≡ shown ++ last → said_printed s n x ++ text ≡ (shown_of s n x ++ shown) ++ end
  later x text last end v e h =
      ap (λ (y : List ℕ). y ++ text) (said-run s n x v) ∙ ap (λ (y : List ℕ). shown_of s n x ++ y) h ∙ sym (append_assoc (shown_of s n x) shown last)
      ∙ ap (λ (y : List ℕ). shown_of s n x ++ shown ++ y) e

-- ---- lines that are well-formed

-- each of some lines behind the line * is
unfoldable pub well_formed : List (List ℕ) → Bool
well_formed [] = true
well_formed (l ∷ ls) = elim (line_said l) [ None ↦ false | Some x ↦ well_formed ls ]

well-first : (l : List ℕ) (ls : List (List ℕ)) → well_formed (l ∷ ls) ≡ true → (x : Said) × (line_said l ≡ Some x) × (well_formed ls ≡ true)
unfolding well_formed
well-first l ls = by_lent (λ (y : Bool). y ≡ true → (x : Said) × (line_said l ≡ Some x) × (well_formed ls ≡ true)) (line_said l) (λ e h. clash (cc)) (λ x e h. (x, e, h))

-- the C lines in what was shown, and the calls among some lines, are those lines
abbrev pub Counts : List ℕ → List (List ℕ) → Type 0
Counts shown ls = lines_in is_beat shown + count is_call ls ≡ length ls

none-count : Counts [] []
unfolding count split
none-count = refl

one-counts : (s : List ℕ) (n : Totals) (l : List ℕ) (ls : List (List ℕ)) (x : Said) (shown : List ℕ) → line_said l ≡ Some x → Counts shown ls → Counts (shown_of s n x ++ shown) (l ∷ ls)
unfolding count
one-counts s n l ls x shown e h = let a = said-beats s n shown x in let b = call-said l x e in omega arith

-- with k lines left at most
end-counted : (ls : List (List ℕ)) (s : List ℕ) (n : Totals) (k : ℕ) → n.counts.lines + k ≡ last_line → n.counts.view ≡ Run → well_formed ls ≡ true → (shown : List ℕ) × (beats_text s n ls ≡ shown ++ end_from n shown) × Counts shown (take k ls)
unfolding beats_text
end-counted ls s n zero r v h = ([], beats-over s n ls (eq-eqb n.counts.lines last_line (omega arith)) ∙ end-now s n v, none-count)
end-counted [] s n (suc k) r v h = ([], end-now s n v, none-count)
end-counted (l ∷ ls) s n (suc k) r v h =
    let w = well-first l ls h in
    let x = w.0 in
    let m = said_counted s n x in
    let c = said-lines s n x in
    let f = end-counted ls s m k (omega arith) (said-view s n x ∙ v) w.2 in (
      shown_of s n x ++ f.0,
      beats-some s n l ls x (ne_eqb n.counts.lines last_line (λ e. omega arith)) w.1 ∙ later s n f.0 x (beats_text s m ls) (end_from m f.0) (end_from n (shown_of s n x ++ f.0)) v (end_later s n f.0 x) f.1,
      one-counts s n l (take k ls) x f.0 w.1 f.2,
    )

-- ---- whatever the lines

-- an ill-formed line among some, with the number of those before it, n lines being before them all
pub record Ill (ls : List (List ℕ)) (n : ℕ) (shown text : List ℕ) : Type 0 where
  pub taken : List (List ℕ)
  pub line : List ℕ
  pub rest : List (List ℕ)
  pub are : ls ≡ taken ++ (line ∷ rest)
  pub says : line_said line ≡ None
  pub counts : Counts shown taken
  pub prints : text ≡ shown ++ error_line (n + length taken + 1)

-- END or E
abbrev Last : List (List ℕ) → Totals → List ℕ → Type 0
Last ls n text = (shown : List ℕ) × ((text ≡ shown ++ end_from n shown) ⊎ Ill ls n.counts.lines shown text)

ill-now : (l : List ℕ) (ls : List (List ℕ)) (n : ℕ) → line_said l ≡ None → Ill (l ∷ ls) n [] (error_line (n + 1))
ill-now l ls n h = record { taken = []; line = l; rest = ls; are = refl; says = h; counts = none-count; prints = let e : n + 1 ≡ n + 0 + 1 = omega arith in ap error_line e }

module _ (l : List ℕ) (ls : List (List ℕ)) (s : List ℕ) (n : Totals) (x : Said) (e : line_said l ≡ Some x) (v : n.counts.view ≡ Run) where
  ill-later : (shown text : List ℕ) → Ill ls (said_counted s n x).counts.lines shown text → Ill (l ∷ ls) n.counts.lines (shown_of s n x ++ shown) (said_printed s n x ++ text)
  ill-later shown text i =
      let c = said-lines s n x in
      let q : (said_counted s n x).counts.lines + length i.taken + 1 ≡ n.counts.lines + length (l ∷ i.taken) + 1 = omega arith in
      record {
        taken = l ∷ i.taken;
        line = i.line;
        rest = i.rest;
        are = ap (λ (y : List (List ℕ)). l ∷ y) i.are;
        says = i.says;
        counts = one-counts s n l i.taken x shown e i.counts;
        prints = later s n shown x text (error_line ((said_counted s n x).counts.lines + length i.taken + 1)) (error_line (n.counts.lines + length (l ∷ i.taken) + 1)) v (ap error_line q) i.prints;
      }

  last-later : (text : List ℕ) → Last ls (said_counted s n x) text → Last (l ∷ ls) n (said_printed s n x ++ text)
  last-later text r = (shown_of s n x ++ r.0, by_end r.1)
    where
      by_end : (text ≡ r.0 ++ end_from (said_counted s n x) r.0) ⊎ Ill ls (said_counted s n x).counts.lines r.0 text →
          (said_printed s n x ++ text ≡ (shown_of s n x ++ r.0) ++ end_from n (shown_of s n x ++ r.0)) ⊎ Ill (l ∷ ls) n.counts.lines (shown_of s n x ++ r.0) (said_printed s n x ++ text)
      by_end (inl g) = inl (later s n r.0 x text (end_from (said_counted s n x) r.0) (end_from n (shown_of s n x ++ r.0)) v (end_later s n r.0 x) g)
      by_end (inr i) = inr (ill-later r.0 text i)

last-counted : (ls : List (List ℕ)) (s : List ℕ) (n : Totals) → n.counts.view ≡ Run → Last ls n (beats_text s n ls)
unfolding beats_text
last-counted [] s n v = ([], inl (end-now s n v))
last-counted (l ∷ ls) s n v =
    either (Last (l ∷ ls) n) (eqb n.counts.lines last_line) (λ e. ([], inl (end-now s n v)))
    (λ e. by_lent (Last (l ∷ ls) n) (line_said l) (λ u. ([], inr (ill-now l ls n.counts.lines u)))
    (λ x u. last-later l ls s n x u v (beats_text s (said_counted s n x) ls) (last-counted ls s (said_counted s n x) (said-view s n x ∙ v))))

-- ---- all that is printed

from-none : (shown : List ℕ) → end_from (no_totals Run) shown ≡ end_line (lines_in is_beat shown) (lines_in is_coded shown) (lines_in is_order shown)
from-none shown =
    let p : 0 + lines_in is_beat shown ≡ lines_in is_beat shown = omega arith in
    let q : 0 + lines_in is_coded shown ≡ lines_in is_coded shown = omega arith in
    let r : 0 + lines_in is_order shown ≡ lines_in is_order shown = omega arith in
    λ i. end_line (p i) (q i) (r i)

-- where the text is taken and every line behind the line * is well-formed, the last line is END with the numbers of the C lines, of those with a code and of the O lines before it;
-- and the C lines with the lines PE and RS make up the lines that were taken, the first 1,000,000
pub end-counts : (t : List ℕ) → (load_answer (input_of t).text).code ≡ 0 → well_formed (input_of t).beats ≡ true →
    (shown : List ℕ) × (synrun t ≡ shown ++ end_line (lines_in is_beat shown) (lines_in is_coded shown) (lines_in is_order shown)) × (lines_in is_beat shown + count is_call (take last_line (input_of t).beats) ≡ length (take last_line (input_of t).beats))
unfolding printout
end-counts t h g =
    let i = input_of t in
    let r = end-counted i.beats (load_set i.text) (no_totals Run) last_line refl refl g in
    (r.0, loaded-zero Run i h ∙ r.1 ∙ ap (λ (y : List ℕ). r.0 ++ y) (from-none r.0), r.2)

-- where the text is taken, whatever the lines, it is that END, or E with the number of the first ill-formed line: one more than the C lines before E and the lines PE and RS before that line
pub last-counts : (t : List ℕ) → (load_answer (input_of t).text).code ≡ 0 →
    (shown : List ℕ) × ((synrun t ≡ shown ++ end_line (lines_in is_beat shown) (lines_in is_coded shown) (lines_in is_order shown)) ⊎ Ill (input_of t).beats 0 shown (synrun t))
unfolding printout
last-counts t h = (r.0, by_end r.1)
  where
    text : List ℕ
    text = beats_text (load_set (input_of t).text) (no_totals Run) (input_of t).beats

    r : Last (input_of t).beats (no_totals Run) text
    r = last-counted (input_of t).beats (load_set (input_of t).text) (no_totals Run) refl

    by_end : (text ≡ r.0 ++ end_from (no_totals Run) r.0) ⊎ Ill (input_of t).beats 0 r.0 text →
        (synrun t ≡ r.0 ++ end_line (lines_in is_beat r.0) (lines_in is_coded r.0) (lines_in is_order r.0)) ⊎ Ill (input_of t).beats 0 r.0 (synrun t)
    by_end (inl e) = inl (loaded-zero Run (input_of t) h ∙ e ∙ ap (λ (y : List ℕ). r.0 ++ y) (from-none r.0))
    by_end (inr i) = inr (rw (loaded-zero Run (input_of t) h) i)
