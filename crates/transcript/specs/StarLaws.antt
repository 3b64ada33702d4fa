-- Laws of the line * that ends the set text, and of where the set text of an input ends. Assumes nothing.
use Rattle.std.specs.Prelude.{◌≡◌, refl, true, false, cond, ◌&&◌, List, [], ◌∷◌, ◌++◌, ℕ, ◌+◌, ◌≤◌, ◌<◌, eqb, length, take, drop}
use Rattle.std.proofs.Common.{sym, ap, ◌∙◌, arith, length-append, take_all, length-take-le, eqb-true}
use Rattle.std.proofs.Math.Bool.{and-false}
use Rattle.values.specs.Choice.{decide, either, either-cond}
use Rattle.values.specs.Numbers.{clash}
use Rattle.text.specs.Byte.{LF, CR, in_line, run}
use Rattle.text.specs.ByteLaws.{run-within}
use Rattle.text.specs.Lines.{text_lines, without_return}
use Rattle.text.specs.LinesLaws.{lines_more, lines-last, split-some}
use Rattle.transcript.specs.Input.{Input, is_star, beat_lines, line_before, cut, input_of}
use Rattle.transcript.specs.declared.set_text.Star.{Star}
use Rattle.transcript.specs.declared.set_text.Star.TheVariants.{Empty, Alone, Return, Other}
use Rattle.transcript.specs.SetText.{is_alone, star_after, star_on, star_ends}

-- ---- the line *, as the code looks for it

-- anything else stays so
else-star : (l : List ℕ) → star_on Other l ≡ Other
unfolding star_on star_after
else-star [] = refl
else-star (b ∷ bs) = else-star bs

-- a line of two bytes and more is no *
star-two : (b c : ℕ) (cs : List ℕ) → is_alone (star_on Empty (b ∷ c ∷ cs)) ≡ false
unfolding star_on star_after
star-two b c cs = decide (is_alone (star_on Empty (b ∷ c ∷ cs)) ≡ false) (eqb b 42) (λ e. rw e (second cs)) (λ e. rw (e, else-star cs))
  where
    second : (ds : List ℕ) → is_alone (star_on (cond (eqb c CR) Return Other) ds) ≡ false
    second [] = either-cond (λ (y : Star). is_alone y ≡ false) (eqb c CR) Return Other refl refl
    second (d ∷ ds) = decide (is_alone (star_on (cond (eqb c CR) Return Other) (d ∷ ds)) ≡ false) (eqb c CR) (λ g. rw (g, else-star ds)) (λ g. rw (g, else-star ds))

-- the line * as it stands
pub star-last : (l : List ℕ) → is_alone (star_on Empty l) ≡ is_star l
unfolding star_on star_after
star-last [] = refl
star-last (b ∷ []) = decide (is_alone (cond (eqb b 42) Alone Other) ≡ (eqb b 42 && true)) (eqb b 42) (λ e. rw e) (λ e. rw e)
star-last (b ∷ c ∷ cs) = star-two b c cs ∙ sym (and-false (eqb b 42))

-- and before its LF, where a CR may stand behind it
star-three : (b c d : ℕ) (ds : List ℕ) → star_ends (star_on Empty (b ∷ c ∷ d ∷ ds)) ≡ false
unfolding star_on star_after
star-three b c d ds =
    decide (star_ends (star_on Empty (b ∷ c ∷ d ∷ ds)) ≡ false) (eqb b 42)
    (λ e. rw e (decide (star_ends (star_on (star_after (cond (eqb c CR) Return Other) d) ds) ≡ false) (eqb c CR) (λ g. rw (g, else-star ds)) (λ g. rw (g, else-star ds))))
    (λ e. rw (e, else-star ds))

pub star-ended : (l : List ℕ) → star_ends (star_on Empty l) ≡ is_star (without_return l)
unfolding star_on star_after without_return
star-ended [] = refl
star-ended (b ∷ []) =
    either (λ (y : List ℕ). star_ends (star_after Empty b) ≡ is_star y) (eqb b CR)
    (λ e. let q = eqb-true b CR e in rw q)
    (λ e. decide (star_ends (cond (eqb b 42) Alone Other) ≡ (eqb b 42 && true)) (eqb b 42) (λ g. rw g) (λ g. rw g))
star-ended (b ∷ c ∷ []) =
    either (λ (y : List ℕ). star_ends (star_after (star_after Empty b) c) ≡ is_star (b ∷ y)) (eqb c CR)
    (λ e. let q = eqb-true c CR e in rw q (decide (star_ends (star_after (cond (eqb b 42) Alone Other) CR) ≡ (eqb b 42 && true)) (eqb b 42) (λ g. rw g) (λ g. rw g)))
    (λ e. rw (and-false (eqb b 42)) (decide (star_ends (star_after (cond (eqb b 42) Alone Other) c) ≡ false) (eqb b 42) (λ g. rw (g, e)) (λ g. rw g)))
star-ended (b ∷ c ∷ d ∷ ds) = star-three b c d ds ∙ sym (and-false (eqb b 42))

-- ---- the input cut at it

pub cut-star : (l : List ℕ) → is_star l ≡ true → cut (l ∷ []) ≡ record { text = []; beats = [] }
unfolding cut
cut-star l h = either (λ (y : Input). y ≡ record { text = []; beats = [] }) (is_star l) (λ e. refl) (λ e. clash (cc))

pub cut-last : (l : List ℕ) → is_star l ≡ false → cut (l ∷ []) ≡ record { text = l; beats = [] }
unfolding cut
cut-last l h = either (λ (y : Input). y ≡ record { text = l; beats = [] }) (is_star l) (λ e. clash (cc)) (λ e. refl)

pub cut-here : (l k : List ℕ) (ls : List (List ℕ)) → is_star (without_return l) ≡ true → cut (l ∷ k ∷ ls) ≡ record { text = []; beats = beat_lines (k ∷ ls) }
unfolding cut
cut-here l k ls h = either (λ (y : Input). y ≡ record { text = []; beats = beat_lines (k ∷ ls) }) (is_star (without_return l)) (λ e. refl) (λ e. clash (cc))

pub cut_later : (l k : List ℕ) (ls : List (List ℕ)) → is_star (without_return l) ≡ false → cut (l ∷ k ∷ ls) ≡ line_before l (cut (k ∷ ls))
unfolding cut
cut_later l k ls h = either (λ (y : Input). y ≡ line_before l (cut (k ∷ ls))) (is_star (without_return l)) (λ e. clash (cc)) (λ e. refl)

-- ---- the set text of an input, by its first line

-- lines behind a line are some
cut-more : (l : List ℕ) (ls : List (List ℕ)) → (ls ≡ [] → ⊥) → is_star (without_return l) ≡ false → (cut (l ∷ ls)).text ≡ l ++ (LF ∷ (cut ls).text)
cut-more l [] n h = absurd (n refl)
cut-more l (k ∷ ls) n h = ap (λ (i : Input). i.text) (cut_later l k ls h)

cut-none : (l : List ℕ) (ls : List (List ℕ)) → (ls ≡ [] → ⊥) → is_star (without_return l) ≡ true → (cut (l ∷ ls)).text ≡ []
cut-none l [] n h = absurd (n refl)
cut-none l (k ∷ ls) n h = ap (λ (i : Input). i.text) (cut-here l k ls h)

module _ (t : List ℕ) where
  abbrev line : List ℕ
  line = take (run in_line t) t

  abbrev behind : List ℕ
  behind = drop (run in_line t + 1) t

  pub text-none : run in_line t < length t → is_star (without_return line) ≡ true → (input_of t).text ≡ []
  unfolding input_of
  text-none h e = rw (lines_more t h) (cut-none line (text_lines behind) (split-some LF behind) e)

  pub text-more : run in_line t < length t → is_star (without_return line) ≡ false → (input_of t).text ≡ line ++ (LF ∷ (input_of behind).text)
  unfolding input_of
  text-more h e = rw (lines_more t h) (cut-more line (text_lines behind) (split-some LF behind) e)

  pub text-star : length t ≤ run in_line t → is_star t ≡ true → (input_of t).text ≡ []
  unfolding input_of
  text-star h e = rw (lines-last t h) (ap (λ (i : Input). i.text) (cut-star t e))

  pub text-last : length t ≤ run in_line t → is_star t ≡ false → (input_of t).text ≡ t
  unfolding input_of
  text-last h e = rw (lines-last t h) (ap (λ (i : Input). i.text) (cut-last t e))

pub text-empty : (input_of []).text ≡ []
text-empty = text-last [] (omega arith) refl

-- ---- its size, by what the first line, of m bytes, is so far

module _ (t : List ℕ) (m : ℕ) (e : m ≡ run in_line t) {star : Star} (s : star ≡ star_on Empty (take m t)) where
  whole : length t ≤ m → take m t ≡ t
  whole h = take_all m t h

  alone-is : length t ≤ m → is_alone star ≡ is_star t
  alone-is h = ap is_alone s ∙ ap (λ (l : List ℕ). is_alone (star_on Empty l)) (whole h) ∙ star-last t

  pub size-last-star : length t ≤ m → is_alone star ≡ true → length (input_of t).text ≡ 0
  size-last-star h z = ap (λ (l : List ℕ). length l) (text-star t (omega arith) (sym (alone-is h) ∙ z))

  pub size-last : length t ≤ m → is_alone star ≡ false → length (input_of t).text ≡ length t
  size-last h z = ap (λ (l : List ℕ). length l) (text-last t (omega arith) (sym (alone-is h) ∙ z))

  ended_is : star_ends star ≡ is_star (without_return (take (run in_line t) t))
  ended_is = ap star_ends s ∙ star-ended (take m t) ∙ ap (λ (k : ℕ). is_star (without_return (take k t))) e

  pub size-star : m < length t → star_ends star ≡ true → length (input_of t).text ≡ 0
  size-star h z = ap (λ (l : List ℕ). length l) (text-none t (omega arith) (sym ended_is ∙ z))

  pub size-more : m < length t → star_ends star ≡ false → length (input_of t).text ≡ m + 1 + length (input_of (drop (m + 1) t)).text
  size-more h z =
      let n = run in_line t in
      let a = text-more t (omega arith) (sym ended_is ∙ z) in
      let b = length-append (take n t) (LF ∷ (input_of (drop (n + 1) t)).text) in
      let c = length-take-le n t (run-within in_line t) in
      rw (a, e) (omega arith)
