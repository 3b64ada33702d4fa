-- Laws of the lines of a text from a place on: a turn of a loop over them.
use mathlib.Core.Path.{◌≡◌, refl, sym, ap, ◌∙◌}
use mathlib.Core.Bool.{true, false}
use mathlib.Core.List.{List, [], ◌∷◌}
use Prim.Native.Nat.{ℕ, suc, ◌+◌, ◌-◌, ◌<◌, ◌≤◌}
use native.Mathlib.Omega.{arith}
use lib.Dec.{ltb}
use lib.ListN.{length, take, drop, drop_of_length-le, length-drop}
use lib.Seq.{drop-drop}
use borrow.Author.Tests.{ltb-true, ltb-false}
use Rattle.values.specs.Choice.{decide}
use Rattle.text.specs.declared.lines.Bounds.{Bounds}
use Rattle.text.specs.Byte.{in_line, run}
use Rattle.text.specs.ByteLaws.{run-within}
use Rattle.text.specs.Lines.{split, text_lines, without_comment, bodies, first_body, bounds_at, is_blank, numbered}
use Rattle.text.specs.LinesLaws.{bodies-more, bodies-last, body-part, body-within}

-- ---- the lines from place i on

module _ (b : List ℕ) (bs : List (List ℕ)) (k : ℕ) where
  pub line-blank : is_blank b ≡ true → numbered k (b ∷ bs) ≡ numbered (suc k) bs
  unfolding numbered
  line-blank h = rw (numbered, h)

  pub line-full : is_blank b ≡ false → numbered k (b ∷ bs) ≡ record { place = k; body = b } ∷ numbered (suc k) bs
  unfolding numbered
  line-full h = rw (numbered, h)

-- behind the end of a text there are none
none-behind : (k : ℕ) → numbered k (bodies (text_lines [])) ≡ numbered k []
unfolding numbered bodies split without_comment run is_blank
none-behind k = refl

module _ (k : ℕ) (t : List ℕ) where
  -- the first line, and those behind it
  pub first-line : numbered k (bodies (text_lines t)) ≡ numbered k (first_body t ∷ bodies (text_lines (drop (run in_line t + 1) t)))
  first-line = decide _ (ltb (run in_line t) (length t)) (λ e. ap (numbered k) (bodies-more t (ltb-true _ _ e))) (λ e. last (ltb-false _ _ e))
    where
      last : length t ≤ run in_line t → numbered k (bodies (text_lines t)) ≡ numbered k (first_body t ∷ bodies (text_lines (drop (run in_line t + 1) t)))
      last h =
          rw (bodies-last t h, drop_of_length-le t {i = run in_line t + 1} (omega arith))
          (decide _ (is_blank (first_body t))
          (λ e. line-blank (first_body t) [] k e ∙ (sym (none-behind (suc k)) ∙ sym (line-blank (first_body t) (bodies (text_lines [])) k e)))
          (λ e. line-full (first_body t) [] k e ∙ (ap (λ ls. record { place = k; body = first_body t } ∷ ls) (sym (none-behind (suc k))) ∙ sym (line-full (first_body t) (bodies (text_lines [])) k e))))

module _ (t : List ℕ) (i : ℕ) where
  pub lines_none : length t < i → (k : ℕ) → numbered k (bodies (text_lines (drop i t))) ≡ []
  unfolding numbered
  lines_none h k = rw (drop_of_length-le t {i = i} (omega arith)) (none-behind k)

  -- b is where the line ends
  module _ (b : Bounds) (e : b ≡ bounds_at i (drop i t)) where
    end_is : b.end ≡ i + run in_line (drop i t)
    unfolding bounds_at
    end_is = ap (λ (x : Bounds). x.end) e

    body_is : b.body ≡ i + length (first_body (drop i t))
    unfolding bounds_at
    body_is = ap (λ (x : Bounds). x.body) e

    pub part-is : take (b.body - i) (drop i t) ≡ first_body (drop i t)
    part-is = let h = body_is in let g : b.body - i ≡ length (first_body (drop i t)) = omega arith in rw g (body-part (drop i t))

    -- the body stands in the line, the line in the text
    pub line-inside : i ≤ length t → (i ≤ b.body) × (b.body ≤ b.end) × (b.end ≤ length t) × (length (take (b.body - i) (drop i t)) ≡ b.body - i)
    line-inside l =
        let h = body_is in
        let g = end_is in
        let w = body-within (drop i t) in
        let r = run-within in_line (drop i t) in
        let d = length-drop i t in
        let p = ap length part-is in
        (omega arith, omega arith, omega arith, omega arith)

    pub lines_step : (k : ℕ) → numbered k (bodies (text_lines (drop i t))) ≡ numbered k (first_body (drop i t) ∷ bodies (text_lines (drop (b.end + 1) t)))
    lines_step k =
        let g : i + (run in_line (drop i t) + 1) ≡ b.end + 1 = let h = end_is in omega arith in
        first-line k (drop i t) ∙ rw (drop-drop (run in_line (drop i t) + 1) i t, g)

-- ---- how many there are, wherever the numbering begins

numbered-count : (k j : ℕ) (bs : List (List ℕ)) → length (numbered k bs) ≡ length (numbered j bs)
unfolding numbered
numbered-count k j [] = refl
numbered-count k j (b ∷ bs) =
    let i = numbered-count (suc k) (suc j) bs in
    decide _ (is_blank b) (λ e. rw (line-blank b bs k e, line-blank b bs j e) i) (λ e. rw (line-full b bs k e, line-full b bs j e) (ap suc i))

module _ (b : List ℕ) (bs : List (List ℕ)) where
  pub count-blank : is_blank b ≡ true → length (numbered 1 (b ∷ bs)) ≡ length (numbered 1 bs)
  count-blank h = rw (line-blank b bs 1 h) (numbered-count 2 1 bs)

  pub count-full : is_blank b ≡ false → length (numbered 1 (b ∷ bs)) ≡ suc (length (numbered 1 bs))
  count-full h = rw (line-full b bs 1 h) (ap suc (numbered-count 2 1 bs))
