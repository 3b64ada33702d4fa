-- Laws of the bytes of what is written: what a computed test says of every name of the table, and of the bytes of numbers, it says of every token and line. Assumes nothing.
use Rattle.std.specs.Prelude.{◌≡◌, refl, Bool, true, ℕ, ◌/◌, ◌%◌, ◌<◌, eqb}
use mathlib.Core.List.{List, [], ◌∷◌, ◌++◌}
use Rattle.std.proofs.Common.{arith, eqb-true}
use Rattle.values.specs.Choice.{decide, both}
use Rattle.values.specs.Value.{unit}
use Rattle.tokens.specs.Token.{number_carried, thousandths}
use Rattle.text.specs.Byte.{POINT, SPACE, is_digit}
use Rattle.text.specs.Word.{Words, names, name_in}
use Rattle.text.specs.WordLaws.{rows}
use Rattle.text.specs.Digits.{decimal}
use Rattle.print.specs.TokenText.{part_digits, part_text, number_text, name_text, token_text, needs_space, gap, line_text}
use Rattle.print.specs.DecimalLaws.{All, all_append, decimal-digits}
use Rattle.print.specs.NumberBackLaws.{part-is}
use Rattle.print.specs.TokenBackLaws.{each, each_all, by_token}
use Rattle.print.specs.LineBack.{gap-none, gap-some}

-- what a test says of every row of a table, and of no bytes, it says of every token's name
pub any_name : (f : List ℕ → ℕ → Bool) (ws : Words) (t : ℕ) → rows f ws ≡ true → f [] t ≡ true → f (name_in ws t) t ≡ true
any_name f [] t h g = g
any_name f (w ∷ ws) t h g =
    let (a, b) = both (f w.0 w.1) (rows f ws) h in
    decide _ (eqb w.1 t)
    (λ e. rw (name_in, e) (rw (eqb-true w.1 t e) at a))
    (λ e. rw (name_in, e) (any_name f ws t b g))

all_of : (p q : ℕ → Bool) (bs : List ℕ) → ((b : ℕ) → p b ≡ true → q b ≡ true) → All p bs → All q bs
all_of p q [] h g = tt
all_of p q (b ∷ bs) h g = (h b g.0, all_of p q bs h g.1)

-- a test that the bytes of numbers and names pass
pub record Passed (p : ℕ → Bool) : Type 0 where
  pub digit : (b : ℕ) → is_digit b ≡ true → p b ≡ true
  pub point : p POINT ≡ true
  pub names : rows (λ x t. each p x) names ≡ true

module _ (p : ℕ → Bool) (h : Passed p) where
  part_bytes : (f : ℕ) → f < 1000 → All p (part_text f)
  unfolding part_text
  part_bytes f l =
      decide _ (eqb f 0)
      (λ e. rw (part_text, e) tt)
      (λ e. rw (part_text, e) (h.point, all_of is_digit p (part_digits f) h.digit (part-is f l).digits))

  number-bytes : (n : ℕ) → All p (number_text n)
  unfolding number_text
  number-bytes n =
      all_append p (decimal (n / unit)) (part_text (n % unit))
      (all_of is_digit p (decimal (n / unit)) h.digit (decimal-digits (n / unit)))
      (part_bytes (n % unit) (omega arith))

  name-bytes : (t : ℕ) → All p (name_text t)
  unfolding name_text
  name-bytes t = each_all p (name_in names t) (any_name (λ x t. each p x) names t h.names refl)

  -- EVERY BYTE OF A TOKEN passes
  pub token-bytes : (t : ℕ) → All p (token_text t)
  token-bytes t = by_token _ t (λ e x. rw x (number-bytes (thousandths (number_carried t)))) (λ e g x. rw x (name-bytes t)) (λ e g x. rw x (name-bytes t))

  gap-bytes : p SPACE ≡ true → (t u : ℕ) → All p (gap t u)
  gap-bytes s t u = decide _ (needs_space t u) (λ n. rw (gap-some t u n) (s, tt)) (λ n. rw (gap-none t u n) tt)

  -- and so every byte of a line, if a space does
  pub line-bytes : p SPACE ≡ true → (ts : List ℕ) → All p (line_text ts)
  unfolding line_text
  line-bytes s [] = tt
  line-bytes s (t ∷ []) = token-bytes t
  line-bytes s (t ∷ u ∷ ts) =
      all_append p (token_text t) (gap t u ++ line_text (u ∷ ts)) (token-bytes t)
      (all_append p (gap t u) (line_text (u ∷ ts)) (gap-bytes s t u) (line-bytes s (u ∷ ts)))
