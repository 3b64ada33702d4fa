-- A number is written in no more bytes than any other writing of it takes. Assumes nothing.
use Rattle.std.specs.Prelude.{◌≡◌, true, false, List, [], ◌∷◌, ℕ, zero, suc, ◌+◌, ◌-◌, ◌*◌, ◌/◌, ◌%◌, ◌^◌, ◌≤◌, ◌<◌, eqb, leb}
use native.Mathlib.Omega.{arith}
use Rattle.std.proofs.Math.ListN.{length, length-append}
use borrow.Author.Tests.{eq-eqb, leb-true}
use Rattle.values.specs.Choice.{decide, both}
use Rattle.values.specs.Value.{unit, top}
use Rattle.tokens.specs.Token.{NUMBER, number_carried, thousandths}
use Rattle.text.specs.Byte.{is_digit}
use Rattle.text.specs.Number.{digits_value, written, is_fit, too_large, point_mark, number_token}
use Rattle.text.specs.First.{with_point}
use Rattle.text.specs.Digits.{decimal}
use Rattle.print.specs.TokenText.{part_digits, part_text, number_text}
use Rattle.print.specs.DecimalLaws.{All, value-below, decimal-length}
use Rattle.print.specs.NumberBackLaws.{by_part}

-- a fraction that j digits are enough for is written in no more
part_length : (f j : ℕ) → f < 1000 → j ≤ 3 → f % 10 ^ (3 - j) ≡ 0 → length (part_text f) ≤ with_point j
unfolding part_text
part_length f zero h u e = let z : f ≡ 0 = omega arith in rw (part_text, eq-eqb f 0 z) (omega arith)
part_length f (suc zero) h u e =
    decide _ (eqb f 0) (λ z. rw (part_text, z) (omega arith)) λ z. rw (part_text, z)
    (by_part (suc (length (part_digits f)) ≤ 2) f (λ g p. rw p (omega arith)) (λ n g p. absurd (n e)) (λ n p. absurd (n (omega arith))))
part_length f (suc (suc zero)) h u e =
    decide _ (eqb f 0) (λ z. rw (part_text, z) (omega arith)) λ z. rw (part_text, z)
    (by_part (suc (length (part_digits f)) ≤ 3) f (λ g p. rw p (omega arith)) (λ n g p. rw p (omega arith)) (λ n p. absurd (n e)))
part_length f (suc (suc (suc j))) h u e =
    decide _ (eqb f 0) (λ z. rw (part_text, z) (omega arith)) λ z. rw (part_text, z)
    (by_part (suc (length (part_digits f)) ≤ suc (suc (suc (suc j)))) f (λ g p. rw p (omega arith)) (λ n g p. rw p (omega arith)) (λ n p. rw p (omega arith)))

-- what digits behind the point are worth
part-worth : (d : List ℕ) → All is_digit d → length d ≤ 3 → (digits_value d 0 * 10 ^ (3 - length d) < 1000) × (digits_value d 0 * 10 ^ (3 - length d) % 10 ^ (3 - length d) ≡ 0)
part-worth [] h l = (omega arith, omega arith)
part-worth (a ∷ []) h l = let v = value-below (a ∷ []) 0 h in (omega arith, omega arith)
part-worth (a ∷ b ∷ []) h l = let v = value-below (a ∷ b ∷ []) 0 h in (omega arith, omega arith)
part-worth (a ∷ b ∷ c ∷ []) h l = let v = value-below (a ∷ b ∷ c ∷ []) 0 h in (omega arith, omega arith)
part-worth (a ∷ b ∷ c ∷ e ∷ d) h l = absurd (omega arith)

module _ (a d : List ℕ) (da : All is_digit a) (dd : All is_digit d) (some : 0 < length a) where
  units-length : (n j : ℕ) → n < 10 ^ j → 0 < j → length (decimal n) ≤ j
  units-length n zero h l = absurd (omega arith)
  units-length n (suc j) h l = decimal-length n j h

  fit-shorter : length d ≤ 3 → length (number_text (written a d)) ≤ length a + with_point (length d)
  unfolding number_text written
  fit-shorter few =
      let x = digits_value a 0 in
      let f = digits_value d 0 * 10 ^ (3 - length d) in
      let (l, e) = part-worth d dd few in
      let v = value-below a 0 da in
      let q : (x * unit + f) / unit ≡ x = omega arith in
      let r : (x * unit + f) % unit ≡ f = omega arith in
      let u = units-length x (length a) (omega arith) some in
      let p = part_length f (length d) l few e in
      let n = length-append (decimal x) (part_text f) in
      rw (q, r) (omega arith)

  mark-small : point_mark d ≤ 1
  mark-small = go d
    where
      go : (l : List ℕ) → point_mark l ≤ 1
      go [] = omega arith
      go (x ∷ l) = omega arith

  token-fit : is_fit a d ≡ true → number_token a d ≡ NUMBER + (written a d * 2 + point_mark d)
  unfolding number_token
  token-fit e = rw (number_token, e)

  token-unfit : is_fit a d ≡ false → number_token a d ≡ NUMBER + (too_large * 2 + point_mark d)
  unfolding number_token
  token-unfit e = rw (number_token, e)

  fit-few : is_fit a d ≡ true → length d ≤ 3
  unfolding is_fit
  fit-few e = leb-true (length d) 3 (both (leb (length d) 3) _ (both (leb (length a) 7) _ e).1).0

  -- the number of digits before and behind a point
  pub number-shorter : thousandths (number_carried (number_token a d)) ≤ top → length (number_text (thousandths (number_carried (number_token a d)))) ≤ length a + with_point (length d)
  number-shorter h =
      let m = mark-small in
      decide _ (is_fit a d)
      (λ e. let t = token-fit e in let w : thousandths (number_carried (number_token a d)) ≡ written a d = omega arith in rw w (fit-shorter (fit-few e)))
      (λ e. let t = token-unfit e in absurd (omega arith))
