-- A number that is written is read back: its token, and every byte of it. Assumes nothing.
use Rattle.std.specs.Prelude.{◌≡◌, refl, true, false, Some, ℕ, suc, ◌+◌, ◌-◌, ◌*◌, ◌/◌, ◌%◌, ◌^◌, ◌≤◌, ◌<◌, eqb, take, drop, get_or}
use Rattle.std.proofs.Math.Path.{sym, ap}
use Rattle.std.proofs.Common.{◌∙◌, get_or-append-add, eqb-true}
use mathlib.Core.List.{List, [], ◌∷◌, ◌++◌, append_assoc}
use native.Mathlib.Omega.{arith}
use Rattle.std.proofs.Math.ListN.{length, length-append}
use Rattle.std.proofs.Math.Seq.{take-append_seam, drop-append_seam, drop-append-add}
use Rattle.std.proofs.lemmas.Bool.{eqb-false}
use Rattle.values.specs.Choice.{decide, chosen, refused}
use Rattle.values.specs.Value.{unit, top}
use Rattle.tokens.specs.Token.{NUMBER}
use Rattle.text.specs.Byte.{POINT, is_digit, is_letter}
use Rattle.text.specs.Number.{digits_value, written, point_mark, number_token}
use Rattle.text.specs.NumberLaws.{value_in}
use Rattle.text.specs.FirstLaws.{number_is, found_some}
use Rattle.text.specs.First.{found, behind_point, with_point, number_with, number_first}
use Rattle.text.specs.Digits.{decimal}
use Rattle.print.specs.TokenText.{digit, part_digits, part_text, number_text}
use Rattle.print.specs.ReadBack.{mark}
use Rattle.print.specs.DecimalLaws.{All, run-over, digit-is, decimal-value, decimal-digits, decimal-length}

-- a point and the digits behind it; none where there are no digits
abbrev pub pointed : List ℕ → List ℕ
pointed [] = []
pointed (b ∷ bs) = POINT ∷ b ∷ bs

pub pointed-length : (bs : List ℕ) → length (pointed bs) ≡ with_point (length bs)
pointed-length [] = refl
pointed-length (b ∷ bs) = refl

-- a number does not go on at the byte c
pub record Stops (c : ℕ) : Type 0 where
  pub digit : is_digit c ≡ false
  pub letter : is_letter c ≡ false
  pub point : eqb c POINT ≡ false

-- digits, or digits, point, digits, and what does not go on with them
behind-scan : (b rest : List ℕ) → All is_digit b → Stops (get_or rest 0 0) → behind_point (pointed b ++ rest) ≡ length b
unfolding behind_point
behind-scan [] rest h s = refused _ _ _ s.point
behind-scan (x ∷ b) rest h s = run-over is_digit (x ∷ b) rest h s.digit

first_byte : (b rest : List ℕ) → Stops (get_or rest 0 0) → is_digit (get_or (pointed b ++ rest) 0 0) ≡ false
first_byte [] rest s = s.digit
first_byte (x ∷ b) rest s = refl

take_behind : (a b rest : List ℕ) → take (length b) (drop (length a + 1) (a ++ (pointed b ++ rest))) ≡ b
take_behind a [] rest = refl
take_behind a (x ∷ b) rest = ap (take (suc (length b))) (drop-append-add a (POINT ∷ x ∷ b ++ rest) 1) ∙ take-append_seam (x ∷ b) rest

module _ (a b rest : List ℕ) (da : All is_digit a) (db : All is_digit b) (s : Stops (get_or rest 0 0)) where
  abbrev bytes : List ℕ
  bytes = a ++ (pointed b ++ rest)

  behind : get_or bytes (length a + with_point (length b)) 0 ≡ get_or rest 0 0
  behind =
      let e = pointed-length b in
      let z : length (pointed b) + 0 ≡ with_point (length b) = omega arith in
      rw (← z) (get_or-append-add a (pointed b ++ rest) (length (pointed b) + 0) 0 ∙ get_or-append-add (pointed b) rest 0 0)

  with-scan : number_with bytes (length a) (length b) ≡ found (number_token a b) (length a + with_point (length b))
  unfolding number_with
  with-scan = refused _ _ _ (ap is_letter behind ∙ s.letter) ∙ rw (take-append_seam a (pointed b ++ rest), take_behind a b rest)

  pub number-scan : number_first bytes ≡ found (number_token a b) (length a + with_point (length b))
  number-scan =
      let r = run-over is_digit a (pointed b ++ rest) da (first_byte b rest s) in
      let d = ap behind_point (drop-append_seam a (pointed b ++ rest)) ∙ behind-scan b rest db s in
      sym (number_is bytes (length a) (length b) (omega arith) (sym d)) ∙ with-scan

-- ---- the digits of a fraction

-- by how many digits it takes
pub by_part : (P : Type 0) (f : ℕ) → (f % 100 ≡ 0 → part_digits f ≡ digit (f / 100) ∷ [] → P) →
    ((f % 100 ≡ 0 → ⊥) → f % 10 ≡ 0 → part_digits f ≡ digit (f / 100) ∷ digit (f / 10 % 10) ∷ [] → P) →
    ((f % 10 ≡ 0 → ⊥) → part_digits f ≡ digit (f / 100) ∷ digit (f / 10 % 10) ∷ digit (f % 10) ∷ [] → P) → P
unfolding part_digits
by_part P f one two three =
    decide P (eqb (f % 100) 0) (λ e. one (eqb-true (f % 100) 0 e) (chosen _ _ _ e)) λ e.
    decide P (eqb (f % 10) 0) (λ g. two (eqb-false (f % 100) 0 e) (eqb-true (f % 10) 0 g) (refused _ _ _ e ∙ chosen _ _ _ g)) λ g.
    three (eqb-false (f % 10) 0 g) (refused _ _ _ e ∙ refused _ _ _ g)

-- they are digits, at most three, and worth the fraction
pub record Part (f : ℕ) (ds : List ℕ) : Type 0 where
  pub digits : All is_digit ds
  pub few : length ds ≤ 3
  pub some : 0 < length ds
  pub worth : digits_value ds 0 * 10 ^ (3 - length ds) ≡ f

pub part-is : (f : ℕ) → f < 1000 → Part f (part_digits f)
part-is f h =
    by_part _ f
    (λ e p. rw p (record { digits = (digit-is (f / 100) (omega arith), tt); few = omega arith; some = omega arith; worth = omega arith }))
    (λ n e p. rw p (record { digits = (digit-is (f / 100) (omega arith), (digit-is (f / 10 % 10) (omega arith), tt)); few = omega arith; some = omega arith; worth = omega arith }))
    (λ n p. rw p (record { digits = (digit-is (f / 100) (omega arith), (digit-is (f / 10 % 10) (omega arith), (digit-is (f % 10) (omega arith), tt))); few = omega arith; some = omega arith; worth = omega arith }))

-- ---- a number

-- the digits behind the point of a number; none where it has no fraction
unfoldable pub behind_digits : ℕ → List ℕ
behind_digits f = elim (eqb f 0) [ true ↦ [] | false ↦ part_digits f ]

by-none : (P : Type 0) (f : ℕ) → (f ≡ 0 → behind_digits f ≡ [] → part_text f ≡ [] → mark f ≡ 0 → P) → ((f ≡ 0 → ⊥) → behind_digits f ≡ part_digits f → part_text f ≡ POINT ∷ part_digits f → mark f ≡ 1 → P) → P
unfolding behind_digits part_text mark
by-none P f whole parted =
    decide P (eqb f 0)
    (λ e. whole (eqb-true f 0 e) (chosen _ _ _ e) (chosen _ _ _ e) (chosen _ _ _ e))
    (λ e. parted (eqb-false f 0 e) (refused _ _ _ e) (refused _ _ _ e) (refused _ _ _ e))

-- what is behind the units
pub record Behind (f : ℕ) : Type 0 where
  pub text : part_text f ≡ pointed (behind_digits f)
  pub digits : All is_digit (behind_digits f)
  pub few : length (behind_digits f) ≤ 3
  pub worth : digits_value (behind_digits f) 0 * 10 ^ (3 - length (behind_digits f)) ≡ f
  pub marked : mark f ≡ point_mark (behind_digits f)

pointed-some : (ds : List ℕ) → 0 < length ds → (POINT ∷ ds ≡ pointed ds) × (1 ≡ point_mark ds)
pointed-some [] h = absurd (omega arith)
pointed-some (d ∷ ds) h = (refl, refl)

pub behind-is : (f : ℕ) → f < 1000 → Behind f
behind-is f h =
    by-none _ f
    (λ z b t m. record { text = rw (b, t); digits = rw b tt; few = rw b (omega arith); worth = rw b (omega arith); marked = rw (b, m) })
    (λ z b t m.
    let p = part-is f h in
    let (x, y) = pointed-some (part_digits f) p.some in
    record { text = t ∙ x ∙ ap pointed (sym b); digits = rw b p.digits; few = rw b p.few; worth = rw b p.worth; marked = m ∙ y ∙ ap point_mark (sym b) })

module _ (n : ℕ) (h : n ≤ top) where
  pub number-token : number_token (decimal (n / unit)) (behind_digits (n % unit)) ≡ NUMBER + (n * 2 + mark (n % unit))
  unfolding written
  number-token =
      let b = behind-is (n % unit) (omega arith) in
      let v = decimal-value (n / unit) (omega arith) in
      let l = decimal-length (n / unit) 6 (omega arith) in
      let w : n ≡ written (decimal (n / unit)) (behind_digits (n % unit)) = rw (v, b.worth) (omega arith) in
      sym (value_in (decimal (n / unit)) (behind_digits (n % unit)) (mark (n % unit)) b.marked n w (omega arith) b.few h) ∙ omega arith

  -- A NUMBER IS READ BACK
  pub number-back : (rest : List ℕ) → Stops (get_or rest 0 0) → number_first (number_text n ++ rest) ≡ Some (record { token = NUMBER + (n * 2 + mark (n % unit)); size = length (number_text n) })
  unfolding number_text
  number-back rest s =
      let b = behind-is (n % unit) (omega arith) in
      let a = decimal (n / unit) in
      let d = behind_digits (n % unit) in
      let e : number_text n ++ rest ≡ a ++ (pointed d ++ rest) = rw b.text (append_assoc a (pointed d) rest) in
      let z : length (number_text n) ≡ length a + with_point (length d) = length-append a (part_text (n % unit)) ∙ ap (λ (l : List ℕ). length a + length l) b.text ∙ ap (λ (k : ℕ). length a + k) (pointed-length d) in
      ap number_first e ∙ number-scan a d rest (decimal-digits (n / unit)) b.digits s
      ∙ sym (found_some (number_token a d) _ (λ y. let t = number-token in omega arith))
      ∙ rw (number-token, z)
