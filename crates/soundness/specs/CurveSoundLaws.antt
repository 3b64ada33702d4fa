-- Laws of definitions: the curve of a line FCTDEF has its parameters in range and its lower limit not above the upper one. Nothing is assumed.
use Rattle.std.specs.Prelude.{Result, Ok, Err, ◌≡◌, Bool, true, false, cond, ◌&&◌, List, ℕ, ◌+◌, pos, drop}
use Rattle.std.proofs.Math.Path.{refl, ap}
use Rattle.std.proofs.Common.{arith, ◌∙◌}
use Rattle.std.proofs.Math.Dec.{eqb}
use borrow.Author.Tests.{eqb-true}
use Rattle.values.specs.Codes.{too_deep, not_in_grammar, wrong_curve}
use Rattle.values.specs.Choice.{either, if_not, choice}
use Rattle.values.specs.Size.{signed_number}
use Rattle.values.specs.Value.{in_range, less_than}
use Rattle.values.specs.ValueLaws.{range-abs, abs-range}
use Rattle.values.specs.Numbers.{abs_neg}
use Rattle.values.specs.declared.curve.Curve.{Curve}
use Rattle.tokens.specs.Token.{END, MINUS, COMMA, CLOSE, is_number, number_carried, thousandths, whole}
use Rattle.tokens.specs.Descent.{token}
use Rattle.tokens.specs.SingleFault.{lower, number_fault, opens_too_many}
use Rattle.checking.specs.declared.definition.Definition.{Definition}
use Rattle.checking.specs.declared.definition.Part.{Part}
use Rattle.checking.specs.CurveDefinition.{if_read, limits_fault, judged_curve, number_place, parameter_at, part_at, part_behind, curve_from, ended_by, defined_by, is_defining, definition_at}
use Rattle.engine.specs.Set.{curve_in_line}
use Rattle.soundness.specs.WriteSoundLaws.{lower-zero}
use Rattle.soundness.specs.WorkSoundLaws.{number_fits_lem}

-- a curve as a sound set has it
pub record CurveRanged (c : Curve) : Type 0 where
  pub lower : in_range c.lower ≡ true
  pub upper : in_range c.upper ≡ true
  pub a0 : in_range c.a0 ≡ true
  pub a1 : in_range c.a1 ≡ true
  pub a2 : in_range c.a2 ≡ true
  pub a3 : in_range c.a3 ≡ true
  pub ordered : less_than c.upper c.lower ≡ false

-- a number in range stays so with a sign
signed_range : (b : Bool) (n : ℕ) → in_range (pos n) ≡ true → in_range (signed_number b n) ≡ true
signed_range true n h = abs-range (signed_number true n) (rw (abs_neg (pos n)) (range-abs (pos n) h))
signed_range false n h = h

-- limits in order
limits-ordered : (c : Curve) → limits_fault c ≡ 0 → less_than c.upper c.lower ≡ false
unfolding limits_fault
limits-ordered c e = by-test (less_than c.upper c.lower) e
  where
    by-test : (b : Bool) → cond b wrong_curve 0 ≡ 0 → b ≡ false
    by-test true f = absurd (omega arith)
    by-test false f = refl

module _ (s : List ℕ) where
  -- what was read up to here had no fault, and the parameter behind it has none
  record PartClear (b : Part) : Type 0 where
    clear : b.fault ≡ 0
    ranged : in_range (parameter_at s b.next) ≡ true

  part-clear : (b : Part) (t : ℕ) (d : Part) → part_behind s b t ≡ Ok d → d.fault ≡ 0 → PartClear b
  unfolding part_behind part_at parameter_at
  part-clear b t d h f =
      let n = number_place s b.next in
      choice _ (is_number (token s n) && eqb (token s (n + 1)) t) _ _ _ h
      (λ i e.
      let same : record { fault = lower b.fault (number_fault (number_carried (token s n))); next = n + 2 } ≡ d = cc in
      let (c, r) = lower-zero b.fault (number_fault (number_carried (token s n))) (ap (λ (y : Part). y.fault) same ∙ f) in
      record { clear = c; ranged = signed_range (eqb (token s b.next) MINUS) (thousandths (number_carried (token s n))) (number_fits_lem (number_carried (token s n)) r) })
      (λ i e. absurd (cc))

  -- a definition without a fault; what has one defines the curve that is 0 throughout
  abbrev Right : Result Definition ℕ → Type 0
  Right r = CurveRanged (curve_in_line r)

  none_right : (k : ℕ) → Right (Err k)
  unfolding in_range less_than
  none_right k = record { lower = refl; upper = refl; a0 = refl; a1 = refl; a2 = refl; a3 = refl; ordered = refl }

  right-behind : (b : Part) (t : ℕ) (f : Part → Result Definition ℕ) → ((x : Part) → part_behind s b t ≡ Ok x → Right (f x)) → Right (if_read (part_behind s b t) f)
  unfolding if_read
  right-behind b t f h = go (part_behind s b t) refl
    where
      go : (r : Result Part ℕ) → part_behind s b t ≡ r → Right (if_read r f)
      go (Ok x) e = h x e
      go (Err k) e = none_right k

  -- the curve c, where what was read up to d, and its limits, have no fault only if it is right
  ended-right : (n : ℕ) (c : Curve) (d : Part) → (d.fault ≡ 0 → limits_fault c ≡ 0 → CurveRanged c) → Right (ended_by s n c d)
  unfolding ended_by judged_curve
  ended-right n c d h =
      let f = lower d.fault (limits_fault c) in
      if_not Right (eqb (token s d.next) END) (λ i. none_right not_in_grammar) λ i.
      if_not Right (eqb f 0) (λ z. none_right f) λ z.
      let (x, y) = lower-zero d.fault (limits_fault c) (eqb-true f 0 z) in
      h x y

  -- from the last parameter back to the first
  defined-right : (n : ℕ) (h : Part) → Right (defined_by s n h)
  unfolding defined_by curve_from
  defined-right n h =
      right-behind h COMMA _ λ l k1.
      right-behind l COMMA _ λ u k2.
      right-behind u COMMA _ λ a k3.
      right-behind a COMMA _ λ b k4.
      right-behind b COMMA _ λ c k5.
      right-behind c CLOSE _ λ d k6.
      ended-right n _ d λ f g.
      let x6 = part-clear c CLOSE d k6 f in
      let x5 = part-clear b COMMA c k5 x6.clear in
      let x4 = part-clear a COMMA b k4 x5.clear in
      let x3 = part-clear u COMMA a k3 x4.clear in
      let x2 = part-clear l COMMA u k2 x3.clear in
      let x1 = part-clear h COMMA l k1 x2.clear in
      record { lower = x1.ranged; upper = x2.ranged; a0 = x3.ranged; a1 = x4.ranged; a2 = x5.ranged; a3 = x6.ranged; ordered = limits-ordered _ g }

  -- every curve that the check tells
  pub definition-ranged : (p : ℕ) → Right (definition_at s p)
  unfolding definition_at
  definition-ranged p =
      either Right (opens_too_many (drop p s) 0) (λ e. none_right too_deep) λ e.
      either Right (is_defining s p) (λ i. defined-right (whole (token s (p + 2))) _) (λ i. none_right not_in_grammar)
