-- Laws on a line FCTDEF: a parameter, six of them, the line's end and its beginning, each by the tests of the code.
use mathlib.Core.Path.{◌≡◌, sym, ◌∙◌}
use mathlib.Core.Bool.{Bool, true, false, ◌&&◌}
use mathlib.Core.List.{List}
use Prim.Native.Nat.{ℕ, ◌+◌, ◌-◌, ◌≤◌, ◌<◌}
use native.Mathlib.Omega.{arith}
use lib.Dec.{eqb}
use lib.IntN.{pos, neg_ℤ}
use lib.ListN.{get_or, drop}
use borrow.Author.Tests.{le-leb, lt-leb, eq-eqb, ne_eqb}
use Rattle.values.specs.Codes.{too_deep, not_in_grammar}
use Rattle.values.specs.Choice.{chosen, refused}
use Rattle.values.specs.declared.curve.Curve.{Curve}
use Rattle.std.specs.Prelude.{Result, Ok, Err}
use Rattle.checking.specs.declared.definition.Definition.{Definition}
use Rattle.checking.specs.declared.definition.Part.{Part}
use Rattle.tokens.specs.Token.{MINUS, OPEN, COMMA, FCTDEF, NUMBER, is_whole, number_carried, thousandths, whole}
use Rattle.tokens.specs.SingleFault.{curve_fault, lower, number_fault, opens_too_many}
use Rattle.checking.specs.CurveDefinition.{limits_fault, judged_curve, number_place, parameter_at, part_at, part_behind, defined_by, is_defining, definition_at}

-- ---- a parameter

-- the token t at p is a - or not
module _ (s : List ℕ) (p : ℕ) {t : ℕ} (e : t ≡ get_or s p 0) where
  pub place-behind : t ≡ MINUS → p + 1 ≡ number_place s p
  unfolding number_place
  place-behind h = sym (chosen _ _ _ (eq-eqb (get_or s p 0) MINUS (sym e ∙ h)))

  pub place_here : (t ≡ MINUS → ⊥) → p ≡ number_place s p
  unfolding number_place
  place_here h = sym (refused _ _ _ (ne_eqb (get_or s p 0) MINUS (λ z. h (e ∙ z))))

  -- n is the size of its number, which stands at i
  module _ {i n : ℕ} (k : i ≡ number_place s p) (h : n ≡ thousandths (number_carried (get_or s i 0))) where
    pub value-minus : t ≡ MINUS → neg_ℤ (pos n) ≡ parameter_at s p
    unfolding parameter_at
    value-minus m = rw (h, k, eq-eqb (get_or s p 0) MINUS (sym e ∙ m))

    pub value-plain : (t ≡ MINUS → ⊥) → pos n ≡ parameter_at s p
    unfolding parameter_at
    value-plain m = rw (h, k, ne_eqb (get_or s p 0) MINUS (λ z. m (e ∙ z)))

-- the token n at p, and u behind it
module _ (s : List ℕ) (f t p : ℕ) {n : ℕ} (e : n ≡ get_or s p 0) where
  pub part_none : n < NUMBER → Err not_in_grammar ≡ part_at s f t p
  unfolding part_at
  part_none h = let l : get_or s p 0 < NUMBER = omega arith in sym (simp (part_at, lt-leb NUMBER (get_or s p 0) l))

  module _ (h : NUMBER ≤ n) {u : ℕ} (g : u ≡ get_or s (p + 1) 0) where
    number-there : NUMBER ≤ get_or s p 0
    number-there = omega arith

    pub part-other : (u ≡ t → ⊥) → Err not_in_grammar ≡ part_at s f t p
    unfolding part_at
    part-other o = sym (simp (part_at, le-leb NUMBER (get_or s p 0) number-there, ne_eqb (get_or s (p + 1) 0) t (λ z. o (g ∙ z))))

    pub part-some : u ≡ t → {k x : ℕ} → k ≡ number_fault (n - NUMBER) → x ≡ lower f k → ◌≡◌ {A = Result Part ℕ} (Ok (record { fault = x; next = p + 2 })) (part_at s f t p)
    unfolding part_at
    part-some o a b = rw (b, a, e) (sym (simp (part_at, le-leb NUMBER (get_or s p 0) number-there, eq-eqb (get_or s (p + 1) 0) t (sym g ∙ o))))

pub behind : (s : List ℕ) (b : Part) (t : ℕ) {i : ℕ} → i ≡ number_place s b.next → part_at s b.fault t i ≡ part_behind s b t
unfolding part_behind
behind s b t k = rw k

-- ---- a curve

module _ (n f : ℕ) (c : Curve) (q : ℕ) {k x : ℕ} (e : k ≡ limits_fault c) (g : x ≡ lower f k) where
  lowest : x ≡ lower f (limits_fault c)
  lowest = rw (← e) g

  pub judged-faulty : (x ≡ 0 → ⊥) → Err x ≡ judged_curve n f c q
  unfolding judged_curve
  judged-faulty o = rw lowest (sym (refused _ _ _ (ne_eqb (lower f (limits_fault c)) 0 (λ z. o (lowest ∙ z)))))

  pub judged-good : x ≡ 0 → ◌≡◌ {A = Result Definition ℕ} (Ok (record { number = n; curve = c; end = q })) (judged_curve n f c q)
  unfolding judged_curve
  judged-good o = sym (chosen _ _ _ (eq-eqb (lower f (limits_fault c)) 0 (sym lowest ∙ o)))

-- ---- how the line begins

pub defining : (s : List ℕ) (p t w n c : ℕ) → t ≡ get_or s p 0 → w ≡ get_or s (p + 1) 0 → n ≡ get_or s (p + 2) 0 → c ≡ get_or s (p + 3) 0 → eqb t FCTDEF && (eqb w OPEN && (is_whole n && eqb c COMMA)) ≡ is_defining s p
unfolding is_defining
defining s p t w n c e f g h = rw (e, f, g, h)

module _ (s : List ℕ) (p : ℕ) {o : Bool} (e : o ≡ opens_too_many (drop p s) 0) where
  pub defined-deep : o ≡ true → Err too_deep ≡ definition_at s p
  unfolding definition_at
  defined-deep h = sym (chosen _ _ _ (sym e ∙ h))

  module _ (h : o ≡ false) where
    pub defined-not : is_defining s p ≡ false → Err not_in_grammar ≡ definition_at s p
    unfolding definition_at
    defined-not d = sym (refused _ _ _ (sym e ∙ h) ∙ refused _ _ _ d)

    pub defined-so : is_defining s p ≡ true → {t n k : ℕ} → t ≡ get_or s (p + 2) 0 → n ≡ whole t → k ≡ curve_fault n → defined_by s n (record { fault = k; next = p + 4 }) ≡ definition_at s p
    unfolding definition_at
    defined-so d a b c = rw (c, b, a) (sym (refused _ _ _ (sym e ∙ h) ∙ chosen _ _ _ d))
