-- A LINE FCTDEF, BOTH WAYS: where the tokens of a definition stand, the check tells its tree's lowest fault, or its curve; where the check tells neither 4 nor 5, a definition is written. Theorems; nothing is assumed.
use Rattle.std.specs.Prelude.{Result, Ok, Err, ◌≡◌, refl, Bool, ◌&&◌, List, [], ◌∷◌, ◌++◌, ◌⊎◌, ◌↔◌, ℕ, ◌+◌, ◌-◌, ◌≤◌, drop}
use Rattle.std.proofs.Math.Path.{sym, ap}
use Rattle.std.proofs.Common.{◌∙◌, inl, inr}
use Rattle.std.proofs.Math.Bool.{true, false}
use native.Mathlib.Omega.{arith}
use Rattle.std.proofs.Math.Dec.{eqb}
use Rattle.std.proofs.Math.ListN.{length}
use borrow.Author.Tests.{le-leb, leb-true, eq-eqb, ne_eqb, eqb-true, eqb-false}
use Rattle.values.specs.Codes.{too_deep, not_in_grammar, confused}
use Rattle.values.specs.Choice.{both, decide, choice, chosen, refused}
use Rattle.values.specs.Size.{signed_number}
use Rattle.checking.specs.declared.definition.Definition.{Definition as Defined}
use Rattle.checking.specs.declared.definition.Part.{Part}
use Rattle.tokens.specs.Token.{END, MINUS, OPEN, CLOSE, COMMA, FCTDEF, NUMBER, is_number, is_whole, number_carried, thousandths, whole}
use Rattle.tokens.specs.Descent.{token}
use Rattle.tokens.specs.SingleFault.{lower, number_fault, curve_fault, opens_too_many}
use Rattle.checking.specs.CurveDefinition.{fault_of_definition, if_read, limits_fault, judged_curve, number_place, parameter_at, part_at, part_behind, curve_from, ended_by, defined_by, is_defining, definition_at}
use Rattle.grammar.specs.Tree.{Parameter, Definition, parameter_tokens, definition_front}
use Rattle.grammar.specs.Meaning.{Stands}
use Rattle.grammar.specs.TreeFault.{parameter_value, curve_in, with_parameter, numbers_fault, definition_fault, defined_from}
use Rattle.grammar.specs.TreeFaultLaws.{definition-proper}
use Rattle.grammar.specs.AgreementLaws.{stands-split, stands-join, stands-place, whole-token, whole-written}

-- what the check tells of a curve: its lowest fault
judged-fault : (d : Definition) (q : ℕ) → fault_of_definition (judged_curve d.number (numbers_fault d) (curve_in d) q) ≡ definition_fault d
unfolding judged_curve definition_fault
judged-fault d q =
    let f = lower (numbers_fault d) (limits_fault (curve_in d)) in
    decide _ (eqb f 0)
    (λ t. ap fault_of_definition (chosen _ _ _ t) ∙ sym (eqb-true f 0 t))
    (λ t. ap fault_of_definition (refused _ _ _ t))

-- a fault of a definition, or none, is neither 4 nor 5
pub late-4 : (n : ℕ) → (n ≡ 0) ⊎ (confused ≤ n) → n ≡ too_deep → ⊥
late-4 n (inl h) e = omega arith
late-4 n (inr h) e = omega arith

pub late-5 : (n : ℕ) → (n ≡ 0) ⊎ (confused ≤ n) → n ≡ not_in_grammar → ⊥
late-5 n (inl h) e = omega arith
late-5 n (inr h) e = omega arith

module _ (s : List ℕ) where
  -- ---- a parameter that is written is read

  -- where its number stands
  behind-minus : (p : ℕ) → token s p ≡ MINUS → number_place s p ≡ p + 1
  unfolding number_place
  behind-minus p h = chosen _ _ _ (eq-eqb (token s p) MINUS h)

  no_minus : (p : ℕ) → (token s p ≡ MINUS → ⊥) → number_place s p ≡ p
  unfolding number_place
  no_minus p h = refused _ _ _ (ne_eqb (token s p) MINUS h)

  -- the number n, which stands at i, and the sign t behind it
  module _ (n i : ℕ) (h : token s i ≡ NUMBER + n) where
    carried : token s i - NUMBER ≡ n
    carried = omega arith

    value_read : (p : ℕ) {m : Bool} → eqb (token s p) MINUS ≡ m → number_place s p ≡ i → parameter_at s p ≡ signed_number m (thousandths n)
    unfolding parameter_at
    value_read p g k = rw (g, k, carried)

    part-read : (f t : ℕ) → token s (i + 1) ≡ t → part_at s f t i ≡ Ok (record { fault = lower f (number_fault n); next = i + 2 })
    unfolding part_at
    part-read f t g =
        let a : is_number (token s i) ≡ true = le-leb NUMBER (token s i) (omega arith) in
        let b : (is_number (token s i) && eqb (token s (i + 1)) t) ≡ true = rw a (eq-eqb (token s (i + 1)) t g) in
        chosen _ _ _ b ∙ rw carried

  behind-read : (b : Part) (t i : ℕ) → number_place s b.next ≡ i → part_behind s b t ≡ part_at s b.fault t i
  unfolding part_behind
  behind-read b t i k = rw k

  -- what is read of a parameter from p on, with the sign t behind it, where f is the lowest fault before it
  record PartRead (x : Parameter) (f t p q : ℕ) : Type 0 where
    part : part_behind s (record { fault = f; next = p }) t ≡ Ok (record { fault = with_parameter f x; next = q })
    value : parameter_at s p ≡ parameter_value x

  part-agrees : (m : Bool) (n f t p q : ℕ) → Stands s p (parameter_tokens (record { negative = m; number = n }) t) q → PartRead (record { negative = m; number = n }) f t p q
  unfolding parameter_tokens
  part-agrees true n f t p q h =
      let i = behind-minus p h.0 in
      let e : p + 1 + 2 ≡ q = let z = h.1.1.1 in omega arith in
      record {
        part = behind-read (record { fault = f; next = p }) t (p + 1) i ∙ part-read n (p + 1) h.1.0 f t h.1.1.0 ∙ rw e;
        value = value_read n (p + 1) h.1.0 p (eq-eqb (token s p) MINUS h.0) i;
      }
  part-agrees false n f t p q h =
      let o : token s p ≡ MINUS → ⊥ = λ z. let y = h.0 in omega arith in
      let i = no_minus p o in
      let e : p + 2 ≡ q = let z = h.1.1 in omega arith in
      record {
        part = behind-read (record { fault = f; next = p }) t p i ∙ part-read n p h.0 f t h.1.0 ∙ rw e;
        value = value_read n p h.0 p (ne_eqb (token s p) MINUS o) i;
      }

  -- ---- a definition that is written is read

  -- six parameters, one behind the other, and the line's end
  parts-agree : (n f : ℕ) (l u a b c d : Parameter) (p i j k m o q : ℕ) → Stands s p (parameter_tokens l COMMA) i → Stands s i (parameter_tokens u COMMA) j → Stands s j (parameter_tokens a COMMA) k → Stands s k (parameter_tokens b COMMA) m →
      Stands s m (parameter_tokens c COMMA) o → Stands s o (parameter_tokens d CLOSE) q → token s q ≡ END →
      defined_by s n (record { fault = f; next = p })
      ≡ judged_curve n (with_parameter (with_parameter (with_parameter (with_parameter (with_parameter (with_parameter f l) u) a) b) c) d)
      (record { lower = parameter_value l; upper = parameter_value u; a0 = parameter_value a; a1 = parameter_value b; a2 = parameter_value c; a3 = parameter_value d }) q
  unfolding defined_by ended_by if_read curve_from
  parts-agree n f l u a b c d p i j k m o q h1 h2 h3 h4 h5 h6 e =
      let f1 = with_parameter f l in
      let f2 = with_parameter f1 u in
      let f3 = with_parameter f2 a in
      let f4 = with_parameter f3 b in
      let f5 = with_parameter f4 c in
      let r1 = part-agrees l.negative l.number f COMMA p i h1 in
      let r2 = part-agrees u.negative u.number f1 COMMA i j h2 in
      let r3 = part-agrees a.negative a.number f2 COMMA j k h3 in
      let r4 = part-agrees b.negative b.number f3 COMMA k m h4 in
      let r5 = part-agrees c.negative c.number f4 COMMA m o h5 in
      let r6 = part-agrees d.negative d.number f5 CLOSE o q h6 in
      rw (r1.part, r2.part, r3.part, r4.part, r5.part, r6.part, r1.value, r2.value, r3.value, r4.value, r5.value, r6.value)
      (chosen _ _ _ (eq-eqb (token s q) END e))

  -- THE CHECK OF WHAT WAS WRITTEN: of a definition that is written at p, with no more than eight brackets open, the check tells its tree's lowest fault, or its curve
  pub definition-agrees : (d : Definition) (p q : ℕ) → opens_too_many (drop p s) 0 ≡ false → Stands s p (definition_front d ++ (END ∷ [])) q → definition_at s p ≡ defined_from p d
  unfolding definition_at is_defining definition_front defined_from curve_in numbers_fault
  definition-agrees d p q o h =
      let (e, f, g) = stands-split s (definition_front d) (END ∷ []) p q h in
      let two : p + 1 + 1 ≡ p + 2 = omega arith in
      let three : p + 2 + 1 ≡ p + 3 = omega arith in
      let four : p + 3 + 1 ≡ p + 4 = omega arith in
      let (t, (c, r)) = rw (two, three, four) at f.1.1 in
      let (i, h1, r1) = stands-split s (parameter_tokens d.lower COMMA) _ (p + 4) e r in
      let (j, h2, r2) = stands-split s (parameter_tokens d.upper COMMA) _ i e r1 in
      let (k, h3, r3) = stands-split s (parameter_tokens d.a0 COMMA) _ j e r2 in
      let (l, h4, r4) = stands-split s (parameter_tokens d.a1 COMMA) _ k e r3 in
      let (m, h5, h6) = stands-split s (parameter_tokens d.a2 COMMA) _ l e r4 in
      let (x, y) = whole-token d.number in
      let head : is_defining s p ≡ true = rw (f.0, f.1.0, t, x, c) in
      let n : whole (token s (p + 2)) ≡ d.number = rw t y in
      let all : defined_by s (whole (token s (p + 2))) (record { fault = curve_fault (whole (token s (p + 2))); next = p + 4 }) ≡ judged_curve d.number (numbers_fault d) (curve_in d) e = rw n (parts-agree d.number (curve_fault d.number) d.lower d.upper d.a0 d.a1 d.a2 d.a3 (p + 4) i j k l m e h1 h2 h3 h4 h5 h6 g.0) in
      refused _ _ _ o ∙ chosen _ _ _ head ∙ all ∙ ap (judged_curve d.number (numbers_fault d) (curve_in d)) (stands-place s (definition_front d) p e f)

  -- its fault
  pub definition-fault : (d : Definition) (p q : ℕ) → opens_too_many (drop p s) 0 ≡ false → Stands s p (definition_front d ++ (END ∷ [])) q → fault_of_definition (definition_at s p) ≡ definition_fault d
  unfolding defined_from
  definition-fault d p q o h = ap fault_of_definition (definition-agrees d p q o h) ∙ judged-fault d (p + length (definition_front d))

  -- ---- what is read is written

  -- a number at p and the sign t behind it
  number-found : (f t p : ℕ) (x : Part) → part_at s f t p ≡ Ok x → (token s p ≡ NUMBER + number_carried (token s p)) × (token s (p + 1) ≡ t) × (p + 2 ≡ x.next)
  unfolding part_at
  number-found f t p x h =
      choice _ (is_number (token s p) && eqb (token s (p + 1)) t) _ _ _ h
      (λ c e.
      let (a, b) = both (is_number (token s p)) _ c in
      let l = leb-true NUMBER (token s p) a in
      let same : record { fault = lower f (number_fault (number_carried (token s p))); next = p + 2 } ≡ x = cc in
      (omega arith, eqb-true (token s (p + 1)) t b, ap (λ (y : Part). y.next) same))
      (λ _ e. absurd (cc))

  -- what is not read is not in the grammar
  number-five : (f t p k : ℕ) → part_at s f t p ≡ Err k → k ≡ not_in_grammar
  unfolding part_at
  number-five f t p k h = choice _ (is_number (token s p) && eqb (token s (p + 1)) t) _ _ _ h (λ _ e. absurd (cc)) (λ _ e. cc)

  -- the parameter behind what was read, and the sign t behind it
  part-found : (b : Part) (t : ℕ) (x : Part) → part_behind s b t ≡ Ok x → (y : Parameter) × Stands s b.next (parameter_tokens y t) x.next
  unfolding part_behind parameter_tokens
  part-found b t x h =
      let p = b.next in
      let r = x.next in
      let (a, g, q) = number-found b.fault t (number_place s p) x h in
      decide _ (eqb (token s p) MINUS)
      (λ m.
      let i = behind-minus p (eqb-true (token s p) MINUS m) in
      let d : p + 1 + 1 + 1 ≡ r = omega arith in
      (record { negative = true; number = number_carried (token s (p + 1)) }, (eqb-true (token s p) MINUS m, (rw i at a, (rw i at g, d)))))
      (λ m.
      let i = no_minus p (eqb-false (token s p) MINUS m) in
      let d : p + 1 + 1 ≡ r = omega arith in
      (record { negative = false; number = number_carried (token s p) }, (rw i at a, (rw i at g, d))))

  -- where what follows it does not tell fault 5, it is read
  if-found : (b : Part) (t : ℕ) (f : Part → Result Defined ℕ) (z : Result Defined ℕ) → (fault_of_definition z ≡ not_in_grammar → ⊥) → if_read (part_behind s b t) f ≡ z → (x : Part) × (part_behind s b t ≡ Ok x) × (f x ≡ z)
  unfolding if_read part_behind
  if-found b t f z no5 e = go (part_behind s b t) refl e
    where
      go : (r : Result Part ℕ) → part_behind s b t ≡ r → if_read r f ≡ z → (x : Part) × (part_behind s b t ≡ Ok x) × (f x ≡ z)
      go (Ok x) h e = (x, h, e)
      go (Err k) h e = absurd (no5 (ap fault_of_definition (sym e) ∙ number-five b.fault t (number_place s b.next) k h))

  -- the six of them behind h, and the line's end
  record SixFound (h : Part) : Type 0 where
    lower : Parameter
    upper : Parameter
    a0 : Parameter
    a1 : Parameter
    a2 : Parameter
    a3 : Parameter
    end : ℕ
    stands : Stands s h.next (parameter_tokens lower COMMA ++ (parameter_tokens upper COMMA ++ (parameter_tokens a0 COMMA ++ (parameter_tokens a1 COMMA ++ (parameter_tokens a2 COMMA ++ parameter_tokens a3 CLOSE))))) end
    stops : token s end ≡ END

  six-found : (n : ℕ) (h : Part) (z : Result Defined ℕ) → (fault_of_definition z ≡ not_in_grammar → ⊥) → defined_by s n h ≡ z → SixFound h
  unfolding defined_by ended_by
  six-found n h z no5 e =
      let (l, k1, e1) = if-found h COMMA _ z no5 e in
      let (u, k2, e2) = if-found l COMMA _ z no5 e1 in
      let (a, k3, e3) = if-found u COMMA _ z no5 e2 in
      let (b, k4, e4) = if-found a COMMA _ z no5 e3 in
      let (c, k5, e5) = if-found b COMMA _ z no5 e4 in
      let (d, k6, e6) = if-found c CLOSE _ z no5 e5 in
      choice _ (eqb (token s d.next) END) _ _ z e6
      (λ m _.
      let (x1, h1) = part-found h COMMA l k1 in
      let (x2, h2) = part-found l COMMA u k2 in
      let (x3, h3) = part-found u COMMA a k3 in
      let (x4, h4) = part-found a COMMA b k4 in
      let (x5, h5) = part-found b COMMA c k5 in
      let (x6, h6) = part-found c CLOSE d k6 in
      let g5 = stands-join s (parameter_tokens x5 COMMA) (parameter_tokens x6 CLOSE) b.next c.next d.next h5 h6 in
      let g4 = stands-join s (parameter_tokens x4 COMMA) _ a.next b.next d.next h4 g5 in
      let g3 = stands-join s (parameter_tokens x3 COMMA) _ u.next a.next d.next h3 g4 in
      let g2 = stands-join s (parameter_tokens x2 COMMA) _ l.next u.next d.next h2 g3 in
      let g1 = stands-join s (parameter_tokens x1 COMMA) _ h.next l.next d.next h1 g2 in
      record { lower = x1; upper = x2; a0 = x3; a1 = x4; a2 = x5; a3 = x6; end = d.next; stands = g1; stops = eqb-true (token s d.next) END m })
      (λ _ e. absurd (no5 (ap fault_of_definition (sym e))))

  -- WHAT IS CHECKED IS WRITTEN SO: with no more than eight brackets open, where the check does not tell fault 5, a definition is written
  pub definition-written : (p : ℕ) → opens_too_many (drop p s) 0 ≡ false → (fault_of_definition (definition_at s p) ≡ not_in_grammar → ⊥) → (d : Definition) × (q : ℕ) × Stands s p (definition_front d ++ (END ∷ [])) q
  unfolding definition_at is_defining definition_front
  definition-written p o no5 =
      choice _ (is_defining s p) _ _ (definition_at s p) (sym (refused (opens_too_many (drop p s) 0) _ _ o))
      (λ t e.
      let (a, u) = both (eqb (token s p) FCTDEF) _ t in
      let (b, v) = both (eqb (token s (p + 1)) OPEN) _ u in
      let (c, w) = both (is_whole (token s (p + 2))) _ v in
      let two : p + 1 + 1 ≡ p + 2 = omega arith in
      let three : p + 2 + 1 ≡ p + 3 = omega arith in
      let four : p + 3 + 1 ≡ p + 4 = omega arith in
      let x = six-found _ _ (definition_at s p) no5 e in
      let d : Definition = record { number = whole (token s (p + 2)); lower = x.lower; upper = x.upper; a0 = x.a0; a1 = x.a1; a2 = x.a2; a3 = x.a3 } in
      let f : Stands s p (definition_front d) x.end = (eqb-true (token s p) FCTDEF a, (eqb-true (token s (p + 1)) OPEN b, rw (two, three, four) (whole-written (token s (p + 2)) c, (eqb-true (token s (p + 3)) COMMA w, x.stands)))) in
      (d, x.end + 1, stands-join s (definition_front d) (END ∷ []) p x.end (x.end + 1) f (x.stops, refl)))
      (λ _ e. absurd (no5 (ap fault_of_definition (sym e))))

  -- FAULT 5 IS THE GRAMMAR'S: with no more than eight brackets open, the check tells fault 5 exactly where no definition is written
  pub definition-five : (p : ℕ) → opens_too_many (drop p s) 0 ≡ false → (fault_of_definition (definition_at s p) ≡ not_in_grammar) ↔ ((d : Definition) (q : ℕ) → Stands s p (definition_front d ++ (END ∷ [])) q → ⊥)
  definition-five p o = (
    (λ e d q h. late-5 (definition_fault d) (definition-proper d) (sym (definition-fault d p q o h) ∙ e)),
    (λ none. decide _ (eqb (fault_of_definition (definition_at s p)) not_in_grammar)
        (λ t. eqb-true (fault_of_definition (definition_at s p)) not_in_grammar t)
        (λ t. let (d, q, h) = definition-written p o (eqb-false (fault_of_definition (definition_at s p)) not_in_grammar t) in absurd (none d q h))),
  )

-- tokens without a fault have no fault 4
pub not-deep-definition : (s : List ℕ) (p : ℕ) → fault_of_definition (definition_at s p) ≡ 0 → opens_too_many (drop p s) 0 ≡ false
unfolding definition_at
not-deep-definition s p clean =
    decide _ (opens_too_many (drop p s) 0)
    (λ t. let z : fault_of_definition (definition_at s p) ≡ too_deep = ap fault_of_definition (chosen _ _ _ t) in absurd (omega arith))
    (λ t. t)

-- what has no fault defines a curve
pub told-definition : (s : List ℕ) (p : ℕ) → fault_of_definition (definition_at s p) ≡ 0 → (x : Defined) × (definition_at s p ≡ Ok x)
unfolding defined_from judged_curve definition_fault
told-definition s p clean =
    let o = not-deep-definition s p clean in
    let (d, q, h) = definition-written s p o (λ e. omega arith) in
    let e = definition-agrees s d p q o h in
    decide _ (eqb (definition_fault d) 0)
    (λ t. (_, e ∙ chosen _ _ _ t))
    (λ t. absurd (eqb-false (definition_fault d) 0 t (sym (definition-fault s d p q o h) ∙ clean)))
