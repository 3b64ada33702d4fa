-- A line FCTDEF from its tokens: its lowest fault of 4, 5, 7 and 13, or the curve that it defines (document 02, Req 03). Definitions only.
use Rattle.std.specs.Prelude.{Bool, true, false, cond, ◌&&◌, List, ℕ, ◌+◌, eqb, ℤ, pos, drop, Result, Ok, Err}
use Rattle.values.specs.Codes.{too_deep, not_in_grammar, wrong_curve}
use Rattle.values.specs.Size.{signed_number}
use Rattle.values.specs.Value.{less_than}
use Rattle.values.specs.declared.curve.Curve.{Curve}
use Rattle.checking.specs.declared.definition.Definition.{Definition}
use Rattle.checking.specs.declared.definition.Part.{Part}
use Rattle.tokens.specs.Token.{END, MINUS, OPEN, CLOSE, COMMA, FCTDEF, is_number, is_whole, number_carried, thousandths, whole}
use Rattle.tokens.specs.Descent.{token}
use Rattle.tokens.specs.SingleFault.{curve_fault, lower, number_fault, opens_too_many}

-- what is told of a line FCTDEF is what it defines, or its lowest fault: that fault as a number, 0 for none
abbrev pub fault_of_definition : Result Definition ℕ → ℕ
fault_of_definition (Ok d) = 0
fault_of_definition (Err k) = k

-- the curve that nothing defines
abbrev pub no_curve : Curve
no_curve = record { lower = pos 0; upper = pos 0; a0 = pos 0; a1 = pos 0; a2 = pos 0; a3 = pos 0 }

-- what follows of what was read, if that is in the grammar
unfoldable pub if_read : Result Part ℕ → (Part → Result Definition ℕ) → Result Definition ℕ
if_read (Ok x) f = f x
if_read (Err k) f = Err k

-- 13: the lower limit is above the upper one, as values; equal limits are allowed (reading D25)
unfoldable pub limits_fault : Curve → ℕ
limits_fault c = cond (less_than c.upper c.lower) wrong_curve 0

-- the curve n, where f is the lowest fault of its numbers, in a line that ends at q
unfoldable pub judged_curve : ℕ → ℕ → Curve → ℕ → Result Definition ℕ
judged_curve n f c q =
    elim (eqb (lower f (limits_fault c)) 0) [
      | true ↦ Ok (record { number = n; curve = c; end = q })
      | false ↦ Err (lower f (limits_fault c))
    ]

module _ (s : List ℕ) where
  -- ---- a parameter: a number, or - and a number (reading D16)

  -- where its number stands
  unfoldable pub number_place : ℕ → ℕ
  number_place p = elim (eqb (token s p) MINUS) [ true ↦ p + 1 | false ↦ p ]

  -- its value
  unfoldable pub parameter_at : ℕ → ℤ
  parameter_at p = signed_number (eqb (token s p) MINUS) (thousandths (number_carried (token s (number_place p))))

  -- the number at p and the sign t behind it, where f is the lowest fault before it
  unfoldable pub part_at : ℕ → ℕ → ℕ → Result Part ℕ
  part_at f t p =
      elim (is_number (token s p) && eqb (token s (p + 1)) t) [
        | true ↦ Ok (record { fault = lower f (number_fault (number_carried (token s p))); next = p + 2 })
        | false ↦ Err not_in_grammar
      ]

  -- the parameter behind what was read, and the sign t behind it
  unfoldable pub part_behind : Part → ℕ → Result Part ℕ
  part_behind b t = part_at b.fault t (number_place b.next)

  -- ---- a line

  -- the curve whose parameters stand at these places
  unfoldable pub curve_from : ℕ → ℕ → ℕ → ℕ → ℕ → ℕ → Curve
  curve_from l u a b c d = record {
    lower = parameter_at l;
    upper = parameter_at u;
    a0 = parameter_at a;
    a1 = parameter_at b;
    a2 = parameter_at c;
    a3 = parameter_at d;
  }

  -- the end of the line behind the last parameter d, of the curve c with the number n
  unfoldable pub ended_by : ℕ → Curve → Part → Result Definition ℕ
  ended_by n c d = elim (eqb (token s d.next) END) [ true ↦ judged_curve n d.fault c d.next | false ↦ Err not_in_grammar ]

  -- the curve n by its six parameters, which begin behind what was read
  unfoldable pub defined_by : ℕ → Part → Result Definition ℕ
  defined_by n h =
      if_read (part_behind h COMMA) λ l.
      if_read (part_behind l COMMA) λ u.
      if_read (part_behind u COMMA) λ a.
      if_read (part_behind a COMMA) λ b.
      if_read (part_behind b COMMA) λ c.
      if_read (part_behind c CLOSE) λ d.
      ended_by n (curve_from h.next l.next u.next a.next b.next c.next) d

  -- FCTDEF, (, a whole number and , stand from p on
  unfoldable pub is_defining : ℕ → Bool
  is_defining p = eqb (token s p) FCTDEF && (eqb (token s (p + 1)) OPEN && (is_whole (token s (p + 2)) && eqb (token s (p + 3)) COMMA))

  -- the line that begins at p: its lowest fault of 4, 5, 7 and 13, or the curve that it defines
  unfoldable pub definition_at : ℕ → Result Definition ℕ
  definition_at p =
      elim (opens_too_many (drop p s) 0) [
        | true ↦ Err too_deep
        | false ↦
            elim (is_defining p) [
              | true ↦ defined_by (whole (token s (p + 2))) (record { fault = curve_fault (whole (token s (p + 2))); next = p + 4 })
              | false ↦ Err not_in_grammar
            ]
      ]
