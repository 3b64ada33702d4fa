-- Laws of what SYNFCT and assignments leave: a write, an assignment of a number as it is written, and which action begins with which word. Nothing is assumed.
use Rattle.std.specs.Prelude.{◌≡◌, refl, Bool, List, [], ℕ, suc, ◌+◌, ◌-◌, ◌*◌, ℤ, pos, negsuc, Result, Ok}
use Rattle.std.proofs.Math.Path.{ap}
use Rattle.std.proofs.Common.{◌∙◌, ne_eqb, le-leb}
use Rattle.std.proofs.Math.Bool.{true, false}
use native.Mathlib.Omega.{arith}
use Rattle.std.proofs.Math.Dec.{eqb}
use Rattle.std.proofs.lemmas.Bool.{lt-leb}
use Rattle.values.specs.Choice.{chosen, refused}
use Rattle.values.specs.Value.{in_range, negation_of}
use Rattle.values.specs.ValueLaws.{valued-value}
use Rattle.tokens.specs.Token.{END, MINUS, OPEN, IN, IM, FIFO1, FIFO4, SYNFCT, NUMBER, is_number, is_variable, is_fifo, is_factor, is_term, is_drive, number_carried, thousandths, set_size}
use Rattle.tokens.specs.Descent.{token, Answer, good, stop, ◌>>=◌, Read, read, then, up_to, Meaning, index_of, index_at, more, read_product, read_sum, operand_from, read_operand, sum_at}
use Rattle.checking.specs.Fault.{is_removal}
use Rattle.working.specs.Operators.{from_worked}
use Rattle.working.specs.Working.{told, value_over, right_value}
use Rattle.values.specs.declared.codes.Alarm.{Alarm}
use Rattle.working.specs.declared.walk.Reached.{Reached}
use Rattle.engine.specs.declared.write.Vars.{Vars}
use Rattle.engine.specs.Action.{World, did, with_vars, from_reached, taken_at, assignment_of, synfct_of, action_of}
use Rattle.soundness.specs.PassLaws.{between-some}
use Rattle.soundness.specs.Synfct.{left, assignment_tokens, Assigns}

-- what a write leaves does not tell the place behind the action
pub written-left : (x : World) (q : ℕ) (a : Answer Vars) → left (a >>= λ v. did q (with_vars x v)) ≡ (a >>= λ v. good (with_vars x v, []))
written-left x q (good v) = refl
written-left x q (stop k) = refl

-- ---- an assignment of a number

module _ (s : List ℕ) (r c : List ℤ) where
  abbrev 𝓥 : Meaning ℤ
  𝓥 = value_over r c

  -- behind the last operand nothing more is read
  none_more : (is_op : ℕ → Bool) (f : ℕ → Read ℤ) (k : ℕ) (v : ℤ) (q : ℕ) → is_op (token s q) ≡ false → more s 𝓥 is_op f (suc k) v q ≡ read v q
  unfolding more
  none_more is_op f k v q e = refused _ _ _ e

  one_product : (f : ℕ → Read ℤ) (k p q : ℕ) (v : ℤ) → f p ≡ read v q → token s q ≡ END → read_product s 𝓥 f (suc k) p ≡ read v q
  unfolding read_product
  one_product f k p q v h e = rw h (none_more is_factor f k v q (rw e))

  one-sum : (f : ℕ → Read ℤ) (k p q : ℕ) (v : ℤ) → f p ≡ read v q → token s q ≡ END → read_sum s 𝓥 f (suc k) p ≡ read v q
  unfolding read_sum
  one-sum f k p q v h e = rw (one_product f k p q v h e) (none_more is_term (read_product s 𝓥 f (suc k)) k v q (rw e))

  -- a right side of one operand, at the line's end
  one-operand : (p q : ℕ) (v : ℤ) → read_operand s 𝓥 set_size p ≡ read v q → token s q ≡ END → right_value s r c p ≡ Ok (record { value = v; next = q })
  unfolding right_value sum_at
  one-operand p q v h e = ap told (one-sum (read_operand s 𝓥 set_size) (set_size - 1) p q v h e)

  -- a number
  one_number : (k p n : ℕ) → token s p ≡ NUMBER + 2 * n → read_operand s 𝓥 (suc k) p ≡ read (pos n) (p + 1)
  unfolding read_operand operand_from value_over
  one_number k p n e =
      let f : is_number (token s p) ≡ true = rw e (le-leb NUMBER (NUMBER + 2 * n) (omega arith)) in
      let g : thousandths (number_carried (token s p)) ≡ n = rw e (omega arith) in
      chosen _ _ _ f ∙ ap (λ (m : ℕ). read (pos m) (p + 1)) g

  -- a minus and a number
  one-minus : (k p n : ℕ) → token s p ≡ MINUS → token s (p + 1) ≡ NUMBER + 2 * suc n → in_range (negsuc n) ≡ true → read_operand s 𝓥 (suc (suc k)) p ≡ read (negsuc n) (p + 2)
  unfolding read_operand operand_from value_over negation_of
  one-minus k p n m e h =
      let a : is_number (token s p) ≡ false = rw m in
      let b : is_variable (token s p) ≡ false = rw m in
      let c : eqb (token s p) OPEN ≡ false = rw m in
      let d : eqb (token s p) MINUS ≡ true = rw m in
      let q : p + 1 + 1 ≡ p + 2 = omega arith in
      refused _ _ _ a ∙ refused _ _ _ b ∙ refused _ _ _ c ∙ chosen _ _ _ d
      ∙ ap (λ (y : Read ℤ). then y (λ z i. up_to (from_worked (negation_of z)) i)) (one_number k (p + 1) (suc n) e) ∙ rw (q, valued-value (negsuc n) h)

-- a right side that is no removal
taken-one : (s : List ℕ) (x : Vars) (p q : ℕ) (v : ℤ) → is_fifo (token s p) ≡ false → right_value s x.r x.cells p ≡ Ok (record { value = v; next = q }) →
    taken_at s x p ≡ good (record { value = v; vars = x; next = q })
unfolding taken_at is_removal
taken-one s x p q v f h =
    let e : is_removal s p ≡ false = rw f in
    refused _ _ _ e ∙ ap (λ (g : Result Reached Alarm). from_reached g >>= λ a. good (record { value = a.0; vars = x; next = a.1 })) h

-- the tokens of an assignment of a number assign it
pub number-assigns : (x : World) (w t : ℕ) (y : ℤ) → in_range y ≡ true → Assigns (assignment_tokens w t y) x 0 w (index_of w t) y
unfolding index_at
number-assigns x w t (pos n) h =
    let s = assignment_tokens w t (pos n) in
    let f : is_fifo (NUMBER + 2 * n) ≡ false = rw (le-leb FIFO1 (NUMBER + 2 * n) (omega arith), lt-leb (NUMBER + 2 * n) FIFO4 (omega arith)) in
    record {
      word = refl;
      index = refl;
      behind = 6;
      value = taken-one s x.vars 5 6 (pos n) f (one-operand s x.vars.r x.vars.cells 5 6 (pos n) (one_number s x.vars.r x.vars.cells (set_size - 1) 5 n refl) refl);
    }
number-assigns x w t (negsuc n) h =
    let s = assignment_tokens w t (negsuc n) in
    record {
      word = refl;
      index = refl;
      behind = 7;
      value = taken-one s x.vars 5 7 (negsuc n) refl (one-operand s x.vars.r x.vars.cells 5 7 (negsuc n) (one-minus s x.vars.r x.vars.cells (set_size - 2) 5 n refl refl h) refl);
    }

-- ---- actions

-- an action that begins with SYNFCT, and one that begins with a variable
module _ (s ns : List ℕ) (cs : List Bool) (n : ℕ) (x : World) (p : ℕ) where
  pub is-synfct : token s p ≡ SYNFCT → action_of s ns cs n x p ≡ synfct_of s x p
  unfolding action_of
  is-synfct e =
      let a : eqb (token s p) END ≡ false = rw e in
      let b : is_variable (token s p) ≡ false = rw e in
      let c : is_drive (token s p) ≡ false = rw e in
      let d : eqb (token s p) SYNFCT ≡ true = rw e in
      refused _ _ _ a ∙ refused _ _ _ b ∙ refused _ _ _ c ∙ chosen _ _ _ d

  pub is-assignment : (w : ℕ) → token s p ≡ w → is_variable w ≡ true → action_of s ns cs n x p ≡ assignment_of s x w p
  unfolding action_of
  is-assignment w e v =
      let b : is_variable (token s p) ≡ true = rw e v in
      rw (← e) (refused _ _ _ (ne_eqb (token s p) END (between-some IN IM (token s p) (omega arith) b)) ∙ chosen _ _ _ b)
