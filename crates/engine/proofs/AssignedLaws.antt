-- Laws of an assignment and of SYNFCT as one action: it is the one or the other by its word.
use mathlib.Core.Path.{◌≡◌, refl, sym, ap, ◌∙◌}
use mathlib.Core.Bool.{Bool, true, false}
use mathlib.Core.List.{List}
use Prim.Native.Nat.{ℕ, ◌+◌}
use native.Mathlib.Omega.{arith}
use lib.Dec.{eqb}
use borrow.Author.Tests.{eqb-true, ne_eqb}
use Rattle.values.specs.Choice.{chosen, refused, contrary}
use Rattle.values.specs.Curve.{curve_of}
use Rattle.std.specs.Prelude.{ℤ, Result, Ok, Err}
use Rattle.values.specs.declared.codes.Alarm.{Alarm}
use Rattle.values.specs.declared.curve.Curve.{Curve}
use Rattle.tokens.specs.Token.{END, IN, IM, SYNFCT, is_variable, is_drive, whole}
use Rattle.tokens.specs.Descent.{token, Answer, good, ◌>>=◌, index_at}
use Rattle.tokens.specs.BetweenLaws.{inside}
use Rattle.working.specs.Operators.{from_worked}
use Rattle.working.specs.Working.{variable_at}
use Rattle.engine.specs.declared.action.Target.{Target}
use Rattle.engine.specs.Action.{World, Taken, Did, did, with_vars, curve_assigned, synfct_of, assignment_of, drive_of, command_of, action_of}
use Rattle.engine.specs.Assigned.{is_assigned, curve_where, curve_value, curve_taken, taken_for, target_of, assigned_of}
use Rattle.engine.specs.Set.{defined_curve}
use Rattle.engine.specs.Write.{write_to}

module _ (s : List ℕ) (x : World) where
  -- what is taken goes into the write and on
  abbrev written : ℕ → ℕ → Answer Taken → Answer Did
  written w i t = t >>= λ a. write_to a.vars w i a.value >>= λ v. did a.next (with_vars x v)

  -- SYNFCT: the curve is worked before the write, which is the same as with it
  synfct-written : (p : ℕ) → written (token s (p + 4)) (index_at s (token s (p + 4)) (p + 4)) (curve_taken s x.vars p) ≡ synfct_of s x p
  unfolding synfct_of curve_assigned curve_taken curve_value
  synfct-written p = go (variable_at s x.vars.r x.vars.cells (p + 9))
    where
      c : Curve
      c = (defined_curve s (whole (token s (p + 2))))

      w : ℕ
      w = token s (p + 4)

      i : ℕ
      i = index_at s (token s (p + 4)) (p + 4)

      worked : (y : Result ℤ Alarm) → written w i (from_worked y >>= λ z. good (record { value = z; vars = x.vars; next = p + 14 })) ≡ (from_worked y >>= (λ z. write_to x.vars w i z) >>= λ v. did (p + 14) (with_vars x v))
      worked (Ok z) = refl
      worked (Err k) = refl

      go : (v : Result ℤ Alarm) → written w i (from_worked (curve_where c v) >>= λ z. good (record { value = z; vars = x.vars; next = p + 14 })) ≡ (from_worked v >>= λ a. curve_assigned x.vars c a w i >>= λ u. did (p + 14) (with_vars x u))
      go (Ok a) = worked (curve_of c a)
      go (Err k) = refl

  -- over a target and over what is assigned
  written_as : {t u : Target} {a b : Answer Taken} → t ≡ u → a ≡ b → written t.word t.index a ≡ written u.word u.index b
  written_as {u} {a} e f = ap (λ (t : Target). written t.word t.index a) e ∙ ap (λ (y : Answer Taken). written u.word u.index y) f

  pub assigned-synfct : (w p : ℕ) → eqb w SYNFCT ≡ true → assigned_of s x w p ≡ synfct_of s x p
  unfolding assigned_of taken_for target_of
  assigned-synfct w p h = written_as (chosen _ _ _ h) (chosen _ _ _ h) ∙ synfct-written p

  pub assigned-sum : (w p : ℕ) → eqb w SYNFCT ≡ false → assigned_of s x w p ≡ assignment_of s x w p
  unfolding assigned_of taken_for target_of assignment_of
  assigned-sum w p h = written_as (refused _ _ _ h) (refused _ _ _ h)

-- ---- which action begins with which word

-- what no such action begins with is no variable, and not SYNFCT
pub not-assigned : (w : ℕ) → is_assigned w ≡ false → (is_variable w ≡ false) × (eqb w SYNFCT ≡ false)
not-assigned w h = go (is_variable w) refl
  where
    go : (b : Bool) → is_variable w ≡ b → (is_variable w ≡ false) × (eqb w SYNFCT ≡ false)
    go true e = contrary (rw e) h
    go false e = (e, rw e at h)

module _ (s numbers : List ℕ) (cancelled : List Bool) (number : ℕ) (x : World) (p : ℕ) where
  assigned-here : (token s p ≡ END → ⊥) → is_assigned (token s p) ≡ true → action_of s numbers cancelled number x p ≡ assigned_of s x (token s p) p
  unfolding action_of
  assigned-here some h = refused _ _ _ (ne_eqb w END some) ∙ go (is_variable w) refl
    where
      w : ℕ
      w = token s p

      go : (b : Bool) → is_variable w ≡ b →
          elim (is_variable w) as (λ _. Answer Did) [
            | true ↦ assignment_of s x w p
            | false ↦ elim (is_drive w) [ true ↦ drive_of s number x w p | false ↦ elim (eqb w SYNFCT) [ true ↦ synfct_of s x p | false ↦ command_of s numbers cancelled number x w p ] ]
          ]
          ≡ assigned_of s x w p
      go true e = let i = inside IN IM w e in chosen _ _ _ e ∙ sym (assigned-sum s x w p (ne_eqb w SYNFCT (λ z. omega arith)))
      go false e =
          let f : eqb w SYNFCT ≡ true = rw e at h in
          let d : is_drive w ≡ false = rw (eqb-true w SYNFCT f) in
          refused _ _ _ e ∙ refused _ _ _ d ∙ chosen _ _ _ f ∙ sym (assigned-synfct s x w p f)

  -- where the word at p is w, and no end
  pub acts-assigned : (w : ℕ) → w ≡ token s p → (w ≡ END → ⊥) → is_assigned w ≡ true → action_of s numbers cancelled number x p ≡ assigned_of s x w p
  acts-assigned w e some h = assigned-here (λ z. some (e ∙ z)) (ap (λ (n : ℕ). is_assigned n) (sym e) ∙ h) ∙ ap (λ (n : ℕ). assigned_of s x n p) (sym e)
