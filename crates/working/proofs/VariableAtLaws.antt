-- A variable read as an operand: what the walk reads there is what the variable reads.
use mathlib.Core.Path.{◌≡◌, refl, sym, ap, ◌∙◌}
use mathlib.Core.Bool.{Bool, true, false}
use mathlib.Core.List.{List}
use Prim.Native.Nat.{ℕ, ◌+◌, ◌<◌}
use native.Mathlib.Omega.{arith}
use lib.IntN.{ℤ}
use Rattle.values.specs.Choice.{chosen, refused}
use Rattle.std.specs.Prelude.{Result, Ok, Err}
use Rattle.values.specs.CodeLaws.{alarm-back}
use Rattle.values.specs.declared.codes.Alarm.{Alarm}
use Rattle.values.specs.declared.codes.Alarm.TheVariants.{Unsound}
use Rattle.tokens.specs.Token.{IN, IM, NUMBER, is_variable}
use Rattle.tokens.specs.Descent.{token, up_to, is_indexed, read_variable, read_operand}
use Rattle.tokens.specs.BetweenLaws.{inside}
use Rattle.tokens.specs.ArmLaws.{variable-arm, indexed, indexed-not}
use Rattle.working.specs.Operators.{from_worked}
use Rattle.working.specs.Working.{worked, value_over, variable_at}

-- a working goes into a place and out of it again
worked-back : (w : Result ℤ Alarm) (q : ℕ) → worked (up_to (from_worked w) q) ≡ w
worked-back (Ok v) q = refl
worked-back (Err a) q = ap Err (alarm-back a)

module _ (s : List ℕ) (r c : List ℤ) (p : ℕ) where
  pub not-variable : is_variable (token s p) ≡ false → Err Unsound ≡ variable_at s r c p
  unfolding variable_at
  not-variable h = simp (variable_at, h)

  pub operand-variable : is_variable (token s p) ≡ true → worked (read_operand s (value_over r c) 1 p) ≡ variable_at s r c p
  unfolding variable_at value_over
  operand-variable h =
      let below : token s p < NUMBER = let b = inside IN IM (token s p) h in omega arith in
      ap worked (sym (variable-arm s (value_over r c) 1 p (token s p) (λ z. omega arith) refl below h)) ∙ go (is_indexed s (token s p) p) refl
    where
      go : (b : Bool) → is_indexed s (token s p) p ≡ b → worked (read_variable s (value_over r c) (token s p) p) ≡ variable_at s r c p
      go true e = ap worked (indexed s (value_over r c) (token s p) p e) ∙ worked-back _ (p + 4) ∙ sym (chosen _ _ _ h ∙ chosen _ _ _ e)
      go false e = ap worked (indexed-not s (value_over r c) (token s p) p e) ∙ sym (chosen _ _ _ h ∙ refused _ _ _ e)
