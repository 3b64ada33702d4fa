-- What an answer of the code says of a definition's: the definition gives the same, or stops with the code of the alarm. Definitions only.
use Rattle.std.specs.Prelude.{◌≡◌, Result, MatchResult}
use Rattle.values.specs.declared.codes.Alarm.{Alarm}
use Rattle.values.specs.Codes.{code_of}
use Rattle.tokens.specs.Descent.{Answer, good, stop}

-- where f makes the definition's answer of the code's
abbrev pub Gives : {A B : Type 0} → Result A Alarm → (A → B) → Answer B → Type 0
Gives x f y = MatchResult x (λ a. y ≡ good (f a)) (λ e. y ≡ stop (code_of e))
