-- What the code's answers to a write say of the definitions', where the variables are u behind it. Definitions only.
use Rattle.std.specs.Prelude.{Result, ℤ}
use Rattle.values.specs.declared.codes.Alarm.{Alarm}
use Rattle.tokens.specs.Descent.{Answer}
use Rattle.engine.specs.declared.write.Vars.{Vars}
use Rattle.engine.specs.Write.{Changed, Celled}
use Rattle.engine.specs.CodeAnswers.{Gives}

abbrev pub IsChanged : Result ℤ Alarm → Vars → Answer Changed → Type 0
IsChanged x u y = Gives x (λ v. record { value = v; r = u.r; cells = u.cells }) y

abbrev pub IsCelled : Result Unit Alarm → Vars → Answer Celled → Type 0
IsCelled x u y = Gives x (λ _. record { cells = u.cells; runs = u.runs }) y

abbrev pub IsWritten : Result Unit Alarm → Vars → Answer Vars → Type 0
IsWritten x u y = Gives x (λ _. u) y
