-- Laws of the codes of alarms: what follows from the definitions of Codes.
use Rattle.std.specs.Prelude.{◌≡◌, refl, ◌<◌, eqb, Result, Ok, Err, is_ok}
use Rattle.std.proofs.Common.{arith}
use Rattle.values.specs.declared.codes.Alarm.{Alarm}
use Rattle.values.specs.declared.codes.Alarm.TheVariants.{OutOfRange, ZeroDivisor, FifoEmpty, FifoFull, NotAllowed, Unsound}
use Rattle.values.specs.Codes.{code_of, alarm_with, answer_code}

-- an alarm is told by its code
pub alarm-back : (a : Alarm) → alarm_with (code_of a) ≡ a
alarm-back OutOfRange = refl
alarm-back ZeroDivisor = refl
alarm-back FifoEmpty = refl
alarm-back FifoFull = refl
alarm-back NotAllowed = refl
alarm-back Unsound = refl

-- a code is a byte
pub code-byte : (a : Alarm) → code_of a < 256
code-byte OutOfRange = omega arith
code-byte ZeroDivisor = omega arith
code-byte FifoEmpty = omega arith
code-byte FifoFull = omega arith
code-byte NotAllowed = omega arith
code-byte Unsound = omega arith

-- an answer is no alarm exactly if its code is 0
pub ok-code : {A : Type 0} (x : Result A Alarm) → is_ok x ≡ eqb (answer_code x) 0
ok-code (Ok x) = refl
ok-code (Err OutOfRange) = refl
ok-code (Err ZeroDivisor) = refl
ok-code (Err FifoEmpty) = refl
ok-code (Err FifoFull) = refl
ok-code (Err NotAllowed) = refl
ok-code (Err Unsound) = refl
