-- `number::digits_value`: the digits that are left, behind those of the value `n`, are worth what all are.
use Rattle.std.proofs.Common.{◌≡◌, drop}
use Rattle.text.specs.Number.{digits_value}
use Rattle.text.specs.NumberLaws.{Low}
use Rattle.text.proofs.number.digits_value.Given as goal

abbrev pub invariant-loop-b : goal.invariant-loop-b
invariant-loop-b l = record { worth : digits_value (drop l.b-index l.digits) l.n ≡ digits_value l.digits 0; low : Low l.b-index l.n }
