-- `fault::opens_too_many`: the count of the tokens that are left, with `open` open, is the count of all.
use Rattle.std.proofs.Common.{◌≡◌, drop}
use Rattle.tokens.specs.SingleFault.{opens_too_many}
use Rattle.tokens.proofs.fault.opens_too_many.Given as goal

abbrev pub invariant-loop-t : goal.invariant-loop-t
invariant-loop-t l = opens_too_many (drop l.t-index l.rest) l.«open» ≡ opens_too_many l.rest 0
