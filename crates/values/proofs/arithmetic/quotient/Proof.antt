-- `arithmetic::quotient` meets its contract: size by size in 64 bits, the cut, then the sign.
use borrow.Author.Rules.{rules}
use borrow.Author.Tests.{eqb-false}
use native.Mathlib.Omega.{arith}
use lib.IntN.{nat_abs}
use Rattle.values.specs.Cut.{quotient_by_size}
use Rattle.values.specs.CutLaws.{quotient-by-size}
use Rattle.values.specs.Value.{quotient_of}
use Rattle.values.specs.SignedLaws.{sign-back, size_is, zero_bits, nonzero-bits}
use Rattle.values.proofs.arithmetic.quotient.Statement.{statement}
use Rattle.values.proofs.arithmetic.quotient.Tie as tie

returns-2 : tie.Need-returns
unfolding quotient_by_size
returns-2 c =
    let k = c.before in
    let e = k.before.before.before in
    let s = e.before in
    let f = s.ranges in
    rw (← quotient-by-size s.args.a s.args.b, nonzero-bits s.args.b e.if-b-eq0.false)
    (rw (← size_is f.a k.size_of.ensures.0, ← size_is f.b k.size_of-2.ensures.0, ← sign-back f.a, ← sign-back f.b, ← k.cut-size.ensures)
    c.signed.ensures)

pub quotient_spec : {M : Type 1} → statement M
unfolding quotient_of
quotient_spec =
    tie.close
    (tie.spec
    (λ c. rw (zero_bits c.ranges.b c.if-b-eq0.true))
    (λ c κs. search rules)
    (λ c. search rules)
    (λ c. record { fits = omega (arith, c.size_of.ensures.1) })
    (λ c κs. search rules)
    (λ c κs.
    let e = c.before.before in
    let b = e.args.b in
    omega (arith, size_is e.ranges.b c.size_of-2.ensures.0, eqb-false (nat_abs b) 0 (nonzero-bits b e.if-b-eq0.false)))
    (λ c κs. search rules)
    returns-2)
