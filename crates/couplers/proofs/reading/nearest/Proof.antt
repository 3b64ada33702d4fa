-- `reading::nearest` meets its contract: each return by the tests that led to it.
use borrow.Author.Rules.{rules}
use borrow.Author.Tests.{lt-ltb, le-ltb}
use native.Mathlib.Nat.{div-le_self, mod-lt}
use native.Mathlib.Omega.{arith}
use Rattle.couplers.specs.Conversion.{nearest_even}
use Rattle.couplers.proofs.reading.nearest.Statement.{statement}
use Rattle.couplers.proofs.reading.nearest.Tie as tie

pub nearest_spec : {M : Type 1} → statement M
unfolding nearest_even
nearest_spec =
    tie.close
    (tie.spec
    (λ c. search rules)
    (λ c. search rules)
    (λ c. let a = c.args in record { fits = omega (arith, mod-lt a.n {m = a.d} (omega arith)) })
    (λ c. rw (lt-ltb _ _ c.if-rest-d.true))
    (λ c. let a = c.args in record { fits = omega (arith, div-le_self a.n a.d) })
    (λ c. rw (le-ltb _ _ c.if-rest-d.false, lt-ltb _ _ c.if-d-rest.true))
    (λ c. let a = c.args in record { fits = omega (arith, div-le_self a.n a.d) })
    (λ c. rw (le-ltb _ _ c.if-rest-d.false, le-ltb _ _ c.if-d-rest.false)))
