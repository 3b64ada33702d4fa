-- `arithmetic::signed` meets its contract: a sign changes no size, so the test of the size is that of the range.
use borrow.Author.Rules.{rules}
use borrow.Author.Tests.{lt-leb, le-leb}
use mathlib.Core.Path.{ap}
use mathlib.Core.Bool.{true}
use Prim.Native.Nat.{◌≤◌, ◌<◌}
use native.Mathlib.Omega.{arith}
use Rattle.values.specs.Value.{top, in_range, valued}
use Rattle.std.specs.Prelude.{Ok}
use Rattle.values.specs.SizeLaws.{signed-size}
use Rattle.values.specs.SignedLaws.{size_back, negative_fits, negative_back}
use Rattle.values.proofs.arithmetic.signed.Statement.{statement}
use Rattle.values.proofs.arithmetic.signed.Tie as tie

small : (c : tie.Else-size) → c.args.size ≤ top
small c = omega (arith, c.if-size.false)

fitting : (c : tie.Else-size) → c.args.size < 2147483648
fitting c = omega (arith, small c)

pub signed_spec : {M : Type 1} → statement M
unfolding valued in_range
signed_spec =
    tie.close
    (tie.spec
    (λ c. search rules)
    (λ c. let a = c.args in rw (signed-size a.negative a.size, lt-leb _ _ c.if-size.true))
    (λ c. search rules)
    (λ c. negative_fits _ (fitting c.before))
    (λ c. let s = small c.before in rw (c.if-negative.true, signed-size true c.args.size, le-leb _ _ s) (ap Ok (negative_back _ (fitting c.before))))
    (λ c. let s = small c.before in rw (c.if-negative.false, le-leb _ _ s) (ap Ok (size_back _ (fitting c.before)))))
