-- `arithmetic::product` meets its contract: size by size in 64 bits, the cut, then the sign.
use borrow.Author.Rules.{rules}
use native.Mathlib.Nat.{mul-le-mul}
use native.Mathlib.Omega.{arith}
use Rattle.values.specs.Cut.{product_by_size}
use Rattle.values.specs.CutLaws.{product-by-size}
use Rattle.values.specs.SignedLaws.{sign-back, size_is}
use Rattle.values.proofs.arithmetic.product.Statement.{statement}
use Rattle.values.proofs.arithmetic.product.Tie as tie

returns : tie.Need-returns
unfolding product_by_size
returns c =
    let k = c.before in
    let s = k.before.before.before in
    let f = s.ranges in
    rw (← product-by-size s.args.a s.args.b, ← size_is f.a k.size_of.ensures.0, ← size_is f.b k.size_of-2.ensures.0, ← sign-back f.a, ← sign-back f.b, ← k.cut-size.ensures)
    c.signed.ensures

pub product_spec : {M : Type 1} → statement M
product_spec =
    tie.close
    (tie.spec
    (λ c κs. search rules)
    (λ c κs. search rules)
    (λ c. record { fits = omega (arith, mul-le-mul c.size_of.ensures.1 c.size_of-2.ensures.1) })
    (λ c. search rules)
    (λ c κs. search rules)
    (λ c κs. search rules)
    returns)
