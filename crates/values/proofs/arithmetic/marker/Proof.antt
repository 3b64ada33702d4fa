-- `arithmetic::marker` meets its contract: a size is at most 2^31, so neither the sum nor the product leaves 64 bits; the nearest unit of a value is a value.
use borrow.Author.Rules.{rules}
use borrow.Author.Tests.{not-true, not-false}
use mathlib.Core.Path.{◌≡◌, sym, ap, ◌∙◌}
use mathlib.Core.Bool.{true}
use native.Mathlib.Omega.{arith}
use mir.Syntax.{w32}
use Rattle.values.specs.Value.{in_range, nearest_units, marker_of}
use Rattle.values.specs.ValueLaws.{valued-value}
use Rattle.values.specs.MarkerLaws.{nearest-in-range}
use Rattle.values.specs.SignedLaws.{back, sign-back, size_is}
use Rattle.values.proofs.arithmetic.marker.Statement.{statement}
use Rattle.values.proofs.arithmetic.marker.Tie as tie

ranged : (c : tie.After-in_range) → c.in_range.result ≡ in_range c.args.v
ranged c = c.in_range.ensures ∙ ap in_range (back w32 c.ranges.v)

inside : (c : tie.Else-not-in_range) → in_range c.args.v ≡ true
inside c = sym (ranged c.before) ∙ not-false _ c.if-not-in_range.false-raw

returns-2 : tie.Need-returns
unfolding marker_of nearest_units
returns-2 c =
    let b = c.before in
    let e = b.before in
    let f = e.ranges.v in
    rw (inside e, ← valued-value _ (nearest-in-range _ (inside e)), ← size_is f b.size_of.ensures.0, ← sign-back f) c.signed.ensures

pub marker_spec : {M : Type 1} → statement M
unfolding marker_of
marker_spec =
    tie.close
    (tie.spec
    (λ c κs. search rules)
    (λ c. rw (sym (ranged c.before) ∙ not-true _ c.if-not-in_range.true-raw))
    (λ c κs. search rules)
    (λ c. record { fits = omega (arith, c.size_of.ensures.1) })
    (λ c. search rules)
    (λ c. search rules)
    (λ c. search rules)
    (λ c. record { fits = omega (arith, c.size_of.ensures.1) })
    (λ c κs. search rules)
    returns-2)
