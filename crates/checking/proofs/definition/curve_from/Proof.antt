-- `definition::curve_from` meets its contract: six parameters, each read back from its bits.
use borrow.Author.Rules.{rules}
use mathlib.Core.Path.{◌≡◌, ◌∙◌}
use lib.IntN.{ℤ}
use mir.Syntax.{w32}
use mir.Val.{SFits, to_z, of_z}
use Rattle.values.specs.declared.curve.Curve.{Curve}
use Rattle.values.specs.SignedLaws.{back}
use Rattle.checking.specs.CurveDefinition.{curve_from}
use Rattle.checking.proofs.definition.curve_from.Statement.{statement}
use Rattle.checking.proofs.definition.curve_from.Tie as tie

-- a number that is read back
kept : {z y : ℤ} → SFits w32 z → z ≡ y → to_z w32 (of_z w32 z) ≡ y
kept h e = back w32 h ∙ e

six : {l u a b c d l' u' a' b' c' d' : ℤ} → l ≡ l' → u ≡ u' → a ≡ a' → b ≡ b' → c ≡ c' → d ≡ d' →
    ◌≡◌ {A = Curve} (record { lower = l; upper = u; a0 = a; a1 = b; a2 = c; a3 = d }) (record { lower = l'; upper = u'; a0 = a'; a1 = b'; a2 = c'; a3 = d' })
six l u a b c d = rw (l, u, a, b, c, d)

pub curve_from_spec : {M : Type 1} → statement M
unfolding curve_from
curve_from_spec =
    tie.close
    (tie.spec
    (λ c κs. search rules)
    (λ c κs. search rules)
    (λ c κs. search rules)
    (λ c κs. search rules)
    (λ c κs. search rules)
    (λ c κs. search rules)
    (λ c.
    let p5 = c.before in
    let p4 = p5.before in
    let p3 = p4.before in
    let p2 = p3.before in
    let p1 = p2.before in
    six (kept (record { sfits = p1.parameter.type_inv }) p1.parameter.ensures) (kept (record { sfits = p2.parameter-2.type_inv }) p2.parameter-2.ensures) (kept (record { sfits = p3.parameter-3.type_inv }) p3.parameter-3.ensures)
    (kept (record { sfits = p4.parameter-4.type_inv }) p4.parameter-4.ensures) (kept (record { sfits = p5.parameter-5.type_inv }) p5.parameter-5.ensures) (kept (record { sfits = c.parameter-6.type_inv }) c.parameter-6.ensures)))
