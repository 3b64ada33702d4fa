-- `arithmetic::size_of` meets its contract: below 0 the negative, in twice the width.
use mathlib.Core.Path.{◌≡◌, refl, sym, ap, ◌∙◌}
use lib.IntN.{pos, nat_abs, neg_ℤ}
use mir.Syntax.{w32}
use Rattle.values.specs.Numbers.{abs32}
use Rattle.values.specs.SizeLaws.{negative-size, other-size}
use Rattle.values.specs.SignedLaws.{back, cast64, turned-fits, turned-back, size-cast, sign-back}
use Rattle.values.proofs.arithmetic.size_of.Statement.{statement}
use Rattle.values.proofs.arithmetic.size_of.Tie as tie

below : (c : tie.Then-v-lt0) → let v = c.args.v in neg_ℤ v ≡ pos (nat_abs v)
below c = negative-size c.args.v (sym (sign-back c.ranges.v) ∙ c.if-v-lt0.true)

other : (c : tie.Else-v-lt0) → let v = c.args.v in v ≡ pos (nat_abs v)
other c = other-size c.args.v (sym (sign-back c.ranges.v) ∙ c.if-v-lt0.false)

pub size_of_spec : {M : Type 1} → statement M
size_of_spec =
    tie.close
    (tie.spec
    (λ c. cast64 c.ranges.v)
    (λ c. turned-fits c.ranges.v)
    (λ c. let f = c.ranges.v in size-cast _ _ (turned-back f ∙ below c) (abs32 f))
    (λ c. let f = c.ranges.v in rw (ap nat_abs (turned-back f ∙ below c)) (refl, abs32 f))
    (λ c. let f = c.ranges.v in size-cast _ _ (back w32 f ∙ other c) (abs32 f))
    (λ c. let f = c.ranges.v in rw (ap nat_abs (back w32 f)) (refl, abs32 f)))
