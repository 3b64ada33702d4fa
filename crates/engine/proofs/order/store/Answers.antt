-- The bytes of the value are those of its complement.
use Rattle.std.proofs.Common.{◌≡◌, ℤ, pos, negsuc, ◌+◌, ◌/◌, ◌%◌, refl, ap, SFits, ◌∙◌, rules, arith}
use mir.Syntax.{w32}
use mir.Val.{of_z}
use denote.Enum.Declared.{tag_of}
use Rattle.engine.specs.contracts.order.Kind.{the_type}
use Rattle.values.specs.SignedLaws.{back}
use Rattle.values.specs.Complement.{twos_complement}
use Rattle.engine.specs.declared.order.Kind.{Kind}
use Rattle.engine.specs.declared.order.Kind.TheVariants.{Pos, Fa, Mov, M, Setal}
use Rattle.engine.specs.Order.{kind_number, four_bytes, order_bytes}
use Rattle.engine.proofs.order.store.Goals as goal

number : (k : Kind) → tag_of the_type k + 1 ≡ kind_number k
number Pos = refl
number Fa = refl
number Mov = refl
number M = refl
number Setal = refl

bits : (v : ℤ) → SFits w32 v → of_z w32 v ≡ twos_complement v
unfolding twos_complement
bits (pos n) h = refl
bits (negsuc n) h = omega arith

high : (v : ℤ) → SFits w32 v → twos_complement v / 16777216 % 256 ≡ twos_complement v / 16777216
unfolding twos_complement
high (pos n) h = omega arith
high (negsuc n) h = omega arith

pub returns : goal.returns
unfolding order_bytes four_bytes
returns c =
    let h : SFits w32 c.args.order.value = search rules in
    let e = ap (λ (v : ℤ). of_z w32 v) (back w32 {z = c.args.order.value} h) ∙ bits c.args.order.value h in
    c.copy_from_slice.ensures.after ∙ rw (c.to_le_bytes.ensures, number, e, high c.args.order.value h)
