-- `definition::limits_fault` meets its contract: the limits are read back from their bits.
use borrow.Author.Rules.{rules}
use mathlib.Core.Path.{◌≡◌, sym, ◌∙◌}
use Rattle.values.specs.Value.{less_than}
use Rattle.values.specs.SignedLaws.{both}
use Rattle.checking.specs.CurveDefinition.{limits_fault}
use Rattle.checking.proofs.definition.limits_fault.Statement.{statement}
use Rattle.checking.proofs.definition.limits_fault.Tie as tie

told : (c : tie.After-is_less) → let k = c.args.curve in c.is_less.result ≡ less_than k.upper k.lower
told c =
    let k = c.args.curve in
    let g = c.struct_told-2-1.given in
    c.is_less.ensures ∙ both less_than {a = k.upper} {b = k.lower} (record { sfits = g.1.0.1 }) (record { sfits = g.0.1 })

pub limits_fault_spec : {M : Type 1} → statement M
unfolding limits_fault
limits_fault_spec =
    tie.close
    (tie.spec
    (λ c κs. search rules)
    (λ c. rw (sym (told c.before) ∙ c.if-is_less.true))
    (λ c. rw (sym (told c.before) ∙ c.if-is_less.false)))
