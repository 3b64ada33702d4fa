-- `walk::join_row` meets its contract: an alarm passes through, a value is joined.
use borrow.Author.Rules.{rules}
use mathlib.Core.Path.{◌≡◌, ap, ◌∙◌}
use mathlib.Core.Bool.{Bool}
use Prim.Native.Nat.{ℕ}
use mir.Syntax.{w32}
use Rattle.values.specs.SignedLaws.{back}
use Rattle.working.specs.Operators.{yes_no, is_yes, join_logic}
use Rattle.working.proofs.Joins.{in_row, join-told}
use Rattle.working.proofs.Pairs.{passes}
use Rattle.working.proofs.walk.join_row.Statement.{statement}
use Rattle.working.proofs.walk.join_row.Tie as tie

same : (o : ℕ) {a b x y : Bool} → a ≡ x → b ≡ y → join_logic o a b ≡ join_logic o x y
same o e f = cc

pub join_row_spec : {M : Type 1} → statement M
join_row_spec =
    tie.close
    (tie.spec
    (λ c κs. search rules)
    (λ c. passes _ c.next_of-i.ensures _ c.if-i-eq0.true)
    (λ c κs. search rules)
    (λ c κs. search rules)
    (λ c κs. search rules)
    (λ c κs. search rules)
    (λ c κs. search rules)
    (λ c κs. search rules)
    (λ c.
    let y = c.before in
    let l = y.before in
    let v = l.before.before in
    let n = v.before.before.before in
    let a = n.args in
    join-told _ _ _ n.next_of-i.ensures v.if-i-eq0.false v.value_of.ensures c.pair_of.ensures (record { sfits = y.yes_no.type_inv })
    (y.yes_no.ensures ∙ ap yes_no (l.join_logic.ensures ∙ same a.op (v.is_yes.ensures ∙ ap is_yes (back w32 n.ranges.a)) (l.is_yes-2.ensures ∙ ap is_yes (back w32 (record { sfits = v.value_of.type_inv })))))
    (in_row a.op a.a _ n.requires)))
