-- `sight::lowest_of` meets its contract: it is what the calls say.
use borrow.Author.Rules.{rules}
use Rattle.checking.proofs.SightNumberLaws.{faultless-seen, lowest-none}
use Rattle.checking.proofs.sight.lowest_of.Statement.{statement}
use Rattle.checking.proofs.sight.lowest_of.Tie as tie

pub lowest_of_spec : {M : Type 1} → statement M
lowest_of_spec =
    tie.close
    (tie.spec
    (λ c κs. search rules)
    (λ c κs. search rules)
    (λ c.
    let b = c.before in
    let a = b.before.before in
    let x = a.args in
    lowest-none x.wanted x.a x.b (faultless-seen _ _ a.is_faultless.ensures b.if-is_faultless.true) (faultless-seen _ _ b.is_faultless-then-is_faultless.ensures c.if-is_faultless-2.true))
    (λ c κs. search rules)
    (λ c κs. search rules)
    (λ c κs. search rules)
    (λ c κs. search rules)
    (λ c κs. search rules)
    (λ c κs. search rules)
    (λ c κs. search rules)
    (λ c κs. search rules)
    (λ c κs. search rules)
    (λ c.
    let f = c.before.before in
    let k = f.before.before in
    let w = k.before.before.before in
    simp (c.lower_of-2.ensures, c.lower_of.ensures, f.fault_of-2.ensures, f.fault_of.ensures, k.lower_of-kinds.ensures, k.wanting-2.ensures, k.truth_of-2.ensures, w.wanting.ensures, w.truth_of.ensures)))
