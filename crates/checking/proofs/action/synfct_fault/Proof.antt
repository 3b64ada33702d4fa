-- `action::synfct_fault` meets its contract: one fault after the other; FaultLaws has the law.
use borrow.Author.Rules.{rules}
use native.Mathlib.Omega.{arith}
use Rattle.checking.proofs.FaultLaws.{synfct-faults}
use Rattle.checking.proofs.action.synfct_fault.Statement.{statement}
use Rattle.checking.proofs.action.synfct_fault.Tie as tie

pub synfct_fault_spec : {M : Type 1} → statement M
synfct_fault_spec =
    tie.close
    (tie.spec
    (λ c. omega arith)
    (λ c κs. search rules)
    (λ c κs. search rules)
    (λ c κs. search rules)
    (λ c. omega arith)
    (λ c κs. search rules)
    (λ c. omega arith)
    (λ c κs. search rules)
    (λ c κs. search rules)
    (λ c. omega arith)
    (λ c κs. search rules)
    (λ c. omega arith)
    (λ c κs. search rules)
    (λ c κs. search rules)
    (λ c κs. search rules)
    (λ c κs. search rules)
    (λ c.
    let r = c.before.before in
    let v = r.before.before.before in
    let w = v.before.before in
    let t = w.before.before.before in
    let n = t.before.before in
    synfct-faults _ _ n.token_at.ensures n.whole_of.ensures n.curve_fault-number.ensures t.token_at-target.ensures w.index_at.ensures w.write_fault-write.ensures v.token_at-variable.ensures r.index_at-2.ensures r.read_fault-read.ensures c.lower_of.ensures c.lower_of-2.ensures))
