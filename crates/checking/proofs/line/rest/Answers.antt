-- `line::rest` meets its contract: each return by the tests that led to it.
use native.Mathlib.Omega.{arith}
use borrow.Author.Tests.{not-false}
use mathlib.Core.Path.{sym, ap, ◌∙◌}
use Prim.Native.Nat.{ℕ, ◌+◌, ◌<◌}
use mathlib.Core.Bool.{true}
use Rattle.tokens.specs.Token.{set_size, room, WHEN, EVERY}
use Rattle.tokens.specs.Descent.{Read, read, then, expression_at}
use Rattle.tokens.specs.SingleFault.{lower}
use Rattle.checking.specs.Brackets.{Counted}
use Rattle.checking.specs.Fault.{sight, fault_for, judged}
use Rattle.checking.specs.SightNumber.{fault_of, body_from}
use Rattle.checking.proofs.FaultLaws.{rest-always, rest-keyword}
use Rattle.checking.proofs.SightNumberLaws.{number-made, faulted-made, faulted-wanted}
use Rattle.checking.proofs.BracketCountLaws.{other-high, counts-token, counted-to, counted-behind, same-end-on, joined-next}
use Rattle.checking.proofs.line.rest.Goals as goal

pub returns-then-not-is_keyword : goal.returns-then-not-is_keyword
returns-then-not-is_keyword c =
    let a = c.args in
    let m : a.at + 3 < room = omega (arith, c.requires.0) in
    let head = number-made {d = 0} _ (omega arith) (omega arith) m c.number_seen-head.ensures in
    c.body.ensures ∙ ap (judged a.set.now a.at) (ap (body_from a.set.now a.at 0 0) (faulted-made head (omega arith)) ∙ rest-always _ _ _ _ c.token_at-keyword.ensures c.is_keyword.ensures c.if-not-is_keyword.true-raw)

pub body-requires-2 : goal.body-requires-2
body-requires-2 c =
    let a = c.args in
    let m : a.at + 3 < room = omega (arith, c.requires.0) in
    let head = number-made {d = 0} _ (omega arith) (omega arith) m c.number_seen-head.ensures in
    let counted : Counted a.set.now a.at c.number_seen-head.result = counted-to _ _ _ head.next head.depth (λ g. c.requires.1) in
    let word = counts-token _ (a.at + 3) (a.at + 4) c.token_at-keyword.ensures (other-high WHEN EVERY _ (omega arith) c.is_keyword.ensures (not-false _ c.if-not-is_keyword.false-raw)) (omega arith) in
    let condition = (same-end-on _ c.as_wanted-a.ensures.1).goes _ c.expression.ensures.1 in
    (c.requires.0, (joined-next _ (sym head.next) (λ z. omega arith) (counted-behind _ (a.at + 3) (a.at + 4) word condition) c.join_faults.ensures.1).goes _ counted)

pub returns : goal.returns
returns c =
    let a = c.args in
    let m : a.at + 3 < room = omega (arith, c.requires.0) in
    let head = number-made {d = 0} _ (omega arith) (omega arith) m c.number_seen-head.ensures in
    c.body-2.ensures ∙
    ap (judged a.set.now a.at) (ap (body_from a.set.now a.at c.token_at-keyword.result (a.at + 4)) (c.join_faults.ensures.0 ∙
    ap (λ (r : Read ℕ). then r (λ g q. read (lower (fault_of c.number_seen-head.result) g) q)) (faulted-wanted true _ _ (expression_at a.set.now sight set_size (a.at + 4)) c.expression.ensures.0 c.as_wanted-a.ensures.0) ∙
    ap (λ (f : ℕ). then (fault_for true (expression_at a.set.now sight set_size (a.at + 4))) (λ g q. read (lower f g) q)) head.fault) ∙
    rest-keyword _ _ _ _ c.token_at-keyword.ensures c.is_keyword.ensures c.if-not-is_keyword.false-raw)
