-- `line_tokens::write_tokens`: a turn of the loop; TokenLaws has the laws.
use Rattle.std.proofs.Common.{◌≡◌, sym, ◌∙◌, ◌+◌, arith}
use Rattle.reader.proofs.TokenLaws.{ends_at, space-at, some_size, size-within, none-at, one_at, none-written, some-written}
use Rattle.reader.proofs.line_tokens.write_tokens.Goals as goal

pub loop-i-preserved-then-body-i-eq-SPACE : goal.loop-i-preserved-then-body-i-eq-SPACE
loop-i-preserved-then-body-i-eq-SPACE c =
    let e = space-at c.args.body.now c.loop-i.i (omega arith) c.if-body-i-eq-SPACE.true in
    let v = c.loop-i.invariant in
    record { put = rw e at v.put; good = rw e at v.good; count = rw e at v.count; behind = omega arith; inside = omega arith }

pub returns-in_err-first-clause-value : goal.returns-in_err-first-clause-value
returns-in_err-first-clause-value c =
    let e = none-at c.args.body.now c.loop-i.i (omega arith) c.if-body-i-eq-SPACE.false (sym c.in_err-first.was ∙ c.first_token.ensures) in
    c.from_residual.ensures ∙ none-written _ (sym (rw e at c.loop-i.invariant.good))

pub returns-in_err-first-clause-s_after : goal.returns-in_err-first-clause-s_after
returns-in_err-first-clause-s_after c =
    let e = none-at c.args.body.now c.loop-i.i (omega arith) c.if-body-i-eq-SPACE.false (sym c.in_err-first.was ∙ c.first_token.ensures) in
    rw e at c.loop-i.invariant.put

pub overflow_add-i-in-loop-i : goal.overflow_add-i-in-loop-i
overflow_add-i-in-loop-i c = omega (arith, size-within c.args.body.now c.loop-i.i (omega arith) c.if-body-i-eq-SPACE.false c.in_ok-first.first (sym c.in_ok-first.was ∙ c.first_token.ensures))

pub loop-i-smaller : goal.loop-i-smaller
loop-i-smaller c =
    let e = sym c.in_ok-first.was ∙ c.first_token.ensures in
    let z = some_size c.args.body.now c.loop-i.i (omega arith) c.if-body-i-eq-SPACE.false c.in_ok-first.first e in
    omega (arith, z, size-within c.args.body.now c.loop-i.i (omega arith) c.if-body-i-eq-SPACE.false c.in_ok-first.first e)

pub loop-i-preserved : goal.loop-i-preserved
loop-i-preserved c =
    let t = c.args.body.now in
    let i = c.loop-i.i in
    let f = c.in_ok-first.first in
    let q = sym c.in_ok-first.was ∙ c.first_token.ensures in
    let e = one_at t i (omega arith) c.if-body-i-eq-SPACE.false f q in
    let z = some_size t i (omega arith) c.if-body-i-eq-SPACE.false f q in
    let w = size-within t i (omega arith) c.if-body-i-eq-SPACE.false f q in
    let v = c.loop-i.invariant in
    let l = rw e at v.count in
    let p : c.args.at + (c.loop-i.n + 1) ≡ c.args.at + c.loop-i.n + 1 = omega arith in
    record { put = rw p (rw e at v.put); good = rw e at v.good; count = omega arith; behind = omega (arith, z); inside = omega arith }

pub returns-clause-value : goal.returns-clause-value
returns-clause-value c =
    let e = ends_at c.args.body.now c.loop-i.i (omega arith) in
    let v = c.loop-i.invariant in
    let l = rw e at v.count in
    some-written _ c.loop-i.n (sym (rw e at v.good)) (omega arith)

pub returns-clause-s_after : goal.returns-clause-s_after
returns-clause-s_after c = let e = ends_at c.args.body.now c.loop-i.i (omega arith) in rw e at c.loop-i.invariant.put
