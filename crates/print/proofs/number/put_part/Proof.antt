-- `number::put_part` meets its contract: the point and one to three digits, by which of them are 0 behind all others.
use borrow.Author.Rules.{rules}
use native.Mathlib.Omega.{arith}
use Rattle.values.specs.PutLaws.{put-nothing, put_byte, put_both, put_as}
use Rattle.print.specs.PartLaws.{no_part, one-digit-part, two-digit-part, three-digit-part}
use Rattle.print.proofs.number.put_part.Statement.{statement}
use Rattle.print.proofs.number.put_part.Tie as tie

pub put_part_spec : {M : Type 1} → statement M
put_part_spec =
    tie.close
    (tie.spec
    (λ c. let a = c.args in put_as (no_part a.f c.if-f-eq0.true) put-nothing)
    (λ c κs. search rules)
    (λ c. omega arith)
    (λ c. omega arith)
    (λ c. omega arith)
    (λ c κs. search rules)
    (λ c. omega arith)
    (λ c. search rules)
    (λ c.
    let d = c.before.before.before in
    let p = d.before.before.before.before in
    let s = p.before.before in
    let a = s.args in
    put_as (one-digit-part a.f s.if-f-eq0.false c.if-f-eq0-2.true) (put_both (put_byte p.put.ensures) (put_byte d.put-2.ensures)))
    (λ c. omega arith)
    (λ c. omega arith)
    (λ c κs. search rules)
    (λ c. omega arith)
    (λ c. search rules)
    (λ c.
    let e = c.before.before.before in
    let t = e.before.before in
    let d = t.before.before.before in
    let p = d.before.before.before.before in
    let s = p.before.before in
    let a = s.args in
    put_as (two-digit-part a.f s.if-f-eq0.false t.if-f-eq0-2.false c.if-f-eq0-3.true) (put_both (put_both (put_byte p.put.ensures) (put_byte d.put-2.ensures)) (put_byte e.put-3.ensures)))
    (λ c. omega arith)
    (λ c. omega arith)
    (λ c κs. search rules)
    (λ c. omega arith)
    (λ c. search rules)
    (λ c.
    let l = c.before.before in
    let u = l.before.before in
    let e = u.before.before.before in
    let t = e.before.before in
    let d = t.before.before.before in
    let p = d.before.before.before.before in
    let s = p.before.before in
    let a = s.args in
    put_as (three-digit-part a.f s.if-f-eq0.false t.if-f-eq0-2.false u.if-f-eq0-3.false) (put_both (put_both (put_both (put_byte p.put.ensures) (put_byte d.put-2.ensures)) (put_byte e.put-3.ensures)) (put_byte l.put-4.ensures))))
