-- `number::put_thousandths` meets its contract: the units, and the part behind them.
use borrow.Author.Rules.{rules}
use native.Mathlib.Omega.{arith}
use Prim.Native.Nat.{◌/◌}
use Rattle.values.specs.PutLaws.{put-sized, put_both}
use Rattle.text.specs.Digits.{decimal}
use Rattle.text.specs.DigitsLaws.{decimal-room}
use Rattle.print.specs.TokenText.{number_text}
use Rattle.print.proofs.number.put_thousandths.Statement.{statement}
use Rattle.print.proofs.number.put_thousandths.Tie as tie

pub put_thousandths_spec : {M : Type 1} → statement M
unfolding number_text
put_thousandths_spec =
    tie.close
    (tie.spec
    (λ c κs. search rules)
    (λ c.
    let n = c.before.before.before in
    let a = n.args in
    omega (arith, n.put_number-size.ensures.0, decimal-room (a.n / 1000)))
    (λ c κs.
    let n = c.before.before.before in
    let a = n.args in
    (omega (arith, n.put_number-size.ensures.0, decimal-room (a.n / 1000)), omega arith))
    (λ c. search rules)
    (λ c.
    let p = c.before.before in
    let n = p.before.before.before.before in
    let a = n.args in
    put_both (put-sized (decimal (a.n / 1000)) n.put_number-size.ensures.1 n.put_number-size.ensures.0) p.put_part.ensures))
