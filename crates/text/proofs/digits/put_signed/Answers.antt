-- `digits::put_signed`: from 2147483648 on a minus comes first.
use Rattle.std.proofs.Common.{◌≡◌, sym, ap, ◌∙◌, ℕ, ◌+◌, ◌-◌, min, List, ◌∷◌, length, arith}
use Rattle.values.specs.PutAt.{put_at}
use Rattle.values.specs.PutLaws.{put-within}
use Rattle.text.specs.Digits.{decimal}
use Rattle.text.specs.DigitsLaws.{signed_high, decimal-room}
use Rattle.text.proofs.digits.put_signed.Goals as goal

pub overflow_add-result : goal.overflow_add-result
overflow_add-result c = omega (arith, c.put_number-2.ensures.value, decimal-room (4294967295 - c.args.n + 1))

pub returns-clause-out_after : goal.returns-clause-out_after
returns-clause-out_after c =
    let a = c.args in
    let d = decimal (4294967295 - a.n + 1) in
    let e : c.min-p.result ≡ min (length a.out.now) a.at = omega arith in
    c.put_number-2.ensures.out_after ∙
    ap (λ (t : List ℕ). put_at t (c.min-p.result + 1) d) c.put.ensures ∙
    ap (λ (y : ℕ). put_at a.out.now y (45 ∷ d)) e ∙
    put-within (45 ∷ d) a.out.now a.at ∙
    ap (λ (t : List ℕ). put_at a.out.now a.at t) (sym (signed_high a.n (omega arith) (omega arith)))
