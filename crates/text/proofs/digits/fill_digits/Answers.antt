-- `digits::fill_digits`: a digit that is put before those that stand; DigitsLaws has the laws.
use Rattle.std.proofs.Common.{◌≡◌, sym, ap, ◌∙◌, ℕ, List, length, arith}
use Rattle.values.specs.PutAt.{put_at}
use Rattle.text.specs.Digits.{digits_up, decimal}
use Rattle.text.specs.DigitsLaws.{just_enough, fewer_digits, put-last-digit}
use Rattle.text.proofs.digits.fill_digits.Goals as goal

pub loop-i-init : goal.loop-i-init
loop-i-init c =
    let a = c.args in
    let e : digits_up a.k a.n ≡ decimal a.n = ap (λ (x : ℕ). digits_up x a.n) c.requires.0 ∙ just_enough 10 a.n in
    record { put = ap (λ (l : List ℕ). put_at a.out.now a.at l) e; count = ap length e ∙ sym c.requires.0 }

pub loop-i-preserved : goal.loop-i-preserved
loop-i-preserved c =
    let l = c.loop-i in
    record { put = put-last-digit l.i l.m (omega arith) l.invariant.count l.out c.args.at ∙ l.invariant.put; count = fewer_digits l.i l.m (omega arith) l.invariant.count }
