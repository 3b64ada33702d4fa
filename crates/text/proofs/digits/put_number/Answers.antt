-- `digits::put_number`: a place past the buffer's end is as good as the end.
use Rattle.std.proofs.Common.{◌≡◌, min, sym, ap, ◌∙◌, ℕ, List, length, arith}
use Rattle.values.specs.PutAt.{put_at}
use Rattle.values.specs.PutLaws.{put-within}
use Rattle.text.specs.Digits.{decimal}
use Rattle.text.specs.DigitsLaws.{one-digit}
use Rattle.text.proofs.digits.put_number.Goals as goal

pub returns-then-n-lt10-clause-value : goal.returns-then-n-lt10-clause-value
returns-then-n-lt10-clause-value c = ap (λ (l : List ℕ). length l) (sym (one-digit 10 c.args.n (omega arith) (omega arith)))

pub returns-then-n-lt10-clause-out_after : goal.returns-then-n-lt10-clause-out_after
returns-then-n-lt10-clause-out_after c = c.put.ensures ∙ ap (λ (l : List ℕ). put_at c.args.out.now c.args.at l) (sym (one-digit 10 c.args.n (omega arith) (omega arith)))

pub returns-clause-out_after : goal.returns-clause-out_after
returns-clause-out_after c =
    let a = c.args in
    let e : c.min-p.result ≡ min (length a.out.now) a.at = omega arith in
    c.put_digits.ensures.put ∙ ap (λ (y : ℕ). put_at a.out.now y (decimal a.n)) e ∙ put-within (decimal a.n) a.out.now a.at
