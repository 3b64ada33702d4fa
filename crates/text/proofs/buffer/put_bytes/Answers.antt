-- `buffer::put_bytes`: a part of the text is copied; PutPartLaws has the law.
use Rattle.std.proofs.Common.{◌≡◌, ap, ◌∙◌, ℕ, ◌+◌, ◌-◌, List, length, min, arith}
use borrow.Rule.Slice.PartMut.{put_mid}
use Rattle.values.specs.PutAt.{put_at}
use Rattle.values.specs.PutLaws.{put-within}
use Rattle.text.proofs.PutPartLaws.{put_part}
use Rattle.text.proofs.buffer.put_bytes.Goals as goal

pub returns : goal.returns
returns c =
    let out = c.args.out.now in
    let s = c.args.s.now in
    let a = c.min-at.result in
    let k = c.min-size.result in
    let q : a + k - a ≡ k = omega arith in
    let e : a ≡ min (length out) c.args.at = omega arith in
    ap (λ (n : ℕ). put_mid a n out c.copy_from_slice.new.self) q ∙
    ap (λ (l : List ℕ). put_mid a k out l) c.copy_from_slice.ensures.after ∙
    put_part s out a k (omega arith) (omega arith) ∙
    ap (λ (y : ℕ). put_at out y s) e ∙
    put-within s out c.args.at
