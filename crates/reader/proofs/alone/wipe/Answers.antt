-- `alone::wipe` meets its contract: the zeros stand at the beginning, and the rest stays.
use native.Mathlib.Omega.{arith}
use mathlib.Core.Path.{◌≡◌, sym, ap, ◌∙◌}
use mathlib.Core.List.{List, ◌++◌}
use Prim.Native.Nat.{ℕ}
use lib.ListN.{length, take, drop, replicate, length-take, length-replicate}
use Rattle.reader.proofs.AloneLaws.{put-front}
use Rattle.reader.proofs.alone.wipe.Goals as goal

pub returns : goal.returns
returns c =
    let a = c.args in
    let m = length-replicate {A = ℕ} a.n 0 in
    let n = length-take a.n a.row.now in
    let l : length (take a.n a.row.now) ≡ a.n = omega (arith, n) in
    let v : c.fill.new.self ≡ replicate a.n 0 = c.fill.ensures.after (λ y e. e) ∙ ap (λ (j : ℕ). replicate j 0) l in
    ap (λ (x : List ℕ). x ++ drop a.n a.row.now) v ∙ sym (ap (λ (j : ℕ). replicate a.n 0 ++ drop j a.row.now) m) ∙ put-front (replicate a.n 0) a.row.now (omega arith)
