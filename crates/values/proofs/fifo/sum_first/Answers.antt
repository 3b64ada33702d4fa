-- The next place is added to the sum so far.
use Rattle.std.proofs.Common.{arith, rules, ◌≡◌, ◌+◌, ◌*◌, ◌<◌, ℕ, take, get_or, pos, neg_ℤ, ◌+ℤ◌, ◌≤ℤ◌, to_z, of_z, w32, w64, SFits, ℤ, ap, length-take, get_or-take}
use Rattle.std.proofs.lemmas.Int.{ints}
use Rattle.values.specs.Fifo.{sum_first}
use Rattle.values.specs.SignedLaws.{back, widened}
use Rattle.values.specs.ListLaws.{sum-next}
use Rattle.values.proofs.fifo.sum_first.Goals as goal

-- with a number of 32 bits more the sum still fits
added : (s x : ℤ) (i : ℕ) → i < 16 → (neg_ℤ (pos (2147483648 * i)) ≤ℤ s) → (s ≤ℤ pos (2147483648 * i)) → SFits w32 x →
    SFits w64 (s +ℤ x) × (neg_ℤ (pos (2147483648 * (i + 1))) ≤ℤ (s +ℤ x)) × ((s +ℤ x) ≤ℤ pos (2147483648 * (i + 1)))
added s x i h l u f = (search rules, omega (arith, ints), omega (arith, ints))

pub loop-x-init : goal.loop-x-init
unfolding sum_first
loop-x-init c = search rules

pub loop-x-preserved : goal.loop-x-preserved
loop-x-preserved c =
    let xs = c.args.part.now in
    let i = c.loop-x.x-index in
    let h : i < c.args.n = omega (arith, length-take {A = ℤ}) in
    let y : get_or (take c.args.n xs) i (pos 0) ≡ get_or xs i (pos 0) = get_or-take c.args.n xs i (pos 0) h in
    let f : SFits w32 (get_or (take c.args.n xs) i (pos 0)) = search rules in
    let g : SFits w32 (get_or xs i (pos 0)) = rw y at f in
    let x : to_z w64 (of_z w64 c.from-all.result) ≡ get_or xs i (pos 0) = rw (c.from-all.ensures, back w32 f, y, back w64 (widened g)) in
    let v = c.loop-x.invariant in
    let a = added (to_z w64 c.loop-x.all-bits) (get_or xs i (pos 0)) i (omega arith) v.1 v.2 g in
    rw (x, back w64 a.0, sum-next) (ap (λ (s : ℤ). s +ℤ get_or xs i (pos 0)) v.0, a.1, a.2)
