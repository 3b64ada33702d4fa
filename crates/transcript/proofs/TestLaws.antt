-- What the tests of totals come to, where the code's tests led.
use mathlib.Core.Path.{◌≡◌, refl, ap}
use mathlib.Core.List.{List}
use Prim.Native.Nat.{ℕ, zero, suc}
use Rattle.transcript.specs.declared.totals.Totals.{Totals}
use Rattle.transcript.specs.declared.view.View.{View}
use Rattle.transcript.specs.Totals.{end_by, ended, one_if}

pub one-other : (n : ℕ) → (n ≡ 0 → ⊥) → 1 ≡ one_if n
one-other zero f = absurd (f refl)
one-other (suc n) f = refl

-- the end by the view
pub ended_by_lem : (s : List ℕ) (n : Totals) {v : View} → n.counts.view ≡ v → ended s n ≡ end_by v s n
ended_by_lem s n e = ap (λ (x : View). end_by x s n) e
