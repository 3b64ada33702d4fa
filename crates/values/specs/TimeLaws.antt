-- Laws of time: what follows from the definitions of Time.
use Rattle.std.specs.Prelude.{◌≡◌, refl, Bool, true, false, cond, ℕ, ◌+◌, ◌≤◌, ltb, ℤ, pos, negsuc, ◌+ℤ◌}
use Rattle.std.proofs.Common.{ap, arith, ltb-false, le-ltb}
use Rattle.values.specs.declared.time.Timer.{Timer}
use Rattle.values.specs.Value.{top, in_range, less_than}
use Rattle.values.specs.ValueLaws.{abs-range}
use Rattle.values.specs.Time.{timer, step, millis_of, up_to_top, grown_timer, written_timer}
use Rattle.values.specs.Numbers.{clash}

-- a stopped timer stays as it is
pub stopped : (t : Timer) → t.runs ≡ false → grown_timer t ≡ t
unfolding grown_timer
stopped t e = ap (λ (b : Bool). cond b (timer (up_to_top (t.time.0 +ℤ step)) true) t) e

-- a running timer grows by one beat, up to the top
pub running : (t : Timer) → t.runs ≡ true → grown_timer t ≡ timer (up_to_top (t.time.0 +ℤ step)) true
unfolding grown_timer
running t e = ap (λ (b : Bool). cond b (timer (up_to_top (t.time.0 +ℤ step)) true) t) e

-- below the top that is 4 ms
pub grown-by-four : (n : ℕ) → n + 4 ≤ top → grown_timer (timer (pos n) true) ≡ timer (pos (n + 4)) true
unfolding grown_timer less_than millis_of
grown-by-four n h = rw (le-ltb top (n + 4) h)

-- a time from 0 to the top
abbrev pub Timed : ℤ → Type 0
Timed z = (less_than z (pos 0) ≡ false) × (in_range z ≡ true)

below_top : (n : ℕ) (b : Bool) → (b ≡ false → n ≤ top) → Timed (cond b (pos top) (pos n))
unfolding less_than in_range
below_top n true h = (refl, refl)
below_top n false h = (le-ltb n 0 (omega arith), abs-range (pos n) (h refl))

grown-timed : (z : ℤ) → Timed z → Timed (up_to_top (z +ℤ step))
unfolding less_than millis_of
grown-timed (pos n) h = below_top (n + 4) (ltb top (n + 4)) (ltb-false top (n + 4))
grown-timed (negsuc n) h = clash (cc)

-- growing keeps a timer there
pub grown-keeps : (t : Timer) → Timed t.time.0 → Timed (grown_timer t).time.0
grown-keeps t h = by-run t.runs refl
  where
    by-run : (b : Bool) → t.runs ≡ b → Timed (grown_timer t).time.0
    by-run false e = rw (stopped t e) h
    by-run true e = rw (running t e) (grown-timed t.time.0 h)

-- and so does writing a value in range
pub written_keeps : (t : Timer) (v : ℤ) → Timed t.time.0 → in_range v ≡ true → Timed (written_timer t v).time.0
unfolding written_timer
written_keeps t v h e = by_sign (less_than v (pos 0)) refl
  where
    by_sign : (b : Bool) → less_than v (pos 0) ≡ b → Timed (cond b (timer t.time.0 false) (timer v true)).time.0
    by_sign true p = h
    by_sign false p = (p, e)
