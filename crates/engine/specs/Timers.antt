-- The timers among the cells of a state, grown at the start of a beat (document 01, "Values and time"). Definitions only.
use Rattle.std.specs.Prelude.{Bool, false, List, ℕ, zero, suc, ◌+◌, ℤ, pos, get_or, set}
use Rattle.values.specs.Time.{timer, grown_timer}
use Rattle.working.specs.Variables.{timer_at}

-- a running timer grows at the start of each beat, before any turn: the first n timers have grown
unfoldable pub grown_cells : List Bool → List ℤ → ℕ → List ℤ
grown_cells runs c zero = c
grown_cells runs c (suc n) =
    set (grown_cells runs c n) (timer_at + n) (grown_timer (timer (get_or (grown_cells runs c n) (timer_at + n) (pos 0)) (get_or runs n false))).time.0
