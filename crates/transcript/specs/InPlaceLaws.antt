-- What the work of a session in place keeps true. Assumes nothing.
use Rattle.std.specs.Prelude.{◌≡◌, List, ℕ, ◌≤◌, length}
use Rattle.tokens.specs.Token.{set_size}
use Rattle.working.specs.Variables.{r_count, state_cells}
use Rattle.engine.specs.declared.state.State.{State}
use Rattle.engine.specs.Held.{state_held}
use Rattle.engine.specs.Set.{sound_lines}
use Rattle.engine.specs.Sound.{is_sound}
use Rattle.transcript.specs.declared.in_place.Workplace.{Workplace}
use Rattle.transcript.specs.declared.intake.Arrival.TheVariants.{Nothing}
use Rattle.transcript.specs.declared.intake.Arrived.{Arrived}
use Rattle.transcript.specs.Intake.{size_in}
use Rattle.transcript.specs.declared.totals.Counts.{Counts}
use Rattle.transcript.specs.SetText.{kept_size}
use Rattle.transcript.specs.TotalsLaws.{FitCounts}

-- what a line's end brought may be worked: its text is kept, and a line may be counted
pub record MayCome (a : Arrived) (n : Counts) : Type 0 where
  pub kept : size_in a.arrival ≤ kept_size
  pub counts : (a.arrival ≡ Nothing → ⊥) → FitCounts n

-- a set and a state of their sizes
abbrev pub Sized : List ℕ → State → Type 0
Sized s x = (length s ≤ set_size) × ((length x.r ≡ r_count) × (length x.cells ≡ state_cells))

-- what is kept beside the set s and the state: the lines that were read, and whether both are sound
pub record KeptBeside (s : List ℕ) (w : Workplace) : Type 0 where
  pub read : w.lines ≡ sound_lines s
  pub told : w.known ≡ is_sound s (state_held w.held)
  pub sized : Sized s (state_held w.held)

-- what is kept beside them stays
pub record SameBeside (w x : Workplace) : Type 0 where
  pub lines : x.lines ≡ w.lines
  pub known : x.known ≡ w.known
