-- Any two results that an engine's promise allows are equal: for each public call, its answer and what is lent. Assumes nothing.
use Rattle.std.specs.Prelude.{◌≡◌, Bool, List, ℕ, Result}
use Rattle.values.specs.Unique.{unique}
use Rattle.engine.specs.declared.state.State.{State}
use Rattle.engine.specs.declared.one_beat.Beaten.{Beaten}
use Rattle.engine.specs.declared.calls.Called.{Called}
use Rattle.engine.specs.Beat.{Given, beat_answer, beat_buffer}
use Rattle.engine.specs.Calls.{lock_call, unlock_call, cancel_call, program_end_call, control_reset_call}
use Rattle.engine.specs.declared.status.Status.{Status}
use Rattle.engine.specs.Sound.{is_sound}
use Rattle.engine.specs.Status.{status_of}

module _ (s : List ℕ) (st : State) where
  -- a beat, with the order buffer at exit
  pub beat-unique : (g : Given) (x y : Beaten) (c d : List ℕ) →
      x ≡ beat_answer s st g → c ≡ beat_buffer s st g →
      y ≡ beat_answer s st g → d ≡ beat_buffer s st g → (x ≡ y) × (c ≡ d)
  beat-unique g x y c d p q r t = (unique p r, unique q t)

  pub lock-unique : (n : ℕ) (x y : Called) → x ≡ lock_call s st n → y ≡ lock_call s st n → x ≡ y
  lock-unique n x y p q = unique p q

  pub unlock-unique : (n : ℕ) (x y : Called) → x ≡ unlock_call s st n → y ≡ unlock_call s st n → x ≡ y
  unlock-unique n x y p q = unique p q

  pub cancel-unique : (n : ℕ) (x y : Called) → x ≡ cancel_call s st n → y ≡ cancel_call s st n → x ≡ y
  cancel-unique n x y p q = unique p q

  pub program-end-unique : (x y : Called) → x ≡ program_end_call s st → y ≡ program_end_call s st → x ≡ y
  program-end-unique x y p q = unique p q

  pub control-reset-unique : (x y : Called) → x ≡ control_reset_call s st → y ≡ control_reset_call s st → x ≡ y
  control-reset-unique x y p q = unique p q

  pub status-unique : (x y : Result Status ℕ) → x ≡ status_of s st → y ≡ status_of s st → x ≡ y
  status-unique x y p q = unique p q

  pub sound-unique : (x y : Bool) → x ≡ is_sound s st → y ≡ is_sound s st → x ≡ y
  sound-unique x y p q = unique p q
