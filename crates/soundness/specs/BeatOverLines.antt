-- A BEAT IN PLACE OVER THE LINES READ FROM A SET IS THE BEAT OF THAT SET: the answer, the state that is left, the buffer; so is the beat whose caller says whether set and state are sound, where what is said is true. Assumes nothing.
use Rattle.std.specs.Prelude.{◌≡◌, Bool, List, ℕ}
use Rattle.std.proofs.Math.Path.{refl}
use Rattle.tokens.specs.Descent.{Answer}
use Rattle.couplers.specs.declared.channel.Channel.{Channel}
use Rattle.engine.specs.declared.held.Held.{Held}
use Rattle.engine.specs.declared.one_beat.Beaten.{Beaten}
use Rattle.engine.specs.Set.{sound_lines}
use Rattle.engine.specs.Sound.{is_sound}
use Rattle.engine.specs.Turn.{Turned}
use Rattle.engine.specs.Beat.{buffered, Given, beat_answer, beat_buffer}
use Rattle.engine.specs.Held.{few_lines, state_held, kept_held, beat_held, known_held, turned_code, held_after}
use Rattle.engine.specs.HeldLaws.{beat-over-lines, known-over-lines, left-beat}

-- what a beat in place answered, and the state that it left
abbrev pub answered_in : Held → List Channel → Answer Turned → Beaten
answered_in h kept y = let x = turned_code y in record { code = x.code; orders = x.orders; acted = x.acted; state = state_held (held_after h kept y) }

module _ (s : List ℕ) (h : Held) (g : Given) where
  abbrev over_lines : Answer Turned
  over_lines = beat_held s (few_lines (sound_lines s)) h g

  pub beat-over-is-beat : (answered_in h (kept_held h g.readings) over_lines ≡ beat_answer s (state_held h) g) × (buffered g.buffer over_lines ≡ beat_buffer s (state_held h) g)
  beat-over-is-beat = left-beat s h g (beat-over-lines s (state_held h) g refl refl) (record { value = refl; state_after = refl; orders_after = refl })

  module _ {known : Bool} (e : known ≡ is_sound s (state_held h)) where
    abbrev over_known : Answer Turned
    over_known = known_held known s (few_lines (sound_lines s)) h g

    pub beat-known-is-beat : (answered_in h (kept_held h g.readings) over_known ≡ beat_answer s (state_held h) g) × (buffered g.buffer over_known ≡ beat_buffer s (state_held h) g)
    beat-known-is-beat = left-beat s h g (known-over-lines s (state_held h) g refl e) (record { value = refl; state_after = refl; orders_after = refl })
