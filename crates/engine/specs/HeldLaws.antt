-- A beat in place, over the lines read from its set and from a state that is held, is the beat of that state by value. Nothing is assumed.
use Rattle.std.specs.Prelude.{◌≡◌, refl, Bool, true, false, ◌&&◌, List, ℕ, ℤ, pos, length, drop, replicate, leb, ◌≤◌, Option, Some, None, is_some, unwrap_or}
use Rattle.std.proofs.Common.{le-leb, sym, ◌∙◌, drop_at}
use Rattle.std.proofs.Math.Path.{ap}
use Rattle.couplers.specs.declared.reading.Reading.{Reading}
use Rattle.tokens.specs.Descent.{Answer, good, stop}
use Rattle.engine.specs.declared.set.Lines.{Lines}
use Rattle.engine.specs.declared.one_beat.BeatCode.{BeatCode}
use Rattle.engine.specs.declared.one_beat.Beaten.{Beaten}
use Rattle.engine.specs.declared.state.State.{State}
use Rattle.working.specs.Variables.{input_count}
use Rattle.engine.specs.Set.{no_lines, sound_lines, lines_of, lines_of}
use Rattle.values.specs.Choice.{chosen}
use Rattle.tokens.specs.Token.{max_lines}
use Rattle.engine.specs.SetCountLaws.{sound-count}
use Rattle.engine.specs.Sound.{state_sound, is_sound}
use Rattle.engine.specs.Cells.{spread_cells}
use Rattle.engine.specs.Turn.{Turned}
use Rattle.engine.specs.Beat.{buffered, Given, beat_begun, beat_ended, beat_where, sound_over, beat_over, beat_known, whole_beat, turned_answer, beat_answer, beat_buffer}
use Rattle.engine.specs.declared.held.Held.{Held}
use Rattle.engine.specs.Held.{few_lines, held_of, state_held, kept_held, turned_code, held_after, LeavesBeat}

-- ---- lines that were read

beat-by-lines : (s : List ℕ) (st : State) (g : Given) → whole_beat s st g ≡ beat_over s (sound_lines s) st g
unfolding whole_beat beat_over is_sound
beat-by-lines s st g = refl

-- where it is known whether they and the state are sound
pub known-is-beat : (s : List ℕ) (ls : Option Lines) (st : State) (g : Given) {known : Bool} → known ≡ sound_over ls st → beat_known known s ls st g ≡ beat_over s ls st g
unfolding beat_known beat_over
known-is-beat s ls st g e = rw e (go (is_some ls))
  where
    go : (b : Bool) →
        let l : Lines = unwrap_or ls no_lines in
        beat_where (b && (b && state_sound l.count st)) s l st g ≡ beat_where (b && state_sound l.count st) s l st g
    go true = refl
    go false = refl

-- the lines of a set are no more than it may have
pub few-sound : (s : List ℕ) → few_lines (sound_lines s) ≡ sound_lines s
few-sound s = go (sound_lines s) (sound-count s)
  where
    go : (o : Option Lines) → (unwrap_or o no_lines).count ≤ max_lines → few_lines o ≡ o
    go (Some l) h = chosen (leb l.count max_lines) (Some l) None (le-leb l.count max_lines h)
    go None h = refl

-- over the lines read from the set
pub beat-over-lines : (s : List ℕ) (st : State) (g : Given) {lines : Option Lines} {x : State} → lines ≡ sound_lines s → x ≡ st → beat_over s (few_lines lines) x g ≡ whole_beat s st g
beat-over-lines s st g p q = rw (p, q, few-sound s) (sym (beat-by-lines s st g))

pub sound-by-lines : (s : List ℕ) (st : State) {lines : Option Lines} → lines ≡ sound_lines s → sound_over (few_lines lines) st ≡ is_sound s st
unfolding is_sound
sound-by-lines s st p = rw (p, few-sound s)

-- where it is known whether the set and the state are sound
pub known-over-lines : (s : List ℕ) (st : State) (g : Given) {lines : Option Lines} {known : Bool} → lines ≡ sound_lines s → known ≡ is_sound s st → beat_known known s (few_lines lines) st g ≡ whole_beat s st g
known-over-lines s st g {lines} p e = known-is-beat s (few_lines lines) st g (e ∙ sym (sound-by-lines s st p)) ∙ beat-over-lines s st g p refl

-- of the buffer a beat looks at the size only
pub beat-any-buffer : (s : List ℕ) (st : State) (automatic : Bool) (word : ℕ) (readings : List Reading) (lent : List ℤ) (b c : List ℕ) → length b ≡ length c →
    whole_beat s st (record { automatic = automatic; word = word; readings = readings; lent = lent; buffer = b }) ≡ whole_beat s st (record { automatic = automatic; word = word; readings = readings; lent = lent; buffer = c })
unfolding whole_beat beat_begun
beat-any-buffer s st automatic word readings lent b c e = go (is_sound s st)
  where
    go : (sound : Bool) → beat_where sound s (lines_of s) st (record { automatic = automatic; word = word; readings = readings; lent = lent; buffer = b }) ≡ beat_where sound s (lines_of s) st (record { automatic = automatic; word = word; readings = readings; lent = lent; buffer = c })
    go true = rw (e, beat_where)
    go false = refl

-- ---- a state that is held

cells-back : (c : List ℤ) → drop input_count (spread_cells c) ≡ c
unfolding spread_cells
cells-back c = drop_at (replicate input_count (pos 0)) c input_count refl

-- is the state that it was made from
pub state-back : (st : State) → state_held (held_of st) ≡ st
state-back st = ap (λ (x : List ℤ). record { r = st.r; cells = x; runs = st.runs; channels = st.channels; locked = st.locked; cancelled = st.cancelled; memory = st.memory; acts = st.acts }) (cells-back st.cells)

-- what a beat in place that comes to the beat of its state leaves is what that beat answers
pub left-beat : (s : List ℕ) (h : Held) (g : Given) {y : Answer Turned} → y ≡ whole_beat s (state_held h) g → {x : BeatCode} {i : Held} {c : List ℕ} → LeavesBeat y (kept_held h g.readings) h g.buffer x i c →
    (◌≡◌ {A = Beaten} (record { code = x.code; orders = x.orders; acted = x.acted; state = state_held i }) (beat_answer s (state_held h) g)) × (c ≡ beat_buffer s (state_held h) g)
unfolding beat_answer beat_buffer beat_ended
left-beat s h g {y} p l = rw (l.value, l.state_after, l.orders_after, ← p) (go y)
  where
    go : (y : Answer Turned) →
        (◌≡◌ {A = Beaten} (record { code = (turned_code y).code; orders = (turned_code y).orders; acted = (turned_code y).acted; state = state_held (held_after h (kept_held h g.readings) y) }) (turned_answer (state_held h) (kept_held h g.readings) y)) × (buffered g.buffer y ≡ buffered g.buffer y)
    go (good t) = (refl, refl)
    go (stop k) = (refl, refl)
