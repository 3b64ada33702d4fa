-- Laws of the writes of a beat: the variables of a beat under way are sound, and each write of a value in range that the check allows keeps them so. Nothing is assumed.
use Rattle.std.specs.Prelude.{◌≡◌, refl, Bool, true, false, cond, ◌||◌, ◌⊎◌, List, ℕ, ◌+◌, ◌-◌, min, ◌≤◌, ◌<◌, eqb, leb, ℤ, pos, length, set, drop, Result, Ok, Err}
use Rattle.std.proofs.Math.Path.{sym, ap}
use Rattle.std.proofs.Common.{◌∙◌, inl, inr, length-drop, length-set, length-take-le, get_or-drop}
use native.Mathlib.Omega.{arith}
use Rattle.std.proofs.Math.ListN.{get_or}
use Rattle.std.proofs.lemmas.List.{drop-set-add}
use borrow.Author.Tests.{eqb-true, eqb-false, leb-true, ltb-true}
use Rattle.values.specs.Codes.{outside, read_only, code_of}
use Rattle.values.specs.Choice.{either, if_not, either-cond, both}
use Rattle.values.specs.Value.{unit, in_range, equal_to, nearest_units, marker_of, output_of}
use Rattle.values.specs.ValueLaws.{abs-range, output-either, output-same}
use Rattle.values.specs.MarkerLaws.{marker-in-range, marker-ranged, marker-whole}
use Rattle.values.specs.Time.{timer}
use Rattle.values.specs.TimeLaws.{written_keeps}
use Rattle.values.specs.Fifo.{places, Unused, change_of, count_after, fits, append_answer, appended, remove_answer, removed, empty_answer, emptied}
use Rattle.values.specs.FifoLaws.{fits-holds, PlacesRanged, append-length, append-count, append-unused, append-ranged, remove-length, remove-count, remove-unused, remove-ranged, change-value, removed-in-range, empty-length, empty-count, empty-unused, empty-ranged, set-each, zero-in-range}
use Rattle.values.specs.Numbers.{clash}
use Rattle.values.specs.declared.codes.Alarm.{Alarm}
use Rattle.values.specs.declared.codes.Alarm.TheVariants.{NotAllowed, Unsound}
use Rattle.values.specs.declared.fifo.Moved.{Moved}
use Rattle.tokens.specs.Token.{OUT, MARKER, PARAM, R, TIMER, FIFO1, is_fifo}
use Rattle.tokens.specs.Index.{first_index, last_index, is_inside}
use Rattle.working.specs.Variables.{fifos, run_at, r_count, marker_at, param_at, timer_at, count_at, state_cells, input_count, cell_count, cell_of, fifo_of, run, as_count, count_in, beat_count}
use Rattle.tokens.specs.SingleFault.{lower, unless, is_writable, write_fault}
use Rattle.working.specs.Operators.{from_worked}
use Rattle.engine.specs.Sound.{is_cell, is_output}
use Rattle.engine.specs.declared.write.Change.TheVariants.{Append, Remove, Empty}
use Rattle.engine.specs.declared.write.Vars.{Vars}
use Rattle.engine.specs.Write.{Changed, Celled, with_run, moved, write_timer, change_answer, changed, change_fifo, write_fifo, put_cell, write_cell, write_inside, write_to}
use Rattle.tokens.specs.IndexLaws.{last-inside}
use Rattle.soundness.specs.GoodAnswers.{Not22, Holds, holds_then}
use Rattle.soundness.specs.CellSoundLaws.{cell-ranged, timer-cell, count-cell, right-output, right-marker, right-parameter, right-timer, CellsSound, run-ranged, replaced-length, r-keeps, cell-keeps, fifo-keeps}

-- ---- faults

-- no fault is lower than none: both are none
pub lower-zero : (a b : ℕ) → lower a b ≡ 0 → (a ≡ 0) × (b ≡ 0)
unfolding lower
lower-zero a b = by_tests_lem (eqb a 0) (eqb b 0) refl refl
  where
    by_tests_lem : (p q : Bool) → eqb a 0 ≡ p → eqb b 0 ≡ q → cond p b (cond q a (min a b)) ≡ 0 → (a ≡ 0) × (b ≡ 0)
    by_tests_lem true q e f h = (eqb-true a 0 e, h)
    by_tests_lem false true e f h = absurd (eqb-false a 0 e h)
    by_tests_lem false false e f h = let g = eqb-false a 0 e in let k = eqb-false b 0 f in absurd (omega (arith, g, k))

-- no fault: the test holds
pub unless-zero : (b : Bool) (k : ℕ) → unless b k ≡ 0 → 1 ≤ k → b ≡ true
unless-zero true k h l = refl
unless-zero false k h l = absurd (omega arith)

-- ---- the variables of a beat

-- the places of R; the cells of a beat, all in range; and from the inputs on, those of a sound state
pub record BeatSound (r c : List ℤ) : Type 0 where
  pub long : length r ≡ r_count
  pub sized : length c ≡ cell_count
  pub ranged : PlacesRanged c
  pub state : CellsSound r (drop input_count c)

-- so of the variables in one record
abbrev pub VarsSound : Vars → Type 0
VarsSound x = BeatSound x.r x.cells

module _ (r c : List ℤ) (h : BeatSound r c) where
  -- a value in range is written to R below the FIFOs
  pub beat-r : (i : ℕ) (v : ℤ) → i < run_at 0 → in_range v ≡ true → BeatSound (set r i v) c
  beat-r i v l e = record { long = length-set r i v ∙ h.long; sized = h.sized; ranged = h.ranged; state = r-keeps r (drop input_count c) h.state i v l e }

  -- a cell below the counts is written with a value that is right there
  pub beat-cell : (at j : ℕ) (v : ℤ) → at ≡ input_count + j → j < count_at → is_cell j v ≡ true → BeatSound r (set c at v)
  beat-cell at j v q l e = record {
    long = h.long;
    sized = length-set c at v ∙ h.sized;
    ranged = set-each (λ i z. in_range z ≡ true) c at v (pos 0) (cell-ranged j v e) h.ranged;
    state = rw (q, drop-set-add input_count c j v) (cell-keeps r (drop input_count c) h.state j v l e);
  }

  -- a state's cell, found among the beat's
  pub beat-place : (at j : ℕ) → at ≡ input_count + j → is_cell j (get_or c at (pos 0)) ≡ true
  beat-place at j q = rw (q, ← get_or-drop input_count c j (pos 0)) (h.state.right j)

-- ---- FIFOs

-- an answer that is no refusal with 22
abbrev CalmMove : Result Moved Alarm → Type 0
CalmMove (Ok m) = Unit {0}
CalmMove (Err a) = Not22 (code_of a)

-- a change of a FIFO with the count n that gave `answer` and left the places ys
record Changes (n : ℕ) (ys : List ℤ) (answer : Result Moved Alarm) : Type 0 where
  long : length ys ≡ places
  ranged : PlacesRanged ys
  unused : Unused ys (count_after answer n)
  few : count_after answer n ≤ places
  done : (v : ℤ) (k : ℕ) → answer ≡ change_of v k → in_range v ≡ true
  calm : CalmMove answer

fit-done : (b : Bool) (m : Result Moved Alarm) (v : ℤ) (k : ℕ) → cond b m (Err Unsound) ≡ change_of v k → m ≡ change_of v k
fit-done true m v k e = e
fit-done false m v k e = clash (cc)

done-value : (b : Bool) (a : Alarm) (u v : ℤ) (j k : ℕ) → cond b (Err a) (change_of u j) ≡ change_of v k → u ≡ v
done-value true a u v j k e = clash (cc)
done-value false a u v j k e = change-value e

done-zero : (b : Bool) (a : Alarm) (u v : ℤ) (j k : ℕ) → cond b (change_of u j) (Err a) ≡ change_of v k → u ≡ v
done-zero true a u v j k e = change-value e
done-zero false a u v j k e = clash (cc)

module _ (xs : List ℤ) (n : ℕ) (s : length xs ≡ places) (p : PlacesRanged xs) (u : Unused xs n) (l : n ≤ places) where
  append-changes : (v : ℤ) → in_range v ≡ true → Changes n (appended xs n v) (append_answer xs n v)
  unfolding append_answer
  append-changes v e = record {
    long = append-length xs n v ∙ s;
    ranged = append-ranged xs n v p e;
    unused = append-unused xs n v u;
    few = append-count xs n v l;
    done = λ z k q. rw (← done-value (eqb n places) _ v z _ k (fit-done (fits (length xs) n) _ z k q)) e;
    calm = rw (fits-holds xs n s l) (either-cond CalmMove (eqb n places) _ _ (λ q. omega arith) tt);
  }

  remove-changes : Changes n (removed xs n) (remove_answer xs n)
  unfolding remove_answer
  remove-changes = record {
    long = remove-length xs n ∙ s;
    ranged = remove-ranged xs n p;
    unused = remove-unused xs n u;
    few = remove-count xs n l;
    done = λ z k q. removed-in-range xs n z k p q;
    calm = rw (fits-holds xs n s l) (either-cond CalmMove (eqb n 0) _ _ (λ q. omega arith) tt);
  }

  empty-changes : (v : ℤ) → Changes n (emptied xs n v) (empty_answer xs n v)
  unfolding empty_answer
  empty-changes v = record {
    long = empty-length xs n v ∙ s;
    ranged = empty-ranged xs n v p;
    unused = empty-unused xs n v u;
    few = empty-count xs n v l;
    done = λ z k q. rw (← done-zero (equal_to v (pos 0)) _ (pos 0) z _ k (fit-done (fits (length xs) n) _ z k q)) zero-in-range;
    calm = rw (fits-holds xs n s l) (either-cond CalmMove (equal_to v (pos 0)) _ _ tt (λ q. omega arith));
  }

-- what a changed FIFO leaves: sound variables, and a value in range
abbrev pub ChangedSound : Changed → Type 0
ChangedSound a = BeatSound a.r a.cells × (in_range a.value ≡ true)

module _ (r c : List ℤ) (w : ℕ) (h : BeatSound r c) (f : is_fifo w ≡ true) where
  fifo-rank : fifo_of w < fifos
  fifo-rank = let a = leb-true FIFO1 w (both (leb FIFO1 w) (leb w 42) f).0 in let b = leb-true w 42 (both (leb FIFO1 w) (leb w 42) f).1 in omega arith

  run_inside : run_at (fifo_of w) + places ≤ length r
  run_inside = omega (arith, fifo-rank, h.long)

  -- the FIFO has its sixteen places
  pub run_length : length (run r (fifo_of w)) ≡ places
  run_length = length-take-le places (drop (run_at (fifo_of w)) r) (omega (arith, length-drop (run_at (fifo_of w)) r, run_inside))

  count_same : beat_count c (fifo_of w) ≡ count_in (drop input_count c) (fifo_of w)
  unfolding beat_count
  count_same =
      let e : input_count + count_at + fifo_of w ≡ input_count + (count_at + fifo_of w) = omega arith in
      ap as_count (ap (λ (i : ℕ). get_or c i (pos 0)) e ∙ sym (get_or-drop input_count c (count_at + fifo_of w) (pos 0)))

  run-unused : Unused (run r (fifo_of w)) (beat_count c (fifo_of w))
  run-unused = rw count_same (h.state.unused (fifo_of w) fifo-rank)

  -- a count of at most sixteen
  pub count-few : beat_count c (fifo_of w) ≤ places
  count-few = rw count_same (count-cell (count_at + fifo_of w) _ (omega arith) (h.state.right (count_at + fifo_of w)))

  moved_keeps : (ys : List ℤ) (answer : Result Moved Alarm) → Changes (beat_count c (fifo_of w)) ys answer → Holds ChangedSound (moved r c (fifo_of w) ys answer)
  moved_keeps ys (Ok m) e =
      let n = m.count in
      let q : input_count + count_at + fifo_of w ≡ input_count + (count_at + fifo_of w) = omega arith in
      let lc : length (drop input_count c) ≡ state_cells = omega (arith, length-drop input_count c, h.sized) in
      let kept : BeatSound (with_run r (fifo_of w) ys) (set c (input_count + count_at + fifo_of w) (pos n)) =
      record {
        long = replaced-length (fifo_of w) r ys run_inside e.long ∙ h.long;
        sized = length-set c _ _ ∙ h.sized;
        ranged = set-each (λ i z. in_range z ≡ true) c (input_count + count_at + fifo_of w) (pos n) (pos 0) (abs-range (pos n) (omega (arith, e.few))) h.ranged;
        state = rw (q, drop-set-add input_count c (count_at + fifo_of w) (pos n))
            (fifo-keeps r (drop input_count c) (fifo_of w) ys n fifo-rank lc run_inside e.long e.few e.unused h.state e.ranged);
      } in
      (kept, e.done m.value m.count refl)
  moved_keeps ys (Err a) e = e.calm

  -- a value in range is appended
  pub append-keeps : (v : ℤ) → in_range v ≡ true → Holds ChangedSound (change_fifo r c (Append v) w)
  unfolding change_fifo change_answer changed
  append-keeps v e = moved_keeps _ _ (append-changes (run r (fifo_of w)) (beat_count c (fifo_of w)) run_length (run-ranged r (fifo_of w) h.state.ranged) run-unused count-few v e)

  -- the oldest is removed
  pub remove-keeps : Holds ChangedSound (change_fifo r c Remove w)
  unfolding change_fifo change_answer changed
  remove-keeps = moved_keeps _ _ (remove-changes (run r (fifo_of w)) (beat_count c (fifo_of w)) run_length (run-ranged r (fifo_of w) h.state.ranged) run-unused count-few)

  -- all is removed
  pub empty-keeps : (v : ℤ) → Holds ChangedSound (change_fifo r c (Empty v) w)
  unfolding change_fifo change_answer changed
  empty-keeps v = moved_keeps _ _ (empty-changes (run r (fifo_of w)) (beat_count c (fifo_of w)) run_length (run-ranged r (fifo_of w) h.state.ranged) run-unused count-few v)

-- a FIFO is written at [0] and [4]
fifo-writable : (w i : ℕ) → is_fifo w ≡ true → is_writable w i ≡ true → (eqb i 0 || eqb i 4) ≡ true
unfolding is_writable
fifo-writable w i f e = rw f at e

fifo-write-keeps : (x : Vars) (w i : ℕ) (v : ℤ) → VarsSound x → is_fifo w ≡ true → is_writable w i ≡ true → in_range v ≡ true → Holds VarsSound (write_fifo x w i v)
unfolding write_fifo
fifo-write-keeps x w i v h f m e =
    either (Holds VarsSound) (eqb i 0)
    (λ p. holds_then ChangedSound VarsSound (change_fifo x.r x.cells (Append v) w) _ (append-keeps x.r x.cells w h f v e) (λ a d. d.0)) λ p.
    either (Holds VarsSound) (eqb i 4)
    (λ q. holds_then ChangedSound VarsSound (change_fifo x.r x.cells (Empty v) w) _ (empty-keeps x.r x.cells w h f v) (λ a d. d.0)) λ q.
    let z = rw (p, q) at (fifo-writable w i f m) in
    clash (cc)

-- ---- outputs, markers, parameters and timers

-- an index inside its range is not below its first
inside-low : (w i : ℕ) → is_inside w i ≡ true → first_index w ≤ i
unfolding is_inside
inside-low w i h = leb-true (first_index w) i (both (leb (first_index w) i) (leb i (last_index w)) h).0

-- what working gave: what is true of its value, and its alarm is not 22
pub worked-holds : (P : ℤ → Type 0) (w : Result ℤ Alarm) → ((u : ℤ) → w ≡ Ok u → P u) → ((a : Alarm) → w ≡ Err a → Not22 (code_of a)) → Holds P (from_worked w)
worked-holds P (Ok u) h g = h u refl
worked-holds P (Err k) h g = g k refl

-- the alarm of what takes only some values
pub taken-alarm : (b : Bool) (v : ℤ) (a k : Alarm) → cond b (Ok v) (Err a) ≡ Err k → a ≡ k
taken-alarm true v a k e = clash (cc)
taken-alarm false v a k e = cc

output-alarm : (v : ℤ) (a : Alarm) → output_of v ≡ Err a → Not22 (code_of a)
unfolding output_of
output-alarm v a e z = let q = taken-alarm (equal_to v (pos 0) || equal_to v (pos unit)) v NotAllowed a e in let y = rw (← q) at z in omega arith

output-right : (v : ℤ) → (v ≡ pos 0) ⊎ (v ≡ pos unit) → is_output v ≡ true
unfolding output_of equal_to
output-right v (inl e) = rw e
output-right v (inr e) = rw e

-- the check allows no other cell to be written
cell-writable : (w i : ℕ) → is_fifo w ≡ false → eqb w R ≡ false → is_writable w i ≡ true → (OUT ≤ w) × (w ≤ TIMER)
unfolding is_writable
cell-writable w i f n e = let q = rw (f, n) at e in (leb-true OUT w (both (leb OUT w) (leb w TIMER) q).0, leb-true w TIMER (both (leb OUT w) (leb w TIMER) q).1)

-- a cell that was written leaves sound variables
abbrev pub CellSound : List ℤ → Celled → Type 0
CellSound r a = BeatSound r a.cells

module _ (r c : List ℤ) (runs : List Bool) (h : BeatSound r c) (i : ℕ) (v : ℤ) (e : in_range v ≡ true) where
  marker-keeps : i ≤ last_index MARKER → Holds (CellSound r) (put_cell c runs (cell_of MARKER i) (marker_of v))
  unfolding cell_of
  marker-keeps l =
      let t = marker-in-range v e in
      rw t
      (beat-cell r c h _ (marker_at + i) (nearest_units v) (omega arith) (omega arith) (right-marker (marker_at + i) _ (omega arith) (omega arith) (marker-ranged v _ t) (marker-whole v _ t)))

  parameter-keeps : i ≤ last_index PARAM → BeatSound r (set c (cell_of PARAM i) v)
  unfolding cell_of
  parameter-keeps l = beat-cell r c h _ (param_at + i) v (omega arith) (omega arith) (right-parameter (param_at + i) v (omega arith) (omega arith) e)

  output-keeps : first_index OUT ≤ i → i ≤ last_index OUT → Holds (CellSound r) (put_cell c runs (cell_of OUT i) (output_of v))
  unfolding cell_of
  output-keeps l m =
      holds_then (λ u. (output_of v ≡ Ok u)) (CellSound r) (from_worked (output_of v)) _ (worked-holds _ (output_of v) (λ u g. g) (output-alarm v)) λ u g.
      beat-cell r c h _ (i - 1) u (omega arith) (omega arith) (right-output (i - 1) u (omega arith) (rw (output-same v u g) e) (output-right u (output-either v u g)))

  timer-keeps : i ≤ last_index TIMER → CellSound r (write_timer c runs (cell_of TIMER i) i v)
  unfolding cell_of
  timer-keeps l =
      beat-cell r c h _ (timer_at + i) _ (omega arith) (omega arith)
      (right-timer (timer_at + i) _ (omega arith) (omega arith)
      (written_keeps (timer (get_or c (input_count + timer_at + (i - 0)) (pos 0)) (get_or runs i false)) v
      (timer-cell (timer_at + i) _ (omega arith) (omega arith) (beat-place r c h _ (timer_at + i) (omega arith))) e))

  cell-write-keeps : (w : ℕ) → is_inside w i ≡ true → is_fifo w ≡ false → eqb w R ≡ false → is_writable w i ≡ true → Holds (CellSound r) (write_cell c runs w i v)
  unfolding write_cell
  cell-write-keeps w l f n z =
      either (Holds (CellSound r)) (eqb w MARKER) (λ p. rw (eqb-true w MARKER p) (marker-keeps (rw (eqb-true w MARKER p) at (last-inside w i l)))) λ p1.
      either (Holds (CellSound r)) (eqb w PARAM) (λ p. rw (eqb-true w PARAM p) (parameter-keeps (rw (eqb-true w PARAM p) at (last-inside w i l)))) λ p2.
      either (Holds (CellSound r)) (eqb w OUT)
      (λ p. rw (eqb-true w OUT p) (output-keeps (rw (eqb-true w OUT p) at (inside-low w i l)) (rw (eqb-true w OUT p) at (last-inside w i l)))) λ p3.
      either (Holds (CellSound r)) (eqb w TIMER) (λ p. rw (eqb-true w TIMER p) (timer-keeps (rw (eqb-true w TIMER p) at (last-inside w i l)))) λ p4.
      let y = cell-writable w i f n z in
      absurd (omega (arith, y.0, y.1, eqb-false w MARKER p1, eqb-false w PARAM p2, eqb-false w OUT p3, eqb-false w TIMER p4, eqb-false w R n))

-- ---- any variable

writable-low : (i : ℕ) → is_writable R i ≡ true → i < run_at 0
unfolding is_writable
writable-low i h = ltb-true i (run_at 0) h

-- a value in range, written where the check allows it, keeps the variables sound
pub write_keeps : (x : Vars) (w i : ℕ) (v : ℤ) → VarsSound x → in_range v ≡ true → write_fault w i ≡ 0 → Holds VarsSound (write_to x w i v)
unfolding write_to write_inside write_fault
write_keeps x w i v h e f =
    let g = lower-zero (unless (is_inside w i) outside) (unless (is_writable w i) read_only) f in
    let m = unless-zero (is_writable w i) read_only g.1 (omega arith) in
    let z = unless-zero (is_inside w i) outside g.0 (omega arith) in
    if_not (Holds VarsSound) (is_inside w i) (λ l. clash (cc)) λ l.
    either (Holds VarsSound) (eqb w R) (λ p. beat-r x.r x.cells h i v (writable-low i (rw (eqb-true w R p) at m)) e) λ p.
    either (Holds VarsSound) (is_fifo w) (λ q. fifo-write-keeps x w i v h q m e) λ q.
    holds_then (CellSound x.r) VarsSound (write_cell x.cells x.runs w i v) _ (cell-write-keeps x.r x.cells x.runs h i v e w l q p m) (λ a d. d)
