-- Laws of sound states, place by place: the computed tests of Sound say it of every cell, every FIFO and every line; and which changes keep it. Nothing is assumed.
use Rattle.std.specs.Prelude.{◌≡◌, refl, Bool, true, false, cond, not, ◌&&◌, List, [], ◌∷◌, ◌++◌, ℕ, zero, suc, ◌+◌, ◌-◌, ◌≤◌, ◌<◌, ltb, ℤ, pos, length, get_or, set, take, drop, replicate, is_some}
use Rattle.std.proofs.Common.{sym, ap, ◌∙◌, arith, length-append, length-take, length-drop, length-take-le, drop_at, drop-set-lt, get_or-take, get_or-drop, get_or-append-add, get_or-set_same, get_or-set_other, lt-ltb, le-ltb, le-leb, leb-true}
use Rattle.std.proofs.Math.Decide.{ℕ_discrete, dec_lt}
use Rattle.std.proofs.Math.ListN.{get_or-append, get_or-eq_default}
use Rattle.std.proofs.Math.Seq.{set_out}
use Rattle.std.proofs.lemmas.Bool.{not-true}
use Rattle.values.specs.Choice.{both, and-true}
use Rattle.values.specs.Value.{in_range, less_than, equal_to, whole_units, output_of}
use Rattle.values.specs.ValueLaws.{abs-range, equal-same, same-equal}
use Rattle.values.specs.TimeLaws.{Timed}
use Rattle.values.specs.Fifo.{places, Unused}
use Rattle.values.specs.FifoLaws.{PlacesRanged, set-each, same-each, zero-in-range}
use Rattle.values.specs.Numbers.{clash}
use Rattle.tokens.specs.Token.{max_lines}
use Rattle.working.specs.Variables.{fifos, run_at, marker_at, param_at, timer_at, count_at, state_cells, run, as_count, count_in}
use Rattle.engine.specs.declared.state.State.{State}
use Rattle.engine.specs.Set.{sound_lines, lines_of}
use Rattle.couplers.specs.Channel.{channel_count, fresh_channels, is_channel, are_channels}
use Rattle.engine.specs.State.{power_on}
use Rattle.engine.specs.ActCount.{is_act_count, are_act_counts}
use Rattle.engine.specs.Sound.{all_ranged, is_output, is_cell, are_cells, all_zero, is_fifo_sound, are_fifos, is_flag, are_flags, state_sound, is_sound}
use Rattle.engine.specs.Write.{with_run}

-- ---- lists, place by place

-- a place in the second of two lists
pub append-behind : {A : Type 0} (xs ys : List A) (i : ℕ) (d : A) → length xs ≤ i → get_or (xs ++ ys) i d ≡ get_or ys (i - length xs) d
append-behind xs ys i d l =
    let e : length xs + (i - length xs) ≡ i = omega arith in
    rw e at (get_or-append-add xs ys (i - length xs) d)

-- ---- every value within range

-- the test says it of every place
pub ranged-each : (xs : List ℤ) → all_ranged xs ≡ true → PlacesRanged xs
unfolding all_ranged
ranged-each [] h i = zero-in-range
ranged-each (v ∷ vs) h zero = (both (in_range v) (all_ranged vs) h).0
ranged-each (v ∷ vs) h (suc i) = ranged-each vs (both (in_range v) (all_ranged vs) h).1 i

-- and every place makes the test true
pub each-ranged : (xs : List ℤ) → PlacesRanged xs → all_ranged xs ≡ true
unfolding all_ranged
each-ranged [] h = refl
each-ranged (v ∷ vs) h = and-true (h 0) (each-ranged vs (λ i. h (suc i)))

-- ---- every cell

by_kind : (a b c d : Bool) → cond a true (cond b true (cond c true (cond d true true))) ≡ true
by_kind true b c d = refl
by_kind false true c d = refl
by_kind false false true d = refl
by_kind false false false true = refl
by_kind false false false false = refl

-- 0 is right in every cell
pub zero-cell : (i : ℕ) → is_cell i (pos 0) ≡ true
unfolding is_cell in_range output_of whole_units equal_to less_than
zero-cell i = by_kind (ltb i marker_at) (ltb i param_at) (ltb i timer_at) (ltb i count_at)

cells-from : (xs : List ℤ) (j : ℕ) → are_cells xs j ≡ true → (i k : ℕ) → k ≡ j + i → is_cell k (get_or xs i (pos 0)) ≡ true
unfolding are_cells
cells-from [] j h i k e = zero-cell k
cells-from (v ∷ vs) j h zero k e = let q : k ≡ j = omega arith in rw q (both (is_cell j v) (are_cells vs (j + 1)) h).0
cells-from (v ∷ vs) j h (suc i) k e = cells-from vs (j + 1) (both (is_cell j v) (are_cells vs (j + 1)) h).1 i k (omega arith)

from-cells : (xs : List ℤ) (j : ℕ) → ((i k : ℕ) → k ≡ j + i → is_cell k (get_or xs i (pos 0)) ≡ true) → are_cells xs j ≡ true
unfolding are_cells
from-cells [] j h = refl
from-cells (v ∷ vs) j h = and-true (h 0 j (omega arith)) (from-cells vs (j + 1) (λ i k e. h (suc i) k (omega arith)))

-- every cell is right at its place
abbrev pub CellsRight : List ℤ → Type 0
CellsRight c = (i : ℕ) → is_cell i (get_or c i (pos 0)) ≡ true

-- the test says it of every cell
pub cells-each : (c : List ℤ) → are_cells c 0 ≡ true → CellsRight c
cells-each c h i = cells-from c 0 h i i (omega arith)

-- and every cell makes the test true
pub each-cells : (c : List ℤ) → CellsRight c → are_cells c 0 ≡ true
each-cells c h = from-cells c 0 (λ i k e. let q : k ≡ i = omega arith in rw q (h i))

-- what a right cell is: in range
pub cell-ranged : (i : ℕ) (v : ℤ) → is_cell i v ≡ true → in_range v ≡ true
unfolding is_cell
cell-ranged i v h = (both (in_range v) _ h).0

-- a timer's is a time
pub timer-cell : (i : ℕ) (v : ℤ) → timer_at ≤ i → i < count_at → is_cell i v ≡ true → Timed v
unfolding is_cell
timer-cell i v l m h =
    let e = rw (le-ltb i marker_at (omega arith), le-ltb i param_at (omega arith), le-ltb i timer_at l, lt-ltb i count_at m) at (both (in_range v) _ h).1 in
    (not-true (less_than v (pos 0)) e, (both (in_range v) _ h).0)

-- a count's is a count
pub count-cell : (i : ℕ) (v : ℤ) → count_at ≤ i → is_cell i v ≡ true → as_count v ≤ places
unfolding is_cell
count-cell i v l h =
    let e = rw (le-ltb i marker_at (omega arith), le-ltb i param_at (omega arith), le-ltb i timer_at (omega arith), le-ltb i count_at l) at (both (in_range v) _ h).1 in
    leb-true (as_count v) places e

-- and what is right in a cell: 0 or 1 in an output's
pub right-output : (i : ℕ) (v : ℤ) → i < marker_at → in_range v ≡ true → is_output v ≡ true → is_cell i v ≡ true
unfolding is_cell
right-output i v l r e = rw (r, lt-ltb i marker_at l) e

-- whole units in a marker's
pub right-marker : (i : ℕ) (v : ℤ) → marker_at ≤ i → i < param_at → in_range v ≡ true → whole_units v ≡ v → is_cell i v ≡ true
unfolding is_cell
right-marker i v l m r e = rw (r, le-ltb i marker_at l, lt-ltb i param_at m) (same-equal e)

-- any value in a parameter's
pub right-parameter : (i : ℕ) (v : ℤ) → param_at ≤ i → i < timer_at → in_range v ≡ true → is_cell i v ≡ true
unfolding is_cell
right-parameter i v l m r = rw (r, le-ltb i marker_at (omega arith), le-ltb i param_at l, lt-ltb i timer_at m)

-- a time in a timer's
pub right-timer : (i : ℕ) (v : ℤ) → timer_at ≤ i → i < count_at → Timed v → is_cell i v ≡ true
unfolding is_cell
right-timer i v l m t = rw (t.1, le-ltb i marker_at (omega arith), le-ltb i param_at (omega arith), le-ltb i timer_at l, lt-ltb i count_at m, t.0)

-- a count in a count's
pub right-count : (i : ℕ) (n : ℕ) → count_at ≤ i → n ≤ places → is_cell i (pos n) ≡ true
unfolding is_cell
right-count i n l h =
    rw (abs-range (pos n) (omega arith), le-ltb i marker_at (omega arith), le-ltb i param_at (omega arith), le-ltb i timer_at (omega arith), le-ltb i count_at l, le-leb n places h) (le-leb n places h)

-- ---- unused places of FIFOs

zero-each : (xs : List ℤ) → all_zero xs ≡ true → (i : ℕ) → get_or xs i (pos 0) ≡ pos 0
unfolding all_zero
zero-each [] h i = refl
zero-each (v ∷ vs) h zero = equal-same v (pos 0) (both (equal_to v (pos 0)) (all_zero vs) h).0
zero-each (v ∷ vs) h (suc i) = zero-each vs (both (equal_to v (pos 0)) (all_zero vs) h).1 i

each-zero : (xs : List ℤ) → ((i : ℕ) → get_or xs i (pos 0) ≡ pos 0) → all_zero xs ≡ true
unfolding all_zero
each-zero [] h = refl
each-zero (v ∷ vs) h = and-true (same-equal (h 0)) (each-zero vs (λ i. h (suc i)))

-- the test says it of every unused place
pub fifo-each : (r c : List ℤ) (k : ℕ) → is_fifo_sound r c k ≡ true → Unused (run r k) (count_in c k)
unfolding is_fifo_sound
fifo-each r c k h i l =
    let e : count_in c k + (i - count_in c k) ≡ i = omega arith in
    rw (get_or-drop, e) at (zero-each (drop (count_in c k) (run r k)) h (i - count_in c k))

-- and every unused place makes the test true
pub each-fifo : (r c : List ℤ) (k : ℕ) → Unused (run r k) (count_in c k) → is_fifo_sound r c k ≡ true
unfolding is_fifo_sound
each-fifo r c k h = each-zero (drop (count_in c k) (run r k)) (λ i. get_or-drop (count_in c k) (run r k) i (pos 0) ∙ h (count_in c k + i) (omega arith))

-- ---- a test of every rank

-- `all m j` asks m ranks from j on
module _ (one : ℕ → Bool) (all : ℕ → ℕ → Bool) (none : (j : ℕ) → all zero j ≡ true) (more : (m j : ℕ) → all (suc m) j ≡ one j && all m (j + 1)) where
  ranks-from : (m j : ℕ) → all m j ≡ true → (i k : ℕ) → i < m → k ≡ j + i → one k ≡ true
  ranks-from zero j h i k l e = absurd (omega arith)
  ranks-from (suc m) j h zero k l e = let q : k ≡ j = omega arith in rw q (both (one j) (all m (j + 1)) (sym (more m j) ∙ h)).0
  ranks-from (suc m) j h (suc i) k l e = ranks-from m (j + 1) (both (one j) (all m (j + 1)) (sym (more m j) ∙ h)).1 i k (omega arith) (omega arith)

  from-ranks : (m j : ℕ) → ((k : ℕ) → j ≤ k → k < j + m → one k ≡ true) → all m j ≡ true
  from-ranks zero j h = none j
  from-ranks (suc m) j h = more m j ∙ and-true (h j (omega arith) (omega arith)) (from-ranks m (j + 1) (λ k l n. h k (omega arith) (omega arith)))

-- ---- the flags of every line

-- cancelled lines without lock or memory, nothing for a rank that the set does not have: of rank k
abbrev flag_at : ℕ → List Bool → List Bool → List Bool → ℕ → Bool
flag_at count locked cancelled memory k = is_flag count k (get_or locked k false) (get_or cancelled k false) (get_or memory k false)

-- of every rank
abbrev pub FlagsRight : ℕ → List Bool → List Bool → List Bool → Type 0
FlagsRight count locked cancelled memory = (k : ℕ) → k < max_lines → flag_at count locked cancelled memory k ≡ true

-- the test says it of every rank
pub flags-each : (count : ℕ) (a b c : List Bool) → are_flags count a b c max_lines 0 ≡ true → FlagsRight count a b c
unfolding are_flags
flags-each count a b c h k l = ranks-from (flag_at count a b c) (are_flags count a b c) (λ j. refl) (λ m j. refl) max_lines 0 h k k l (omega arith)

-- and every rank makes the test true
pub each-flags : (count : ℕ) (a b c : List Bool) → FlagsRight count a b c → are_flags count a b c max_lines 0 ≡ true
unfolding are_flags
each-flags count a b c h = from-ranks (flag_at count a b c) (are_flags count a b c) (λ j. refl) (λ m j. refl) max_lines 0 (λ k l m. h k (omega arith))

-- ---- how often every line acted

-- at most the top, 0 for a rank that the set does not have
abbrev pub CountsRight : ℕ → List ℕ → Type 0
CountsRight count acts = (k : ℕ) → k < max_lines → is_act_count count k (get_or acts k 0) ≡ true

-- the test says it of every rank
pub counts_each : (count : ℕ) (acts : List ℕ) → are_act_counts count acts max_lines 0 ≡ true → CountsRight count acts
unfolding are_act_counts
counts_each count acts h k l = ranks-from (λ j. is_act_count count j (get_or acts j 0)) (are_act_counts count acts) (λ j. refl) (λ m j. refl) max_lines 0 h k k l (omega arith)

-- and every rank makes the test true
pub each_counts : (count : ℕ) (acts : List ℕ) → CountsRight count acts → are_act_counts count acts max_lines 0 ≡ true
unfolding are_act_counts
each_counts count acts h = from-ranks (λ j. is_act_count count j (get_or acts j 0)) (are_act_counts count acts) (λ j. refl) (λ m j. refl) max_lines 0 (λ k l m. h k (omega arith))

-- ---- a sound state

-- R and the cells of a sound state: every value in range, every cell right, every unused place of a FIFO 0
pub record CellsSound (r c : List ℤ) : Type 0 where
  pub ranged : PlacesRanged r
  pub right : CellsRight c
  pub unused : (k : ℕ) → k < fifos → Unused (run r k) (count_in c k)

-- a sound state
pub record StateRight (count : ℕ) (st : State) : Type 0 where
  pub cells : CellsSound st.r st.cells
  pub channels : are_channels st.channels channel_count ≡ true
  pub flags : FlagsRight count st.locked st.cancelled st.memory
  pub acts : CountsRight count st.acts

each_below : (P : ℕ → Type 0) → P 0 → P 1 → P 2 → P 3 → (k : ℕ) → k < fifos → P k
each_below P a b c d zero l = a
each_below P a b c d (suc zero) l = b
each_below P a b c d (suc (suc zero)) l = c
each_below P a b c d (suc (suc (suc zero))) l = d
each_below P a b c d (suc (suc (suc (suc k)))) l = absurd (omega arith)

-- what the computed test says
pub sound-right : (count : ℕ) (st : State) → state_sound count st ≡ true → StateRight count st
unfolding state_sound are_fifos
sound-right count st h =
    let h1 = (both (all_ranged st.r) _ h).1 in
    let h2 = (both (are_cells st.cells 0) _ h1).1 in
    let h3 = (both (are_fifos st.r st.cells fifos 0) _ h2).1 in
    let h4 = (both (are_channels st.channels channel_count) _ h3).1 in
    let f0 = (both (are_fifos st.r st.cells fifos 0) _ h2).0 in
    let f1 = (both (is_fifo_sound st.r st.cells 0) _ f0).1 in
    let f2 = (both (is_fifo_sound st.r st.cells 1) _ f1).1 in
    let f3 = (both (is_fifo_sound st.r st.cells 2) _ f2).1 in
    record {
      cells = record {
        ranged = ranged-each st.r (both (all_ranged st.r) _ h).0;
        right = cells-each st.cells (both (are_cells st.cells 0) _ h1).0;
        unused = each_below (λ k. Unused (run st.r k) (count_in st.cells k))
            (fifo-each st.r st.cells 0 (both (is_fifo_sound st.r st.cells 0) _ f0).0)
            (fifo-each st.r st.cells 1 (both (is_fifo_sound st.r st.cells 1) _ f1).0)
            (fifo-each st.r st.cells 2 (both (is_fifo_sound st.r st.cells 2) _ f2).0)
            (fifo-each st.r st.cells 3 (both (is_fifo_sound st.r st.cells 3) _ f3).0);
      };
      channels = (both (are_channels st.channels channel_count) _ h3).0;
      flags = flags-each count st.locked st.cancelled st.memory (both (are_flags count _ _ _ max_lines 0) _ h4).0;
      acts = counts_each count st.acts (both (are_flags count _ _ _ max_lines 0) _ h4).1;
    }

-- and what makes it true
pub right-sound : (count : ℕ) (st : State) → StateRight count st → state_sound count st ≡ true
unfolding state_sound are_fifos
right-sound count st h =
    and-true (each-ranged st.r h.cells.ranged)
    (and-true (each-cells st.cells h.cells.right)
    (and-true
    (and-true (each-fifo st.r st.cells 0 (h.cells.unused 0 (omega arith)))
    (and-true (each-fifo st.r st.cells 1 (h.cells.unused 1 (omega arith)))
    (and-true (each-fifo st.r st.cells 2 (h.cells.unused 2 (omega arith)))
    (and-true (each-fifo st.r st.cells 3 (h.cells.unused 3 (omega arith))) refl))))
    (and-true h.channels (and-true (each-flags count st.locked st.cancelled st.memory h.flags) (each_counts count st.acts h.acts)))))

-- a set and a state are sound: the set is
pub set-sound : (s : List ℕ) (st : State) → is_sound s st ≡ true → is_some (sound_lines s) ≡ true
unfolding is_sound
set-sound s st h = (both (is_some (sound_lines s)) _ h).0

-- the state is, for its lines
pub state-right : (s : List ℕ) (st : State) → is_sound s st ≡ true → StateRight (lines_of s).count st
unfolding is_sound
state-right s st h = sound-right (lines_of s).count st (both (is_some (sound_lines s)) _ h).1

-- and both make the test true
pub right-state : (s : List ℕ) (st : State) → is_some (sound_lines s) ≡ true → StateRight (lines_of s).count st → is_sound s st ≡ true
unfolding is_sound
right-state s st e h = and-true e (right-sound (lines_of s).count st h)

-- ---- power-on

-- a line of the set that is not cancelled may have lock and memory
pub flag-free : (count k : ℕ) (a c : Bool) → k < count → is_flag count k a false c ≡ true
unfolding is_flag
flag-free count k a c l = rw (lt-ltb k count l)

-- a line of the set without lock and memory may be cancelled
pub flag-clear : (count k : ℕ) (b : Bool) → k < count → is_flag count k false b false ≡ true
unfolding is_flag
flag-clear count k b l = rw (lt-ltb k count l) (by-cancel b)
  where
    by-cancel : (b : Bool) → cond b true true ≡ true
    by-cancel true = refl
    by-cancel false = refl

-- no flag at all is right at every rank
pub flag-none : (count k : ℕ) → is_flag count k false false false ≡ true
unfolding is_flag
flag-none count k = by-test (ltb k count)
  where
    by-test : (b : Bool) → cond b true true ≡ true
    by-test true = refl
    by-test false = refl

-- a rank that the set does not have is not cancelled
pub flag-beyond : (count k : ℕ) (a b c : Bool) → count ≤ k → is_flag count k a b c ≡ true → b ≡ false
unfolding is_flag
flag-beyond count k a b c l h = let e = rw (le-ltb k count l) at h in by_flags a c b e
  where
    by_flags : (a c b : Bool) → (not a && (not c && not b)) ≡ true → b ≡ false
    by_flags a c false e = refl
    by_flags true c true e = clash (cc)
    by_flags false true true e = clash (cc)
    by_flags false false true e = clash (cc)

-- no act is right at every rank
pub count_none : (count k : ℕ) → is_act_count count k 0 ≡ true
unfolding is_act_count
count_none count k = by-test (ltb k count)
  where
    by-test : (b : Bool) → cond b true true ≡ true
    by-test true = refl
    by-test false = refl

-- the state at power-on is sound for any number of lines
pub power-on-sound : (n : ℕ) → state_sound n power_on ≡ true
unfolding state_sound power_on fresh_channels are_channels is_channel all_ranged are_cells are_fifos is_fifo_sound all_zero is_cell in_range output_of whole_units equal_to less_than
power-on-sound n =
    and-true (each-flags n (replicate max_lines false) (replicate max_lines false) (replicate max_lines false) (λ k l. rw (same-each max_lines k false) (flag-none n k)))
    (each_counts n (replicate max_lines 0) (λ k l. rw (same-each {A = ℕ} max_lines k 0) (count_none n k)))

-- so it is sound for every sound set
pub power-on : (s : List ℕ) → is_some (sound_lines s) ≡ true → is_sound s power_on ≡ true
unfolding is_sound
power-on s e = and-true e (power-on-sound (lines_of s).count)

-- ---- what keeps it: the flags

module _ (count : ℕ) (locked cancelled memory : List Bool) (h : FlagsRight count locked cancelled memory) (k : ℕ) (l : k < count) where
  -- a line that is not cancelled is locked or released
  pub lock-keeps : (b : Bool) → get_or cancelled k false ≡ false → FlagsRight count (set locked k b) cancelled memory
  lock-keeps b e j m = by_place (ℕ_discrete j k)
    where
      by_place : Dec (j ≡ k) → is_flag count j (get_or (set locked k b) j false) (get_or cancelled j false) (get_or memory j false) ≡ true
      by_place (yes q) = rw (q, e) (flag-free count k _ _ l)
      by_place (no q) = rw (get_or-set_other locked k j b false q) (h j m)

  -- a line that is not cancelled remembers
  pub memory-keeps : (b : Bool) → get_or cancelled k false ≡ false → FlagsRight count locked cancelled (set memory k b)
  memory-keeps b e j m = by_place (ℕ_discrete j k)
    where
      by_place : Dec (j ≡ k) → is_flag count j (get_or locked j false) (get_or cancelled j false) (get_or (set memory k b) j false) ≡ true
      by_place (yes q) = rw (q, e) (flag-free count k _ _ l)
      by_place (no q) = rw (get_or-set_other memory k j b false q) (h j m)

  -- a line is cancelled, its lock and memory cleared
  pub cancel-keeps : FlagsRight count (set locked k false) (set cancelled k true) (set memory k false)
  cancel-keeps j m = by_place (ℕ_discrete j k)
    where
      cleared : (xs : List Bool) → get_or (set xs k false) k false ≡ false
      cleared xs = by_length (dec_lt k (length xs))
        where
          by_length : Dec (k < length xs) → get_or (set xs k false) k false ≡ false
          by_length (yes n) = get_or-set_same xs k false false n
          by_length (no n) = rw (set_out xs k false (omega (arith, n))) (get_or-eq_default xs false {n = k} (omega (arith, n)))

      by_place : Dec (j ≡ k) → is_flag count j (get_or (set locked k false) j false) (get_or (set cancelled k true) j false) (get_or (set memory k false) j false) ≡ true
      by_place (yes q) = rw (q, cleared locked, cleared memory) (flag-clear count k _ l)
      by_place (no q) = rw (get_or-set_other locked k j false false q, get_or-set_other cancelled k j true false q, get_or-set_other memory k j false false q) (h j m)

-- ---- what keeps it: R and the cells

-- the run of a FIFO goes by its sixteen places
pub run-place : (r : List ℤ) (k i : ℕ) → i < places → get_or (run r k) i (pos 0) ≡ get_or r (run_at k + i) (pos 0)
run-place r k i l = get_or-take places (drop (run_at k) r) i (pos 0) l ∙ get_or-drop (run_at k) r i (pos 0)

-- behind them it reads 0
pub run-behind : (r : List ℤ) (k i : ℕ) → places ≤ i → get_or (run r k) i (pos 0) ≡ pos 0
run-behind r k i l = get_or-eq_default (run r k) (pos 0) {n = i} (omega (arith, length-take places (drop (run_at k) r)))

-- a run of an R in range is in range
pub run-ranged : (r : List ℤ) (k : ℕ) → PlacesRanged r → PlacesRanged (run r k)
run-ranged r k h i = by_place (dec_lt i places)
  where
    by_place : Dec (i < places) → in_range (get_or (run r k) i (pos 0)) ≡ true
    by_place (yes l) = rw (run-place r k i l) (h (run_at k + i))
    by_place (no l) = rw (run-behind r k i (omega (arith, l))) zero-in-range

module _ (r c : List ℤ) (h : CellsSound r c) where
  -- a value in range is written to R below the FIFOs
  pub r-keeps : (i : ℕ) (v : ℤ) → i < run_at 0 → in_range v ≡ true → CellsSound (set r i v) c
  r-keeps i v l e = record {
    ranged = set-each (λ j z. in_range z ≡ true) r i v (pos 0) e h.ranged;
    right = h.right;
    unused = λ k m. rw (drop-set-lt (run_at k) r i v (omega arith)) (h.unused k m);
  }

  -- a cell below the counts is written with a value that is right there
  pub cell-keeps : (i : ℕ) (v : ℤ) → i < count_at → is_cell i v ≡ true → CellsSound r (set c i v)
  cell-keeps i v l e = record {
    ranged = h.ranged;
    right = set-each (λ j z. is_cell j z ≡ true) c i v (pos 0) e h.right;
    unused = λ k m. rw (get_or-set_other c i (count_at + k) v (pos 0) (λ q. omega arith)) (h.unused k m);
  }

-- other cells, as right as these and with the same counts
pub cells-swapped : (r c d : List ℤ) → CellsSound r c → CellsRight d → ((k : ℕ) → get_or d (count_at + k) (pos 0) ≡ get_or c (count_at + k) (pos 0)) → CellsSound r d
cells-swapped r c d h e q = record { ranged = h.ranged; right = e; unused = λ k m. rw (q k) (h.unused k m) }

-- ---- what keeps it: a FIFO's run replaced, with its count

-- R with the run of FIFO k replaced: before, inside and behind it
module _ (k : ℕ) (r ys : List ℤ) (l : run_at k + places ≤ length r) (ly : length ys ≡ places) where
  front : length (take (run_at k) r) ≡ run_at k
  front = length-take-le (run_at k) r (omega arith)

  replaced-before : (m : ℕ) → m < run_at k → get_or (with_run r k ys) m (pos 0) ≡ get_or r m (pos 0)
  replaced-before m n = get_or-append (take (run_at k) r) (ys ++ drop (run_at k + places) r) (pos 0) m (omega (arith, front)) ∙ get_or-take (run_at k) r m (pos 0) n

  replaced-from : (i : ℕ) → get_or (with_run r k ys) (run_at k + i) (pos 0) ≡ get_or (ys ++ drop (run_at k + places) r) i (pos 0)
  replaced-from i = sym (get_or-drop (run_at k) (with_run r k ys) i (pos 0)) ∙ ap (λ (z : List ℤ). get_or z i (pos 0)) (drop_at (take (run_at k) r) (ys ++ drop (run_at k + places) r) (run_at k) front)

  replaced-inside : (i : ℕ) → i < places → get_or (with_run r k ys) (run_at k + i) (pos 0) ≡ get_or ys i (pos 0)
  replaced-inside i n = replaced-from i ∙ get_or-append ys (drop (run_at k + places) r) (pos 0) i (omega arith)

  replaced-behind : (m : ℕ) → run_at k + places ≤ m → get_or (with_run r k ys) m (pos 0) ≡ get_or r m (pos 0)
  replaced-behind m n =
      let e : run_at k + (m - run_at k) ≡ m = omega arith in
      let f : run_at k + places + (m - run_at k - length ys) ≡ m = omega arith in
      rw e at (replaced-from (m - run_at k))
      ∙ append-behind ys (drop (run_at k + places) r) (m - run_at k) (pos 0) (omega arith)
      ∙ get_or-drop (run_at k + places) r (m - run_at k - length ys) (pos 0)
      ∙ ap (λ (j : ℕ). get_or r j (pos 0)) f

  -- as long as before
  pub replaced-length : length (with_run r k ys) ≡ length r
  replaced-length = omega (arith, length-append (take (run_at k) r) (ys ++ drop (run_at k + places) r), length-append ys (drop (run_at k + places) r), length-drop (run_at k + places) r, front)

  -- what holds of every place of both holds of all
  replaced-each : (P : ℤ → Type 0) → ((i : ℕ) → P (get_or r i (pos 0))) → ((i : ℕ) → P (get_or ys i (pos 0))) → (m : ℕ) → P (get_or (with_run r k ys) m (pos 0))
  replaced-each P p q m = by_place (dec_lt m (run_at k)) (dec_lt m (run_at k + places))
    where
      by_place : Dec (m < run_at k) → Dec (m < run_at k + places) → P (get_or (with_run r k ys) m (pos 0))
      by_place (yes n) d = rw (replaced-before m n) (p m)
      by_place (no n) (yes d) = let e : run_at k + (m - run_at k) ≡ m = omega (arith, n) in rw (← e, replaced-inside (m - run_at k) (omega (arith, n))) (q (m - run_at k))
      by_place (no n) (no d) = rw (replaced-behind m (omega (arith, d))) (p m)

module _ (r c : List ℤ) (k : ℕ) (ys : List ℤ) (n : ℕ) (lk : k < fifos) (lc : length c ≡ state_cells) (lr : run_at k + places ≤ length r)
    (ly : length ys ≡ places) (ln : n ≤ places) (u : Unused ys n) where
  run-own : (i : ℕ) → n ≤ i → get_or (run (with_run r k ys) k) i (pos 0) ≡ pos 0
  run-own i m = by_place (dec_lt i places)
    where
      by_place : Dec (i < places) → get_or (run (with_run r k ys) k) i (pos 0) ≡ pos 0
      by_place (yes l) = run-place (with_run r k ys) k i l ∙ replaced-inside k r ys lr ly i l ∙ u i m
      by_place (no l) = run-behind (with_run r k ys) k i (omega (arith, l))

  run-other : (j i : ℕ) → (j ≡ k → ⊥) → get_or (run (with_run r k ys) j) i (pos 0) ≡ get_or (run r j) i (pos 0)
  run-other j i q = by_place (dec_lt i places) (dec_lt j k)
    where
      by_place : Dec (i < places) → Dec (j < k) → get_or (run (with_run r k ys) j) i (pos 0) ≡ get_or (run r j) i (pos 0)
      by_place (yes l) (yes m) =
          run-place (with_run r k ys) j i l ∙ replaced-before k r ys lr ly (run_at j + i) (omega arith) ∙ sym (run-place r j i l)
      by_place (yes l) (no m) =
          run-place (with_run r k ys) j i l ∙ replaced-behind k r ys lr ly (run_at j + i) (omega (arith, q, m)) ∙ sym (run-place r j i l)
      by_place (no l) d = run-behind (with_run r k ys) j i (omega (arith, l)) ∙ sym (run-behind r j i (omega (arith, l)))

  count-own : count_in (set c (count_at + k) (pos n)) k ≡ n
  count-own = rw (get_or-set_same c (count_at + k) (pos n) (pos 0) (omega arith), le-leb n places ln)

  -- FIFO k has new places and a new count
  pub fifo-keeps : CellsSound r c → PlacesRanged ys → CellsSound (with_run r k ys) (set c (count_at + k) (pos n))
  fifo-keeps h p = record {
    ranged = replaced-each k r ys lr ly (λ z. in_range z ≡ true) h.ranged p;
    right = set-each (λ j z. is_cell j z ≡ true) c (count_at + k) (pos n) (pos 0) (right-count (count_at + k) n (omega arith) ln) h.right;
    unused = λ j m. unused' j m (ℕ_discrete j k);
  }
    where
      unused' : (j : ℕ) → j < fifos → Dec (j ≡ k) → Unused (run (with_run r k ys) j) (count_in (set c (count_at + k) (pos n)) j)
      unused' j m (yes q) = rw (q, count-own) run-own
      unused' j m (no q) = λ i b. run-other j i q ∙ h.unused j m i (rw (get_or-set_other c (count_at + k) (count_at + j) (pos n) (pos 0) (λ e. q (omega arith))) at b)
