-- Every call keeps a sound state sound, and none answers 22: the turns of a beat, the beat, and any calls one after another from power-on. Nothing is assumed.
-- A set has at most `set_size` places, a state `r_count` of R and `state_cells` cells, as their types in the program say; that is all that is asked of lengths.
use Rattle.std.specs.Prelude.{◌≡◌, Bool, cond, not, ◌||◌, eqb, ltb, ℤ, pos, length, is_some, Result}
use Rattle.std.proofs.Math.Path.{refl}
use Rattle.std.proofs.Common.{sym, ap, ◌∙◌, arith, length-append, length-drop, length-set, drop_at}
use Rattle.std.proofs.Math.Bool.{true, false}
use mathlib.Core.List.{List, [], ◌∷◌, ◌++◌, append_assoc}
use Prim.Native.Nat.{ℕ, zero, suc, ◌+◌, ◌/◌, ◌%◌, ◌^◌, ◌≤◌, ◌<◌}
use Rattle.std.proofs.Math.ListN.{get_or}
use borrow.Author.Tests.{eqb-true, not-true}
use Rattle.values.specs.Choice.{either, if_not, both, decide, refused}
use Rattle.values.specs.Value.{unit, in_range}
use Rattle.values.specs.ValueLaws.{abs-range}
use Rattle.values.specs.Time.{timer}
use Rattle.values.specs.TimeLaws.{grown-keeps}
use Rattle.values.specs.FifoLaws.{PlacesRanged, zero-in-range, InRange}
use Rattle.values.specs.Numbers.{clash}
use Rattle.tokens.specs.Token.{WHEN, WHENEVER, FROM, EVERY, is_keyword, set_size, max_actions, max_lines}
use Rattle.tokens.specs.Descent.{Answer, good, stop}
use Rattle.couplers.specs.Channel.{channel_count, values_given}
use Rattle.couplers.specs.ChannelLaws.{samples-in-range, samples-length, samples-sound}
use Rattle.working.specs.Operators.{is_yes}
use Rattle.working.specs.Working.{condition_value}
use Rattle.couplers.specs.declared.channel.Channel.{Channel}
use Rattle.engine.specs.declared.state.State.{State}
use Rattle.engine.specs.declared.calls.Called.{Called}
use Rattle.checking.specs.declared.line.Line.{Line}
use Rattle.engine.specs.Set.{start_of, no_line, sound_lines, lines_of}
use Rattle.working.specs.Variables.{timer_count, r_count, timer_at, state_cells, bit_count, position_count, input_count}
use Rattle.engine.specs.State.{power_on}
use Rattle.engine.specs.Cells.{input_cell, input_cells, beat_cells}
use Rattle.engine.specs.Timers.{grown_cells}
use Rattle.engine.specs.Sound.{is_sound}
use Rattle.engine.specs.Action.{World, Did, from_reached}
use Rattle.engine.specs.Actions.{actions_of}
use Rattle.engine.specs.Turn.{Entry, Turned, remembered, counted, takes_turn, do_turn, try_turn, turn_of, turns_from}
use Rattle.engine.specs.Keyword.{tries, remembers}
use Rattle.engine.specs.Beat.{buffer_size, are_inputs, Given, samples_in, beat_begun, beat_ended, all_turns, whole_beat, turned_answer, beat_answer, kept_in}
use Rattle.engine.specs.NamedLine.{found}
use Rattle.engine.specs.Calls.{called, locked_call, lock_call, unlock_call, cancel_call, program_end_call, control_reset_call}
use Rattle.engine.specs.InputLaws.{length-inputs, inputs-length}
use Rattle.soundness.specs.Call.{Call, do_beat, do_lock, do_unlock, do_cancel, do_program_end, do_control_reset, state_after, code_after, after_all}
use Rattle.soundness.specs.GoodAnswers.{Not22, Holds, holds_then, holds-ok}
use Rattle.engine.specs.SetLinesLaws.{lines-lined}
use Rattle.soundness.specs.SetSoundLaws.{lines-known}
use Rattle.soundness.specs.CellSoundLaws.{ranged-each, cell-ranged, timer-cell, right-timer, CellsSound, cell-keeps, memory-keeps, state-right, right-state, set-sound, power-on}
use Rattle.soundness.specs.CallSoundLaws.{lock_call-keeps, unlock_call-keeps, cancel_call-keeps, control_reset_call-keeps, Answers, lock_call-answers, unlock_call-answers, cancel_call-answers, control_reset_call-r, control_reset_call-length, control_reset_call-code}
use Rattle.soundness.specs.WriteSoundLaws.{BeatSound}
use Rattle.soundness.specs.ActionSoundLaws.{WorldSound, condition-runs}
use Rattle.soundness.specs.ProgramEndLaws.{program_end_call-keeps, program_end_call-answers}
use Rattle.soundness.specs.CountSoundLaws.{counted-keeps}
use Rattle.soundness.specs.ActedLaws.{none_from, turns-below}
use Rattle.soundness.specs.LineLaws.{actions-keep, LineClear, line_clear}

-- ---- turns

-- only a line with a keyword works a condition
tries-keyword : (kw : ℕ) (m : Bool) → tries kw m ≡ true → is_keyword kw ≡ true
unfolding tries
tries-keyword kw m = by_word (eqb kw WHEN) (eqb kw FROM) (eqb kw WHENEVER) (eqb kw EVERY) refl refl refl refl
  where
    known : (w : ℕ) → is_keyword w ≡ true → eqb kw w ≡ true → is_keyword kw ≡ true
    known w h e = rw (eqb-true kw w e) h

    by_word : (a b c d : Bool) → eqb kw WHEN ≡ a → eqb kw FROM ≡ b → eqb kw WHENEVER ≡ c → eqb kw EVERY ≡ d → cond (a || b) (not m) (c || d) ≡ true → is_keyword kw ≡ true
    by_word true b c d p q r t h = known WHEN refl p
    by_word false true c d p q r t h = known FROM refl q
    by_word false false true d p q r t h = known WHENEVER refl r
    by_word false false false true p q r t h = known EVERY refl t
    by_word false false false false p q r t h = clash (cc)

module _ (s : List ℕ) (sound : is_some (sound_lines s) ≡ true) (size : length s ≤ set_size) (cancelled : List Bool) (automatic : Bool) where
  abbrev Fine : World → Type 0
  Fine = WorldSound (lines_of s).count cancelled

  abbrev TurnFine : Turned → Type 0
  TurnFine t = Fine t.world

  abbrev numbers : List ℕ
  numbers = (lines_of s).numbers

  -- the turn of a line of the set
  module _ (k : ℕ) (inside : k < (lines_of s).count) where
    abbrev line : Line
    line = get_or (lines_of s).items k no_line

    clear : LineClear s (start_of s k) line
    clear = let l = (lines-lined s).listed in line_clear s (start_of s k) line (l.item k inside) (l.positive k inside)

    done-fine : (x : World) (es : List Entry) (b : Bool) → Fine x → Holds TurnFine (do_turn s numbers cancelled automatic line k x es b)
    unfolding do_turn
    done-fine x es false h = h
    done-fine x es true h =
        holds_then (λ (d : Did). Fine d.world) TurnFine (actions_of s numbers cancelled line.number max_actions (counted x k) line.actions) _
        (actions-keep s sound size cancelled line.number line.keyword (start_of s k) (lines-known s sound k inside)
        max_actions set_size 0 [] 0 (counted x k) line.actions refl (record { vars = h.vars; flags = h.flags }) clear.passed clear.actions)
        (λ d e. e)

    turn-fine : (x : World) → Fine x → Holds TurnFine (turn_of s numbers cancelled automatic line k x)
    unfolding turn_of try_turn takes_turn
    turn-fine x h =
        let l = line in
        let m = get_or x.memory k false in
        if_not (Holds TurnFine) (takes_turn s numbers cancelled automatic l k x) (λ e. h) λ e.
        if_not (Holds TurnFine) (tries l.keyword m) (λ t. done-fine x [] _ h) λ t.
        holds_then (λ a. Unit {0}) TurnFine (from_reached (condition_value s x.vars.r x.vars.cells l.condition)) _
        (condition-runs s x.vars l.condition h.vars (clear.condition (tries-keyword l.keyword m t))) λ a u.
        let c = not-true (get_or cancelled k false) (both (not (get_or cancelled k false)) _ e).0 in
        done-fine (remembered x k (remembers l.keyword m (is_yes a.0))) _ _
        (record { vars = h.vars; flags = memory-keeps (lines_of s).count x.locked cancelled x.memory h.flags k inside _ c })

  -- the turns of m lines from rank k on
  pub turns-fine : (m k : ℕ) (x : World) → k + m ≤ (lines_of s).count → Fine x → Holds TurnFine (turns_from s numbers cancelled automatic (lines_of s).items m k x)
  unfolding turns_from
  turns-fine zero k x l h = h
  turns-fine (suc m) k x l h =
      holds_then TurnFine TurnFine (turn_of s numbers cancelled automatic (get_or (lines_of s).items k no_line) k x) _ (turn-fine k (omega arith) x h) λ t e.
      holds_then TurnFine TurnFine (turns_from s numbers cancelled automatic (lines_of s).items m (k + 1) t.world) _
      (turns-fine m (k + 1) t.world (omega arith) e) (λ u f. f)

-- ---- the beat as it begins

-- what holds of every place of two lists holds of both together
append-each : (P : ℤ → Type 0) (xs ys : List ℤ) → ((i : ℕ) → P (get_or xs i (pos 0))) → ((i : ℕ) → P (get_or ys i (pos 0))) → (i : ℕ) → P (get_or (xs ++ ys) i (pos 0))
append-each P [] ys p q i = q i
append-each P (x ∷ xs) ys p q zero = p 0
append-each P (x ∷ xs) ys p q (suc i) = append-each P xs ys (λ j. p (suc j)) q i

input-ranged : (b : Bool) → in_range (cond b (pos unit) (pos 0)) ≡ true
input-ranged true = abs-range (pos unit) (omega arith)
input-ranged false = zero-in-range

one-ranged : (v : ℤ) → in_range v ≡ true → PlacesRanged (v ∷ [])
one-ranged v h zero = h
one-ranged v h (suc i) = zero-in-range

inputs-ranged : (word n : ℕ) → PlacesRanged (input_cells word n)
unfolding input_cells
inputs-ranged word zero i = zero-in-range
inputs-ranged word (suc n) i = append-each InRange (input_cells word n) (input_cell word n ∷ []) (inputs-ranged word n) (one-ranged (input_cell word n) (input-ranged (eqb (word / 2 ^ n % 2) 1))) i

grown-length : (runs : List Bool) (c : List ℤ) (n : ℕ) → length (grown_cells runs c n) ≡ length c
unfolding grown_cells
grown-length runs c zero = refl
grown-length runs c (suc n) = length-set (grown_cells runs c n) _ _ ∙ grown-length runs c n

-- timers that have grown are still right
grown-sound : (r : List ℤ) (runs : List Bool) (c : List ℤ) (n : ℕ) → n ≤ timer_count → CellsSound r c → CellsSound r (grown_cells runs c n)
unfolding grown_cells
grown-sound r runs c zero l h = h
grown-sound r runs c (suc n) l h =
    let g = grown-sound r runs c n (omega arith) h in
    cell-keeps r (grown_cells runs c n) g (timer_at + n) _ (omega arith)
    (right-timer (timer_at + n) _ (omega arith) (omega arith)
    (grown-keeps (timer (get_or (grown_cells runs c n) (timer_at + n) (pos 0)) (get_or runs n false))
    (timer-cell (timer_at + n) _ (omega arith) (omega arith) (g.right (timer_at + n)))))

lent-ranged : (lent : List ℤ) → are_inputs lent ≡ true → PlacesRanged lent
unfolding are_inputs
lent-ranged lent h = ranged-each lent (both (eqb (length lent) position_count) _ h).1

-- the cells of a beat that begins from a sound state
pub begun-cells : (r c : List ℤ) (word : ℕ) (values lent : List ℤ) (runs : List Bool) → length r ≡ r_count → length c ≡ state_cells → length values ≡ channel_count → PlacesRanged values → are_inputs lent ≡ true → CellsSound r c →
    BeatSound r (beat_cells word values lent runs c)
unfolding beat_cells
begun-cells r c word values lent runs lr lc lv v a h =
    let bits = input_cells word bit_count in
    let grown = grown_cells runs c timer_count in
    record {
      long = lr;
      sized = omega (arith, length-append bits (values ++ (lent ++ grown)), length-append values (lent ++ grown), length-append lent grown, length-inputs word bit_count, inputs-length lent a, grown-length runs c timer_count);
      ranged = append-each InRange bits (values ++ (lent ++ grown)) (inputs-ranged word bit_count)
          (append-each InRange values (lent ++ grown) v (append-each InRange lent grown (lent-ranged lent a) (λ i. cell-ranged i _ ((grown-sound r runs c timer_count (omega arith) h).right i))));
      state =
          let e : length (bits ++ (values ++ lent)) ≡ input_count = omega (arith, length-append bits (values ++ lent), length-append values lent, length-inputs word bit_count, inputs-length lent a) in
          rw (← append_assoc values lent grown, ← append_assoc bits (values ++ lent) grown, drop_at (bits ++ (values ++ lent)) grown input_count e) (grown-sound r runs c timer_count (omega arith) h);
    }

-- ---- the beat

-- a sound state of its size
pub record Whole (s : List ℕ) (st : State) : Type 0 where
  pub sound : is_sound s st ≡ true
  pub long : length st.r ≡ r_count
  pub sized : length st.cells ≡ state_cells

-- a beat that goes well leaves one, and it stops by no 22
beat-holds : (s : List ℕ) (st : State) (g : Given) → length s ≤ set_size → Whole s st → Holds (λ t. Whole s (beat_ended st (kept_in st g) t.world)) (whole_beat s st g)
unfolding whole_beat beat_begun beat_ended
beat-holds s st g l h =
    let y = h.sound in
    if_not P (is_sound s st) (λ e. clash (cc)) λ e.
    either P (ltb (length g.buffer) buffer_size) (λ b z. omega arith) λ b.
    if_not P (are_inputs g.lent) (λ a z. omega arith) λ a.
    if_not P (is_some (samples_in st g)) (λ c z. omega arith) λ c.
    let vars =
    begun-cells st.r st.cells g.word (values_given (samples_in st g)) g.lent st.runs h.long h.sized (samples-length st.channels g.readings) (samples-in-range st.channels g.readings) a (state-right s st e).cells in
    let count = (lines_of s).count in
    holds_then (λ (t : Turned). WorldSound count st.cancelled t.world × (t.world.acted < 2 ^ (0 + count))) (λ t. Whole s (beat_ended st (kept_in st g) t.world))
    (all_turns s (lines_of s) st g) _
    (holds-ok _ _ (all_turns s (lines_of s) st g) (turns-fine s (set-sound s st e) l st.cancelled g.automatic (lines_of s).count 0 (beat_begun st g) (omega arith) (record { vars = vars; flags = (state-right s st e).flags }))
    (turns-below s (lines_of s).numbers st.cancelled g.automatic (lines_of s).items count 0 (beat_begun st g) (omega arith))) λ t (f, below).
    record {
      sound = right-state s (beat_ended st (kept_in st g) t.world) (set-sound s st e) (record { cells = f.vars.state; channels = samples-sound st.channels g.readings (state-right s st e).channels; flags = f.flags; acts = counted-keeps count st.acts (state-right s st e).acts t.world.acted (λ k l. none_from t.world.acted (0 + count) k below (omega arith)) max_lines });
      long = f.vars.long;
      sized = omega (arith, length-drop input_count t.world.vars.cells, f.vars.sized);
    }
  where
    P : Answer Turned → Type 0
    P = Holds (λ t. Whole s (beat_ended st (kept_in st g) t.world))

answered-whole : (s : List ℕ) (st : State) (kept : List Channel) (x : Answer Turned) → Whole s st → Holds (λ t. Whole s (beat_ended st kept t.world)) x → Whole s (turned_answer st kept x).state × Not22 (turned_answer st kept x).code
answered-whole s st kept (good t) h e = (e, λ z. omega arith)
answered-whole s st kept (stop k) h e = (h, e)

-- a beat leaves a sound state of its size, whatever it answers, and that is not 22
pub beat-answers : (s : List ℕ) (st : State) (g : Given) → length s ≤ set_size → Whole s st → Whole s (beat_answer s st g).state × Not22 (beat_answer s st g).code
unfolding beat_answer
beat-answers s st g l h = answered-whole s st (kept_in st g) (whole_beat s st g) h (beat-holds s st g l h)

-- ---- call after call

unchanged : (s : List ℕ) (st : State) (c : Called) → Whole s st → is_sound s c.state ≡ true → Answers st c → Whole s c.state
unchanged s st c h e a = record { sound = e; long = rw a.r h.long; sized = rw a.cells h.sized }

-- each call keeps a sound state sound
pub call-keeps : (s : List ℕ) (st : State) (c : Call) → length s ≤ set_size → Whole s st → Whole s (state_after s st c)
call-keeps s st (do_lock n) l h = unchanged s st (lock_call s st n) h (lock_call-keeps s st n h.sound) (lock_call-answers s st n h.sound)
call-keeps s st (do_unlock n) l h = unchanged s st (unlock_call s st n) h (unlock_call-keeps s st n h.sound) (unlock_call-answers s st n h.sound)
call-keeps s st (do_cancel n) l h = unchanged s st (cancel_call s st n) h (cancel_call-keeps s st n h.sound) (cancel_call-answers s st n h.sound)
call-keeps s st do_program_end l h = unchanged s st (program_end_call s st) h (program_end_call-keeps s st h.sound) (program_end_call-answers s st h.sound)
call-keeps s st do_control_reset l h = record { sound = control_reset_call-keeps s st h.sound; long = rw (control_reset_call-r s st) h.long; sized = control_reset_call-length s st h.sized }
call-keeps s st (do_beat g) l h = (beat-answers s st g l h).0

-- A SOUND STATE STAYS SOUND, whatever is called
pub sound-stays-sound : (s : List ℕ) (st : State) (c : Call) → length s ≤ set_size → length st.r ≡ r_count → length st.cells ≡ state_cells → is_sound s st ≡ true → is_sound s (state_after s st c) ≡ true
sound-stays-sound s st c l lr lc h = (call-keeps s st c l (record { sound = h; long = lr; sized = lc })).sound

-- a state that is not sound stays as it is
call-refused : (s : List ℕ) (st : State) (n : ℕ) (change : ℕ → State) → is_sound s st ≡ false → (called st (found s st n) change).state ≡ st
unfolding called found
call-refused s st n change e = ap (λ (f : Result ℕ ℕ). (called st f change).state) (refused (is_sound s st) _ _ e)

unsound-stays : (s : List ℕ) (st : State) (c : Call) → is_sound s st ≡ false → state_after s st c ≡ st
unfolding beat_answer whole_beat lock_call unlock_call locked_call cancel_call program_end_call control_reset_call
unsound-stays s st (do_lock n) e = call-refused s st n _ e
unsound-stays s st (do_unlock n) e = call-refused s st n _ e
unsound-stays s st (do_cancel n) e = call-refused s st n _ e
unsound-stays s st do_program_end e = ap (λ (x : Called). x.state) (refused (is_sound s st) _ _ e)
unsound-stays s st do_control_reset e = ap (λ (x : Called). x.state) (refused (is_sound s st) _ _ e)
unsound-stays s st (do_beat g) e = ap (λ (x : Answer Turned). (turned_answer st (kept_in st g) x).state) (refused (is_sound s st) _ _ e)

-- A STATE STAYS AS SOUND AS IT IS, and of its size, whatever is called
pub as-sound : (s : List ℕ) (st : State) (c : Call) → length s ≤ set_size → length st.r ≡ r_count → length st.cells ≡ state_cells →
    (is_sound s (state_after s st c) ≡ is_sound s st) × ((length (state_after s st c).r ≡ r_count) × (length (state_after s st c).cells ≡ state_cells))
as-sound s st c l lr lc =
    decide _ (is_sound s st) (λ e. let w = call-keeps s st c l (record { sound = e; long = lr; sized = lc }) in (w.sound ∙ sym e, (w.long, w.sized)))
    (λ e. rw (unsound-stays s st c e) (refl, (lr, lc)))

-- and answers no 22
pub call-not22 : (s : List ℕ) (st : State) (c : Call) → length s ≤ set_size → Whole s st → Not22 (code_after s st c)
call-not22 s st (do_lock n) l h = (lock_call-answers s st n h.sound).code
call-not22 s st (do_unlock n) l h = (unlock_call-answers s st n h.sound).code
call-not22 s st (do_cancel n) l h = (cancel_call-answers s st n h.sound).code
call-not22 s st do_program_end l h = (program_end_call-answers s st h.sound).code
call-not22 s st do_control_reset l h = control_reset_call-code s st h.sound
call-not22 s st (do_beat g) l h = (beat-answers s st g l h).1

-- so do any calls
pub calls-keep : (s : List ℕ) (st : State) (cs : List Call) → length s ≤ set_size → Whole s st → Whole s (after_all s st cs)
unfolding after_all
calls-keep s st [] l h = h
calls-keep s st (c ∷ cs) l h = calls-keep s (state_after s st c) cs l (call-keeps s st c l h)

-- power-on is a sound state of its size
pub power-on-whole : (s : List ℕ) → is_some (sound_lines s) ≡ true → Whole s power_on
unfolding power_on
power-on-whole s e = record { sound = power-on s e; long = refl; sized = refl }

-- from power-on with a sound set, every state is sound
pub always-sound : (s : List ℕ) (cs : List Call) → length s ≤ set_size → is_some (sound_lines s) ≡ true → is_sound s (after_all s power_on cs) ≡ true
always-sound s cs l e = (calls-keep s power_on cs l (power-on-whole s e)).sound

-- and 22 never arises
pub never-22 : (s : List ℕ) (cs : List Call) (c : Call) → length s ≤ set_size → is_some (sound_lines s) ≡ true → Not22 (code_after s (after_all s power_on cs) c)
never-22 s cs c l e = call-not22 s (after_all s power_on cs) c l (calls-keep s power_on cs l (power-on-whole s e))
