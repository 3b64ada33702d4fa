-- Laws of the codes that stop the reading of a variable, a write, a curve and SYNFCT, of any set and any state: 22, 30, 32, 33 or 34. Nothing is assumed.
use Rattle.std.specs.Prelude.{refl, ◌||◌, List, ℕ, ◌+◌, eqb, ℤ, pos, length, Result, Ok, Err}
use Rattle.values.specs.Codes.{unsound, out_of_range, fifo_empty, fifo_full, not_allowed, code_of}
use Rattle.values.specs.Choice.{either, either-cond}
use Rattle.values.specs.Value.{unit, in_range, equal_to, valued, marker_of, output_of}
use Rattle.values.specs.Curve.{curve_of}
use Rattle.values.specs.CurveLaws.{Only30, curve-alarm}
use Rattle.values.specs.declared.curve.Curve.{Curve}
use Rattle.values.specs.Fifo.{places, fits, append_answer, remove_answer, empty_answer, sum_first, oldest_of, newest_of, total_of, count_of}
use Rattle.values.specs.declared.codes.Alarm.{Alarm}
use Rattle.values.specs.declared.fifo.Moved.{Moved}
use Rattle.tokens.specs.Token.{MARKER, PARAM, OUT, TIMER, R, is_variable, is_fifo, whole}
use Rattle.tokens.specs.Descent.{token, Answer, good, stop, ◌>>=◌, is_indexed, index_at}
use Rattle.tokens.specs.Index.{is_inside}
use Rattle.working.specs.Operators.{from_worked}
use Rattle.working.specs.Variables.{fifo_of, run, beat_count, fifo_value, fifo_at, variable_value}
use Rattle.working.specs.Working.{variable_at}
use Rattle.engine.specs.Set.{defined_curve}
use Rattle.engine.specs.Write.{Celled, moved, change_answer, change_fifo, write_fifo, write_cell, write_inside, write_to}
use Rattle.engine.specs.declared.write.Change.{Change}
use Rattle.engine.specs.declared.write.Change.TheVariants.{Append, Remove, Empty}
use Rattle.engine.specs.declared.write.Vars.{Vars}
use Rattle.engine.specs.Action.{World, curve_assigned, synfct_of}

-- ---- what stops, stops by such a code

abbrev pub StopsBy : {A : Type 0} → (ℕ → Type 0) → Answer A → Type 0
StopsBy P (good a) = Unit {0}
StopsBy P (stop c) = P c

pub stops_then : {A B : Type 0} (P : ℕ → Type 0) (x : Answer A) (f : A → Answer B) → StopsBy P x → ((a : A) → StopsBy P (f a)) → StopsBy P (x >>= f)
stops_then P (good a) f h k = k a
stops_then P (stop c) f h k = h

-- what is so of 22, 30, 32, 33 and 34
pub record Such (P : ℕ → Type 0) : Type 0 where
  pub is-22 : P unsound
  pub is-30 : P out_of_range
  pub is_32 : P fifo_empty
  pub is-33 : P fifo_full
  pub is-34 : P not_allowed

module _ (P : ℕ → Type 0) (such : Such P) where
  -- ---- a variable

  -- what was worked, or moved
  abbrev pub WorkedBy : {A : Type 0} → Result A Alarm → Type 0
  WorkedBy (Ok x) = Unit {0}
  WorkedBy (Err a) = P (code_of a)

  pub from-worked : (x : Result ℤ Alarm) → WorkedBy x → StopsBy P (from_worked x)
  from-worked (Ok v) h = tt
  from-worked (Err a) h = h

  pub valued_by : (z : ℤ) → WorkedBy (valued z)
  unfolding valued
  valued_by z = either-cond WorkedBy (in_range z) _ _ tt such.is-30

  fifo-by : (xs : List ℤ) (n i : ℕ) → WorkedBy (fifo_value xs n i)
  unfolding fifo_value oldest_of newest_of total_of count_of
  fifo-by xs n i =
      let f = fits (length xs) n in
      either WorkedBy (eqb i 1) (λ e. either-cond WorkedBy f _ _ (either-cond WorkedBy (eqb n 0) _ _ such.is_32 tt) such.is-22) λ e.
      either WorkedBy (eqb i 2) (λ e. either-cond WorkedBy f _ _ (either-cond WorkedBy (eqb n 0) _ _ such.is_32 tt) such.is-22) λ e.
      either WorkedBy (eqb i 3) (λ e. either-cond WorkedBy f _ _ (valued_by (sum_first xs n)) such.is-22) λ e.
      either WorkedBy (eqb i 4) (λ e. either-cond WorkedBy f _ _ tt such.is-22) (λ e. such.is-22)

  pub variable-by : (r c : List ℤ) (w i : ℕ) → WorkedBy (variable_value r c w i)
  unfolding variable_value fifo_at
  variable-by r c w i =
      either WorkedBy (is_inside w i) (λ e. either WorkedBy (eqb w R) (λ e. tt) (λ e. either WorkedBy (is_fifo w) (λ e. fifo-by (run r (fifo_of w)) (beat_count c (fifo_of w)) i) (λ e. tt))) (λ e. such.is-22)

  variable-at-by : (s : List ℕ) (r c : List ℤ) (p : ℕ) → WorkedBy (variable_at s r c p)
  unfolding variable_at
  variable-at-by s r c p =
      let w = token s p in
      either WorkedBy (is_variable w) (λ e. either WorkedBy (is_indexed s w p) (λ e. variable-by r c w (index_at s w p)) (λ e. such.is-22)) (λ e. such.is-22)

  -- ---- a write

  change-by : (op : Change) (xs : List ℤ) (n : ℕ) → WorkedBy (change_answer op xs n)
  unfolding change_answer append_answer remove_answer empty_answer
  change-by (Append v) xs n = either-cond WorkedBy (fits (length xs) n) _ _ (either-cond WorkedBy (eqb n places) _ _ such.is-33 tt) such.is-22
  change-by Remove xs n = either-cond WorkedBy (fits (length xs) n) _ _ (either-cond WorkedBy (eqb n 0) _ _ such.is_32 tt) such.is-22
  change-by (Empty v) xs n = either-cond WorkedBy (fits (length xs) n) _ _ (either-cond WorkedBy (equal_to v (pos 0)) _ _ tt such.is-34) such.is-22

  moved_by : (r c : List ℤ) (k : ℕ) (xs : List ℤ) (m : Result Moved Alarm) → WorkedBy m → StopsBy P (moved r c k xs m)
  moved_by r c k xs (Ok m) h = tt
  moved_by r c k xs (Err a) h = h

  pub fifo-change-by : (r c : List ℤ) (op : Change) (w : ℕ) → StopsBy P (change_fifo r c op w)
  unfolding change_fifo
  fifo-change-by r c op w = moved_by r c (fifo_of w) _ (change_answer op (run r (fifo_of w)) (beat_count c (fifo_of w))) (change-by op (run r (fifo_of w)) (beat_count c (fifo_of w)))

  pub write-by : (x : Vars) (w i : ℕ) (v : ℤ) → StopsBy P (write_to x w i v)
  unfolding write_to write_inside write_fifo write_cell marker_of output_of
  write-by x w i v =
      let Q : Answer Vars → Type 0 = StopsBy P in
      let C : Answer Celled → Type 0 = StopsBy P in
      either Q (is_inside w i)
      (λ e. either Q (eqb w R) (λ e. tt) λ e.
      either Q (is_fifo w)
      (λ e. either Q (eqb i 0) (λ e. stops_then P (change_fifo x.r x.cells (Append v) w) _ (fifo-change-by x.r x.cells (Append v) w) (λ a. tt)) λ e.
      either Q (eqb i 4) (λ e. stops_then P (change_fifo x.r x.cells (Empty v) w) _ (fifo-change-by x.r x.cells (Empty v) w) (λ a. tt)) (λ e. such.is-22)) λ e.
      stops_then P (write_cell x.cells x.runs w i v) _
      (either C (eqb w MARKER) (λ e. stops_then P (from_worked (marker_of v)) _ (from-worked (marker_of v) (either-cond WorkedBy (in_range v) _ _ tt such.is-30)) (λ u. tt)) λ e. either C (eqb w PARAM) (λ e. tt) λ e.
      either C (eqb w OUT) (λ e. stops_then P (from_worked (output_of v)) _ (from-worked (output_of v) (either-cond WorkedBy (equal_to v (pos 0) || equal_to v (pos unit)) _ _ tt such.is-34)) (λ u. tt)) λ e.
      either C (eqb w TIMER) (λ e. tt) (λ e. such.is-22)) (λ a. tt))
      (λ e. such.is-22)

  -- ---- a curve

  -- what has no alarm but 30
  only-30-by : (x : Result ℤ Alarm) → Only30 x → WorkedBy x
  only-30-by (Ok v) h = tt
  only-30-by (Err c) h = rw (h c refl) such.is-30

  curve-by : (x : Vars) (c : Curve) (a : ℤ) (w i : ℕ) → StopsBy P (curve_assigned x c a w i)
  unfolding curve_assigned
  curve-by x c a w i = stops_then P (from_worked (curve_of c a)) _ (from-worked (curve_of c a) (only-30-by (curve_of c a) (curve-alarm c a))) (λ y. write-by x w i y)

  pub synfct-by : (s : List ℕ) (x : World) (p : ℕ) → StopsBy P (synfct_of s x p)
  unfolding synfct_of
  synfct-by s x p =
      let w = token s (p + 4) in
      let i = index_at s w (p + 4) in
      let v = variable_at s x.vars.r x.vars.cells (p + 9) in
      let c = (defined_curve s (whole (token s (p + 2)))) in
      stops_then P (from_worked v) _ (from-worked v (variable-at-by s x.vars.r x.vars.cells (p + 9))) λ a.
      stops_then P (curve_assigned x.vars c a w i) _ (curve-by x.vars c a w i) (λ y. tt)
