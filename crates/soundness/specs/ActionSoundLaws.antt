-- Laws of actions: those of a line without a fault keep the beat under way sound, end where the check ended, and stop only by an alarm, never by 22. Nothing is assumed.
use Rattle.std.specs.Prelude.{◌≡◌, refl, Bool, ◌&&◌, List, ℕ, ◌+◌, ◌≤◌, ◌<◌, leb, ltb, ℤ, pos, get_or, is_some}
use Rattle.std.proofs.Common.{◌∙◌, arith}
use Rattle.std.proofs.Math.Bool.{true, false}
use Rattle.std.proofs.Math.Dec.{eqb}
use borrow.Author.Tests.{eqb-true, eqb-false, leb-true, le-leb, ltb-true}
use Rattle.values.specs.Codes.{outside, unsound, code_of}
use Rattle.values.specs.declared.codes.Alarm.TheVariants.{NotAllowed}
use Rattle.values.specs.Choice.{either, if_not, either_both, both, and-true, chosen}
use Rattle.values.specs.Value.{in_range, less_than, feed_of}
use Rattle.values.specs.Curve.{curve_of}
use Rattle.values.specs.CurveLaws.{curve-in-range, curve-alarm}
use Rattle.values.specs.declared.curve.Curve.{Curve}
use Rattle.values.specs.Numbers.{clash}
use Rattle.tokens.specs.Token.{END, EQUALS, OPEN, CLOSE, COMMA, LEFT, RIGHT, IN, IM, POS, FA, MOV, M, SETAL, LOCK, UNLOCK, SYNFCT, between, is_variable, is_axis, has_axis, is_fifo, is_drive, is_call, is_whole, whole, set_size, max_lines, is_lock, is_naming}
use Rattle.tokens.specs.Descent.{token, Answer, good, stop, ◌>>=◌, Read, read, ends, then, is_index, is_indexed, index_at, sum_at, expression_at}
use Rattle.tokens.specs.SingleFault.{lower, curve_fault, read_fault, write_fault, id_fault, call_fault}
use Rattle.checking.specs.Fault.{Sight, wanting, sight, fault_for, is_removal, assigned_at, assignment_at, command_at, is_given, is_synfct, synfct_fault, synfct_at, unindexed_at, action_at}
use Rattle.working.specs.Variables.{variable_value}
use Rattle.working.specs.Operators.{from_worked}
use Rattle.working.specs.Working.{told, value_over, right_value, condition_value, variable_at}
use Rattle.engine.specs.Set.{defined_curve, rank_in, is_known, is_defined, curves_in, set_table, sound_lines, lines_of, lines_of}
use Rattle.engine.specs.Write.{change_fifo, write_to}
use Rattle.engine.specs.Action.{World, Taken, Did, did, lock_of, taken_at, assignment_of, curve_assigned, synfct_of, drive_of, command_of, action_of, from_reached}
use Rattle.engine.specs.declared.write.Change.TheVariants.{Remove}
use Rattle.engine.specs.declared.write.Vars.{Vars}
use Rattle.engine.specs.Drive.{drive_order}
use Rattle.soundness.specs.GoodAnswers.{Holds, holds_then}
use Rattle.soundness.specs.SetSoundLaws.{rank-inside}
use Rattle.soundness.specs.CellSoundLaws.{FlagsRight, lock-keeps}
use Rattle.soundness.specs.WriteSoundLaws.{lower-zero, unless-zero, VarsSound, ChangedSound, remove-keeps, worked-holds, taken-alarm, write_keeps}
use Rattle.soundness.specs.PassLaws.{between-some}
use Rattle.soundness.specs.InStepLaws.{InStep, sum-in-step, expression-in-step}
use Rattle.soundness.specs.WorkSoundLaws.{FitsSight, StopsSight, variable-ranged, variable-calmed, calm-not-22, value-steps}
use Rattle.soundness.specs.CurveSoundLaws.{CurveRanged, definition-ranged}

-- ---- beside the check

-- where the check reads something without a fault, a good answer ends at the same place and holds P
abbrev pub Runs : {A : Type 0} → (A → Type 0) → (A → ℕ) → Answer A → Read ℕ → Type 0
Runs P next x (read f q) = f ≡ 0 → Holds (λ a. (next a ≡ q) × P a) x
Runs P next x (ends k) = Unit {0}

-- the check read something, and found no fault
abbrev pub Clear : Read ℕ → Type 0
Clear (read f q) = f ≡ 0
Clear (ends k) = ⊥

-- an answer that goes on from one that runs beside the check
runs_map : {A B : Type 0} (P : A → Type 0) (n : A → ℕ) (Q : B → Type 0) (m : B → ℕ) (x : Answer A) (f : A → Answer B) (y : Read ℕ) →
    Runs P n x y → ((a : A) (q : ℕ) → n a ≡ q → P a → Holds (λ b. (m b ≡ q) × Q b) (f a)) → Runs Q m (x >>= f) y
runs_map P n Q m x f (read g q) h k = λ e. holds_then (λ a. (n a ≡ q) × P a) (λ b. (m b ≡ q) × Q b) x f (h e) (λ a t. k a q t.0 t.1)
runs_map P n Q m x f (ends c) h k = tt

-- the same beside a check that has one more fault
runs-lower : {A : Type 0} (P : A → Type 0) (n : A → ℕ) (x : Answer A) (y : Read ℕ) (a : ℕ) → (a ≡ 0 → Runs P n x y) → Runs P n x (then y (λ f q. read (lower a f) q))
runs-lower P n x (read f q) a h = λ e. let l = lower-zero a f e in h l.0 l.1
runs-lower P n x (ends c) a h = tt

-- ---- right sides and conditions

abbrev ValueFine : (ℤ × ℕ) → Type 0
ValueFine a = in_range a.0 ≡ true

value-runs : (t : Bool) (x : Read ℤ) (y : Read Sight) → InStep FitsSight StopsSight x y → Runs ValueFine (λ a. a.1) (from_reached (told x)) (fault_for t y)
value-runs t (read v p) (read a q) h = λ e. (h.1, h.0 (lower-zero (wanting t a) a.fault e).1)
value-runs t (read v p) (ends k) h = absurd h
value-runs t (ends c) (read a q) h = λ e. h (lower-zero (wanting t a) a.fault e).1
value-runs t (ends c) (ends k) h = tt

runs-clear : (x : Answer (ℤ × ℕ)) (y : Read ℕ) → Runs ValueFine (λ a. a.1) x y → Clear y → Holds (λ a. Unit {0}) x
runs-clear (good a) (read f q) h e = tt
runs-clear (stop c) (read f q) h e = h e
runs-clear x (ends k) h e = absurd e

abbrev TakenSound : Taken → Type 0
TakenSound a = (in_range a.value ≡ true) × VarsSound a.vars

module _ (s : List ℕ) where
  right-runs : (x : Vars) (p : ℕ) → VarsSound x → Runs ValueFine (λ a. a.1) (from_reached (right_value s x.r x.cells p)) (fault_for false (sum_at s sight set_size p))
  unfolding right_value
  right-runs x p h =
      value-runs false (sum_at s (value_over x.r x.cells) set_size p) (sum_at s sight set_size p)
      (sum-in-step FitsSight StopsSight s (value_over x.r x.cells) sight (value-steps x.r x.cells h) set_size p)

  -- a condition without a fault stops only by an alarm
  pub condition-runs : (x : Vars) (p : ℕ) → VarsSound x → Clear (fault_for true (expression_at s sight set_size p)) → Holds (λ a. Unit {0}) (from_reached (condition_value s x.r x.cells p))
  unfolding condition_value
  condition-runs x p h c =
      runs-clear (from_reached (told (expression_at s (value_over x.r x.cells) set_size p))) (fault_for true (expression_at s sight set_size p))
      (value-runs true (expression_at s (value_over x.r x.cells) set_size p) (expression_at s sight set_size p)
      (expression-in-step FitsSight StopsSight s (value_over x.r x.cells) sight (value-steps x.r x.cells h) set_size p))
      c

  taken_runs : (x : Vars) (p : ℕ) → VarsSound x → Runs TakenSound (λ a. a.next) (taken_at s x p) (assigned_at s set_size p)
  unfolding taken_at assigned_at is_removal
  taken_runs x p h =
      either_both (Runs TakenSound (λ a. a.next)) (is_removal s p)
      (λ e f. holds_then ChangedSound (λ (a : Taken). (a.next ≡ p + 4) × TakenSound a) (change_fifo x.r x.cells Remove (token s p)) _
      (remove-keeps x.r x.cells (token s p) h (both (is_fifo (token s p)) _ e).0) (λ a d. (refl, (d.1, d.0)))) λ e.
      runs_map ValueFine (λ a. a.1) TakenSound (λ a. a.next) (from_reached (right_value s x.r x.cells p)) _ (fault_for false (sum_at s sight set_size p))
      (right-runs x p h) (λ a q n r. (n, (r, h)))

-- ---- curves

-- a variable that stands at p with its index is what is read there
pub variable-there : (s : List ℕ) (r c : List ℤ) (p : ℕ) → is_variable (token s p) ≡ true → is_indexed s (token s p) p ≡ true → variable_at s r c p ≡ variable_value r c (token s p) (index_at s (token s p) p)
unfolding variable_at
variable-there s r c p v i = chosen _ _ _ v ∙ chosen _ _ _ i

-- and so stands that of SYNFCT
synfct-there : (s : List ℕ) (p : ℕ) → is_synfct s p ≡ true → (is_variable (token s (p + 9)) ≡ true) × (is_indexed s (token s (p + 9)) (p + 9) ≡ true)
unfolding is_synfct is_given
synfct-there s p h =
    let nine : p + 8 + 1 ≡ p + 9 = omega arith in
    let n = (both (eqb (token s (p + 1)) OPEN) _ h).1 in
    let w = (both (is_whole (token s (p + 2))) _ n).1 in
    let v = (both (is_given s (p + 3)) _ w).1 in
    let g = (both (is_given s (p + 8)) _ v).0 in
    let i = both (is_variable (token s (p + 8 + 1))) _ (both (eqb (token s (p + 8)) COMMA) _ g).1 in
    (rw nine at i.0, rw nine at i.1)

-- a variable that the check lets be read has a value in range, or stops by an alarm
variable-holds : (x : Vars) (w i : ℕ) → VarsSound x → read_fault w i ≡ 0 → Holds (λ (v : ℤ). in_range v ≡ true) (from_worked (variable_value x.r x.cells w i))
variable-holds x w i h f =
    worked-holds (λ (v : ℤ). in_range v ≡ true) (variable_value x.r x.cells w i) (variable-ranged x.r x.cells w i h.state.ranged h.ranged)
    (λ k e. calm-not-22 (code_of k) (variable-calmed x.r x.cells w i h f k e))

-- a curve whose parameters are in range, assigned where the check allows it, keeps the variables sound
curve-keeps : (x : Vars) (c : Curve) (a : ℤ) (w i : ℕ) → VarsSound x → CurveRanged c → write_fault w i ≡ 0 → Holds VarsSound (curve_assigned x c a w i)
unfolding curve_assigned
curve-keeps x c a w i h r f =
    holds_then (λ (y : ℤ). in_range y ≡ true) VarsSound (from_worked (curve_of c a)) _
    (worked-holds (λ (y : ℤ). in_range y ≡ true) (curve_of c a) (curve-in-range c a r.lower r.upper) (λ k e z. let q = rw (curve-alarm c a k e) at z in omega arith))
    (λ y g. write_keeps x w i y h g f)

-- ---- the beat under way

-- its variables, and the flags of its lines, are sound
pub record WorldSound (count : ℕ) (cancelled : List Bool) (x : World) : Type 0 where
  pub vars : VarsSound x.vars
  pub flags : FlagsRight count x.locked cancelled x.memory

-- an order for a drive stops only by an alarm
drive-any : (number w axis : ℕ) (v : ℤ) → Holds (λ o. Unit {0}) (drive_order number w axis v)
unfolding drive_order feed_of
drive-any number w axis v =
    either (Holds (λ o. Unit {0})) (eqb w POS) (λ e. tt) λ e.
    if_not (Holds (λ o. Unit {0})) (eqb w FA) (λ e. tt) λ e.
    holds_then (λ u. Unit {0}) (λ o. Unit {0}) (from_worked (feed_of v)) _
    (worked-holds (λ u. Unit {0}) (feed_of v) (λ u g. tt) (λ k g z. let q = rw (← taken-alarm (less_than (pos 0) v) v NotAllowed k g) at z in omega arith)) (λ u t. tt)

-- a drive that has its index names an axis, so its target fits a byte
drive-axis : (s : List ℕ) (w p : ℕ) → is_indexed s w p ≡ true → is_drive w ≡ true → is_axis (token s (p + 2)) ≡ true
unfolding is_indexed is_index
drive-axis s w p i d =
    let a : has_axis w ≡ true = le-leb IM w (omega (arith, leb-true POS w (both (leb POS w) (leb w MOV) d).0)) in
    let t = get_or s (p + 2) 0 in
    let e = (both (eqb (get_or s (p + 3) 0) RIGHT) (is_index w t) (both (eqb (get_or s (p + 1) 0) LEFT) (eqb (get_or s (p + 3) 0) RIGHT && is_index w t) i).1).1 in
    rw (is_index, a) at e

module _ (s : List ℕ) (sound : is_some (sound_lines s) ≡ true) (cancelled : List Bool) (number : ℕ) where
  abbrev Fine : World → Type 0
  Fine = WorldSound (lines_of s).count cancelled

  abbrev numbers : List ℕ
  numbers = (lines_of s).numbers

  abbrev DidFine : Did → Type 0
  DidFine d = Fine d.world

  abbrev Beside : Answer Did → Read ℕ → Type 0
  Beside = Runs DidFine (λ d. d.next)

  assignment-runs : (x : World) (w p : ℕ) → Fine x →
      Beside (assignment_of s x w p) (then (assigned_at s set_size (p + 5)) (λ f q. read (lower (write_fault w (index_at s w p)) f) q))
  unfolding assignment_of
  assignment-runs x w p h =
      runs-lower DidFine (λ d. d.next) _ (assigned_at s set_size (p + 5)) (write_fault w (index_at s w p)) λ f.
      runs_map TakenSound (λ a. a.next) DidFine (λ d. d.next) (taken_at s x.vars (p + 5)) _ (assigned_at s set_size (p + 5)) (taken_runs s x.vars (p + 5) h.vars) λ a q n t.
      holds_then VarsSound (λ (d : Did). (d.next ≡ q) × DidFine d) (write_to a.vars w (index_at s w p) a.value) _
      (write_keeps a.vars w (index_at s w p) a.value t.1 t.0 f) (λ v d. (n, record { vars = d; flags = h.flags }))

  -- SYNFCT of a curve of the set
  pub synfct-runs : (x : World) (p : ℕ) → Fine x → is_defined (curves_in s) (whole (token s (p + 2))) ≡ true → Beside (synfct_of s x p) (synfct_at s p)
  unfolding synfct_of synfct_at synfct_fault
  synfct-runs x p h d =
      if_not (Beside _) (is_synfct s p) (λ e. tt) λ e f.
      let n = whole (token s (p + 2)) in
      let w = token s (p + 4) in
      let i = index_at s w (p + 4) in
      let u = token s (p + 9) in
      let j = index_at s u (p + 9) in
      let (c, g) = lower-zero (curve_fault n) (lower (write_fault w i) (read_fault u j)) f in
      let (a, b) = lower-zero (write_fault w i) (read_fault u j) g in
      let t = synfct-there s p e in
      holds_then (λ (y : ℤ). in_range y ≡ true) (λ (d : Did). (d.next ≡ p + 14) × DidFine d) (from_worked (variable_at s x.vars.r x.vars.cells (p + 9))) _
      (rw (variable-there s x.vars.r x.vars.cells (p + 9) t.0 t.1) (variable-holds x.vars u j h.vars b)) λ y r.
      holds_then VarsSound (λ (d : Did). (d.next ≡ p + 14) × DidFine d) (curve_assigned x.vars (defined_curve s n) y w i) _
      (curve-keeps x.vars (defined_curve s n) y w i h.vars (definition-ranged s _) a) (λ v t. (refl, record { vars = t; flags = h.flags }))

  drive-runs : (x : World) (w p : ℕ) → Fine x → is_axis (token s (p + 2)) ≡ true → Beside (drive_of s number x w p) (fault_for false (sum_at s sight set_size (p + 5)))
  unfolding drive_of
  drive-runs x w p h axis =
      if_not (λ z. Beside z (fault_for false (sum_at s sight set_size (p + 5)))) (is_axis (token s (p + 2))) (λ e. clash (cc)) λ e.
      runs_map ValueFine (λ a. a.1) DidFine (λ d. d.next) (from_reached (right_value s x.vars.r x.vars.cells (p + 5))) _
      (fault_for false (sum_at s sight set_size (p + 5))) (right-runs s x.vars (p + 5) h.vars) λ a q n r.
      holds_then (λ o. Unit {0}) (λ (d : Did). (d.next ≡ q) × DidFine d) (drive_order number w (index_at s w p) a.0) _
      (drive-any number w (index_at s w p) a.0) (λ o u. (n, record { vars = h.vars; flags = h.flags }))

  -- LOCK and UNLOCK of a line of the set
  lock-runs : (x : World) (b : Bool) (n q : ℕ) → Fine x → 1 ≤ n → is_known numbers n ≡ true → Holds (λ d. (d.next ≡ q) × DidFine d) (lock_of cancelled x b (rank_in numbers n 0) q)
  unfolding lock_of
  lock-runs x b n q h l k =
      let r = rank_in numbers n 0 in
      if_not (Holds (λ (d : Did). (d.next ≡ q) × DidFine d)) (ltb r max_lines) (λ e. clash (cc)) λ e.
      either (Holds (λ (d : Did). (d.next ≡ q) × DidFine d)) (get_or cancelled r false) (λ c. (refl, h)) λ c.
      let f = lock-keeps (lines_of s).count x.locked cancelled x.memory h.flags r (rank-inside s n l (ltb-true r max_lines e)) b c in
      (refl, record { vars = h.vars; flags = f })

  call-number : (w n : ℕ) → eqb w SETAL ≡ false → call_fault w n ≡ 0 → 1 ≤ n
  unfolding call_fault id_fault
  call-number w n e f = let g = rw e at f in leb-true 1 n (both (leb 1 n) (leb n 255) (unless-zero (between 1 255 n) outside g (omega arith))).0

  call-lock : (w : ℕ) → is_call w ≡ true → eqb w SETAL ≡ false → is_lock w ≡ true
  call-lock w c n =
      let a = leb-true SETAL w (both (leb SETAL w) (leb w UNLOCK) c).0 in
      and-true (le-leb LOCK w (omega (arith, eqb-false w SETAL n))) (both (leb SETAL w) (leb w UNLOCK) c).1

  command-runs : (kw : ℕ) (x : World) (w p : ℕ) → Fine x → (is_lock w ≡ true → is_known numbers (whole (token s (p + 2))) ≡ true) →
      Beside (command_of s numbers cancelled number x w p) (command_at s kw w p)
  unfolding command_of command_at
  command-runs kw x w p h known =
      let n = whole (token s (p + 2)) in
      if_not (Beside (command_of s numbers cancelled number x w p)) (is_whole (token s (p + 2))) (λ e. tt) λ e.
      either_both Beside (eqb w M) (λ m. either (Beside (did (p + 3) _)) (eqb (token s (p + 1)) EQUALS) (λ e f. (refl, record { vars = h.vars; flags = h.flags })) (λ e. tt)) λ m.
      if_not (Beside _) (is_call w && (eqb (token s (p + 1)) OPEN && eqb (token s (p + 3)) CLOSE)) (λ e. tt) λ c.
      either (λ z. Beside z (read (call_fault w n) (p + 4))) (eqb w SETAL) (λ e f. (refl, record { vars = h.vars; flags = h.flags })) λ e.
      if_not (λ z. Beside z (read (call_fault w n) (p + 4))) (is_call w) (λ i. let on : is_call w ≡ true = (both (is_call w) _ c).0 in clash (cc)) λ i f.
      lock-runs x (eqb w LOCK) n (p + 4) h (call-number w n e f) (known (call-lock w (both (is_call w) _ c).0 e))

  -- a word that stands without an index
  unindexed-runs : (kw : ℕ) (x : World) (p : ℕ) → Fine x → (is_naming (token s p) ≡ true → set_table s numbers (token s p) (whole (token s (p + 2))) ≡ true) →
      Beside (elim (eqb (token s p) SYNFCT) [ true ↦ synfct_of s x p | false ↦ command_of s numbers cancelled number x (token s p) p ]) (unindexed_at s kw (token s p) p)
  unfolding unindexed_at
  unindexed-runs kw x p h known =
      let w = token s p in
      either_both Beside (eqb w SYNFCT)
      (λ e. let z = eqb-true w SYNFCT e in let k = rw z at known in synfct-runs x p h (k refl)) λ e.
      command-runs kw x w p h (λ l. let k = rw l at known in k refl)

  -- a word below those of the commands is none
  no-command : (kw : ℕ) (x : Answer Did) (w p : ℕ) → w < M → Beside x (command_at s kw w p)
  unfolding command_at
  no-command kw x w p l =
      if_not (Beside x) (is_whole (token s (p + 2))) (λ e. tt) λ e.
      either (Beside x) (eqb w M) (λ m. absurd (omega (arith, eqb-true w M m))) λ m.
      if_not (Beside x) (is_call w && (eqb (token s (p + 1)) OPEN && eqb (token s (p + 3)) CLOSE)) (λ e. tt) λ e.
      absurd (omega (arith, leb-true SETAL w (both (leb SETAL w) (leb w UNLOCK) (both (is_call w) _ e).0).0))

  no-unindexed : (kw : ℕ) (x : Answer Did) (w p : ℕ) → w < M → Beside x (unindexed_at s kw w p)
  unfolding unindexed_at
  no-unindexed kw x w p l = if_not (Beside x) (eqb w SYNFCT) (λ e. no-command kw x w p l) (λ e. absurd (omega (arith, eqb-true w SYNFCT e)))

  -- a line's end is no action
  no-action : (kw : ℕ) (x : Answer Did) (p : ℕ) → token s p ≡ END → Beside x (action_at s kw set_size p)
  unfolding action_at assignment_at
  no-action kw x p z =
      if_not (Beside x) (is_indexed s (token s p) p) (λ i. no-unindexed kw x (token s p) p (omega arith)) λ i.
      if_not (Beside x) (eqb (token s (p + 4)) EQUALS) (λ q. tt) λ q.
      either (Beside x) (is_variable (token s p)) (λ v. absurd (between-some IN IM (token s p) (omega arith) v z)) λ v.
      either (Beside x) (is_drive (token s p)) (λ d. absurd (between-some POS MOV (token s p) (omega arith) d z)) λ d. tt

  -- an action
  pub action-runs : (kw : ℕ) (x : World) (p : ℕ) → Fine x → (is_naming (token s p) ≡ true → set_table s numbers (token s p) (whole (token s (p + 2))) ≡ true) →
      Beside (action_of s numbers cancelled number x p) (action_at s kw set_size p)
  unfolding action_of action_at assignment_at
  action-runs kw x p h known =
      let w = token s p in
      either (λ z. Beside z (action_at s kw set_size p)) (eqb w END) (λ e. no-action kw (stop unsound) p (eqb-true w END e)) λ e.
      if_not (Beside _) (is_indexed s w p)
      (λ i. either (λ z. Beside z (unindexed_at s kw w p)) (is_variable w) (λ v. no-unindexed kw _ w p (omega (arith, leb-true w IM (both (leb IN w) (leb w IM) v).1))) λ v.
      either (λ z. Beside z (unindexed_at s kw w p)) (is_drive w) (λ d. no-unindexed kw _ w p (omega (arith, leb-true w MOV (both (leb POS w) (leb w MOV) d).1))) λ d.
      unindexed-runs kw x p h known) λ i.
      if_not (Beside _) (eqb (token s (p + 4)) EQUALS) (λ q. tt) λ q.
      either_both Beside (is_variable w) (λ v. assignment-runs x w p h) λ v.
      either_both Beside (is_drive w) (λ d. drive-runs x w p h (drive-axis s w p i d)) (λ d. tt)
