-- Laws of working an expression beside its check: where the check finds no fault, the value is in range, and the working stops only by an alarm, never by 22. Nothing is assumed.
use Rattle.std.specs.Prelude.{◌≡◌, refl, Bool, true, false, not, ◌&&◌, List, ℕ, ◌≤◌, eqb, leb, ℤ, pos, nat_abs, length, get_or, Result, Ok, Err}
use Rattle.std.proofs.Common.{arith, leb-true}
use Rattle.std.proofs.lemmas.Bool.{eqb-false, not-true}
use Rattle.values.specs.Codes.{outside, read_only, code_of, alarm_with}
use Rattle.values.specs.CodeLaws.{alarm-back}
use Rattle.values.specs.Choice.{either, if_not, either-cond}
use Rattle.values.specs.Value.{top, in_range, valued, sum_of, difference_of, product_of, quotient_of, negation_of}
use Rattle.values.specs.ValueLaws.{Ranged, abs-range, sum-in-range, difference-in-range, product-in-range, quotient-in-range, negation-in-range}
use Rattle.values.specs.Fifo.{places, sum_first, oldest_of, newest_of, total_of, count_of}
use Rattle.values.specs.FifoLaws.{fits-holds, PlacesRanged, oldest-in-range, newest-in-range, total-in-range, count-in-range}
use Rattle.values.specs.Numbers.{clash}
use Rattle.values.specs.declared.codes.Alarm.{Alarm}
use Rattle.values.specs.declared.codes.Alarm.TheVariants.{OutOfRange, ZeroDivisor, FifoEmpty}
use Rattle.tokens.specs.Token.{MINUS, PLUS, TIMES, OVER, R, is_logic, is_fifo, thousandths}
use Rattle.tokens.specs.Descent.{Answer, good}
use Rattle.tokens.specs.Index.{is_inside}
use Rattle.working.specs.Variables.{cell_of, fifo_of, run, beat_count, fifo_value, fifo_at, variable_value}
use Rattle.tokens.specs.SingleFault.{lower, unless, number_fault, read_fault}
use Rattle.checking.specs.Fault.{wanting, Sight, join_sights, sight}
use Rattle.working.specs.Operators.{from_worked, yes_no, is_yes, join_truths, join_values}
use Rattle.working.specs.Working.{value_over}
use Rattle.tokens.specs.IndexLaws.{last-inside, last-fifo}
use Rattle.soundness.specs.GoodAnswers.{Not22}
use Rattle.soundness.specs.CellSoundLaws.{run-ranged}
use Rattle.soundness.specs.WriteSoundLaws.{lower-zero, unless-zero, BeatSound, run_length, count-few}
use Rattle.soundness.specs.InStepLaws.{Agree, Steps}

-- ---- what the variables read is in range

same-ranged : (z : ℤ) → in_range z ≡ true → Ranged (Ok z)
same-ranged z h v e = let q : z ≡ v = cc in rw (← q) h

alarm-ranged : (k : Alarm) → Ranged (Err k)
alarm-ranged k v e = clash (cc)

fifo-ranged : (xs : List ℤ) (n i : ℕ) → PlacesRanged xs → Ranged (fifo_value xs n i)
unfolding fifo_value
fifo-ranged xs n i h =
    either Ranged (eqb i 1) (λ e. oldest-in-range xs n h) λ e.
    either Ranged (eqb i 2) (λ e. newest-in-range xs n h) λ e.
    either Ranged (eqb i 3) (λ e. total-in-range xs n) λ e.
    either Ranged (eqb i 4) (λ e. count-in-range xs n) (λ e. alarm-ranged _)

-- over R and cells that are in range
pub variable-ranged : (r c : List ℤ) (w i : ℕ) → PlacesRanged r → PlacesRanged c → Ranged (variable_value r c w i)
unfolding variable_value fifo_at
variable-ranged r c w i h k =
    if_not Ranged (is_inside w i) (λ e. alarm-ranged _) λ e.
    either Ranged (eqb w R) (λ e. same-ranged (get_or r i (pos 0)) (h i)) λ e.
    either Ranged (is_fifo w) (λ e. fifo-ranged (run r (fifo_of w)) (beat_count c (fifo_of w)) i (run-ranged r (fifo_of w) h)) (λ e. same-ranged _ (k (cell_of w i)))

-- ---- what is worked stops by no 22

-- a code that is told as another than 22
abbrev pub Calm : ℕ → Type 0
Calm k = Not22 (code_of (alarm_with k))

calm_code : (a : Alarm) → Not22 (code_of a) → Calm (code_of a)
calm_code a h = rw (alarm-back a) h

-- so it is another itself
pub calm-not-22 : (k : ℕ) → Calm k → Not22 k
calm-not-22 k c e = let d = rw e at c in d refl

-- the alarm of what was worked, if it is one
abbrev pub Calmed : Result ℤ Alarm → Type 0
Calmed x = (k : Alarm) → x ≡ Err k → Calm (code_of k)

value-calmed : (v : ℤ) → Calmed (Ok v)
value-calmed v k e = clash (cc)

alarm-calmed : (a : Alarm) → Not22 (code_of a) → Calmed (Err a)
alarm-calmed a h k e = let q : a ≡ k = cc in rw (← q) (calm_code a h)

valued-calmed : (z : ℤ) → Calmed (valued z)
unfolding valued
valued-calmed z = either-cond Calmed (in_range z) _ _ (value-calmed z) (alarm-calmed OutOfRange (λ e. omega arith))

quotient-calmed : (a b : ℤ) → Calmed (quotient_of a b)
unfolding quotient_of
quotient-calmed a b = either-cond Calmed (eqb (nat_abs b) 0) _ _ (alarm-calmed ZeroDivisor (λ e. omega arith)) (valued-calmed _)

-- a FIFO of sixteen places with a count, read at [1] to [4]
fifo-calmed : (xs : List ℤ) (n i : ℕ) → length xs ≡ places → n ≤ places → eqb i 0 ≡ false → i ≤ 4 → Calmed (fifo_value xs n i)
unfolding fifo_value oldest_of newest_of total_of count_of
fifo-calmed xs n i s l z m =
    let f = fits-holds xs n s l in
    let empty = alarm-calmed FifoEmpty (λ e. omega arith) in
    either Calmed (eqb i 1) (λ e. rw f (either-cond Calmed (eqb n 0) _ _ empty (value-calmed _))) λ e1.
    either Calmed (eqb i 2) (λ e. rw f (either-cond Calmed (eqb n 0) _ _ empty (value-calmed _))) λ e2.
    either Calmed (eqb i 3) (λ e. rw f (valued-calmed (sum_first xs n))) λ e3.
    either Calmed (eqb i 4) (λ e. rw f (value-calmed _)) λ e4.
    absurd (omega (arith, eqb-false i 0 z, eqb-false i 1 e1, eqb-false i 2 e2, eqb-false i 3 e3, eqb-false i 4 e4))

-- a variable that the check lets be read
pub variable-calmed : (r c : List ℤ) (w i : ℕ) → BeatSound r c → read_fault w i ≡ 0 → Calmed (variable_value r c w i)
unfolding variable_value fifo_at read_fault
variable-calmed r c w i h f =
    let g = lower-zero (unless (is_inside w i) outside) (unless (not (is_fifo w && eqb i 0)) read_only) f in
    let n = not-true (is_fifo w && eqb i 0) (unless-zero (not (is_fifo w && eqb i 0)) read_only g.1 (omega arith)) in
    let y = unless-zero (is_inside w i) outside g.0 (omega arith) in
    if_not Calmed (is_inside w i) (λ l. clash (cc)) λ l.
    either Calmed (eqb w R) (λ e. value-calmed _) λ e.
    if_not Calmed (is_fifo w) (λ p. value-calmed _) λ p.
    fifo-calmed (run r (fifo_of w)) (beat_count c (fifo_of w)) i (run_length r c w h p) (count-few r c w h p) (rw p at n) (rw (last-fifo w p) at (last-inside w i l))

-- ---- the value and the check

-- where the check found no fault, a value is in range
abbrev pub FitsSight : ℤ → Sight → Type 0
FitsSight v a = a.fault ≡ 0 → in_range v ≡ true

-- and what stopped the working is told as another code than 22
abbrev pub StopsSight : ℕ → Sight → Type 0
StopsSight k a = a.fault ≡ 0 → Calm k

abbrev Beside : Answer ℤ → Answer Sight → Type 0
Beside = Agree FitsSight StopsSight

worked_beside : (x : Result ℤ Alarm) (a : Sight) → Ranged x → (a.fault ≡ 0 → Calmed x) → Beside (from_worked x) (good a)
worked_beside (Ok v) a h g = λ e. h v refl
worked_beside (Err k) a h g = λ e. g e k refl

truth-ranged : (b : Bool) → in_range (yes_no b) ≡ true
truth-ranged true = abs-range (pos 1) (omega arith)
truth-ranged false = abs-range (pos 0) (omega arith)

pub number_fits_lem : (n : ℕ) → number_fault n ≡ 0 → in_range (pos (thousandths n)) ≡ true
unfolding number_fault
number_fits_lem n e = abs-range (pos (thousandths n)) (leb-true (thousandths n) top (unless-zero (leb (thousandths n) top) outside e (omega arith)))

join-beside : (o : ℕ) (a b : ℤ) (x : Sight) → Beside (join_values o a b) (good x)
unfolding join_values product_of sum_of difference_of
join-beside o a b x =
    either P (eqb o TIMES) (λ e. worked_beside (product_of a b) x (product-in-range a b) (λ f. valued-calmed _)) λ e.
    either P (eqb o OVER) (λ e. worked_beside (quotient_of a b) x (quotient-in-range a b) (λ f. quotient-calmed a b)) λ e.
    either P (eqb o PLUS) (λ e. worked_beside (sum_of a b) x (sum-in-range a b) (λ f. valued-calmed _)) λ e.
    either P (eqb o MINUS) (λ e. worked_beside (difference_of a b) x (difference-in-range a b) (λ f. valued-calmed _)) (λ e f. truth-ranged (join_truths o a b))
  where
    P : Answer ℤ → Type 0
    P y = Beside y (good x)

-- working and checking are in step, over the variables of a beat
pub value-steps : (r c : List ℤ) → BeatSound r c → Steps FitsSight StopsSight (value_over r c) sight
unfolding value_over sight join_sights negation_of
value-steps r c h = record {
  number = λ n. number_fits_lem n;
  variable = λ w i. worked_beside (variable_value r c w i) _ (variable-ranged r c w i h.state.ranged h.ranged) (variable-calmed r c w i h);
  truth = λ b e. truth-ranged b;
  minus = λ a b o. worked_beside (negation_of a) _ (negation-in-range a) (λ f. valued-calmed _);
  not = λ a b o e. truth-ranged (not (is_yes a));
  join = λ o a d b e p q. join-beside o a d _;
  minus_carries = λ b c x e. x (lower-zero (wanting false b) b.fault e).1;
  not_carries = λ b c x e. x (lower-zero (wanting true b) b.fault e).1;
  left_carries = λ o b d c x e. x (lower-zero b.fault d.fault (lower-zero (lower (wanting (is_logic o) b) (wanting (is_logic o) d)) (lower b.fault d.fault) e).1).0;
  right_carries = λ o b d c x e. x (lower-zero b.fault d.fault (lower-zero (lower (wanting (is_logic o) b) (wanting (is_logic o) d)) (lower b.fault d.fault) e).1).1;
}
