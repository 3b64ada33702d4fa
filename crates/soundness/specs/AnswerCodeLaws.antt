-- Laws of the codes that stop a working: whatever is read, written or worked in a turn, of any set and any state, stops only by 22 or an alarm of 30 to 34. Nothing is assumed.
use Rattle.std.specs.Prelude.{◌≡◌, refl, Bool, List, eqb, ltb, ℤ, Result, Ok, Err}
use Rattle.std.proofs.Common.{sym, subst, inl, inr}
use Rattle.std.proofs.Math.Bool.{true, false}
use Prim.Native.Nat.{ℕ, zero, suc, ◌+◌}
use Rattle.std.proofs.Math.ListN.{get_or}
use Rattle.values.specs.Codes.{unsound, out_of_range, zero_divisor, fifo_empty, fifo_full, not_allowed, code_of, alarm_with}
use Rattle.values.specs.declared.codes.Alarm.{Alarm}
use Rattle.values.specs.declared.codes.Alarm.TheVariants.{OutOfRange, ZeroDivisor, FifoEmpty, FifoFull, NotAllowed, Unsound}
use Rattle.values.specs.Choice.{either, if_not}
use Rattle.values.specs.Value.{sum_of, difference_of, product_of, quotient_of, negation_of, feed_of}
use Rattle.tokens.specs.Token.{END, M, POS, FA, SETAL, TRUE, FALSE, OPEN, CLOSE, MINUS, PLUS, NOT, TIMES, OVER, SYNFCT, is_number, is_variable, is_drive, is_factor, is_term, is_compare, whole, number_carried, set_size, max_lines, max_actions, is_axis, is_call}
use Rattle.tokens.specs.Descent.{token, Answer, good, stop, Read, read, ends, then, up_to, Meaning, is_row, is_indexed, index_at, joined, more, read_product, read_sum, read_rest, read_expression, read_close, read_variable, read_truth, operand_from, read_operand, sum_at, expression_at}
use Rattle.checking.specs.Fault.{is_removal}
use Rattle.checking.specs.declared.line.Line.{Line}
use Rattle.working.specs.Operators.{from_worked, join_values}
use Rattle.working.specs.Variables.{variable_value}
use Rattle.working.specs.Working.{told, value_over, condition_value, right_value}
use Rattle.engine.specs.Set.{no_line, rank_in}
use Rattle.engine.specs.declared.write.Change.TheVariants.{Remove}
use Rattle.engine.specs.declared.write.Vars.{Vars}
use Rattle.engine.specs.Write.{change_fifo, write_to}
use Rattle.engine.specs.Drive.{drive_order}
use Rattle.engine.specs.Action.{World, Did, from_reached, lock_of, taken_at, assignment_of, drive_of, command_of, action_of}
use Rattle.engine.specs.Actions.{actions_of}
use Rattle.engine.specs.Keyword.{tries}
use Rattle.engine.specs.Turn.{Entry, takes_turn, do_turn, try_turn, turn_of, turns_from}
use Rattle.soundness.specs.AnswerCodes.{OneOf, turn_codes}
use Rattle.soundness.specs.VariableCodeLaws.{StopsBy, stops_then, Such, fifo-change-by, write-by, synfct-by}

-- ---- reading, over any meaning

module _ (P : ℕ → Type 0) where
  abbrev EndsBy : {A : Type 0} → Read A → Type 0
  EndsBy (read a p) = Unit {0}
  EndsBy (ends c) = P c

  ends-then : {A B : Type 0} (x : Read A) (f : A → ℕ → Read B) → EndsBy x → ((a : A) (p : ℕ) → EndsBy (f a p)) → EndsBy (then x f)
  ends-then (read a p) f h k = k a p
  ends-then (ends c) f h k = h

  ends-up : {A : Type 0} (x : Answer A) (p : ℕ) → StopsBy P x → EndsBy (up_to x p)
  ends-up (good a) p h = tt
  ends-up (stop c) p h = h

  -- a meaning whose operators, variables and numbers stop only so
  record Codes {A : Type 0} (𝓜 : Meaning A) : Type 0 where
    number : (n : ℕ) → StopsBy P (𝓜.number n)
    variable : (w i : ℕ) → StopsBy P (𝓜.variable w i)
    minus : (a : A) → StopsBy P (𝓜.minus a)
    join : (o : ℕ) (a b : A) → StopsBy P (𝓜.join o a b)
    wrong : P 𝓜.wrong

  module _ (s : List ℕ) {A : Type 0} (𝓜 : Meaning A) (codes : Codes 𝓜) where
    -- a reader that ends only so, wherever it begins
    abbrev EndsSo : (ℕ → Read A) → Type 0
    EndsSo f = (p : ℕ) → EndsBy (f p)

    joined-told : (f : ℕ → Read A) → EndsSo f → (o : ℕ) (a : A) → EndsSo (joined s 𝓜 f o a)
    unfolding joined
    joined-told f h o a p = ends-then (f (p + 1)) _ (h (p + 1)) (λ b q. ends-up (𝓜.join o a b) q (codes.join o a b))

    more-told : (is_op : ℕ → Bool) (f : ℕ → Read A) → EndsSo f → (k : ℕ) (a : A) → EndsSo (more s 𝓜 is_op f k a)
    unfolding more
    more-told is_op f h zero a p = tt
    more-told is_op f h (suc k) a p = either EndsBy (is_op (token s p)) (λ e. ends-then (joined s 𝓜 f (token s p) a p) _ (joined-told f h (token s p) a p) (λ b q. more-told is_op f h k b q)) (λ e. tt)

    product-told : (f : ℕ → Read A) → EndsSo f → (k : ℕ) → EndsSo (read_product s 𝓜 f k)
    unfolding read_product
    product-told f h k p = ends-then (f p) _ (h p) (more-told is_factor f h k)

    sum_told : (f : ℕ → Read A) → EndsSo f → (k : ℕ) → EndsSo (read_sum s 𝓜 f k)
    unfolding read_sum
    sum_told f h k p = ends-then (read_product s 𝓜 f k p) _ (product-told f h k p) (more-told is_term (read_product s 𝓜 f k) (product-told f h k) k)

    rest-told : (f : ℕ → Read A) → EndsSo f → (k : ℕ) (a : A) → EndsSo (read_rest s 𝓜 f k a)
    unfolding read_rest
    rest-told f h k a p =
        either EndsBy (is_compare (token s p)) (λ e. joined-told (read_sum s 𝓜 f k) (sum_told f h k) (token s p) a p) (λ e. more-told (is_row (token s p)) (read_sum s 𝓜 f k) (sum_told f h k) k a p)

    expression-told : (f : ℕ → Read A) → EndsSo f → (k : ℕ) → EndsSo (read_expression s 𝓜 f k)
    unfolding read_expression
    expression-told f h k p = ends-then (read_sum s 𝓜 f k p) _ (sum_told f h k p) (rest-told f h k)

    operand-from-told : (f : ℕ → Read A) → EndsSo f → (k p t : ℕ) → EndsBy (operand_from s 𝓜 f k p t)
    unfolding operand_from read_variable read_close read_truth
    operand-from-told f h k p t =
        either EndsBy (is_number t) (λ e. ends-up (𝓜.number (number_carried t)) (p + 1) (codes.number (number_carried t))) λ e.
        either EndsBy (is_variable t) (λ e. either EndsBy (is_indexed s t p) (λ e. ends-up (𝓜.variable t (index_at s t p)) (p + 4) (codes.variable t (index_at s t p))) (λ e. codes.wrong)) λ e.
        either EndsBy (eqb t OPEN)
        (λ e. ends-then (read_expression s 𝓜 f k (p + 1)) _ (expression-told f h k (p + 1)) (λ a q. either EndsBy (eqb (token s q) CLOSE) (λ e. tt) (λ e. codes.wrong))) λ e.
        either EndsBy (eqb t MINUS) (λ e. ends-then (f (p + 1)) _ (h (p + 1)) (λ a q. ends-up (𝓜.minus a) q (codes.minus a))) λ e.
        either EndsBy (eqb t NOT) (λ e. ends-then (f (p + 1)) _ (h (p + 1)) (λ a q. tt)) λ e.
        either EndsBy (eqb t TRUE) (λ e. tt) (λ e. either EndsBy (eqb t FALSE) (λ e. tt) (λ e. codes.wrong))

    operand-told : (k : ℕ) → EndsSo (read_operand s 𝓜 k)
    unfolding read_operand
    operand-told zero p = codes.wrong
    operand-told (suc k) p = operand-from-told (read_operand s 𝓜 k) (operand-told k) k p (token s p)

    sum_at-told : (k : ℕ) → EndsSo (sum_at s 𝓜 k)
    unfolding sum_at
    sum_at-told k p = sum_told (read_operand s 𝓜 k) (operand-told k) k p

    expression_at-told : (k : ℕ) → EndsSo (expression_at s 𝓜 k)
    unfolding expression_at
    expression_at-told k p = expression-told (read_operand s 𝓜 k) (operand-told k) k p

-- ---- working

abbrev pub TurnCode : ℕ → Type 0
TurnCode c = OneOf c turn_codes

-- 22, then 30 to 34
is-22 : TurnCode unsound
is-22 = inl refl

is-30 : TurnCode out_of_range
is-30 = inr (inl refl)

is-31 : TurnCode zero_divisor
is-31 = inr (inr (inl refl))

is_32 : TurnCode fifo_empty
is_32 = inr (inr (inr (inl refl)))

is-33 : TurnCode fifo_full
is-33 = inr (inr (inr (inr (inl refl))))

is-34 : TurnCode not_allowed
is-34 = inr (inr (inr (inr (inr (inl refl)))))

-- what variables and curves stop by is among them
such : Such TurnCode
such = record { is-22 = is-22; is-30 = is-30; is_32 = is_32; is-33 = is-33; is-34 = is-34 }

-- the code of an alarm
alarm-by : (a : Alarm) → TurnCode (code_of a)
alarm-by OutOfRange = is-30
alarm-by ZeroDivisor = is-31
alarm-by FifoEmpty = is_32
alarm-by FifoFull = is-33
alarm-by NotAllowed = is-34
alarm-by Unsound = is-22

worked-by : (x : Result ℤ Alarm) → StopsBy TurnCode (from_worked x)
worked-by (Ok v) = tt
worked-by (Err a) = alarm-by a

join_by : (o : ℕ) (a b : ℤ) → StopsBy TurnCode (join_values o a b)
unfolding join_values
join_by o a b =
    let P : Answer ℤ → Type 0 = StopsBy TurnCode in
    either P (eqb o TIMES) (λ e. worked-by (product_of a b)) λ e.
    either P (eqb o OVER) (λ e. worked-by (quotient_of a b)) λ e.
    either P (eqb o PLUS) (λ e. worked-by (sum_of a b)) λ e.
    either P (eqb o MINUS) (λ e. worked-by (difference_of a b)) (λ e. tt)

value-codes : (r c : List ℤ) → Codes TurnCode (value_over r c)
unfolding value_over
value-codes r c = record {
  number = λ n. tt;
  variable = λ w i. worked-by (variable_value r c w i);
  minus = λ a. worked-by (negation_of a);
  join = join_by;
  wrong = is-22;
}

-- each of them is an alarm's, or 22: as an alarm it keeps its number
code-back : (k : ℕ) → TurnCode k → code_of (alarm_with k) ≡ k
code-back k (inl e) = rw (sym e)
code-back k (inr (inl e)) = rw (sym e)
code-back k (inr (inr (inl e))) = rw (sym e)
code-back k (inr (inr (inr (inl e)))) = rw (sym e)
code-back k (inr (inr (inr (inr (inl e))))) = rw (sym e)
code-back k (inr (inr (inr (inr (inr (inl e)))))) = rw (sym e)
code-back k (inr (inr (inr (inr (inr (inr x)))))) = absurd x

module _ (s : List ℕ) (r c : List ℤ) (n p : ℕ) where
  -- any walk over any tokens ends so, if it does: `told` makes 22 of no other number
  ends-by : (x : Read ℤ) → EndsBy TurnCode x → (k : ℕ) → x ≡ ends k → TurnCode k
  ends-by x h k e = subst (λ (y : Read ℤ). EndsBy TurnCode y) e h

  -- the right side and the condition that begin at any place
  pub sum-ends : (k : ℕ) → sum_at s (value_over r c) n p ≡ ends k → TurnCode k
  sum-ends = ends-by (sum_at s (value_over r c) n p) (sum_at-told TurnCode s (value_over r c) (value-codes r c) n p)

  pub expression-ends : (k : ℕ) → expression_at s (value_over r c) n p ≡ ends k → TurnCode k
  expression-ends = ends-by (expression_at s (value_over r c) n p) (expression_at-told TurnCode s (value_over r c) (value-codes r c) n p)

  pub sum-kept : (k : ℕ) → sum_at s (value_over r c) n p ≡ ends k → code_of (alarm_with k) ≡ k
  sum-kept k e = code-back k (sum-ends k e)

  pub expression-kept : (k : ℕ) → expression_at s (value_over r c) n p ≡ ends k → code_of (alarm_with k) ≡ k
  expression-kept k e = code-back k (expression-ends k e)

told-by : (x : Read ℤ) → StopsBy TurnCode (from_reached (told x))
told-by (read v p) = tt
told-by (ends c) = alarm-by (alarm_with c)

right_by : (s : List ℕ) (r c : List ℤ) (p : ℕ) → StopsBy TurnCode (from_reached (right_value s r c p))
unfolding right_value
right_by s r c p = told-by (sum_at s (value_over r c) set_size p)

condition-by : (s : List ℕ) (r c : List ℤ) (p : ℕ) → StopsBy TurnCode (from_reached (condition_value s r c p))
unfolding condition_value
condition-by s r c p = told-by (expression_at s (value_over r c) set_size p)

-- ---- actions and turns

drive-by : (number w axis : ℕ) (v : ℤ) → StopsBy TurnCode (drive_order number w axis v)
unfolding drive_order feed_of
drive-by number w axis v =
    either (StopsBy TurnCode) (eqb w POS) (λ e. tt) λ e.
    either (StopsBy TurnCode) (eqb w FA) (λ e. stops_then TurnCode (from_worked (feed_of v)) _ (worked-by (feed_of v)) (λ u. tt)) (λ e. tt)

taken-by : (s : List ℕ) (x : Vars) (p : ℕ) → StopsBy TurnCode (taken_at s x p)
unfolding taken_at
taken-by s x p =
    either (StopsBy TurnCode) (is_removal s p) (λ e. stops_then TurnCode (change_fifo x.r x.cells Remove (get_or s p 0)) _ (fifo-change-by TurnCode such x.r x.cells Remove (get_or s p 0)) (λ a. tt))
    (λ e. stops_then TurnCode (from_reached (right_value s x.r x.cells p)) _ (right_by s x.r x.cells p) (λ a. tt))

module _ (s numbers : List ℕ) (cancelled : List Bool) where
  action-by : (number : ℕ) (x : World) (p : ℕ) → StopsBy TurnCode (action_of s numbers cancelled number x p)
  unfolding action_of assignment_of drive_of command_of lock_of
  action-by number x p =
      let P : Answer Did → Type 0 = StopsBy TurnCode in
      let w = token s p in
      let k = rank_in numbers (whole (token s (p + 2))) 0 in
      either P (eqb w END) (λ e. is-22) λ e.
      either P (is_variable w)
      (λ e. stops_then TurnCode (taken_at s x.vars (p + 5)) _ (taken-by s x.vars (p + 5)) λ a.
      stops_then TurnCode (write_to a.vars w (index_at s w p) a.value) _ (write-by TurnCode such a.vars w (index_at s w p) a.value) (λ v. tt)) λ e.
      either P (is_drive w)
      (λ e. if_not P (is_axis (token s (p + 2))) (λ e. is-22) λ e.
      stops_then TurnCode (from_reached (right_value s x.vars.r x.vars.cells (p + 5))) _ (right_by s x.vars.r x.vars.cells (p + 5)) λ a.
      stops_then TurnCode (drive_order number w (index_at s w p) a.0) _ (drive-by number w (index_at s w p) a.0) (λ o. tt)) λ e.
      either P (eqb w SYNFCT) (λ e. synfct-by TurnCode such s x p) λ e.
      either P (eqb w M) (λ e. tt) λ e.
      either P (eqb w SETAL) (λ e. tt) λ e.
      if_not P (is_call w) (λ e. is-22) λ e.
      either P (ltb k max_lines) (λ e. either P (get_or cancelled k false) (λ e. tt) (λ e. tt)) (λ e. is-22)

  actions-by : (number j : ℕ) (x : World) (p : ℕ) → StopsBy TurnCode (actions_of s numbers cancelled number j x p)
  unfolding actions_of
  actions-by number zero x p = is-22
  actions-by number (suc j) x p =
      stops_then TurnCode (action_of s numbers cancelled number x p) _ (action-by number x p) λ d.
      either (StopsBy TurnCode) (eqb (token s d.next) END) (λ e. tt)
      (λ e. stops_then TurnCode (actions_of s numbers cancelled number j d.world d.next) _ (actions-by number j d.world d.next) (λ f. tt))

  module _ (automatic : Bool) where
    do-by : (l : Line) (k : ℕ) (x : World) (es : List Entry) (b : Bool) → StopsBy TurnCode (do_turn s numbers cancelled automatic l k x es b)
    unfolding do_turn
    do-by l k x es false = tt
    do-by l k x es true = stops_then TurnCode (actions_of s numbers cancelled l.number max_actions _ l.actions) _ (actions-by l.number max_actions _ l.actions) (λ d. tt)

    turn_by : (l : Line) (k : ℕ) (x : World) → StopsBy TurnCode (turn_of s numbers cancelled automatic l k x)
    unfolding turn_of try_turn
    turn_by l k x =
        let m = get_or x.memory k false in
        either (StopsBy TurnCode) (takes_turn s numbers cancelled automatic l k x)
        (λ e. either (StopsBy TurnCode) (tries l.keyword m)
        (λ e. stops_then TurnCode (from_reached (condition_value s x.vars.r x.vars.cells l.condition)) _ (condition-by s x.vars.r x.vars.cells l.condition) (λ a. do-by l k _ _ _))
        (λ e. do-by l k x _ _))
        (λ e. tt)

    -- the turns of any lines
    pub turns-by : (ls : List Line) (m k : ℕ) (x : World) → StopsBy TurnCode (turns_from s numbers cancelled automatic ls m k x)
    unfolding turns_from
    turns-by ls zero k x = tt
    turns-by ls (suc m) k x =
        stops_then TurnCode (turn_of s numbers cancelled automatic (get_or ls k no_line) k x) _ (turn_by (get_or ls k no_line) k x) λ t.
        stops_then TurnCode (turns_from s numbers cancelled automatic ls m (k + 1) t.world) _ (turns-by ls m (k + 1) t.world) (λ u. tt)
