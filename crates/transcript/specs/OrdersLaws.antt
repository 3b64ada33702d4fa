-- A beat has no more orders than its lines may have actions: each action gives at most one. Assumes nothing.
use Rattle.std.specs.Prelude.{Bool, eqb, ltb, length, is_some}
use Rattle.std.proofs.Math.Bool.{true, false}
use mathlib.Core.List.{List, [], ◌∷◌}
use Prim.Native.Nat.{ℕ, zero, suc, ◌+◌, ◌*◌, ◌≤◌}
use native.Mathlib.Omega.{arith}
use Rattle.std.proofs.Math.ListN.{get_or}
use Rattle.std.proofs.Common.{length-append}
use Rattle.values.specs.Choice.{either, if_not}
use Rattle.couplers.specs.declared.channel.Channel.{Channel}
use Rattle.engine.specs.Order.{max_orders, order_size}
use Rattle.engine.specs.OrderLaws.{eight-bytes}
use Rattle.engine.specs.declared.order.Order.{Order}
use Rattle.tokens.specs.Token.{END, M, SETAL, LOCK, SYNFCT, is_variable, is_drive, whole, max_lines, is_axis, is_call, max_actions}
use Rattle.tokens.specs.Descent.{token, Answer, good, stop, index_at}
use Rattle.working.specs.Operators.{from_worked, is_yes}
use Rattle.working.specs.Working.{right_value, condition_value, variable_at}
use Rattle.checking.specs.declared.line.Line.{Line}
use Rattle.engine.specs.declared.state.State.{State}
use Rattle.engine.specs.Set.{defined_curve, rank_in, no_line, lines_of}
use Rattle.tokens.specs.AnswerLaws.{Ok, bind_ok, ok-then}
use Rattle.engine.specs.SetLinesLaws.{lines-lined}
use Rattle.engine.specs.Sound.{is_sound}
use Rattle.engine.specs.Action.{World, Did, ordered, from_reached, lock_of, taken_at, assignment_of, curve_assigned, synfct_of, drive_of, command_of, action_of}
use Rattle.engine.specs.Actions.{actions_of}
use Rattle.engine.specs.Drive.{drive_order}
use Rattle.engine.specs.Write.{write_to}
use Rattle.engine.specs.Turn.{Entry, Turned, worked, remembered, counted, takes_turn, do_turn, try_turn, turn_of, turns_from}
use Rattle.engine.specs.Keyword.{tries, acts, remembers}
use Rattle.engine.specs.Beat.{samples_in, buffer_size, are_inputs, Given, beat_begun, all_turns, whole_beat, turned_answer, beat_answer, kept_in}

-- ---- the bytes of orders that are added

-- at most n bytes of orders more than in x
abbrev Adds : World → ℕ → World → Type 0
Adds x n y = length y.orders ≤ length x.orders + n

abbrev DidAdd : World → ℕ → Answer Did → Type 0
DidAdd x n a = Ok (λ (d : Did). Adds x n d.world) a

abbrev TurnAdds : World → ℕ → Answer Turned → Type 0
TurnAdds x n a = Ok (λ (t : Turned). Adds x n t.world) a

-- an order is eight bytes
order-adds : (x : World) (o : Order) → Adds x order_size (ordered x o)
order-adds x o = simp (length-append, eight-bytes) (omega arith)

lock-adds : (c : List Bool) (x : World) (b : Bool) (k q : ℕ) → DidAdd x order_size (lock_of c x b k q)
unfolding lock_of
lock-adds c x b k q =
    either (DidAdd x order_size) (ltb k max_lines)
    (λ e. either (DidAdd x order_size) (get_or c k false) (λ g. omega arith) (λ g. omega arith))
    (λ e. tt)

assignment-adds : (s : List ℕ) (x : World) (w p : ℕ) → DidAdd x order_size (assignment_of s x w p)
unfolding assignment_of
assignment-adds s x w p =
    bind_ok (λ (d : Did). Adds x order_size d.world) (taken_at s x.vars (p + 5)) _ λ a _.
    bind_ok (λ (d : Did). Adds x order_size d.world) (write_to a.vars w (index_at s w p) a.value) _ λ v _.
    omega arith

synfct-adds : (s : List ℕ) (x : World) (p : ℕ) → DidAdd x order_size (synfct_of s x p)
unfolding synfct_of
synfct-adds s x p =
    bind_ok (λ (d : Did). Adds x order_size d.world) (from_worked (variable_at s x.vars.r x.vars.cells (p + 9))) _ λ a _.
    bind_ok (λ (d : Did). Adds x order_size d.world) (curve_assigned x.vars (defined_curve s (whole (token s (p + 2)))) a (token s (p + 4)) (index_at s (token s (p + 4)) (p + 4))) _ λ v _.
    omega arith

drive-adds : (s : List ℕ) (number : ℕ) (x : World) (w p : ℕ) → DidAdd x order_size (drive_of s number x w p)
unfolding drive_of
drive-adds s number x w p =
    if_not (DidAdd x order_size) (is_axis (get_or s (p + 2) 0)) (λ e. tt) λ e.
    bind_ok (λ (d : Did). Adds x order_size d.world) (from_reached (right_value s x.vars.r x.vars.cells (p + 5))) _ λ a _.
    bind_ok (λ (d : Did). Adds x order_size d.world) (drive_order number w (index_at s w p) a.0) _ λ o _.
    order-adds x o

module _ (s numbers : List ℕ) (cancelled : List Bool) (number : ℕ) where
  command-adds : (x : World) (w p : ℕ) → DidAdd x order_size (command_of s numbers cancelled number x w p)
  unfolding command_of
  command-adds x w p =
      either (DidAdd x order_size) (eqb w M) (λ e. order-adds x _) λ e.
      either (DidAdd x order_size) (eqb w SETAL) (λ g. order-adds x _) λ g.
      if_not (DidAdd x 8) (is_call w) (λ e. tt) λ e.
      lock-adds cancelled x (eqb w LOCK) (rank_in numbers (whole (get_or s (p + 2) 0)) 0) (p + 4)

  action-adds : (x : World) (p : ℕ) → DidAdd x order_size (action_of s numbers cancelled number x p)
  unfolding action_of
  action-adds x p =
      either (DidAdd x order_size) (eqb (get_or s p 0) END) (λ e. tt) λ e.
      either (DidAdd x order_size) (is_variable (get_or s p 0)) (λ g. assignment-adds s x (get_or s p 0) p) λ g.
      either (DidAdd x order_size) (is_drive (get_or s p 0)) (λ h. drive-adds s number x (get_or s p 0) p) λ h.
      either (DidAdd x order_size) (eqb (get_or s p 0) SYNFCT) (λ i. synfct-adds s x p) (λ i. command-adds x (get_or s p 0) p)

  actions-add : (j : ℕ) (x : World) (p : ℕ) → DidAdd x (order_size * j) (actions_of s numbers cancelled number j x p)
  unfolding actions_of
  actions-add zero x p = tt
  actions-add (suc j) x p =
      ok-then (λ (d : Did). Adds x order_size d.world) (λ (d : Did). Adds x (order_size * suc j) d.world) (action_of s numbers cancelled number x p) _ (action-adds x p) λ d h.
      either (DidAdd x (order_size * suc j)) (eqb (get_or s d.next 0) END) (λ e. omega arith) λ e.
      ok-then (λ (f : Did). Adds d.world (order_size * j) f.world) (λ (f : Did). Adds x (order_size * suc j) f.world) (actions_of s numbers cancelled number j d.world d.next) _
      (actions-add j d.world d.next) (λ f g. omega arith)

-- ---- turns

-- the bytes of the orders of a line at most
abbrev turn_bytes : ℕ
turn_bytes = order_size * max_actions

module _ (s numbers : List ℕ) (cancelled : List Bool) (automatic : Bool) where
  do-adds : (l : Line) (k : ℕ) (x : World) (es : List Entry) (b : Bool) → TurnAdds x turn_bytes (do_turn s numbers cancelled automatic l k x es b)
  unfolding do_turn
  do-adds l k x es false = omega arith
  do-adds l k x es true =
      ok-then (λ (d : Did). Adds (counted x k) turn_bytes d.world) (λ (t : Turned). Adds x turn_bytes t.world) (actions_of s numbers cancelled l.number max_actions (counted x k) l.actions) _
      (actions-add s numbers cancelled l.number max_actions (counted x k) l.actions) (λ d h. h)

  try-adds : (l : Line) (k : ℕ) (x : World) → TurnAdds x turn_bytes (try_turn s numbers cancelled automatic l k x)
  unfolding try_turn
  try-adds l k x =
      let m = get_or x.memory k false in
      either (TurnAdds x turn_bytes) (tries l.keyword m)
      (λ e. bind_ok (λ (t : Turned). Adds x turn_bytes t.world) (from_reached (condition_value s x.vars.r x.vars.cells l.condition)) _ λ a _.
      do-adds l k (remembered x k (remembers l.keyword m (is_yes a.0))) (worked k (is_yes a.0) ∷ []) (acts l.keyword m (is_yes a.0)))
      (λ e. do-adds l k x [] (acts l.keyword m false))

  turn-adds : (l : Line) (k : ℕ) (x : World) → TurnAdds x turn_bytes (turn_of s numbers cancelled automatic l k x)
  unfolding turn_of
  turn-adds l k x = either (TurnAdds x turn_bytes) (takes_turn s numbers cancelled automatic l k x) (λ e. try-adds l k x) (λ e. omega arith)

  turns-add : (ls : List Line) (m k : ℕ) (x : World) → TurnAdds x (turn_bytes * m) (turns_from s numbers cancelled automatic ls m k x)
  unfolding turns_from
  turns-add ls zero k x = omega arith
  turns-add ls (suc m) k x =
      ok-then (λ (t : Turned). Adds x turn_bytes t.world) (λ (t : Turned). Adds x (turn_bytes * suc m) t.world) (turn_of s numbers cancelled automatic (get_or ls k no_line) k x) _
      (turn-adds (get_or ls k no_line) k x) λ t h.
      ok-then (λ (u : Turned). Adds t.world (turn_bytes * m) u.world) (λ (u : Turned). Adds x (turn_bytes * suc m) u.world) (turns_from s numbers cancelled automatic ls m (k + 1) t.world) _
      (turns-add ls m (k + 1) t.world) (λ u g. omega arith)

-- ---- the beat

-- the bytes of a beat's orders fit the buffer
pub bytes-within : (s : List ℕ) (st : State) (g : Given) →
    Ok (λ (t : Turned). length t.world.orders ≤ buffer_size) (whole_beat s st g)
unfolding whole_beat beat_begun
bytes-within s st g =
    let P : Answer Turned → Type 0 = Ok (λ (t : Turned). length t.world.orders ≤ buffer_size) in
    either P (is_sound s st)
    (λ e. either P (ltb (length g.buffer) buffer_size) (λ b. tt) λ b.
    either P (are_inputs g.lent)
    (λ h. either P (is_some (samples_in st g))
    (λ v. ok-then (λ (t : Turned). Adds (beat_begun st g) (turn_bytes * (lines_of s).count) t.world) (λ (t : Turned). length t.world.orders ≤ buffer_size)
    (all_turns s (lines_of s) st g) _
    (turns-add s (lines_of s).numbers st.cancelled g.automatic (lines_of s).items (lines_of s).count 0 (beat_begun st g))
    (λ t a. let f = (lines-lined s).few in omega arith))
    (λ v. tt))
    (λ h. tt))
    (λ e. tt)

answered-within : (st : State) (kept : List Channel) (a : Answer Turned) → Ok (λ (t : Turned). length t.world.orders ≤ buffer_size) a → (turned_answer st kept a).orders ≤ max_orders
answered-within st kept (good t) h = omega arith
answered-within st kept (stop k) h = omega arith

pub orders-within : (s : List ℕ) (st : State) (g : Given) → (beat_answer s st g).orders ≤ max_orders
unfolding beat_answer
orders-within s st g = answered-within st (kept_in st g) (whole_beat s st g) (bytes-within s st g)
