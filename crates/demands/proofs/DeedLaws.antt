-- Laws of what a line does at its turn: its actions reach the line's end, and each order that they give carries the line's number; a turn leaves the line alone or does all its
-- actions. Assumes nothing.
use Rattle.std.specs.Prelude.{◌≡◌, ◌≢◌, ◌⊎◌, Bool, eqb, ltb, ℤ, length}
use Rattle.std.proofs.Math.Path.{refl, ap}
use Rattle.std.proofs.Common.{sym, ◌∙◌, arith, length-append}
use Rattle.std.proofs.Math.Logic.{inl, inr}
use Rattle.std.proofs.Math.Bool.{true, false}
use mathlib.Core.List.{List, [], ◌∷◌, ◌++◌, append_assoc, append-nil}
use Prim.Native.Nat.{ℕ, zero, suc, ◌+◌, ◌*◌, ◌^◌}
use Rattle.std.proofs.Math.ListN.{get_or}
use Rattle.std.proofs.Math.Seq.{get_or-set_other}
use borrow.Author.Tests.{eqb-true}
use Rattle.values.specs.Choice.{either, if_not}
use Rattle.values.specs.Value.{feed_of}
use Rattle.tokens.specs.Token.{END, POS, FA, M, SETAL, SYNFCT, is_variable, is_drive, whole, max_lines, max_actions, is_axis, is_call}
use Rattle.tokens.specs.Descent.{token, index_at}
use Rattle.working.specs.Operators.{is_yes, from_worked}
use Rattle.working.specs.Working.{right_value, condition_value}
use Rattle.checking.specs.declared.line.Line.{Line}
use Rattle.engine.specs.declared.order.Order.{Order}
use Rattle.engine.specs.Set.{rank_in}
use Rattle.engine.specs.Order.{order_size, order_bytes}
use Rattle.engine.specs.OrderLaws.{eight-bytes}
use Rattle.engine.specs.Action.{World, Did, from_reached, taken_at, assignment_of, lock_of, command_of, drive_of, action_of}
use Rattle.engine.specs.Actions.{actions_of}
use Rattle.engine.specs.Drive.{drive_order}
use Rattle.engine.specs.Write.{write_to}
use Rattle.engine.specs.Keyword.{tries, acts, remembers}
use Rattle.engine.specs.Turn.{Entry, worked, Turned, remembered, takes_turn, do_turn, try_turn, turn_of}
use Rattle.tokens.specs.AnswerLaws.{Ok, is_ok, bind_ok}
use Rattle.soundness.specs.ActedLaws.{synfct-variables, Fair, actions-fair}
use Rattle.demands.proofs.ActionRuleLaws.{Noted, actions-noted}
use Rattle.demands.specs.Deed.{LeftAlone, acting, DidAll, bytes_of, Each, Gave}

-- ---- orders, one behind the other

bytes-append : (os ps : List Order) → bytes_of (os ++ ps) ≡ bytes_of os ++ bytes_of ps
bytes-append [] ps = refl
bytes-append (o ∷ os) ps = rw (bytes-append os ps) (sym (append_assoc (order_bytes o) (bytes_of os) (bytes_of ps)))

pub bytes-length : (os : List Order) → length (bytes_of os) ≡ order_size * length os
bytes-length [] = refl
bytes-length (o ∷ os) = omega (arith, length-append (order_bytes o) (bytes_of os), eight-bytes o, bytes-length os)

each_append : (P : Order → Type 0) (os ps : List Order) → Each P os → Each P ps → Each P (os ++ ps)
each_append P [] ps h k = k
each_append P (o ∷ os) ps h k = (h.0, each_append P os ps h.1 k)

each_map : (P Q : Order → Type 0) (os : List Order) → ((o : Order) → P o → Q o) → Each P os → Each Q os
each_map P Q [] f h = tt
each_map P Q (o ∷ os) f h = (f o h.0, each_map P Q os f h.1)

module _ (P : Order → Type 0) where
  -- no order
  pub gave-none : (bs : List ℕ) → Gave P bs bs
  gave-none bs = record { given = []; bytes = sym (append-nil bs); such = tt }

  -- one
  pub gave_one : (bs : List ℕ) (o : Order) → P o → Gave P bs (bs ++ order_bytes o)
  gave_one bs o h = record { given = o ∷ []; bytes = ap (λ cs. bs ++ cs) (sym (append-nil (order_bytes o))); such = (h, tt) }

  -- some, and then some more
  pub gave-more : (bs cs ds : List ℕ) → Gave P bs cs → Gave P cs ds → Gave P bs ds
  gave-more bs cs ds g h = record {
    given = g.given ++ h.given;
    bytes = h.bytes ∙ ap (λ xs. xs ++ bytes_of h.given) g.bytes ∙ append_assoc bs (bytes_of g.given) (bytes_of h.given) ∙ ap (λ xs. bs ++ xs) (sym (bytes-append g.given h.given));
    such = each_append P g.given h.given g.such h.such;
  }

pub gave-map : (P Q : Order → Type 0) (bs cs : List ℕ) → ((o : Order) → P o → Q o) → Gave P bs cs → Gave Q bs cs
gave-map P Q bs cs f g = record { given = g.given; bytes = g.bytes; such = each_map P Q g.given f g.such }

-- ---- the actions of a line

-- an order for a drive carries the line's number
drive-line : (number w axis : ℕ) (v : ℤ) → Ok (λ o. o.line ≡ number) (drive_order number w axis v)
unfolding drive_order
drive-line number w axis v =
    let P : Order → Type 0 = λ o. o.line ≡ number in
    either (Ok P) (eqb w POS) (λ e. refl) (λ e. either (Ok P) (eqb w FA) (λ e. bind_ok P (from_worked (feed_of v)) _ (λ u q. refl)) (λ e. refl))

module _ (s numbers : List ℕ) (cancelled : List Bool) (number : ℕ) where
  abbrev Own : Order → Type 0
  Own o = o.line ≡ number

  -- what the action gave
  abbrev Gives : World → Did → Type 0
  Gives x d = Gave Own x.orders d.world.orders

  action-gives : (x : World) (p : ℕ) → Ok (Gives x) (action_of s numbers cancelled number x p)
  unfolding action_of assignment_of drive_of command_of lock_of
  action-gives x p =
      let k : ℕ = rank_in numbers (whole (get_or s (p + 2) 0)) 0 in
      let none : Gave Own x.orders x.orders = gave-none Own x.orders in
      either (Ok (Gives x)) (eqb (get_or s p 0) END) (λ e. tt)
      (λ e. either (Ok (Gives x)) (is_variable (get_or s p 0))
      (λ e. bind_ok (Gives x) (taken_at s x.vars (p + 5)) _ (λ a q. bind_ok (Gives x) (write_to a.vars (get_or s p 0) (index_at s (get_or s p 0) p) a.value) _ (λ v q. none)))
      (λ e. either (Ok (Gives x)) (is_drive (get_or s p 0))
      (λ e. if_not (Ok (Gives x)) (is_axis (get_or s (p + 2) 0)) (λ e. tt)
      (λ e. bind_ok (Gives x) (from_reached (right_value s x.vars.r x.vars.cells (p + 5))) _
      (λ a q. bind_ok (Gives x) (drive_order number (get_or s p 0) (index_at s (get_or s p 0) p) a.0) _
      (λ o q. gave_one Own x.orders o (is_ok Own (drive_order number (get_or s p 0) (index_at s (get_or s p 0) p) a.0) o q (drive-line number (get_or s p 0) (index_at s (get_or s p 0) p) a.0))))))
      (λ e. either (Ok (Gives x)) (eqb (get_or s p 0) SYNFCT) (λ e. synfct-variables s x p (Gives x) (λ v. none))
      (λ e. either (Ok (Gives x)) (eqb (get_or s p 0) M) (λ e. gave_one Own x.orders _ refl)
      (λ e. either (Ok (Gives x)) (eqb (get_or s p 0) SETAL) (λ e. gave_one Own x.orders _ refl)
      (λ e. if_not (Ok (Gives x)) (is_call (get_or s p 0)) (λ e. tt)
      (λ e. either (Ok (Gives x)) (ltb k max_lines)
      (λ e. either (Ok (Gives x)) (get_or cancelled k false) (λ c. none) (λ c. none))
      (λ e. tt))))))))

  -- each order that the actions give carries the line's number, and the last of them stands at the line's end
  abbrev pub Ends : World → Did → Type 0
  Ends x d = Gave (λ o. o.line ≡ number) x.orders d.world.orders × (token s d.next ≡ END)

  pub actions-end : (j : ℕ) (x : World) (p : ℕ) → Ok (Ends x) (actions_of s numbers cancelled number j x p)
  unfolding actions_of
  actions-end zero x p = tt
  actions-end (suc j) x p =
      bind_ok (Ends x) (action_of s numbers cancelled number x p) _
      (λ d q. let h : Gives x d = is_ok (Gives x) (action_of s numbers cancelled number x p) d q (action-gives x p) in
      either (Ok (Ends x)) (eqb (token s d.next) END) (λ e. (h, eqb-true (token s d.next) END e))
      (λ e. bind_ok (Ends x) (actions_of s numbers cancelled number j d.world d.next) _
      (λ f g. let i : Ends d.world f = is_ok (Ends d.world) (actions_of s numbers cancelled number j d.world d.next) f g (actions-end j d.world d.next) in
      (gave-more Own x.orders d.world.orders f.world.orders h i.0, i.1))))

-- ---- a turn

module _ (s numbers : List ℕ) (cancelled : List Bool) (automatic : Bool) (l : Line) (k : ℕ) (x : World) where
  -- the line was left alone; or it did all its actions, and its bit was added to the word
  abbrev pub LeftOrDid : World → Type 0
  LeftOrDid y = LeftAlone k x y ⊎ (DidAll s numbers cancelled l k x y × (y.acted ≡ x.acted + 2 ^ k))

  do-took : (m : List Bool) (es : List Entry) (b : Bool) → ((j : ℕ) → j ≢ k → get_or m j false ≡ get_or x.memory j false) →
      Ok (λ t. LeftOrDid t.world) (do_turn s numbers cancelled automatic l k (record { vars = x.vars; locked = x.locked; memory = m; acted = x.acted; orders = x.orders }) es b)
  unfolding do_turn
  do-took m es false h = inl (record { vars = refl; locked = refl; acted = refl; orders = refl; others = h })
  do-took m es true h =
      bind_ok (λ t. LeftOrDid t.world) (actions_of s numbers cancelled l.number max_actions (acting k m x) l.actions) _
      (λ d q. let a = actions_of s numbers cancelled l.number max_actions (acting k m x) l.actions in
      let e = is_ok (Ends s numbers cancelled l.number (acting k m x)) a d q (actions-end s numbers cancelled l.number max_actions (acting k m x) l.actions) in
      let f = is_ok (Fair s numbers cancelled l.number (acting k m x)) a d q (actions-fair s numbers cancelled l.number max_actions (acting k m x) l.actions) in
      let n = is_ok (Noted s numbers cancelled l.number (acting k m x)) a d q (actions-noted s numbers cancelled l.number max_actions (acting k m x) l.actions) in
      inr (
        record {
          deed = d;
          done = ap (λ z. actions_of s numbers cancelled l.number max_actions (acting k z x) l.actions) n.1 ∙ q;
          world = refl;
          ended = e.1;
          others = λ j i. ap (λ z. get_or z j false) n.1 ∙ h j i;
        },
        f.1,
      ))

  -- so is every turn of the engine
  pub turn-took : Ok (λ t. LeftOrDid t.world) (turn_of s numbers cancelled automatic l k x)
  unfolding turn_of try_turn
  turn-took =
      let P : Turned → Type 0 = λ t. LeftOrDid t.world in
      let m = get_or x.memory k false in
      either (Ok P) (takes_turn s numbers cancelled automatic l k x)
      (λ e. either (Ok P) (tries l.keyword m)
      (λ e. bind_ok P (from_reached (condition_value s x.vars.r x.vars.cells l.condition)) _
      (λ a q. do-took (remembered x k (remembers l.keyword m (is_yes a.0))).memory (worked k (is_yes a.0) ∷ []) (acts l.keyword m (is_yes a.0))
      (λ j i. get_or-set_other x.memory k j _ false i)))
      (λ e. do-took x.memory [] (acts l.keyword m false) (λ j i. refl)))
      (λ e. inl (record { vars = refl; locked = refl; acted = refl; orders = refl; others = λ j i. refl }))
