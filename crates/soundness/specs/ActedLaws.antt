-- The word of the lines that acted: no action writes it, and after the turns of a beat it has bits of lines of the set alone. Nothing is assumed.
use Rattle.std.specs.Prelude.{◌≡◌, refl, Bool, cond, eqb, ltb}
use Rattle.std.proofs.Common.{◌∙◌, add-one, pow-suc, ltb-true}
use Rattle.std.proofs.Math.Bool.{true, false}
use mathlib.Core.List.{List, [], ◌∷◌, ◌++◌}
use Prim.Native.Nat.{ℕ, zero, suc, ◌+◌, ◌*◌, ◌^◌, ◌<◌, ◌≤◌}
use native.Mathlib.Omega.{arith}
use Rattle.std.proofs.Math.Nat.{div-eq_of_lt, pow-le-pow_right}
use Rattle.std.proofs.Math.ListN.{get_or}
use Rattle.values.specs.Choice.{either, if_not}
use Rattle.tokens.specs.Token.{END, M, SETAL, SYNFCT, is_variable, is_drive, whole, max_lines, max_actions, is_axis, is_call}
use Rattle.tokens.specs.Descent.{token, index_at}
use Rattle.tokens.specs.AnswerLaws.{Ok, is_ok, bind_ok, ok-then}
use Rattle.working.specs.Operators.{is_yes, from_worked}
use Rattle.working.specs.Working.{right_value, condition_value, variable_at}
use Rattle.checking.specs.declared.line.Line.{Line}
use Rattle.engine.specs.Set.{no_line, rank_in, defined_curve}
use Rattle.engine.specs.ActCount.{is_acted}
use Rattle.engine.specs.Action.{World, Note, Did, with_vars, from_reached, taken_at, assignment_of, curve_assigned, synfct_of, lock_of, command_of, drive_of, action_of}
use Rattle.engine.specs.Actions.{actions_of}
use Rattle.engine.specs.Drive.{drive_order}
use Rattle.engine.specs.declared.write.Vars.{Vars}
use Rattle.engine.specs.Write.{write_to}
use Rattle.engine.specs.Keyword.{tries, acts}
use Rattle.engine.specs.Turn.{Entry, worked, Turned, remembered, counted, takes_turn, do_turn, try_turn, turn_of, turns_from}

-- ---- actions

-- these locks and releases name lines that are not cancelled
abbrev pub Live : List Bool → List Note → Type 0
Live cs [] = Unit {0}
Live cs (n ∷ ns) = (n.0 < max_lines) × (get_or cs n.0 false ≡ false) × Live cs ns

live-append : (cs : List Bool) (ms ns : List Note) → Live cs ms → Live cs ns → Live cs (ms ++ ns)
live-append cs [] ns p q = q
live-append cs (m ∷ ms) ns p q = (p.0, p.1, live-append cs ms ns p.2 q)

-- SYNFCT writes variables alone: what is so whatever they become is so of what it did
pub synfct-variables : (s : List ℕ) (x : World) (p : ℕ) (P : Did → Type 0) → ((v : Vars) → P (record { world = with_vars x v; next = p + 14; notes = [] })) → Ok P (synfct_of s x p)
unfolding synfct_of
synfct-variables s x p P h =
    let w = token s (p + 4) in
    bind_ok P (from_worked (variable_at s x.vars.r x.vars.cells (p + 9))) _
    (λ a q. bind_ok P (curve_assigned x.vars (defined_curve s (whole (token s (p + 2)))) a w (index_at s w (p + 4))) _ (λ v q. h v))

module _ (s numbers : List ℕ) (cancelled : List Bool) (number : ℕ) where
  -- each lock and release that is written down names a line that is not cancelled, and no action writes the word of the lines that acted
  abbrev pub Fair : World → Did → Type 0
  Fair x d = Live cancelled d.notes × (d.world.acted ≡ x.acted)

  action-fair : (x : World) (p : ℕ) → Ok (Fair x) (action_of s numbers cancelled number x p)
  unfolding action_of assignment_of drive_of command_of lock_of
  action-fair x p =
      let k : ℕ = rank_in numbers (whole (get_or s (p + 2) 0)) 0 in
      either (Ok (Fair x)) (eqb (get_or s p 0) END) (λ e. tt)
      (λ e. either (Ok (Fair x)) (is_variable (get_or s p 0))
      (λ e. bind_ok (Fair x) (taken_at s x.vars (p + 5)) _ (λ a q. bind_ok (Fair x) (write_to a.vars (get_or s p 0) (index_at s (get_or s p 0) p) a.value) _ (λ v q. (tt, refl))))
      (λ e. either (Ok (Fair x)) (is_drive (get_or s p 0))
      (λ e. if_not (Ok (Fair x)) (is_axis (get_or s (p + 2) 0)) (λ e. tt)
      (λ e. bind_ok (Fair x) (from_reached (right_value s x.vars.r x.vars.cells (p + 5))) _
      (λ a q. bind_ok (Fair x) (drive_order number (get_or s p 0) (index_at s (get_or s p 0) p) a.0) _ (λ o q. (tt, refl)))))
      (λ e. either (Ok (Fair x)) (eqb (get_or s p 0) SYNFCT) (λ e. synfct-variables s x p (Fair x) (λ v. (tt, refl)))
      (λ e. either (Ok (Fair x)) (eqb (get_or s p 0) M) (λ e. (tt, refl))
      (λ e. either (Ok (Fair x)) (eqb (get_or s p 0) SETAL) (λ e. (tt, refl))
      (λ e. if_not (Ok (Fair x)) (is_call (get_or s p 0)) (λ e. tt)
      (λ e. either (Ok (Fair x)) (ltb k max_lines)
      (λ e. either (Ok (Fair x)) (get_or cancelled k false) (λ c. (tt, refl)) (λ c. ((ltb-true k max_lines e, c, tt), refl)))
      (λ e. tt))))))))

  pub actions-fair : (j : ℕ) (x : World) (p : ℕ) → Ok (Fair x) (actions_of s numbers cancelled number j x p)
  unfolding actions_of
  actions-fair zero x p = tt
  actions-fair (suc j) x p =
      bind_ok (Fair x) (action_of s numbers cancelled number x p) _
      (λ d q. let h : Fair x d = is_ok (Fair x) (action_of s numbers cancelled number x p) d q (action-fair x p) in
      either (Ok (Fair x)) (eqb (get_or s d.next 0) END) (λ e. h)
      (λ e. bind_ok (Fair x) (actions_of s numbers cancelled number j d.world d.next) _
      (λ f g. let i : Fair d.world f = is_ok (Fair d.world) (actions_of s numbers cancelled number j d.world d.next) f g (actions-fair j d.world d.next) in
      (live-append cancelled d.notes f.notes h.0 i.0, i.1 ∙ h.1))))

-- ---- bits

pub power : (k : ℕ) → 2 ^ (k + 1) ≡ 2 ^ k * 2
power k = rw add-one (pow-suc 2 k)

-- where the line of rank k adds its bit or not, the word stays below the next one's
pub next_bit : (a : Bool) (k x y : ℕ) → x < 2 ^ k → y ≡ x + cond a (2 ^ k) 0 → y < 2 ^ (k + 1)
next_bit true k x y h p = rw (power k) (omega arith)
next_bit false k x y h p = rw (power k) (omega arith)

-- a word below a rank's bit has none from there on
pub none_from : (word n k : ℕ) → word < 2 ^ n → n ≤ k → is_acted word k ≡ false
none_from word n k h l = let p : word < 2 ^ k = omega (arith, pow-le-pow_right {n = 2} (omega arith) l) in rw (div-eq_of_lt p)

-- ---- turns

module _ (s numbers : List ℕ) (cancelled : List Bool) (automatic : Bool) where
  abbrev Below : ℕ → Turned → Type 0
  Below k t = t.world.acted < 2 ^ k

  module _ (l : Line) (k : ℕ) where
    done_below : (x : World) (es : List Entry) (a : Bool) → x.acted < 2 ^ k → Ok (Below (k + 1)) (do_turn s numbers cancelled automatic l k x es a)
    unfolding do_turn
    done_below x es false h = next_bit false k x.acted x.acted h (omega arith)
    done_below x es true h =
        ok-then (Fair s numbers cancelled l.number (counted x k)) (Below (k + 1)) (actions_of s numbers cancelled l.number max_actions (counted x k) l.actions) _
        (actions-fair s numbers cancelled l.number max_actions (counted x k) l.actions) (λ d f. next_bit true k x.acted d.world.acted h f.1)

    turn_below : (x : World) → x.acted < 2 ^ k → Ok (Below (k + 1)) (turn_of s numbers cancelled automatic l k x)
    unfolding turn_of try_turn
    turn_below x h =
        let m = get_or x.memory k false in
        if_not (Ok (Below (k + 1))) (takes_turn s numbers cancelled automatic l k x) (λ e. next_bit false k x.acted x.acted h (omega arith)) λ e.
        if_not (Ok (Below (k + 1))) (tries l.keyword m) (λ e. done_below x [] (acts l.keyword m false) h) λ e.
        bind_ok (Below (k + 1)) (from_reached (condition_value s x.vars.r x.vars.cells l.condition)) _
        (λ a q. done_below (remembered x k _) (worked k (is_yes a.0) ∷ []) (acts l.keyword m (is_yes a.0)) h)

  -- the turns of n lines from rank k on add no bit beyond theirs
  pub turns-below : (ls : List Line) (n k : ℕ) (x : World) → x.acted < 2 ^ k → Ok (Below (k + n)) (turns_from s numbers cancelled automatic ls n k x)
  unfolding turns_from
  turns-below ls zero k x h = let e : k + 0 ≡ k = omega arith in rw e h
  turns-below ls (suc n) k x h =
      let q : k + 1 + n ≡ k + suc n = omega arith in
      ok-then (Below (k + 1)) (Below (k + suc n)) (turn_of s numbers cancelled automatic (get_or ls k no_line) k x) _ (turn_below (get_or ls k no_line) k x h) λ t e.
      ok-then (Below (k + 1 + n)) (Below (k + suc n)) (turns_from s numbers cancelled automatic ls n (k + 1) t.world) _ (turns-below ls n (k + 1) t.world e) (λ u f. rw q at f)
