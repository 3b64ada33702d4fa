-- `action::actions` meets its contract; FaultLaws and MoveLaws have the turn of the loop.
use native.Mathlib.Omega.{arith}
use mathlib.Core.Path.{◌≡◌, refl, sym, ap, ◌∙◌}
use mathlib.Core.List.{List, []}
use Prim.Native.Nat.{ℕ, ◌+◌, ◌-◌}
use lib.ListN.{get_or}
use Rattle.tokens.specs.Token.{set_size, END}
use Rattle.tokens.specs.Descent.{Read, read, then}
use Rattle.tokens.specs.SingleFault.{lower}
use Rattle.checking.specs.Fault.{actions_at}
use Rattle.checking.specs.SightNumber.{next_of, fault_of}
use Rattle.checking.specs.Brackets.{Onward}
use Rattle.checking.proofs.FaultLaws.{acts-none, Round, round-stops, round-ends, round-goes, round-noted, round-names}
use Rattle.checking.proofs.MoveLaws.{none-moved, marks-small, marks-fault, round-index, round-marks}
use Rattle.checking.proofs.SightNumberLaws.{in-room, faulted-nothing, number-made, faulted-read, faulted-made}
use Rattle.checking.proofs.BracketCountLaws.{onward-same, onward_then, onward-nothing, same-end-on, counted_none, joined-next}
use Rattle.checking.proofs.action.actions.Goals as goal

-- all the actions behind what was read
abbrev all_behind : List ℕ → ℕ → ℕ → Read ℕ
all_behind s kw w = actions_at s kw set_size set_size 0 [] (fault_of w) (next_of w)

pub loop-n-init : goal.loop-n-init
loop-n-init c = let a = c.args in ([], none-moved, ap (λ (r : Read ℕ). then r (actions_at a.set.now a.keyword set_size set_size 0 [])) (faulted-read a.w refl c.requires), c.requires, onward-same _ _, refl)

pub returns-then-i-eq0 : goal.returns-then-i-eq0
returns-then-i-eq0 c =
    let a = c.args in
    let i = c.loop-n.invariant in
    let r : Round a.set.now a.keyword set_size (set_size - c.loop-n.n) c.loop-n.n i.0 c.loop-n.low c.action.result c.join_faults-low.result c.next_of-at.result c.next_of-i.result (all_behind a.set.now a.keyword a.w) =
    record { left = omega arith; from = c.next_of-at.ensures; begun = i.3; all = i.2; action = c.action.ensures.0; joins = c.join_faults-low.ensures.0; joined = c.join_faults-low.ensures.1; to = c.next_of-i.ensures } in
    (faulted-nothing ∙ round-stops r c.if-i-eq0.true, (onward-nothing _ _ refl, λ g. absurd (g refl)))

pub with_move-moved-requires : goal.with_move-moved-requires
with_move-moved-requires c =
    let a = c.args in
    let i = c.loop-n.invariant in
    let r : Round a.set.now a.keyword set_size (set_size - c.loop-n.n) c.loop-n.n i.0 c.loop-n.low c.action.result c.join_faults-low.result c.next_of-at.result c.next_of-i.result (all_behind a.set.now a.keyword a.w) =
    record { left = omega arith; from = c.next_of-at.ensures; begun = i.3; all = i.2; action = c.action.ensures.0; joins = c.join_faults-low.ensures.0; joined = c.join_faults-low.ensures.1; to = c.next_of-i.ensures } in
    (marks-small _ _ i.1, λ h. (round-index r c.if-i-eq0.false c.token_at-first.ensures h).1)

pub returns-then-token_at-eq-END : goal.returns-then-token_at-eq-END
returns-then-token_at-eq-END c =
    let a = c.args in
    let i = c.loop-n.invariant in
    let o = c.if-i-eq0.false in
    let x = c.join_faults-low.result in
    let r : Round a.set.now a.keyword set_size (set_size - c.loop-n.n) c.loop-n.n i.0 c.loop-n.low c.action.result x c.next_of-at.result c.next_of-i.result (all_behind a.set.now a.keyword a.w) =
    record { left = omega arith; from = c.next_of-at.ensures; begun = i.3; all = i.2; action = c.action.ensures.0; joins = c.join_faults-low.ensures.0; joined = c.join_faults-low.ensures.1; to = c.next_of-i.ensures } in
    let marks = round-marks r o c.token_at-first.ensures i.1 c.with_move-moved.ensures in
    let on : Onward a.set.now a.w x = onward_then _ i.4 (joined-next _ c.next_of-at.ensures (λ y. i.3 (sym c.next_of-at.ensures ∙ y)) c.action.ensures.1 c.join_faults-low.ensures.1) in
    let k = number-made {d = 0} _ (omega arith) (omega arith) (in-room _ c.next_of-i.ensures) c.number_seen.ensures in
    let e = sym c.token_at.ensures ∙ c.if-token_at-eq-END.true in (
      c.noted.ensures.0 ∙ c.join_faults.ensures.0
          ∙ ap (λ (y : Read ℕ). then y (λ g q. read (lower (fault_of x) g) q)) (faulted-made k (omega (arith, o)) ∙ ap (λ (f : ℕ). read f c.next_of-i.result) (c.end_fault.ensures ∙ marks-fault _ _ _ marks))
          ∙ round-ends r o e,
      (
        onward_then _ (onward_then _ on (joined-next _ c.next_of-i.ensures o (counted_none _ _ _ k.next) c.join_faults.ensures.1)) (same-end-on _ c.noted.ensures.1.0),
        λ g. c.noted.ensures.1.1 ∙ round-noted r o c.loop-n.names c.token_at-first.ensures c.or_naming-names.ensures i.5 e,
      ),
    )

pub loop-n-preserved : goal.loop-n-preserved
loop-n-preserved c =
    let a = c.args in
    let i = c.loop-n.invariant in
    let o = c.if-i-eq0.false in
    let x = c.join_faults-low.result in
    let r : Round a.set.now a.keyword set_size (set_size - c.loop-n.n) c.loop-n.n i.0 c.loop-n.low c.action.result x c.next_of-at.result c.next_of-i.result (all_behind a.set.now a.keyword a.w) =
    record { left = omega arith; from = c.next_of-at.ensures; begun = i.3; all = i.2; action = c.action.ensures.0; joins = c.join_faults-low.ensures.0; joined = c.join_faults-low.ensures.1; to = c.next_of-i.ensures } in
    let on : Onward a.set.now a.w x = onward_then _ i.4 (joined-next _ c.next_of-at.ensures (λ y. i.3 (sym c.next_of-at.ensures ∙ y)) c.action.ensures.1 c.join_faults-low.ensures.1) in
    let e : get_or a.set.now c.next_of-i.result 0 ≡ END → ⊥ = λ y. c.if-token_at-eq-END.false (c.token_at.ensures ∙ y) in
    let left : set_size - (c.loop-n.n + 1) ≡ set_size - c.loop-n.n - 1 = omega arith in
    rw left (
      _,
      round-marks r o c.token_at-first.ensures i.1 c.with_move-moved.ensures,
      round-goes r o e,
      λ y. o (c.next_of-i.ensures ∙ y),
      on,
      round-names r o c.loop-n.names c.token_at-first.ensures c.or_naming-names.ensures i.5 e,
    )

pub returns : goal.returns
returns c =
    let a = c.args in
    let i = c.loop-n.invariant in (
      faulted-nothing ∙ sym (acts-none _ _ _ _ _ _ _ _ (omega arith)) ∙ ap (λ (r : Read ℕ). then r (actions_at a.set.now a.keyword set_size (set_size - c.loop-n.n) c.loop-n.n i.0)) (sym (faulted-read c.loop-n.low refl i.3)) ∙ i.2,
      (onward-nothing _ _ refl, λ g. absurd (g refl)),
    )
