-- SetLaws has the turns of the loop; past the array's end no token is left.
use Rattle.std.proofs.Common.{◌≡◌, refl, ◌+◌, ◌-◌, ℕ, Bool, List, sym, ◌∙◌, arith}
use Rattle.tokens.specs.Token.{set_size}
use Rattle.engine.specs.Set.{asked_table, names_known}
use Rattle.engine.proofs.SetLaws.{names-end, names-other, names-not, names-on, names-past}
use Rattle.engine.proofs.set.names_known.Goals.{then-is_naming+else-not-name_known, else-is_naming}
use Rattle.engine.proofs.set.names_known.Goals as goal

-- one place on
next : (s : List ℕ) (known : ℕ → ℕ → Bool) (start p : ℕ) (x : Bool) → names_known s known (set_size + start - p - 1) (p + 1) ≡ x → names_known s known (set_size + start - (p + 1)) (p + 1) ≡ x
next s known start p x h = let e : set_size + start - (p + 1) ≡ set_size + start - p - 1 = omega arith in rw e h

pub loop-p-init : goal.loop-p-init
loop-p-init c = let e : set_size + c.args.start - c.args.start ≡ set_size = omega arith in rw e

pub returns-then-t-eq-END : goal.returns-then-t-eq-END
returns-then-t-eq-END c = sym (names-end c.args.set.now _ c.loop-p.p _ refl c.if-t-eq-END.true _ (omega arith)) ∙ c.loop-p.invariant

pub returns-then-not-name_known : goal.returns-then-not-name_known
returns-then-not-name_known c =
    let a = c.args in
    sym (names-not a.set.now (asked_table a.asked a.numbers.now a.curves.now) c.loop-p.p _ refl c.if-t-eq-END.false (sym c.is_naming.ensures ∙ c.if-is_naming.true) _ _ c.token_at.ensures c.whole_of-n.ensures _ c.name_known.ensures c.if-not-name_known.true _ (omega arith)) ∙ c.loop-p.invariant

pub loop-p-preserved : goal.loop-p-preserved
loop-p-preserved c =
    let a = c.args in
    let known = asked_table a.asked a.numbers.now a.curves.now in
    next a.set.now known a.start c.loop-p.p _
    (elim c.if-is_naming.branch [
      | then-is_naming+else-not-name_known w ↦ sym (names-on a.set.now known c.loop-p.p _ refl c.if-t-eq-END.false (sym c.is_naming.ensures ∙ w.if-is_naming.true) _ _ w.token_at.ensures w.whole_of-n.ensures _ w.name_known.ensures w.if-not-name_known.false _ (omega arith)) ∙ c.loop-p.invariant
      | else-is_naming w ↦ sym (names-other a.set.now known c.loop-p.p _ refl c.if-t-eq-END.false (sym c.is_naming.ensures ∙ w.if-is_naming.false) _ (omega arith)) ∙ c.loop-p.invariant
    ])

pub returns : goal.returns
returns c = sym (names-past c.args.set.now _ c.loop-p.p (omega arith) _) ∙ c.loop-p.invariant
