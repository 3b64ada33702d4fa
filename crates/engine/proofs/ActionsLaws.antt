-- Laws of actions in a row: what each round of the loop comes to.
use Rattle.std.specs.Prelude.{◌≡◌, refl, Bool, true, false, List, ◌++◌, ℕ, zero, suc, ◌-◌, ◌<◌, ◌≤◌, eqb, get_or}
use Rattle.std.proofs.Common.{sym, ap, ◌∙◌, arith, ne_eqb}
use Rattle.values.specs.Codes.{unsound}
use Rattle.values.specs.Numbers.{clash}
use Rattle.tokens.specs.Token.{END}
use Rattle.tokens.specs.Descent.{Answer, good, stop, ◌>>=◌}
use Rattle.engine.specs.Action.{World, Did, Note, action_of}
use Rattle.engine.specs.Actions.{actions_of}

-- what they come to, apart from what is written down
abbrev pub came : Answer Did → Answer (World × ℕ)
came (good d) = good (d.world, d.next)
came (stop k) = stop k

came-good : (z : Answer Did) {w : World} {q : ℕ} → came z ≡ good (w, q) → (ns : List Note) × (z ≡ good (record { world = w; next = q; notes = ns }))
came-good (good d) {w} {q} e =
    let p : ◌≡◌ {A = World × ℕ} (d.world, d.next) (w, q) = cc in
    (d.notes, ap (λ (x : World × ℕ). good (record { world = x.0; next = x.1; notes = d.notes })) p)
came-good (stop k) e = clash (cc)

came-stop : (z : Answer Did) {k : ℕ} → came z ≡ stop k → z ≡ stop k
came-stop (good d) e = clash (cc)
came-stop (stop l) e = cc

module _ (s numbers : List ℕ) (cancelled : List Bool) (number : ℕ) where
  -- what follows an action, with j more allowed
  unfoldable after : ℕ → Did → Answer Did
  after j d =
      elim (eqb (get_or s d.next 0) END) [
        | true ↦ good d
        | false ↦ actions_of s numbers cancelled number j d.world d.next >>= λ e. good (record { world = e.world; next = e.next; notes = d.notes ++ e.notes })
      ]

  -- the actions left, at most j of them, come to what all of them come to
  module _ (x : World) (p : ℕ) (all : Answer Did) where
    pub none-left : (j : ℕ) → came (actions_of s numbers cancelled number j x p) ≡ came all → j ≤ 0 → all ≡ stop unsound
    unfolding actions_of
    none-left zero i h = came-stop all (sym i)
    none-left (suc j) i h = absurd (omega arith)

    -- an action, then what follows it
    first : {y : Answer Did} → action_of s numbers cancelled number x p ≡ y → (j : ℕ) → 0 < j → actions_of s numbers cancelled number j x p ≡ (y >>= after (j - 1))
    unfolding actions_of after
    first e zero h = absurd (omega arith)
    first e (suc j) h = let q : suc j - 1 ≡ j = omega arith in rw (q, ← e)

    module _ (j : ℕ) (i : came (actions_of s numbers cancelled number j x p) ≡ came all) (h : 0 < j) where
      -- its alarm ends them
      pub stops-here : {k : ℕ} → action_of s numbers cancelled number x p ≡ stop k → all ≡ stop k
      stops-here e = came-stop all (sym i ∙ ap came (first e j h))

      module _ {w : World} {q : ℕ} (e : (ns : List Note) × (action_of s numbers cancelled number x p ≡ good (record { world = w; next = q; notes = ns }))) where
        -- it is the last of them
        pub ends-here : get_or s q 0 ≡ END → (ns : List Note) × (all ≡ good (record { world = w; next = q; notes = ns }))
        unfolding after
        ends-here t = came-good all (sym i ∙ ap came (first e.1 j h) ∙ simp (after, t))

        -- there are more
        pub goes-on : (get_or s q 0 ≡ END → ⊥) → came (actions_of s numbers cancelled number (j - 1) w q) ≡ came all
        unfolding after
        goes-on t =
            let k : after (j - 1) (record { world = w; next = q; notes = e.0 }) ≡ (actions_of s numbers cancelled number (j - 1) w q >>= λ b. good (record { world = b.world; next = b.next; notes = e.0 ++ b.notes })) = simp (after, ne_eqb (get_or s q 0) END t) in
            go (actions_of s numbers cancelled number (j - 1) w q) ∙ sym (ap came k) ∙ sym (ap came (first e.1 j h)) ∙ i
          where
            go : (y : Answer Did) → came y ≡ came (y >>= λ b. good (record { world = b.world; next = b.next; notes = e.0 ++ b.notes }))
            go (good b) = refl
            go (stop k) = refl
