-- Laws of turns in a row: what each round of the loop comes to.
use Rattle.std.specs.Prelude.{◌≡◌, refl, Bool, List, ◌++◌, ℕ, zero, suc, ◌+◌, ◌-◌, ◌<◌, ◌≤◌, get_or}
use Rattle.std.proofs.Common.{sym, ap, ◌∙◌, arith}
use Rattle.values.specs.Numbers.{clash}
use Rattle.tokens.specs.Descent.{Answer, good, stop, ◌>>=◌}
use Rattle.checking.specs.declared.line.Line.{Line}
use Rattle.engine.specs.Set.{no_line}
use Rattle.engine.specs.Action.{World}
use Rattle.engine.specs.Turn.{Entry, Turned, turn_of, turns_from}

-- what they come to, apart from what is written down
abbrev pub passed : Answer Turned → Answer World
passed (good t) = good t.world
passed (stop k) = stop k

passed-good : (z : Answer Turned) {w : World} → passed z ≡ good w → (es : List Entry) × (z ≡ good (record { world = w; entries = es }))
passed-good (good t) {w} e = let p : t.world ≡ w = cc in (t.entries, ap (λ (x : World). good (record { world = x; entries = t.entries })) p)
passed-good (stop k) e = clash (cc)

passed-stop : (z : Answer Turned) {k : ℕ} → passed z ≡ stop k → z ≡ stop k
passed-stop (good t) e = clash (cc)
passed-stop (stop l) e = cc

module _ (s numbers : List ℕ) (cancelled : List Bool) (automatic : Bool) (ls : List Line) where
  -- the turns behind one, of m lines from rank k on
  unfoldable behind : ℕ → ℕ → Turned → Answer Turned
  behind m k t = turns_from s numbers cancelled automatic ls m k t.world >>= λ u. good (record { world = u.world; entries = t.entries ++ u.entries })

  -- the turns left, of m lines from rank k on, come to what all of them come to
  module _ (k : ℕ) (x : World) (all : Answer Turned) where
    pub none-left : (m : ℕ) → passed (turns_from s numbers cancelled automatic ls m k x) ≡ passed all → m ≤ 0 → (es : List Entry) × (all ≡ good (record { world = x; entries = es }))
    unfolding turns_from
    none-left zero i h = passed-good all (sym i)
    none-left (suc m) i h = absurd (omega arith)

    first : {y : Answer Turned} → turn_of s numbers cancelled automatic (get_or ls k no_line) k x ≡ y → (m : ℕ) → 0 < m → turns_from s numbers cancelled automatic ls m k x ≡ (y >>= behind (m - 1) (k + 1))
    unfolding turns_from behind
    first e zero h = absurd (omega arith)
    first e (suc m) h = let q : suc m - 1 ≡ m = omega arith in rw (q, ← e)

    module _ (m : ℕ) (i : passed (turns_from s numbers cancelled automatic ls m k x) ≡ passed all) (h : 0 < m) where
      -- its alarm ends them
      pub stops-here : {a : ℕ} → turn_of s numbers cancelled automatic (get_or ls k no_line) k x ≡ stop a → all ≡ stop a
      stops-here e = passed-stop all (sym i ∙ ap passed (first e m h))

      pub goes-on : {w : World} → (es : List Entry) × (turn_of s numbers cancelled automatic (get_or ls k no_line) k x ≡ good (record { world = w; entries = es })) → passed (turns_from s numbers cancelled automatic ls (m - 1) (k + 1) w) ≡ passed all
      unfolding behind
      goes-on {w} e = go (turns_from s numbers cancelled automatic ls (m - 1) (k + 1) w) ∙ sym (ap passed (first e.1 m h)) ∙ i
        where
          go : (y : Answer Turned) → passed y ≡ passed (y >>= λ u. good (record { world = u.world; entries = e.0 ++ u.entries }))
          go (good u) = refl
          go (stop a) = refl
