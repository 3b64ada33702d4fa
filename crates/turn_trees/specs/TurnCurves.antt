-- NO TURN SEES A CURVE THAT ITS LINE DOES NOT NAME: with other curves, the same for each number that a SYNFCT of it names, a line does what it does. Theorems; nothing is assumed.
use Rattle.std.specs.Prelude.{◌≡◌, Bool, ℕ, ◌+◌}
use Rattle.std.proofs.Math.Path.{refl}
use Rattle.std.proofs.Math.Bool.{true, false}
use mathlib.Core.List.{List, [], ◌∷◌}
use Rattle.std.proofs.Math.ListN.{get_or}
use Rattle.values.specs.declared.curve.Curve.{Curve}
use Rattle.grammar.specs.Tree.{Action, assign, assign_position, drive, code, call, synfct, always, under, Line, line}
use Rattle.grammar.specs.NumbersToLaws.{bind-same}
use Rattle.engine.specs.Keyword.{acts, remembers, tries}
use Rattle.engine.specs.Action.{World}
use Rattle.engine.specs.Turn.{Entry, worked, remembered, counted}
use Rattle.turn_trees.specs.TurnTree.{Names, condition_tree, lock_tree, action_tree, actions_tree, do_tree, try_tree, takes_tree, turn_tree, turns_tree}
use Rattle.turn_trees.specs.LineNames.{ActionNames, ActionsName, LineNames}
use Rattle.turn_trees.specs.TurnNumbersTo.{same-sides}

-- the same lines, and these curves
abbrev pub with_curves : Names → (ℕ → Curve) → Names
with_curves names curves = record { numbers = names.numbers; cancelled = names.cancelled; curves = curves }

module _ (names : Names) (curves : ℕ → Curve) where
  -- any line; a curve that is the same
  abbrev Any : ℕ → Type 0
  Any m = Unit {0}

  abbrev Same : ℕ → Type 0
  Same m = names.curves m ≡ curves m

  -- each curve that one of some lines names is the same
  abbrev pub SameCurves : List Line → Type 0
  SameCurves [] = Unit {0}
  SameCurves (l ∷ ls) = LineNames Any Same l × SameCurves ls

  action-same : (n : ℕ) (x : World) (a : Action) → ActionNames Any Same a → action_tree names n x a ≡ action_tree (with_curves names curves) n x a
  unfolding action_tree lock_tree
  action-same n x (assign w v i a) g = refl
  action-same n x (assign_position y v a) g = refl
  action-same n x (drive w v y u a) g = refl
  action-same n x (code m) g = refl
  action-same n x (call w v m) g = refl
  action-same n x (synfct m y z) g = rw g

  actions-same : (n : ℕ) (r : List Action) (x : World) (a : Action) → ActionsName Any Same a r → actions_tree names n x a r ≡ actions_tree (with_curves names curves) n x a r
  unfolding actions_tree
  actions-same n [] x a g = action-same n x a g
  actions-same n (b ∷ r) x a g = bind-same _ _ _ _ (action-same n x a g.0) (λ d. bind-same _ _ _ _ (actions-same n r d.world b g.1) (λ e. refl))

  do-same : (n k : ℕ) (x : World) (es : List Entry) (a : Action) (r : List Action) (b : Bool) → ActionsName Any Same a r → do_tree names n k x es a r b ≡ do_tree (with_curves names curves) n k x es a r b
  unfolding do_tree
  do-same n k x es a r false g = refl
  do-same n k x es a r true g = rw (actions-same n r (counted x k) a g)

  try-same : (l : Line) (k : ℕ) (x : World) → LineNames Any Same l → try_tree names l k x ≡ try_tree (with_curves names curves) l k x
  unfolding try_tree
  try-same (line w u n always a r) k x g = do-same n k x [] a r true g
  try-same (line w u n (under kw v e) a r) k x g =
      let m = get_or x.memory k false in
      same-sides (tries kw m) (tries kw m) _ _ _ _ refl
      (bind-same (condition_tree x.vars e) (condition_tree x.vars e) _ _ refl (λ b. do-same n k (remembered x k (remembers kw m b)) (worked k b ∷ []) a r (acts kw m b) g))
      (do-same n k x [] a r (acts kw m false) g)

  module _ (automatic : Bool) where
    -- A TURN
    pub turn-curves : (l : Line) (k : ℕ) (x : World) → LineNames Any Same l → turn_tree names automatic l k x ≡ turn_tree (with_curves names curves) automatic l k x
    unfolding turn_tree takes_tree
    turn-curves l k x g = same-sides (takes_tree names automatic l k x) (takes_tree names automatic l k x) _ _ _ _ refl (try-same l k x g) refl

    -- AND THE TURNS of some lines
    pub turns-curves : (ls : List Line) (k : ℕ) (x : World) → SameCurves ls → turns_tree names automatic ls k x ≡ turns_tree (with_curves names curves) automatic ls k x
    unfolding turns_tree
    turns-curves [] k x g = refl
    turns-curves (l ∷ ls) k x g = bind-same _ _ _ _ (turn-curves l k x g.0) (λ t. bind-same _ _ _ _ (turns-curves ls (k + 1) t.world g.1) (λ u. refl))
