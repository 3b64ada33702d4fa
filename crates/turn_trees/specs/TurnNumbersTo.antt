-- NO TURN SEES A CHANGE OF NUMBERS THAT KEEPS WHOLE NUMBERS AND VALUES: a line with other numbers does what the line does. Theorems; nothing is assumed.
use Rattle.std.specs.Prelude.{◌≡◌, Bool, ℕ, ◌+◌, eqb}
use Rattle.std.proofs.Math.Path.{refl}
use Rattle.std.proofs.Math.Bool.{true, false}
use mathlib.Core.List.{List, [], ◌∷◌, map}
use Rattle.std.proofs.Math.ListN.{get_or}
use Rattle.values.specs.declared.curve.Curve.{Curve}
use Rattle.grammar.specs.Tree.{number, variable, position, truth, bracket, minus, not, product, Sum, sum, Expression, Action, assign, assign_position, drive, code, call, synfct, always, under, Line, line, tree_number, Definition}
use Rattle.grammar.specs.TreeFault.{is_removal_tree}
use Rattle.grammar.specs.NumbersTo.{operand_to, sum_to, expression_to, action_to, condition_to, numbers_to, definition_to}
use Rattle.grammar.specs.NumbersToLaws.{Keeps, bind-same, removal-same, to-right-value, to-condition-value, to-curve}
use Rattle.engine.specs.Keyword.{acts, remembers, tries}
use Rattle.engine.specs.declared.write.Vars.{Vars}
use Rattle.engine.specs.Action.{World}
use Rattle.engine.specs.Turn.{Entry, worked, remembered, counted}
use Rattle.turn_trees.specs.TurnTree.{Names, oldest_taken, value_taken, taken_tree, condition_tree, assign_tree, action_tree, actions_tree, do_tree, try_tree, takes_tree, turn_tree, turns_tree, names_of, curve_named}

-- two choices, by tests that agree and with sides that do
pub same-sides : {X : Type 0} (b c : Bool) (x u y v : X) → b ≡ c → x ≡ u → y ≡ v → ◌≡◌ {A = X} (elim b as (λ _. X) [ true ↦ x | false ↦ y ]) (elim c as (λ _. X) [ true ↦ u | false ↦ v ])
same-sides b true x u y v e p q = rw e p
same-sides b false x u y v e p q = rw e q

module _ (f : ℕ → ℕ) (keeps : Keeps f) where
  value-to : (x : Vars) (a : Sum) → value_taken x (sum_to f a) ≡ value_taken x a
  value-to x a = rw (to-right-value f keeps x.r x.cells a)

  taken-to : (x : Vars) (a : Sum) → taken_tree x (sum_to f a) ≡ taken_tree x a
  unfolding taken_tree sum_to operand_to
  taken-to x (sum (product (variable w v i) r) t) =
      let a = sum (product (variable w v i) r) t in
      same-sides (is_removal_tree (sum_to f a)) (is_removal_tree a) (oldest_taken x w) (oldest_taken x w) (value_taken x (sum_to f a)) (value_taken x a) (removal-same f a) refl (value-to x a)
  taken-to x (sum (product (number n) r) t) = value-to x (sum (product (number n) r) t)
  taken-to x (sum (product (position y v) r) t) = value-to x (sum (product (position y v) r) t)
  taken-to x (sum (product (truth b) r) t) = value-to x (sum (product (truth b) r) t)
  taken-to x (sum (product (bracket e) r) t) = value-to x (sum (product (bracket e) r) t)
  taken-to x (sum (product (minus a) r) t) = value-to x (sum (product (minus a) r) t)
  taken-to x (sum (product (not a) r) t) = value-to x (sum (product (not a) r) t)

  condition-to : (x : Vars) (e : Expression) → condition_tree x (expression_to f e) ≡ condition_tree x e
  unfolding condition_tree
  condition-to x e = rw (to-condition-value f keeps x.r x.cells e)

  assign-to : (x : World) (w i : ℕ) (a : Sum) → assign_tree x w i (sum_to f a) ≡ assign_tree x w i a
  unfolding assign_tree
  assign-to x w i a = rw (taken-to x.vars a)

  module _ (names : Names) where
    action-to : (n : ℕ) (x : World) (a : Action) → action_tree names n x (action_to f a) ≡ action_tree names n x a
    unfolding action_tree action_to
    action-to n x (assign w v i a) = assign-to x w i a
    action-to n x (assign_position y v a) = assign-to x _ _ a
    action-to n x (drive w v y u a) = rw (to-right-value f keeps x.vars.r x.vars.cells a)
    action-to n x (code m) = refl
    action-to n x (call w v m) = refl
    action-to n x (synfct m y z) = refl

    actions-to : (n : ℕ) (r : List Action) (x : World) (a : Action) → actions_tree names n x (action_to f a) (map (action_to f) r) ≡ actions_tree names n x a r
    unfolding actions_tree
    actions-to n [] x a = action-to n x a
    actions-to n (b ∷ r) x a = bind-same _ _ _ _ (action-to n x a) (λ d. bind-same _ _ _ _ (actions-to n r d.world b) (λ e. refl))

    do-to : (n k : ℕ) (x : World) (es : List Entry) (a : Action) (r : List Action) (b : Bool) → do_tree names n k x es (action_to f a) (map (action_to f) r) b ≡ do_tree names n k x es a r b
    unfolding do_tree
    do-to n k x es a r false = refl
    do-to n k x es a r true = rw (actions-to n r (counted x k) a)

    try-to : (l : Line) (k : ℕ) (x : World) → try_tree names (numbers_to f l) k x ≡ try_tree names l k x
    unfolding try_tree numbers_to condition_to
    try-to (line w u n always a r) k x = do-to n k x [] a r true
    try-to (line w u n (under kw v e) a r) k x =
        let m = get_or x.memory k false in
        same-sides (tries kw m) (tries kw m) _ _ _ _ refl
        (bind-same _ _ _ _ (condition-to x.vars e) (λ b. do-to n k (remembered x k (remembers kw m b)) (worked k b ∷ []) a r (acts kw m b)))
        (do-to n k x [] a r (acts kw m false))

    module _ (automatic : Bool) where
      -- A TURN
      pub turn-to : (l : Line) (k : ℕ) (x : World) → turn_tree names automatic (numbers_to f l) k x ≡ turn_tree names automatic l k x
      unfolding turn_tree takes_tree numbers_to
      turn-to (line w u n c a r) k x =
          let l = line w u n c a r in
          same-sides (takes_tree names automatic l k x) (takes_tree names automatic l k x) _ _ _ _ refl (try-to l k x) refl

      -- AND THE TURNS of some lines
      pub turns-to : (ls : List Line) (k : ℕ) (x : World) → turns_tree names automatic (map (numbers_to f) ls) k x ≡ turns_tree names automatic ls k x
      unfolding turns_tree
      turns-to [] k x = refl
      turns-to (l ∷ ls) k x = bind-same _ _ _ _ (turn-to l k x) (λ t. bind-same _ _ _ _ (turns-to ls (k + 1) t.world) (λ u. refl))

  number-to : (l : Line) → tree_number (numbers_to f l) ≡ tree_number l
  unfolding numbers_to
  number-to (line w u n c a r) = refl

  numbers-to : (ls : List Line) → map tree_number (map (numbers_to f) ls) ≡ map tree_number ls
  numbers-to [] = refl
  numbers-to (l ∷ ls) = rw (number-to l, numbers-to ls)

  -- the lines have the same names, whatever curves there are
  pub names-to : (ls : List Line) (curves : ℕ → Curve) (cancelled : List Bool) → names_of (map (numbers_to f) ls) curves cancelled ≡ names_of ls curves cancelled
  names-to ls curves cancelled = rw (numbers-to ls)

  -- and definitions with other numbers name the same curves
  pub curves-to : (ds : List Definition) (n : ℕ) → curve_named (map (definition_to f) ds) n ≡ curve_named ds n
  unfolding curve_named definition_to
  curves-to [] n = refl
  curves-to (d ∷ ds) n = same-sides (eqb d.number n) (eqb d.number n) _ _ _ _ refl (to-curve f keeps d) (curves-to ds n)
