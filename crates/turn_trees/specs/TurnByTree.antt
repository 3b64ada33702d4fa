-- THE TURN OF A LINE IS TOLD BY ITS TREE: wherever the tokens of a faultless line stand, the engine's turn over them is that of the tree. Theorems; nothing is assumed.
use Rattle.std.specs.Prelude.{◌≡◌, Bool, ℕ, suc, ◌+◌, ◌≤◌, ◌<◌, leb, ℤ, length}
use Rattle.std.proofs.Math.Path.{refl}
use Rattle.std.proofs.Math.Bool.{true, false}
use mathlib.Core.List.{List, [], ◌∷◌, ◌++◌, map}
use native.Mathlib.Omega.{arith}
use Rattle.std.proofs.Math.ListN.{get_or, length-append}
use Rattle.std.proofs.Common.{leb-true}
use Rattle.values.specs.Codes.{too_many_actions}
use Rattle.tokens.specs.Token.{END, set_size, max_actions}
use Rattle.tokens.specs.Descent.{token, Answer, good, stop, ◌>>=◌}
use Rattle.checking.specs.declared.line.Line.{Line as Told}
use Rattle.checking.specs.Fault.{count_fault}
use Rattle.working.specs.Operators.{is_yes}
use Rattle.working.specs.Working.{condition_value}
use Rattle.grammar.specs.Tree.{Action, always, under, Line, line, actions_tokens, condition_tokens, line_tokens}
use Rattle.grammar.specs.Meaning.{Stands}
use Rattle.grammar.specs.TreeFault.{parts_fault, line_fault, parts_from}
use Rattle.grammar.specs.AgreementLaws.{stands-place}
use Rattle.grammar.specs.AgreementFault.{do-ends, line-stands}
use Rattle.engine.specs.Set.{no_line}
use Rattle.engine.specs.Keyword.{acts, remembers, tries}
use Rattle.engine.specs.Action.{World, Did, from_reached}
use Rattle.engine.specs.Turn.{Entry, worked, lock_entry, Turned, remembered, counted, takes_turn, do_turn, try_turn, turn_of, turns_from}
use Rattle.soundness.specs.WriteSoundLaws.{lower-zero, unless-zero}
use Rattle.turn_trees.specs.TurnTree.{Names, ActionsDone, condition_tree, actions_tree, do_tree, try_tree, takes_tree, turn_tree, turns_tree}
use Rattle.turn_trees.specs.LineNames.{ActionsName, LineNames, SameRank, SameCurve}
use Rattle.turn_trees.specs.ActionTreeLaws.{done_up_to, condition-tree, actions-tree}

-- the two sides of a test
alike : {X : Type 0} (b : Bool) {x y u v : X} → x ≡ u → y ≡ v → ◌≡◌ {A = X} (elim b as (λ _. X) [ true ↦ x | false ↦ y ]) (elim b as (λ _. X) [ true ↦ u | false ↦ v ])
alike true p q = p
alike false p q = q

-- what a condition gave decides how its turn goes on
bind_is : {X : Type 0} (m : Answer (ℤ × ℕ)) (c : Answer Bool) → (m >>= λ a. good (is_yes a.0)) ≡ c → (f g : Bool → Answer X) → ((b : Bool) → f b ≡ g b) → (m >>= λ a. f (is_yes a.0)) ≡ (c >>= g)
bind_is (good a) c e f g h = rw (← e) (h (is_yes a.0))
bind_is (stop k) c e f g h = rw (← e)

-- at most eight actions
few-actions : (n : ℕ) → count_fault (suc n) ≡ 0 → n < max_actions
unfolding count_fault
few-actions n f = omega (arith, leb-true (suc n) max_actions (unless-zero (leb (suc n) max_actions) too_many_actions f (omega arith)))

module _ (s numbers : List ℕ) (names : Names) (automatic : Bool) where
  do-tree : (t : Told) (n k : ℕ) (x : World) (es : List Entry) (a : Action) (r : List Action) (p q : ℕ) (b : Bool) → t.number ≡ n → t.actions ≡ p → length r < max_actions →
      ActionsName (SameRank numbers names) (SameCurve s names) a r → length (actions_tokens a r) ≤ set_size → Stands s p (actions_tokens a r) q → token s q ≡ END →
      do_turn s numbers names.cancelled automatic t k x es b ≡ do_tree names n k x es a r b
  unfolding do_turn do_tree
  do-tree t n k x es a r p q false u v m g l h e = refl
  do-tree t n k x es a r p q true u v m g l h e = rw (u, v, actions-tree s numbers names n r a max_actions (counted x k) p q m g l h e) (go (actions_tree names n (counted x k) a r))
    where
      end : Did → Answer Turned
      end d = good (record { world = d.world; entries = es ++ map lock_entry d.notes })

      ended : ActionsDone → Answer Turned
      ended d = good (record { world = d.world; entries = es ++ map lock_entry d.notes })

      go : (c : Answer ActionsDone) → (c >>= done_up_to q >>= end) ≡ (c >>= ended)
      go (good d) = refl
      go (stop j) = refl

  -- a line that takes its turn
  try-by-tree : (l : Line) (p q k : ℕ) (x : World) → length (line_tokens l) ≤ suc set_size → line_fault l ≡ 0 → LineNames (SameRank numbers names) (SameCurve s names) l → Stands s p (line_tokens l) q →
      try_turn s numbers names.cancelled automatic (parts_from p l) k x ≡ try_tree names l k x
  unfolding try_turn try_tree parts_from line_tokens condition_tokens line_fault parts_fault tries acts
  try-by-tree (line w v n always a r) p q k x l f g h =
      let y = line-stands s w v n always a r p q h in
      let L = simp length-append at l in
      let d = y.condition in
      let i : p + (length (condition_tokens always) + 4) ≡ y.doing + 1 = omega arith in
      do-tree (parts_from p (line w v n always a r)) n k x [] a r (y.doing + 1) y.end true refl i (few-actions (length r) (lower-zero _ _ (lower-zero _ _ (lower-zero _ _ f).0).1).1) g (omega arith) y.actions y.stops
  try-by-tree (line w v n (under kw u e) a r) p q k x l f g h =
      let c = under kw u e in
      let y = line-stands s w v n c a r p q h in
      let L = simp length-append at l in
      let d = stands-place s (condition_tokens c) (p + 3) y.doing y.condition in
      let i : p + (length (condition_tokens c) + 4) ≡ y.doing + 1 = omega arith in
      let four : p + 3 + 1 ≡ p + 4 = omega arith in
      let few = few-actions (length r) (lower-zero _ _ (lower-zero _ _ (lower-zero _ _ f).0).1).1 in
      let m = get_or x.memory k false in
      let t = parts_from p (line w v n c a r) in
      alike (tries kw m)
      (bind_is (from_reached (condition_value s x.vars.r x.vars.cells (p + 4))) (condition_tree x.vars e)
      (condition-tree s x.vars e (p + 4) y.doing (omega arith) (rw four at y.condition.1) (rw y.begins do-ends))
      (λ b. do_turn s numbers names.cancelled automatic t k (remembered x k (remembers kw m b)) (worked k b ∷ []) (acts kw m b))
      (λ b. do_tree names n k (remembered x k (remembers kw m b)) (worked k b ∷ []) a r (acts kw m b))
      (λ b. do-tree t n k _ _ a r (y.doing + 1) y.end _ refl i few g (omega arith) y.actions y.stops))
      (do-tree t n k x [] a r (y.doing + 1) y.end _ refl i few g (omega arith) y.actions y.stops)

  -- THE TURN of a faultless line whose tokens stand from p up to q, of rank k; each line that its LOCK and UNLOCK name has one rank in the numbers and in the names, and each curve that
  -- its SYNFCT name is in the set what it is in the names
  pub turn-by-tree : (l : Line) (p q k : ℕ) (x : World) → length (line_tokens l) ≤ suc set_size → line_fault l ≡ 0 → LineNames (SameRank numbers names) (SameCurve s names) l → Stands s p (line_tokens l) q →
      turn_of s numbers names.cancelled automatic (parts_from p l) k x ≡ turn_tree names automatic l k x
  unfolding turn_of takes_turn turn_tree takes_tree parts_from
  turn-by-tree (line w v n c a r) p q k x l f g h = alike (takes_tree names automatic (line w v n c a r) k x) (try-by-tree (line w v n c a r) p q k x l f g h) refl

  -- the line of rank k is read as one that stands in the set, faultless
  pub record Holding (items : List Told) (k : ℕ) (l : Line) : Type 0 where
    pub place : ℕ
    pub behind : ℕ
    pub item : get_or items k no_line ≡ parts_from place l
    pub stands : Stands s place (line_tokens l) behind
    pub faultless : line_fault l ≡ 0
    pub short : length (line_tokens l) ≤ suc set_size
    pub named : LineNames (SameRank numbers names) (SameCurve s names) l

  abbrev pub HoldingFrom : List Told → ℕ → List Line → Type 0
  HoldingFrom items k [] = Unit {0}
  HoldingFrom items k (l ∷ ls) = Holding items k l × HoldingFrom items (k + 1) ls

  -- THE TURNS of such lines from rank k on
  pub turns-by-tree : (items : List Told) (ls : List Line) (k : ℕ) (x : World) → HoldingFrom items k ls →
      turns_from s numbers names.cancelled automatic items (length ls) k x ≡ turns_tree names automatic ls k x
  unfolding turns_from turns_tree
  turns-by-tree items [] k x h = refl
  turns-by-tree items (l ∷ ls) k x h =
      let y = h.0 in
      rw (y.item, turn-by-tree l y.place y.behind k x y.short y.faultless y.named y.stands) (go (turn_tree names automatic l k x) (λ z. turns-by-tree items ls (k + 1) z h.1))
    where
      ending : Turned → Turned → Answer Turned
      ending t u = good (record { world = u.world; entries = t.entries ++ u.entries })

      go : (m : Answer Turned) → ((z : World) → turns_from s numbers names.cancelled automatic items (length ls) (k + 1) z ≡ turns_tree names automatic ls (k + 1) z) →
          (m >>= λ t. turns_from s numbers names.cancelled automatic items (length ls) (k + 1) t.world >>= ending t)
          ≡ (m >>= λ t. turns_tree names automatic ls (k + 1) t.world >>= ending t)
      go (good t) f = rw (f t.world)
      go (stop c) f = refl
