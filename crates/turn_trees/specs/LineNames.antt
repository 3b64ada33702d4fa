-- What a line names: lines by LOCK and UNLOCK, curves by SYNFCT; and that the set in the engine's hands and the names agree on it. Definitions only.
use Rattle.std.specs.Prelude.{◌≡◌, true, List, [], ◌∷◌, ℕ, ◌<◌}
use Rattle.tokens.specs.Token.{max_lines, is_lock}
use Rattle.grammar.specs.Tree.{Action, assign, assign_position, drive, code, call, synfct, Line, line}
use Rattle.engine.specs.Set.{rank_in, defined_curve}
use Rattle.turn_trees.specs.TurnTree.{Names}

module _ (P Q : ℕ → Type 0) where
  -- P holds of each number that a LOCK or UNLOCK names, Q of each that a SYNFCT names
  abbrev pub ActionNames : Action → Type 0
  ActionNames (assign w v i a) = Unit {0}
  ActionNames (assign_position y v a) = Unit {0}
  ActionNames (drive w v y u a) = Unit {0}
  ActionNames (code m) = Unit {0}
  ActionNames (call w v m) = is_lock w ≡ true → P m
  ActionNames (synfct m y z) = Q m

  abbrev pub ActionsName : Action → List Action → Type 0
  ActionsName a [] = ActionNames a
  ActionsName a (b ∷ r) = ActionNames a × ActionsName b r

  abbrev pub LineNames : Line → Type 0
  LineNames (line w u n c a r) = ActionsName a r

-- the engine's numbers have m, at the rank that the names have it at
abbrev pub SameRank : List ℕ → Names → ℕ → Type 0
SameRank numbers names m = (rank_in numbers m 0 < max_lines) × (rank_in numbers m 0 ≡ rank_in names.numbers m 0)

-- the curve m of the set is the one that the names have
abbrev pub SameCurve : List ℕ → Names → ℕ → Type 0
SameCurve s names m = defined_curve s m ≡ names.curves m
