-- What a line names, as a tree: lines by LOCK and UNLOCK (document 01, code 12), curves by SYNFCT (document 02, code 13). Definitions only.
use Rattle.std.specs.Prelude.{Bool, true, false, ◌&&◌, List, [], ◌∷◌, ◌++◌, ℕ}
use Rattle.tokens.specs.Token.{SYNFCT, is_naming}
use Rattle.grammar.specs.Tree.{Action, assign, assign_position, drive, code, call, synfct, Line, line}

-- a name: the word, and the number behind its bracket
pub record Name : Type 0 where
  pub word : ℕ
  pub number : ℕ

-- what an action names, if it is a LOCK, UNLOCK or SYNFCT
abbrev pub action_names : Action → List Name
action_names (assign w v i a) = []
action_names (assign_position x v a) = []
action_names (drive w v x u a) = []
action_names (code n) = []
action_names (call w v n) = elim (is_naming w) [ true ↦ record { word = w; number = n } ∷ [] | false ↦ [] ]
action_names (synfct n y z) = record { word = SYNFCT; number = n } ∷ []

unfoldable pub actions_names : Action → List Action → List Name
actions_names a [] = action_names a
actions_names a (b ∷ r) = action_names a ++ actions_names b r

-- what a line names
unfoldable pub names_in : Line → List Name
names_in (line w v n c a r) = actions_names a r

abbrev pub has_names : List Name → Bool
has_names [] = false
has_names (m ∷ ms) = true

-- each of some names is known, by a table of the word and the number
unfoldable pub each_known : (ℕ → ℕ → Bool) → List Name → Bool
each_known known [] = true
each_known known (m ∷ ms) = known m.word m.number && each_known known ms
