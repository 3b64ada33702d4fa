-- A turn, and the turns of all lines by rising number (document 01, "A beat"). Definitions only.
use Rattle.std.specs.Prelude.{Bool, true, false, not, ◌&&◌, ◌||◌, List, [], ◌∷◌, ◌++◌, map, ℕ, zero, suc, ◌+◌, ◌^◌, get_or, set}
use Rattle.tokens.specs.Token.{max_actions}
use Rattle.tokens.specs.Descent.{Answer, good, ◌>>=◌}
use Rattle.working.specs.Operators.{is_yes}
use Rattle.working.specs.Working.{condition_value}
use Rattle.checking.specs.declared.line.Line.{Line}
use Rattle.engine.specs.Set.{no_line}
use Rattle.engine.specs.Action.{World, Note, from_reached}
use Rattle.engine.specs.Actions.{actions_of}
use Rattle.engine.specs.Keyword.{acts, remembers, tries}

-- what is written down: a beat began, in AUTOMATIC or not; the condition of the line of a rank was worked and gave this; it was locked or released;
-- it was cancelled; a reset
pub data Entry : Type 0 where
  beat_in : Bool → Entry
  worked : ℕ → Bool → Entry
  locks : ℕ → Bool → Entry
  cancels : ℕ → Entry
  resets : Entry

abbrev pub lock_entry : Note → Entry
lock_entry n = locks n.0 n.1

-- a turn's outcome, and what is written down of it
pub record Turned : Type 0 where
  pub world : World
  pub entries : List Entry

abbrev pub remembered : World → ℕ → Bool → World
remembered x k m = record { vars = x.vars; locked = x.locked; memory = set x.memory k m; acted = x.acted; orders = x.orders }

-- the line of rank k acted: its bit in the word
abbrev pub counted : World → ℕ → World
counted x k = record { vars = x.vars; locked = x.locked; memory = x.memory; acted = x.acted + 2 ^ k; orders = x.orders }

module _ (s numbers : List ℕ) (cancelled : List Bool) (automatic : Bool) where
  -- in the set, not cancelled and not locked at that moment; an ID line also needs AUTOMATIC
  unfoldable pub takes_turn : Line → ℕ → World → Bool
  takes_turn l k x = not (get_or cancelled k false) && (not (get_or x.locked k false) && (l.ids || automatic))

  -- its actions, if it acts
  unfoldable pub do_turn : Line → ℕ → World → List Entry → Bool → Answer Turned
  do_turn l k x es false = good (record { world = x; entries = es })
  do_turn l k x es true =
      actions_of s numbers cancelled l.number max_actions (counted x k) l.actions >>= λ d.
      good (record { world = d.world; entries = es ++ map lock_entry d.notes })

  -- the condition, worked; then the actions
  unfoldable pub try_turn : Line → ℕ → World → Answer Turned
  try_turn l k x =
      elim (tries l.keyword (get_or x.memory k false)) [
        | true ↦
            from_reached (condition_value s x.vars.r x.vars.cells l.condition) >>= λ a.
            do_turn l k (remembered x k (remembers l.keyword (get_or x.memory k false) (is_yes a.0))) (worked k (is_yes a.0) ∷ [])
            (acts l.keyword (get_or x.memory k false) (is_yes a.0))
        | false ↦ do_turn l k x [] (acts l.keyword (get_or x.memory k false) false)
      ]

  -- the turn of the line of rank k
  unfoldable pub turn_of : Line → ℕ → World → Answer Turned
  turn_of l k x = elim (takes_turn l k x) [ true ↦ try_turn l k x | false ↦ good (record { world = x; entries = [] }) ]

  -- the turns of m lines from rank k on, by rising number
  unfoldable pub turns_from : List Line → ℕ → ℕ → World → Answer Turned
  turns_from ls zero k x = good (record { world = x; entries = [] })
  turns_from ls (suc m) k x =
      turn_of (get_or ls k no_line) k x >>= λ t.
      turns_from ls m (k + 1) t.world >>= λ u.
      good (record { world = u.world; entries = t.entries ++ u.entries })
