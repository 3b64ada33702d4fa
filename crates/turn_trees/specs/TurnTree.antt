-- What a line does, from its tree (document 01, "Values and time" and "A beat"; document 02, Req 03); where its tokens stand does not matter. Definitions only.
use Rattle.std.specs.Prelude.{Bool, true, false, not as is_not, ◌&&◌, ◌||◌, List, [], ◌∷◌, ◌++◌, map, ℕ, ◌+◌, eqb, ℤ, pos, get_or}
use Rattle.values.specs.declared.curve.Curve.{Curve}
use Rattle.tokens.specs.Token.{IDS, IM, SETAL, LOCK, axis_of}
use Rattle.tokens.specs.Descent.{Answer, good, ◌>>=◌}
use Rattle.checking.specs.CurveDefinition.{no_curve}
use Rattle.working.specs.Variables.{variable_value}
use Rattle.working.specs.Operators.{is_yes, from_worked}
use Rattle.working.specs.Working.{value_over}
use Rattle.grammar.specs.Tree.{number, variable, position, truth, bracket, minus, not, product, Sum, sum, Expression, Action, assign, assign_position, drive, code, call, synfct, place_word, place_index, always, under, Line, line, tree_number, Definition}
use Rattle.grammar.specs.Meaning.{sum_meaning, expression_meaning}
use Rattle.grammar.specs.TreeFault.{is_removal_tree, curve_in}
use Rattle.engine.specs.declared.order.Kind.TheVariants as K
use Rattle.engine.specs.Set.{rank_in}
use Rattle.engine.specs.declared.write.Change.TheVariants.{Remove}
use Rattle.engine.specs.declared.write.Vars.{Vars}
use Rattle.engine.specs.Write.{change_fifo, with_changed, write_to}
use Rattle.engine.specs.Drive.{drive_order, order_of}
use Rattle.engine.specs.Keyword.{acts, remembers, tries}
use Rattle.engine.specs.Action.{World, Note, ordered, with_vars, with_lock, curve_assigned}
use Rattle.engine.specs.Turn.{Entry, worked, lock_entry, Turned, remembered, counted}

-- what a line may name: the lines of the set, by rank, with their numbers, and which of them are cancelled; and the curve that each number names
pub record Names : Type 0 where
  pub numbers : List ℕ
  pub cancelled : List Bool
  pub curves : ℕ → Curve

-- ---- right sides and conditions

-- a right side that was worked: its value, and the variables then
pub record RightTaken : Type 0 where
  pub value : ℤ
  pub vars : Vars

-- its value; no variable changes
abbrev pub value_taken : Vars → Sum → Answer RightTaken
value_taken x a = sum_meaning (value_over x.r x.cells) a >>= λ v. good (record { value = v; vars = x })

-- the oldest value of the FIFO with the word w, which is removed
abbrev pub oldest_taken : Vars → ℕ → Answer RightTaken
oldest_taken x w = change_fifo x.r x.cells Remove w >>= λ c. good (record { value = c.value; vars = with_changed x c })

-- the right side of an assignment to a variable: FIFO [0] as the whole of it removes the oldest
unfoldable pub taken_tree : Vars → Sum → Answer RightTaken
taken_tree x (sum (product (variable w v i) r) t) =
    let a = sum (product (variable w v i) r) t in
    elim (is_removal_tree a) [ true ↦ oldest_taken x w | false ↦ value_taken x a ]
taken_tree x (sum (product (number n) r) t) = value_taken x (sum (product (number n) r) t)
taken_tree x (sum (product (position y v) r) t) = value_taken x (sum (product (position y v) r) t)
taken_tree x (sum (product (truth b) r) t) = value_taken x (sum (product (truth b) r) t)
taken_tree x (sum (product (bracket e) r) t) = value_taken x (sum (product (bracket e) r) t)
taken_tree x (sum (product (minus a) r) t) = value_taken x (sum (product (minus a) r) t)
taken_tree x (sum (product (not a) r) t) = value_taken x (sum (product (not a) r) t)

-- a condition: yes or no
unfoldable pub condition_tree : Vars → Expression → Answer Bool
condition_tree x e = expression_meaning (value_over x.r x.cells) e >>= λ v. good (is_yes v)

-- ---- actions

-- what actions did: the world, and the locks and releases that are written down
pub record ActionsDone : Type 0 where
  pub world : World
  pub notes : List Note

abbrev pub done_in : World → Answer ActionsDone
done_in x = good (record { world = x; notes = [] })

-- variable = sum
unfoldable pub assign_tree : World → ℕ → ℕ → Sum → Answer ActionsDone
assign_tree x w i a = taken_tree x.vars a >>= λ t. write_to t.vars w i t.value >>= λ v. done_in (with_vars x v)

module _ (names : Names) where
  -- LOCK and UNLOCK of the line of rank k take effect at once; naming a cancelled line, they do nothing
  unfoldable pub lock_tree : World → Bool → ℕ → Answer ActionsDone
  lock_tree x b k = elim (get_or names.cancelled k false) [ true ↦ done_in x | false ↦ good (record { world = with_lock x k b; notes = (k, b) ∷ [] }) ]

  -- an action of the line with the number n
  unfoldable pub action_tree : ℕ → World → Action → Answer ActionsDone
  action_tree n x (assign w v i a) = assign_tree x w i a
  action_tree n x (assign_position y v a) = assign_tree x IM (axis_of y) a
  action_tree n x (drive w v y u a) =
      sum_meaning (value_over x.vars.r x.vars.cells) a >>= λ z. drive_order n w (axis_of y) z >>= λ o. done_in (ordered x o)
  action_tree n x (code m) = done_in (ordered x (order_of n K.M 0 (pos m)))
  action_tree n x (call w v m) =
      elim (eqb w SETAL) [ true ↦ done_in (ordered x (order_of n K.Setal 0 (pos m))) | false ↦ lock_tree x (eqb w LOCK) (rank_in names.numbers m 0) ]
  action_tree n x (synfct m y z) =
      from_worked (variable_value x.vars.r x.vars.cells (place_word z) (place_index z)) >>= λ u.
      curve_assigned x.vars (names.curves m) u (place_word y) (place_index y) >>= λ v.
      done_in (with_vars x v)

  -- one or more, left to right: each finds the world as the one before it left it
  unfoldable pub actions_tree : ℕ → World → Action → List Action → Answer ActionsDone
  actions_tree n x a [] = action_tree n x a
  actions_tree n x a (b ∷ r) =
      action_tree n x a >>= λ d. actions_tree n d.world b r >>= λ e. good (record { world = e.world; notes = d.notes ++ e.notes })

  -- ---- a turn

  -- the actions of the line of rank k, if it acts, behind what is written down of its condition
  unfoldable pub do_tree : ℕ → ℕ → World → List Entry → Action → List Action → Bool → Answer Turned
  do_tree n k x es a r false = good (record { world = x; entries = es })
  do_tree n k x es a r true = actions_tree n (counted x k) a r >>= λ d. good (record { world = d.world; entries = es ++ map lock_entry d.notes })

  -- its condition, if it has one and works it, then its actions
  unfoldable pub try_tree : Line → ℕ → World → Answer Turned
  try_tree (line w u n always a r) k x = do_tree n k x [] a r true
  try_tree (line w u n (under kw v e) a r) k x =
      let m = get_or x.memory k false in
      elim (tries kw m) [
        | true ↦ condition_tree x.vars e >>= λ b. do_tree n k (remembered x k (remembers kw m b)) (worked k b ∷ []) a r (acts kw m b)
        | false ↦ do_tree n k x [] a r (acts kw m false)
      ]

-- an IDS line
abbrev pub is_ids : Line → Bool
is_ids (line w u n c a r) = eqb w IDS

module _ (names : Names) (automatic : Bool) where
  -- not cancelled and not locked at that moment; an ID line also needs AUTOMATIC
  unfoldable pub takes_tree : Line → ℕ → World → Bool
  takes_tree l k x = is_not (get_or names.cancelled k false) && (is_not (get_or x.locked k false) && (is_ids l || automatic))

  -- the turn of the line of rank k
  unfoldable pub turn_tree : Line → ℕ → World → Answer Turned
  turn_tree l k x = elim (takes_tree l k x) [ true ↦ try_tree names l k x | false ↦ good (record { world = x; entries = [] }) ]

  -- the turns of some lines, one after another, the first of rank k
  unfoldable pub turns_tree : List Line → ℕ → World → Answer Turned
  turns_tree [] k x = good (record { world = x; entries = [] })
  turns_tree (l ∷ ls) k x = turn_tree l k x >>= λ t. turns_tree ls (k + 1) t.world >>= λ u. good (record { world = u.world; entries = t.entries ++ u.entries })

-- the names of a set of lines by rising number, and of curves
abbrev pub names_of : List Line → (ℕ → Curve) → List Bool → Names
names_of ls curves cancelled = record { numbers = map tree_number ls; cancelled = cancelled; curves = curves }

-- the curve that the number n names by some definitions: that of the first with the number; the zero curve where there is none
unfoldable pub curve_named : List Definition → ℕ → Curve
curve_named [] n = no_curve
curve_named (d ∷ ds) n = elim (eqb d.number n) [ true ↦ curve_in d | false ↦ curve_named ds n ]
