-- WHAT A TEXT THAT IS TAKEN DOES: a beat from its load on is the turns of its trees by rising number, over the curves of its definitions, whichever calls came before. Theorems; nothing is assumed.
use Rattle.std.specs.Prelude.{◌≡◌, true, false, List, [], ◌∷◌, ◌↔◌, ℕ, ◌≤◌, ltb, length, is_some}
use Rattle.std.proofs.Common.{sym, subst, inl, inr}
use Rattle.tokens.specs.Descent.{good, ◌>>=◌}
use Rattle.grammar.specs.Tree.{Line, tree_number, Definition}
use Rattle.engine.specs.declared.state.State.{State}
use Rattle.engine.specs.Turn.{beat_in}
use Rattle.engine.specs.Beat.{buffer_size, are_inputs, Given, samples_in, beat_begun, whole_beat}
use Rattle.soundness.specs.Call.{Call, after_all}
use Rattle.soundness.specs.AnswerCodes.{OneOf}
use Rattle.turn_trees.specs.TurnTree.{names_of, curve_named, turns_tree}
use Rattle.text.specs.Lines.{Numbered, token_lines}
use Rattle.reader.specs.Row.{Row, by_number}
use Rattle.reader.specs.Load.{load_answer, load_set}
use Rattle.reader.specs.CheckedLaws.{line-number}
use Rattle.loading.specs.TextTrees.{Distinct, rising_trees, RisesBy, row_lines, GoodLines, Takes}
use Rattle.loading.specs.TakenLaws.{kept_of}
use Rattle.loading.specs.TextLinesLaws.{text-lines}
use Rattle.loading.specs.TextByTrees.{trees-rows, takes-rows}
use Rattle.loading.specs.LoadedLaws.{rows_apart}
use Rattle.loading.specs.LoadedTurns.{AreTrees, beat-after-calls}
use Rattle.loading.specs.RisingTreesLaws.{order-one, one-order, order-length, order-rises, by_order, good-pairs, pairs-order, pairs-trees}
use Rattle.loading.specs.TextCurves.{curves-definitions}

-- a line without a fault has a number from 1 on
good-number : (ls : List Numbered) (xs : List Line) → GoodLines ls xs → (x : Line) → OneOf x xs → 1 ≤ tree_number x
good-number [] [] g x o = absurd o
good-number [] (y ∷ ys) g x o = absurd g
good-number (l ∷ ls) [] g x o = absurd o
good-number (l ∷ ls) (y ∷ ys) g x (inl e) = subst (λ (z : Line). 1 ≤ tree_number z) e (line-number y g.0.faultless).0
good-number (l ∷ ls) (y ∷ ys) g x (inr o) = good-number ls ys g.1 x o

module _ (t : List ℕ) (ds : List Definition) (xs : List Line) (takes : Takes t ds xs) where
  lines-good : GoodLines (row_lines (token_lines t)) xs
  lines-good = text-lines (token_lines t) ds xs takes.lines.good

  -- ITS TREES BY RISING NUMBER are its trees, as many, and their numbers rise
  pub rising-trees : ((x : Line) → OneOf x (rising_trees xs) ↔ OneOf x xs) × (length (rising_trees xs) ≡ length xs) × RisesBy tree_number 0 (rising_trees xs)
  rising-trees = (
    (λ x. (order-one tree_number xs x, one-order tree_number xs x)),
    order-length tree_number xs,
    order-rises tree_number xs takes.lines.distinct (good-number (row_lines (token_lines t)) xs lines-good),
  )

  -- they are the rows by rising number
  rows-trees : AreTrees (rising_trees xs) (by_number (kept_of t).rows)
  rows-trees =
      let rs : List Row = (kept_of t).rows in
      let (apart, few) = rows_apart t (kept_of t) (takes-rows t ds xs takes) in
      let n = (trees-rows t ds xs takes.lines).1.rows in
      subst (AreTrees (rising_trees xs)) (sym (by_order rs few apart (subst Distinct (sym n) takes.lines.distinct)))
      (pairs-trees (rising_trees xs) _ (pairs-order xs rs (good-pairs (row_lines (token_lines t)) xs lines-good)))

  -- A BEAT that is not refused, after any calls from the load on
  pub beat-of-text : (cs : List Call) (g : Given) → ltb (length g.buffer) buffer_size ≡ false → are_inputs g.lent ≡ true →
      let st : State = after_all (load_set t) (load_answer t).state cs in is_some (samples_in st g) ≡ true →
      let ls : List Line = rising_trees xs in
      whole_beat (load_set t) st g
      ≡ (turns_tree (names_of ls (curve_named ds) st.cancelled) g.automatic ls 0 (beat_begun st g) >>= λ u. good (record { world = u.world; entries = beat_in g.automatic ∷ u.entries }))
  beat-of-text cs g b c d = beat-after-calls t (kept_of t) (takes-rows t ds xs takes) (rising_trees xs) rows-trees ds (curves-definitions t ds xs takes) cs g b c d
