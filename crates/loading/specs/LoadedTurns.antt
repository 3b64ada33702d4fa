-- AFTER A LOAD THE TURNS OF A BEAT ARE THOSE OF THE TREES OF THE TEXT'S LINES, by rising number, over the curves of its definitions: what a line does is told by the text alone. Theorems; nothing
-- is assumed.
use Rattle.std.specs.Prelude.{◌≡◌, refl, Bool, true, false, List, [], ◌∷◌, map, ℕ, suc, ◌+◌, ltb, length, is_some}
use Rattle.std.proofs.Common.{sym, ap, subst, ◌∙◌, arith}
use Rattle.std.proofs.lemmas.List.{length-map}
use Rattle.tokens.specs.Descent.{good, ◌>>=◌}
use Rattle.grammar.specs.Tree.{Line, line_tokens, Definition}
use Rattle.grammar.specs.Meaning.{Stands}
use Rattle.engine.specs.declared.state.State.{State}
use Rattle.engine.specs.Set.{start_of, lines_of, without_mark, with_end}
use Rattle.engine.specs.Sound.{is_sound}
use Rattle.engine.specs.Action.{World}
use Rattle.engine.specs.Turn.{beat_in, turns_from}
use Rattle.engine.specs.Beat.{buffer_size, are_inputs, Given, samples_in, beat_begun, whole_beat}
use Rattle.soundness.specs.Call.{Call, after_all}
use Rattle.turn_trees.specs.TurnTree.{names_of, curve_named, turns_tree}
use Rattle.turn_trees.specs.SoundTurns.{TreesFrom, TreesOf, CurvesOf, sound-turns, beat-by-trees}
use Rattle.turn_trees.specs.TurnNumbersTo.{turns-to, names-to}
use Rattle.reader.specs.Row.{Row, Kept, by_number, ranked, set_of}
use Rattle.reader.specs.Load.{taken, outcome, load_answer, load_set}
use Rattle.loading.specs.Unmarked.{unmarked, unmarked_tree}
use Rattle.loading.specs.UnmarkedLaws.{unmarked-keeps, unmarked-tokens}
use Rattle.loading.specs.PlacedLaws.{Laid, held_tokens}
use Rattle.loading.specs.StoredLineLaws.{written, ended-unmarked}
use Rattle.loading.specs.TakenLaws.{All, Fine, taken_fine}
use Rattle.loading.specs.LoadAnswers.{taken-answer}
use Rattle.loading.specs.LoadedLaws.{each-by, taken-laid, taken-read}
use Rattle.loading.specs.LoadedCurves.{AreDefinitions, loaded-curves}
use Rattle.loading.specs.LoadedSound.{load-lines-sound, load-size, load-always-sound}

-- each tree is written as the tokens of its line of the text
abbrev pub AreTrees : List Line → List Row → Type 0
AreTrees [] [] = Unit {0}
AreTrees [] (r ∷ rs) = ⊥
AreTrees (l ∷ ls) [] = ⊥
AreTrees (l ∷ ls) (r ∷ rs) = (line_tokens l ≡ with_end r.tokens) × AreTrees ls rs

trees-length : (ls : List Line) (rs : List Row) → AreTrees ls rs → length ls ≡ length rs
trees-length [] [] h = refl
trees-length [] (r ∷ rs) h = absurd h
trees-length (l ∷ ls) [] h = absurd h
trees-length (l ∷ ls) (r ∷ rs) h = ap suc (trees-length ls rs h.1)

-- lines without a fault have trees
have-trees : (rs : List Row) → All Fine rs → (ls : List Line) × AreTrees ls rs
have-trees [] f = ([], tt)
have-trees (r ∷ rs) f =
    let w = written r.tokens f.0.clean in
    let (ls, t) = have-trees rs f.1 in
    (w.tree ∷ ls, (w.tokens, t))

-- the tokens of a tree without marks are those that a set has of its line
held-tree : (l : Line) (r : Row) → line_tokens l ≡ with_end r.tokens → held_tokens r.tokens ≡ line_tokens (unmarked_tree l)
held-tree l r e = ended-unmarked r.tokens ∙ ap (map without_mark) (sym e) ∙ unmarked-tokens l

-- lines that are laid in a set: it has the trees without marks
laid-trees : (s : List ℕ) (ls : List Line) (rs : List Row) (k : ℕ) → AreTrees ls rs → Laid s (ranked rs k) → TreesFrom s k (map unmarked_tree ls)
laid-trees s [] [] k h p = tt
laid-trees s [] (r ∷ rs) k h p = absurd h
laid-trees s (l ∷ ls) [] k h p = absurd h
laid-trees s (l ∷ ls) (r ∷ rs) k h p =
    let q = start_of s k + length (held_tokens r.tokens) in
    ((q, subst (λ (x : List ℕ). Stands s (start_of s k) x q) (held-tree l r h.0) p.0), laid-trees s ls rs (k + 1) h.1 p.1)

module _ (t : List ℕ) (q : Kept) (h : outcome t ≡ taken q) where
  -- THE LINES OF A TEXT THAT IS TAKEN HAVE TREES, here by rising number
  pub loaded-trees : (ls : List Line) × AreTrees ls (by_number q.rows)
  loaded-trees = have-trees (by_number q.rows) (each-by t q h Fine (taken_fine t q h))

  module _ (ls : List Line) (trees : AreTrees ls (by_number q.rows)) (ds : List Definition) (are : AreDefinitions ds q.curves) where
    set-trees : TreesOf (set_of q.curves (by_number q.rows)) (map unmarked_tree ls)
    set-trees = record {
      count = let a = length-map ls unmarked_tree in let b = trees-length ls (by_number q.rows) trees in let c = (taken-read t q h).count in omega arith;
      trees = laid-trees (set_of q.curves (by_number q.rows)) ls (by_number q.rows) 0 trees (taken-laid t q h);
    }

    load-trees : TreesOf (load_set t) (map unmarked_tree ls)
    load-trees = rw (taken-answer t q h).2 set-trees

    load-curves : CurvesOf (load_set t) (curve_named ds)
    load-curves = rw (taken-answer t q h).2 (loaded-curves t q h ds are)

    -- THE TURNS of all lines, whichever are cancelled, from any world
    pub loaded-turns-by-tree : (cancelled : List Bool) (automatic : Bool) (x : World) →
        turns_from (load_set t) (lines_of (load_set t)).numbers cancelled automatic (lines_of (load_set t)).items (lines_of (load_set t)).count 0 x ≡ turns_tree (names_of ls (curve_named ds) cancelled) automatic ls 0 x
    loaded-turns-by-tree cancelled automatic x =
        let n = load-size t in
        sound-turns (load_set t) (omega arith) (load-lines-sound t) (map unmarked_tree ls) load-trees (curve_named ds) load-curves cancelled automatic x
        ∙ turns-to unmarked unmarked-keeps (names_of (map unmarked_tree ls) (curve_named ds) cancelled) automatic ls 0 x
        ∙ rw (names-to unmarked unmarked-keeps ls (curve_named ds) cancelled)

    -- A BEAT that is not refused
    pub loaded-beat-by-trees : (st : State) (g : Given) → is_sound (load_set t) st ≡ true → ltb (length g.buffer) buffer_size ≡ false → are_inputs g.lent ≡ true → is_some (samples_in st g) ≡ true →
        whole_beat (load_set t) st g
        ≡ (turns_tree (names_of ls (curve_named ds) st.cancelled) g.automatic ls 0 (beat_begun st g) >>= λ u. good (record { world = u.world; entries = beat_in g.automatic ∷ u.entries }))
    loaded-beat-by-trees st g a b c d =
        let n = load-size t in
        beat-by-trees (load_set t) (map unmarked_tree ls) (curve_named ds) st g (omega arith) load-trees load-curves a b c d
        ∙ rw (turns-to unmarked unmarked-keeps (names_of (map unmarked_tree ls) (curve_named ds) st.cancelled) g.automatic ls 0 (beat_begun st g), names-to unmarked unmarked-keeps ls (curve_named ds) st.cancelled)

    -- SO AFTER ANY CALLS from the load on
    pub beat-after-calls : (cs : List Call) (g : Given) → ltb (length g.buffer) buffer_size ≡ false → are_inputs g.lent ≡ true →
        let st : State = after_all (load_set t) (load_answer t).state cs in is_some (samples_in st g) ≡ true →
        whole_beat (load_set t) st g
        ≡ (turns_tree (names_of ls (curve_named ds) st.cancelled) g.automatic ls 0 (beat_begun st g) >>= λ u. good (record { world = u.world; entries = beat_in g.automatic ∷ u.entries }))
    beat-after-calls cs g b c d = loaded-beat-by-trees (after_all (load_set t) (load_answer t).state cs) g (load-always-sound t cs) b c d
