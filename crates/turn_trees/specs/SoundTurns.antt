-- THE TURNS OVER A SOUND SET ARE THOSE OF THE TREES OF ITS LINES, by rising number; and each sound set has such trees. Theorems; nothing is assumed.
use Rattle.std.specs.Prelude.{◌≡◌, refl, Bool, true, false, List, [], ◌∷◌, map, ℕ, zero, suc, ◌+◌, ◌≤◌, ◌<◌, ltb, length, get_or, is_some}
use Rattle.std.proofs.Common.{sym, ap, ◌∙◌, arith, ltb-true}
use Rattle.std.proofs.lemmas.List.{length-map}
use Rattle.values.specs.Choice.{both, chosen, refused}
use Rattle.values.specs.declared.curve.Curve.{Curve}
use Rattle.tokens.specs.Token.{set_size, max_lines}
use Rattle.tokens.specs.Descent.{good, ◌>>=◌}
use Rattle.checking.specs.declared.line.Line.{Line as Told}
use Rattle.checking.specs.Fault.{fault_of_line}
use Rattle.grammar.specs.Tree.{Line, line_tokens, tree_number}
use Rattle.grammar.specs.Meaning.{Stands}
use Rattle.grammar.specs.TreeFault.{line_fault, parts_from, moves_in, AxesApart}
use Rattle.grammar.specs.OneMove.{one-move}
use Rattle.grammar.specs.ClosedTokens.{line-fits}
use Rattle.grammar.specs.AgreementLine.{line-found, line-fault, line-parts, not-deep, parts-number}
use Rattle.engine.specs.declared.state.State.{State}
use Rattle.engine.specs.Set.{start_of, rank_in, line_of, no_line, defined_curve, sound_lines, lines_of}
use Rattle.engine.specs.Sound.{is_sound, state_sound}
use Rattle.engine.specs.Action.{World}
use Rattle.engine.specs.Turn.{beat_in, turns_from}
use Rattle.engine.specs.Beat.{buffer_size, are_inputs, Given, samples_in, beat_begun, whole_beat}
use Rattle.engine.specs.SetLinesLaws.{lines-lined}
use Rattle.soundness.specs.SetSoundLaws.{lines-known, rank-inside}
use Rattle.turn_trees.specs.TurnTree.{names_of, turns_tree}
use Rattle.turn_trees.specs.LineNames.{LineNames, SameRank, SameCurve}
use Rattle.turn_trees.specs.NamesLaws.{Known, Defined, line-names, names-so, rank_same}
use Rattle.turn_trees.specs.TurnByTree.{HoldingFrom, turns-by-tree}

-- the tokens of the tree l stand where the line of rank k begins
abbrev pub TreeAt : List ℕ → ℕ → Line → Type 0
TreeAt s k l = (q : ℕ) × Stands s (start_of s k) (line_tokens l) q

abbrev pub TreesFrom : List ℕ → ℕ → List Line → Type 0
TreesFrom s k [] = Unit {0}
TreesFrom s k (l ∷ ls) = TreeAt s k l × TreesFrom s (k + 1) ls

-- the trees of a set, one for each line, by rank
pub record TreesOf (s : List ℕ) (ls : List Line) : Type 0 where
  pub count : length ls ≡ (lines_of s).count
  pub trees : TreesFrom s 0 ls

-- each curve that the set has is the one of these with its number
abbrev pub CurvesOf : List ℕ → (ℕ → Curve) → Type 0
CurvesOf s curves = (m : ℕ) → Defined s m → defined_curve s m ≡ curves m

-- those that the check tells are
pub own-curves : (s : List ℕ) → CurvesOf s (λ n. defined_curve s n)
own-curves s m h = refl

module _ (s : List ℕ) (size : length s ≤ set_size) (sound : is_some (sound_lines s) ≡ true) where
  -- ---- one line

  module _ (k : ℕ) (inside : k < (lines_of s).count) where
    -- the line of this rank, as it is read
    abbrev item : Told
    item = get_or (lines_of s).items k no_line

    clean : fault_of_line (line_of s k) ≡ 0
    clean = ap fault_of_line ((lines-lined s).listed.item k inside)

    tree-found : (l : Line) × TreeAt s k l
    tree-found = let c = clean in let (l, q, h) = line-found s (start_of s k) (λ e. omega arith) (λ e. omega arith) in (l, (q, h))

    module _ (l : Line) (t : TreeAt s k l) where
      pub tree-faultless : line_fault l ≡ 0
      tree-faultless = sym (line-fault s size l (start_of s k) t.0 (not-deep s (start_of s k) clean) t.1) ∙ clean

      -- NO LINE OF A SOUND SET MOVES AN AXIS TWICE, wherever the set came from
      pub sound-moves : AxesApart (moves_in l)
      sound-moves = one-move l tree-faultless

      tree-parts : item ≡ parts_from (start_of s k) l
      tree-parts =
          let read = (lines-lined s).listed.item k inside in
          let told = (line-parts s size l (start_of s k) t.0 (not-deep s (start_of s k) clean) t.1 tree-faultless).0 in
          cc

      pub tree-number : tree_number l ≡ get_or (lines_of s).numbers k 0
      tree-number = sym ((lines-lined s).listed.number k inside ∙ ap (λ (x : Told). x.number) tree-parts ∙ parts-number (start_of s k) l)

      pub tree-short : length (line_tokens l) ≤ suc set_size
      tree-short = let z = line-fits s l (start_of s k) t.0 t.1 in omega arith

      tree-names : LineNames (Known (lines_of s).numbers) (Defined s) l
      tree-names = line-names s (lines_of s).numbers l (start_of s k) t.0 tree-short tree-faultless t.1 (lines-known s sound k inside)

  -- ---- all lines

  trees-from : (n k : ℕ) → k + n ≡ (lines_of s).count → (ls : List Line) × (length ls ≡ n) × TreesFrom s k ls
  trees-from zero k e = ([], refl, tt)
  trees-from (suc n) k e =
      let (l, t) = tree-found k (omega arith) in
      let (ls, m, ts) = trees-from n (k + 1) (omega arith) in
      (l ∷ ls, ap suc m, (t, ts))

  -- EACH SOUND SET HAS TREES
  pub sound-trees : (ls : List Line) × TreesOf s ls
  sound-trees = let (ls, m, ts) = trees-from (lines_of s).count 0 (omega arith) in (ls, record { count = m; trees = ts })

  pub numbers-at : (ls : List Line) (k j : ℕ) → TreesFrom s k ls → k + length ls ≤ (lines_of s).count → j < length ls → get_or (map tree_number ls) j 0 ≡ get_or (lines_of s).numbers (k + j) 0
  numbers-at [] k j t c h = absurd (omega arith)
  numbers-at (l ∷ ls) k zero t c h = let z : k + 0 ≡ k = omega arith in rw z (tree-number k (omega arith) l t.0)
  numbers-at (l ∷ ls) k (suc j) t c h = let z : k + suc j ≡ k + 1 + j = omega arith in rw z (numbers-at ls (k + 1) j t.1 (omega arith) (omega arith))

  module _ (ls : List Line) (trees : TreesOf s ls) (curves : ℕ → Curve) (same : CurvesOf s curves) (cancelled : List Bool) (automatic : Bool) where
    -- a known number has one rank
    known-rank : (m : ℕ) → Known (lines_of s).numbers m → SameRank (lines_of s).numbers (names_of ls curves cancelled) m
    known-rank m h =
        let ns = (lines_of s).numbers in
        let a = ltb-true (rank_in ns m 0) max_lines h.0 in
        let b = rank-inside s m h.1 a in
        let c = trees.count in
        let n = length-map ls tree_number in
        let x = (lines-lined s).numbers_length in
        let y = (lines-lined s).few in
        (a, rank_same (map tree_number ls) ns m 0 (omega arith) (λ j i. let z : 0 + j ≡ j = omega arith in rw z at (numbers-at ls 0 j trees.trees (omega arith) (omega arith))) (omega arith))

    holding : (qs : List Line) (k : ℕ) → TreesFrom s k qs → k + length qs ≤ (lines_of s).count →
        HoldingFrom s (lines_of s).numbers (names_of ls curves cancelled) automatic (lines_of s).items k qs
    holding [] k t c = tt
    holding (l ∷ qs) k t c =
        let i : k < (lines_of s).count = omega arith in (
          record {
            place = start_of s k;
            behind = t.0.0;
            item = tree-parts k i l t.0;
            stands = t.0.1;
            faultless = tree-faultless k i l t.0;
            short = tree-short k i l t.0;
            named =
                names-so (Known (lines_of s).numbers) (Defined s) (SameRank (lines_of s).numbers (names_of ls curves cancelled)) (SameCurve s (names_of ls curves cancelled)) known-rank same l
                (tree-names k i l t.0);
          },
          holding qs (k + 1) t.1 (omega arith),
        )

    -- THE TURNS of a beat over a sound set
    pub sound-turns : (x : World) → turns_from s (lines_of s).numbers cancelled automatic (lines_of s).items (lines_of s).count 0 x ≡ turns_tree (names_of ls curves cancelled) automatic ls 0 x
    sound-turns x =
        let c = trees.count in
        rw (← c) (turns-by-tree s (lines_of s).numbers (names_of ls curves cancelled) automatic (lines_of s).items ls 0 x (holding ls 0 trees.trees (omega arith)))

-- A BEAT THAT IS NOT REFUSED is the turns of the trees of its set, by rising number, from the world in which it begins
pub beat-by-trees : (s : List ℕ) (ls : List Line) (curves : ℕ → Curve) (st : State) (g : Given) → length s ≤ set_size → TreesOf s ls → CurvesOf s curves →
    is_sound s st ≡ true → ltb (length g.buffer) buffer_size ≡ false → are_inputs g.lent ≡ true → is_some (samples_in st g) ≡ true →
    whole_beat s st g ≡ (turns_tree (names_of ls curves st.cancelled) g.automatic ls 0 (beat_begun st g) >>= λ t. good (record { world = t.world; entries = beat_in g.automatic ∷ t.entries }))
unfolding whole_beat is_sound
beat-by-trees s ls curves st g size trees same a b c d =
    let sound = (both (is_some (sound_lines s)) (state_sound (lines_of s).count st) a).0 in
    chosen _ _ _ a ∙ refused _ _ _ b ∙ chosen _ _ _ c ∙ chosen _ _ _ d ∙ rw (sound-turns s size sound ls trees curves same st.cancelled g.automatic (beat_begun st g))
