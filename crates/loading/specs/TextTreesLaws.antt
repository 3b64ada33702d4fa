-- Laws of a text by the trees of its lines: what the definition of loading says of a line and of lines one after the other is what their trees say. Nothing is assumed.
use Rattle.std.specs.Prelude.{◌≡◌, Bool, true, false, ◌&&◌, ◌⊎◌, ℕ, zero, suc, ◌-◌, ◌≤◌, leb, length, set, replicate}
use Rattle.std.proofs.Math.Path.{refl, ap}
use Rattle.std.proofs.Common.{sym, subst, ◌∙◌, inl, inr, arith, length-append, length-set, get_or-set_same, get_or-set_other}
use Rattle.std.proofs.lemmas.Bool.{false≢true}
use mathlib.Core.List.{List, [], ◌∷◌, ◌++◌}
use Rattle.std.proofs.Math.Option.{Option, none, some}
use Rattle.std.proofs.Math.Decide.{ℕ_discrete}
use Rattle.std.proofs.Math.Dec.{eqb}
use Rattle.std.proofs.Math.ListN.{get_or}
use Rattle.std.proofs.lemmas.List.{length-map}
use borrow.Author.Tests.{lt-ltb, leb-true, le-leb, eqb-true, eq-eqb}
use Rattle.values.specs.Codes.{makes_no_token, too_deep, not_in_grammar, used_above, wrong_curve}
use Rattle.values.specs.Choice.{holds, both, decide, choice, contrary, chosen, refused as not-Chosen, and-true}
use Rattle.values.specs.Numbers.{clash}
use Rattle.tokens.specs.Token.{END, FCTDEF, ID, IDS, max_lines, max_curves, is_id}
use Rattle.tokens.specs.SingleFault.{opens_too_many}
use Rattle.grammar.specs.Tree.{Line, line, tree_number, line_tokens, Definition, definition_front, DefinedAs}
use Rattle.grammar.specs.TreeFault.{line_fault, definition_fault}
use Rattle.grammar.specs.TreeNames.{names_in, each_known}
use Rattle.grammar.specs.TreeOf.{tree_of, definition_of}
use Rattle.grammar.specs.TreeOfLaws.{tree-of-tokens, no-tree, definition-of-tokens, no-definition}
use Rattle.engine.specs.Set.{is_known, is_defined}
use Rattle.soundness.specs.AnswerCodes.{OneOf}
use Rattle.text.specs.Tokens.{tokens_of}
use Rattle.text.specs.Lines.{Numbered}
use Rattle.reader.specs.Row.{Row, Kept, nothing, is_there, curves_there, numbers_of}
use Rattle.reader.specs.Load.{tree_fault, fault_of, number_in, are_known, defined_fault, curve_fault_of, curve_number_in, curve_table, curve_below, line_below, defines, tokens_fault, fault_below, row_of, with_row, with_curve, kept_with}
use Rattle.reader.specs.CheckedLaws.{faultless, faultless-curve, line-number, definition-number}
use Rattle.reader.specs.KeptLaws.{NewCurve, NewLine, by_kind}
use Rattle.loading.specs.TextTrees.{curve_number, MakesTokens, Shallow, IsLine, GoodLine, IsDefinition, GoodCurve, curves_named, UsesOnly, Above, none_above, below_curve, below_line, MayDefine, IsNewLine, IsNewCurve, Faulty, no_token, deep, no_line, line_faulty, number_used, curve_faulty, curve_used, curve_unknown, begins_curve}
use Rattle.loading.specs.TextNamesLaws.{one-first, one_last, one_split, numbers, numbers-last, known-one, one_known, line-names, each-curve, all_known_lem, Fails, one-fails}

-- ---- what stands above, and what is kept of it

-- the curve n is among some
abbrev pub is_curve_of : List (List ℕ) → ℕ → Bool
is_curve_of cs n = is_defined (curves_there cs) n

pub record StandsFor (k : Kept) (a : Above) : Type 0 where
  pub rows : numbers k.rows ≡ a.numbers
  pub room : length k.curves ≡ max_curves
  pub there : (n : ℕ) → is_curve_of k.curves n ≡ true → OneOf n a.curves
  pub defined : (n : ℕ) → OneOf n a.curves → is_curve_of k.curves n ≡ true

-- whether a curve is there, by its place
pub there-at : (cs : List (List ℕ)) (j : ℕ) → get_or (curves_there cs) j false ≡ is_there (get_or cs j [])
there-at [] j = refl
there-at (c ∷ cs) zero = refl
there-at (c ∷ cs) (suc j) = there-at cs j

-- nothing stands for nothing
pub none-there : (m j : ℕ) → is_there (get_or {A = List ℕ} (replicate m []) j []) ≡ true → ⊥
none-there zero j t = false≢true t
none-there (suc m) zero t = false≢true t
none-there (suc m) (suc j) t = none-there m j t

pub none-stands : StandsFor nothing none_above
none-stands = record {
  rows = refl;
  room = refl;
  there = λ n h. absurd (none-there max_curves (n - 1) (sym (there-at nothing.curves (n - 1)) ∙ (both (leb 1 n) (get_or (curves_there nothing.curves) (n - 1) false) h).1));
  defined = λ n o. absurd o;
}

-- a definition has tokens
pub front-there : (d : Definition) (ts : List ℕ) → DefinedAs d ts → is_there ts ≡ true
unfolding definition_front
front-there d ts w = let n = ap length w in lt-ltb 0 (length ts) (omega arith)

-- one curve more: its own number, and the others as before
module _ (cs : List (List ℕ)) (m : ℕ) (ts : List ℕ) (first : 1 ≤ m) (last : m ≤ length cs) (some-tokens : is_there ts ≡ true) where
  own-there : is_curve_of (set cs (m - 1) ts) m ≡ true
  own-there = and-true (le-leb 1 m first) (there-at (set cs (m - 1) ts) (m - 1) ∙ ap is_there (get_or-set_same cs (m - 1) ts [] (omega arith)) ∙ some-tokens)

  other-there : (n : ℕ) → (n ≡ m → ⊥) → is_curve_of (set cs (m - 1) ts) n ≡ is_curve_of cs n
  other-there zero o = refl
  other-there (suc n) o =
      let j = suc n - 1 in
      ap (λ (b : Bool). leb 1 (suc n) && b) (there-at (set cs (m - 1) ts) j ∙ ap is_there (get_or-set_other cs (m - 1) j ts [] (λ e. o (omega arith))) ∙ sym (there-at cs j))

-- ---- a line

module _ (l : Numbered) where
  abbrev ts : List ℕ
  ts = (tokens_of l.body).list

  -- a line that has a tree
  fault-is : (x : Line) → Shallow l → IsLine l x → fault_of ts ≡ line_fault x
  unfolding fault_of
  fault-is x o w = not-Chosen _ _ _ o ∙ ap tree_fault ((tree-of-tokens ts x).1 w)

  number_is : (x : Line) → IsLine l x → number_in ts ≡ tree_number x
  number_is x w = rw ((tree-of-tokens ts x).1 w)

  pub number-row : (x : Line) → GoodLine l x → (row_of l).number ≡ tree_number x
  number-row x h = number_is x h.written

  curve-fault-is : (d : Definition) → Shallow l → IsDefinition l d → curve_fault_of ts ≡ definition_fault d
  unfolding curve_fault_of
  curve-fault-is d o w = not-Chosen _ _ _ o ∙ ap defined_fault ((definition-of-tokens ts d).1 w)

  pub curve-number-is : (d : Definition) → IsDefinition l d → curve_number_in ts ≡ curve_number d
  curve-number-is d w = rw ((definition-of-tokens ts d).1 w)

  -- a definition begins with FCTDEF; no line does
  pub curve-begins : (d : Definition) → IsDefinition l d → begins_curve l ≡ true
  unfolding definition_front
  curve-begins d w = ap (λ (t : List ℕ). eqb (get_or t 0 END) FCTDEF) (sym w)

  pub line-begins : (x : Line) → IsLine l x → begins_curve l ≡ false
  unfolding line_tokens
  line-begins (line w v n c a r) h =
      decide _ (begins_curve l)
      (λ t.
      let e : w ≡ get_or ts 0 END = ap (λ (u : List ℕ). get_or u 0 END) h ∙ with-end ts in
      let f = eqb-true (get_or ts 0 END) FCTDEF t in
      let b = leb-true w IDS (both (leb ID w) (leb w IDS) (holds (is_id w) v)).1 in
      absurd (omega arith))
      (λ t. t)
    where
      with-end : (u : List ℕ) → get_or (u ++ (END ∷ [])) 0 END ≡ get_or u 0 END
      with-end [] = refl
      with-end (y ∷ u) = refl

  -- ---- below what is kept

  module _ (k : Kept) where
    below-bad : (tokens_of l.body).good ≡ false → fault_below k (tokens_of l.body) ≡ makes_no_token
    unfolding fault_below
    below-bad g = not-Chosen _ _ _ g

    module _ (g : MakesTokens l) where
      as-curve : defines k ts ≡ true → fault_below k (tokens_of l.body) ≡ curve_below k.curves ts
      unfolding fault_below tokens_fault
      as-curve d = chosen _ _ _ g ∙ chosen _ _ _ d

      as_line : defines k ts ≡ false → fault_below k (tokens_of l.body) ≡ line_below k ts
      unfolding fault_below tokens_fault
      as_line d = chosen _ _ _ g ∙ not-Chosen _ _ _ d

      curve-fault : (j : ℕ) → defines k ts ≡ true → curve_fault_of ts ≡ suc j → fault_below k (tokens_of l.body) ≡ suc j
      unfolding curve_below
      curve-fault j d e = as-curve d ∙ rw (e, curve_below)

      curve-new : defines k ts ≡ true → curve_fault_of ts ≡ 0 → fault_below k (tokens_of l.body) ≡ elim (is_curve_of k.curves (curve_number_in ts)) as (λ _. ℕ) [ true ↦ wrong_curve | false ↦ 0 ]
      unfolding curve_below
      curve-new d e = as-curve d ∙ rw (e, curve_below)

      line-fault : (j : ℕ) → defines k ts ≡ false → fault_of ts ≡ suc j → fault_below k (tokens_of l.body) ≡ suc j
      unfolding line_below
      line-fault j d e = as_line d ∙ rw (e, line_below)

      line-new : defines k ts ≡ false → fault_of ts ≡ 0 →
          fault_below k (tokens_of l.body)
          ≡ elim (is_known (numbers_of k.rows) (number_in ts)) as (λ _. ℕ) [ true ↦ used_above | false ↦ elim (are_known (curve_table k.curves) ts) as (λ _. ℕ) [ true ↦ 0 | false ↦ wrong_curve ] ]
      unfolding line_below
      line-new d e = as_line d ∙ rw (e, line_below)

    -- 4 comes first, whichever it is
    below-deep : MakesTokens l → opens_too_many ts 0 ≡ true → fault_below k (tokens_of l.body) ≡ too_deep
    unfolding fault_of curve_fault_of
    below-deep g o = decide _ (defines k ts) (λ d. curve-fault g 3 d (chosen _ _ _ o)) (λ d. line-fault g 3 d (chosen _ _ _ o))

    line-goes : (x : Line) → IsLine l x → defines k ts ≡ false
    line-goes x w = decide _ (defines k ts) (λ t. contrary (both (eqb (length k.rows) 0) (begins_curve l) t).1 (line-begins x w)) (λ t. t)

    module _ (a : Above) (few : length k.rows ≤ max_lines) (s : StandsFor k a) where
      abbrev fault : ℕ
      fault = fault_below k (tokens_of l.body)

      -- a line may define a curve exactly if no row is kept
      no_rows : MayDefine a → eqb (length k.rows) 0 ≡ true
      no_rows m = let n = ap length (s.rows ∙ m) in let e = length-map k.rows (λ (r : Row). r.number) in eq-eqb (length k.rows) 0 (omega arith)

      may-define : defines k ts ≡ true → MayDefine a
      may-define d = by_rows k.rows s.rows (eqb-true (length k.rows) 0 (both (eqb (length k.rows) 0) (begins_curve l) d).0)
        where
          by_rows : (rs : List Row) → numbers rs ≡ a.numbers → length rs ≡ 0 → a.numbers ≡ []
          by_rows [] e n = sym e
          by_rows (r ∷ rs) e n = absurd (omega arith)

      curve-goes : MayDefine a → (d : Definition) → IsDefinition l d → defines k ts ≡ true
      curve-goes m d w = and-true (no_rows m) (curve-begins d w)

      -- ---- its number, and the curves that it names

      new-number : (x : Line) → GoodLine l x → (OneOf (tree_number x) a.numbers → ⊥) → is_known (numbers_of k.rows) (number_in ts) ≡ false
      new-number x h u =
          decide _ (is_known (numbers_of k.rows) (number_in ts))
          (λ t. absurd (u (subst (OneOf (tree_number x)) s.rows (known-one k.rows few (tree_number x) (line-number x h.faultless).0 (rw (number_is x h.written) at t)))))
          (λ t. t)

      used-number : (x : Line) → GoodLine l x → OneOf (tree_number x) a.numbers → is_known (numbers_of k.rows) (number_in ts) ≡ true
      used-number x h u = rw (number_is x h.written) (one_known k.rows few (tree_number x) (subst (OneOf (tree_number x)) (sym s.rows) u))

      module _ (x : Line) (h : GoodLine l x) where
        abbrev curve_known : ℕ → Bool
        curve_known n = is_curve_of k.curves n

        known_is : are_known (curve_table k.curves) ts ≡ each_known (curve_table k.curves) (names_in x)
        known_is = rw ((tree-of-tokens ts x).1 h.written)

        uses-known : UsesOnly a.curves x → are_known (curve_table k.curves) ts ≡ true
        uses-known u = known_is ∙ all_known_lem (λ n. true) curve_known (names_in x) (line-names x h.faultless) (λ n o. refl) (λ n o. s.defined n (u n o))

        known-uses : are_known (curve_table k.curves) ts ≡ true → UsesOnly a.curves x
        known-uses t n o = s.there n (each-curve (λ n. true) curve_known (names_in x) (sym known_is ∙ t) n o)

        unknown-uses : are_known (curve_table k.curves) ts ≡ false → (n : ℕ) × OneOf n (curves_named x) × (OneOf n a.curves → ⊥)
        unknown-uses t = by-fails (one-fails (λ n. true) curve_known (names_in x) (line-names x h.faultless) (sym known_is ∙ t))
          where
            by-fails : Fails (λ n. true) curve_known (names_in x) → (n : ℕ) × OneOf n (curves_named x) × (OneOf n a.curves → ⊥)
            by-fails (inl (n, o, e)) = clash (cc)
            by-fails (inr (n, o, e)) = (n, o, λ z. contrary (s.defined n z) e)

        uses-unknown : (n : ℕ) → OneOf n (curves_named x) → (OneOf n a.curves → ⊥) → are_known (curve_table k.curves) ts ≡ false
        uses-unknown n o u = decide _ (are_known (curve_table k.curves) ts) (λ t. absurd (u (known-uses t n o))) (λ t. t)

        good-fault : fault_of ts ≡ 0
        good-fault = fault-is x h.shallow h.written ∙ h.faultless

        good_new : fault ≡ elim (is_known (numbers_of k.rows) (number_in ts)) as (λ _. ℕ) [ true ↦ used_above | false ↦ elim (are_known (curve_table k.curves) ts) as (λ _. ℕ) [ true ↦ 0 | false ↦ wrong_curve ] ]
        good_new = line-new h.tokens (line-goes x h.written) good-fault

      module _ (d : Definition) (h : GoodCurve l d) where
        good-curve-fault : curve_fault_of ts ≡ 0
        good-curve-fault = curve-fault-is d h.shallow h.written ∙ h.faultless

        curve-used : OneOf (curve_number d) a.curves → is_curve_of k.curves (curve_number_in ts) ≡ true
        curve-used u = rw (curve-number-is d h.written) (s.defined (curve_number d) u)

        curve-unused : (OneOf (curve_number d) a.curves → ⊥) → is_curve_of k.curves (curve_number_in ts) ≡ false
        curve-unused u =
            decide _ (is_curve_of k.curves (curve_number_in ts))
            (λ t. absurd (u (s.there (curve_number d) (subst (λ (n : ℕ). is_curve_of k.curves n ≡ true) (curve-number-is d h.written) t))))
            (λ t. t)

      -- ---- its fault

      no-line-below : MakesTokens l → Shallow l → ((x : Line) → IsLine l x → ⊥) → (MayDefine a → (d : Definition) → IsDefinition l d → ⊥) → fault ≡ not_in_grammar
      unfolding fault_of curve_fault_of
      no-line-below g o h i =
          decide _ (defines k ts)
          (λ d. curve-fault g 4 d (not-Chosen _ _ _ o ∙ ap defined_fault ((no-definition ts).1 (i (may-define d)))))
          (λ d. line-fault g 4 d (not-Chosen _ _ _ o ∙ ap tree_fault ((no-tree ts).1 h)))

      -- what its tree says is its fault
      pub faulty-below : (c : ℕ) → Faulty a l c → fault ≡ c
      faulty-below c (no_token e g) = below-bad g ∙ sym e
      faulty-below c (deep e g o) = below-deep g o ∙ sym e
      faulty-below c (no_line e g o h i) = no-line-below g o h i ∙ sym e
      faulty-below zero (line_faulty p g o x w e) = absurd (omega arith)
      faulty-below (suc c) (line_faulty p g o x w e) = line-fault g c (line-goes x w) (fault-is x o w ∙ e)
      faulty-below c (number_used e x h u) = good_new x h ∙ chosen _ _ _ (used-number x h u) ∙ sym e
      faulty-below zero (curve_faulty p m g o d w e) = absurd (omega arith)
      faulty-below (suc c) (curve_faulty p m g o d w e) = curve-fault g c (curve-goes m d w) (curve-fault-is d o w ∙ e)
      faulty-below c (curve_used e m d h u) = curve-new h.tokens (curve-goes m d h.written) (good-curve-fault d h) ∙ chosen _ _ _ (curve-used d h u) ∙ sym e
      faulty-below c (curve_unknown e x h u n o i) = good_new x h ∙ not-Chosen _ _ _ (new-number x h u) ∙ not-Chosen _ _ _ (uses-unknown x h n o i) ∙ sym e

      -- a line without a fault, with a number of its own
      pub line-below : (x : Line) → GoodLine l x → IsNewLine a x → (fault ≡ 0) × (kept_with k l ≡ with_row k (row_of l))
      unfolding kept_with
      line-below x h (u, i) = (good_new x h ∙ not-Chosen _ _ _ (new-number x h u) ∙ chosen _ _ _ (uses-known x h i), not-Chosen _ _ _ (line-goes x h.written))

      pub curve-below : (d : Definition) → GoodCurve l d → IsNewCurve a d → (fault ≡ 0) × (kept_with k l ≡ with_curve k ts)
      unfolding kept_with
      curve-below d h (m, u) =
          let g = curve-goes m d h.written in
          (curve-new h.tokens g (good-curve-fault d h) ∙ not-Chosen _ _ _ (curve-unused d h u), chosen _ _ _ g)

      -- and a fault is what its tree says
      pub below-faulty : (c : ℕ) → fault ≡ suc c → Faulty a l (suc c)
      below-faulty c e =
          decide _ (tokens_of l.body).good
          (λ g. decide _ (opens_too_many ts 0)
          (λ o. deep (sym e ∙ below-deep g o) g o)
          (λ o. decide _ (defines k ts) (λ t. by-definition g o t (definition_of ts) refl) (λ t. by-tree g o t (tree_of ts) refl)))
          (λ g. no_token (sym e ∙ below-bad g) g)
        where
          nothing_written : MakesTokens l → Shallow l → ((x : Line) → IsLine l x → ⊥) → (MayDefine a → (d : Definition) → IsDefinition l d → ⊥) → Faulty a l (suc c)
          nothing_written g o h i = no_line (sym e ∙ no-line-below g o h i) g o h i

          by-curve : MayDefine a → defines k ts ≡ true → MakesTokens l → Shallow l → (d : Definition) → IsDefinition l d → (f : ℕ) → definition_fault d ≡ f → Faulty a l (suc c)
          by-curve m t g o d w (suc f) z = curve_faulty (omega arith) m g o d w (z ∙ sym (curve-fault g f t (curve-fault-is d o w ∙ z)) ∙ e)
          by-curve m t g o d w zero z =
              let h : GoodCurve l d = record { tokens = g; shallow = o; written = w; faultless = z } in
              choice _ (is_curve_of k.curves (curve_number_in ts)) wrong_curve 0 (suc c) (sym (curve-new g t (good-curve-fault d h)) ∙ e)
              (λ u f. curve_used (sym f) m d h (s.there (curve_number d) (subst (λ (n : ℕ). is_curve_of k.curves n ≡ true) (curve-number-is d w) u)))
              (λ _ f. absurd (omega arith))

          by-definition : MakesTokens l → Shallow l → defines k ts ≡ true → (o : Option Definition) → definition_of ts ≡ o → Faulty a l (suc c)
          by-definition g o t none f = nothing_written g o (λ x w. contrary t (line-goes x w)) (λ m. (no-definition ts).0 f)
          by-definition g o t (some d) f = by-curve (may-define t) t g o d ((definition-of-tokens ts d).0 f) (definition_fault d) refl

          by-line : MakesTokens l → Shallow l → (x : Line) → IsLine l x → (f : ℕ) → line_fault x ≡ f → Faulty a l (suc c)
          by-line g o x w (suc f) z = line_faulty (omega arith) g o x w (z ∙ sym (line-fault g f (line-goes x w) (fault-is x o w ∙ z)) ∙ e)
          by-line g o x w zero z =
              let h : GoodLine l x = record { tokens = g; shallow = o; written = w; faultless = z } in
              choice _ (is_known (numbers_of k.rows) (number_in ts)) used_above _ (suc c) (sym (good_new x h) ∙ e)
              (λ t f. number_used (sym f) x h (subst (OneOf (tree_number x)) s.rows (known-one k.rows few (tree_number x) (line-number x z).0 (rw (number_is x w) at t))))
              (λ t f. choice _ (are_known (curve_table k.curves) ts) 0 wrong_curve (suc c) f
              (λ _ i. absurd (omega arith))
              (λ u i.
              let (n, p, q) = unknown-uses x h u in
              curve_unknown (sym i) x h (λ v. contrary (used-number x h v) t) n p q))

          by-tree : MakesTokens l → Shallow l → defines k ts ≡ false → (o : Option Line) → tree_of ts ≡ o → Faulty a l (suc c)
          by-tree g o t none f = nothing_written g o ((no-tree ts).0 f) (λ m d w. contrary (curve-goes m d w) t)
          by-tree g o t (some x) f = by-line g o x ((tree-of-tokens ts x).0 f) (line_fault x) refl

      -- ---- what is kept with it

      pub more-line : (x : Line) → GoodLine l x → StandsFor (with_row k (row_of l)) (below_line a x)
      more-line x h = record {
        rows = numbers-last k.rows (row_of l) ∙ ap (λ (n : ℕ). numbers k.rows ++ (n ∷ [])) (number_is x h.written) ∙ ap (λ (ns : List ℕ). ns ++ (tree_number x ∷ [])) s.rows;
        room = s.room;
        there = s.there;
        defined = s.defined;
      }

      pub more-curve : (d : Definition) → GoodCurve l d → StandsFor (with_curve k ts) (below_curve a d)
      more-curve d h = record {
        rows = s.rows;
        room = length-set k.curves _ ts ∙ s.room;
        there = λ n. by_number_lem n (ℕ_discrete n (curve_number_in ts));
        defined = λ n o. among n (one_split n a.curves (curve_number d ∷ []) o);
      }
        where
          m : ℕ
          m = curve_number_in ts

          same : m ≡ curve_number d
          same = curve-number-is d h.written

          bounds : (1 ≤ m) × (m ≤ length k.curves)
          bounds = let (p, q) = definition-number d h.faultless in let e = same in let r = s.room in (omega arith, omega arith)

          own : is_curve_of (set k.curves (m - 1) ts) m ≡ true
          own = own-there k.curves m ts bounds.0 bounds.1 (front-there d ts h.written)

          other : (n : ℕ) → (n ≡ m → ⊥) → is_curve_of (set k.curves (m - 1) ts) n ≡ is_curve_of k.curves n
          other = other-there k.curves m ts bounds.0 bounds.1 (front-there d ts h.written)

          by_number_lem : (n : ℕ) → Dec (n ≡ m) → is_curve_of (set k.curves (m - 1) ts) n ≡ true → OneOf n (a.curves ++ (curve_number d ∷ []))
          by_number_lem n (yes e) t = one_last n a.curves (curve_number d ∷ []) (inl (sym same ∙ sym e))
          by_number_lem n (no e) t = one-first n a.curves (curve_number d ∷ []) (s.there n (sym (other n e) ∙ t))

          among : (n : ℕ) → OneOf n a.curves ⊎ OneOf n (curve_number d ∷ []) → is_curve_of (set k.curves (m - 1) ts) n ≡ true
          among n (inl o) = by-own n o (ℕ_discrete n m)
            where
              by-own : (n : ℕ) → OneOf n a.curves → Dec (n ≡ m) → is_curve_of (set k.curves (m - 1) ts) n ≡ true
              by-own n o (yes e) = subst (λ (i : ℕ). is_curve_of (set k.curves (m - 1) ts) i ≡ true) (sym e) own
              by-own n o (no e) = other n e ∙ s.defined n o
          among n (inr (inl e)) = subst (λ (i : ℕ). is_curve_of (set k.curves (m - 1) ts) i ≡ true) (same ∙ e) own
          among n (inr (inr o)) = absurd o

      -- a line without a fault is a new curve or a new line
      abbrev Next : Kept → Type 0
      Next q =
          ((d : Definition) × GoodCurve l d × IsNewCurve a d × StandsFor q (below_curve a d) × (length q.rows ≡ length k.rows))
          ⊎ ((x : Line) × GoodLine l x × IsNewLine a x × StandsFor q (below_line a x) × (length q.rows ≡ suc (length k.rows)))

      pub below-good : fault ≡ 0 → Next (kept_with k l)
      below-good e = by_kind k Next l e as-new-curve as-new-line
        where
          as-new-curve : NewCurve k (tokens_of l.body) → Next (with_curve k ts)
          as-new-curve c =
              let w = faultless-curve ts c.clean in
              let d = w.tree in
              let h : GoodCurve l d = record { tokens = c.good; shallow = w.shallow; written = (definition-of-tokens ts d).0 w.found; faultless = w.clean } in
              inl (d, h, (may-define c.defining, λ o. contrary (curve-used d h o) c.new), more-curve d h, refl)

          as-new-line : NewLine k (tokens_of l.body) → Next (with_row k (row_of l))
          as-new-line c =
              let w = faultless ts c.clean in
              let x = w.tree in
              let h : GoodLine l x = record { tokens = c.good; shallow = w.shallow; written = (tree-of-tokens ts x).0 w.found; faultless = w.clean } in
              let n = length-append k.rows (row_of l ∷ []) in
              inr (x, h, ((λ o. contrary (used-number x h o) c.new), known-uses x h c.curves), more-line x h, omega arith)
