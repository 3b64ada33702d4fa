-- THE CURVES OF A SOUND SET ARE THOSE OF ITS DEFINITIONS; and each sound set has such definitions. Theorems; nothing is assumed.
use Rattle.std.specs.Prelude.{Ok, ◌≡◌, true, false, List, [], ◌∷◌, ◌++◌, eqb, leb, length, drop, get_or, is_some}
use Rattle.std.proofs.Math.Path.{refl, ap}
use Rattle.std.proofs.Common.{sym, subst, ◌∙◌, inl, inr, arith, eqb-true, eq-eqb}
use Rattle.std.proofs.lemmas.Bool.{false≢true}
use Prim.Native.Nat.{ℕ, zero, suc, ◌+◌, ◌-◌, ◌≤◌, ◌<◌}
use Rattle.std.proofs.Math.Decide.{ℕ_discrete}
use Rattle.std.proofs.Math.ListN.{get_or-eq_default}
use Rattle.values.specs.Choice.{decide, both, chosen, refused}
use Rattle.tokens.specs.Token.{END, max_curves}
use Rattle.tokens.specs.SingleFault.{opens_too_many}
use Rattle.checking.specs.declared.definition.Definition.{Definition as Told}
use Rattle.checking.specs.CurveDefinition.{fault_of_definition, judged_curve}
use Rattle.grammar.specs.Tree.{Definition, definition_front}
use Rattle.grammar.specs.Meaning.{Stands}
use Rattle.grammar.specs.TreeFault.{curve_in, definition_fault, defined_from}
use Rattle.grammar.specs.AgreementDefinition.{definition-agrees, definition-fault, definition-written, not-deep-definition}
use Rattle.engine.specs.Set.{curve_start, curve_line, curve_in_line, defined_curve, is_defined, curves_from, curves_in, sound_lines}
use Rattle.soundness.specs.AnswerCodes.{OneOf}
use Rattle.soundness.specs.SetSoundLaws.{curve-defined}
use Rattle.turn_trees.specs.TurnTree.{curve_named}
use Rattle.turn_trees.specs.NamesLaws.{Defined}
use Rattle.turn_trees.specs.SoundTurns.{CurvesOf}

-- the tokens of the definition d stand where the curve n begins
abbrev pub DefinitionAt : List ℕ → ℕ → Definition → Type 0
DefinitionAt s n d = (q : ℕ) × Stands s (curve_start s n) (definition_front d ++ (END ∷ [])) q

-- the definitions of a set: each stands where the curve of its number begins, and each curve that the set has is that of one of them
pub record DefinitionsOf (s : List ℕ) (ds : List Definition) : Type 0 where
  pub stands : (d : Definition) → OneOf d ds → DefinitionAt s d.number d
  pub has : (n : ℕ) → Defined s n → (d : Definition) × OneOf d ds × (d.number ≡ n)

-- the first definition with a number is the one whose curve the number names
first-named : (ds : List Definition) (n : ℕ) (d : Definition) → OneOf d ds → d.number ≡ n → (e : Definition) × OneOf e ds × (e.number ≡ n) × (curve_in e ≡ curve_named ds n)
unfolding curve_named
first-named [] n d o h = absurd o
first-named (x ∷ ds) n d (inl g) h = let e : x.number ≡ n = rw g h in (x, inl refl, e, sym (chosen _ _ _ (eq-eqb x.number n e)))
first-named (x ∷ ds) n d (inr o) h =
    decide _ (eqb x.number n)
    (λ t. (x, inl refl, eqb-true x.number n t, sym (chosen _ _ _ t)))
    (λ t. let (e, p, m, c) = first-named ds n d o h in (e, inr p, m, c ∙ sym (refused _ _ _ t)))

module _ (s : List ℕ) (sound : is_some (sound_lines s) ≡ true) where
  -- ---- one curve

  module _ (n : ℕ) (there : Defined s n) where
    clean : fault_of_definition (curve_line s n) ≡ 0
    clean = let (_, e, _) = curve-defined s sound n there in ap fault_of_definition e

    shallow : opens_too_many (drop (curve_start s n) s) 0 ≡ false
    shallow = not-deep-definition s (curve_start s n) clean

    module _ (d : Definition) (h : DefinitionAt s n d) where
      pub definition-faultless : definition_fault d ≡ 0
      definition-faultless = sym (definition-fault s d (curve_start s n) h.0 shallow h.1) ∙ clean

      -- what the check tells of it
      told : curve_line s n ≡ Ok (record { number = d.number; curve = curve_in d; end = curve_start s n + length (definition_front d) })
      unfolding defined_from judged_curve definition_fault
      told = definition-agrees s d (curve_start s n) h.0 shallow h.1 ∙ chosen _ _ _ (eq-eqb (definition_fault d) 0 definition-faultless)

      pub told-curve : defined_curve s n ≡ curve_in d
      told-curve = ap curve_in_line told

      pub definition-number : d.number ≡ n
      definition-number =
          let (x, e, m) = curve-defined s sound n there in
          let t = told in
          let same : x ≡ record { number = d.number; curve = curve_in d; end = curve_start s n + length (definition_front d) } = cc in
          sym (ap (λ (y : Told). y.number) same) ∙ m

    -- EACH CURVE OF A SOUND SET HAS A DEFINITION
    pub definition-found : (d : Definition) × DefinitionAt s n d
    definition-found = let c = clean in let (d, q, h) = definition-written s (curve_start s n) shallow (λ e. omega arith) in (d, (q, h))

  -- ---- all curves

  -- THE CURVES OF A SOUND SET are those that its definitions name
  pub definitions-curves : (ds : List Definition) → DefinitionsOf s ds → CurvesOf s (curve_named ds)
  definitions-curves ds h n there =
      let (d, o, e) = h.has n there in
      let (f, p, g, c) = first-named ds n d o e in
      told-curve n there f (rw g at (h.stands f p)) ∙ c

  -- ---- the definitions of a set

  curves-length : (m n : ℕ) → length (curves_from s m n) ≡ m
  unfolding curves_from
  curves-length zero n = refl
  curves-length (suc m) n = ap suc (curves-length m (n + 1))

  -- a set has no curve past the last
  none-past : (n : ℕ) → max_curves < n → Defined s n → ⊥
  none-past n l there =
      let c = curves-length max_curves 1 in
      let z = get_or-eq_default (curves_in s) false {n = n - 1} (omega arith) in
      false≢true (sym z ∙ (both (leb 1 n) (get_or (curves_in s) (n - 1) false) there).1)

  -- the definitions of the curves from curve n on
  record DefinitionsFrom (n : ℕ) (ds : List Definition) : Type 0 where
    stands : (d : Definition) → OneOf d ds → DefinitionAt s d.number d
    has : (j : ℕ) → n ≤ j → Defined s j → (d : Definition) × OneOf d ds × (d.number ≡ j)

  definitions-from : (m n : ℕ) → n + m ≡ max_curves + 1 → (ds : List Definition) × DefinitionsFrom n ds
  definitions-from zero n e = ([], record { stands = λ d o. absurd o; has = λ j l h. absurd (none-past j (omega arith) h) })
  definitions-from (suc m) n e =
      let (ds, f) = definitions-from m (n + 1) (omega arith) in
      decide _ (is_defined (curves_in s) n)
      (λ there. let (d, h) = definition-found n there in (d ∷ ds, one_more_lem n ds f d (definition-number n there d h) h))
      (λ none. (ds, record { stands = f.stands; has = λ j l h. past n ds f none j l h (ℕ_discrete j n) }))
    where
      past : (n : ℕ) (ds : List Definition) → DefinitionsFrom (n + 1) ds → is_defined (curves_in s) n ≡ false → (j : ℕ) → n ≤ j → Defined s j → Dec (j ≡ n) → (d : Definition) × OneOf d ds × (d.number ≡ j)
      past n ds f none j l h (yes e) = absurd (false≢true (sym none ∙ (rw e at h)))
      past n ds f none j l h (no e) = f.has j (omega (arith, e)) h

      one_more_lem : (n : ℕ) (ds : List Definition) → DefinitionsFrom (n + 1) ds → (d : Definition) → d.number ≡ n → DefinitionAt s n d → DefinitionsFrom n (d ∷ ds)
      one_more_lem n ds f d e h = record { stands = stands'; has = λ j l g. has' j l g (ℕ_discrete j n) }
        where
          stands' : (x : Definition) → OneOf x (d ∷ ds) → DefinitionAt s x.number x
          stands' x (inl i) = subst (λ (y : Definition). DefinitionAt s y.number y) i (subst (λ (k : ℕ). DefinitionAt s k d) (sym e) h)
          stands' x (inr o) = f.stands x o

          has' : (j : ℕ) → n ≤ j → Defined s j → Dec (j ≡ n) → (x : Definition) × OneOf x (d ∷ ds) × (x.number ≡ j)
          has' j l g (yes i) = (d, inl refl, e ∙ sym i)
          has' j l g (no i) = let (x, o, k) = f.has j (omega (arith, i)) g in (x, inr o, k)

  -- EACH SOUND SET HAS DEFINITIONS
  pub sound-definitions : (ds : List Definition) × DefinitionsOf s ds
  sound-definitions = let (ds, f) = definitions-from (max_curves + 1) 0 (omega arith) in (ds, record { stands = f.stands; has = λ n h. f.has n (omega arith) h })
