-- What loading answers, and when: 1 exactly if the text is too long, 2 exactly if it has too many lines (0 and 3 to 14: TextByTrees); and that one answer alone is
-- allowed. (The state that every load leaves: `load-power-on` of demands.) Theorems; nothing is assumed.
use Rattle.std.specs.Prelude.{◌≡◌, true, false, List, [], ◌∷◌, ◌↔◌, ◌⊎◌, ltb, length}
use Rattle.std.proofs.Math.Path.{refl}
use Rattle.std.proofs.Common.{subst, ◌∙◌, inl, inr, arith}
use Rattle.std.proofs.Math.Option.{Option, none, some}
use Prim.Native.Nat.{ℕ, zero, suc, ◌≤◌, ◌<◌}
use borrow.Author.Tests.{ltb-true, ltb-false}
use Rattle.values.specs.Codes.{too_long, too_many_lines, used_above, not_in_set, wrong_curve, two_moves}
use Rattle.values.specs.Choice.{decide, either, chosen, refused as not-Chosen}
use Rattle.values.specs.Numbers.{clash}
use Rattle.values.specs.Unique.{unique}
use Rattle.tokens.specs.Token.{max_lines, text_size}
use Rattle.tokens.specs.SingleFault.{opens_too_many}
use Rattle.grammar.specs.Tree.{Line, Definition}
use Rattle.grammar.specs.TreeOf.{tree_of, definition_of}
use Rattle.grammar.specs.TreeFault.{line_fault, definition_fault, PartFault, Proper}
use Rattle.grammar.specs.TreeFaultLaws.{line-proper, definition-range}
use Rattle.engine.specs.Set.{is_known, is_defined, empty_set}
use Rattle.text.specs.Byte.{run}
use Rattle.text.specs.Tokens.{Tokens, tokens_of}
use Rattle.text.specs.Lines.{Numbered, token_lines, numbered, bodies, split, without_comment, is_blank}
use Rattle.reader.specs.declared.load_text.Loaded.{Loaded}
use Rattle.reader.specs.Row.{Kept, nothing, curves_there, by_number, set_of, numbers_of}
use Rattle.reader.specs.Load.{tree_fault, fault_of, defined_fault, curve_fault_of, Outcome, taken, refused, number_in, curve_number_in, are_known, curve_table, curve_below, line_below, defines, tokens_fault, fault_below, kept_with, rows_from, first_not, first_unknown, kept_table, named, outcome, load_answer, load_set}
use Rattle.reader.specs.KeptLaws.{next_row}

-- ---- what an outcome comes to

-- a text that is taken: 0 and 0, and the set of its curves and of its lines by rising number
pub taken-answer : (t : List ℕ) (q : Kept) → outcome t ≡ taken q → ((load_answer t).code ≡ 0) × ((load_answer t).line ≡ 0) × (load_set t ≡ set_of q.curves (by_number q.rows))
unfolding load_answer load_set
taken-answer t q h = (rw (h, load_answer), rw (h, load_answer), rw (h, load_set))

-- a text that is refused: the code and the line that refuse it, and the empty set
pub refused-answer : (t : List ℕ) (c k : ℕ) → outcome t ≡ refused c k → ((load_answer t).code ≡ c) × ((load_answer t).line ≡ k) × (load_set t ≡ empty_set)
unfolding load_answer load_set
refused-answer t c k h = (rw (h, load_answer), rw (h, load_answer), rw (h, load_set))

pub refused-empty : (t : List ℕ) (c k : ℕ) → outcome t ≡ refused c k → load_set t ≡ empty_set
refused-empty t c k h = (refused-answer t c k h).2

-- every text is taken or refused
pub by-outcome : (P : Type 0) (t : List ℕ) → ((q : Kept) → outcome t ≡ taken q → P) → ((c k : ℕ) → outcome t ≡ refused c k → P) → P
by-outcome P t f g = go (outcome t) refl
  where
    go : (o : Outcome) → outcome t ≡ o → P
    go (taken q) e = f q e
    go (refused c k) e = g c k e

-- A TEXT WITHOUT A BYTE IS TAKEN, with no curve and no line
pub empty-taken : outcome [] ≡ taken nothing
unfolding outcome named rows_from first_not token_lines numbered bodies split without_comment is_blank run
empty-taken = refl

-- any two results that the promise of loading allows are equal
pub load-unique : (t : List ℕ) (x y : Loaded) (s u : List ℕ) → x ≡ load_answer t → s ≡ load_set t → y ≡ load_answer t → u ≡ load_set t → (x ≡ y) × (s ≡ u)
load-unique t x y s u p q r w = (unique p r, unique q w)

-- ---- the codes of a refusal

-- the codes that a line may have: 3 to 10, 14, 11 and 13
abbrev pub OfLine : ℕ → Type 0
OfLine c = (3 ≤ c) × ((c ≤ used_above) ⊎ ((c ≡ wrong_curve) ⊎ (c ≡ two_moves)))

abbrev NoneOrLine : ℕ → Type 0
NoneOrLine c = (c ≡ 0) ⊎ OfLine c

pub no-12 : (c : ℕ) → OfLine c → c ≡ not_in_set → ⊥
no-12 c (a, inl b) e = omega arith
no-12 c (a, inr (inl b)) e = omega arith
no-12 c (a, inr (inr b)) e = omega arith

line-last : (c : ℕ) → OfLine c → c ≤ two_moves
line-last c (a, inl b) = omega arith
line-last c (a, inr (inl b)) = omega arith
line-last c (a, inr (inr b)) = omega arith

-- a fault of 6 to 10, or none
part-range : (n : ℕ) → PartFault n → NoneOrLine n
part-range n (inl z) = inl z
part-range n (inr z) = inr (omega (arith, z), inl (omega (arith, z)))

-- a line's tokens by themselves
fault-range : (ts : List ℕ) → NoneOrLine (fault_of ts)
unfolding fault_of
fault-range ts = either NoneOrLine (opens_too_many ts 0) (λ _. inr (omega arith, inl (omega arith))) (λ _. of_tree (tree_of ts))
  where
    proper : (n : ℕ) → Proper n → NoneOrLine n
    proper n (inl z) = part-range n z
    proper n (inr z) = inr (omega arith, inr (inr z))

    of_tree : (t : Option Line) → NoneOrLine (tree_fault t)
    of_tree none = inr (omega arith, inl (omega arith))
    of_tree (some l) = proper (line_fault l) (line-proper l)

-- a line FCTDEF by itself
curve-range : (ts : List ℕ) → NoneOrLine (curve_fault_of ts)
unfolding curve_fault_of
curve-range ts = either NoneOrLine (opens_too_many ts 0) (λ _. inr (omega arith, inl (omega arith))) (λ _. of-definition (definition_of ts))
  where
    by-range : (n : ℕ) → PartFault n ⊎ (n ≡ wrong_curve) → NoneOrLine n
    by-range n (inl z) = part-range n z
    by-range n (inr z) = inr (omega arith, inr (inl z))

    of-definition : (o : Option Definition) → NoneOrLine (defined_fault o)
    of-definition none = inr (omega arith, inl (omega arith))
    of-definition (some d) = by-range (definition_fault d) (definition-range d)

-- so a line below others has no fault, or such a one
below-range : (k : Kept) (ts : Tokens) → NoneOrLine (fault_below k ts)
unfolding fault_below tokens_fault curve_below line_below
below-range k ts =
    either NoneOrLine ts.good
    (λ _. either NoneOrLine (defines k ts.list) (λ _. by-curve (curve_fault_of ts.list) (curve-range ts.list)) (λ _. by-fault (fault_of ts.list) (fault-range ts.list)))
    (λ _. inr (omega arith, inl (omega arith)))
  where
    wrong : NoneOrLine wrong_curve
    wrong = inr (omega arith, inr (inl refl))

    by-curve : (f : ℕ) → NoneOrLine f → NoneOrLine (elim f as (λ _. ℕ) [ zero ↦ elim (is_defined (curves_there k.curves) (curve_number_in ts.list)) as (λ _. ℕ) [ true ↦ wrong_curve | false ↦ 0 ] | suc j ↦ suc j ])
    by-curve zero r = either NoneOrLine (is_defined (curves_there k.curves) (curve_number_in ts.list)) (λ _. wrong) (λ _. inl refl)
    by-curve (suc f) r = r

    by-fault : (f : ℕ) → NoneOrLine f →
        NoneOrLine (elim f as (λ _. ℕ) [ zero ↦ elim (is_known (numbers_of k.rows) (number_in ts.list)) as (λ _. ℕ) [ true ↦ used_above | false ↦ elim (are_known (curve_table k.curves) ts.list) as (λ _. ℕ) [ true ↦ 0 | false ↦ wrong_curve ] ] | suc j ↦ suc j ])
    by-fault zero r =
        either NoneOrLine (is_known (numbers_of k.rows) (number_in ts.list)) (λ _. inr (omega arith, inl (omega arith)))
        (λ _. either NoneOrLine (are_known (curve_table k.curves) ts.list) (λ _. inl refl) (λ _. wrong))
    by-fault (suc f) r = r

-- and so has the first faulty line of a text
rows_code : (ls : List Numbered) (k : Kept) (c j : ℕ) → rows_from k ls ≡ refused c j → OfLine c
unfolding rows_from
rows_code [] k c j h = clash (cc)
rows_code (l ∷ ls) k c j h =
    next_row _ k l ls (refused c j) h
    (λ f g. rows_code ls (kept_with k l) c j g)
    (λ i f g. let e : suc i ≡ c = cc in by-range i f e (below-range k (tokens_of l.body)))
  where
    by-range : (i : ℕ) → fault_below k (tokens_of l.body) ≡ suc i → suc i ≡ c → NoneOrLine (fault_below k (tokens_of l.body)) → OfLine c
    by-range i f e (inl z) = absurd (omega arith)
    by-range i f e (inr z) = subst OfLine (f ∙ e) z

-- which of its five ways loading goes
module _ (P : Type 0) (t : List ℕ) where
  pub by-load :
      (text_size < length t → outcome t ≡ refused too_long 0 → P) →
      (length t ≤ text_size → max_lines < length (token_lines t) → outcome t ≡ refused too_many_lines 0 → P) →
      (length t ≤ text_size → length (token_lines t) ≤ max_lines → (c k : ℕ) → 3 ≤ c → OfLine c → rows_from nothing (token_lines t) ≡ refused c k → outcome t ≡ refused c k → P) →
      (length t ≤ text_size → length (token_lines t) ≤ max_lines → (q : Kept) (k : ℕ) → rows_from nothing (token_lines t) ≡ taken q → first_unknown (kept_table q) q.rows ≡ suc k → outcome t ≡ refused not_in_set (suc k) → P) →
      (length t ≤ text_size → length (token_lines t) ≤ max_lines → (q : Kept) → outcome t ≡ taken q → P) → P
  unfolding outcome named
  by-load long many faulty unknown all =
      decide P (ltb text_size (length t)) (λ a. long (ltb-true text_size (length t) a) (chosen _ _ _ a)) λ a.
      decide P (ltb max_lines (length (token_lines t))) (λ b. many (ltb-false text_size (length t) a) (ltb-true max_lines (length (token_lines t)) b) (not-Chosen _ _ _ a ∙ chosen _ _ _ b)) λ b.
      let l = ltb-false text_size (length t) a in
      let f = ltb-false max_lines (length (token_lines t)) b in
      let e : outcome t ≡ named (rows_from nothing (token_lines t)) = not-Chosen _ _ _ a ∙ not-Chosen _ _ _ b in
      by_rows (rows_from nothing (token_lines t)) refl (faulty l f) (unknown l f) (all l f) (rows_code (token_lines t) nothing) e
    where
      by_rows : (o : Outcome) → rows_from nothing (token_lines t) ≡ o → ((c k : ℕ) → 3 ≤ c → OfLine c → rows_from nothing (token_lines t) ≡ refused c k → outcome t ≡ refused c k → P) →
          ((q : Kept) (k : ℕ) → rows_from nothing (token_lines t) ≡ taken q → first_unknown (kept_table q) q.rows ≡ suc k → outcome t ≡ refused not_in_set (suc k) → P) →
          ((q : Kept) → outcome t ≡ taken q → P) → ((c k : ℕ) → rows_from nothing (token_lines t) ≡ refused c k → OfLine c) → outcome t ≡ named (rows_from nothing (token_lines t)) → P
      by_rows (taken q) e faulty unknown all code h = by_first (first_unknown (kept_table q) q.rows) refl
        where
          by_first : (k : ℕ) → first_unknown (kept_table q) q.rows ≡ k → P
          by_first zero u = all q (h ∙ rw (e, u, named))
          by_first (suc k) u = unknown q k e u (h ∙ rw (e, u, named))
      by_rows (refused c k) e faulty unknown all code h = let b = code c k e in faulty c k b.0 b e (h ∙ rw (e, named))

-- ---- what each code says

module _ (t : List ℕ) where
  -- there is no code above 14
  pub code-last : (load_answer t).code ≤ 14
  code-last =
      by-load _ t
      (λ _ h. rw (refused-answer t too_long 0 h).0 (omega arith))
      (λ _ _ h. rw (refused-answer t too_many_lines 0 h).0 (omega arith))
      (λ _ _ c k a b _ h. rw (refused-answer t c k h).0 (line-last c b))
      (λ _ _ q k _ _ h. rw (refused-answer t not_in_set (suc k) h).0 (omega arith))
      (λ _ _ q h. rw (taken-answer t q h).0 (omega arith))

  -- codes 0, 1 and 2 come with line 0
  pub code-line : (load_answer t).code ≤ 2 → (load_answer t).line ≡ 0
  code-line e =
      by-load _ t
      (λ _ h. (refused-answer t too_long 0 h).1)
      (λ _ _ h. (refused-answer t too_many_lines 0 h).1)
      (λ _ _ c k a b _ h. let z = (refused-answer t c k h).0 in absurd (omega arith))
      (λ _ _ q k _ _ h. let z = (refused-answer t not_in_set (suc k) h).0 in absurd (omega arith))
      (λ _ _ q h. (taken-answer t q h).1)

  -- CODE 1: the text is above 4,096 bytes
  pub code-1 : ((load_answer t).code ≡ too_long) ↔ (text_size < length t)
  code-1 = (
    (λ e. by-load _ t
        (λ l h. l)
        (λ _ _ h. let z = (refused-answer t too_many_lines 0 h).0 in absurd (omega arith))
        (λ _ _ c k a b _ h. let z = (refused-answer t c k h).0 in absurd (omega arith))
        (λ _ _ q k _ _ h. let z = (refused-answer t not_in_set (suc k) h).0 in absurd (omega arith))
        (λ _ _ q h. let z = (taken-answer t q h).0 in absurd (omega arith))),
    (λ l. by-load _ t
        (λ _ h. (refused-answer t too_long 0 h).0)
        (λ m _ h. absurd (omega arith))
        (λ m _ c k a b _ h. absurd (omega arith))
        (λ m _ q k _ _ h. absurd (omega arith))
        (λ m _ q h. absurd (omega arith))),
  )

  -- CODE 2: it is not, and has more than 32 lines with tokens
  pub code-2 : ((load_answer t).code ≡ too_many_lines) ↔ ((length t ≤ text_size) × (max_lines < length (token_lines t)))
  code-2 = (
    (λ e. by-load _ t
        (λ _ h. let z = (refused-answer t too_long 0 h).0 in absurd (omega arith))
        (λ l m h. (l, m))
        (λ _ _ c k a b _ h. let z = (refused-answer t c k h).0 in absurd (omega arith))
        (λ _ _ q k _ _ h. let z = (refused-answer t not_in_set (suc k) h).0 in absurd (omega arith))
        (λ _ _ q h. let z = (taken-answer t q h).0 in absurd (omega arith))),
    (λ x. by-load _ t
        (λ m h. absurd (omega (arith, x)))
        (λ l m h. (refused-answer t too_many_lines 0 h).0)
        (λ l m c k a b _ h. absurd (omega (arith, x)))
        (λ l m q k _ _ h. absurd (omega (arith, x)))
        (λ l m q h. absurd (omega (arith, x)))),
  )
