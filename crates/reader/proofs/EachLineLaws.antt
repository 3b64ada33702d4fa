-- Laws of one line after the other: what a draft says of a line that is added, and of those behind it.
use mathlib.Core.Path.{◌≡◌, refl, sym, ap, subst, ◌∙◌}
use mathlib.Core.Bool.{Bool, true, false, false≢true}
use mathlib.Core.List.{List, [], ◌∷◌}
use Prim.Native.Nat.{ℕ, zero, suc, ◌+◌, ◌-◌, ◌<◌, ◌≤◌}
use native.Mathlib.Omega.{arith}
use native.Mathlib.Numerals.{add-one}
use borrow.Author.Tests.{lt-ltb, le-ltb}
use lib.Dec.{eqb}
use lib.ListN.{length, get_or, replicate, length-append, length-replicate}
use Rattle.values.specs.Codes.{makes_no_token, used_above, wrong_curve}
use Rattle.values.specs.Choice.{both, contrary, decide, chosen, refused as not-Chosen}
use Rattle.tokens.specs.Token.{END, FCTDEF, set_size, max_lines, max_curves, AllReal}
use Rattle.checking.specs.declared.line.Line.{Line}
use Rattle.checking.specs.declared.definition.Definition.{Definition}
use Rattle.std.specs.Prelude.{Result, Ok, Err, None}
use Rattle.checking.specs.Fault.{fault_of_line, line_at}
use Rattle.checking.specs.CurveDefinition.{fault_of_definition, definition_at}
use Rattle.engine.specs.Set.{rank_in, is_defined, names_known, empty_set}
use Rattle.text.specs.Tokens.{tokens_of}
use Rattle.text.specs.TokensLaws.{tokens-within}
use Rattle.text.specs.Lines.{Numbered, is_blank, numbered}
use Rattle.reader.specs.declared.draft.Draft.{Draft}
use Rattle.reader.specs.declared.draft.Refused.{Refused}
use Rattle.reader.specs.Row.{Kept, curves_there, numbers_of}
use Rattle.reader.specs.Load.{Outcome, fault_of, number_in, are_known, curve_fault_of, curve_number_in, curve_below, curve_table, line_below, defines, tokens_fault, fault_below, taken, row_of, kept_with, rows_from}
use Rattle.reader.specs.Draft.{alone, no_draft_line, no_draft, CurveBefore, added_to, at_line, grown_by, grown_by_curve, rows_at, curves_at, kept_in, tokens_to, unless_fault, curve_added, line_added, lengths, tokens_kept, Held, Says}
use Rattle.reader.specs.CheckedLaws.{check-fault, check-refused, check-number, check-names, curve-number, check-curve-fault, check-curve-refused, check-curve-number}
use Rattle.reader.specs.KeptLaws.{by_kind}
use Rattle.reader.proofs.TokenLineLaws.{line-blank, line-full}
use Rattle.reader.proofs.DraftLaws.{rows-length, curves-length, tokens-length, none-there, lengths-set, lengths-last, grown-rows, grown-curves, grown-held, defined-kept, defined-held}

-- ---- the fault of a line's tokens below what is kept

module _ (ts : List ℕ) (real : AllReal ts) (short : length ts ≤ set_size) where
  -- of a line FCTDEF that the check refuses alone
  pub curve-told : (cs : List (List ℕ)) (f : ℕ) → Err f ≡ definition_at (alone ts) 0 → (curve_below cs ts ≡ f) × (f ≡ 0 → ⊥)
  unfolding curve_below
  curve-told cs f e =
      let n = check-curve-refused ts real short f (sym e) in
      (go f n (sym (check-curve-fault ts real short) ∙ ap fault_of_definition (sym e)), n)
    where
      go : (n : ℕ) → (n ≡ 0 → ⊥) → curve_fault_of ts ≡ n → curve_below cs ts ≡ n
      go zero f h = absurd (f refl)
      go (suc n) f h = rw (h, curve_below)

  -- and of one that defines x
  module _ (cs : List (List ℕ)) (x : Definition) (e : Ok x ≡ definition_at (alone ts) 0) where
    curve-clean : curve_fault_of ts ≡ 0
    curve-clean = sym (check-curve-fault ts real short) ∙ ap fault_of_definition (sym e)

    pub curve-number-is : (x.number ≡ curve_number_in ts) × (1 ≤ x.number) × (x.number ≤ max_curves)
    curve-number-is =
        let n : x.number ≡ curve_number_in ts = check-curve-number ts real short curve-clean x (sym e) in
        let b = curve-number ts curve-clean in
        (n, omega arith, omega arith)

    -- b is whether its curve is there
    module _ (b : Bool) (u : b ≡ is_defined (curves_there cs) x.number) where
      there-is : is_defined (curves_there cs) (curve_number_in ts) ≡ b
      there-is = ap (is_defined (curves_there cs)) (sym curve-number-is.0) ∙ sym u

      pub curve-again : b ≡ true → curve_below cs ts ≡ wrong_curve
      unfolding curve_below
      curve-again h = rw (curve-clean, curve_below) (chosen _ _ _ (there-is ∙ h))

      pub curve-new : b ≡ false → curve_below cs ts ≡ 0
      unfolding curve_below
      curve-new h = rw (curve-clean, curve_below) (not-Chosen _ _ _ (there-is ∙ h))

  -- of a numbered line that the check refuses alone
  pub fault-told : (k : Kept) (f : ℕ) → Err f ≡ line_at (alone ts) 0 → (line_below k ts ≡ f) × (f ≡ 0 → ⊥)
  unfolding line_below
  fault-told k f e =
      let n = check-refused ts real short f (sym e) in
      (go f n (sym (check-fault ts real short) ∙ ap fault_of_line (sym e)), n)
    where
      go : (n : ℕ) → (n ≡ 0 → ⊥) → fault_of ts ≡ n → line_below k ts ≡ n
      go zero f h = absurd (f refl)
      go (suc n) f h = rw (h, line_below)

  -- and of one with the parts x
  module _ (k : Kept) (x : Line) (e : Ok x ≡ line_at (alone ts) 0) where
    clean : fault_of ts ≡ 0
    clean = sym (check-fault ts real short) ∙ ap fault_of_line (sym e)

    pub number_is : x.number ≡ number_in ts
    number_is = check-number ts real short clean x (sym e)

    -- its number has the rank r among those of the lines
    module _ (r : ℕ) (u : r ≡ rank_in (numbers_of k.rows) x.number 0) where
      rank_is : rank_in (numbers_of k.rows) (number_in ts) 0 ≡ r
      rank_is = ap (λ (n : ℕ). rank_in (numbers_of k.rows) n 0) (sym number_is) ∙ sym u

      pub fault-used : r < max_lines → line_below k ts ≡ used_above
      unfolding line_below
      fault-used h = rw (clean, line_below) (chosen _ _ _ (lt-ltb (rank_in (numbers_of k.rows) (number_in ts) 0) max_lines (rw rank_is h)))

      -- b is whether the curves that it names are there
      module _ (h : max_lines ≤ r) (b : Bool) (v : b ≡ names_known (alone ts) (curve_table k.curves) set_size 0) where
        below : line_below k ts ≡ elim (are_known (curve_table k.curves) ts) as (λ _. ℕ) [ true ↦ 0 | false ↦ wrong_curve ]
        unfolding line_below
        below = rw (clean, line_below) (not-Chosen _ _ _ (le-ltb (rank_in (numbers_of k.rows) (number_in ts) 0) max_lines (rw rank_is h)))

        known_is : are_known (curve_table k.curves) ts ≡ b
        known_is = sym (check-names ts real short clean (curve_table k.curves)) ∙ sym v

        pub fault-unknown : b ≡ false → line_below k ts ≡ wrong_curve
        fault-unknown f = below ∙ not-Chosen _ _ _ (known_is ∙ f)

        pub fault-none : b ≡ true → line_below k ts ≡ 0
        fault-none f = below ∙ chosen _ _ _ (known_is ∙ f)

-- with a fault the text is refused, without one it is not
pub with-fault : (e : Draft) (f g : ℕ) → f ≡ g → (g ≡ 0 → ⊥) → Err g ≡ unless_fault f e
with-fault e f zero h n = absurd (n refl)
with-fault e f (suc g) h n = rw h

pub without-fault : (e : Draft) (f : ℕ) → f ≡ 0 → Ok e ≡ unless_fault f e
without-fault e f h = rw h

-- ---- what is said of one line more

module _ (k : Kept) (l : Numbered) (s : List ℕ) where
  pub says-bad : (tokens_of l.body).good ≡ false → Says (rows_from k (l ∷ [])) s (at_line l.place (Err makes_no_token))
  unfolding rows_from fault_below
  says-bad g =
      let e : fault_below k (tokens_of l.body) ≡ makes_no_token = not-Chosen _ _ _ g in
      rw (e, rows_from) (refl, refl, omega arith)

  -- f is the fault of its tokens; without one it is kept
  says_so : (x : Result Draft ℕ) (f : ℕ) (e : Draft) → fault_below k (tokens_of l.body) ≡ f → (fault_below k (tokens_of l.body) ≡ 0 → Says (taken (kept_with k l)) s (Ok e)) → x ≡ unless_fault f e → Says (rows_from k (l ∷ [])) s (at_line l.place x)
  unfolding rows_from
  says_so x zero e h w u = rw (h, rows_from, u) (w h)
  says_so x (suc f) e h w u = rw (h, rows_from, u) (refl, refl, omega arith)

-- a line that defines a curve has a token
first-there : (k : Kept) (ts : List ℕ) → defines k ts ≡ true → 0 < length ts
first-there k [] h = absurd (false≢true (both (eqb (length k.rows) 0) (eqb END FCTDEF) h).1)
first-there k (t ∷ ts) h = omega arith

-- the tokens of the line l stand behind those that are kept, up to the place `end`
module _ (s : List ℕ) (d : Draft) (h : Held s d) (l : Numbered) (end : ℕ) (begin : d.at ≤ end) (fits : end ≤ set_size) (good : (tokens_of l.body).good ≡ true) (same : tokens_to s d end ≡ (tokens_of l.body).list) where
  abbrev kept : Kept
  kept = kept_in s d

  abbrev list : List ℕ
  list = (tokens_of l.body).list

  fault-by : fault_below kept (tokens_of l.body) ≡ tokens_fault kept list
  unfolding fault_below
  fault-by = chosen _ _ _ good

  pub says-curve : (x : Result Draft ℕ) → defines kept list ≡ true → x ≡ curve_added s d end → Says (rows_from kept (l ∷ [])) s (at_line l.place x)
  unfolding tokens_fault
  says-curve x t e =
      says_so kept l s x (curve_below kept.curves list) (grown_by_curve d (curve_number_in list) end) (fault-by ∙ chosen _ _ _ t)
      (λ z. by_kind kept (λ (q : Kept). Says (taken q) s (Ok (grown_by_curve d (curve_number_in list) end))) l z
      (λ c.
      let b = curve-number list c.clean in
      let m = tokens-length s d h end begin fits in
      let n = ap length same in
      let p = first-there kept list t in (
        defined-kept s d h (curve_number_in list) end b.0 b.1 c.new (omega arith) fits ∙ rw same,
        defined-held s d h (curve_number_in list) end b.0 b.1 c.new (omega arith) fits,
      ))
      (λ c. contrary t c.other))
      (e ∙ rw same)

  pub says-line : (x : Result Draft ℕ) → d.count < max_lines → defines kept list ≡ false → x ≡ line_added s d l.place end → Says (rows_from kept (l ∷ [])) s (at_line l.place x)
  unfolding tokens_fault
  says-line x few t e =
      let grown = grown_by d l.place (number_in list) end in
      says_so kept l s x (line_below kept list) grown (fault-by ∙ not-Chosen _ _ _ t)
      (λ z. by_kind kept (λ (q : Kept). Says (taken q) s (Ok grown)) l z
      (λ c. contrary c.defining t)
      (λ c. (
        rw (grown-rows s d h l.place (number_in list) end few begin fits, grown-curves s d h l.place (number_in list) end few begin fits, same),
        grown-held s d h l.place (number_in list) end few begin fits,
      )))
      (e ∙ rw same)

-- what is said of a line that was added in place
pub line-refused : (o : Outcome) (s : List ℕ) (k : ℕ) (d : Draft) (x : Result (Unit {0}) ℕ) (r : Refused) → Err r ≡ at_line k x → Says o s (at_line k (added_to d x)) → Says o s (Err r)
line-refused o s k d (Ok u) r e y = absurd (cc)
line-refused o s k d (Err c) r e y = let q : record { code = c; line = k } ≡ r = cc in subst (λ (z : Refused). Says o s (Err z)) q y

pub line-taken : (o : Outcome) (s : List ℕ) (k : ℕ) (d : Draft) (x : Result (Unit {0}) ℕ) (u : Unit {0}) → Ok u ≡ at_line k x → Says o s (at_line k (added_to d x)) → Says o s (Ok d)
line-taken o s k d (Ok v) u e y = y
line-taken o s k d (Err c) u e y = absurd (cc)

-- the draft without lines
pub none-held : Held empty_set no_draft
unfolding rows_at curves_at lengths numbers_of empty_set
none-held =
    record {
      size = length-replicate {A = ℕ} set_size 0;
      sizes = length-replicate max_lines no_draft_line;
      curve_sizes = refl;
      few = omega arith;
      numbers = refl;
      there = refl;
      room = refl;
      within = omega arith;
      ordered = λ j l. absurd (omega arith);
      curves_ordered = λ j l. none-anywhere max_curves j;
    }
  where
    none-anywhere : (n j : ℕ) → CurveBefore 0 (get_or (replicate n None) j None)
    none-anywhere zero j = tt
    none-anywhere (suc n) zero = tt
    none-anywhere (suc n) (suc j) = none-anywhere n j

-- ---- one line after the other

pub first_count : (k : ℕ) (b : List ℕ) (bs : List (List ℕ)) → length (numbered k (b ∷ [])) ≤ length (numbered k (b ∷ bs))
unfolding numbered
first_count k b bs = decide _ (is_blank b) (λ t. rw (line-blank b [] k t, line-blank b bs k t) (omega arith)) (λ t. rw (line-full b [] k t, line-full b bs k t) (omega arith))

module _ (s : List ℕ) (d : Draft) (h : Held s d) (k : ℕ) (b : List ℕ) (z : List ℕ) (x : Draft) where
  abbrev above : Kept
  above = kept_in s d

  -- what is known behind a line that is taken, the lines bs following
  abbrev pub Goes : List (List ℕ) → Type 0
  Goes bs =
      (rows_from above (numbered k (b ∷ bs)) ≡ rows_from (kept_in z x) (numbered (k + 1) bs)) × Held z x
      × (x.at ≤ d.at + length b) × (x.count + length (numbered (k + 1) bs) ≤ d.count + length (numbered k (b ∷ bs)))

  abbrev line : Numbered
  line = record { place = k; body = b }

  -- how many lines and tokens are kept
  counts : (q : Kept) → kept_in z x ≡ q → Held z x → (x.count ≡ length q.rows) × (x.at ≡ tokens_kept q)
  counts q e g = (sym (rows-length z x x.count 0) ∙ ap (λ (y : Kept). length y.rows) e, g.room ∙ ap tokens_kept e)

  -- no more than with the line
  one_more_lem : fault_below above (tokens_of b) ≡ 0 → (length (kept_with above line).rows ≤ length above.rows + 1) × (tokens_kept (kept_with above line) ≤ tokens_kept above + length (tokens_of b).list)
  one_more_lem f =
      let ts = (tokens_of b).list in
      by_kind above (λ (q : Kept). (length q.rows ≤ length above.rows + 1) × (tokens_kept q ≤ tokens_kept above + length ts)) line f
      (λ c.
      let (low, high) = curve-number ts c.clean in
      let m = curves-length s d max_curves 0 in
      let e = lengths-set above.curves (curve_number_in ts - 1) ts (omega arith) (none-there above.curves (curve_number_in ts) low c.new) in
      (omega arith, omega arith))
      (λ c. let a = length-append above.rows (row_of line ∷ []) in let e = lengths-last above.rows (row_of line) in (omega arith, omega arith))

  blank-goes : (bs : List (List ℕ)) → is_blank b ≡ true → Says (rows_from above (numbered k (b ∷ []))) z (Ok x) → Goes bs
  unfolding rows_from numbered
  blank-goes bs t y =
      let w : Says (taken above) z (Ok x) = rw (line-blank b [] k t) at y in
      let n = counts above w.0 w.1 in
      let m = rows-length s d d.count 0 in
      let r = h.room in
      (rw (line-blank b bs k t, add-one k, w.0), w.1, omega arith, rw (line-blank b bs k t, add-one k) (omega arith))

  full-goes : (bs : List (List ℕ)) → is_blank b ≡ false → fault_below above (tokens_of b) ≡ 0 → Says (rows_from above (numbered k (b ∷ []))) z (Ok x) → Goes bs
  unfolding rows_from numbered
  full-goes bs t f y =
      let w : Says (taken (kept_with above line)) z (Ok x) = rw (f, rows_from) at (rw (line-full b [] k t) at y) in
      let n = counts (kept_with above line) w.0 w.1 in
      let q = one_more_lem f in
      let m = rows-length s d d.count 0 in
      let r = h.room in
      let v = tokens-within b in
      (rw (line-full b bs k t, add-one k) (rw (f, rows_from) (rw w.0)), w.1, omega arith, rw (line-full b bs k t, add-one k) (omega arith))

  pub line-next : Says (rows_from above (numbered k (b ∷ []))) z (Ok x) → (bs : List (List ℕ)) → Goes bs
  unfolding rows_from numbered
  line-next y bs = decide _ (is_blank b) (λ t. blank-goes bs t y) (λ t. go t (fault_below above (tokens_of b)) refl)
    where
      go : is_blank b ≡ false → (f : ℕ) → fault_below above (tokens_of b) ≡ f → Goes bs
      go t zero e = full-goes bs t e y
      go t (suc f) e = absurd (rw (e, rows_from) at (rw (line-full b [] k t) at y))

-- a line that refuses the text
pub line-stop : (above : Kept) (k : ℕ) (b : List ℕ) (z : List ℕ) (r : Refused) → Says (rows_from above (numbered k (b ∷ []))) z (Err r) → (bs : List (List ℕ)) → Says (rows_from above (numbered k (b ∷ bs))) z (Err r)
unfolding rows_from numbered
line-stop above k b z r y bs = decide _ (is_blank b) (λ t. absurd (rw (line-blank b [] k t) at y)) (λ t. go t (fault_below above (tokens_of b)) refl)
  where
    go : is_blank b ≡ false → (f : ℕ) → fault_below above (tokens_of b) ≡ f → Says (rows_from above (numbered k (b ∷ bs))) z (Err r)
    go t zero e = absurd (rw (e, rows_from) at (rw (line-full b [] k t) at y))
    go t (suc f) e = rw (line-full b bs k t) (rw (e, rows_from) (rw (e, rows_from) at (rw (line-full b [] k t) at y)))
