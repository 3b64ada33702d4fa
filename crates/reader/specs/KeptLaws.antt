-- What is kept of a text, line by line: a line without a fault defines a new curve or is a numbered line with a new number. So what both keep holds of all that is taken: lines are apart, at most
-- 32 with the curves, and each curve that is there is without a fault and has its number. Assumes nothing.
use Rattle.std.specs.Prelude.{◌≡◌, true, false, List, [], ◌∷◌, length, get_or, set, replicate}
use Rattle.std.proofs.Math.Path.{refl, subst}
use Rattle.std.proofs.Common.{sym, ap, ◌∙◌, arith, length-append, length-set, get_or-set_same, get_or-set_other}
use Rattle.std.proofs.lemmas.Bool.{false≢true}
use Prim.Native.Nat.{ℕ, zero, suc, ◌+◌, ◌-◌, ◌≤◌}
use Rattle.std.proofs.Math.Decide.{ℕ_discrete}
use Rattle.values.specs.Codes.{used_above, wrong_curve}
use Rattle.values.specs.Choice.{choice, decide, chosen, refused as not-Chosen}
use Rattle.values.specs.Numbers.{clash}
use Rattle.tokens.specs.Token.{max_lines, max_curves}
use Rattle.engine.specs.Set.{is_known, is_defined}
use Rattle.text.specs.Lines.{Numbered}
use Rattle.text.specs.Tokens.{Tokens, tokens_of}
use Rattle.reader.specs.Row.{Kept, nothing, is_there, curves_there, numbers_of}
use Rattle.reader.specs.Draft.{Apart}
use Rattle.reader.specs.Load.{fault_of, curve_fault_of, number_in, curve_number_in, are_known, curve_table, curve_below, line_below, defines, tokens_fault, fault_below, Outcome, taken, refused, row_of, with_row, with_curve, kept_with, rows_from}
use Rattle.reader.specs.CheckedLaws.{number_small, curve-number}
use Rattle.reader.specs.RisingLaws.{apart-last, unknown-absent}

-- ---- a line without a fault

-- it defines a curve that is not defined above
pub record NewCurve (k : Kept) (ts : Tokens) : Type 0 where
  pub good : ts.good ≡ true
  pub defining : defines k ts.list ≡ true
  pub clean : curve_fault_of ts.list ≡ 0
  pub new : is_defined (curves_there k.curves) (curve_number_in ts.list) ≡ false

-- it is a numbered line, its number is not used above, and the curves that it names are defined above
pub record NewLine (k : Kept) (ts : Tokens) : Type 0 where
  pub good : ts.good ≡ true
  pub other : defines k ts.list ≡ false
  pub clean : fault_of ts.list ≡ 0
  pub new : is_known (numbers_of k.rows) (number_in ts.list) ≡ false
  pub curves : are_known (curve_table k.curves) ts.list ≡ true

-- which way the next line goes
pub next_row : (P : Type 0) (k : Kept) (l : Numbered) (ls : List Numbered) (o : Outcome) → rows_from k (l ∷ ls) ≡ o →
    (fault_below k (tokens_of l.body) ≡ 0 → rows_from (kept_with k l) ls ≡ o → P) → ((f : ℕ) → fault_below k (tokens_of l.body) ≡ suc f → refused (suc f) l.place ≡ o → P) → P
unfolding rows_from
next_row P k l ls o h f g = go (fault_below k (tokens_of l.body)) refl
  where
    go : (n : ℕ) → fault_below k (tokens_of l.body) ≡ n → P
    go zero e = f e (rw (e, rows_from) at h)
    go (suc n) e = g n e (rw (e, rows_from) at h)

module _ (k : Kept) where
  new-curve : (ts : Tokens) → ts.good ≡ true → defines k ts.list ≡ true → curve_below k.curves ts.list ≡ 0 → NewCurve k ts
  unfolding curve_below
  new-curve ts g d h = by-fault (curve_fault_of ts.list) refl
    where
      by-fault : (f : ℕ) → curve_fault_of ts.list ≡ f → NewCurve k ts
      by-fault zero e = record { good = g; defining = d; clean = e; new = choice _ (is_defined (curves_there k.curves) (curve_number_in ts.list)) wrong_curve 0 0 (rw (e, curve_below) at h) (λ _ z. absurd (omega arith)) (λ t _. t) }
      by-fault (suc f) e = let z = rw (e, curve_below) at h in absurd (omega arith)

  new_line : (ts : Tokens) → ts.good ≡ true → defines k ts.list ≡ false → line_below k ts.list ≡ 0 → NewLine k ts
  unfolding line_below
  new_line ts g d h = by-fault (fault_of ts.list) refl
    where
      by-fault : (f : ℕ) → fault_of ts.list ≡ f → NewLine k ts
      by-fault zero e =
          choice _ (is_known (numbers_of k.rows) (number_in ts.list)) used_above _ 0 (rw (e, line_below) at h)
          (λ _ z. absurd (omega arith))
          (λ t y. record { good = g; other = d; clean = e; new = t; curves = choice _ (are_known (curve_table k.curves) ts.list) 0 wrong_curve 0 y (λ u _. u) (λ _ z. absurd (omega arith)) })
      by-fault (suc f) e = let z = rw (e, line_below) at h in absurd (omega arith)

  -- A LINE WITHOUT A FAULT, and what is kept with it
  pub by_kind : (P : Kept → Type 0) (l : Numbered) → fault_below k (tokens_of l.body) ≡ 0 →
      (NewCurve k (tokens_of l.body) → P (with_curve k (tokens_of l.body).list)) → (NewLine k (tokens_of l.body) → P (with_row k (row_of l))) → P (kept_with k l)
  unfolding fault_below tokens_fault kept_with
  by_kind P l h f g =
      let ts = tokens_of l.body in
      choice _ ts.good _ _ 0 h
      (λ t e. decide _ (defines k ts.list)
      (λ d. subst P (sym (chosen _ _ _ d)) (f (new-curve ts t d (sym (chosen _ _ _ d) ∙ e))))
      (λ d. subst P (sym (not-Chosen _ _ _ d)) (g (new_line ts t d (sym (not-Chosen _ _ _ d) ∙ e)))))
      (λ _ z. absurd (omega arith))

-- WHAT EACH LINE KEEPS HOLDS OF WHAT IS TAKEN: P of what is kept so far and of the lines behind it
pub taken-so : (P : Kept → List Numbered → Type 0) →
    ((k : Kept) (l : Numbered) (ls : List Numbered) → P k (l ∷ ls) → NewCurve k (tokens_of l.body) → P (with_curve k (tokens_of l.body).list) ls) →
    ((k : Kept) (l : Numbered) (ls : List Numbered) → P k (l ∷ ls) → NewLine k (tokens_of l.body) → P (with_row k (row_of l)) ls) →
    (ls : List Numbered) (k q : Kept) → P k ls → rows_from k ls ≡ taken q → P q []
unfolding rows_from
taken-so P f g [] k q p h = let e : k ≡ q = cc in subst (λ (x : Kept). P x []) e p
taken-so P f g (l ∷ ls) k q p h =
    next_row _ k l ls (taken q) h
    (λ z e. taken-so P f g ls (kept_with k l) q (by_kind k (λ x. P x ls) l z (f k l ls p) (g k l ls p)) e)
    (λ n z e. clash (cc))

-- ---- lines that are apart

-- THE LINES THAT ARE TAKEN ARE APART
pub taken-apart : (ls : List Numbered) (q : Kept) → length ls ≤ max_lines → rows_from nothing ls ≡ taken q → Apart q.rows × (length q.rows ≤ max_lines)
taken-apart ls q few h =
    let (a, n) = taken-so (λ k ms. Apart k.rows × (length k.rows + length ms ≤ max_lines))
    (λ k l ms p c. (p.0, let m = p.1 in omega arith))
    (λ k l ms p c.
    let m = p.1 in
    let (u, v) = unknown-absent k.rows (row_of l).number (omega arith) c.new in
    let e = length-append k.rows (row_of l ∷ []) in
    (apart-last k.rows (row_of l) p.0 v (number_small (row_of l).tokens c.clean) u, omega arith))
    ls nothing q (tt, omega arith) h in
    (a, omega arith)

-- ---- curves

-- curve n, from 1 on: if it is there, its tokens are without a fault and have its number
abbrev pub FineCurve : List (List ℕ) → ℕ → Type 0
FineCurve cs n = is_there (get_or cs (n - 1) []) ≡ true → (curve_fault_of (get_or cs (n - 1) []) ≡ 0) × (curve_number_in (get_or cs (n - 1) []) ≡ n)

-- EACH CURVE THAT IS TAKEN is without a fault, in the place of its number
pub taken-curves : (ls : List Numbered) (q : Kept) → rows_from nothing ls ≡ taken q → (length q.curves ≡ max_curves) × ((n : ℕ) → 1 ≤ n → FineCurve q.curves n)
taken-curves ls q h =
    taken-so (λ k ms. (length k.curves ≡ max_curves) × ((n : ℕ) → 1 ≤ n → FineCurve k.curves n))
    (λ k l ms p c. let ts = (tokens_of l.body).list in (length-set k.curves _ ts ∙ p.0, λ n i. one_more_lem k.curves ts n i p.0 c.clean (p.1 n i) (ℕ_discrete n (curve_number_in ts))))
    (λ k l ms p c. p)
    ls nothing q (refl, λ n i. none-fine n) h
  where
    one_more_lem : (cs : List (List ℕ)) (ts : List ℕ) (n : ℕ) → 1 ≤ n → length cs ≡ max_curves → curve_fault_of ts ≡ 0 → FineCurve cs n → Dec (n ≡ curve_number_in ts) → FineCurve (set cs (curve_number_in ts - 1) ts) n
    one_more_lem cs ts n i s e f (yes m) =
        let b = curve-number ts e in
        let g : get_or (set cs (curve_number_in ts - 1) ts) (n - 1) [] ≡ ts = rw m (get_or-set_same cs (curve_number_in ts - 1) ts [] (omega arith)) in
        rw g (λ _. (e, sym m))
    one_more_lem cs ts n i s e f (no m) =
        let b = curve-number ts e in
        let g = get_or-set_other cs (curve_number_in ts - 1) (n - 1) ts [] (λ z. m (omega arith)) in
        rw g f

    none-there : (m j : ℕ) → get_or {A = List ℕ} (replicate m []) j [] ≡ []
    none-there zero j = refl
    none-there (suc m) zero = refl
    none-there (suc m) (suc j) = none-there m j

    none-fine : (n : ℕ) → FineCurve nothing.curves n
    none-fine n t = absurd (false≢true (ap is_there (sym (none-there max_curves (n - 1))) ∙ t))
