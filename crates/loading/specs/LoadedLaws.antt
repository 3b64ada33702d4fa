-- The set of a text that is taken: its curves, and its lines by rising number, are laid in it and read from it. Laws; nothing is assumed.
use Rattle.std.specs.Prelude.{◌≡◌, refl, is_some, true, List, [], ◌∷◌, ℕ, suc, ◌+◌, ◌-◌, ◌≤◌, ◌<◌, length, get_or, replicate}
use Rattle.std.proofs.Common.{sym, ap, subst, ◌∙◌, arith, ltb-true}
use Rattle.std.proofs.Math.Decide.{dec_lt}
use Rattle.std.proofs.lemmas.List.{length-replicate, get_or-replicate}
use Rattle.std.proofs.Math.ListN.{get_or-eq_default}
use Rattle.values.specs.Choice.{decide}
use Rattle.tokens.specs.Token.{is_lock, text_size, max_lines, max_curves}
use Rattle.engine.specs.declared.set.Lines.{Lines}
use Rattle.engine.specs.Set.{rank_in, is_known, curves_in, set_table, sound_lines, lines_of}
use Rattle.soundness.specs.SetSoundLaws.{rank-number}
use Rattle.text.specs.Lines.{token_lines}
use Rattle.reader.specs.Row.{Row, Kept, is_there, curves_there, numbers_of, total, curve_count, curves_total, no_row, by_number, ranked, set_of}
use Rattle.reader.specs.Load.{curve_fault_of, curve_number_in, kept_table, taken, outcome}
use Rattle.reader.specs.Draft.{Apart}
use Rattle.reader.specs.RisingLaws.{number_at, numbers-length}
use Rattle.reader.specs.KeptLaws.{taken-apart, FineCurve, taken-curves}
use Rattle.reader.specs.RoomLaws.{taken-count, taken-room}
use Rattle.loading.specs.PlacedLaws.{Laid, CurvesHeld, set-length, set-count, set-laid, set-curves}
use Rattle.loading.specs.TakenLaws.{All, all-at, taking, Fine, taken_fine, Named, taken-named}
use Rattle.loading.specs.ByNumberLaws.{Of, by_length, by-rises, by-of, by_rank_lem, by_total}
use Rattle.loading.specs.LinesReadLaws.{FineFrom, ReadLines, IsRead, curves-there, rows-read, known_at}

-- what holds of each row of some holds of rows that are each one of them
all_of : (P : Row → Type 0) (rs xs : List Row) → All P rs → All (Of rs) xs → All P xs
all_of P rs [] h g = tt
all_of P rs (x ∷ xs) h g = let (j, l, e) = g.0 in (subst P (sym e) (all-at P rs j h l), all_of P rs xs h g.1)

-- what holds of each curve by its place holds of the curves from curve n on
fine-from : (cs : List (List ℕ)) (n : ℕ) → ((j : ℕ) → is_there (get_or cs j []) ≡ true → (curve_fault_of (get_or cs j []) ≡ 0) × (curve_number_in (get_or cs j []) ≡ n + j)) → FineFrom cs n
fine-from [] n h = tt
fine-from (ts ∷ cs) n h = ((λ t. let (a, b) = h 0 t in (a, omega arith)), fine-from cs (n + 1) (λ j t. let (a, b) = h (suc j) t in (a, omega arith)))

module _ (t : List ℕ) (q : Kept) (h : outcome t ≡ taken q) where
  abbrev rows : List Row
  rows = q.rows

  -- the set
  abbrev loaded : List ℕ
  loaded = set_of q.curves (by_number rows)

  pub rows_apart : Apart rows × (length rows ≤ max_lines)
  rows_apart = let k = taking t q h in taken-apart (token_lines t) q k.few k.rows

  pub rows-room : curves_total q.curves + total rows ≤ text_size + 1
  rows-room = let k = taking t q h in taken-room t q k.short k.rows

  -- curves and lines are few enough,
  pub all-few : curve_count q.curves + length rows ≤ max_lines
  all-few = let k = taking t q h in let f = k.few in let c = taken-count (token_lines t) q k.rows in omega arith

  -- and each curve that is there is without a fault and has its number
  pub curves-three : length q.curves ≡ max_curves
  curves-three = (taken-curves (token_lines t) q (taking t q h).rows).0

  pub curves-fine : FineFrom q.curves 1
  curves-fine = fine-from q.curves 1 (λ j u. at_place j ((taken-curves (token_lines t) q (taking t q h).rows).1 (1 + j) (omega arith)) u)
    where
      at_place : (j : ℕ) → FineCurve q.curves (1 + j) → is_there (get_or q.curves j []) ≡ true → (curve_fault_of (get_or q.curves j []) ≡ 0) × (curve_number_in (get_or q.curves j []) ≡ 1 + j)
      at_place j f = let e : 1 + j - 1 ≡ j = omega arith in rw e at f

  abbrev few : length rows ≤ max_lines
  few = rows_apart.1

  abbrev apart : Apart rows
  apart = rows_apart.0

  -- what holds of each row holds of each by rising number
  pub each-by : (P : Row → Type 0) → All P rows → All P (by_number rows)
  each-by P a = all_of P rows (by_number rows) a (by-of rows few apart)

  -- the rows are laid in the set,
  pub taken-laid : Laid loaded (ranked (by_number rows) 0)
  taken-laid =
      let l = by_length rows few apart in
      let m = by_total rows few apart in
      let n = rows-room in
      let f = few in
      let c = curves-three in
      set-laid q.curves (by_number rows) (omega arith) (omega arith) (omega arith)

  -- and the curves are held by it
  pub taken-held : CurvesHeld loaded q.curves 1
  taken-held =
      let l = by_length rows few apart in
      let m = by_total rows few apart in
      let n = rows-room in
      let f = few in
      let c = curves-three in
      set-curves q.curves (by_number rows) (omega arith) (omega arith) (omega arith)

  -- it has those that are there
  pub taken-there : curves_in loaded ≡ curves_there q.curves
  taken-there = let e = curves-three in rw (← e) (curves-there loaded q.curves 1 taken-held)

  -- a number by which a row may name a line is one that the set has,
  module _ (l : Lines) (r : ReadLines loaded (by_number rows) 0 (replicate max_lines 0) l) where
    line-found : (n : ℕ) → is_known (numbers_of rows) n ≡ true → is_known l.numbers n ≡ true
    line-found n e =
        let i = rank_in (numbers_of rows) n 0 in
        let b : i < max_lines = ltb-true i max_lines e in
        let a = sym (number_at rows i few) ∙ rank-number (numbers_of rows) n (numbers-length rows) b in
        by_place i b a (dec_lt i (length rows))
      where
        size : length l.numbers ≡ max_lines
        size = r.size ∙ length-replicate {A = ℕ} max_lines 0

        by_place : (i : ℕ) → i < max_lines → (get_or rows i no_row).number ≡ n → Dec (i < length rows) → is_known l.numbers n ≡ true
        by_place i b a (yes m) =
            let (k, u, v) = by_rank_lem rows few apart i m in
            let z : 0 + k ≡ k = omega arith in
            let q : get_or l.numbers k 0 ≡ n = (rw z at (r.number k u)) ∙ ap (λ (x : Row). x.number) v ∙ a in
            let w = by_length rows few apart in
            let f = few in
            known_at l.numbers n k size (omega arith) q
        by_place i b a (no m) =
            let w = by_length rows few apart in
            let z : get_or l.numbers i 0 ≡ 0 = r.other i (λ c d. omega (arith, m)) ∙ get_or-replicate max_lines i 0 0 b in
            let q : 0 ≡ n = sym (ap (λ (x : Row). x.number) (get_or-eq_default rows no_row {n = i} (omega (arith, m)))) ∙ a in
            known_at l.numbers n i size b (z ∙ q)

    -- and so is one by which it names a curve
    names-found : (w n : ℕ) → kept_table q w n ≡ true → set_table loaded l.numbers w n ≡ true
    names-found w n e = decide _ (is_lock w) (λ k. rw k (line-found n (rw k at e))) (λ k. rw (k, taken-there) (rw k at e))

  -- THE LINES OF THE SET are read as the rows by rising number, and they are sound
  taken-lines : IsRead loaded (by_number rows) 0 (replicate max_lines 0) (sound_lines loaded)
  taken-lines =
      let l = by_length rows few apart in
      let f = all-few in
      let n = set-length q.curves (by_number rows) in
      rows-read loaded q.curves (by_number rows) (kept_table q) (set-count q.curves (by_number rows)) (omega arith) curves-three (omega arith) taken-held curves-fine
      (each-by Fine (taken_fine t q h)) (each-by (Named (kept_table q)) (taken-named t q h)) taken-laid (by-rises rows few apart) names-found

  pub taken-sound : is_some (sound_lines loaded) ≡ true
  taken-sound = let (l, e, r) = taken-lines in rw e refl

  pub taken-read : ReadLines loaded (by_number rows) 0 (replicate max_lines 0) (lines_of loaded)
  taken-read = let (l, e, r) = taken-lines in rw e r
