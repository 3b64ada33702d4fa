-- Laws of the lines that are read from a set in which some rows are laid and some curves are held: the set passes each check from 4 on. Nothing is assumed.
use Rattle.std.specs.Prelude.{◌≡◌, Bool, false, set, Option, Some, None, option_and_then, Ok}
use Rattle.std.proofs.Math.Path.{refl, sym, ap}
use Rattle.std.proofs.Common.{◌∙◌}
use Rattle.std.proofs.Math.Bool.{true}
use mathlib.Core.List.{List, [], ◌∷◌}
use Prim.Native.Nat.{ℕ, zero, suc, ◌+◌, ◌≤◌, ◌<◌}
use native.Mathlib.Omega.{arith}
use Rattle.std.proofs.Math.Dec.{ltb}
use Rattle.std.proofs.Math.ListN.{length, get_or, replicate, length-set, length-replicate}
use Rattle.std.proofs.Math.Seq.{get_or-set_same, get_or-set_other}
use borrow.Author.Tests.{eq-eqb, lt-ltb, le-ltb, le-leb}
use Rattle.values.specs.Choice.{decide, chosen, refused}
use Rattle.tokens.specs.Token.{set_size, max_lines, max_curves}
use Rattle.checking.specs.declared.line.Line.{Line}
use Rattle.engine.specs.declared.set.Lines.{Lines}
use Rattle.grammar.specs.TreeFault.{parts_from}
use Rattle.soundness.specs.SetSoundLaws.{rank-first}
use Rattle.engine.specs.Set.{line_count, start_of, line_of, curve_start, no_line, lines_from, lines_read, rank_in, is_known, curves_from, set_table, is_curve, curves_sound, all_known, named_lines, sound_lines}
use Rattle.reader.specs.Row.{Row, is_there, curves_there, curve_count, no_row, ranked}
use Rattle.reader.specs.Load.{curve_fault_of, curve_number_in}
use Rattle.loading.specs.PlacedLaws.{held_tokens, Laid, CurvesHeld}
use Rattle.loading.specs.StoredLineLaws.{written, held, names-held, written-curve, held-curve}
use Rattle.loading.specs.Unmarked.{unmarked_tree}
use Rattle.loading.specs.TakenLaws.{All, Fine, Named}
use Rattle.loading.specs.ByNumberLaws.{Rises}

-- of some curves, from curve n on, each that is there is without a fault and has its number
abbrev pub FineFrom : List (List ℕ) → ℕ → Type 0
FineFrom [] n = Unit {0}
FineFrom (ts ∷ cs) n = (is_there ts ≡ true → (curve_fault_of ts ≡ 0) × (curve_number_in ts ≡ n)) × FineFrom cs (n + 1)

module _ (s : List ℕ) where
  -- ---- 4 to 11

  -- from rank k on, the lines of a set are read without a fault, with the rows' numbers, which rise from above `last` on
  abbrev ReadAs : List Row → ℕ → ℕ → Type 0
  ReadAs [] k last = Unit {0}
  ReadAs (r ∷ rs) k last =
      (l : Line) × (line_of s k ≡ Ok l) × (l.number ≡ r.number) × (last < l.number) × ReadAs rs (k + 1) l.number

  laid-read : (rs : List Row) (k n last : ℕ) → length s ≤ set_size → All Fine rs → Laid s (ranked rs k) → Rises n rs → last ≡ n → ReadAs rs k last
  laid-read [] k n last size f p h e = tt
  laid-read (r ∷ rs) k n last size f p h e =
      let w = written r.tokens f.0.clean in
      let (a, b, c) = held r.tokens w s (start_of s k) (start_of s k + length (held_tokens r.tokens)) size p.0 in
      let l = parts_from (start_of s k) (unmarked_tree w.tree) in
      let d : l.number ≡ r.number = c ∙ sym w.number ∙ sym f.0.number in
      let o = h.0 in
      (l, b, d, omega arith, laid-read rs (k + 1) r.number l.number size f.1 p.1 h.1 d)

  -- what is read of them, into lists of 32 that hold ns so far
  pub record ReadLines (rs : List Row) (k : ℕ) (ns : List ℕ) (l : Lines) : Type 0 where
    pub count : l.count ≡ k + length rs
    pub size : length l.numbers ≡ length ns
    pub number : (j : ℕ) → j < length rs → get_or l.numbers (k + j) 0 ≡ (get_or rs j no_row).number
    pub other : (i : ℕ) → (k ≤ i → i < k + length rs → ⊥) → get_or l.numbers i 0 ≡ get_or ns i 0

  abbrev pub IsRead : List Row → ℕ → List ℕ → Option Lines → Type 0
  IsRead rs k ns o = (l : Lines) × (o ≡ Some l) × ReadLines rs k ns l

  read-lines : (rs : List Row) (k last : ℕ) (ns : List ℕ) (ls : List Line) → k + length rs ≤ length ns → ReadAs rs k last → IsRead rs k ns (lines_from s (length rs) k last ns ls)
  unfolding lines_from
  read-lines [] k last ns ls few h = (record { count = k; numbers = ns; items = ls }, refl, record { count = omega arith; size = refl; number = λ j l. absurd (omega arith); other = λ i o. refl })
  read-lines (r ∷ rs) k last ns ls few h =
      let (l, found, same, more, behind) = h in
      let (x, y, i) = read-lines rs (k + 1) l.number (set ns k l.number) (set ls k l) (let z = length-set ns k l.number in omega arith) behind in
      let e : lines_from s (suc (length rs)) k last ns ls ≡ lines_from s (length rs) (k + 1) l.number (set ns k l.number) (set ls k l) = rw (found, lines_from) (chosen _ _ _ (lt-ltb last l.number more)) in (
        x,
        e ∙ y,
        record {
          count = let c = i.count in omega arith;
          size = i.size ∙ length-set ns k l.number;
          number = λ j m. by_row l.number same x.numbers j m (i.other k (λ a b. omega arith)) i.number;
          other = λ j o. i.other j (λ a b. o (omega arith) (omega arith)) ∙ get_or-set_other ns k j l.number 0 (λ z. o (omega arith) (omega arith));
        },
      )
    where
      by_row : (n : ℕ) → n ≡ r.number → (m : List ℕ) (j : ℕ) → j < suc (length rs) → get_or m k 0 ≡ get_or (set ns k n) k 0 → ((j : ℕ) → j < length rs → get_or m (k + 1 + j) 0 ≡ (get_or rs j no_row).number) →
          get_or m (k + j) 0 ≡ (get_or (r ∷ rs) j no_row).number
      by_row n e m zero l a b = let z : k + 0 ≡ k = omega arith in rw z (a ∙ get_or-set_same ns k n 0 (omega arith) ∙ e)
      by_row n e m (suc j) l a b = let z : k + suc j ≡ k + 1 + j = omega arith in rw z (b j (omega arith))

  -- ---- 12

  all-names : (rs : List Row) (k : ℕ) (known known' : ℕ → ℕ → Bool) → length s ≤ set_size → All Fine rs → All (Named known') rs → Laid s (ranked rs k) →
      ((w n : ℕ) → known' w n ≡ true → known w n ≡ true) → all_known s known (length rs) k ≡ true
  unfolding all_known
  all-names [] k known known' size f a p g = refl
  all-names (r ∷ rs) k known known' size f a p g =
      let w = written r.tokens f.0.clean in
      let h = names-held r.tokens w s (start_of s k) (start_of s k + length (held_tokens r.tokens)) size p.0 known known' g a.0 in
      chosen _ _ _ h ∙ all-names rs (k + 1) known known' size f.1 a.1 p.1 g

  -- ---- 13

  -- a set has the curves that are there,
  pub curves-there : (cs : List (List ℕ)) (n : ℕ) → CurvesHeld s cs n → curves_from s (length cs) n ≡ curves_there cs
  unfolding curves_from
  curves-there [] n h = refl
  curves-there (ts ∷ cs) n h = rw (start-there, curves-there cs (n + 1) h.1)
    where
      start-there : ltb 0 (curve_start s n) ≡ is_there ts
      start-there =
          decide _ (is_there ts)
          (λ t. lt-ltb 0 (curve_start s n) (h.0.begins t) ∙ sym t)
          (λ t. let z = h.0.none t in le-ltb 0 (curve_start s n) (omega arith) ∙ sym t)

  -- and where these are without a fault and of their numbers, they are sound, if with k lines there are few enough
  curves-fine : (cs : List (List ℕ)) (n k : ℕ) → CurvesHeld s cs n → FineFrom cs n → curve_count cs + k ≤ max_lines → curves_sound s (length cs) n k ≡ true
  unfolding curves_sound curve_count
  curves-fine [] n k h f few = le-leb k max_lines (omega arith)
  curves-fine (ts ∷ cs) n k h f few =
      decide _ (is_there ts)
      (λ t.
      let (e, m) = f.0 t in
      let w = written-curve ts e in
      let (_, g) = held-curve ts w s (curve_start s n) _ (h.0.stands t) in
      let fine : is_curve s n ≡ true = rw g (eq-eqb w.tree.number n (sym w.number ∙ m)) in
      let c : 1 + curve_count cs + k ≤ max_lines = rw (t, curve_count) at few in
      chosen _ _ _ (lt-ltb 0 (curve_start s n) (h.0.begins t)) ∙ chosen _ _ _ fine
      ∙ curves-fine cs (n + 1) (k + 1) h.1 f.1 (omega arith))
      (λ t.
      let z = h.0.none t in
      refused _ _ _ (le-ltb 0 (curve_start s n) (omega arith)) ∙ curves-fine cs (n + 1) k h.1 f.1 (rw (t, curve_count) at few))

  -- ---- the set

  -- A SET IN WHICH ROWS ARE LAID AND CURVES ARE HELD is read as the rows are, and is sound: none has a fault, numbers rise, they are few enough, and the rows name only what the set has
  pub rows-read : (cs : List (List ℕ)) (rs : List Row) (known' : ℕ → ℕ → Bool) → line_count s ≡ length rs → length s ≤ set_size → length cs ≡ max_curves → curve_count cs + length rs ≤ max_lines →
      CurvesHeld s cs 1 → FineFrom cs 1 → All Fine rs → All (Named known') rs → Laid s (ranked rs 0) → Rises 0 rs →
      ((l : Lines) → ReadLines rs 0 (replicate max_lines 0) l → (w n : ℕ) → known' w n ≡ true → set_table s l.numbers w n ≡ true) → IsRead rs 0 (replicate max_lines 0) (sound_lines s)
  unfolding sound_lines named_lines lines_read
  rows-read cs rs known' c size three few u v f a p h g =
      let zeros = replicate {A = ℕ} max_lines 0 in
      let (l, y, r) = read-lines rs 0 0 zeros (replicate max_lines no_line) (let z = length-replicate {A = ℕ} max_lines 0 in omega arith) (laid-read rs 0 0 0 size f p h refl) in
      let e : lines_read s ≡ lines_from s (length rs) 0 0 zeros (replicate max_lines no_line) = refused _ _ _ (le-ltb max_lines (line_count s) (omega arith)) ∙ rw c in
      let m : l.count ≡ length rs = let z = r.count in omega arith in
      let k : all_known s (set_table s l.numbers) l.count 0 ≡ true = rw m (all-names rs 0 (set_table s l.numbers) known' size f a p (g l r)) in
      let i : curves_sound s max_curves 1 l.count ≡ true = rw (m, ← three) (curves-fine cs 1 (length rs) u v few) in
      let x : sound_lines s ≡ Some l = ap (λ (o : Option Lines). option_and_then (λ (l : Lines). elim (curves_sound s max_curves 1 l.count) [ true ↦ named_lines s l | false ↦ None ]) o) (e ∙ y) ∙ chosen _ _ _ i ∙ chosen _ _ _ k in
      (l, x, r)

-- ---- numbers that are known

pub known_at : (ns : List ℕ) (n i : ℕ) → length ns ≡ max_lines → i < max_lines → get_or ns i 0 ≡ n → is_known ns n ≡ true
known_at ns n i m l e = let h = rank-first ns n 0 i (omega arith) e in lt-ltb (rank_in ns n 0) max_lines (omega arith)
