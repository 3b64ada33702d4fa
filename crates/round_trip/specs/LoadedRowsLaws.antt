-- Laws of the rows of a loaded set: they are the curves of the text by number, then its lines by rising number, without marks; and a set is told by its rows. Nothing is assumed.
use Rattle.std.specs.Prelude.{◌≡◌, refl, true, List, [], ◌∷◌, ◌++◌, map, ℕ, zero, suc, ◌+◌, ◌≤◌, ltb, length, replicate, set}
use Rattle.std.proofs.Common.{sym, ap, ◌∙◌, arith, lt-ltb, le-ltb}
use Rattle.std.proofs.lemmas.List.{map-append, length-map}
use Rattle.values.specs.Choice.{decide}
use Rattle.values.specs.Numbers.{clash}
use Rattle.tokens.specs.Token.{set_size, max_curves}
use Rattle.grammar.specs.Tree.{Definition, definition_front, DefinedAs}
use Rattle.grammar.specs.Meaning.{Stands}
use Rattle.grammar.specs.TreeOfLaws.{written-front}
use Rattle.engine.specs.Set.{start_of, curve_start, without_mark, with_end, with_line, empty_set, sound_lines, lines_of, curves_sound, named_lines, lines_read, lines_from, all_known, with_count, count_place, first_place}
use Rattle.reader.specs.Row.{Row, Kept, nothing, is_there, rising, by_number, Slotted, ranked, curve_slots, placed, set_of}
use Rattle.reader.specs.Load.{curve_fault_of, taken, outcome, load_set}
use Rattle.loading.specs.Unmarked.{unmarked_tree, unmarked_definition}
use Rattle.loading.specs.UnmarkedLaws.{unmarked-front}
use Rattle.loading.specs.LoadAnswers.{taken-answer, empty-taken}
use Rattle.loading.specs.PlacedLaws.{held_tokens, Laid, CurveHeld, CurvesHeld, set-length}
use Rattle.loading.specs.StoredLineLaws.{written, held, written-curve, held-curve}
use Rattle.loading.specs.TakenLaws.{All, there_of, Fine, taken_fine}
use Rattle.loading.specs.LinesReadLaws.{FineFrom}
use Rattle.loading.specs.LoadedLaws.{curves-three, curves-fine, each-by, taken-laid, taken-held, taken-read}
use Rattle.print.specs.PrintText.{row_at, line_rows, curve_rows, rows_of, rows_text, print_text}
use Rattle.round_trip.specs.MarkLaws.{rows-unmarked}
use Rattle.round_trip.specs.FrontLaws.{front-unmarked, row-front, row-definition}

-- the tokens of a line of the text, and as a set has them
abbrev pub tokens : Row → List ℕ
tokens r = r.tokens

abbrev pub held_row : Row → List ℕ
held_row r = map without_mark r.tokens

-- ---- the rows of a set in which lines are laid

laid-rows : (s : List ℕ) (rs : List Row) (k : ℕ) → length s ≤ set_size → All Fine rs → Laid s (ranked rs k) → line_rows s (length rs) k ≡ map held_row rs
unfolding line_rows
laid-rows s [] k size f p = refl
laid-rows s (r ∷ rs) k size f p =
    let w = written r.tokens f.0.clean in
    let q = start_of s k + length (held_tokens r.tokens) in
    let (a, x, c) = held r.tokens w s (start_of s k) q size p.0 in
    let e = row-front s (unmarked_tree w.tree) (start_of s k) q a ∙ sym (front-unmarked w.tree) ∙ ap (map without_mark) (written-front w.tree r.tokens w.tokens) in
    rw (e, laid-rows s rs (k + 1) size f.1 p.1)

-- ---- and those of the curves that it holds

-- the row of a definition that stands without marks
pub definition-row : (s : List ℕ) (p q : ℕ) (d : Definition) (ts : List ℕ) → DefinedAs d ts → Stands s p (with_end (definition_front (unmarked_definition d))) q → row_at s p ≡ map without_mark ts
definition-row s p q d ts w h = row-definition s (unmarked_definition d) p q h ∙ sym (unmarked-front d) ∙ ap (map without_mark) w

held-row : (s : List ℕ) (n : ℕ) (ts : List ℕ) → CurveHeld s n ts → is_there ts ≡ true → curve_fault_of ts ≡ 0 → row_at s (curve_start s n) ≡ map without_mark ts
held-row s n ts h t e = let w = written-curve ts e in definition-row s (curve_start s n) _ w.tree ts w.tokens (held-curve ts w s (curve_start s n) _ (h.stands t)).0

held-curves : (s : List ℕ) (cs : List (List ℕ)) (n : ℕ) → CurvesHeld s cs n → FineFrom cs n → curve_rows s (length cs) n ≡ map (map without_mark) (there_of cs)
unfolding curve_rows there_of
held-curves s [] n h f = refl
held-curves s (ts ∷ cs) n h f =
    let i = held-curves s cs (n + 1) h.1 f.1 in
    decide _ (is_there ts)
    (λ t. rw (curve_rows, there_of, t, lt-ltb 0 (curve_start s n) (h.0.begins t), held-row s n ts h.0 t (f.0 t).0, i))
    (λ t. let z = h.0.none t in rw (curve_rows, there_of, t, le-ltb 0 (curve_start s n) (omega arith), i))

-- THE ROWS OF A SET THAT WAS LOADED: its lines,
pub loaded_lines : (t : List ℕ) (q : Kept) → outcome t ≡ taken q → line_rows (load_set t) (lines_of (load_set t)).count 0 ≡ map held_row (by_number q.rows)
loaded_lines t q h =
    let rs = by_number q.rows in
    let s = set_of q.curves rs in
    let c : (lines_of s).count ≡ length rs = let z = (taken-read t q h).count in omega arith in
    let n = set-length q.curves rs in
    rw ((taken-answer t q h).2, c) (laid-rows s rs 0 (omega arith) (each-by t q h Fine (taken_fine t q h)) (taken-laid t q h))

-- and before them its curves
pub loaded-rows : (t : List ℕ) (q : Kept) → outcome t ≡ taken q → rows_of (load_set t) ≡ map (map without_mark) (there_of q.curves) ++ map held_row (by_number q.rows)
unfolding rows_of
loaded-rows t q h =
    let m = curves-three t q h in
    let e = held-curves (set_of q.curves (by_number q.rows)) q.curves 1 (taken-held t q h) (curves-fine t q h) in
    let f : curve_rows (load_set t) max_curves 1 ≡ map (map without_mark) (there_of q.curves) = rw ((taken-answer t q h).2, ← m) e in
    rw (loaded_lines t q h, f)

-- and so its print, where marks are not seen
pub held-unmarked : (rs : List Row) → map held_row rs ≡ map (map without_mark) (map tokens rs)
held-unmarked [] = refl
held-unmarked (r ∷ rs) = rw (held-unmarked rs)

pub loaded-print : (t : List ℕ) (q : Kept) → outcome t ≡ taken q → print_text (load_set t) ≡ rows_text (there_of q.curves ++ map tokens (by_number q.rows))
unfolding print_text
loaded-print t q h =
    let cs = there_of q.curves in
    let rs = map tokens (by_number q.rows) in
    ap rows_text (loaded-rows t q h ∙ ap (λ (l : List (List ℕ)). map (map without_mark) cs ++ l) (held-unmarked (by_number q.rows)) ∙ sym (map-append (map without_mark) cs rs)) ∙ rows-unmarked (cs ++ rs)

-- ---- a set is told by its rows, each with its slot

module _ (us ts : List ℕ) (e : map without_mark us ≡ map without_mark ts) where
  same_length : length us ≡ length ts
  same_length = sym (length-map us without_mark) ∙ ap length e ∙ length-map ts without_mark

  same_line : (s : List ℕ) (slot at : ℕ) → with_line s slot at us ≡ with_line s slot at ts
  unfolding with_line
  same_line s slot at = rw e

-- the same slots, and the same tokens but for marks
abbrev Alike : List Slotted → List Slotted → Type 0
Alike [] [] = Unit {0}
Alike [] (y ∷ ys) = ⊥
Alike (x ∷ xs) [] = ⊥
Alike (x ∷ xs) (y ∷ ys) = (x.slot ≡ y.slot) × (map without_mark x.tokens ≡ map without_mark y.tokens) × Alike xs ys

same-placed : (xs ys : List Slotted) (at : ℕ) (s : List ℕ) → Alike xs ys → placed xs at s ≡ placed ys at s
unfolding placed
same-placed [] [] at s a = refl
same-placed [] (y ∷ ys) at s a = absurd a
same-placed (x ∷ xs) [] at s a = absurd a
same-placed (x ∷ xs) (y ∷ ys) at s a =
    same-placed xs ys (at + length x.tokens + 1) (with_line s x.slot at x.tokens) a.2
    ∙ ap (λ (k : ℕ). placed ys (at + length x.tokens + 1) (with_line s k at x.tokens)) a.0
    ∙ ap (λ (u : List ℕ). placed ys (at + length x.tokens + 1) u) (same_line x.tokens y.tokens a.1 s y.slot at)
    ∙ ap (λ (n : ℕ). placed ys (at + n + 1) (with_line s y.slot at y.tokens)) (same_length x.tokens y.tokens a.1)

alike-append : (xs ys us vs : List Slotted) → Alike xs ys → Alike us vs → Alike (xs ++ us) (ys ++ vs)
alike-append [] [] us vs a b = b
alike-append [] (y ∷ ys) us vs a b = absurd a
alike-append (x ∷ xs) [] us vs a b = absurd a
alike-append (x ∷ xs) (y ∷ ys) us vs a b = (a.0, a.1, alike-append xs ys us vs a.2 b)

alike-ranked : (qs rs : List Row) (k : ℕ) → map held_row qs ≡ map held_row rs → Alike (ranked qs k) (ranked rs k)
alike-ranked [] [] k e = tt
alike-ranked [] (r ∷ rs) k e = clash (cc)
alike-ranked (q ∷ qs) [] k e = clash (cc)
alike-ranked (q ∷ qs) (r ∷ rs) k e =
    let a : held_row q ≡ held_row r = cc in
    let b : map held_row qs ≡ map held_row rs = cc in
    (refl, a, alike-ranked qs rs (k + 1) b)

-- curves of the same numbers, and the same tokens but for marks
alike-curves : (bs cs : List (List ℕ)) (n : ℕ) → map (map without_mark) bs ≡ map (map without_mark) cs → Alike (curve_slots bs n) (curve_slots cs n)
unfolding curve_slots
alike-curves [] [] n e = tt
alike-curves [] (c ∷ cs) n e = clash (cc)
alike-curves (b ∷ bs) [] n e = clash (cc)
alike-curves (b ∷ bs) (c ∷ cs) n e =
    let f : map without_mark b ≡ map without_mark c = cc in
    let g : map (map without_mark) bs ≡ map (map without_mark) cs = cc in
    let i = alike-curves bs cs (n + 1) g in
    let l = ap (ltb 0) (same_length b c f) in
    decide _ (is_there c)
    (λ t. rw (curve_slots, l, t) (refl, f, i))
    (λ t. rw (curve_slots, l, t) i)

pub same_set : (bs cs : List (List ℕ)) (qs rs : List Row) → map (map without_mark) bs ≡ map (map without_mark) cs → map held_row qs ≡ map held_row rs → set_of bs qs ≡ set_of cs rs
unfolding set_of
same_set bs cs qs rs c e =
    let n : length qs ≡ length rs = sym (length-map qs held_row) ∙ ap length e ∙ length-map rs held_row in
    rw n (same-placed (curve_slots bs 1 ++ ranked qs 0) (curve_slots cs 1 ++ ranked rs 0) first_place (with_count empty_set count_place (length rs))
    (alike-append (curve_slots bs 1) (curve_slots cs 1) (ranked qs 0) (ranked rs 0) (alike-curves bs cs 1 c) (alike-ranked qs rs 0 e)))

-- ---- the empty set

empty-count : (lines_of empty_set).count ≡ 0
unfolding sound_lines named_lines curves_sound lines_read empty_set all_known lines_from
empty-count = refl

-- it prints nothing
pub empty-print : print_text empty_set ≡ []
unfolding print_text rows_of curve_rows line_rows rows_text empty_set
empty-print = rw empty-count

set-zero : (n : ℕ) → set (replicate {A = ℕ} n 0) 0 0 ≡ replicate n 0
set-zero zero = refl
set-zero (suc n) = refl

-- and a text without a byte gives it
pub empty-loaded : load_set [] ≡ empty_set
unfolding set_of empty_set curve_slots placed rising
empty-loaded = (taken-answer [] nothing empty-taken).2 ∙ set-zero set_size
