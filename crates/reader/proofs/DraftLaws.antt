-- Laws of what is kept of a text: the curves and lines of a draft, tokens written behind them, and one line more.
use mathlib.Core.Path.{◌≡◌, refl, sym, ap, ◌∙◌}
use mathlib.Core.Bool.{Bool, true, false}
use mathlib.Core.List.{List, [], ◌∷◌, ◌++◌, map}
use Prim.Native.Nat.{ℕ, zero, suc, ◌+◌, ◌-◌, ◌<◌, ◌≤◌}
use native.Mathlib.Decide.{ℕ_discrete, dec_lt}
use native.Mathlib.Omega.{arith}
use native.Mathlib.Numerals.{add-one}
use lib.ListN.{length, get_or, set, take, drop, length-set, length-append, length-take, length-drop, get_or-append, get_or-eq_default, get_or-map}
use lib.Seq.{drop-cons, get_or-set_same, get_or-set_other, get_or-append_seam, ext_get_or, drop-set-add, take-set-le}
use borrow.Author.Tests.{le-leb, lt-ltb, ltb-false}
use Rattle.values.specs.PutAt.{put_at}
use Rattle.values.specs.PutLaws.{put-length, put-before}
use Rattle.tokens.specs.Token.{set_size, max_lines, max_curves}
use Rattle.std.specs.Prelude.{Option, Some, None, is_some}
use Rattle.std.proofs.lemmas.List.{map-set}
use Rattle.reader.specs.declared.draft.Draft.{Draft}
use Rattle.reader.specs.declared.draft.DraftLine.{DraftLine}
use Rattle.reader.specs.declared.draft.Span.{Span}
use Rattle.engine.specs.Set.{is_defined}
use Rattle.reader.specs.Row.{Row, is_there, curves_there, numbers_of, no_row}
use Rattle.reader.specs.Draft.{no_draft_line, grown_by, grown_by_curve, row_of_line, curve_tokens, Before, CurveBefore, row_in, rows_at, rows_in, curve_in, curves_at, kept_in, tokens_to, lengths, tokens_kept, Held}
use Rattle.reader.specs.RisingLaws.{number_at, numbers-length}

-- ---- a part of an array that something is put into

part-set : (s : List ℕ) (p a e t : ℕ) → a ≤ e → e ≤ p → take (e - a) (drop a (set s p t)) ≡ take (e - a) (drop a s)
part-set s p a e t h l =
    let q : p ≡ a + (p - a) = omega arith in
    ap (λ (x : ℕ). take (e - a) (drop a (set s x t))) q ∙ ap (take (e - a)) (drop-set-add a s (p - a) t) ∙ take-set-le (e - a) (drop a s) (p - a) t (omega arith)

-- before it the part stays
part-before : (l s : List ℕ) (p a e : ℕ) → a ≤ e → e ≤ p → take (e - a) (drop a (put_at s p l)) ≡ take (e - a) (drop a s)
part-before [] s p a e h l = refl
part-before (t ∷ ts) s p a e h l = part-before ts (set s p t) (p + 1) a e h (omega arith) ∙ part-set s p a e t h l

-- there it is what was put
pub part-put : (l s : List ℕ) (p : ℕ) → p + length l ≤ length s → take (length l) (drop p (put_at s p l)) ≡ l
part-put [] s p h = refl
part-put (t ∷ l) s p h =
    let n = length-set s p t in
    let z = put_at (set s p t) (p + 1) l in
    let m = put-length l (set s p t) (p + 1) in
    let e : get_or z p 0 ≡ t = put-before l (set s p t) (p + 1) p (omega arith) ∙ get_or-set_same s p t 0 (omega arith) in
    let i = part-put l (set s p t) (p + 1) (omega arith) in
    rw (drop-cons z p 0 (omega arith), e) (ap (λ (x : List ℕ). t ∷ x) (ap (λ (x : ℕ). take (length l) (drop x z)) (sym (add-one p)) ∙ i))

-- ---- the lines of a draft

module _ (s : List ℕ) (d : Draft) where
  pub rows-length : (n j : ℕ) → length (rows_at s d n j) ≡ n
  unfolding rows_at
  rows-length zero j = refl
  rows-length (suc n) j = ap suc (rows-length n (j + 1))

  pub row_at : (n j i : ℕ) → i < n → get_or (rows_at s d n j) i no_row ≡ row_in s d (j + i)
  unfolding rows_at
  row_at zero j i h = absurd (omega arith)
  row_at (suc n) j zero h = let e : j ≡ j + 0 = omega arith in ap (row_in s d) e
  row_at (suc n) j (suc i) h = let e : j + 1 + i ≡ j + suc i = omega arith in row_at n (j + 1) i (omega arith) ∙ ap (row_in s d) e

  pub curves-length : (n j : ℕ) → length (curves_at s d n j) ≡ n
  unfolding curves_at
  curves-length zero j = refl
  curves-length (suc n) j = ap suc (curves-length n (j + 1))

  pub curve-at : (n j i : ℕ) → i < n → get_or (curves_at s d n j) i [] ≡ curve_in s d (j + i)
  unfolding curves_at
  curve-at zero j i h = absurd (omega arith)
  curve-at (suc n) j zero h = let e : j ≡ j + 0 = omega arith in ap (curve_in s d) e
  curve-at (suc n) j (suc i) h = let e : j + 1 + i ≡ j + suc i = omega arith in curve-at n (j + 1) i (omega arith) ∙ ap (curve_in s d) e

  rows_last : (n j : ℕ) → rows_at s d (suc n) j ≡ rows_at s d n j ++ (row_in s d (j + n) ∷ [])
  unfolding rows_at
  rows_last zero j = let e : j ≡ j + 0 = omega arith in ap (λ (x : ℕ). row_in s d x ∷ []) e
  rows_last (suc n) j =
      let e : j + 1 + n ≡ j + suc n = omega arith in
      ap (λ (x : List Row). row_in s d j ∷ x) (rows_last n (j + 1) ∙ ap (λ (x : ℕ). rows_at s d n (j + 1) ++ (row_in s d x ∷ [])) e)

-- where the tokens of a line stand
pub row-bounds : (s : List ℕ) (d : Draft) → Held s d → (j : ℕ) → j < d.count → let x = (get_or d.lines j no_draft_line).tokens in
    (x.start ≤ x.end) × (x.end ≤ set_size) × (length (row_in s d j).tokens ≡ x.end - x.start) × (j < max_lines)
row-bounds s d h j l =
    let x = (get_or d.lines j no_draft_line).tokens in
    let o = h.ordered j l in
    let w = h.within in
    let z = h.size in
    let f = h.few in
    let t = length-take (x.end - x.start) (drop x.start s) in
    let r = length-drop x.start s in
    (o.0, omega arith, omega arith, omega arith)

-- and those of a curve's line
pub curve-bounds : (s : List ℕ) (d : Draft) → Held s d → (j : ℕ) → j < max_curves → (x : Span) → get_or d.curves j None ≡ Some x → (x.start ≤ x.end) × (x.end ≤ set_size) × (length (curve_in s d j) ≡ x.end - x.start)
curve-bounds s d h j l x e =
    let o : CurveBefore d.at (Some x) = rw e at (h.curves_ordered j l) in
    let w = h.within in
    let z = h.size in
    let t = length-take (x.end - x.start) (drop x.start s) in
    let r = length-drop x.start s in
    (omega arith, omega arith, rw e (omega arith))

-- and those of the next line
pub tokens-length : (s : List ℕ) (d : Draft) → Held s d → (end : ℕ) → d.at ≤ end → end ≤ set_size → length (tokens_to s d end) ≡ end - d.at
tokens-length s d h end b f = let t = length-take (end - d.at) (drop d.at s) in let r = length-drop d.at s in let z = h.size in omega arith

pub tokens-short : (s : List ℕ) (d : Draft) → Held s d → (end : ℕ) → d.at ≤ end → end ≤ set_size → length (tokens_to s d end) ≤ set_size
tokens-short s d h end b f = let n = tokens-length s d h end b f in omega arith

rows_same : (s z : List ℕ) (d e : Draft) (n j : ℕ) → ((i : ℕ) → i < j + n → row_in s d i ≡ row_in z e i) → rows_at s d n j ≡ rows_at z e n j
unfolding rows_at
rows_same s z d e zero j h = refl
rows_same s z d e (suc n) j h = rw (h j (omega arith)) (ap (λ (x : List Row). row_in z e j ∷ x) (rows_same s z d e n (j + 1) (λ i l. h i (omega arith))))

curves-same : (s z : List ℕ) (d e : Draft) (n j : ℕ) → ((i : ℕ) → i < j + n → curve_in s d i ≡ curve_in z e i) → curves_at s d n j ≡ curves_at z e n j
unfolding curves_at
curves-same s z d e zero j h = refl
curves-same s z d e (suc n) j h = rw (h j (omega arith)) (ap (λ (x : List (List ℕ)). curve_in z e j ∷ x) (curves-same s z d e n (j + 1) (λ i l. h i (omega arith))))

-- ---- tokens ts written behind those that are kept

module _ (s : List ℕ) (d : Draft) (h : Held s d) (ts : List ℕ) where
  rows-put : rows_in (put_at s d.at ts) d ≡ rows_in s d
  rows-put = rows_same (put_at s d.at ts) s d d d.count 0 (λ i l. let x = (get_or d.lines i no_draft_line).tokens in let o = h.ordered i (omega arith) in rw (part-before ts s d.at x.start x.end o.0 o.1))

  curve-put : (o : Option Span) → CurveBefore d.at o → curve_tokens (put_at s d.at ts) o ≡ curve_tokens s o
  curve-put None b = refl
  curve-put (Some x) b = part-before ts s d.at x.start x.end (omega arith) b.1

  curves-put : curves_at (put_at s d.at ts) d max_curves 0 ≡ curves_at s d max_curves 0
  curves-put = curves-same (put_at s d.at ts) s d d max_curves 0 (λ i l. curve-put (get_or d.curves i None) (h.curves_ordered i (omega arith)))

  pub kept_put : kept_in (put_at s d.at ts) d ≡ kept_in s d
  kept_put = rw (rows-put, curves-put)

  pub held-put : Held (put_at s d.at ts) d
  held-put = record {
    size = put-length ts s d.at ∙ h.size;
    sizes = h.sizes;
    curve_sizes = h.curve_sizes;
    few = h.few;
    numbers = h.numbers ∙ ap numbers_of (sym rows-put);
    there = h.there ∙ ap curves_there (sym curves-put);
    room = h.room ∙ ap tokens_kept (sym kept_put);
    within = h.within;
    ordered = h.ordered;
    curves_ordered = h.curves_ordered;
  }

-- ---- one line more

-- the numbers of one line more
numbers-last : (rs : List Row) (r : Row) → length rs < max_lines → set (numbers_of rs) (length rs) r.number ≡ numbers_of (rs ++ (r ∷ []))
numbers-last rs r l =
    let m = numbers-length rs in
    let n = length-append rs (r ∷ []) in
    ext_get_or 0 (set (numbers_of rs) (length rs) r.number) (numbers_of (rs ++ (r ∷ []))) (length-set (numbers_of rs) (length rs) r.number ∙ m ∙ sym (numbers-length (rs ++ (r ∷ []))))
    (λ i h. at_place i (ℕ_discrete i (length rs)) (dec_lt i (length rs)) ∙ sym (number_at (rs ++ (r ∷ [])) i (omega arith)))
  where
    at_place : (i : ℕ) → Dec (i ≡ length rs) → Dec (i < length rs) → get_or (set (numbers_of rs) (length rs) r.number) i 0 ≡ (get_or (rs ++ (r ∷ [])) i no_row).number
    at_place i (yes e) y =
        let m = numbers-length rs in
        rw e (get_or-set_same (numbers_of rs) (length rs) r.number 0 (omega arith) ∙ sym (ap (λ (x : Row). x.number) (get_or-append_seam rs r [] no_row)))
    at_place i (no n) (yes h) = get_or-set_other (numbers_of rs) (length rs) i r.number 0 n ∙ number_at rs i (omega arith) ∙ sym (ap (λ (x : Row). x.number) (get_or-append rs (r ∷ []) no_row i h))
    at_place i (no n) (no h) =
        let m = length-append rs (r ∷ []) in
        get_or-set_other (numbers_of rs) (length rs) i r.number 0 n ∙ number_at rs i (omega arith)
        ∙ ap (λ (x : Row). x.number) (get_or-eq_default rs no_row {n = i} (omega (arith, h)) ∙ sym (get_or-eq_default (rs ++ (r ∷ [])) no_row {n = i} (omega (arith, n, h))))

-- the tokens of one line more
pub lengths-last : (rs : List Row) (r : Row) → lengths (map (λ (r : Row). r.tokens) (rs ++ (r ∷ []))) ≡ lengths (map (λ (r : Row). r.tokens) rs) + length r.tokens
unfolding lengths
lengths-last [] r = omega arith
lengths-last (q ∷ rs) r = let i = lengths-last rs r in omega arith

-- what stands before a place stands before a later one
curve-later : (at end : ℕ) (o : Option Span) → at ≤ end → CurveBefore at o → CurveBefore end o
curve-later at end None l b = tt
curve-later at end (Some x) l b = (b.0, omega arith)

-- the line k of the text, with the number n, whose tokens stand behind those that are kept, up to the place `end`
module _ (s : List ℕ) (d : Draft) (h : Held s d) (k n end : ℕ) (few : d.count < max_lines) (begin : d.at ≤ end) (fits : end ≤ set_size) where
  abbrev draft : Draft
  draft = grown_by d k n end

  abbrev row : Row
  row = record { place = k; number = n; tokens = tokens_to s d end }

  abbrev line : DraftLine
  line = record { number = n; place = k; tokens = record { start = d.at; end = end } }

  kept : (i : ℕ) → i < d.count → row_in s draft i ≡ row_in s d i
  kept i l = ap (row_of_line s) (get_or-set_other d.lines d.count i line no_draft_line (λ e. omega arith))

  newest : row_in s draft d.count ≡ row
  newest = let z = h.sizes in ap (row_of_line s) (get_or-set_same d.lines d.count line no_draft_line (omega arith))

  pub grown-rows : rows_in s draft ≡ rows_in s d ++ (row ∷ [])
  grown-rows =
      ap (λ (x : ℕ). rows_at s draft x 0) (add-one d.count) ∙ rows_last s draft d.count 0
      ∙ ap (λ (x : ℕ). rows_at s draft d.count 0 ++ (row_in s draft x ∷ [])) (let e : 0 + d.count ≡ d.count = omega arith in e)
      ∙ ap (λ (x : List Row). x ++ (row_in s draft d.count ∷ [])) (rows_same s s draft d d.count 0 (λ i l. kept i (omega arith)))
      ∙ ap (λ (x : Row). rows_in s d ++ (x ∷ [])) newest

  pub grown-curves : curves_at s draft max_curves 0 ≡ curves_at s d max_curves 0
  unfolding curves_at
  grown-curves = refl

  pub grown-held : Held s draft
  grown-held =
      let z = h.sizes in
      let c = rows-length s d d.count 0 in
      let t = lengths-last (rows_in s d) row in
      let r = h.room in
      let m = tokens-length s d h end begin fits in
      record {
        size = h.size;
        sizes = length-set d.lines d.count line ∙ z;
        curve_sizes = h.curve_sizes;
        few = omega arith;
        numbers = map-set (λ (l : DraftLine). l.number) d.lines d.count line ∙ ap (λ (ns : List ℕ). set ns d.count n) h.numbers ∙ ap (λ (j : ℕ). set (numbers_of (rows_in s d)) j n) (sym c) ∙ numbers-last (rows_in s d) row (omega arith) ∙ ap numbers_of (sym grown-rows);
        there = h.there ∙ ap curves_there (sym grown-curves);
        room = let q = ap (λ (x : List Row). lengths (map (λ (r : Row). r.tokens) x)) grown-rows in let v = ap lengths grown-curves in omega arith;
        within = fits;
        ordered = λ j l. at_place j l (ℕ_discrete j d.count);
        curves_ordered = λ j l. curve-later d.at end (get_or d.curves j None) (omega arith) (h.curves_ordered j l);
      }
    where
      at_place : (j : ℕ) → j < d.count + 1 → Dec (j ≡ d.count) → Before draft.at (get_or draft.lines j no_draft_line).tokens
      at_place j l (yes e) = let z = h.sizes in rw (e, get_or-set_same d.lines d.count line no_draft_line (omega arith)) (omega arith, omega arith)
      at_place j l (no m) =
          let o = h.ordered j (omega (arith, m)) in
          rw (get_or-set_other d.lines d.count j line no_draft_line m) (o.0, omega arith)

-- ---- one curve more

-- whether each is there
there-set : (cs : List (List ℕ)) (j : ℕ) (ts : List ℕ) → curves_there (set cs j ts) ≡ set (curves_there cs) j (is_there ts)
there-set [] j ts = refl
there-set (c ∷ cs) zero ts = refl
there-set (c ∷ cs) (suc j) ts = ap (λ (x : List Bool). is_there c ∷ x) (there-set cs j ts)

-- a curve that is not there has no tokens
pub none-there : (cs : List (List ℕ)) (n : ℕ) → 1 ≤ n → is_defined (curves_there cs) n ≡ false → length (get_or cs (n - 1) []) ≡ 0
none-there cs n low new =
    let e : get_or (curves_there cs) (n - 1) false ≡ false = rw (le-leb 1 n low) at new in
    let f = ltb-false 0 (length (get_or cs (n - 1) [])) (sym (get_or-map is_there cs (n - 1) []) ∙ e) in
    omega arith

-- the tokens with it
pub lengths-set : (cs : List (List ℕ)) (j : ℕ) (ts : List ℕ) → j < length cs → length (get_or cs j []) ≡ 0 → lengths (set cs j ts) ≡ lengths cs + length ts
unfolding lengths
lengths-set [] j ts l h = absurd (omega arith)
lengths-set (c ∷ cs) zero ts l h = omega arith
lengths-set (c ∷ cs) (suc j) ts l h = let i = lengths-set cs j ts (omega arith) h in omega arith

-- curve n, which is not there, and the tokens of whose line stand behind those that are kept, up to the place `end`
module _ (s : List ℕ) (d : Draft) (h : Held s d) (n end : ℕ) (low : 1 ≤ n) (high : n ≤ max_curves) (new : is_defined (curves_there (kept_in s d).curves) n ≡ false) (begin : d.at < end) (fits : end ≤ set_size) where
  abbrev curved : Draft
  curved = grown_by_curve d n end

  abbrev here : Option Span
  here = Some (record { start = d.at; end = end })

  same_rows : rows_in s curved ≡ rows_in s d
  same_rows = rows_same s s curved d d.count 0 (λ i l. refl)

  defined-curves : curves_at s curved max_curves 0 ≡ set (curves_at s d max_curves 0) (n - 1) (tokens_to s d end)
  defined-curves =
      let m = curves-length s d max_curves 0 in
      let l = curves-length s curved max_curves 0 in
      let e = length-set (curves_at s d max_curves 0) (n - 1) (tokens_to s d end) in
      ext_get_or [] (curves_at s curved max_curves 0) (set (curves_at s d max_curves 0) (n - 1) (tokens_to s d end)) (omega arith) (λ i g. at_place i (omega arith) (ℕ_discrete i (n - 1)))
    where
      at_place : (i : ℕ) → i < max_curves → Dec (i ≡ n - 1) → get_or (curves_at s curved max_curves 0) i [] ≡ get_or (set (curves_at s d max_curves 0) (n - 1) (tokens_to s d end)) i []
      at_place i l (yes e) =
          let z = h.curve_sizes in
          let m = curves-length s d max_curves 0 in
          let f : 0 + i ≡ n - 1 = omega arith in
          curve-at s curved max_curves 0 i l ∙ rw (f, e, get_or-set_same d.curves (n - 1) here None (omega arith)) (sym (get_or-set_same (curves_at s d max_curves 0) (n - 1) (tokens_to s d end) [] (omega arith)))
      at_place i l (no m) =
          let f : 0 + i ≡ i = omega arith in
          curve-at s curved max_curves 0 i l ∙ rw (f, get_or-set_other d.curves (n - 1) i here None m) (sym (get_or-set_other (curves_at s d max_curves 0) (n - 1) i (tokens_to s d end) [] m ∙ curve-at s d max_curves 0 i l ∙ ap (curve_in s d) f))

  pub defined-kept : kept_in s curved ≡ record { curves = set (kept_in s d).curves (n - 1) (tokens_to s d end); rows = rows_in s d }
  defined-kept = rw (same_rows, defined-curves)

  pub defined-held : Held s curved
  defined-held =
      let z = h.curve_sizes in
      let m = curves-length s d max_curves 0 in
      let w = tokens-length s d h end (omega arith) fits in
      let r = h.room in
      let t = lengths-set (curves_at s d max_curves 0) (n - 1) (tokens_to s d end) (omega arith) (none-there (curves_at s d max_curves 0) n low new) in
      record {
        size = h.size;
        sizes = h.sizes;
        curve_sizes = length-set d.curves (n - 1) here ∙ z;
        few = h.few;
        numbers = h.numbers ∙ ap numbers_of (sym same_rows);
        there =
            map-set (λ (x : Option Span). is_some x) d.curves (n - 1) here ∙ ap (λ (x : List Bool). set x (n - 1) true) h.there
            ∙ ap (set (curves_there (curves_at s d max_curves 0)) (n - 1)) (sym (lt-ltb 0 (length (tokens_to s d end)) (omega arith)))
            ∙ sym (there-set (curves_at s d max_curves 0) (n - 1) (tokens_to s d end)) ∙ ap curves_there (sym defined-curves);
        room = let q = ap (λ (x : List Row). lengths (map (λ (r : Row). r.tokens) x)) same_rows in let v = ap lengths defined-curves in omega arith;
        within = fits;
        ordered = λ j l. let o = h.ordered j l in (o.0, omega arith);
        curves_ordered = λ j l. at_place j l (ℕ_discrete j (n - 1));
      }
    where
      at_place : (j : ℕ) → j < max_curves → Dec (j ≡ n - 1) → CurveBefore curved.at (get_or curved.curves j None)
      at_place j l (yes e) = let z = h.curve_sizes in rw (e, get_or-set_same d.curves (n - 1) here None (omega arith)) (begin, omega arith)
      at_place j l (no m) = rw (get_or-set_other d.curves (n - 1) j here None m) (curve-later d.at end (get_or d.curves j None) (omega arith) (h.curves_ordered j l))
