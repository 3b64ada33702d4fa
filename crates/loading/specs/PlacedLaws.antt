-- Laws of lines that are placed in a set, by their slots: its size, its places, and the tokens that stand where each slot says. So of the set that holds some curves and numbered lines. Nothing is assumed.
use Rattle.std.specs.Prelude.{◌≡◌, refl, true, false, List, [], ◌∷◌, ◌++◌, map, ℕ, ◌+◌, ◌≤◌, ◌<◌, length, get_or, set}
use Rattle.std.proofs.Common.{◌∙◌, arith, length-set, length-append, get_or-set_same}
use Rattle.std.proofs.lemmas.List.{length-map}
use Rattle.std.proofs.Math.ListN.{get_or-replicate}
use Rattle.std.proofs.Math.Seq.{get_or-set_other}
use Rattle.values.specs.Choice.{contrary, decide, either}
use Rattle.tokens.specs.Token.{END, text_size, set_size, max_lines, max_curves}
use Rattle.grammar.specs.Meaning.{Stands}
use Rattle.engine.specs.Set.{empty_set, first_place, start_place, curve_place, line_count, curve_start, without_mark, with_end, with_line, count_place, with_count}
use Rattle.grammar.specs.StandsLaws.{stands_same}
use Rattle.values.specs.PutLaws.{put-length, put-before}
use Rattle.reader.specs.StandLaws.{put-stands, empty-length}
use Rattle.reader.specs.Row.{Row, is_there, total, curves_total, Slotted, placed, ranked, curve_slots, set_of}

-- ---- lines and their slots

-- the tokens of a line as a set has them
abbrev pub held_tokens : List ℕ → List ℕ
held_tokens ts = with_end (map without_mark ts)

pub held-length : (ts : List ℕ) → length (held_tokens ts) ≡ length ts + 1
held-length ts = let a = length-append (map without_mark ts) (END ∷ []) in let b = length-map ts without_mark in omega arith

-- the places that some lines take, one for the end of each
unfoldable pub spread : List Slotted → ℕ
spread [] = 0
spread (x ∷ xs) = length x.tokens + 1 + spread xs

-- no line of some has the slot i
abbrev pub Free : ℕ → List Slotted → Type 0
Free i [] = Unit {0}
Free i (x ∷ xs) = (i ≡ x.slot → ⊥) × Free i xs

-- each slot stands in the table, and no two lines have one
abbrev pub SlotsApart : List Slotted → Type 0
SlotsApart [] = Unit {0}
SlotsApart (x ∷ xs) = (x.slot < first_place) × Free x.slot xs × SlotsApart xs

-- each of some lines begins behind the table
abbrev pub Begun : List ℕ → List Slotted → Type 0
Begun s [] = Unit {0}
Begun s (x ∷ xs) = (first_place ≤ get_or s x.slot 0) × Begun s xs

-- each of some lines stands in a set where its slot says that it begins
abbrev pub Laid : List ℕ → List Slotted → Type 0
Laid s [] = Unit {0}
Laid s (x ∷ xs) = (let p = get_or s x.slot 0 in Stands s p (held_tokens x.tokens) (p + length (held_tokens x.tokens))) × Laid s xs

-- ---- lines that are placed

with-length : (x : Slotted) (at : ℕ) (s : List ℕ) → length (with_line s x.slot at x.tokens) ≡ length s
unfolding with_line
with-length x at s = put-length (held_tokens x.tokens) (set s x.slot at) at ∙ length-set s x.slot at

pub placed-length : (xs : List Slotted) (at : ℕ) (s : List ℕ) → length (placed xs at s) ≡ length s
unfolding placed
placed-length [] at s = refl
placed-length (x ∷ xs) at s = placed-length xs _ (with_line s x.slot at x.tokens) ∙ with-length x at s

-- a place before the tokens that is no slot of these lines stays
pub placed-keeps : (xs : List Slotted) (at : ℕ) (s : List ℕ) (i : ℕ) → i < at → Free i xs → get_or (placed xs at s) i 0 ≡ get_or s i 0
unfolding placed with_line
placed-keeps [] at s i h f = refl
placed-keeps (x ∷ xs) at s i h f =
    placed-keeps xs (at + length x.tokens + 1) (with_line s x.slot at x.tokens) i (omega arith) f.1
    ∙ put-before (held_tokens x.tokens) (set s x.slot at) at i h
    ∙ get_or-set_other s x.slot i at 0 f.0

-- so does a place that no slot reaches
free-behind : (xs : List Slotted) (i : ℕ) → SlotsApart xs → first_place ≤ i → Free i xs
free-behind [] i a h = tt
free-behind (x ∷ xs) i a h = let l = a.0 in (λ e. omega arith, free-behind xs i a.2 h)

-- the first of some lines begins where it was placed
line-begun : (x : Slotted) (xs : List Slotted) (at : ℕ) (s : List ℕ) → SlotsApart (x ∷ xs) → first_place ≤ at → first_place ≤ length s → get_or (placed (x ∷ xs) at s) x.slot 0 ≡ at
unfolding placed with_line
line-begun x xs at s apart first room =
    let m = apart.0 in
    placed-keeps xs (at + length x.tokens + 1) (with_line s x.slot at x.tokens) x.slot (omega arith) apart.1
    ∙ put-before (held_tokens x.tokens) (set s x.slot at) at x.slot (omega arith)
    ∙ get_or-set_same s x.slot at 0 (omega arith)

-- and is there
line-laid : (x : Slotted) (xs : List Slotted) (at : ℕ) (s : List ℕ) → SlotsApart (x ∷ xs) → first_place ≤ at → at + length (held_tokens x.tokens) ≤ length s →
    let s' = placed (x ∷ xs) at s in let p = get_or s' x.slot 0 in Stands s' p (held_tokens x.tokens) (p + length (held_tokens x.tokens))
unfolding placed with_line
line-laid x xs at s apart first room =
    let w = with_line s x.slot at x.tokens in
    let at' = at + length x.tokens + 1 in
    let n = held-length x.tokens in
    let l = length-set s x.slot at in
    let e = line-begun x xs at s apart first (omega arith) in
    rw e (stands_same w (placed xs at' w) (held_tokens x.tokens) at (at + length (held_tokens x.tokens))
    (λ i a b. placed-keeps xs at' w i (omega arith) (free-behind xs i apart.2 (omega arith)))
    (put-stands (held_tokens x.tokens) (set s x.slot at) at (at + length (held_tokens x.tokens)) refl (omega arith)))

-- LINES THAT ARE PLACED are there, each where its slot says, if no two have one slot and there is room for their tokens
pub placed-laid : (xs : List Slotted) (at : ℕ) (s : List ℕ) → SlotsApart xs → first_place ≤ at → at + spread xs ≤ length s → Laid (placed xs at s) xs
unfolding placed spread
placed-laid [] at s apart first room = tt
placed-laid (x ∷ xs) at s apart first room =
    let n = held-length x.tokens in
    let l = with-length x at s in (
      line-laid x xs at s apart first (omega arith),
      placed-laid xs (at + length x.tokens + 1) (with_line s x.slot at x.tokens) apart.2 (omega arith) (omega arith),
    )

-- and each begins behind the table
pub placed-begun : (xs : List Slotted) (at : ℕ) (s : List ℕ) → SlotsApart xs → first_place ≤ at → first_place ≤ length s → Begun (placed xs at s) xs
unfolding placed
placed-begun [] at s apart first room = tt
placed-begun (x ∷ xs) at s apart first room =
    let l = with-length x at s in
    let e = line-begun x xs at s apart first room in
    (omega arith, placed-begun xs (at + length x.tokens + 1) (with_line s x.slot at x.tokens) apart.2 (omega arith) (omega arith))

-- ---- some lines and others behind them

spread-append : (xs ys : List Slotted) → spread (xs ++ ys) ≡ spread xs + spread ys
unfolding spread
spread-append [] ys = omega arith
spread-append (x ∷ xs) ys = let i = spread-append xs ys in omega arith

free-append : (i : ℕ) (xs ys : List Slotted) → Free i xs → Free i ys → Free i (xs ++ ys)
free-append i [] ys f g = g
free-append i (x ∷ xs) ys f g = (f.0, free-append i xs ys f.1 g)

-- no slot of some is one of the others'
abbrev FreeOf : List Slotted → List Slotted → Type 0
FreeOf [] ys = Unit {0}
FreeOf (x ∷ xs) ys = Free x.slot ys × FreeOf xs ys

apart-append : (xs ys : List Slotted) → SlotsApart xs → SlotsApart ys → FreeOf xs ys → SlotsApart (xs ++ ys)
apart-append [] ys a b f = b
apart-append (x ∷ xs) ys a b f = (a.0, free-append x.slot xs ys a.1 f.0, apart-append xs ys a.2 b f.1)

laid-first : (s : List ℕ) (xs ys : List Slotted) → Laid s (xs ++ ys) → Laid s xs
laid-first s [] ys h = tt
laid-first s (x ∷ xs) ys h = (h.0, laid-first s xs ys h.1)

laid-behind : (s : List ℕ) (xs ys : List Slotted) → Laid s (xs ++ ys) → Laid s ys
laid-behind s [] ys h = h
laid-behind s (x ∷ xs) ys h = laid-behind s xs ys h.1

begun_first : (s : List ℕ) (xs ys : List Slotted) → Begun s (xs ++ ys) → Begun s xs
begun_first s [] ys h = tt
begun_first s (x ∷ xs) ys h = (h.0, begun_first s xs ys h.1)

-- ---- numbered lines, from rank k on

ranked-spread : (rs : List Row) (k : ℕ) → spread (ranked rs k) ≡ total rs
unfolding spread total
ranked-spread [] k = refl
ranked-spread (r ∷ rs) k = let i = ranked-spread rs (k + 1) in omega arith

-- a place before their starts is none of their slots
ranked-free : (rs : List Row) (k i : ℕ) → i < start_place k → Free i (ranked rs k)
ranked-free [] k i h = tt
ranked-free (r ∷ rs) k i h = (λ e. omega arith, ranked-free rs (k + 1) i (omega arith))

ranked-apart : (rs : List Row) (k : ℕ) → k + length rs ≤ max_lines → SlotsApart (ranked rs k)
ranked-apart [] k h = tt
ranked-apart (r ∷ rs) k h = (omega arith, ranked-free rs (k + 1) (start_place k) (omega arith), ranked-apart rs (k + 1) (omega arith))

-- and one behind them is none
ranked-free-behind : (rs : List Row) (k i : ℕ) → start_place k + length rs ≤ i → Free i (ranked rs k)
ranked-free-behind [] k i h = tt
ranked-free-behind (r ∷ rs) k i h = (λ e. omega arith, ranked-free-behind rs (k + 1) i (omega arith))

-- ---- curves, from curve n on

curves-spread : (cs : List (List ℕ)) (n : ℕ) → spread (curve_slots cs n) ≡ curves_total cs
unfolding spread curve_slots curves_total
curves-spread [] n = refl
curves-spread (ts ∷ cs) n = let i = curves-spread cs (n + 1) in decide _ (is_there ts) (λ t. rw (t, curve_slots, curves_total) (omega arith)) (λ t. rw (t, curve_slots, curves_total) i)

-- a place before their starts is none of their slots
curves-free : (cs : List (List ℕ)) (n i : ℕ) → i < curve_place n → Free i (curve_slots cs n)
unfolding curve_slots
curves-free [] n i h = tt
curves-free (ts ∷ cs) n i h =
    let f = curves-free cs (n + 1) i (omega arith) in
    either (Free i) (is_there ts) (λ t. (λ e. omega arith, f)) (λ t. f)

curves-apart : (cs : List (List ℕ)) (n : ℕ) → n + length cs ≤ 1 + max_curves → SlotsApart (curve_slots cs n)
unfolding curve_slots
curves-apart [] n h = tt
curves-apart (ts ∷ cs) n h =
    let a = curves-apart cs (n + 1) (omega arith) in
    either SlotsApart (is_there ts) (λ t. (omega arith, curves-free cs (n + 1) (curve_place n) (omega arith), a)) (λ t. a)

-- no start of a curve is that of a numbered line
curves-ranked : (cs : List (List ℕ)) (n : ℕ) (rs : List Row) → 1 ≤ n → length rs ≤ max_lines → FreeOf (curve_slots cs n) (ranked rs 0)
unfolding curve_slots
curves-ranked [] n rs h few = tt
curves-ranked (ts ∷ cs) n rs h few =
    let f = curves-ranked cs (n + 1) rs (omega arith) few in
    either (λ xs. FreeOf xs (ranked rs 0)) (is_there ts) (λ t. (ranked-free-behind rs 0 (curve_place n) (omega arith), f)) (λ t. f)

-- what a set has of curve n with the tokens ts: if it is there, it begins somewhere and stands there; if not, it has no start
pub record CurveHeld (s : List ℕ) (n : ℕ) (ts : List ℕ) : Type 0 where
  pub begins : is_there ts ≡ true → 0 < curve_start s n
  pub stands : is_there ts ≡ true → Stands s (curve_start s n) (held_tokens ts) (curve_start s n + length (held_tokens ts))
  pub none : is_there ts ≡ false → curve_start s n ≡ 0

-- so of some curves, from curve n on
abbrev pub CurvesHeld : List ℕ → List (List ℕ) → ℕ → Type 0
CurvesHeld s [] n = Unit {0}
CurvesHeld s (ts ∷ cs) n = CurveHeld s n ts × CurvesHeld s cs (n + 1)

-- curves that are laid are held, where no other place of the table from the first of their starts on is set
laid-held : (s : List ℕ) (cs : List (List ℕ)) (n : ℕ) → curve_place n + length cs ≤ first_place → Laid s (curve_slots cs n) → Begun s (curve_slots cs n) →
    ((i : ℕ) → curve_place n ≤ i → i < first_place → Free i (curve_slots cs n) → get_or s i 0 ≡ 0) → CurvesHeld s cs n
unfolding curve_slots
laid-held s [] n m l b z = tt
laid-held s (ts ∷ cs) n m l b z =
    decide _ (is_there ts)
    (λ t.
    let l' : Laid s (record { slot = curve_place n; tokens = ts } ∷ curve_slots cs (n + 1)) = rw (t, curve_slots) at l in
    let b' : Begun s (record { slot = curve_place n; tokens = ts } ∷ curve_slots cs (n + 1)) = rw (t, curve_slots) at b in
    let first = b'.0 in (
      record { begins = λ _. omega arith; stands = λ _. l'.0; none = λ f. contrary t f },
      laid-held s cs (n + 1) (omega arith) l'.1 b'.1 (λ i o p f. z i (omega arith) p (rw (t, curve_slots) (λ e. omega arith, f))),
    ))
    (λ t. (
      record { begins = λ u. contrary u t; stands = λ u. contrary u t; none = λ _. z (curve_place n) (omega arith) (omega arith) (rw (t, curve_slots) (curves-free cs (n + 1) (curve_place n) (omega arith))) },
      laid-held s cs (n + 1) (omega arith) (rw (t, curve_slots) at l) (rw (t, curve_slots) at b) (λ i o p f. z i (omega arith) p (rw (t, curve_slots) f)),
    ))

-- ---- the set of some curves and lines

begun-length : (n : ℕ) → length (with_count empty_set count_place n) ≡ set_size
begun-length n = length-set empty_set count_place n ∙ empty-length

pub set-length : (cs : List (List ℕ)) (rs : List Row) → length (set_of cs rs) ≡ set_size
unfolding set_of
set-length cs rs = placed-length (curve_slots cs 1 ++ ranked rs 0) first_place (with_count empty_set count_place (length rs)) ∙ begun-length (length rs)

-- it has the count of the lines
pub set-count : (cs : List (List ℕ)) (rs : List Row) → line_count (set_of cs rs) ≡ length rs
unfolding set_of
set-count cs rs =
    let e = empty-length in
    placed-keeps (curve_slots cs 1 ++ ranked rs 0) first_place (with_count empty_set count_place (length rs)) count_place (omega arith)
    (free-append count_place (curve_slots cs 1) (ranked rs 0) (curves-free cs 1 count_place (omega arith)) (ranked-free rs 0 count_place (omega arith)))
    ∙ get_or-set_same empty_set count_place (length rs) 0 (omega arith)

module _ (cs : List (List ℕ)) (rs : List Row) (curves : length cs ≤ max_curves) (few : length rs ≤ max_lines) where
  slots_apart : SlotsApart (curve_slots cs 1 ++ ranked rs 0)
  slots_apart = apart-append (curve_slots cs 1) (ranked rs 0) (curves-apart cs 1 (omega arith)) (ranked-apart rs 0 (omega arith)) (curves-ranked cs 1 rs (omega arith) few)

  -- each curve and line begins behind the table,
  all-begun : Begun (set_of cs rs) (curve_slots cs 1 ++ ranked rs 0)
  unfolding set_of
  all-begun = let e = begun-length (length rs) in placed-begun (curve_slots cs 1 ++ ranked rs 0) first_place (with_count empty_set count_place (length rs)) slots_apart (omega arith) (omega arith)

  -- no other place of the table is set,
  others-zero : (i : ℕ) → curve_place 1 ≤ i → i < first_place → Free i (curve_slots cs 1) → get_or (set_of cs rs) i 0 ≡ 0
  unfolding set_of empty_set
  others-zero i l m f =
      placed-keeps (curve_slots cs 1 ++ ranked rs 0) first_place (with_count empty_set count_place (length rs)) i m
      (free-append i (curve_slots cs 1) (ranked rs 0) f (ranked-free-behind rs 0 i (omega arith)))
      ∙ get_or-set_other empty_set count_place i (length rs) 0 (λ e. omega arith)
      ∙ get_or-replicate set_size i 0 0 (omega arith)

  -- and each stands where its slot says, if there is room for their tokens
  module _ (room : curves_total cs + total rs ≤ text_size + 1) where
    all_laid : Laid (set_of cs rs) (curve_slots cs 1 ++ ranked rs 0)
    unfolding set_of
    all_laid =
        let e = begun-length (length rs) in
        let t = ranked-spread rs 0 in
        let u = curves-spread cs 1 in
        let v = spread-append (curve_slots cs 1) (ranked rs 0) in
        placed-laid (curve_slots cs 1 ++ ranked rs 0) first_place (with_count empty_set count_place (length rs)) slots_apart (omega arith) (omega arith)

    -- IT HAS EACH LINE, by its rank,
    pub set-laid : Laid (set_of cs rs) (ranked rs 0)
    set-laid = laid-behind (set_of cs rs) (curve_slots cs 1) (ranked rs 0) all_laid

    -- AND EACH CURVE, by its number
    pub set-curves : CurvesHeld (set_of cs rs) cs 1
    set-curves =
        laid-held (set_of cs rs) cs 1 (omega arith) (laid-first (set_of cs rs) (curve_slots cs 1) (ranked rs 0) all_laid) (begun_first (set_of cs rs) (curve_slots cs 1) (ranked rs 0) all-begun) others-zero
