-- Laws of a text that is taken: its lines with tokens are the curves and behind them the rows, each without a fault, and the rows name only what the text has. Nothing is assumed.
use Rattle.std.specs.Prelude.{◌≡◌, refl, Bool, true, false, List, [], ◌∷◌, ◌++◌, map, ℕ, zero, suc, ◌-◌, ◌≤◌, ◌<◌, eqb, ltb, length, get_or, set}
use Rattle.std.proofs.Common.{sym, ap, ◌∙◌, append_assoc, append-nil, arith, length-append, ltb-false, eqb-true, eq-eqb}
use Rattle.values.specs.Codes.{not_in_set}
use Rattle.values.specs.Choice.{both, decide, choice, contrary, and-true}
use Rattle.values.specs.Numbers.{clash}
use Rattle.tokens.specs.Token.{max_lines, text_size}
use Rattle.text.specs.Tokens.{tokens_of}
use Rattle.text.specs.Lines.{Numbered, text_lines, bodies, is_blank, numbered, token_lines}
use Rattle.reader.specs.Row.{Row, Kept, nothing, is_there, no_row}
use Rattle.reader.specs.Load.{fault_of, number_in, curve_number_in, is_named, Outcome, taken, refused, row_of, with_row, with_curve, kept_with, rows_from, first_not, first_unknown, kept_table, named, outcome}
use Rattle.reader.specs.KeptLaws.{next_row, by_kind, taken-so}
use Rattle.loading.specs.TextTrees.{begins_curve, curve_lines, row_lines}

-- ---- what holds of each row

abbrev pub All : (Row → Type 0) → List Row → Type 0
All P [] = Unit {0}
All P (r ∷ rs) = P r × All P rs

pub all-at : (P : Row → Type 0) (rs : List Row) (j : ℕ) → All P rs → j < length rs → P (get_or rs j no_row)
all-at P [] j h l = absurd (omega arith)
all-at P (r ∷ rs) zero h l = h.0
all-at P (r ∷ rs) (suc j) h l = all-at P rs j h.1 (omega arith)

all-last : (P : Row → Type 0) (rs : List Row) (r : Row) → All P rs → P r → All P (rs ++ (r ∷ []))
all-last P [] r h g = (g, tt)
all-last P (q ∷ rs) r h g = (h.0, all-last P rs r h.1 g)

-- ---- the text

-- what a text that is taken has passed
pub record Taking (t : List ℕ) (q : Kept) : Type 0 where
  pub short : length t ≤ text_size
  pub few : length (token_lines t) ≤ max_lines
  pub rows : rows_from nothing (token_lines t) ≡ taken q
  pub known : first_unknown (kept_table q) q.rows ≡ 0

named-taken : (o : Outcome) (q : Kept) → named o ≡ taken q → (o ≡ taken q) × (first_unknown (kept_table q) q.rows ≡ 0)
unfolding named
named-taken (taken p) q h = go (first_unknown (kept_table p) p.rows) refl
  where
    go : (k : ℕ) → first_unknown (kept_table p) p.rows ≡ k → (taken p ≡ taken q) × (first_unknown (kept_table q) q.rows ≡ 0)
    go zero e = let f : taken p ≡ taken q = rw (e, named) at h in let g : p ≡ q = cc in (f, rw (← g) e)
    go (suc k) e = let f : refused not_in_set (suc k) ≡ taken q = rw (e, named) at h in clash (cc)
named-taken (refused c k) q h = clash (cc)

pub taking : (t : List ℕ) (q : Kept) → outcome t ≡ taken q → Taking t q
unfolding outcome
taking t q h =
    choice _ (ltb text_size (length t)) _ _ (taken q) h (λ _ e. clash (cc)) λ a f.
    choice _ (ltb max_lines (length (token_lines t))) _ _ (taken q) f (λ _ e. clash (cc)) λ b g.
    let (r, k) = named-taken (rows_from nothing (token_lines t)) q g in
    record { short = ltb-false text_size (length t) a; few = ltb-false max_lines (length (token_lines t)) b; rows = r; known = k }

-- ---- the lines with tokens, in their order

-- the tokens of some lines, each set at the place of the curve that they define
unfoldable pub curves_added : List (List ℕ) → List Numbered → List (List ℕ)
curves_added cs [] = cs
curves_added cs (l ∷ ls) = curves_added (set cs (curve_number_in (tokens_of l.body).list - 1) (tokens_of l.body).list) ls

-- those that are there, by number
unfoldable pub there_of : List (List ℕ) → List (List ℕ)
there_of [] = []
there_of (ts ∷ cs) = elim (is_there ts) [ true ↦ ts ∷ there_of cs | false ↦ there_of cs ]

-- below a numbered line they are rows
rows_behind_lem : (ls : List Numbered) (k q : Kept) → 1 ≤ length k.rows → rows_from k ls ≡ taken q → (q.rows ≡ k.rows ++ map row_of ls) × (q.curves ≡ k.curves)
unfolding rows_from
rows_behind_lem [] k q n h = let e : k ≡ q = cc in (ap (λ (x : Kept). x.rows) (sym e) ∙ sym (append-nil k.rows), ap (λ (x : Kept). x.curves) (sym e))
rows_behind_lem (l ∷ ls) k q n h =
    next_row _ k l ls (taken q) h
    (λ f g. by_kind k (λ x. rows_from x ls ≡ taken q → (q.rows ≡ k.rows ++ map row_of (l ∷ ls)) × (q.curves ≡ k.curves)) l f
    (λ c e. let z = eqb-true (length k.rows) 0 (both (eqb (length k.rows) 0) _ c.defining).0 in absurd (omega arith))
    (λ c e.
    let m = length-append k.rows (row_of l ∷ []) in
    let (a, b) = rows_behind_lem ls (with_row k (row_of l)) q (omega arith) e in
    (a ∙ append_assoc k.rows (row_of l ∷ []) (map row_of ls), b)) g)
    (λ j f g. clash (cc))

-- what is kept with some lines, below no numbered one
abbrev Keeps : Kept → List Numbered → Kept → Type 0
Keeps k ls q = (q.rows ≡ map row_of (row_lines ls)) × (q.curves ≡ curves_added k.curves (curve_lines ls))

pub text-kept : (ls : List Numbered) (k q : Kept) → k.rows ≡ [] → rows_from k ls ≡ taken q → Keeps k ls q
unfolding rows_from curve_lines row_lines curves_added
text-kept [] k q n h = let e : k ≡ q = cc in (ap (λ (x : Kept). x.rows) (sym e) ∙ n, ap (λ (x : Kept). x.curves) (sym e))
text-kept (l ∷ ls) k q n h =
    next_row _ k l ls (taken q) h
    (λ f g. by_kind k (λ x. rows_from x ls ≡ taken q → Keeps k (l ∷ ls) q) l f
    (λ c e.
    let b = (both (eqb (length k.rows) 0) (begins_curve l) c.defining).1 in
    rw (curve_lines, row_lines, b) (text-kept ls (with_curve k (tokens_of l.body).list) q n e))
    (λ c e.
    let b : begins_curve l ≡ false = decide _ (begins_curve l) (λ t. contrary (and-true (eq-eqb (length k.rows) 0 (ap length n)) t) c.other) (λ t. t) in
    let m = length-append k.rows (row_of l ∷ []) in
    let (x, y) = rows_behind_lem ls (with_row k (row_of l)) q (omega arith) e in
    rw (curve_lines, row_lines, b) (x ∙ ap (λ (r : List Row). (r ++ (row_of l ∷ [])) ++ map row_of ls) n, y)) g)
    (λ j f g. clash (cc))

-- what is kept of a text that is taken
abbrev pub kept_of : List ℕ → Kept
kept_of t = record { curves = curves_added nothing.curves (curve_lines (token_lines t)); rows = map row_of (row_lines (token_lines t)) }

pub taken-kept : (t : List ℕ) (q : Kept) → rows_from nothing (token_lines t) ≡ taken q → q ≡ kept_of t
taken-kept t q h = let (a, b) = text-kept (token_lines t) nothing q refl h in λ i. record { curves = b i; rows = a i }

-- THE ROWS THAT ARE TAKEN are the lines with tokens of the text behind those that begin with FCTDEF,
pub taken-rows : (t : List ℕ) (q : Kept) → outcome t ≡ taken q → q.rows ≡ map row_of (row_lines (token_lines t))
taken-rows t q h = (text-kept (token_lines t) nothing q refl (taking t q h).rows).0

-- and these are the curves, each in the place of its number
pub taken-defined : (t : List ℕ) (q : Kept) → outcome t ≡ taken q → q.curves ≡ curves_added nothing.curves (curve_lines (token_lines t))
taken-defined t q h = (text-kept (token_lines t) nothing q refl (taking t q h).rows).1

-- each of some lines consists of tokens alone
abbrev pub AllTokens : List Numbered → Type 0
AllTokens [] = Unit {0}
AllTokens (l ∷ ls) = ((tokens_of l.body).good ≡ true) × AllTokens ls

rows-tokens : (ls : List Numbered) (k q : Kept) → rows_from k ls ≡ taken q → AllTokens ls
unfolding rows_from
rows-tokens [] k q h = tt
rows-tokens (l ∷ ls) k q h =
    next_row _ k l ls (taken q) h
    (λ f g. (by_kind k (λ _. (tokens_of l.body).good ≡ true) l f (λ c. c.good) (λ c. c.good), rows-tokens ls (kept_with k l) q g))
    (λ j f g. clash (cc))

-- and they consist of tokens alone
pub taken-tokens : (t : List ℕ) (q : Kept) → outcome t ≡ taken q → AllTokens (token_lines t)
taken-tokens t q h = rows-tokens (token_lines t) nothing q (taking t q h).rows

-- ---- each row

-- a row without a fault of 3 to 10 or 14
pub record Fine (r : Row) : Type 0 where
  pub place : 1 ≤ r.place
  pub clean : fault_of r.tokens ≡ 0
  pub number : r.number ≡ number_in r.tokens

-- lines are numbered from 1
abbrev pub Placed : List Numbered → Type 0
Placed [] = Unit {0}
Placed (l ∷ ls) = (1 ≤ l.place) × Placed ls

numbered-placed : (bs : List (List ℕ)) (k : ℕ) → 1 ≤ k → Placed (numbered k bs)
unfolding numbered
numbered-placed [] k h = tt
numbered-placed (b ∷ bs) k h =
    let i = numbered-placed bs (suc k) (omega arith) in
    decide _ (is_blank b) (λ t. rw (t, numbered) i) (λ t. rw (t, numbered) (h, i))

pub text-placed : (t : List ℕ) → Placed (token_lines t)
unfolding token_lines
text-placed t = numbered-placed (bodies (text_lines t)) 1 (omega arith)

pub rows-placed : (ls : List Numbered) → Placed ls → Placed (row_lines ls)
unfolding row_lines
rows-placed [] h = tt
rows-placed (l ∷ ls) h = decide _ (begins_curve l) (λ t. rw (row_lines, t) (rows-placed ls h.1)) (λ t. rw (row_lines, t) h)

pub text-fine : (t : List ℕ) (q : Kept) → rows_from nothing (token_lines t) ≡ taken q → All Fine q.rows
text-fine t q h =
    (taken-so (λ k ms. All Fine k.rows × Placed ms)
    (λ k l ms p c. (p.0, p.1.1))
    (λ k l ms p c. (all-last Fine k.rows (row_of l) p.0 (record { place = p.1.0; clean = c.clean; number = refl }), p.1.1))
    (token_lines t) nothing q (tt, text-placed t) h
    ).0

pub taken_fine : (t : List ℕ) (q : Kept) → outcome t ≡ taken q → All Fine q.rows
taken_fine t q h = text-fine t q (taking t q h).rows

-- ---- 12

-- a row names only what is known
abbrev pub Named : (ℕ → ℕ → Bool) → Row → Type 0
Named known r = is_named known r ≡ true

first-named : (known : ℕ → ℕ → Bool) (rs : List Row) → All Fine rs → first_unknown known rs ≡ 0 → All (Named known) rs
unfolding first_not
first-named known [] f h = tt
first-named known (r ∷ rs) f h =
    choice _ (is_named known r) (first_unknown known rs) r.place 0 h
    (λ t e. (t, first-named known rs f.1 e))
    (λ _ e. let p = f.0.place in absurd (omega arith))

pub taken-named : (t : List ℕ) (q : Kept) → outcome t ≡ taken q → All (Named (kept_table q)) q.rows
taken-named t q h = first-named (kept_table q) q.rows (taken_fine t q h) (taking t q h).known
