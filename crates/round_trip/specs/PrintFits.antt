-- A SET THAT CAME FROM TEXT PRINTS IN AT MOST 4,096 BYTES (document 02, Req 01): each curve and line takes no more bytes than the text had for it. Theorem; nothing is assumed.
use Rattle.std.specs.Prelude.{◌≡◌, refl, List, [], ◌∷◌, ◌++◌, map, ℕ, zero, suc, ◌+◌, ◌-◌, ◌≤◌, length, set}
use Rattle.std.proofs.Common.{ap, subst, ◌∙◌, arith, length-append}
use Rattle.std.proofs.lemmas.List.{map-append}
use Rattle.values.specs.Choice.{decide}
use Rattle.tokens.specs.Token.{text_size}
use Rattle.grammar.specs.TreeOfLaws.{written-front}
use Rattle.engine.specs.Set.{without_mark}
use Rattle.text.specs.Tokens.{tokens_of}
use Rattle.text.specs.Lines.{Numbered, token_lines}
use Rattle.text.specs.LinesLaws.{room}
use Rattle.reader.specs.Row.{Row, Kept, nothing, is_there, by_number}
use Rattle.reader.specs.Load.{fault_of, curve_fault_of, curve_number_in, taken, row_of, rows_from, outcome, load_set}
use Rattle.reader.specs.KeptLaws.{taken-so}
use Rattle.reader.specs.RisingLaws.{sum_of}
use Rattle.reader.specs.RoomLaws.{bodies_of, bodies-room}
use Rattle.loading.specs.LoadAnswers.{refused-empty, by-outcome}
use Rattle.loading.specs.StoredLineLaws.{written, written-curve}
use Rattle.loading.specs.TakenLaws.{there_of, taking}
use Rattle.loading.specs.ByNumberLaws.{by-sum}
use Rattle.loading.specs.LoadedLaws.{rows_apart}
use Rattle.print.specs.TokenText.{line_text}
use Rattle.print.specs.PrintText.{behind_text, rows_text, print_text}
use Rattle.print.specs.LineBack.{Printables}
use Rattle.print.specs.LineShorter.{line-shorter}
use Rattle.round_trip.specs.LinePrints.{line-prints, definition-prints}
use Rattle.round_trip.specs.MarkLaws.{line-unmarked}
use Rattle.round_trip.specs.LoadedRowsLaws.{held_row, loaded-rows, empty-print}

-- ---- the bytes of a print

behind-length : (rs : List (List ℕ)) → length (behind_text rs) ≡ room (map line_text rs)
unfolding behind_text
behind-length [] = refl
behind-length (r ∷ rs) = let n = length-append (line_text r) (behind_text rs) in let i = behind-length rs in omega arith

-- one less than its lines with an LF to each
rows-length : (rs : List (List ℕ)) (n : ℕ) → room (map line_text rs) ≤ n + 1 → length (rows_text rs) ≤ n
unfolding rows_text
rows-length [] n h = omega arith
rows-length (r ∷ rs) n h = let m = length-append (line_text r) (behind_text rs) in let b = behind-length rs in omega arith

room-append : (xs ys : List (List ℕ)) → room (xs ++ ys) ≡ room xs + room ys
room-append [] ys = omega arith
room-append (x ∷ xs) ys = let i = room-append xs ys in omega arith

-- the bytes that a line of the text takes in a print, with an LF,
abbrev printed : Row → ℕ
printed r = length (line_text r.tokens) + 1

held-room : (rs : List Row) → room (map line_text (map held_row rs)) ≡ sum_of printed rs
unfolding sum_of
held-room [] = refl
held-room (r ∷ rs) = rw (line-unmarked r.tokens, held-room rs)

-- and those that some curves take
abbrev curves_room : List (List ℕ) → ℕ
curves_room cs = room (map line_text (there_of cs))

rows-room : (rs : List (List ℕ)) → room (map line_text (map (map without_mark) rs)) ≡ room (map line_text rs)
rows-room [] = refl
rows-room (r ∷ rs) = rw (line-unmarked r, rows-room rs)

-- ---- the bytes of the text

-- the tokens of a line without a fault can be written,
line-written : (ts : List ℕ) → fault_of ts ≡ 0 → Printables ts
line-written ts e = let w = written ts e in subst Printables (written-front w.tree ts w.tokens) (line-prints w.tree w.faultless)

-- and those of such a curve
curve-written : (ts : List ℕ) → curve_fault_of ts ≡ 0 → Printables ts
curve-written ts e = let w = written-curve ts e in subst Printables w.tokens (definition-prints w.tree w.faultless)

-- one line more, and one curve more
sum-last : (f : Row → ℕ) (rs : List Row) (r : Row) → sum_of f (rs ++ (r ∷ [])) ≡ sum_of f rs + f r
unfolding sum_of
sum-last f [] r = omega arith
sum-last f (q ∷ rs) r = let i = sum-last f rs r in omega arith

room-set : (cs : List (List ℕ)) (j : ℕ) (ts : List ℕ) → curves_room (set cs j ts) ≤ curves_room cs + (length (line_text ts) + 1)
unfolding there_of
room-set [] j ts = omega arith
room-set (c ∷ cs) zero ts =
    decide _ (is_there ts)
    (λ t. decide _ (is_there c) (λ u. rw (t, u, there_of) (omega arith)) (λ u. rw (t, u, there_of) (omega arith)))
    (λ t. decide _ (is_there c) (λ u. rw (t, u, there_of) (omega arith)) (λ u. rw (t, u, there_of) (omega arith)))
room-set (c ∷ cs) (suc j) ts = let i = room-set cs j ts in decide _ (is_there c) (λ u. rw (u, there_of) (omega arith)) (λ u. rw (u, there_of) (omega arith))

-- what is taken of some lines takes no more bytes in a print than they did
printed-room : (ls : List Numbered) (q : Kept) → rows_from nothing ls ≡ taken q → curves_room q.curves + sum_of printed q.rows ≤ room (bodies_of ls)
unfolding sum_of there_of
printed-room ls q h =
    let e = taken-so (λ k ms. curves_room k.curves + sum_of printed k.rows + room (bodies_of ms) ≤ room (bodies_of ls))
    (λ k l ms p c.
    let ts = (tokens_of l.body).list in
    let n = room-set k.curves (curve_number_in ts - 1) ts in
    let s = line-shorter l.body c.good (curve-written ts c.clean) in
    omega arith)
    (λ k l ms p c.
    let ts = (tokens_of l.body).list in
    let n = sum-last printed k.rows (row_of l) in
    let s = line-shorter l.body c.good (line-written ts c.clean) in
    omega arith)
    ls nothing q (omega arith) h in
    omega arith

-- ---- the theorem

taken-fits : (t : List ℕ) (q : Kept) → outcome t ≡ taken q → length (print_text (load_set t)) ≤ text_size
unfolding print_text
taken-fits t q h =
    let (apart, few) = rows_apart t q h in
    let k = taking t q h in
    let rs = by_number q.rows in
    let cs = map (map without_mark) (there_of q.curves) in
    let a = printed-room (token_lines t) q k.rows in
    let b = bodies-room t in
    let c = rows-room (there_of q.curves) in
    let d = by-sum q.rows few apart printed in
    let g = held-room rs in
    let s = k.short in
    let e = ap room (map-append line_text cs (map held_row rs)) ∙ room-append (map line_text cs) (map line_text (map held_row rs)) in
    rw (loaded-rows t q h) (rows-length (cs ++ map held_row rs) text_size (omega arith))

-- WHATEVER THE TEXT, the set that it gives prints in at most 4,096 bytes
pub print-fits : (t : List ℕ) → length (print_text (load_set t)) ≤ text_size
print-fits t =
    by-outcome _ t
    (λ q h. taken-fits t q h)
    (λ c k h. rw (refused-empty t c k h, empty-print) (omega arith))
