-- The room of a text: the curves and lines that are taken from it, one place more for the end of each, fit one place more than its bytes. Assumes nothing.
use Rattle.std.specs.Prelude.{◌≡◌, List, [], ◌∷◌, ◌++◌, map, ℕ, zero, suc, ◌+◌, ◌-◌, ◌≤◌, length, set}
use Rattle.std.proofs.Common.{arith, length-append}
use Rattle.tokens.specs.Token.{text_size}
use Rattle.values.specs.Choice.{decide}
use Rattle.text.specs.Tokens.{tokens_of}
use Rattle.text.specs.TokensLaws.{tokens-within}
use Rattle.text.specs.Lines.{Numbered, text_lines, bodies, is_blank, numbered, token_lines}
use Rattle.text.specs.LinesLaws.{room, lines-room}
use Rattle.reader.specs.Row.{Row, Kept, nothing, is_there, curve_count, total, curves_total}
use Rattle.reader.specs.Load.{curve_number_in, taken, row_of, rows_from}
use Rattle.reader.specs.KeptLaws.{taken-so}

-- the places that the tokens of some lines take, one for the end of each
unfoldable pub room_of : List Numbered → ℕ
room_of [] = 0
room_of (l ∷ ls) = length (tokens_of l.body).list + 1 + room_of ls

-- the bodies of some lines with tokens
abbrev pub bodies_of : List Numbered → List (List ℕ)
bodies_of ls = map (λ (l : Numbered). l.body) ls

numbered-room : (bs : List (List ℕ)) (k : ℕ) → room (bodies_of (numbered k bs)) ≤ room bs
unfolding numbered
numbered-room [] k = omega arith
numbered-room (b ∷ bs) k =
    let i = numbered-room bs (suc k) in
    decide _ (is_blank b) (λ t. rw (t, numbered) (omega arith)) (λ t. rw (t, numbered) (omega arith))

-- they take one byte more than the text at most, with one more each
pub bodies-room : (t : List ℕ) → room (bodies_of (token_lines t)) ≤ length t + 1
unfolding token_lines
bodies-room t = let n = numbered-room (bodies (text_lines t)) 1 in let l = lines-room t in omega arith

tokens-room : (ls : List Numbered) → room_of ls ≤ room (bodies_of ls)
unfolding room_of
tokens-room [] = omega arith
tokens-room (l ∷ ls) = let i = tokens-room ls in let w = tokens-within l.body in omega arith

-- so do the tokens of a text, one place more for the end of each line
pub text-room : (t : List ℕ) → room_of (token_lines t) ≤ length t + 1
text-room t = let n = tokens-room (token_lines t) in let l = bodies-room t in omega arith

pub total-last : (rs : List Row) (r : Row) → total (rs ++ (r ∷ [])) ≡ total rs + length r.tokens + 1
unfolding total
total-last [] r = omega arith
total-last (q ∷ rs) r = let i = total-last rs r in omega arith

-- one curve more
count_set : (cs : List (List ℕ)) (j : ℕ) (ts : List ℕ) → curve_count (set cs j ts) ≤ curve_count cs + 1
unfolding curve_count
count_set [] j ts = omega arith
count_set (c ∷ cs) zero ts = decide _ (is_there ts) (λ t. decide _ (is_there c) (λ u. rw (t, u, curve_count) (omega arith)) (λ u. rw (t, u, curve_count) (omega arith))) (λ t. decide _ (is_there c) (λ u. rw (t, u, curve_count) (omega arith)) (λ u. rw (t, u, curve_count) (omega arith)))
count_set (c ∷ cs) (suc j) ts = let i = count_set cs j ts in decide _ (is_there c) (λ u. rw (u, curve_count) (omega arith)) (λ u. rw (u, curve_count) (omega arith))

total-set : (cs : List (List ℕ)) (j : ℕ) (ts : List ℕ) → curves_total (set cs j ts) ≤ curves_total cs + length ts + 1
unfolding curves_total
total-set [] j ts = omega arith
total-set (c ∷ cs) zero ts = decide _ (is_there ts) (λ t. decide _ (is_there c) (λ u. rw (t, u, curves_total) (omega arith)) (λ u. rw (t, u, curves_total) (omega arith))) (λ t. decide _ (is_there c) (λ u. rw (t, u, curves_total) (omega arith)) (λ u. rw (t, u, curves_total) (omega arith)))
total-set (c ∷ cs) (suc j) ts = let i = total-set cs j ts in decide _ (is_there c) (λ u. rw (u, curves_total) (omega arith)) (λ u. rw (u, curves_total) (omega arith))

-- curves and lines that are taken are no more than the lines of the text
pub taken-count : (ls : List Numbered) (q : Kept) → rows_from nothing ls ≡ taken q → curve_count q.curves + length q.rows ≤ length ls
unfolding curve_count
taken-count ls q h =
    let e = taken-so (λ k ms. curve_count k.curves + length k.rows + length ms ≤ length ls)
    (λ k l ms p c. let n = count_set k.curves (curve_number_in (tokens_of l.body).list - 1) (tokens_of l.body).list in omega arith)
    (λ k l ms p c. let n = length-append k.rows (row_of l ∷ []) in omega arith)
    ls nothing q (omega arith) h in
    omega arith

-- and take no more room
pub rows-room : (ls : List Numbered) (q : Kept) → rows_from nothing ls ≡ taken q → curves_total q.curves + total q.rows ≤ room_of ls
unfolding room_of curves_total total
rows-room ls q h =
    let e = taken-so (λ k ms. curves_total k.curves + total k.rows + room_of ms ≤ room_of ls)
    (λ k l ms p c. let n = total-set k.curves (curve_number_in (tokens_of l.body).list - 1) (tokens_of l.body).list in omega arith)
    (λ k l ms p c. let n = total-last k.rows (row_of l) in omega arith)
    ls nothing q (omega arith) h in
    omega arith

-- THE ROOM OF A TEXT
pub taken-room : (t : List ℕ) (q : Kept) → length t ≤ text_size → rows_from nothing (token_lines t) ≡ taken q → curves_total q.curves + total q.rows ≤ text_size + 1
taken-room t q l h = let r = rows-room (token_lines t) q h in let w = text-room t in omega arith
