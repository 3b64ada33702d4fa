-- Laws of the lines of a print: it holds no LF but between its lines, no CR and no comment, and no line is blank; so its lines with tokens are its rows, numbered from 1, and are read back. Nothing is assumed.
use Rattle.std.specs.Prelude.{◌≡◌, refl, Bool, true, false, not, ◌&&◌, List, [], ◌∷◌, ◌++◌, map, ℕ, suc, ◌<◌, eqb, length}
use Rattle.std.proofs.Common.{sym, ap, ◌∙◌, append-nil, arith, take_all, ne_eqb}
use Rattle.std.proofs.lemmas.List.{length-map}
use Rattle.std.proofs.lemmas.Bool.{not-true}
use Rattle.values.specs.Choice.{decide, both, refused}
use Rattle.text.specs.Byte.{LF, CR, COMMENT, is_digit, is_space, in_line, in_body, run}
use Rattle.text.specs.ByteLaws.{run_on}
use Rattle.text.specs.Lines.{text_lines, split, without_return, without_comment, bodies, is_blank, Numbered, numbered, token_lines}
use Rattle.text.specs.LinesLaws.{line-end, line_on}
use Rattle.text.specs.Tokens.{Tokens, tokens_of}
use Rattle.text.specs.TokensLaws.{tokens_none, tokens-space}
use Rattle.grammar.specs.Tree.{Line, line, Definition, definition_front}
use Rattle.grammar.specs.ClosedTokens.{front}
use Rattle.print.specs.TokenText.{line_text}
use Rattle.print.specs.PrintText.{behind_text, rows_text}
use Rattle.print.specs.ReadBack.{read_back}
use Rattle.print.specs.DecimalLaws.{All, digit-bounds}
use Rattle.print.specs.TokenBytesLaws.{line-bytes}
use Rattle.print.specs.LineBack.{Printables, line-back}
use Rattle.round_trip.specs.LinePrints.{line-prints, definition-prints}
use Rattle.round_trip.specs.SetTreesLaws.{GoodTree, GoodTrees, GoodDefinition, GoodDefinitions}

-- ---- the bytes of a line

-- no LF, no CR and no beginning of a comment
is_kept : ℕ → Bool
is_kept b = in_line b && (in_body b && not (eqb b CR))

digit-kept : (b : ℕ) → is_digit b ≡ true → is_kept b ≡ true
unfolding is_kept
digit-kept b h = let (l, u) = digit-bounds b h in rw (ne_eqb b LF (λ e. omega arith), ne_eqb b COMMENT (λ e. omega arith), ne_eqb b CR (λ e. omega arith))

kept : (ts : List ℕ) → All is_kept (line_text ts)
unfolding is_kept
kept ts = line-bytes is_kept (record { digit = digit-kept; point = refl; names = refl }) refl ts

record Kept (b : ℕ) : Type 0 where
  line : eqb b LF ≡ false
  body : in_body b ≡ true
  return : eqb b CR ≡ false

kept-is : (b : ℕ) → is_kept b ≡ true → Kept b
unfolding is_kept
kept-is b h =
    let (x, y) = both (in_line b) _ h in
    let (z, w) = both (in_body b) _ y in
    record { line = not-true (eqb b LF) x; body = z; return = not-true (eqb b CR) w }

-- ---- its lines

lines_join : (x y : List ℕ) → All is_kept x → text_lines (x ++ (LF ∷ y)) ≡ x ∷ text_lines y
lines_join [] y h = line-end LF y refl
lines_join (b ∷ x) y h = line_on b (x ++ (LF ∷ y)) (kept-is b h.0).line ∙ rw (lines_join x y h.1)

lines-one : (x : List ℕ) → All is_kept x → text_lines x ≡ x ∷ []
unfolding split
lines-one [] h = refl
lines-one (b ∷ x) h = line_on b x (kept-is b h.0).line ∙ rw (lines-one x h.1)

rows-lines : (r : List ℕ) (rs : List (List ℕ)) → text_lines (line_text r ++ behind_text rs) ≡ map line_text (r ∷ rs)
unfolding behind_text
rows-lines r [] = rw (append-nil (line_text r)) (lines-one (line_text r) (kept r))
rows-lines r (q ∷ rs) = lines_join (line_text r) (line_text q ++ behind_text rs) (kept r) ∙ rw (rows-lines q rs)

-- ---- and their bodies

return-none : (x : List ℕ) → All is_kept x → without_return x ≡ x
unfolding without_return
return-none [] h = refl
return-none (b ∷ []) h = refused _ _ _ (kept-is b h.0).return
return-none (b ∷ c ∷ x) h = rw (return-none (c ∷ x) h.1)

body_run : (x : List ℕ) → All is_kept x → run in_body x ≡ length x
unfolding run
body_run [] h = refl
body_run (b ∷ x) h = run_on in_body b x (kept-is b h.0).body ∙ ap suc (body_run x h.1)

comment-none : (x : List ℕ) → All is_kept x → without_comment x ≡ x
unfolding without_comment
comment-none x h = let e = body_run x h in take_all (run in_body x) x (omega arith)

rows-bodies : (rs : List (List ℕ)) → bodies (map line_text rs) ≡ map line_text rs
unfolding bodies
rows-bodies [] = refl
rows-bodies (r ∷ []) = rw (comment-none (line_text r) (kept r))
rows-bodies (r ∷ q ∷ rs) = rw (return-none (line_text r) (kept r), comment-none (line_text r) (kept r), rows-bodies (q ∷ rs))

-- ---- with tokens

-- what is blank has no tokens
blank_none : (x : List ℕ) → is_blank x ≡ true → (tokens_of x).list ≡ []
unfolding is_blank
blank_none [] h = ap (λ (t : Tokens). t.list) tokens_none
blank_none (b ∷ x) h = let (s, r) = both (is_space b) (is_blank x) h in ap (λ (t : Tokens). t.list) (tokens-space b x s) ∙ blank_none x r

-- ---- rows that can be read back

-- it has a token, and each of its tokens can be written
pub record Readable (r : List ℕ) : Type 0 where
  pub some : 0 < length r
  pub prints : Printables r

abbrev pub AllReadable : List (List ℕ) → Type 0
AllReadable [] = Unit {0}
AllReadable (r ∷ rs) = Readable r × AllReadable rs

-- THE TOKENS OF A ROW THAT IS PRINTED are read back
pub row_read : (r : List ℕ) → Readable r → tokens_of (line_text r) ≡ record { list = map read_back r; good = true }
row_read r h = line-back r h.prints

not-blank : (r : List ℕ) → Readable r → is_blank (line_text r) ≡ false
not-blank r h =
    decide _ (is_blank (line_text r))
    (λ b.
    let e = ap length (sym (ap (λ (t : Tokens). t.list) (row_read r h)) ∙ blank_none (line_text r) b) in
    let n = length-map r read_back in
    let l = h.some in
    absurd (omega arith))
    (λ b. b)

-- rows as a print has them, numbered from k on
abbrev pub printed_lines : ℕ → List (List ℕ) → List Numbered
printed_lines k [] = []
printed_lines k (r ∷ rs) = record { place = k; body = line_text r } ∷ printed_lines (suc k) rs

rows-numbered : (rs : List (List ℕ)) (k : ℕ) → AllReadable rs → numbered k (map line_text rs) ≡ printed_lines k rs
unfolding numbered
rows-numbered [] k g = refl
rows-numbered (r ∷ rs) k g = refused _ _ _ (not-blank r g.0) ∙ rw (rows-numbered rs (suc k) g.1)

-- THE LINES WITH TOKENS OF A PRINT are its rows, numbered from 1
pub print-lines : (rs : List (List ℕ)) → AllReadable rs → token_lines (rows_text rs) ≡ printed_lines 1 rs
unfolding token_lines rows_text numbered bodies split without_comment is_blank run
print-lines [] g = refl
print-lines (r ∷ rs) g = rw (rows-lines r rs, rows-bodies (r ∷ rs)) (rows-numbered (r ∷ rs) 1 g)

-- ---- those of lines and definitions without a fault

pub line-readable : (x : Line) → GoodTree x → Readable (front x)
line-readable (line w v n c a r) g = record { some = omega arith; prints = line-prints (line w v n c a r) g.faultless }

pub curve-readable : (d : Definition) → GoodDefinition d → Readable (definition_front d)
unfolding definition_front
curve-readable d g = record { some = omega arith; prints = definition-prints d g.faultless }

pub all-readable : (ds : List Definition) (xs : List Line) → GoodDefinitions ds → GoodTrees xs → AllReadable (map definition_front ds ++ map front xs)
all-readable [] [] g h = tt
all-readable [] (x ∷ xs) g h = (line-readable x h.0, all-readable [] xs g h.1)
all-readable (d ∷ ds) xs g h = (curve-readable d g.0, all-readable ds xs g.1 h)
