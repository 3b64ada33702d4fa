-- Laws of the print of a row, token by token, and of a print at a buffer's start. Assumes nothing.
use Rattle.std.specs.Prelude.{◌≡◌, false, ◌||◌, List, [], ◌∷◌, ◌++◌, ℕ, suc, ◌+◌, ◌*◌, ◌≤◌, eqb, leb, length, get_or, set, drop}
use Rattle.std.proofs.Math.Path.{refl}
use Rattle.std.proofs.Common.{sym, ap, ◌∙◌, append-nil, arith, drop_of_length-le, length-drop, drop-cons}
use Rattle.std.proofs.Math.Bool.{and-false}
use Rattle.std.proofs.Math.Numerals.{add-one}
use borrow.Author.Tests.{eq-eqb, ne_eqb, eqb-true, eqb-false, leb-true, leb-false}
use Rattle.values.specs.Choice.{decide}
use Rattle.values.specs.PutAt.{put_at}
use Rattle.tokens.specs.Token.{END}
use Rattle.tokens.specs.BetweenLaws.{lies-inside}
use Rattle.print.specs.TokenText.{token_text, goes_on, needs_space, gap, line_text}
use Rattle.print.specs.PrintText.{up_to_end, row_at}
use Rattle.print.specs.LineBack.{gap-none}
use Rattle.print.specs.PrintRoomLaws.{token_room, line-room}

-- ---- a line, token by token

-- the end of a line needs no space before it
none-at-end : (t : ℕ) → needs_space t END ≡ false
unfolding needs_space
none-at-end t = rw (and-false (goes_on t), and-false (eqb t 1 || (eqb t 4 || eqb t 5))) (and-false (eqb t 4))

-- so each token of a line is written with what stands between it and the next, the end behind the last
line_step : (t : ℕ) (ts : List ℕ) → line_text (t ∷ ts) ≡ token_text t ++ (gap t (get_or ts 0 END) ++ line_text ts)
unfolding line_text
line_step t [] = rw (gap-none t END (none-at-end t)) (sym (append-nil (token_text t)))
line_step t (u ∷ ts) = refl

module _ (s : List ℕ) (p : ℕ) where
  pub row_ends : get_or s p 0 ≡ END → row_at s p ≡ []
  unfolding up_to_end
  row_ends e =
      decide _ (leb (length s) p)
      (λ g. rw (drop_of_length-le s (leb-true (length s) p g)))
      (λ g. rw (drop-cons s p 0 (leb-false (length s) p g), up_to_end, eq-eqb (get_or s p 0) END e))

  pub row_goes : (get_or s p 0 ≡ END → ⊥) → row_at s p ≡ get_or s p 0 ∷ row_at s (p + 1)
  unfolding up_to_end
  row_goes n = rw (drop-cons s p 0 (lies-inside s p refl n), up_to_end, ne_eqb (get_or s p 0) END n, add-one p)

row_first : (s : List ℕ) (p : ℕ) → get_or (row_at s p) 0 END ≡ get_or s p 0
row_first s p =
    decide _ (eqb (get_or s p 0) END)
    (λ e. let z = eqb-true (get_or s p 0) END e in rw (row_ends s p z) (sym z))
    (λ e. rw (row_goes s p (eqb-false (get_or s p 0) END e)))

-- the line at a place: its token t there, what stands between that and the next, and the line behind
pub line-goes : (s : List ℕ) (p : ℕ) {t u : ℕ} → t ≡ get_or s p 0 → u ≡ get_or s (p + 1) 0 → (t ≡ END → ⊥) → line_text (row_at s p) ≡ token_text t ++ (gap t u ++ line_text (row_at s (p + 1)))
line-goes s p {t} {u} e f n = rw (row_goes s p (λ z. n (e ∙ z)), ← e) (line_step t (row_at s (p + 1)) ∙ rw (row_first s (p + 1), ← f))

-- behind its last token nothing is left
pub line-over : (s : List ℕ) (p : ℕ) {t : ℕ} → t ≡ get_or s p 0 → t ≡ END → line_text (row_at s p) ≡ []
unfolding line_text
line-over s p e z = rw (row_ends s p (sym e ∙ z))

-- ---- its room

row_room_lem : (l : List ℕ) → length (up_to_end l) ≤ length l
unfolding up_to_end
row_room_lem [] = omega arith
row_room_lem (t ∷ ts) = let i = row_room_lem ts in decide _ (eqb t END) (λ e. rw (up_to_end, e) (omega arith)) (λ e. rw (up_to_end, e) (omega arith))

-- the line at a place of an array of n places
pub line-at-room : (s : List ℕ) (p : ℕ) → length (line_text (row_at s p)) ≤ (token_room + 1) * length s
line-at-room s p =
    let a = line-room (row_at s p) in
    let b = row_room_lem (drop p s) in
    let d = length-drop p s in
    omega arith

-- ---- at a buffer's start

put-behind : (l s : List ℕ) (x p : ℕ) → put_at (x ∷ s) (suc p) l ≡ x ∷ put_at s p l
put-behind [] s x p = refl
put-behind (y ∷ l) s x p = let e : suc p + 1 ≡ suc (p + 1) = omega arith in rw e (put-behind l (set s p y) x (p + 1))

-- what is put there and fits, and behind it the bytes that were
pub put-start : (l s : List ℕ) → length l ≤ length s → put_at s 0 l ≡ l ++ drop (length l) s
put-start [] s h = refl
put-start (y ∷ l) [] h = absurd (omega arith)
put-start (y ∷ l) (x ∷ s) h = put-behind l s y 0 ∙ ap (λ (r : List ℕ). y ∷ r) (put-start l s (omega arith))
