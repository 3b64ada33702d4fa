-- Laws of the marks of written points: a line is written as without them, and what is read back of a token has the mark just where a point is written. Nothing is assumed.
use Rattle.std.specs.Prelude.{◌≡◌, refl, true, false, List, [], ◌∷◌, map, ℕ, ◌+◌, ◌-◌, ◌*◌, ◌%◌, ◌≤◌, eqb}
use Rattle.std.proofs.Common.{sym, ap, ◌∙◌, arith, le-leb, leb-true}
use Rattle.values.specs.Choice.{decide, chosen, refused}
use Rattle.values.specs.Value.{unit}
use Rattle.tokens.specs.Token.{NUMBER, is_number, number_carried, thousandths}
use Rattle.grammar.specs.NumbersTo.{token_to}
use Rattle.grammar.specs.NumbersToLaws.{Keeps}
use Rattle.engine.specs.Set.{without_mark}
use Rattle.print.specs.TokenText.{number_text, token_text, goes_on, is_following, is_one_sign, needs_space, gap, line_text}
use Rattle.print.specs.PrintText.{behind_text, rows_text}
use Rattle.print.specs.ReadBack.{mark, read_back}
use Rattle.print.specs.TokenBackLaws.{number-goes, back-number, back-other}
use Rattle.print.specs.LineBack.{number-follows}
use Rattle.print.specs.ToldLaws.{no-sign-one, one-no-sign}

-- ---- a token without its mark

-- by whether it is a number
by-mark : (P : Type 0) (t : ℕ) → (is_number t ≡ true → is_number (without_mark t) ≡ true → thousandths (number_carried (without_mark t)) ≡ thousandths (number_carried t) → P) →
    (is_number t ≡ false → without_mark t ≡ t → P) → P
unfolding without_mark
by-mark P t f g =
    decide P (is_number t)
    (λ e.
    let l = leb-true NUMBER t e in
    let w : without_mark t ≡ t - t % 2 = chosen _ _ _ e in
    f e (le-leb NUMBER (without_mark t) (omega arith)) (omega arith))
    (λ e. g e (refused _ _ _ e))

-- it is written the same
token-unmarked : (t : ℕ) → token_text (without_mark t) ≡ token_text t
unfolding token_text
token-unmarked t =
    by-mark _ t
    (λ e f h. chosen _ _ _ f ∙ ap number_text h ∙ sym (chosen _ _ _ e))
    (λ e f. rw f)

-- and needs the same space before and behind it
goes-unmarked : (t : ℕ) → goes_on (without_mark t) ≡ goes_on t
goes-unmarked t = by-mark _ t (λ e f h. number-goes (without_mark t) f ∙ sym (number-goes t e)) (λ e f. rw f)

follows-unmarked : (t : ℕ) → is_following (without_mark t) ≡ is_following t
follows-unmarked t = by-mark _ t (λ e f h. number-follows (without_mark t) f ∙ sym (number-follows t e)) (λ e f. rw f)

one-unmarked : (t u : ℕ) → is_one_sign (without_mark t) (without_mark u) ≡ is_one_sign t u
one-unmarked t u =
    by-mark _ t
    (λ e f h. one-no-sign (without_mark t) (without_mark u) (number-goes (without_mark t) f) ∙ sym (one-no-sign t u (number-goes t e)))
    (λ e f. rw f (by-mark _ u
    (λ a b h. no-sign-one t (without_mark u) (number-goes (without_mark u) b) ∙ sym (no-sign-one t u (number-goes u a)))
    (λ a b. rw b)))

space-unmarked : (t u : ℕ) → needs_space (without_mark t) (without_mark u) ≡ needs_space t u
unfolding needs_space
space-unmarked t u = rw (goes-unmarked t, follows-unmarked u, one-unmarked t u)

gap-unmarked : (t u : ℕ) → gap (without_mark t) (without_mark u) ≡ gap t u
unfolding gap
gap-unmarked t u = rw (gap, space-unmarked t u)

-- A LINE IS WRITTEN AS WITHOUT MARKS
pub line-unmarked : (ts : List ℕ) → line_text (map without_mark ts) ≡ line_text ts
unfolding line_text
line-unmarked [] = refl
line-unmarked (t ∷ []) = token-unmarked t
line-unmarked (t ∷ u ∷ ts) = rw (token-unmarked t, gap-unmarked t u, line-unmarked (u ∷ ts))

-- and so are rows
behind-unmarked : (rs : List (List ℕ)) → behind_text (map (map without_mark) rs) ≡ behind_text rs
unfolding behind_text
behind-unmarked [] = refl
behind-unmarked (r ∷ rs) = rw (line-unmarked r, behind-unmarked rs)

pub rows-unmarked : (rs : List (List ℕ)) → rows_text (map (map without_mark) rs) ≡ rows_text rs
unfolding rows_text
rows-unmarked [] = refl
rows-unmarked (r ∷ rs) = rw (line-unmarked r, behind-unmarked rs)

-- a token without its mark has none
twice-unmarked : (t : ℕ) → without_mark (without_mark t) ≡ without_mark t
unfolding without_mark
twice-unmarked t =
    by-mark _ t
    (λ e f h. let w : without_mark t ≡ t - t % 2 = chosen _ _ _ e in let z : without_mark t - without_mark t % 2 ≡ without_mark t = omega arith in chosen _ _ _ f ∙ z)
    (λ e f. rw f f)

pub unmarked-twice : (ts : List ℕ) → map without_mark (map without_mark ts) ≡ map without_mark ts
unmarked-twice [] = refl
unmarked-twice (t ∷ ts) = rw (twice-unmarked t, unmarked-twice ts)

-- ---- what is read back

-- what a number carries, with the mark just where it has a fraction
unfoldable pub remarked : ℕ → ℕ
remarked n = thousandths n * 2 + mark (thousandths n % unit)

mark-small : (f : ℕ) → mark f ≤ 1
unfolding mark
mark-small f = decide _ (eqb f 0) (λ e. rw (mark, e) (omega arith)) (λ e. rw (mark, e) (omega arith))

pub remarked-keeps : Keeps remarked
unfolding remarked mark
remarked-keeps = record {
  whole = λ n. let e : thousandths (n * 2000) % unit ≡ 0 = omega arith in rw e (omega arith);
  value = λ n. let m = mark-small (thousandths n % unit) in omega arith;
}

pub back_to : (ts : List ℕ) → map read_back ts ≡ map (token_to remarked) ts
unfolding read_back token_to remarked
back_to [] = refl
back_to (t ∷ ts) = rw (back_to ts)

-- without marks, what is read back is the token
back-unmarked : (t : ℕ) → without_mark (read_back t) ≡ without_mark t
unfolding without_mark
back-unmarked t =
    decide _ (is_number t)
    (λ e.
    let l = leb-true NUMBER t e in
    let r = back-number t e in
    let m = mark-small (thousandths (number_carried t) % unit) in
    let z : read_back t - read_back t % 2 ≡ t - t % 2 = omega arith in
    chosen _ _ _ (le-leb NUMBER (read_back t) (omega arith)) ∙ z ∙ sym (chosen _ _ _ e))
    (λ e. rw (back-other t e))

pub backs-unmarked : (ts : List ℕ) → map without_mark (map read_back ts) ≡ map without_mark ts
backs-unmarked [] = refl
backs-unmarked (t ∷ ts) = rw (back-unmarked t, backs-unmarked ts)
