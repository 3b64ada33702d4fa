-- How many bytes a print may take, so that places can be counted in a machine word. Assumes nothing.
use Rattle.std.specs.Prelude.{◌≡◌, refl, Bool, true, List, [], ◌∷◌, ◌++◌, ℕ, ◌+◌, ◌*◌, ◌/◌, ◌%◌, ◌≤◌, eqb, leb, length}
use Rattle.std.proofs.Common.{arith, length-append, leb-true}
use Rattle.values.specs.Choice.{decide}
use Rattle.values.specs.Value.{unit}
use Rattle.tokens.specs.Token.{set_size, number_carried, thousandths}
use Rattle.text.specs.Word.{names}
use Rattle.text.specs.WordLaws.{rows}
use Rattle.text.specs.Digits.{decimal}
use Rattle.text.specs.DigitsLaws.{decimal-room}
use Rattle.print.specs.TokenText.{part_text, number_text, name_text, token_text, needs_space, gap, line_text}
use Rattle.print.specs.NumberBackLaws.{part-is}
use Rattle.print.specs.TokenBackLaws.{by_token}
use Rattle.print.specs.LineBack.{gap-none, gap-some}
use Rattle.print.specs.TokenBytesLaws.{any_name}
use Rattle.print.specs.NameRows.{longest_name}

-- a place that no print comes near: half of what a machine word counts
abbrev pub last_place : ℕ
last_place = 9223372036854775808

-- the digits before the point at most, the bytes of a token, with a point and three digits behind them, those of a line with a space behind each token, and those of a row with an LF before its line
abbrev pub units_room : ℕ
units_room = 10

abbrev pub token_room : ℕ
token_room = units_room + 4

abbrev pub line_room : ℕ
line_room = (token_room + 1) * set_size

abbrev pub row_room : ℕ
row_room = 1 + line_room

-- ---- a token

is_short_name : List ℕ → ℕ → Bool
is_short_name x t = leb (length x) longest_name

names-short : rows is_short_name names ≡ true
unfolding is_short_name
names-short = refl

pub name-room : (t : ℕ) → length (name_text t) ≤ longest_name
unfolding name_text is_short_name
name-room t = leb-true _ longest_name (any_name is_short_name names t names-short refl)

part_room : (f : ℕ) → f % unit ≡ f → length (part_text f) ≤ 4
unfolding part_text
part_room f h =
    decide _ (eqb f 0)
    (λ e. rw (part_text, e) (omega arith))
    (λ e. let p = (part-is f (omega arith)).few in rw (part_text, e) (omega arith))

number-room : (n : ℕ) → length (number_text n) ≤ token_room
unfolding number_text
number-room n =
    let a = decimal-room (n / unit) in
    let b = part_room (n % unit) (omega arith) in
    let e = length-append (decimal (n / unit)) (part_text (n % unit)) in
    omega arith

pub token-room : (t : ℕ) → length (token_text t) ≤ token_room
token-room t =
    by_token _ t
    (λ e x. rw x (number-room (thousandths (number_carried t))))
    (λ e g x. let r = name-room t in rw x (omega arith))
    (λ e g x. let r = name-room t in rw x (omega arith))

-- ---- a line

gap-room : (t u : ℕ) → length (gap t u) ≤ 1
gap-room t u = decide _ (needs_space t u) (λ n. rw (gap-some t u n) (omega arith)) (λ n. rw (gap-none t u n) (omega arith))

pub line-room : (ts : List ℕ) → length (line_text ts) ≤ (token_room + 1) * length ts
unfolding line_text
line-room [] = omega arith
line-room (t ∷ []) = let r = token-room t in omega arith
line-room (t ∷ u ∷ ts) =
    let r = token-room t in
    let g = gap-room t u in
    let i = line-room (u ∷ ts) in
    let a = length-append (token_text t) (gap t u ++ line_text (u ∷ ts)) in
    let b = length-append (gap t u) (line_text (u ∷ ts)) in
    omega arith
