-- Text put at a place of a buffer, field by field, order by order and row by row.
use mathlib.Core.Path.{◌≡◌, refl, sym, ap, ◌∙◌}
use mathlib.Core.Bool.{Bool, cond}
use mathlib.Core.List.{List, [], ◌∷◌, ◌++◌, append_assoc, append-nil}
use Prim.Native.Nat.{ℕ, zero, suc, ◌+◌, ◌-◌, ◌*◌, ◌≤◌, ◌<◌}
use native.Mathlib.Omega.{arith}
use native.Mathlib.Numerals.{add-one}
use lib.ListN.{length, get_or, take, drop, drop_of_length-le, length-drop, get_or-append}
use lib.Seq.{drop-cons, get_or-drop, drop-append-le, length-take-le}
use Rattle.std.proofs.lemmas.List.{take-append-drop, get_or-take}
use Rattle.engine.specs.Order.{order_size}
use Rattle.engine.specs.Status.{no_status}
use Rattle.engine.specs.declared.status.LineStatus.{LineStatus}
use Rattle.engine.specs.declared.status.Standing.{Standing}
use Rattle.text.specs.Byte.{bytes, LF, SPACE}
use Rattle.text.specs.Digits.{decimal, signed_text}
use Rattle.values.specs.PutAt.{IsPut}
use Rattle.transcript.specs.Output.{spaced, printed_line, decimals, four_of, order_line, order_lines, standing_word, status_line, status_rows, status_room}
use Rattle.transcript.specs.OutputLaws.{fields-room, kind-room, standing-room, status-room}

-- ---- fields

-- a field alone
pub field-alone : (f : List ℕ) → spaced (f ∷ []) ≡ SPACE ∷ f
unfolding spaced
field-alone f = ap (λ (y : List ℕ). SPACE ∷ y) (append-nil f)

-- a field before others
pub field-first : (f : List ℕ) (fs : List (List ℕ)) → spaced (f ∷ fs) ≡ spaced (f ∷ []) ++ spaced fs
unfolding spaced
field-first f fs = ap (λ (y : List ℕ). SPACE ∷ (y ++ spaced fs)) (sym (append-nil f))

-- the numbers from place i on
module _ (ns : List ℕ) (i : ℕ) where
  pub field_next : i < length ns → spaced (decimals (drop i ns)) ≡ spaced (decimals (get_or ns i 0 ∷ [])) ++ spaced (decimals (drop (i + 1) ns))
  field_next h = rw (drop-cons ns i 0 h, add-one i) (field-first (decimal (get_or ns i 0)) (decimals (drop (suc i) ns)))

  pub fields-over : length ns ≤ i → spaced (decimals (drop i ns)) ≡ []
  unfolding spaced
  fields-over h = rw (drop_of_length-le ns h)

pub line-is : (word : List ℕ) (fs : List (List ℕ)) → printed_line word fs ≡ (word ++ spaced fs) ++ (LF ∷ [])
line-is word fs = sym (append_assoc word (spaced fs) (LF ∷ []))

-- with a field more
spaced-more : (fs : List (List ℕ)) (f : List ℕ) → spaced (fs ++ (f ∷ [])) ≡ spaced fs ++ (SPACE ∷ f)
unfolding spaced
spaced-more [] f = ap (λ (y : List ℕ). SPACE ∷ y) (append-nil f)
spaced-more (g ∷ gs) f = ap (λ (y : List ℕ). SPACE ∷ (g ++ y)) (spaced-more gs f) ∙ ap (λ (y : List ℕ). SPACE ∷ y) (sym (append_assoc g (spaced gs) (SPACE ∷ f)))

pub line-more : (word : List ℕ) (fs : List (List ℕ)) (f : List ℕ) → printed_line word (fs ++ (f ∷ [])) ≡ (((word ++ spaced fs) ++ (SPACE ∷ [])) ++ f) ++ (LF ∷ [])
line-more word fs f = rw (spaced-more fs f) (simp append_assoc)

-- ---- the fields of an order

-- its value, in its last four bytes
pub four_is : (o : List ℕ) → get_or o 4 0 + get_or o 5 0 * 256 + get_or o 6 0 * 65536 + get_or o 7 0 * 16777216 ≡ four_of (drop 4 o)
unfolding four_of
four_is o = rw (get_or-drop 4 o 0 0, get_or-drop 4 o 1 0, get_or-drop 4 o 2 0, get_or-drop 4 o 3 0)

-- its three numbers, then its value behind a space
pub order_is : (o : List ℕ) {line kind target v : ℕ} → line ≡ get_or o 1 0 → kind ≡ get_or o 0 0 → target ≡ get_or o 2 0 → v ≡ four_of (drop 4 o) →
    order_line o ≡ (((bytes "O" ++ spaced (decimals (line ∷ kind ∷ target ∷ []))) ++ (SPACE ∷ [])) ++ signed_text v) ++ (LF ∷ [])
unfolding order_line
order_is o e f g h = rw (e, f, g, h) (line-more (bytes "O") (decimals (get_or o 1 0 ∷ get_or o 0 0 ∷ get_or o 2 0 ∷ [])) (signed_text (four_of (drop 4 o))))

-- what is behind it in a buffer is not looked at
pub order-alone : (o b : List ℕ) → order_size ≤ length o → order_line (o ++ b) ≡ order_line o
unfolding order_line four_of
order-alone o b h =
    let d = length-drop 4 o in
    rw (get_or-append o b 0 1 (omega arith), get_or-append o b 0 0 (omega arith), get_or-append o b 0 2 (omega arith), drop-append-le 4 o b (omega arith))
    (rw (get_or-append (drop 4 o) b 0 0 (omega arith), get_or-append (drop 4 o) b 0 1 (omega arith), get_or-append (drop 4 o) b 0 2 (omega arith), get_or-append (drop 4 o) b 0 3 (omega arith)))

-- ---- orders one behind the other

-- before k of n orders, where there are so many
pub orders-next : (n k : ℕ) (o : List ℕ) → k < n → order_size ≤ length o → order_lines (n - k) o ≡ order_line (take order_size o) ++ order_lines (n - (k + 1)) (drop order_size o)
unfolding order_lines
orders-next n k o h l =
    let e : n - k ≡ suc (n - (k + 1)) = omega arith in
    let m = length-take-le order_size o l in
    let q : order_line o ≡ order_line (take order_size o) = ap order_line (sym (take-append-drop order_size o)) ∙ order-alone (take order_size o) (drop order_size o) (omega arith) in
    rw (e, q)

pub orders-over : (n k : ℕ) (o : List ℕ) → n ≤ k → order_lines (n - k) o ≡ []
unfolding order_lines
orders-over n k o h = let e : n - k ≡ 0 = omega arith in rw e

-- ---- the status picture

-- where a field ends
pub kind-near : (ids : Bool) {b t : List ℕ} {at q : ℕ} → IsPut b at (spaced (cond ids (bytes "IDS") (bytes "ID") ∷ [])) t q → q ≤ at + 4
kind-near ids p = let e = p.behind in let f = ap length (field-alone (cond ids (bytes "IDS") (bytes "ID"))) in let r = kind-room ids in omega arith

pub standing-near : (x : Standing) {b t : List ℕ} {at q : ℕ} → IsPut b at (spaced (standing_word x ∷ [])) t q → q ≤ at + 10
standing-near x p = let e = p.behind in let f = ap length (field-alone (standing_word x)) in let r = standing-room x in omega arith

pub number-near : (n : ℕ) {b t : List ℕ} {at q : ℕ} → IsPut b at (spaced (decimals (n ∷ []))) t q → q ≤ at + 11
number-near n p = let e = p.behind in let r = fields-room (n ∷ []) in omega arith

-- the fields of a row one behind the other
four-behind : (w a b c d e : List ℕ) → w ++ ((a ++ (b ++ (c ++ d))) ++ e) ≡ ((((w ++ a) ++ b) ++ c) ++ d) ++ e
four-behind w a b c d e = simp append_assoc

pub row_is : (x : LineStatus) →
    status_line x ≡ ((((bytes "S" ++ spaced (cond x.ids (bytes "IDS") (bytes "ID") ∷ [])) ++ spaced (decimals (x.number ∷ []))) ++ spaced (standing_word x.standing ∷ [])) ++ spaced (decimals (x.acts ∷ []))) ++ (LF ∷ [])
unfolding status_line
row_is x =
    let k = cond x.ids (bytes "IDS") (bytes "ID") in
    let w = standing_word x.standing in
    let a = decimals (x.acts ∷ []) in
    rw (field-first k (decimal x.number ∷ w ∷ a), field-first (decimal x.number) (w ∷ a), field-first w a)
    (four-behind (bytes "S") (spaced (k ∷ [])) (spaced (decimals (x.number ∷ []))) (spaced (w ∷ [])) (spaced a) (LF ∷ []))

pub row_near : (x : LineStatus) {b t : List ℕ} {at q : ℕ} → IsPut b at (status_line x) t q → q ≤ at + status_room
row_near x p = let e = p.behind in let r = status-room x in omega arith

-- within a list it does not matter what is read past its end
read-within : (xs : List LineStatus) (k : ℕ) (d e : LineStatus) → k < length xs → get_or xs k d ≡ get_or xs k e
read-within [] k d e h = absurd (omega arith)
read-within (x ∷ xs) zero d e h = refl
read-within (x ∷ xs) (suc k) d e h = read-within xs k d e (omega arith)

-- the rows from rank k on, of n
abbrev pub rows_left : ℕ → List LineStatus → ℕ → List ℕ
rows_left n xs k = status_rows (n - k) k xs

module _ (n : ℕ) (xs : List LineStatus) where
  pub all-rows : rows_left n xs 0 ≡ status_rows n 0 xs
  all-rows = let e : n - 0 ≡ n = omega arith in rw e

  pub no_row : (k : ℕ) → n ≤ k → rows_left n xs k ≡ []
  unfolding status_rows
  no_row k h = let e : n - k ≡ 0 = omega arith in rw e

  -- where there are so many
  pub row-taken : (k : ℕ) (d : LineStatus) → k < n → n ≤ length xs → rows_left n xs k ≡ status_line (get_or (take n xs) k d) ++ rows_left n xs (k + 1)
  unfolding status_rows
  row-taken k d h w =
      let e : n - k ≡ suc (n - (k + 1)) = omega arith in
      let q : get_or xs k no_status ≡ get_or (take n xs) k d = read-within xs k no_status d (omega arith) ∙ sym (get_or-take n xs k d h) in
      rw (e, q)
