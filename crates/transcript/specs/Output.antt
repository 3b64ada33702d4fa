-- The lines that a session prints (document 01, "On both sides of each edge"; document 02, Req 06). Definitions only.
use Rattle.std.specs.Prelude.{cond, List, [], ◌∷◌, ◌++◌, ℕ, zero, suc, ◌+◌, ◌*◌, get_or, drop}
use Rattle.tokens.specs.Token.{max_lines}
use Rattle.engine.specs.Order.{order_size, max_orders}
use Rattle.engine.specs.declared.status.Standing.{Standing}
use Rattle.engine.specs.declared.status.Standing.TheVariants.{Locked, Cancelled, Waiting}
use Rattle.engine.specs.declared.status.LineStatus.{LineStatus}
use Rattle.engine.specs.Status.{no_status}
use Rattle.text.specs.Byte.{bytes, LF, SPACE}
use Rattle.text.specs.Digits.{decimal, signed_text}

-- ---- a line: a word, and fields each behind a space

unfoldable pub spaced : List (List ℕ) → List ℕ
spaced [] = []
spaced (f ∷ fs) = SPACE ∷ (f ++ spaced fs)

abbrev pub printed_line : List ℕ → List (List ℕ) → List ℕ
printed_line word fs = word ++ (spaced fs ++ (LF ∷ []))

-- numbers as fields
abbrev pub decimals : List ℕ → List (List ℕ)
decimals [] = []
decimals (n ∷ ns) = decimal n ∷ decimals ns

-- ---- the lines

-- L code line
unfoldable pub load_line : ℕ → ℕ → List ℕ
load_line code line = printed_line (bytes "L") (decimals (code ∷ line ∷ []))

-- E k
unfoldable pub error_line : ℕ → List ℕ
error_line k = printed_line (bytes "E") (decimals (k ∷ []))

-- C beat code orders
unfoldable pub code_line : ℕ → ℕ → ℕ → List ℕ
code_line beat code orders = printed_line (bytes "C") (decimals (beat ∷ code ∷ orders ∷ []))

-- four bytes, low first
unfoldable pub four_of : List ℕ → ℕ
four_of bs = get_or bs 0 0 + get_or bs 1 0 * 256 + get_or bs 2 0 * 65536 + get_or bs 3 0 * 16777216

-- O line kind target value, of the order whose bytes begin there
unfoldable pub order_line : List ℕ → List ℕ
order_line o = printed_line (bytes "O") (decimal (get_or o 1 0) ∷ decimal (get_or o 0 0) ∷ decimal (get_or o 2 0) ∷ signed_text (four_of (drop 4 o)) ∷ [])

-- so for n orders of a buffer
unfoldable pub order_lines : ℕ → List ℕ → List ℕ
order_lines zero b = []
order_lines (suc n) b = order_line b ++ order_lines n (drop order_size b)

-- END beats beats-with-a-code orders
unfoldable pub end_line : ℕ → ℕ → ℕ → List ℕ
end_line beats coded orders = printed_line (bytes "END") (decimals (beats ∷ coded ∷ orders ∷ []))

-- S kind number standing acts, of a line in the status picture
abbrev pub standing_word : Standing → List ℕ
standing_word Locked = bytes "locked"
standing_word Cancelled = bytes "cancelled"
standing_word Waiting = bytes "waiting"

unfoldable pub status_line : LineStatus → List ℕ
status_line x = printed_line (bytes "S") (cond x.ids (bytes "IDS") (bytes "ID") ∷ decimal x.number ∷ standing_word x.standing ∷ decimal x.acts ∷ [])

-- so for n lines from rank k on
unfoldable pub status_rows : ℕ → ℕ → List LineStatus → List ℕ
status_rows zero k xs = []
status_rows (suc n) k xs = status_line (get_or xs k no_status) ++ status_rows n (k + 1) xs

-- ---- how it is handed over

-- the bytes of C, of O and of S at most: a number has up to ten digits
abbrev pub code_room : ℕ
code_room = 35

abbrev pub order_room : ℕ
order_room = 47

abbrev pub status_room : ℕ
status_room = 38

-- what is printed at the end at most: S for each line, which is more than END
abbrev pub end_room : ℕ
end_room = status_room * max_lines

-- what a beat prints at most: C, and O for each order
abbrev pub beat_room : ℕ
beat_room = code_room + order_room * max_orders

-- and a line of input: the end behind the last beat
abbrev pub line_room : ℕ
line_room = beat_room + end_room

-- the last place where what a line of input prints may begin
abbrev pub last_start : ℕ
last_start = 65536

-- the bytes that output is handed over in
abbrev pub out_size : ℕ
out_size = last_start + line_room
