-- How long the lines are that a session prints: each number has at most ten digits. Assumes nothing.
use Rattle.std.specs.Prelude.{Bool, true, false, cond, List, [], ◌∷◌, ℕ, zero, suc, ◌+◌, ◌*◌, ◌≤◌, length, get_or, drop}
use Rattle.std.proofs.Common.{arith, length-append}
use Rattle.engine.specs.Order.{order_size}
use Rattle.engine.specs.declared.status.Standing.{Standing}
use Rattle.engine.specs.declared.status.Standing.TheVariants.{Locked, Cancelled, Waiting}
use Rattle.engine.specs.declared.status.LineStatus.{LineStatus}
use Rattle.engine.specs.Status.{no_status}
use Rattle.text.specs.Byte.{bytes}
use Rattle.text.specs.DigitsLaws.{decimal-room, signed-room}
use Rattle.transcript.specs.Output.{spaced, printed_line, decimals, load_line, error_line, code_line, four_of, order_line, order_lines, end_line, standing_word, status_line, status_rows, code_room, order_room, status_room, end_room}

-- ---- a word and numbers

pub fields-room : (ns : List ℕ) → length (spaced (decimals ns)) ≤ 11 * length ns
unfolding spaced
fields-room [] = omega arith
fields-room (n ∷ ns) =
    let a = decimal-room n in
    let b = fields-room ns in
    simp length-append (omega arith)

pub numbers-room : (word ns : List ℕ) → length (printed_line word (decimals ns)) ≤ length word + 11 * length ns + 1
numbers-room word ns = let a = fields-room ns in simp length-append (omega arith)

-- ---- the lines

pub load-room : (code line : ℕ) → length (load_line code line) ≤ 24
unfolding load_line
load-room code line = numbers-room (bytes "L") (code ∷ line ∷ [])

pub error-room : (k : ℕ) → length (error_line k) ≤ 13
unfolding error_line
error-room k = numbers-room (bytes "E") (k ∷ [])

pub code-room : (beat code orders : ℕ) → length (code_line beat code orders) ≤ code_room
unfolding code_line
code-room beat code orders = numbers-room (bytes "C") (beat ∷ code ∷ orders ∷ [])

pub end-room : (beats coded orders : ℕ) → length (end_line beats coded orders) ≤ end_room
unfolding end_line
end-room beats coded orders = let a = numbers-room (bytes "END") (beats ∷ coded ∷ orders ∷ []) in omega arith

pub order-room : (o : List ℕ) → length (order_line o) ≤ order_room
unfolding order_line spaced
order-room o =
    let a = decimal-room (get_or o 1 0) in
    let b = decimal-room (get_or o 0 0) in
    let c = decimal-room (get_or o 2 0) in
    let d = signed-room (four_of (drop 4 o)) in
    simp length-append (omega arith)

pub orders-room : (n : ℕ) (b : List ℕ) → length (order_lines n b) ≤ order_room * n
unfolding order_lines
orders-room zero b = omega arith
orders-room (suc n) b =
    let a = order-room b in
    let c = orders-room n (drop order_size b) in
    simp length-append (omega arith)

-- ---- the status picture

pub kind-room : (ids : Bool) → length (cond ids (bytes "IDS") (bytes "ID")) ≤ 3
kind-room true = omega arith
kind-room false = omega arith

pub standing-room : (x : Standing) → length (standing_word x) ≤ 9
standing-room Locked = omega arith
standing-room Cancelled = omega arith
standing-room Waiting = omega arith

pub status-room : (x : LineStatus) → length (status_line x) ≤ status_room
unfolding status_line spaced
status-room x =
    let a = kind-room x.ids in
    let b = decimal-room x.number in
    let c = standing-room x.standing in
    let d = decimal-room x.acts in
    simp length-append (omega arith)

pub rows-room : (n k : ℕ) (xs : List LineStatus) → length (status_rows n k xs) ≤ status_room * n
unfolding status_rows
rows-room zero k xs = omega arith
rows-room (suc n) k xs =
    let a = status-room (get_or xs k no_status) in
    let c = rows-room n (k + 1) xs in
    simp length-append (omega arith)
