-- What the check sees, as one number of 64 bits: its remainder by `room` is the next place, 0 where it is not in the grammar; its quotient has one bit for a yes/no or, of actions, for a name, the lowest fault, and the greatest depth of brackets, counted to nine; and what its steps read. Definitions only.
use Rattle.std.specs.Prelude.{◌≡◌, Bool, true, false, cond, List, ℕ, zero, suc, ◌+◌, ◌*◌, ◌/◌, ◌%◌, ◌^◌, max, eqb, get_or, Result, Err}
use Rattle.values.specs.Codes.{not_in_grammar, two_moves}
use Rattle.tokens.specs.Token.{room, set_size, MINUS, is_move}
use Rattle.tokens.specs.Descent.{Read, read, ends}
use Rattle.checking.specs.declared.line.Line.{Line}
use Rattle.tokens.specs.SingleFault.{lower, unless}
use Rattle.checking.specs.Fault.{Sight, signed, count_fault, names_from, body_at}

abbrev pub number_seen : ℕ → ℕ → ℕ → ℕ
number_seen f d p = (d * 256 + f) * 2 * room + p % room

abbrev pub truth_seen : ℕ → ℕ → ℕ → ℕ
truth_seen f d p = ((d * 256 + f) * 2 + 1) * room + p % room

abbrev pub next_of : ℕ → ℕ
next_of w = w % room

abbrev pub truth_of : ℕ → Bool
truth_of w = eqb (w / room % 2) 1

abbrev pub fault_of : ℕ → ℕ
fault_of w = w / (2 * room) % 256

-- a yes/no (true) or a number (false), as is wanted, and no fault
abbrev pub is_faultless : Bool → ℕ → Bool
is_faultless t w = eqb (w / room % 512) (cond t 1 0)

abbrev pub depth_of : ℕ → ℕ
depth_of w = w / (512 * room) % 256

-- the greater of two
abbrev pub deeper_of : ℕ → ℕ → ℕ
deeper_of a b = max (depth_of a) (depth_of b)

abbrev pub sight_of : ℕ → Sight
sight_of w = record { truth = truth_of w; fault = fault_of w }

-- what such a number says of an expression
unfoldable pub seen : ℕ → Read Sight
seen w = elim (eqb (next_of w) 0) [ true ↦ ends not_in_grammar | false ↦ read (sight_of w) (next_of w) ]

-- what it says of an expression of which the kind does not count, and of actions: the lowest fault
unfoldable pub faulted : ℕ → Read ℕ
faulted w = elim (eqb (next_of w) 0) [ true ↦ ends not_in_grammar | false ↦ read (fault_of w) (next_of w) ]

-- behind a sign that is or wants a yes/no (true) or a number (false), where a was read up to q
abbrev pub signed_sight : Bool → Sight → ℕ → Read Sight
signed_sight t a q = read (signed t a) q

-- x, which tells of the actions from p on under the keyword kw, tells too whether one of them names a line or a curve
abbrev pub Noted : List ℕ → ℕ → ℕ → ℕ → Type 0
Noted s kw p x = (next_of x ≡ 0 → ⊥) → truth_of x ≡ names_from s kw set_size set_size p

-- the axes that actions move, as one word: axis x has the bit 2^x; once an axis is moved twice, all bits are set, the lowest too
abbrev pub all_moved : ℕ
all_moved = 127

unfoldable pub is_moved : ℕ → ℕ → Bool
is_moved m x = eqb (m / 2 ^ x % 2) 1

-- and the axis x, if the word w that begins the action is a move
unfoldable pub with_move : ℕ → ℕ → ℕ → ℕ
with_move m w x = elim (is_move w) [ true ↦ elim (is_moved m x) [ true ↦ all_moved | false ↦ m + 2 ^ x ] | false ↦ m ]

-- 10, or else 14, of n actions that move such axes
unfoldable pub end_fault : ℕ → ℕ → ℕ
end_fault n m = lower (count_fault n) (unless (eqb (m % 2) 0) two_moves)

-- how many more - stand directly behind the one at p, at most k
unfoldable pub signs_behind : List ℕ → ℕ → ℕ → ℕ
signs_behind s zero p = 0
signs_behind s (suc k) p = elim (eqb (get_or s (p + 1) 0) MINUS) [ true ↦ 1 + signs_behind s k (p + 1) | false ↦ 0 ]

-- DO and the actions behind what was read, if that is in the grammar
abbrev pub body_from : List ℕ → ℕ → ℕ → ℕ → Read ℕ → Result Line ℕ
body_from s p kw cp (read f q) = body_at s p kw cp f q
body_from s p kw cp (ends k) = Err k
