-- FIFOs: the first places of a part of sixteen, oldest first (document 01, "Values and time").
-- A definition takes the part and the count; ..Answer is what the call answers, the name beside it the part afterwards.
-- Definitions only; FifoLaws tells them on the FIFO's contents.
use Rattle.std.specs.Prelude.{◌≡◌, Bool, cond, ◌&&◌, List, [], ◌∷◌, ◌++◌, ℕ, zero, suc, ◌+◌, ◌-◌, ◌*◌, ◌≤◌, eqb, leb, ℤ, pos, ◌+ℤ◌, length, take, drop, get_or, set, replicate, Result, Ok, Err}
use Rattle.values.specs.declared.codes.Alarm.{Alarm}
use Rattle.values.specs.declared.codes.Alarm.TheVariants.{FifoEmpty, FifoFull, NotAllowed, Unsound}
use Rattle.values.specs.declared.fifo.Moved.{Moved}
use Rattle.values.specs.Value.{unit, equal_to, valued}

abbrev pub places : ℕ
places = 16

-- the values of a FIFO, oldest first
abbrev pub contents : List ℤ → ℕ → List ℤ
contents xs n = take n xs

-- every place from the count on is 0
abbrev pub Unused : List ℤ → ℕ → Type 0
Unused xs n = (i : ℕ) → n ≤ i → get_or xs i (pos 0) ≡ pos 0

-- a change that was done: the value that went in or out, and the new count
abbrev pub change_of : ℤ → ℕ → Result Moved Alarm
change_of v n = Ok (record { value = v; count = n })

-- the count after a change: the new one where it was done
abbrev pub count_after : Result Moved Alarm → ℕ → ℕ
count_after (Ok m) n = m.count
count_after (Err a) n = n

-- so many places with so many in use are a FIFO
unfoldable pub fits : ℕ → ℕ → Bool
fits size n = eqb size places && leb n places

-- writing [0] appends; a full FIFO gives alarm 33
unfoldable pub append_answer : List ℤ → ℕ → ℤ → Result Moved Alarm
append_answer xs n v = cond (fits (length xs) n) (cond (eqb n places) (Err FifoFull) (change_of v (n + 1))) (Err Unsound)

unfoldable pub appended : List ℤ → ℕ → ℤ → List ℤ
appended xs n v = cond (fits (length xs) n) (cond (eqb n places) xs (set xs n v)) xs

-- the first n places without the first of them, then a 0, then the rest
unfoldable pub shifted : List ℤ → ℕ → List ℤ
shifted xs n = take (n - 1) (drop 1 xs) ++ (pos 0 ∷ drop n xs)

-- reading [0] gives the oldest and removes it; an empty FIFO gives alarm 32
unfoldable pub remove_answer : List ℤ → ℕ → Result Moved Alarm
remove_answer xs n = cond (fits (length xs) n) (cond (eqb n 0) (Err FifoEmpty) (change_of (get_or xs 0 (pos 0)) (n - 1))) (Err Unsound)

unfoldable pub removed : List ℤ → ℕ → List ℤ
removed xs n = cond (fits (length xs) n) (cond (eqb n 0) xs (shifted xs n)) xs

-- the value at a place; an empty FIFO gives alarm 32
abbrev pub value_at : List ℤ → ℕ → ℕ → Result ℤ Alarm
value_at xs n i = cond (fits (length xs) n) (cond (eqb n 0) (Err FifoEmpty) (Ok (get_or xs i (pos 0)))) (Err Unsound)

-- [1] reads the oldest, [2] the newest
unfoldable pub oldest_of : List ℤ → ℕ → Result ℤ Alarm
oldest_of xs n = value_at xs n 0

unfoldable pub newest_of : List ℤ → ℕ → Result ℤ Alarm
newest_of xs n = value_at xs n (n - 1)

-- the exact sum of the first n places
unfoldable pub sum_first : List ℤ → ℕ → ℤ
sum_first xs zero = pos 0
sum_first xs (suc n) = sum_first xs n +ℤ get_or xs n (pos 0)

-- the sum of a list
unfoldable pub sum_all : List ℤ → ℤ
sum_all [] = pos 0
sum_all (x ∷ xs) = x +ℤ sum_all xs

-- [3] reads the exact sum, alarm 30 if it is out of range
unfoldable pub total_of : List ℤ → ℕ → Result ℤ Alarm
total_of xs n = cond (fits (length xs) n) (valued (sum_first xs n)) (Err Unsound)

-- [4] reads the count, as a value: in whole units
unfoldable pub count_of : List ℤ → ℕ → Result ℤ Alarm
count_of xs n = cond (fits (length xs) n) (Ok (pos (n * unit))) (Err Unsound)

-- every place 0
unfoldable pub cleared : List ℤ → List ℤ
cleared xs = replicate (length xs) (pos 0)

-- writing 0 to [4] empties; another value there gives alarm 34
unfoldable pub empty_answer : List ℤ → ℕ → ℤ → Result Moved Alarm
empty_answer xs n v = cond (fits (length xs) n) (cond (equal_to v (pos 0)) (change_of (pos 0) 0) (Err NotAllowed)) (Err Unsound)

unfoldable pub emptied : List ℤ → ℕ → ℤ → List ℤ
emptied xs n v = cond (fits (length xs) n) (cond (equal_to v (pos 0)) (cleared xs) xs) xs
