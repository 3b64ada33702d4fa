-- The variables that a line can read: where they lie, and what each reads (document 01, "Values and time"). Definitions only.
-- R lies in a list of its own. The others lie in one list of cells: inputs, analogues and positions of the beat, then outputs, markers, parameters,
-- timers, and the counts of the four FIFOs.
use Rattle.std.specs.Prelude.{true, false, cond, List, ℕ, ◌+◌, ◌-◌, ◌*◌, eqb, leb, ℤ, pos, negsuc, take, drop, get_or, Result, Ok, Err}
use Rattle.values.specs.Fifo.{places, oldest_of, newest_of, total_of, count_of}
use Rattle.values.specs.declared.codes.Alarm.{Alarm}
use Rattle.values.specs.declared.codes.Alarm.TheVariants.{Unsound}
use Rattle.tokens.specs.Token.{INA, OUT, MARKER, PARAM, R, TIMER, FIFO1, IM, is_fifo}
use Rattle.tokens.specs.Index.{first_index, is_inside}

-- ---- where they lie

abbrev pub timer_count : ℕ
timer_count = 8

abbrev pub fifos : ℕ
fifos = 4

-- where the run of FIFO k, from 0, starts in R, and the places of R: the runs are the last of them
abbrev pub run_at : ℕ → ℕ
run_at k = 100 + places * k

abbrev pub r_count : ℕ
r_count = run_at fifos

-- the cells of a state: outputs, and from these places on markers, parameters, timers and the counts of the FIFOs
abbrev pub marker_at : ℕ
marker_at = 16

abbrev pub param_at : ℕ
param_at = 48

abbrev pub timer_at : ℕ
timer_at = 80

abbrev pub count_at : ℕ
count_at = timer_at + timer_count

abbrev pub state_cells : ℕ
state_cells = count_at + fifos

-- the input cells of a beat: a bit each of the input word, the analogues, and from the place `im_at` on the positions
abbrev pub bit_count : ℕ
bit_count = 16

abbrev pub analogue_count : ℕ
analogue_count = 8

abbrev pub position_count : ℕ
position_count = 6

abbrev pub im_at : ℕ
im_at = bit_count + analogue_count

abbrev pub input_count : ℕ
input_count = im_at + position_count

-- the cells of a beat: those of its inputs, then those of the state
abbrev pub cell_count : ℕ
cell_count = input_count + state_cells

-- the first cell of each variable, in a beat
abbrev pub cell_start : ℕ → ℕ
cell_start w =
    cond (eqb w MARKER) (input_count + marker_at)
    (cond (eqb w PARAM) (input_count + param_at)
    (cond (eqb w TIMER) (input_count + timer_at)
    (cond (eqb w OUT) input_count
    (cond (eqb w INA) bit_count
    (cond (eqb w IM) im_at 0)))))

unfoldable pub cell_of : ℕ → ℕ → ℕ
cell_of w i = cell_start w + (i - first_index w)

-- which FIFO, from 0, a word is
abbrev pub fifo_of : ℕ → ℕ
fifo_of w = w - FIFO1

-- the run of FIFO k in R
abbrev pub run : List ℤ → ℕ → List ℤ
run r k = take places (drop (run_at k) r)

-- a cell as a count; what is no count is beyond every count
abbrev pub as_count : ℤ → ℕ
as_count (pos n) = cond (leb n places) n 255
as_count (negsuc n) = 255

-- the count of FIFO k, in the cells of a state and in those of a beat
abbrev pub count_in : List ℤ → ℕ → ℕ
count_in c k = as_count (get_or c (count_at + k) (pos 0))

unfoldable pub beat_count : List ℤ → ℕ → ℕ
beat_count c k = as_count (get_or c (input_count + count_at + k) (pos 0))

-- ---- what they read

-- [1] the oldest, [2] the newest, [3] the sum, [4] the count; [0] is not read here, so that no condition changes anything
unfoldable pub fifo_value : List ℤ → ℕ → ℕ → Result ℤ Alarm
fifo_value xs n i =
    elim (eqb i 1) [
      | true ↦ oldest_of xs n
      | false ↦
          elim (eqb i 2) [
            | true ↦ newest_of xs n
            | false ↦
                elim (eqb i 3) [
                  | true ↦ total_of xs n
                  | false ↦ elim (eqb i 4) [ true ↦ count_of xs n | false ↦ Err Unsound ]
                ]
          ]
    ]

-- the FIFO of the word w, over R and the cells
unfoldable pub fifo_at : List ℤ → List ℤ → ℕ → ℕ → Result ℤ Alarm
fifo_at r c w i = fifo_value (run r (fifo_of w)) (beat_count c (fifo_of w)) i

-- the variable w[i], over R and the cells
unfoldable pub variable_value : List ℤ → List ℤ → ℕ → ℕ → Result ℤ Alarm
variable_value r c w i =
    elim (is_inside w i) [
      | true ↦
          elim (eqb w R) [
            | true ↦ Ok (get_or r i (pos 0))
            | false ↦ elim (is_fifo w) [ true ↦ fifo_at r c w i | false ↦ Ok (get_or c (cell_of w i) (pos 0)) ]
          ]
      | false ↦ Err Unsound
    ]
