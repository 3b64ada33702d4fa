-- What a write makes of the variables of a beat under way (the struct `Vars`: R, the cells, which timers run), each by its own rule (document 01, "Values and time"). Definitions only.
use Rattle.std.specs.Prelude.{Bool, true, false, List, ◌++◌, ℕ, ◌+◌, eqb, ℤ, pos, get_or, set, take, drop, Result, Ok, Err}
use Rattle.values.specs.Codes.{unsound, code_of}
use Rattle.values.specs.Value.{marker_of, output_of}
use Rattle.values.specs.Time.{timer, written_timer}
use Rattle.values.specs.Fifo.{places, append_answer, appended, remove_answer, removed, empty_answer, emptied}
use Rattle.values.specs.declared.codes.Alarm.{Alarm}
use Rattle.values.specs.declared.fifo.Moved.{Moved}
use Rattle.tokens.specs.Token.{OUT, MARKER, PARAM, R, TIMER, is_fifo}
use Rattle.tokens.specs.Descent.{Answer, good, stop, ◌>>=◌}
use Rattle.tokens.specs.Index.{is_inside}
use Rattle.working.specs.Variables.{input_count, count_at, cell_of, fifo_of, run_at, run, beat_count}
use Rattle.working.specs.Operators.{from_worked}
use Rattle.engine.specs.declared.write.Change.{Change}
use Rattle.engine.specs.declared.write.Change.TheVariants.{Append, Remove, Empty}
use Rattle.engine.specs.declared.write.Vars.{Vars}

-- a FIFO changed: the value that went in or out, R, the cells
pub record Changed : Type 0 where
  pub value : ℤ
  pub r : List ℤ
  pub cells : List ℤ

-- R with the run of FIFO k replaced
abbrev pub with_run : List ℤ → ℕ → List ℤ → List ℤ
with_run r k xs = take (run_at k) r ++ (xs ++ drop (run_at k + places) r)

-- what a change of FIFO k gives, where xs is its run afterwards
abbrev pub moved : List ℤ → List ℤ → ℕ → List ℤ → Result Moved Alarm → Answer Changed
moved r c k xs (Ok m) = good (record { value = m.value; r = with_run r k xs; cells = set c (input_count + count_at + k) (pos m.count) })
moved r c k xs (Err a) = stop (code_of a)

-- a change of a FIFO (the enum `Change`): what it answers, and its run afterwards
unfoldable pub change_answer : Change → List ℤ → ℕ → Result Moved Alarm
change_answer (Append v) xs n = append_answer xs n v
change_answer Remove xs n = remove_answer xs n
change_answer (Empty v) xs n = empty_answer xs n v

unfoldable pub changed : Change → List ℤ → ℕ → List ℤ
changed (Append v) xs n = appended xs n v
changed Remove xs n = removed xs n
changed (Empty v) xs n = emptied xs n v

unfoldable pub change_fifo : List ℤ → List ℤ → Change → ℕ → Answer Changed
change_fifo r c op w =
    let k = fifo_of w in
    let n = beat_count c k in
    moved r c k (changed op (run r k) n) (change_answer op (run r k) n)

abbrev pub with_changed : Vars → Changed → Vars
with_changed x a = record { r = a.r; cells = a.cells; runs = x.runs }

-- writing FIFO [0] appends, writing [4] empties
unfoldable pub write_fifo : Vars → ℕ → ℕ → ℤ → Answer Vars
write_fifo x w i v =
    elim (eqb i 0) [
      | true ↦ change_fifo x.r x.cells (Append v) w >>= λ a. good (with_changed x a)
      | false ↦ elim (eqb i 4) [ true ↦ change_fifo x.r x.cells (Empty v) w >>= λ a. good (with_changed x a) | false ↦ stop unsound ]
    ]

-- a cell and which timers run, after a write
pub record Celled : Type 0 where
  pub cells : List ℤ
  pub runs : List Bool

-- a timer is written: its cell, and whether it runs
abbrev pub write_timer : List ℤ → List Bool → ℕ → ℕ → ℤ → Celled
write_timer c runs at i v =
    let t = written_timer (timer (get_or c at (pos 0)) (get_or runs i false)) v in
    record { cells = set c at t.time.0; runs = set runs i t.runs }

-- what a target made of a value goes into a cell; its alarm ends the write
abbrev pub put_cell : List ℤ → List Bool → ℕ → Result ℤ Alarm → Answer Celled
put_cell c runs at made = from_worked made >>= λ u. good (record { cells = set c at u; runs = runs })

-- a marker takes the nearest whole unit, a parameter any value, an output 0 or 1
unfoldable pub write_cell : List ℤ → List Bool → ℕ → ℕ → ℤ → Answer Celled
write_cell c runs w i v =
    elim (eqb w MARKER) [
      | true ↦ put_cell c runs (cell_of w i) (marker_of v)
      | false ↦
          elim (eqb w PARAM) [
            | true ↦ good (record { cells = set c (cell_of w i) v; runs = runs })
            | false ↦
                elim (eqb w OUT) [
                  | true ↦ put_cell c runs (cell_of w i) (output_of v)
                  | false ↦ elim (eqb w TIMER) [ true ↦ good (write_timer c runs (cell_of w i) i v) | false ↦ stop unsound ]
                ]
          ]
    ]

-- the variable w[i] is written, each by its own rule
unfoldable pub write_inside : Vars → ℕ → ℕ → ℤ → Answer Vars
write_inside x w i v =
    elim (eqb w R) [
      | true ↦ good (record { r = set x.r i v; cells = x.cells; runs = x.runs })
      | false ↦
          elim (is_fifo w) [
            | true ↦ write_fifo x w i v
            | false ↦ write_cell x.cells x.runs w i v >>= λ a. good (record { r = x.r; cells = a.cells; runs = a.runs })
          ]
    ]

unfoldable pub write_to : Vars → ℕ → ℕ → ℤ → Answer Vars
write_to x w i v = elim (is_inside w i) [ true ↦ write_inside x w i v | false ↦ stop unsound ]
