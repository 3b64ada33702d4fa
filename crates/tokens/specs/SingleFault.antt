-- The faults of single things: brackets, a number, an index, a place that is read or written, an M, a line number, a curve number (document 01, "Codes"; document 02, Req 03). Definitions only.
use Rattle.std.specs.Prelude.{Bool, true, false, cond, not, ◌&&◌, ◌||◌, List, [], ◌∷◌, ℕ, ◌+◌, ◌-◌, min, eqb, leb, ltb}
use Rattle.std.specs.Bool.{beq}
use Rattle.values.specs.Codes.{confused, outside, read_only, m_alone}
use Rattle.values.specs.Value.{top}
use Rattle.tokens.specs.Token.{max_curves, END, OPEN, CLOSE, WHEN, EVERY, OUT, TIMER, R, SETAL, between, is_fifo, thousandths}
use Rattle.tokens.specs.Index.{is_inside}

-- the lower of two faults, where 0 is none
unfoldable pub lower : ℕ → ℕ → ℕ
lower a b = cond (eqb a 0) b (cond (eqb b 0) a (min a b))

abbrev pub unless : Bool → ℕ → ℕ
unless true k = 0
unless false k = k

abbrev pub brackets_open : ℕ
brackets_open = 8

-- more than eight are open at some place of these tokens, where n are open before them; a ) with none open counts nothing
unfoldable pub opens_too_many : List ℕ → ℕ → Bool
opens_too_many [] n = false
opens_too_many (t ∷ ts) n =
    elim (eqb t END) [
      | true ↦ false
      | false ↦
          elim (eqb t OPEN) [
            | true ↦ elim (leb brackets_open n) [ true ↦ true | false ↦ opens_too_many ts (n + 1) ]
            | false ↦ elim (eqb t CLOSE) [ true ↦ opens_too_many ts (n - 1) | false ↦ opens_too_many ts n ]
          ]
    ]

-- 6: a yes/no where a number is wanted, or a number where a yes/no is
unfoldable pub wanting_fault : Bool → Bool → ℕ
wanting_fault wanted t = unless (beq wanted t) confused

-- 7: a number is at most 1,000,000; the reader of a text marks one that has too many digits as above that
unfoldable pub number_fault : ℕ → ℕ
number_fault n = unless (leb (thousandths n) top) outside

-- 7 and 8: an index inside its range, and FIFO [0] read elsewhere
unfoldable pub read_fault : ℕ → ℕ → ℕ
read_fault w i = lower (unless (is_inside w i) outside) (unless (not (is_fifo w && eqb i 0)) read_only)

-- 8: $A_OUT, $AC_MARKER, $AC_PARAM, $AC_TIMER; $R below 100; FIFO [0] and [4]
unfoldable pub is_writable : ℕ → ℕ → Bool
is_writable w i =
    cond (is_fifo w) (eqb i 0 || eqb i 4)
    (cond (eqb w R) (ltb i 100) (between OUT TIMER w))

unfoldable pub write_fault : ℕ → ℕ → ℕ
write_fault w i = lower (unless (is_inside w i) outside) (unless (is_writable w i) read_only)

-- M 0..99, and only under WHEN or EVERY
unfoldable pub code_fault : ℕ → ℕ → ℕ
code_fault kw n = lower (unless (leb n 99) outside) (unless (eqb kw WHEN || eqb kw EVERY) m_alone)

-- a line number is 1..255
unfoldable pub id_fault : ℕ → ℕ
id_fault n = unless (between 1 255 n) outside

-- SETAL 65000..69999, LOCK and UNLOCK name a line
unfoldable pub call_fault : ℕ → ℕ → ℕ
call_fault w n = cond (eqb w SETAL) (unless (between 65000 69999 n) outside) (id_fault n)

-- a curve's number is 1..3
unfoldable pub curve_fault : ℕ → ℕ
curve_fault n = unless (between 1 max_curves n) outside
