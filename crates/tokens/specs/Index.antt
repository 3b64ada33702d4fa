-- The indices that each variable has (document 01, the table of variables). Definitions only.
use Rattle.std.specs.Prelude.{Bool, cond, ℕ, eqb}
use Rattle.tokens.specs.Token.{IN, INA, OUT, MARKER, PARAM, R, TIMER, FIFO4, IM, between, is_fifo}

-- $AC_MARKER, $AC_PARAM, $R, $AC_TIMER and the FIFOs begin at 0, all others at 1
abbrev pub first_index : ℕ → ℕ
first_index w = cond (between MARKER FIFO4 w) 0 1

-- $A_IN 16, $A_INA 8, $A_OUT 16, $AC_MARKER 31, $AC_PARAM 31, $R 163, $AC_TIMER 7, $AC_FIFO1 to 4 4, $AA_IM 6; a word that is no variable has no index
abbrev pub last_index : ℕ → ℕ
last_index w =
    cond (eqb w R) 163
    (cond (between MARKER PARAM w) 31
    (cond (eqb w TIMER) 7
    (cond (is_fifo w) 4
    (cond (eqb w INA) 8
    (cond (eqb w IM) 6
    (cond (eqb w IN) 16
    (cond (eqb w OUT) 16 0)))))))

unfoldable pub is_inside : ℕ → ℕ → Bool
is_inside w i = between (first_index w) (last_index w) i
