-- Five lines and a curve worked by their trees, from power-on: an example, computed over the definitions.
--   FCTDEF(1,-1,2,0.5,2,0,0)
--   ID=1 EVERY $A_IN[1]==1 DO $AC_MARKER[0]=$AC_MARKER[0]+1 M=7
--   IDS=2 WHENEVER $AC_MARKER[0]>=1 DO $AC_FIFO1[0]=$AC_MARKER[0]*2.5 LOCK(30)
--   ID=30 DO POS[X]=10.5/(1-$A_IN[2])
--   IDS=40 WHEN $AC_FIFO1[4]>0 DO $R[1]=$AC_FIFO1[0] UNLOCK(30)
--   IDS=50 DO SYNFCT(1,$R[2],$AC_MARKER[0])
use Rattle.std.specs.Prelude.{◌≡◌, refl, Bool, true, false, List, [], ◌∷◌, map, ℕ, ◌+◌, ◌*◌, ℤ, pos, get_or, replicate}
use Rattle.values.specs.Codes.{zero_divisor}
use Rattle.values.specs.Complement.{twos_complement}
use Rattle.values.specs.Value.{in_range, valued, sum_of, difference_of, product_of, quotient_of, less_than, equal_to, nearest_units, marker_of}
use Rattle.values.specs.Curve.{polynomial_of, limited_to, curve_of}
use Rattle.values.specs.Fifo.{fits, append_answer, appended, shifted, remove_answer, removed, count_of}
use Rattle.tokens.specs.Token.{SAME, ATLEAST, MORE, MINUS, PLUS, TIMES, OVER, ID, IDS, WHEN, WHENEVER, EVERY, IN, MARKER, R, FIFO1, POS, LOCK, UNLOCK, X, max_lines}
use Rattle.tokens.specs.Descent.{Answer, good, stop, ◌>>=◌}
use Rattle.tokens.specs.Index.{is_inside}
use Rattle.working.specs.Variables.{position_count, cell_of, beat_count, fifo_value, fifo_at, variable_value}
use Rattle.working.specs.Operators.{join_logic, join_truths, join_values}
use Rattle.working.specs.Working.{value_over}
use Rattle.engine.specs.Order.{four_bytes, order_bytes}
use Rattle.engine.specs.Set.{rank_in}
use Rattle.couplers.specs.Conversion.{nearest_even, signed_thousandths, thousandths_of}
use Rattle.couplers.specs.Channel.{fresh_channels, zero_readings, all_good, values_sampled, sampled_all}
use Rattle.engine.specs.State.{power_on}
use Rattle.engine.specs.Timers.{grown_cells}
use Rattle.engine.specs.Cells.{input_cells, beat_cells}
use Rattle.engine.specs.Keyword.{acts, remembers, tries}
use Rattle.engine.specs.Write.{change_answer, changed, change_fifo, write_fifo, write_cell, write_inside, write_to}
use Rattle.engine.specs.Drive.{drive_order}
use Rattle.engine.specs.Action.{curve_assigned}
use Rattle.engine.specs.Turn.{Entry, worked, locks, Turned}
use Rattle.engine.specs.Beat.{beat_begun}
use Rattle.grammar.specs.Tree.{Operand, number, variable, bracket, product, no_factor, factor, Sum, sum, no_term, term, single, compare, assign, drive, code, call, synfct, cell, always, under, Line, line, Parameter, Definition}
use Rattle.grammar.specs.Meaning.{operand_meaning}
use Rattle.grammar.specs.TreeFault.{is_removal_tree, curve_in}
use Rattle.turn_trees.specs.TurnTree.{taken_tree, condition_tree, assign_tree, lock_tree, action_tree, actions_tree, do_tree, try_tree, takes_tree, turn_tree, turns_tree, names_of, curve_named}

-- ---- the lines

-- one operand, and two joined by * or / or by + or -
abbrev one : Operand → Sum
one a = sum (product a no_factor) no_term

-- a number without a point, and one with a point by its thousandths
abbrev whole : ℕ → Operand
whole n = number (n * 2000)

abbrev pointed : ℕ → Operand
pointed v = number (v * 2 + 1)

unfoldable pub five_lines : List Line
five_lines =
    line ID tt 1 (under EVERY tt (compare SAME tt (one (variable IN tt 1)) (one (whole 1))))
    (assign MARKER tt 0 (sum (product (variable MARKER tt 0) no_factor) (term PLUS tt (product (whole 1) no_factor) no_term))) (code 7 ∷ [])
    ∷ line IDS tt 2 (under WHENEVER tt (compare ATLEAST tt (one (variable MARKER tt 0)) (one (whole 1))))
    (assign FIFO1 tt 0 (sum (product (variable MARKER tt 0) (factor TIMES tt (pointed 2500) no_factor)) no_term)) (call LOCK tt 30 ∷ [])
    ∷ line ID tt 30 always
    (drive POS tt X tt (sum (product (pointed 10500) (factor OVER tt (bracket (single (sum (product (whole 1) no_factor) (term MINUS tt (product (variable IN tt 2) no_factor) no_term)))) no_factor)) no_term)) []
    ∷ line IDS tt 40 (under WHEN tt (compare MORE tt (one (variable FIFO1 tt 4)) (one (whole 0))))
    (assign R tt 1 (one (variable FIFO1 tt 0))) (call UNLOCK tt 30 ∷ [])
    ∷ line IDS tt 50 always (synfct 1 (cell R tt 2) (cell MARKER tt 0)) []
    ∷ []

-- a parameter by its sign and what its number carries, as above
abbrev parameter : Bool → ℕ → Parameter
parameter b n = record { negative = b; number = n }

abbrev nought : Parameter
nought = parameter false 0

-- the curve 1: 2x+0.5, from -1 to 2
unfoldable pub one_curve : List Definition
one_curve = record { number = 1; lower = parameter true 2000; upper = parameter false 4000; a0 = parameter false 1001; a1 = parameter false 4000; a2 = nought; a3 = nought } ∷ []

-- ---- what they do

-- which lines acted, bit by bit from the first on; the orders; what is written down; R[1] and R[2] then
pub record Shown : Type 0 where
  pub acted : ℕ
  pub orders : List ℕ
  pub entries : List Entry
  pub first : ℤ
  pub second : ℤ

abbrev shown : Turned → Answer Shown
shown t = good (record { acted = t.world.acted; orders = t.world.orders; entries = t.entries; first = get_or t.world.vars.r 1 (pos 0); second = get_or t.world.vars.r 2 (pos 0) })

-- AUTOMATIC or not, the input word, and what comes of the turns
pub record Case : Type 0 where
  pub automatic : Bool
  pub inputs : ℕ
  pub outcome : Answer Shown

unfoldable pub turn_cases : List Case
turn_cases =
    -- the first acts, the second locks line 30, the fourth takes the value that the second wrote and unlocks line 30; the curve gives 2.5, which is above its upper limit
    record {
      automatic = true;
      inputs = 1;
      outcome = good (record {
        acted = 27;
        orders = 4 ∷ 1 ∷ 0 ∷ 0 ∷ 7 ∷ 0 ∷ 0 ∷ 0 ∷ [];
        entries = worked 0 true ∷ worked 1 true ∷ locks 2 true ∷ worked 3 true ∷ locks 2 false ∷ [];
        first = pos 2500;
        second = pos 2000;
      });
    }
    -- none of the conditions is true: lines 30 and 50 act; one orders POS[X]=10.5, the other writes 0.5
    ∷ record {
      automatic = true;
      inputs = 0;
      outcome = good (record { acted = 20; orders = 1 ∷ 30 ∷ 1 ∷ 0 ∷ 4 ∷ 41 ∷ 0 ∷ 0 ∷ []; entries = worked 0 false ∷ worked 1 false ∷ worked 3 false ∷ []; first = pos 0; second = pos 500 });
    }
    -- without AUTOMATIC the ID lines take no turn
    ∷ record { automatic = false; inputs = 3; outcome = good (record { acted = 16; orders = []; entries = worked 1 false ∷ worked 3 false ∷ []; first = pos 0; second = pos 500 }) }
    -- line 30 divides by 1-1
    ∷ record { automatic = true; inputs = 2; outcome = stop zero_divisor }
    ∷ []

abbrev pub outcome_of : Case → Answer Shown
outcome_of c =
    let names = names_of five_lines (curve_named one_curve) (replicate max_lines false) in
    turns_tree names c.automatic five_lines 0 (beat_begun power_on (record { automatic = c.automatic; word = c.inputs; readings = zero_readings; lent = replicate position_count (pos 0); buffer = [] })) >>= shown

abbrev pub expected : Case → Answer Shown
expected c = c.outcome

pub turn-table : map outcome_of turn_cases ≡ map expected turn_cases
unfolding turn_cases five_lines one_curve curve_named curve_in curve_assigned curve_of polynomial_of limited_to turns_tree turn_tree takes_tree try_tree do_tree actions_tree action_tree lock_tree assign_tree condition_tree taken_tree is_removal_tree operand_meaning value_over variable_value is_inside cell_of beat_count fifo_value fifo_at join_logic join_truths join_values in_range valued sum_of difference_of product_of quotient_of less_than equal_to nearest_units marker_of fits append_answer appended shifted remove_answer removed count_of change_answer changed change_fifo write_fifo write_cell write_inside write_to drive_order twos_complement four_bytes order_bytes rank_in power_on fresh_channels thousandths_of signed_thousandths nearest_even all_good values_sampled sampled_all grown_cells input_cells beat_cells beat_begun acts remembers tries
turn-table = refl
