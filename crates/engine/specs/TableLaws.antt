-- Laws of the table of a set: its sections lie one behind the other and fill it, and so do the places of its lists. Assumes nothing.
use Rattle.std.specs.Prelude.{◌≡◌, refl, ℕ, ◌+◌, ◌≤◌}
use Rattle.std.proofs.Common.{arith}
use Rattle.tokens.specs.Token.{max_lines, max_curves, max_lists, max_list_lines}
use Rattle.engine.specs.Set.{count_place, start_place, curve_place, list_place, list_line_place, first_place}

-- the sections: the count, the starts of lines, those of curves, the lists, then the tokens
pub sections : (start_place 0 ≡ count_place + 1) × (curve_place 1 ≡ start_place max_lines) × (list_place 1 ≡ curve_place max_curves + 1) × (first_place ≡ list_place (max_lists + 1))
sections = (refl, refl, refl, refl)

-- a list: its count, then the starts of its lines, up to the next list
pub list-section : (n : ℕ) → 1 ≤ n → (list_line_place n 0 ≡ list_place n + 1) × (list_line_place n max_list_lines ≡ list_place (n + 1))
list-section n h = (omega arith, omega arith)
