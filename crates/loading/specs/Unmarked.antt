-- A line of the grammar, and a definition, as a set holds it: each number without the mark of a written point. Definitions only.
use Rattle.std.specs.Prelude.{ℕ, ◌-◌, ◌%◌}
use Rattle.grammar.specs.Tree.{Line, Definition}
use Rattle.grammar.specs.NumbersTo.{numbers_to, definition_to}

-- a number carries twice its thousandths, and one more for a written point: the one more goes
abbrev pub unmarked : ℕ → ℕ
unmarked n = n - n % 2

abbrev pub unmarked_tree : Line → Line
unmarked_tree = numbers_to unmarked

abbrev pub unmarked_definition : Definition → Definition
unmarked_definition = definition_to unmarked
