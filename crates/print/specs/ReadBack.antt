-- What is read back of a token that is written (document 02, Req 01): the token, a number with the mark of a written point just where it has a fraction. Definitions only.
use Rattle.std.specs.Prelude.{true, false, ℕ, ◌+◌, ◌*◌, ◌%◌, eqb}
use Rattle.values.specs.Value.{unit}
use Rattle.tokens.specs.Token.{NUMBER, is_number, number_carried, thousandths}

-- so many thousandths below a unit are written with a point, if there are any
unfoldable pub mark : ℕ → ℕ
mark f = elim (eqb f 0) [ true ↦ 0 | false ↦ 1 ]

unfoldable pub read_back : ℕ → ℕ
read_back t = elim (is_number t) [ true ↦ NUMBER + (thousandths (number_carried t) * 2 + mark (thousandths (number_carried t) % unit)) | false ↦ t ]
