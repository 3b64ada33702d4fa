-- Names in a table of bytes as the code has them: each in a row of so many bytes, with spaces behind it. Definitions only.
use Rattle.std.specs.Prelude.{Bool, not, List, ℕ, take, drop}
use Rattle.text.specs.Byte.{is_space, run}

-- the bytes of a name at most
abbrev pub longest_name : ℕ
longest_name = 10

abbrev pub no_space : ℕ → Bool
no_space b = not (is_space b)

-- how many bytes stand before the first space
abbrev pub solid_size : List ℕ → ℕ
solid_size row = run no_space row

-- the name whose row begins at a place of a table
unfoldable pub row_in : List ℕ → ℕ → ℕ → List ℕ
row_in table width start = let row = take width (drop start table) in take (solid_size row) row
