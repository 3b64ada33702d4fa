-- Which codes a call may answer, by their names (Codes of `values`). Definitions only.
use Rattle.std.specs.Prelude.{◌≡◌, ◌⊎◌, List, [], ◌∷◌, ℕ}
use Rattle.values.specs.Codes.{short_buffer, wrong_numbers, unsound, faulty_channel, out_of_range, zero_divisor, fifo_empty, fifo_full, not_allowed, unknown_line}

-- x is one of some
abbrev pub OneOf : {A : Type 0} → A → List A → Type 0
OneOf x [] = ⊥
OneOf x (y ∷ ys) = (y ≡ x) ⊎ OneOf x ys

-- what may end the turns of a beat: the alarms 30 to 34, and 22
abbrev pub turn_codes : List ℕ
turn_codes = unsound ∷ out_of_range ∷ zero_divisor ∷ fifo_empty ∷ fifo_full ∷ not_allowed ∷ []

-- the alarms of SYNFCT: it divides nothing
abbrev pub synfct_codes : List ℕ
synfct_codes = out_of_range ∷ fifo_empty ∷ fifo_full ∷ not_allowed ∷ []

-- what may stop a beat: its checks, and what may end its turns
abbrev pub beat_codes : List ℕ
beat_codes = short_buffer ∷ wrong_numbers ∷ faulty_channel ∷ turn_codes

-- what may refuse a host's call
abbrev pub host_codes : List ℕ
host_codes = unsound ∷ unknown_line ∷ []
