-- The status picture: for each line of the set its kind, number, standing and how often it acted (document 02, Req 06; document 002, 2.9.1). Definitions only.
use Rattle.std.specs.Prelude.{Bool, true, false, cond, List, ℕ, zero, suc, get_or, set, replicate, Result, Ok, Err}
use Rattle.values.specs.Codes.{unsound}
use Rattle.tokens.specs.Token.{max_lines}
use Rattle.checking.specs.declared.line.Line.{Line}
use Rattle.engine.specs.declared.state.State.{State}
use Rattle.engine.specs.declared.status.Standing.{Standing}
use Rattle.engine.specs.declared.status.Standing.TheVariants.{Locked, Cancelled, Waiting}
use Rattle.engine.specs.declared.status.LineStatus.{LineStatus}
use Rattle.engine.specs.declared.status.Status.{Status}
use Rattle.engine.specs.Set.{no_line, lines_of}
use Rattle.engine.specs.Sound.{is_sound}

-- cancelled, locked, or neither, which is waiting: also a WHEN line that has acted, and an ID line while the mode is not AUTOMATIC
unfoldable pub standing_of : Bool → Bool → Standing
standing_of cancelled locked = cond cancelled Cancelled (cond locked Locked Waiting)

-- the line of rank k
unfoldable pub line_status : Line → State → ℕ → LineStatus
line_status l st k = record { ids = l.ids; number = l.number; standing = standing_of (get_or st.cancelled k false) (get_or st.locked k false); acts = get_or st.acts k 0 }

-- of no line
abbrev pub no_status : LineStatus
no_status = record { ids = false; number = 0; standing = Waiting; acts = 0 }

-- the first n lines, by rising number
unfoldable pub status_lines : List Line → State → ℕ → List LineStatus
status_lines ls st zero = replicate max_lines no_status
status_lines ls st (suc n) = set (status_lines ls st n) n (line_status (get_or ls n no_line) st n)

-- the picture; refused 22 where the set or the state is not sound, and then without lines
unfoldable pub status_of : List ℕ → State → Result Status ℕ
status_of s st =
    elim (is_sound s st) [
      | true ↦ Ok (record { count = (lines_of s).count; lines = status_lines (lines_of s).items st (lines_of s).count })
      | false ↦ Err unsound
    ]
