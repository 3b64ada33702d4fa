-- The input of a session as the code takes it in: set text up to the line *, then the lines behind it, each in parts of any size, and what the end of a line brings. Nothing is worked or printed here. Definitions only.
use Rattle.std.specs.Prelude.{Bool, true, false, ◌&&◌, List, ℕ, leb, set}
use Rattle.text.specs.Byte.{LF}
use Rattle.values.specs.PutAt.{put_at}
use Rattle.transcript.specs.declared.set_text.Place.{Place}
use Rattle.transcript.specs.declared.beat_line.HalfLine.{HalfLine}
use Rattle.transcript.specs.declared.intake.Intake.{Intake}
use Rattle.transcript.specs.declared.intake.Arrival.{Arrival}
use Rattle.transcript.specs.declared.intake.Arrival.TheVariants.{Nothing, WholeText, LineCame}
use Rattle.transcript.specs.declared.intake.Arrived.{Arrived}
use Rattle.transcript.specs.declared.intake.Phase.{Phase}
use Rattle.transcript.specs.declared.intake.Phase.TheVariants.{Text, Beats, Over}
use Rattle.transcript.specs.SetText.{kept_size, no_place, star_ends, place_on, place_end, last_size}
use Rattle.transcript.specs.HalfLine.{last_field, no_half_line, read_on, is_untouched, without_cr, read_said}

-- ---- an intake

-- no more is taken in
abbrev pub is_over : Intake → Bool
is_over x = elim x.phase [ Over ↦ true | _ ↦ false ]

-- the lines behind the line * are awaited
abbrev pub in_beats : Intake → Bool
in_beats x = elim x.phase [ Beats ↦ true | _ ↦ false ]

-- before the first byte
abbrev pub no_intake : Intake
no_intake = record { phase = Text; place = no_place; half = no_half_line }

abbrev pub with_phase : Intake → Phase → Intake
with_phase x p = record { phase = p; place = x.place; half = x.half }

abbrev pub with_place : Intake → Place → Intake
with_place x p = record { phase = x.phase; place = p; half = x.half }

abbrev pub with_half_line : Intake → HalfLine → Intake
with_half_line x r = record { phase = x.phase; place = x.place; half = r }

-- one that could have come from a beginning
unfoldable pub intake_fits : Intake → Bool
intake_fits x = leb x.place.size kept_size && (leb x.place.start x.place.size && leb x.half.field last_field)

-- ---- bytes of a line, no LF among them

unfoldable pub bytes_taken : Intake → List ℕ → Intake
bytes_taken x l =
    elim x.phase [
      | Text ↦ with_place x (place_on x.place l)
      | Beats ↦ with_half_line x (read_on x.half l)
      | _ ↦ x
    ]

-- the kept text t with them
unfoldable pub bytes_kept : Intake → List ℕ → List ℕ → List ℕ
bytes_kept x t l = elim x.phase [ Text ↦ put_at t x.place.size l | _ ↦ t ]

-- ---- the end of a line, and of the input

-- the size of the set text, where that is whole
abbrev pub size_in : Arrival → ℕ
size_in (WholeText n) = n
size_in _ = 0

abbrev pub nothing_came : Intake → Arrived
nothing_came x = record { intake = x; arrival = Nothing }

-- n bytes are the set text, and the lines behind the line * follow
abbrev pub text_whole : Intake → ℕ → Arrived
text_whole x n = record { intake = with_phase (with_half_line x no_half_line) Beats; arrival = WholeText n }

-- a line behind the line * that was read
abbrev pub line_read : Intake → HalfLine → Arrived
line_read x r = record { intake = with_half_line x no_half_line; arrival = LineCame (read_said r) }

-- the LF of a line of set text: behind the line * the text before it is whole
unfoldable pub text_line_over : Intake → Arrived
text_line_over x = elim (star_ends x.place.star) [ true ↦ text_whole x x.place.start | false ↦ nothing_came (with_place x (place_end x.place)) ]

unfoldable pub text_line_kept : Intake → List ℕ → List ℕ
text_line_kept x t = elim (star_ends x.place.star) [ true ↦ t | false ↦ set t x.place.size LF ]

-- an LF
unfoldable pub line_over : Intake → Arrived
line_over x =
    elim x.phase [
      | Text ↦ text_line_over x
      | Beats ↦ line_read x (without_cr x.half)
      | _ ↦ nothing_came x
    ]

unfoldable pub line_kept : Intake → List ℕ → List ℕ
line_kept x t = elim x.phase [ Text ↦ text_line_kept x t | _ ↦ t ]

-- the end of input: a last line has no LF
unfoldable pub input_over : Intake → Arrived
input_over x =
    elim x.phase [
      | Text ↦ text_whole x (last_size x.place)
      | Beats ↦ elim (is_untouched x.half) [ true ↦ nothing_came x | false ↦ line_read x x.half ]
      | _ ↦ nothing_came x
    ]
