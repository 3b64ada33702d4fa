-- All that synrun prints, and synstat, from all that it reads (document 01, "On both sides of each edge"; document 02, Req 06 and 07). Definitions only.
use Rattle.std.specs.Prelude.{true, false, List, [], ◌∷◌, ◌++◌, ℕ, zero, suc, ◌+◌, eqb, None, Some}
use Rattle.reader.specs.Load.{load_answer, load_set}
use Rattle.transcript.specs.BeatLine.{line_said}
use Rattle.transcript.specs.Output.{load_line, error_line}
use Rattle.transcript.specs.declared.totals.Totals.{Totals}
use Rattle.transcript.specs.Totals.{last_line, no_totals, ended}
use Rattle.transcript.specs.declared.view.View.{View}
use Rattle.transcript.specs.declared.view.View.TheVariants.{Run, Status}
use Rattle.transcript.specs.Tally.{said_counted, said_printed}
use Rattle.transcript.specs.Input.{Input, input_of}

-- the lines left: beats and calls
unfoldable pub beats_text : List ℕ → Totals → List (List ℕ) → List ℕ
beats_text s n [] = ended s n
beats_text s n (l ∷ ls) =
    elim (eqb n.counts.lines last_line) [
      | true ↦ ended s n
      | false ↦
          elim (line_said l) [
            | None ↦ error_line (n.counts.lines + 1)
            | Some x ↦ said_printed s n x ++ beats_text s (said_counted s n x) ls
          ]
    ]

-- L if loading fails; else the beats
unfoldable pub loaded_text : View → Input → List ℕ
loaded_text v i =
    elim (load_answer i.text).code [
      | zero ↦ beats_text (load_set i.text) (no_totals v) i.beats
      | suc c ↦ load_line (suc c) (load_answer i.text).line
    ]

unfoldable pub printout : View → List ℕ → List ℕ
printout v t = loaded_text v (input_of t)

-- the run: each beat, and END
abbrev pub synrun : List ℕ → List ℕ
synrun t = printout Run t

-- the status picture at its end
abbrev pub synstat : List ℕ → List ℕ
synstat t = printout Status t
