-- All that synprint prints, from all that it reads (document 02, Req 01): what the control really holds of a set text. Definitions only.
use Rattle.std.specs.Prelude.{List, ℕ, zero, suc, ◌+◌}
use Rattle.tokens.specs.Token.{text_size}
use Rattle.reader.specs.Load.{load_answer, load_set}
use Rattle.transcript.specs.Input.{input_of}
use Rattle.transcript.specs.Output.{load_line}
use Rattle.print.specs.PrintText.{print_text}

-- the print of the set that a text loads, or L
unfoldable pub loaded_print : List ℕ → List ℕ
loaded_print t =
    elim (load_answer t).code [
      | zero ↦ print_text (load_set t)
      | suc c ↦ load_line (suc c) (load_answer t).line
    ]

-- of the text before the line *
unfoldable pub synprint : List ℕ → List ℕ
synprint t = loaded_print (input_of t).text

-- the bytes of input that are read: a text of 4,097 bytes is refused whatever it holds, and the line * behind one of 4,096 takes three more
abbrev pub input_size : ℕ
input_size = text_size + 4
