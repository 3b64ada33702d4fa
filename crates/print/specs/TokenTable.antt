-- Lines as they are printed, computed: document 01's first line, what document 02 says of zeros, spaces and brackets (Req 01), and a curve and its use (Req 03). Assumes nothing.
use Rattle.std.specs.Prelude.{◌≡◌, refl, List, [], ◌∷◌, map, ℕ}
use Prim.Native.String.{String}
use Rattle.text.specs.Byte.{bytes, run}
use Rattle.text.specs.Digits.{digits_up}
use Rattle.text.specs.Word.{word_token}
use Rattle.text.specs.Number.{written, is_fit, number_token}
use Rattle.text.specs.First.{word_first, behind_point, number_with, number_first, sign_first, first_token}
use Rattle.text.specs.Tokens.{tokens_from, tokens_of}
use Rattle.print.specs.TokenText.{part_digits, part_text, number_text, name_text, token_text, needs_space, gap, line_text}
use Rattle.print.specs.PrintText.{behind_text, rows_text}

-- the lines of a text's rows, printed
abbrev printed : List String → List ℕ
printed ls = rows_text (map (λ (l : String). (tokens_of (bytes l)).list) ls)

tried :
    map printed (
    ("ID=1 EVERY $A_IN[1]==1 DO $AC_MARKER[0]=$AC_MARKER[0]+1 M=7" ∷ [])
    ∷ ("IDS = 007 WHEN NOT ( ( TRUE ) ) DO $R[ 01 ] = - -1.500 $R[2]=00.050+2.000 M=0000" ∷ [])
    ∷ ("ID=2 WHEN $R[1]<$R[2] AND 1.25>=-$AC_FIFO1[3] DO POS[X]=$AA_IM[X]*2 MOV[Y]=1 LOCK(1)" ∷ "ID=3 DO SETAL(65000) M=1 M=2" ∷ [])
    ∷ ("FCTDEF( 01 , -0, 10.500 , -1.50, 0.250,0 ,-0.000)" ∷ "ID=4 DO SYNFCT( 1, $R[ 02 ], $A_INA[1] ) SYNFCT(01,$AC_PARAM[3],$AA_IM[X])" ∷ [])
    ∷ []
    ∷ []
    )
    ≡ bytes "ID=1 EVERY$A_IN[1]==1 DO$AC_MARKER[0]=$AC_MARKER[0]+1 M=7"
    ∷ bytes "IDS=7 WHEN NOT((TRUE))DO$R[1]=--1.5$R[2]=0.05+2 M=0"
    ∷ bytes "ID=2 WHEN$R[1]<$R[2]AND 1.25>=-$AC_FIFO1[3]DO POS[X]=$AA_IM[X]*2 MOV[Y]=1 LOCK(1)\nID=3 DO SETAL(65000)M=1 M=2"
    ∷ bytes "FCTDEF(1,-0,10.5,-1.5,0.25,0,-0)\nID=4 DO SYNFCT(1,$R[2],$A_INA[1])SYNFCT(1,$AC_PARAM[3],$AA_IM[X])"
    ∷ []
    ∷ []
unfolding run digits_up word_token written is_fit number_token word_first behind_point number_with number_first sign_first first_token tokens_from tokens_of part_digits part_text number_text name_text token_text needs_space gap line_text behind_text rows_text
tried = refl
