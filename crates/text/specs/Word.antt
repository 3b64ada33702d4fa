-- The words and the signs of documents 01 and 02, each with its token: one table of names, read both ways. Definitions only.
use Rattle.std.specs.Prelude.{Bool, true, false, List, [], ◌∷◌, ◌++◌, Option, None, Some, ℕ, zero, suc, ◌+◌, eqb}
use Rattle.std.specs.Str.{bytes_eq}
use Rattle.tokens.specs.Token.{EQUALS, SAME, OTHER, LESS, MORE, ATMOST, ATLEAST, PLUS, MINUS, TIMES, OVER, OPEN, CLOSE, LEFT, RIGHT, ID, IDS, WHEN, WHENEVER, FROM, EVERY, DO, TRUE, FALSE, NOT, AND, OR, XOR, COMMA, FCTDEF, IN, INA, OUT, MARKER, PARAM, R, TIMER, FIFO1, FIFO4, IM, POS, FA, MOV, M, SETAL, LOCK, UNLOCK, SYNFCT, X, W}
use Rattle.text.specs.Byte.{bytes}

-- names and their tokens
abbrev pub Words : Type 0
Words = List (List ℕ × ℕ)

-- ---- the table

-- the signs of two bytes
abbrev pub pairs : Words
pairs = (bytes "==", SAME) ∷ (bytes "<>", OTHER) ∷ (bytes "<=", ATMOST) ∷ (bytes ">=", ATLEAST) ∷ []

-- of one byte
abbrev pub singles : Words
singles =
    (bytes "=", EQUALS) ∷ (bytes "<", LESS) ∷ (bytes ">", MORE) ∷ (bytes "+", PLUS) ∷ (bytes "-", MINUS) ∷ (bytes "*", TIMES) ∷ (bytes "/", OVER)
    ∷ (bytes "(", OPEN) ∷ (bytes ")", CLOSE) ∷ (bytes "[", LEFT) ∷ (bytes "]", RIGHT) ∷ (bytes ",", COMMA) ∷ []

-- the words: keywords
abbrev pub keywords : Words
keywords =
    (bytes "ID", ID) ∷ (bytes "IDS", IDS) ∷ (bytes "WHEN", WHEN) ∷ (bytes "WHENEVER", WHENEVER) ∷ (bytes "FROM", FROM) ∷ (bytes "EVERY", EVERY) ∷ (bytes "DO", DO)
    ∷ (bytes "TRUE", TRUE) ∷ (bytes "FALSE", FALSE) ∷ (bytes "NOT", NOT) ∷ (bytes "AND", AND) ∷ (bytes "OR", OR) ∷ (bytes "XOR", XOR) ∷ (bytes "FCTDEF", FCTDEF) ∷ []

-- variables
abbrev pub variables : Words
variables =
    (bytes "$A_IN", IN) ∷ (bytes "$A_INA", INA) ∷ (bytes "$A_OUT", OUT) ∷ (bytes "$AC_MARKER", MARKER) ∷ (bytes "$AC_PARAM", PARAM) ∷ (bytes "$R", R) ∷ (bytes "$AC_TIMER", TIMER)
    ∷ (bytes "$AC_FIFO1", FIFO1) ∷ (bytes "$AC_FIFO2", FIFO1 + 1) ∷ (bytes "$AC_FIFO3", FIFO1 + 2) ∷ (bytes "$AC_FIFO4", FIFO4) ∷ (bytes "$AA_IM", IM) ∷ []

-- actions
abbrev pub actions : Words
actions =
    (bytes "POS", POS) ∷ (bytes "FA", FA) ∷ (bytes "MOV", MOV) ∷ (bytes "M", M) ∷ (bytes "SETAL", SETAL) ∷ (bytes "LOCK", LOCK) ∷ (bytes "UNLOCK", UNLOCK)
    ∷ (bytes "SYNFCT", SYNFCT) ∷ []

-- axes
abbrev pub axes : Words
axes =
    (bytes "X", X) ∷ (bytes "Y", X + 1) ∷ (bytes "Z", X + 2) ∷ (bytes "U", X + 3) ∷ (bytes "V", X + 4) ∷ (bytes "W", W) ∷ []

abbrev pub words : Words
words = keywords ++ variables ++ actions ++ axes

abbrev pub names : Words
names = pairs ++ (singles ++ words)

-- ---- read both ways

abbrev pub same_bytes : List ℕ → List ℕ → Bool
same_bytes a b = bytes_eq a b

-- the token of a name; 0 if it has none
abbrev pub token_in : Words → List ℕ → ℕ
token_in [] word = 0
token_in (w ∷ ws) word = elim (same_bytes word w.0) [ true ↦ w.1 | false ↦ token_in ws word ]

-- the name of a token; no bytes if it has none
abbrev pub name_in : Words → ℕ → List ℕ
name_in [] t = []
name_in (w ∷ ws) t = elim (eqb w.1 t) [ true ↦ w.0 | false ↦ name_in ws t ]

-- the token of a word; 0 if it makes none
unfoldable pub word_token : List ℕ → ℕ
word_token word = token_in words word

-- a token as an answer: none if it is 0
abbrev pub some_token : ℕ → Option ℕ
some_token zero = None
some_token (suc t) = Some (suc t)
