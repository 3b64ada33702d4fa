-- The tokens of a line, a number each (document 01, "Lines of text"). 0 ends a line. Definitions only.
-- A number in the text is 2^31, twice its thousandths, and one more if a point was written; a stored set has no such mark.
use Rattle.std.specs.Prelude.{◌≡◌, Bool, ◌&&◌, ◌||◌, List, ℕ, ◌+◌, ◌-◌, ◌*◌, ◌/◌, ◌%◌, ◌<◌, eqb, leb, length, get_or}

-- the lines that a set may have, the actions of each, and the bytes of its text
abbrev pub max_lines : ℕ
max_lines = 32

abbrev pub max_actions : ℕ
max_actions = 8

abbrev pub text_size : ℕ
text_size = 4096

-- the curves and the lists that a set has places for, and the lines of a list
abbrev pub max_curves : ℕ
max_curves = 3

abbrev pub max_lists : ℕ
max_lists = 8

abbrev pub max_list_lines : ℕ
max_list_lines = 16

-- the places before the tokens: how many lines and where each starts, where each curve starts, and of each list how many lines and where each starts
abbrev pub table_size : ℕ
table_size = 1 + max_lines + max_curves + max_lists * (1 + max_list_lines)

-- the places of a set: its table, and the tokens of a text with an end to each line
abbrev pub set_size : ℕ
set_size = table_size + (text_size + 1)

-- more than the places of a set: what places are counted by where one number holds a place and more
abbrev pub room : ℕ
room = 8192

-- ---- the table: signs, words, variables, actions, axes

abbrev pub END : ℕ
END = 0

-- = == <> < > <= >= + - * / ( ) [ ]
abbrev pub EQUALS : ℕ
EQUALS = 1

abbrev pub SAME : ℕ
SAME = 2

abbrev pub OTHER : ℕ
OTHER = 3

abbrev pub LESS : ℕ
LESS = 4

abbrev pub MORE : ℕ
MORE = 5

abbrev pub ATMOST : ℕ
ATMOST = 6

abbrev pub ATLEAST : ℕ
ATLEAST = 7

abbrev pub PLUS : ℕ
PLUS = 8

abbrev pub MINUS : ℕ
MINUS = 9

abbrev pub TIMES : ℕ
TIMES = 10

abbrev pub OVER : ℕ
OVER = 11

abbrev pub OPEN : ℕ
OPEN = 12

abbrev pub CLOSE : ℕ
CLOSE = 13

abbrev pub LEFT : ℕ
LEFT = 14

abbrev pub RIGHT : ℕ
RIGHT = 15

abbrev pub ID : ℕ
ID = 16

abbrev pub IDS : ℕ
IDS = 17

abbrev pub WHEN : ℕ
WHEN = 18

abbrev pub WHENEVER : ℕ
WHENEVER = 19

abbrev pub FROM : ℕ
FROM = 20

abbrev pub EVERY : ℕ
EVERY = 21

abbrev pub DO : ℕ
DO = 22

abbrev pub TRUE : ℕ
TRUE = 23

abbrev pub FALSE : ℕ
FALSE = 24

abbrev pub NOT : ℕ
NOT = 25

abbrev pub AND : ℕ
AND = 26

abbrev pub OR : ℕ
OR = 27

abbrev pub XOR : ℕ
XOR = 28

-- ,
abbrev pub COMMA : ℕ
COMMA = 29

abbrev pub FCTDEF : ℕ
FCTDEF = 30

-- $A_IN $A_INA $A_OUT $AC_MARKER $AC_PARAM $R $AC_TIMER $AC_FIFO1 to $AC_FIFO4, which have a number for an index, and $AA_IM, which has an axis
abbrev pub IN : ℕ
IN = 32

abbrev pub INA : ℕ
INA = 33

abbrev pub OUT : ℕ
OUT = 34

abbrev pub MARKER : ℕ
MARKER = 35

abbrev pub PARAM : ℕ
PARAM = 36

abbrev pub R : ℕ
R = 37

abbrev pub TIMER : ℕ
TIMER = 38

abbrev pub FIFO1 : ℕ
FIFO1 = 39

abbrev pub FIFO4 : ℕ
FIFO4 = 42

abbrev pub IM : ℕ
IM = 43

abbrev pub POS : ℕ
POS = 48

abbrev pub FA : ℕ
FA = 49

abbrev pub MOV : ℕ
MOV = 50

abbrev pub M : ℕ
M = 51

abbrev pub SETAL : ℕ
SETAL = 52

abbrev pub LOCK : ℕ
LOCK = 53

abbrev pub UNLOCK : ℕ
UNLOCK = 54

abbrev pub SYNFCT : ℕ
SYNFCT = 56

-- X Y Z U V W
abbrev pub X : ℕ
X = 57

abbrev pub W : ℕ
W = 62

abbrev pub NUMBER : ℕ
NUMBER = 2147483648

-- ---- what a token is

abbrev pub between : ℕ → ℕ → ℕ → Bool
between low high t = leb low t && leb t high

abbrev pub is_number : ℕ → Bool
is_number t = leb NUMBER t

abbrev pub is_variable : ℕ → Bool
is_variable t = between IN IM t

-- a variable whose index is a number
abbrev pub is_numbered : ℕ → Bool
is_numbered t = between IN FIFO4 t

-- $AA_IM, POS, FA or MOV: the index is an axis
abbrev pub has_axis : ℕ → Bool
has_axis w = leb IM w

abbrev pub is_fifo : ℕ → Bool
is_fifo t = between FIFO1 FIFO4 t

abbrev pub is_axis : ℕ → Bool
is_axis t = between X W t

-- POS, FA or MOV
abbrev pub is_drive : ℕ → Bool
is_drive t = between POS MOV t

-- POS or MOV; FA is no move
abbrev pub is_move : ℕ → Bool
is_move t = eqb t POS || eqb t MOV

-- SETAL, LOCK or UNLOCK
abbrev pub is_call : ℕ → Bool
is_call t = between SETAL UNLOCK t

abbrev pub is_lock : ℕ → Bool
is_lock t = between LOCK UNLOCK t

-- the words whose first number in brackets is a name: LOCK and UNLOCK name a line, SYNFCT a curve
abbrev pub is_naming : ℕ → Bool
is_naming t = is_lock t || eqb t SYNFCT

-- WHEN, WHENEVER, FROM or EVERY
abbrev pub is_keyword : ℕ → Bool
is_keyword t = between WHEN EVERY t

-- ID or IDS
abbrev pub is_id : ℕ → Bool
is_id t = between ID IDS t

abbrev pub is_bracket : ℕ → Bool
is_bracket t = between OPEN CLOSE t

abbrev pub is_factor : ℕ → Bool
is_factor t = between TIMES OVER t

abbrev pub is_term : ℕ → Bool
is_term t = between PLUS MINUS t

-- + - * or /
abbrev pub is_arithmetic : ℕ → Bool
is_arithmetic t = is_factor t || is_term t

abbrev pub is_compare : ℕ → Bool
is_compare t = between SAME ATLEAST t

abbrev pub is_logic : ℕ → Bool
is_logic t = between AND XOR t

-- no token of a row is the end of a line
abbrev pub AllReal : List ℕ → Type 0
AllReal l = (i : ℕ) → i < length l → get_or l i 0 ≡ 0 → ⊥

-- ---- what a token carries

-- twice the thousandths of a number, and one more for a written point
abbrev pub number_carried : ℕ → ℕ
number_carried t = t - NUMBER

abbrev pub thousandths : ℕ → ℕ
thousandths n = n / 2

-- a number written without a point
abbrev pub is_whole : ℕ → Bool
is_whole t = is_number t && eqb (number_carried t % 2000) 0

abbrev pub whole : ℕ → ℕ
whole t = number_carried t / 2000

-- the token of a whole number
abbrev pub whole_token : ℕ → ℕ
whole_token n = NUMBER + n * 2000

-- X to W are 1 to 6
abbrev pub axis_of : ℕ → ℕ
axis_of t = t - 56
