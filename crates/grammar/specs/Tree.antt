-- The grammar of document 01, "Lines of text", and of document 02, Req 03, as trees, brackets kept, and how a tree is written as tokens. Definitions only.
use Rattle.std.specs.Prelude.{◌≡◌, Bool, true, false, List, [], ◌∷◌, ◌++◌, ℕ, ◌+◌, T}
use Rattle.tokens.specs.Token.{END, EQUALS, MINUS, OPEN, CLOSE, LEFT, RIGHT, DO, TRUE, FALSE, NOT, COMMA, FCTDEF, IM, M, SYNFCT, NUMBER, is_numbered, is_axis, is_drive, is_call, is_keyword, is_id, is_factor, is_term, is_compare, is_logic, whole_token, axis_of}

-- operand: number (what its token carries); variable with index; TRUE; FALSE; bracketed expression; - operand; NOT operand
-- product: operands joined by * /; sum: products joined by + -; left to right
-- expression: a sum; two sums joined by one comparison; two or more sums joined all by AND, all by OR or all by XOR
mutual
  pub data Operand : Type 0 where
    number : ℕ → Operand
    variable : (w : ℕ) → T (is_numbered w) → ℕ → Operand
    position : (x : ℕ) → T (is_axis x) → Operand
    truth : Bool → Operand
    bracket : Expression → Operand
    minus : Operand → Operand
    not : Operand → Operand

  pub data Product : Type 0 where
    product : Operand → Factors → Product

  pub data Factors : Type 0 where
    no_factor : Factors
    factor : (o : ℕ) → T (is_factor o) → Operand → Factors → Factors

  pub data Sum : Type 0 where
    sum : Product → Terms → Sum

  pub data Terms : Type 0 where
    no_term : Terms
    term : (o : ℕ) → T (is_term o) → Product → Terms → Terms

  pub data Expression : Type 0 where
    single : Sum → Expression
    compare : (o : ℕ) → T (is_compare o) → Sum → Sum → Expression
    row : (o : ℕ) → T (is_logic o) → Sum → Sums → Expression

  pub data Sums : Type 0 where
    last : Sum → Sums
    next : Sum → Sums → Sums

-- place: a variable with its index
pub data Place : Type 0 where
  cell : (w : ℕ) → T (is_numbered w) → ℕ → Place
  axis : (x : ℕ) → T (is_axis x) → Place

-- action: variable = sum; POS[axis]=, FA[axis]=, MOV[axis]= and a sum; M= number; SETAL(number), LOCK(number), UNLOCK(number); SYNFCT(number,target,variable), a place each
pub data Action : Type 0 where
  assign : (w : ℕ) → T (is_numbered w) → ℕ → Sum → Action
  assign_position : (x : ℕ) → T (is_axis x) → Sum → Action
  drive : (w : ℕ) → T (is_drive w) → (x : ℕ) → T (is_axis x) → Sum → Action
  code : ℕ → Action
  call : (w : ℕ) → T (is_call w) → ℕ → Action
  synfct : ℕ → Place → Place → Action

pub data Condition : Type 0 where
  always : Condition
  under : (w : ℕ) → T (is_keyword w) → Expression → Condition

-- line: ID or IDS, =, number; then nothing or a keyword and an expression; then DO and one or more actions
pub data Line : Type 0 where
  line : (w : ℕ) → T (is_id w) → ℕ → Condition → Action → List Action → Line

-- parameter: a number (what its token carries), or - and a number
pub record Parameter : Type 0 where
  pub negative : Bool
  pub number : ℕ

-- definition: FCTDEF(number,lower,upper,a0,a1,a2,a3), six parameters behind a curve's number
pub record Definition : Type 0 where
  pub number : ℕ
  pub lower : Parameter
  pub upper : Parameter
  pub a0 : Parameter
  pub a1 : Parameter
  pub a2 : Parameter
  pub a3 : Parameter

-- a line's number
abbrev pub tree_number : Line → ℕ
tree_number (line w v n c a r) = n

-- ---- how a tree is written

abbrev indexed : ℕ → ℕ → List ℕ
indexed w i = w ∷ LEFT ∷ i ∷ RIGHT ∷ []

abbrev truth_token : Bool → ℕ
truth_token true = TRUE
truth_token false = FALSE

unfoldable mutual
  pub operand_tokens : Operand → List ℕ
  operand_tokens (number n) = (NUMBER + n) ∷ []
  operand_tokens (variable w v i) = indexed w (whole_token i)
  operand_tokens (position x v) = indexed IM x
  operand_tokens (truth b) = truth_token b ∷ []
  operand_tokens (bracket e) = OPEN ∷ expression_tokens e ++ (CLOSE ∷ [])
  operand_tokens (minus a) = MINUS ∷ operand_tokens a
  operand_tokens (not a) = NOT ∷ operand_tokens a

  pub product_tokens : Product → List ℕ
  product_tokens (product a r) = operand_tokens a ++ factors_tokens r

  pub factors_tokens : Factors → List ℕ
  factors_tokens no_factor = []
  factors_tokens (factor o v a r) = o ∷ operand_tokens a ++ factors_tokens r

  pub sum_tokens : Sum → List ℕ
  sum_tokens (sum a r) = product_tokens a ++ terms_tokens r

  pub terms_tokens : Terms → List ℕ
  terms_tokens no_term = []
  terms_tokens (term o v a r) = o ∷ product_tokens a ++ terms_tokens r

  pub expression_tokens : Expression → List ℕ
  expression_tokens (single a) = sum_tokens a
  expression_tokens (compare o v a b) = sum_tokens a ++ (o ∷ sum_tokens b)
  expression_tokens (row o v a r) = sum_tokens a ++ sums_tokens o r

  pub sums_tokens : ℕ → Sums → List ℕ
  sums_tokens o (last a) = o ∷ sum_tokens a
  sums_tokens o (next a r) = o ∷ sum_tokens a ++ sums_tokens o r

-- a place: its word, its index, and the token of its index
abbrev pub place_word : Place → ℕ
place_word (cell w v i) = w
place_word (axis x v) = IM

abbrev pub place_index : Place → ℕ
place_index (cell w v i) = i
place_index (axis x v) = axis_of x

abbrev pub place_token : Place → ℕ
place_token (cell w v i) = whole_token i
place_token (axis x v) = x

abbrev pub place_tokens : Place → List ℕ
place_tokens y = indexed (place_word y) (place_token y)

unfoldable pub action_tokens : Action → List ℕ
action_tokens (assign w v i a) = indexed w (whole_token i) ++ (EQUALS ∷ sum_tokens a)
action_tokens (assign_position x v a) = indexed IM x ++ (EQUALS ∷ sum_tokens a)
action_tokens (drive w v x u a) = indexed w x ++ (EQUALS ∷ sum_tokens a)
action_tokens (code n) = M ∷ EQUALS ∷ whole_token n ∷ []
action_tokens (call w v n) = w ∷ OPEN ∷ whole_token n ∷ CLOSE ∷ []
action_tokens (synfct n y z) = SYNFCT ∷ OPEN ∷ whole_token n ∷ COMMA ∷ place_tokens y ++ (COMMA ∷ place_tokens z ++ (CLOSE ∷ []))

unfoldable pub actions_tokens : Action → List Action → List ℕ
actions_tokens a [] = action_tokens a
actions_tokens a (b ∷ r) = action_tokens a ++ actions_tokens b r

unfoldable pub condition_tokens : Condition → List ℕ
condition_tokens always = []
condition_tokens (under w v e) = w ∷ expression_tokens e

-- the tokens of a line, and the 0 that ends it
unfoldable pub line_tokens : Line → List ℕ
line_tokens (line w v n c a r) =
    w ∷ EQUALS ∷ whole_token n ∷ condition_tokens c ++ (DO ∷ actions_tokens a r ++ (END ∷ []))

-- the line l is written as the tokens ts
abbrev pub WrittenAs : Line → List ℕ → Type 0
WrittenAs l ts = line_tokens l ≡ ts ++ (END ∷ [])

-- a parameter, and the sign t behind it
unfoldable pub parameter_tokens : Parameter → ℕ → List ℕ
parameter_tokens x t = elim x.negative [ true ↦ MINUS ∷ (NUMBER + x.number) ∷ t ∷ [] | false ↦ (NUMBER + x.number) ∷ t ∷ [] ]

-- the tokens of a definition but the 0 that ends it
unfoldable pub definition_front : Definition → List ℕ
definition_front d =
    FCTDEF ∷ OPEN ∷ whole_token d.number ∷ COMMA
    ∷ parameter_tokens d.lower COMMA
    ++ (parameter_tokens d.upper COMMA
    ++ (parameter_tokens d.a0 COMMA
    ++ (parameter_tokens d.a1 COMMA
    ++ (parameter_tokens d.a2 COMMA
    ++ parameter_tokens d.a3 CLOSE))))

-- the definition d is written as the tokens ts
abbrev pub DefinedAs : Definition → List ℕ → Type 0
DefinedAs d ts = definition_front d ≡ ts
