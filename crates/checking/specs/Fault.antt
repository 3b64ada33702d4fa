-- Faults 4 to 10 and 14 of a line, from its tokens, and where its parts lie (document 01, "Lines of text" and "Codes"; document 02, Req 03 and Req 08). Definitions only.
use Rattle.std.specs.Prelude.{Bool, true, false, cond, not, ◌&&◌, ◌||◌, List, [], ◌∷◌, ◌++◌, ℕ, zero, suc, ◌+◌, eqb, leb, drop, Result, Ok, Err}
use Rattle.values.specs.Codes.{too_deep, not_in_grammar, too_many_actions, two_moves}
use Rattle.checking.specs.declared.line.Line.{Line}
use Rattle.tokens.specs.Token.{set_size, END, EQUALS, OPEN, CLOSE, COMMA, IDS, DO, M, SYNFCT, is_variable, is_fifo, is_drive, is_move, is_call, is_naming, is_keyword, is_id, is_arithmetic, is_logic, is_whole, whole, max_actions}
use Rattle.tokens.specs.Descent.{token, good, Read, read, ends, then, Meaning, is_indexed, index_at, sum_at, expression_at}
use Rattle.tokens.specs.SingleFault.{call_fault, code_fault, curve_fault, id_fault, lower, number_fault, opens_too_many, read_fault, unless, wanting_fault, write_fault}

-- ---- 5 to 8 in an expression

-- what the check makes of an expression: a yes/no or a number, and the lowest fault of 6 to 8 in it
pub record Sight : Type 0 where
  pub truth : Bool
  pub fault : ℕ

abbrev pub wanting : Bool → Sight → ℕ
wanting wanted a = wanting_fault wanted a.truth

-- the lowest fault of two side by side, where yes/no (true) or numbers (false) are wanted
abbrev pub lowest : Bool → Sight → Sight → ℕ
lowest wanted a b = lower (lower (wanting wanted a) (wanting wanted b)) (lower a.fault b.fault)

unfoldable pub join_sights : ℕ → Sight → Sight → Sight
join_sights o a b = record { truth = not (is_arithmetic o); fault = lowest (is_logic o) a b }

-- behind a sign: a number behind -, a yes/no behind NOT, and it gives the same
abbrev pub signed : Bool → Sight → Sight
signed t a = record { truth = t; fault = lower (wanting t a) a.fault }

unfoldable pub sight : Meaning Sight
sight = record {
  number = λ n. good (record { truth = false; fault = number_fault n });
  variable = λ w i. good (record { truth = false; fault = read_fault w i });
  truth = λ b. record { truth = true; fault = 0 };
  minus = λ a. good (signed false a);
  not = signed true;
  join = λ o a b. good (join_sights o a b);
  wrong = not_in_grammar;
}

-- an expression where a yes/no (true) or a number (false) is wanted: its lowest fault of 6 to 8
abbrev pub fault_for : Bool → Read Sight → Read ℕ
fault_for t (read a q) = read (signed t a).fault q
fault_for t (ends k) = ends k

-- ---- 10, 14, a line's number, a line's fault

-- 10: at most eight actions
unfoldable pub count_fault : ℕ → ℕ
count_fault n = unless (leb n max_actions) too_many_actions

unfoldable pub is_among : ℕ → List ℕ → Bool
is_among x [] = false
is_among x (y ∷ ys) = eqb x y || is_among x ys

-- no axis stands twice among these
unfoldable pub are_apart : List ℕ → Bool
are_apart [] = true
are_apart (x ∷ xs) = not (is_among x xs) && are_apart xs

-- 14: of the axes that a line moves none is moved twice
unfoldable pub moves_fault : List ℕ → ℕ
moves_fault xs = unless (are_apart xs) two_moves

-- a line's number as a byte; 0 for one above 255
unfoldable pub number_of : ℕ → ℕ
number_of n = cond (leb n 255) n 0

-- what is told of a line is its parts, or its lowest fault: that fault as a number, 0 for none
abbrev pub fault_of_line : Result Line ℕ → ℕ
fault_of_line (Ok l) = 0
fault_of_line (Err k) = k

module _ (s : List ℕ) where
  -- ---- 5 to 9 in an action

  -- FIFO [0] stands at p as a whole, unbracketed right side
  unfoldable pub is_removal : ℕ → Bool
  is_removal p =
      is_fifo (token s p) && (is_indexed s (token s p) p && (eqb (index_at s (token s p) p) 0 && not (is_arithmetic (token s (p + 4)))))

  -- the right side of an assignment to a variable
  unfoldable pub assigned_at : ℕ → ℕ → Read ℕ
  assigned_at k p = elim (is_removal p) [ true ↦ read 0 (p + 4) | false ↦ fault_for false (sum_at s sight k p) ]

  -- behind the word w at p, its index and =: an assignment, or POS, FA or MOV
  unfoldable pub assignment_at : ℕ → ℕ → ℕ → Read ℕ
  assignment_at k w p =
      elim (is_variable w) [
        | true ↦ then (assigned_at k (p + 5)) (λ f q. read (lower (write_fault w (index_at s w p)) f) q)
        | false ↦ elim (is_drive w) [ true ↦ fault_for false (sum_at s sight k (p + 5)) | false ↦ ends not_in_grammar ]
      ]

  -- M= and a number; or SETAL, LOCK or UNLOCK and a number in brackets
  unfoldable pub command_at : ℕ → ℕ → ℕ → Read ℕ
  command_at kw w p =
      elim (is_whole (token s (p + 2))) [
        | true ↦
            elim (eqb w M) [
              | true ↦ elim (eqb (token s (p + 1)) EQUALS) [ true ↦ read (code_fault kw (whole (token s (p + 2)))) (p + 3) | false ↦ ends not_in_grammar ]
              | false ↦
                  elim (is_call w && (eqb (token s (p + 1)) OPEN && eqb (token s (p + 3)) CLOSE)) [
                    | true ↦ read (call_fault w (whole (token s (p + 2)))) (p + 4)
                    | false ↦ ends not_in_grammar
                  ]
            ]
        | false ↦ ends not_in_grammar
      ]

  -- , and a variable with its index stand from p on
  unfoldable pub is_given : ℕ → Bool
  is_given p = eqb (token s p) COMMA && (is_variable (token s (p + 1)) && is_indexed s (token s (p + 1)) (p + 1))

  -- behind the word at p: (, a whole number, a target and a variable, each behind a , and )
  unfoldable pub is_synfct : ℕ → Bool
  is_synfct p =
      eqb (token s (p + 1)) OPEN && (is_whole (token s (p + 2)) && (is_given (p + 3) && (is_given (p + 8) && eqb (token s (p + 13)) CLOSE)))

  -- of the curve's number, of the target that is written and of the variable that is read; FIFO [0] may not be read here (reading D20)
  unfoldable pub synfct_fault : ℕ → ℕ
  synfct_fault p =
      lower (curve_fault (whole (token s (p + 2))))
      (lower (write_fault (token s (p + 4)) (index_at s (token s (p + 4)) (p + 4))) (read_fault (token s (p + 9)) (index_at s (token s (p + 9)) (p + 9))))

  -- SYNFCT at p, a curve's number, a target and a variable in brackets
  unfoldable pub synfct_at : ℕ → Read ℕ
  synfct_at p = elim (is_synfct p) [ true ↦ read (synfct_fault p) (p + 14) | false ↦ ends not_in_grammar ]

  -- an action that begins with the word w at p, no index behind it
  unfoldable pub unindexed_at : ℕ → ℕ → ℕ → Read ℕ
  unindexed_at kw w p = elim (eqb w SYNFCT) [ true ↦ synfct_at p | false ↦ command_at kw w p ]

  -- the action at p, of a line with the keyword kw: its lowest fault of 6 to 9
  unfoldable pub action_at : ℕ → ℕ → ℕ → Read ℕ
  action_at kw k p =
      elim (is_indexed s (token s p) p) [
        | true ↦ elim (eqb (token s (p + 4)) EQUALS) [ true ↦ assignment_at k (token s p) p | false ↦ ends not_in_grammar ]
        | false ↦ unindexed_at kw (token s p) p
      ]

  -- the axis that the action at p moves, if it is a move
  unfoldable pub moves_at : ℕ → List ℕ
  moves_at p = cond (is_move (token s p)) (index_at s (token s p) p ∷ []) []

  -- one or more actions up to the line's end, where n stand before them, these move the axes m, and f is the lowest fault so far: the lowest fault of 6 to 10, or 14
  unfoldable pub actions_at : ℕ → ℕ → ℕ → ℕ → List ℕ → ℕ → ℕ → Read ℕ
  actions_at kw k zero n m f p = ends not_in_grammar
  actions_at kw k (suc j) n m f p =
      then (action_at kw k p) (λ g q.
      elim (eqb (token s q) END) [
        | true ↦ read (lower (lower f g) (lower (count_fault (n + 1)) (moves_fault (m ++ moves_at p)))) q
        | false ↦ actions_at kw k j (n + 1) (m ++ moves_at p) (lower f g) q
      ])

  -- whether one of these actions names a line or a curve: LOCK, UNLOCK or SYNFCT
  unfoldable pub names_from : ℕ → ℕ → ℕ → ℕ → Bool
  names_from kw k zero p = false
  names_from kw k (suc j) p =
      elim (action_at kw k p) [
        | read g q ↦ is_naming (token s p) || elim (eqb (token s q) END) [ true ↦ false | false ↦ names_from kw k j q ]
        | ends c ↦ false
      ]

  -- ---- a line

  -- the line at p, with the keyword kw over a condition at cp (0 and 0 if it has none) and actions from a on, which have the lowest fault f and end at e
  unfoldable pub line_parts : ℕ → ℕ → ℕ → ℕ → Read ℕ → Result Line ℕ
  line_parts p kw cp a (read f e) =
      elim (eqb f 0) [
        | true ↦ Ok (record {
          number = number_of (whole (token s (p + 2)));
          ids = eqb (token s p) IDS;
          keyword = kw;
          condition = cp;
          actions = a;
          end = e;
          names = names_from kw set_size set_size a;
        })
        | false ↦ Err f
      ]
  line_parts p kw cp a (ends k) = Err k

  -- DO at q and the actions behind it, where f is the lowest fault before them
  unfoldable pub body_at : ℕ → ℕ → ℕ → ℕ → ℕ → Result Line ℕ
  body_at p kw cp f q =
      elim (eqb (token s q) DO) [
        | true ↦ line_parts p kw cp (q + 1) (actions_at kw set_size set_size 0 [] f (q + 1))
        | false ↦ Err not_in_grammar
      ]

  -- behind the head: DO, or a keyword, an expression that is a yes/no, and DO
  unfoldable pub rest_at : ℕ → ℕ → Result Line ℕ
  rest_at p f =
      elim (is_keyword (token s (p + 3))) [
        | true ↦
            elim (fault_for true (expression_at s sight set_size (p + 4))) [
              | read g q ↦ body_at p (token s (p + 3)) (p + 4) (lower f g) q
              | ends k ↦ Err k
            ]
        | false ↦ body_at p 0 0 f (p + 3)
      ]

  -- the line that begins at p, of which 5 to 10 and 14 tell l: 4 comes first
  abbrev pub judged : ℕ → Result Line ℕ → Result Line ℕ
  judged p l = elim (opens_too_many (drop p s) 0) [ true ↦ Err too_deep | false ↦ l ]

  -- the line that begins at p: its lowest fault of 4 to 10, or 14, or its parts
  unfoldable pub line_at : ℕ → Result Line ℕ
  line_at p =
      judged p (elim (is_id (token s p) && (eqb (token s (p + 1)) EQUALS && is_whole (token s (p + 2)))) [
        | true ↦ rest_at p (id_fault (whole (token s (p + 2))))
        | false ↦ Err not_in_grammar
      ])
