-- A text by the trees of its lines (document 01, "Lines of text" and "Codes"; document 02, Req 03): what a text has that is taken, and what refuses one, with code and line; trees by rising number.
-- Definitions only.
use Rattle.std.specs.Prelude.{◌≡◌, Bool, true, false, List, [], ◌∷◌, ◌++◌, map, ◌⊎◌, ℕ, ◌≤◌, ◌<◌, eqb, ltb, length, get_or}
use Rattle.values.specs.Codes.{too_long, too_many_lines, makes_no_token, too_deep, not_in_grammar, used_above, not_in_set, wrong_curve}
use Rattle.values.specs.Value.{less_than}
use Rattle.tokens.specs.Token.{END, FCTDEF, SYNFCT, is_lock, max_lines, text_size}
use Rattle.tokens.specs.SingleFault.{opens_too_many}
use Rattle.grammar.specs.Tree.{Line, tree_number, WrittenAs, Definition, DefinedAs}
use Rattle.grammar.specs.TreeFault.{moves_in, AxesApart, parts_fault, line_fault, curve_in, numbers_fault, definition_fault}
use Rattle.grammar.specs.TreeNames.{Name, names_in}
use Rattle.soundness.specs.AnswerCodes.{OneOf}
use Rattle.text.specs.Tokens.{tokens_of}
use Rattle.text.specs.Lines.{Numbered, token_lines}

-- ---- numbers

-- no two of some numbers are equal
abbrev pub Distinct : List ℕ → Type 0
Distinct [] = Unit {0}
Distinct (n ∷ ns) = (OneOf n ns → ⊥) × Distinct ns

-- ---- by rising number

-- x, which has the number f x, put among some by rising number
unfoldable pub put : {A : Type 0} → (A → ℕ) → A → List A → List A
put f x [] = x ∷ []
put f x (y ∷ ys) = elim (ltb (f x) (f y)) [ true ↦ x ∷ y ∷ ys | false ↦ y ∷ put f x ys ]

-- some by rising number: each put among those behind it
unfoldable pub in_order : {A : Type 0} → (A → ℕ) → List A → List A
in_order f [] = []
in_order f (x ∷ xs) = put f x (in_order f xs)

-- the lines of a text by rising number
abbrev pub rising_trees : List Line → List Line
rising_trees xs = in_order tree_number xs

-- its definitions by the rising numbers of their curves
abbrev pub curve_number : Definition → ℕ
curve_number d = d.number

abbrev pub rising_definitions : List Definition → List Definition
rising_definitions ds = in_order curve_number ds

-- the numbers of some rise, from above n on
abbrev pub RisesBy : {A : Type 0} → (A → ℕ) → ℕ → List A → Type 0
RisesBy f n [] = Unit {0}
RisesBy f n (x ∷ xs) = (n < f x) × RisesBy f (f x) xs

-- ---- a line of the text

-- its bytes make tokens
abbrev pub MakesTokens : Numbered → Type 0
MakesTokens l = (tokens_of l.body).good ≡ true

-- its brackets are open up to eight deep
abbrev pub Shallow : Numbered → Type 0
Shallow l = opens_too_many (tokens_of l.body).list 0 ≡ false

-- the line x of the grammar is written as its tokens
abbrev pub IsLine : Numbered → Line → Type 0
IsLine l x = WrittenAs x (tokens_of l.body).list

-- it is the line x, which has no fault of 3 to 10 or 14
pub record GoodLine (l : Numbered) (x : Line) : Type 0 where
  pub tokens : MakesTokens l
  pub shallow : Shallow l
  pub written : IsLine l x
  pub faultless : line_fault x ≡ 0

-- the definition d is written as its tokens
abbrev pub IsDefinition : Numbered → Definition → Type 0
IsDefinition l d = DefinedAs d (tokens_of l.body).list

-- it is the definition d, which has no fault of 3 to 7 and no lower limit above the upper one
pub record GoodCurve (l : Numbered) (d : Definition) : Type 0 where
  pub tokens : MakesTokens l
  pub shallow : Shallow l
  pub written : IsDefinition l d
  pub faultless : definition_fault d ≡ 0

-- ---- names

-- the numbers of some names, of those whose word passes a test
unfoldable pub numbers_named : (ℕ → Bool) → List Name → List ℕ
numbers_named is [] = []
numbers_named is (m ∷ ms) = elim (is m.word) [ true ↦ m.number ∷ numbers_named is ms | false ↦ numbers_named is ms ]

-- the numbers that a line names by LOCK and UNLOCK: lines,
abbrev pub lines_named : Line → List ℕ
lines_named x = numbers_named is_lock (names_in x)

-- and by SYNFCT: curves
abbrev pub curves_named : Line → List ℕ
curves_named x = numbers_named (λ w. eqb w SYNFCT) (names_in x)

-- the lines that it names are all of the numbers ns
abbrev pub NamesOnly : List ℕ → Line → Type 0
NamesOnly ns x = (n : ℕ) → OneOf n (lines_named x) → OneOf n ns

abbrev pub AllNameOnly : List ℕ → List Line → Type 0
AllNameOnly ns [] = Unit {0}
AllNameOnly ns (x ∷ xs) = NamesOnly ns x × AllNameOnly ns xs

-- the curves that it names are all of the numbers cs
abbrev pub UsesOnly : List ℕ → Line → Type 0
UsesOnly cs x = (n : ℕ) → OneOf n (curves_named x) → OneOf n cs

abbrev pub AllUseOnly : List ℕ → List Line → Type 0
AllUseOnly cs [] = Unit {0}
AllUseOnly cs (x ∷ xs) = UsesOnly cs x × AllUseOnly cs xs

-- ---- a line below others

-- what stands above it: the numbers of curves and of lines
pub record Above : Type 0 where
  pub curves : List ℕ
  pub numbers : List ℕ

abbrev pub none_above : Above
none_above = record { curves = []; numbers = [] }

-- a curve more, or a line
abbrev pub below_curve : Above → Definition → Above
below_curve a d = record { curves = a.curves ++ (curve_number d ∷ []); numbers = a.numbers }

abbrev pub below_line : Above → Line → Above
below_line a x = record { curves = a.curves; numbers = a.numbers ++ (tree_number x ∷ []) }

-- it defines a curve: no numbered line stands above it
abbrev pub MayDefine : Above → Type 0
MayDefine a = a.numbers ≡ []

-- it has the number of no line above it, and uses no curve but those above it
abbrev pub IsNewLine : Above → Line → Type 0
IsNewLine a x = (OneOf (tree_number x) a.numbers → ⊥) × UsesOnly a.curves x

-- no curve above it has its number
abbrev pub IsNewCurve : Above → Definition → Type 0
IsNewCurve a d = MayDefine a × (OneOf (curve_number d) a.curves → ⊥)

-- its fault is c, the first of 3 to 10, 14, 11 and 13
pub data Faulty (a : Above) (l : Numbered) (c : ℕ) : Type 0 where
  no_token : c ≡ makes_no_token → (tokens_of l.body).good ≡ false → Faulty a l c
  deep : c ≡ too_deep → MakesTokens l → opens_too_many (tokens_of l.body).list 0 ≡ true → Faulty a l c
  no_line : c ≡ not_in_grammar → MakesTokens l → Shallow l → ((x : Line) → IsLine l x → ⊥) → (MayDefine a → (d : Definition) → IsDefinition l d → ⊥) → Faulty a l c
  line_faulty : 0 < c → MakesTokens l → Shallow l → (x : Line) → IsLine l x → line_fault x ≡ c → Faulty a l c
  number_used : c ≡ used_above → (x : Line) → GoodLine l x → OneOf (tree_number x) a.numbers → Faulty a l c
  curve_faulty : 0 < c → MayDefine a → MakesTokens l → Shallow l → (d : Definition) → IsDefinition l d → definition_fault d ≡ c → Faulty a l c
  curve_used : c ≡ wrong_curve → MayDefine a → (d : Definition) → GoodCurve l d → OneOf (curve_number d) a.curves → Faulty a l c
  curve_unknown : c ≡ wrong_curve → (x : Line) → GoodLine l x → (OneOf (tree_number x) a.numbers → ⊥) → (n : ℕ) → OneOf n (curves_named x) → (OneOf n a.curves → ⊥) → Faulty a l c

-- what 13 says: a definition whose lower limit is above its upper one, whose numbers have no fault; one of a curve that is defined above; or a line without a fault of 3 to 11 or 14 that uses a curve
-- which is not defined above
pub data WrongCurve (a : Above) (l : Numbered) : Type 0 where
  limits_crossed : MayDefine a → MakesTokens l → Shallow l → (d : Definition) → IsDefinition l d → numbers_fault d ≡ 0 → less_than (curve_in d).upper (curve_in d).lower ≡ true → WrongCurve a l
  defined_twice : MayDefine a → (d : Definition) → GoodCurve l d → OneOf (curve_number d) a.curves → WrongCurve a l
  not_defined : (x : Line) → GoodLine l x → (OneOf (tree_number x) a.numbers → ⊥) → (n : ℕ) → OneOf n (curves_named x) → (OneOf n a.curves → ⊥) → WrongCurve a l

-- what 14 says: a line without another fault of its own that moves an axis twice
pub record TwoMoves (a : Above) (l : Numbered) : Type 0 where
  pub tokens : MakesTokens l
  pub shallow : Shallow l
  pub tree : Line
  pub written : IsLine l tree
  pub parts : parts_fault tree ≡ 0
  pub twice : AxesApart (moves_in tree) → ⊥

-- ---- the lines of the text

-- each moves no axis twice
abbrev pub AllMoveOnce : List Line → Type 0
AllMoveOnce [] = Unit {0}
AllMoveOnce (x ∷ xs) = AxesApart (moves_in x) × AllMoveOnce xs

-- in two stretches: those in front that begin with FCTDEF, and the rest
abbrev pub begins_curve : Numbered → Bool
begins_curve l = eqb (get_or (tokens_of l.body).list 0 END) FCTDEF

unfoldable pub curve_lines : List Numbered → List Numbered
curve_lines [] = []
curve_lines (l ∷ ls) = elim (begins_curve l) [ true ↦ l ∷ curve_lines ls | false ↦ [] ]

unfoldable pub row_lines : List Numbered → List Numbered
row_lines [] = []
row_lines (l ∷ ls) = elim (begins_curve l) [ true ↦ row_lines ls | false ↦ l ∷ ls ]

-- they are the lines xs, one for one, without a fault of 3 to 10 or 14
abbrev pub GoodLines : List Numbered → List Line → Type 0
GoodLines [] [] = Unit {0}
GoodLines [] (x ∷ xs) = ⊥
GoodLines (l ∷ ls) [] = ⊥
GoodLines (l ∷ ls) (x ∷ xs) = GoodLine l x × GoodLines ls xs

-- they are the definitions ds, one for one, without a fault
abbrev pub GoodCurves : List Numbered → List Definition → Type 0
GoodCurves [] [] = Unit {0}
GoodCurves [] (d ∷ ds) = ⊥
GoodCurves (l ∷ ls) [] = ⊥
GoodCurves (l ∷ ls) (d ∷ ds) = GoodCurve l d × GoodCurves ls ds

-- they are the definitions ds and behind them the lines xs, one for one
abbrev pub GoodText : List Numbered → List Definition → List Line → Type 0
GoodText ls [] xs = GoodLines ls xs
GoodText [] (d ∷ ds) xs = ⊥
GoodText (l ∷ ls) (d ∷ ds) xs = GoodCurve l d × GoodText ls ds xs

-- below what stands above them, the first of some that is neither a new curve nor a new line is as `Bad` says, and stands at the place k of the text
abbrev pub FirstBad : (Above → Numbered → Type 0) → Above → List Numbered → ℕ → Type 0
FirstBad Bad a [] k = ⊥
FirstBad Bad a (l ∷ ls) k =
    (Bad a l × (l.place ≡ k))
    ⊎ (((d : Definition) × GoodCurve l d × IsNewCurve a d × FirstBad Bad (below_curve a d) ls k) ⊎ ((x : Line) × GoodLine l x × IsNewLine a x × FirstBad Bad (below_line a x) ls k))

-- it has the fault c
abbrev pub FirstFaulty : Above → List Numbered → ℕ → ℕ → Type 0
FirstFaulty a ls c k = FirstBad (λ b l. Faulty b l c) a ls k

-- of the lines ls of a text, which are the lines xs, the first that names a line whose number is none of ns stands at the place k of the text
abbrev pub FirstUnnamed : List ℕ → List Numbered → List Line → ℕ → Type 0
FirstUnnamed ns [] xs k = ⊥
FirstUnnamed ns (l ∷ ls) [] k = ⊥
FirstUnnamed ns (l ∷ ls) (x ∷ xs) k =
    (((n : ℕ) × OneOf n (lines_named x) × (OneOf n ns → ⊥)) × (l.place ≡ k))
    ⊎ (NamesOnly ns x × FirstUnnamed ns ls xs k)

-- ---- a text

-- it is short enough, and has few enough lines with tokens
pub record Small (t : List ℕ) : Type 0 where
  pub short : length t ≤ text_size
  pub few : length (token_lines t) ≤ max_lines

-- its lines with tokens are the definitions ds and the lines xs of the grammar, without a fault of 3 to 11, 13 and 14
pub record IsLines (t : List ℕ) (ds : List Definition) (xs : List Line) : Type 0 where
  pub small : Small t
  pub good : GoodText (token_lines t) ds xs
  pub distinct : Distinct (map tree_number xs)
  pub apart : Distinct (map curve_number ds)
  pub uses : AllUseOnly (map curve_number ds) xs

-- WHAT A TEXT HAS THAT IS TAKEN, as the definitions ds and the lines xs: each LOCK and UNLOCK names a number of the set, too
pub record Takes (t : List ℕ) (ds : List Definition) (xs : List Line) : Type 0 where
  pub lines : IsLines t ds xs
  pub named : AllNameOnly (map tree_number xs) xs

-- WHAT REFUSES A TEXT, with the code c and the line k
pub data Refuses (t : List ℕ) (c k : ℕ) : Type 0 where
  long : c ≡ too_long → k ≡ 0 → text_size < length t → Refuses t c k
  many : c ≡ too_many_lines → k ≡ 0 → length t ≤ text_size → max_lines < length (token_lines t) → Refuses t c k
  faulty : Small t → FirstFaulty none_above (token_lines t) c k → Refuses t c k
  unnamed : c ≡ not_in_set → (ds : List Definition) (xs : List Line) → IsLines t ds xs → FirstUnnamed (map tree_number xs) (row_lines (token_lines t)) xs k → Refuses t c k
