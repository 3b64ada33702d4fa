-- A set in its array, and one line put into it; and its lines, by rising number, if they and its curves are sound (document 01, "Codes"; document 02, Req 03).
-- Definitions only.
use Rattle.std.specs.Prelude.{Bool, true, false, not, cond, ◌&&◌, ◌||◌, List, [], ◌∷◌, ◌++◌, map, ℕ, zero, suc, ◌+◌, ◌-◌, ◌*◌, ◌%◌, eqb, ltb, leb, get_or, set, replicate, Result, Ok, Err, Option, Some, None, unwrap_or, option_and_then}
use Rattle.values.specs.PutAt.{put_at}
use Rattle.tokens.specs.Token.{END, is_lock, is_naming, is_number, whole, max_lines, max_curves, max_list_lines, table_size, set_size}
use Rattle.values.specs.declared.curve.Curve.{Curve}
use Rattle.checking.specs.Fault.{line_at}
use Rattle.checking.specs.declared.line.Line.{Line}
use Rattle.checking.specs.declared.definition.Definition.{Definition}
use Rattle.checking.specs.CurveDefinition.{no_curve, definition_at}
use Rattle.engine.specs.declared.set.Lines.{Lines}

-- ---- the array

-- the sections of its table: the number of lines, then where the line of each rank begins,
abbrev pub count_place : ℕ
count_place = 0

abbrev pub start_place : ℕ → ℕ
start_place k = 1 + k

-- where curve n begins, from 1,
abbrev pub curve_place : ℕ → ℕ
curve_place n = max_lines + n

-- and for list n, from 1, how many lines it has and where its line j begins, from 0
abbrev pub list_place : ℕ → ℕ
list_place n = start_place max_lines + max_curves + (1 + max_list_lines) * (n - 1)

abbrev pub list_line_place : ℕ → ℕ → ℕ
list_line_place n j = list_place n + 1 + j

-- the tokens stand behind the table
abbrev pub first_place : ℕ
first_place = table_size

abbrev pub line_count : List ℕ → ℕ
line_count s = get_or s count_place 0

-- where the line of a rank begins
abbrev pub start_of : List ℕ → ℕ → ℕ
start_of s k = get_or s (start_place k) 0

-- that line, as its tokens have it
abbrev pub line_of : List ℕ → ℕ → Result Line ℕ
line_of s k = line_at s (start_of s k)

-- where curve n begins; 0: the set has none
abbrev pub curve_start : List ℕ → ℕ → ℕ
curve_start s n = get_or s (curve_place n) 0

-- the line that defines it, as its tokens have it
abbrev pub curve_line : List ℕ → ℕ → Result Definition ℕ
curve_line s n = definition_at s (curve_start s n)

-- and its curve; without such a line it is 0 throughout
abbrev pub curve_in_line : Result Definition ℕ → Curve
curve_in_line (Ok d) = d.curve
curve_in_line (Err k) = no_curve

abbrev pub defined_curve : List ℕ → ℕ → Curve
defined_curve s n = curve_in_line (curve_line s n)

unfoldable pub empty_set : List ℕ
empty_set = replicate set_size 0

-- a number's token without the mark of a written point
unfoldable pub without_mark : ℕ → ℕ
without_mark t = elim (is_number t) [ true ↦ t - t % 2 | false ↦ t ]

-- the tokens of a line and the 0 that ends it
abbrev pub with_end : List ℕ → List ℕ
with_end ts = ts ++ (END ∷ [])

-- a count of lines, at the place of the table that has it
abbrev pub with_count : List ℕ → ℕ → ℕ → List ℕ
with_count s place n = set s place n

-- one line more, with its slot, the place of the table that says where it begins: it begins at the place `at`, and from there on its tokens stand without marks, and their end; what would
-- lie past the array is left off
unfoldable pub with_line : List ℕ → ℕ → ℕ → List ℕ → List ℕ
with_line s slot at ts = put_at (set s slot at) at (with_end (map without_mark ts))

-- ---- the lines
-- Of a set are asked: place 0, the starts of as many lines as it says, the starts of the three curves, and from each start on the tokens up to the line's end. No other place is looked at: not the
-- starts of further lines, not the places of lists, not what lies between and behind the lines.

abbrev pub no_line : Line
no_line = record { number = 0; ids = false; keyword = 0; condition = 0; actions = 0; end = 0; names = false }

abbrev pub no_lines : Lines
no_lines = record { count = 0; numbers = replicate max_lines 0; items = replicate max_lines no_line }

-- at most 32 lines, each without a fault of 4 to 10 or 14, numbers distinct and rising: m lines from rank k on, where `last` is the number before them
unfoldable pub lines_from : List ℕ → ℕ → ℕ → ℕ → List ℕ → List Line → Option Lines
lines_from s zero k last ns ls = Some (record { count = k; numbers = ns; items = ls })
lines_from s (suc m) k last ns ls =
    elim (line_of s k) [
      | Ok l ↦ elim (ltb last l.number) [ true ↦ lines_from s m (k + 1) l.number (set ns k l.number) (set ls k l) | false ↦ None ]
      | Err c ↦ None
    ]

unfoldable pub lines_read : List ℕ → Option Lines
lines_read s = elim (ltb max_lines (line_count s)) [ true ↦ None | false ↦ lines_from s (line_count s) 0 0 (replicate max_lines 0) (replicate max_lines no_line) ]

-- the rank of the first line with the number n, counted from k; past the last if there is none
unfoldable pub rank_in : List ℕ → ℕ → ℕ → ℕ
rank_in [] n k = k
rank_in (x ∷ xs) n k = elim (eqb x n) [ true ↦ k | false ↦ rank_in xs n (k + 1) ]

abbrev pub is_known : List ℕ → ℕ → Bool
is_known ns n = ltb (rank_in ns n 0) max_lines

-- 12: from place p to the line's end the number of each word that names one is known, by a table of the word and the number
unfoldable pub names_known : List ℕ → (ℕ → ℕ → Bool) → ℕ → ℕ → Bool
names_known s known zero p = true
names_known s known (suc left) p =
    elim (eqb (get_or s p 0) END) [
      | true ↦ true
      | false ↦
          elim (is_naming (get_or s p 0)) [
            | true ↦ elim (known (get_or s p 0) (whole (get_or s (p + 2) 0))) [ true ↦ names_known s known left (p + 1) | false ↦ false ]
            | false ↦ names_known s known left (p + 1)
          ]
    ]

-- LOCK and UNLOCK name a line, SYNFCT names a curve
abbrev pub name_table : (ℕ → Bool) → (ℕ → Bool) → ℕ → ℕ → Bool
name_table lines curves w n = cond (is_lock w) (lines n) (curves n)

-- the curve n is one of those that are there, by number from 1 on
abbrev pub is_defined : List Bool → ℕ → Bool
is_defined there n = leb 1 n && get_or there (n - 1) false

-- which of m curves from curve n on a set has
unfoldable pub curves_from : List ℕ → ℕ → ℕ → List Bool
curves_from s zero n = []
curves_from s (suc m) n = ltb 0 (curve_start s n) ∷ curves_from s m (n + 1)

abbrev pub curves_in : List ℕ → List Bool
curves_in s = curves_from s max_curves 1

-- the table of lines with the numbers ns and of the curves that are there, where it is asked of lines; where it is not, a line's name passes
abbrev pub asked_table : Bool → List ℕ → List Bool → ℕ → ℕ → Bool
asked_table asked ns there = name_table (λ n. not asked || is_known ns n) (is_defined there)

-- the table of a set whose lines have the numbers ns
abbrev pub set_table : List ℕ → List ℕ → ℕ → ℕ → Bool
set_table s ns = name_table (is_known ns) (is_defined (curves_in s))

-- so for m lines from rank k on
unfoldable pub all_known : List ℕ → (ℕ → ℕ → Bool) → ℕ → ℕ → Bool
all_known s known zero k = true
all_known s known (suc m) k = elim (names_known s known set_size (start_of s k)) [ true ↦ all_known s known m (k + 1) | false ↦ false ]

-- ---- the curves

-- a line that defines a curve has no fault and that number
abbrev pub has_number : ℕ → Result Definition ℕ → Bool
has_number n (Ok d) = eqb d.number n
has_number n (Err k) = false

-- so has the line that defines curve n
abbrev pub is_curve : List ℕ → ℕ → Bool
is_curve s n = has_number n (curve_line s n)

-- m curves from curve n on, where the set has k lines before them: each that it has is one, and with them there are at most 32 lines
unfoldable pub curves_sound : List ℕ → ℕ → ℕ → ℕ → Bool
curves_sound s zero n k = leb k max_lines
curves_sound s (suc m) n k =
    elim (ltb 0 (curve_start s n)) [
      | true ↦ elim (is_curve s n) [ true ↦ curves_sound s m (n + 1) (k + 1) | false ↦ false ]
      | false ↦ curves_sound s m (n + 1) k
    ]

-- ---- the set

-- its lines, if it passes each loading check from 4 on
unfoldable pub named_lines : List ℕ → Lines → Option Lines
named_lines s l = elim (all_known s (set_table s l.numbers) l.count 0) [ true ↦ Some l | false ↦ None ]

unfoldable pub sound_lines : List ℕ → Option Lines
sound_lines s = option_and_then (λ l. elim (curves_sound s max_curves 1 l.count) [ true ↦ named_lines s l | false ↦ None ]) (lines_read s)

-- a set that is not sound has no lines
abbrev pub lines_of : List ℕ → Lines
lines_of s = unwrap_or (sound_lines s) no_lines
