-- How often each line acted, by rank, since the load or the last control reset that left it live (document 02, Req 06). Definitions only.
use Rattle.std.specs.Prelude.{Bool, true, false, cond, ◌&&◌, List, ℕ, zero, suc, ◌+◌, ◌/◌, ◌%◌, ◌^◌, eqb, leb, ltb, get_or, set}

-- a count stays here once it is there
abbrev pub acts_top : ℕ
acts_top = 4000000000

-- the line of rank k has its bit in the word of the lines that acted
abbrev pub is_acted : ℕ → ℕ → Bool
is_acted word k = eqb (word / 2 ^ k % 2) 1

-- one more where the line acted, up to the top
unfoldable pub one_more : ℕ → Bool → ℕ
one_more a acted = cond acted (cond (ltb a acts_top) (a + 1) a) a

-- the counts of the first n ranks after a beat in which the lines of this word acted
unfoldable pub counted_acts : List ℕ → ℕ → ℕ → List ℕ
counted_acts acts word zero = acts
counted_acts acts word (suc n) = set (counted_acts acts word n) n (one_more (get_or acts n 0) (is_acted word n))

-- those of the first n ranks after a control reset, where these lines are cancelled after it: a line that is still live begins at 0, a cancelled one keeps its own
unfoldable pub reset_acts : List Bool → List ℕ → ℕ → List ℕ
reset_acts cancelled acts zero = acts
reset_acts cancelled acts (suc n) = set (reset_acts cancelled acts n) n (cond (get_or cancelled n false) (get_or acts n 0) 0)

-- at most the top; 0 for a rank that a set of so many lines does not have
unfoldable pub is_act_count : ℕ → ℕ → ℕ → Bool
is_act_count count k a = cond (ltb k count) (leb a acts_top) (eqb a 0)

-- so for m ranks from k on
unfoldable pub are_act_counts : ℕ → List ℕ → ℕ → ℕ → Bool
are_act_counts count acts zero k = true
are_act_counts count acts (suc m) k = is_act_count count k (get_or acts k 0) && are_act_counts count acts m (k + 1)
