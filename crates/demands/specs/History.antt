-- The history of a run from a load on, newest entry first, and the rule of demand 3: by looking back over the history, and by nothing else, it says which lines take a
-- turn, which of them work their condition, and which act. Definitions only; assumes nothing.
-- Entries (engine, Turn): beat_in m, a beat begins, in AUTOMATIC or not; worked k v, the condition of the line of rank k was worked and gave v; locks k b, that line is
-- locked (true) or released (false), by the host or by a line; cancels k, the host cancels it; resets. Failed beats and refused calls write nothing.
use Rattle.std.specs.Prelude.{Bool, true, false, cond, not, ◌&&◌, ◌||◌, ℕ, eqb}
use mathlib.Core.List.{List, [], ◌∷◌, reverse_aux}
use Rattle.std.proofs.Math.Option.{Option, none, some}
use Rattle.tokens.specs.Token.{WHEN, WHENEVER, FROM, EVERY}
use Rattle.checking.specs.declared.line.Line.{Line}
use Rattle.engine.specs.Turn.{Entry, beat_in, worked, locks, cancels, resets}

-- newest entry first
abbrev pub History : Type 0
History = List Entry

-- the history after these entries, written down one after the other
abbrev pub after : List Entry → History → History
after es r = reverse_aux es r

-- ---- looking back

-- an entry answers a question by b, if it is one that answers it
abbrev pub only : Bool → Bool → Option Bool
only true b = some b
only false b = none

-- an entry's answer, or else what the entries before it answer
abbrev pub or_else : Option Bool → Bool → Bool
or_else (some b) c = b
or_else none c = c

-- the answer to a question: the newest entry that answers it decides, and where none does it is no
abbrev pub last : (Entry → Option Bool) → History → Bool
last q [] = false
last q (e ∷ r) = or_else (q e) (last q r)

-- is the beat under way in AUTOMATIC
abbrev pub automatic? : Entry → Option Bool
automatic? (beat_in m) = some m
automatic? (worked j v) = none
automatic? (locks j b) = none
automatic? (cancels j) = none
automatic? resets = none

-- is the line of rank k, an IDS line or not, cancelled: back to the load, and a control reset cancels every ID line
abbrev pub cancelled? : Bool → ℕ → Entry → Option Bool
cancelled? ids k (beat_in m) = none
cancelled? ids k (worked j v) = none
cancelled? ids k (locks j b) = none
cancelled? ids k (cancels j) = only (eqb j k) true
cancelled? ids k resets = only (not ids) true

-- is it locked: back to the last control reset or the load, as the two below
abbrev pub locked? : ℕ → Entry → Option Bool
locked? k (beat_in m) = none
locked? k (worked j v) = none
locked? k (locks j b) = only (eqb j k) b
locked? k (cancels j) = none
locked? k resets = some false

-- what did its condition give when it was last worked
abbrev pub was_true? : ℕ → Entry → Option Bool
was_true? k (beat_in m) = none
was_true? k (worked j v) = only (eqb j k) v
was_true? k (locks j b) = none
was_true? k (cancels j) = none
was_true? k resets = some false

-- did its condition ever give true
abbrev pub ever_true? : ℕ → Entry → Option Bool
ever_true? k (beat_in m) = none
ever_true? k (worked j v) = only (eqb j k && v) true
ever_true? k (locks j b) = none
ever_true? k (cancels j) = none
ever_true? k resets = some false

-- the five answers
abbrev pub is_automatic : History → Bool
is_automatic r = last automatic? r

abbrev pub is_cancelled : Bool → ℕ → History → Bool
is_cancelled ids k r = last (cancelled? ids k) r

abbrev pub is_locked : ℕ → History → Bool
is_locked k r = last (locked? k) r

abbrev pub was_true : ℕ → History → Bool
was_true k r = last (was_true? k) r

abbrev pub ever_true : ℕ → History → Bool
ever_true k r = last (ever_true? k) r

-- ---- the rule, for a line of the set of rank k, where r is the history so far

-- it takes a turn: not cancelled, not locked, and an ID line also needs AUTOMATIC
abbrev pub takes_by_rule : Line → ℕ → History → Bool
takes_by_rule l k r = not (is_cancelled l.ids k r) && (not (is_locked k r) && (l.ids || is_automatic r))

-- by its keyword, it works its condition in its turn: WHENEVER and EVERY always, WHEN and FROM until it was true once, a line without keyword never
abbrev pub tries_by_rule : ℕ → ℕ → History → Bool
tries_by_rule kw k r = cond (eqb kw WHEN || eqb kw FROM) (not (ever_true k r)) (eqb kw WHENEVER || eqb kw EVERY)

-- by its keyword, it acts in its turn, where v is what its condition gives now (no, if it is not worked): WHENEVER where it is true; WHEN where it is true and never was;
-- EVERY where it is true and was not when last worked; FROM where it is true or ever was; a line without keyword always
abbrev pub acts_by_rule : ℕ → ℕ → History → Bool → Bool
acts_by_rule kw k r v =
    cond (eqb kw WHENEVER) v
    (cond (eqb kw WHEN) (v && not (ever_true k r))
    (cond (eqb kw EVERY) (v && not (was_true k r))
    (cond (eqb kw FROM) (v || ever_true k r) true)))
