-- What a keyword makes of a line's memory m and of what its condition gives, v (document 01, "A beat"). Definitions only.
use Rattle.std.specs.Prelude.{Bool, true, cond, not, ◌&&◌, ◌||◌, ℕ, eqb}
use Rattle.tokens.specs.Token.{WHEN, WHENEVER, FROM, EVERY}

-- a WHEN or FROM line that has acted works its condition no more
unfoldable pub tries : ℕ → Bool → Bool
tries kw m = cond (eqb kw WHEN || eqb kw FROM) (not m) (eqb kw WHENEVER || eqb kw EVERY)

-- no keyword: acts at each turn; WHENEVER: when true; WHEN: at its first true turn only; FROM: at its first true turn and every later one;
-- EVERY: when true, and its turn before was false or there was none
unfoldable pub acts : ℕ → Bool → Bool → Bool
acts kw m v = cond (eqb kw WHENEVER) v (cond (eqb kw WHEN || eqb kw EVERY) (v && not m) (cond (eqb kw FROM) (v || m) true))

-- what is remembered of a condition that was worked: WHEN and FROM, that it was true once; EVERY, what it gave
unfoldable pub remembers : ℕ → Bool → Bool → Bool
remembers kw m v = cond (eqb kw WHEN || eqb kw FROM) (m || v) (cond (eqb kw EVERY) v m)
