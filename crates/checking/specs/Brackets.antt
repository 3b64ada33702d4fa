-- What the check knows of a line's brackets from what it has read: how the count of document 01's code 4 goes on behind that. Definitions only.
use Rattle.std.specs.Prelude.{◌≡◌, List, ℕ, ◌+◌, ◌≤◌, drop, get_or}
use Rattle.tokens.specs.Token.{END, OPEN, CLOSE}
use Rattle.tokens.specs.SingleFault.{brackets_open, opens_too_many}
use Rattle.checking.specs.SightNumber.{next_of, depth_of}

-- a token that the count passes over
pub record NoBracket (t : ℕ) : Type 0 where
  pub no_end : t ≡ END → ⊥
  pub no-open : t ≡ OPEN → ⊥
  pub no-close : t ≡ CLOSE → ⊥

-- from p to q at most d more stand open, and all of them are closed: the count goes on at q as at p, unless the d are too many
abbrev pub CountsOn : List ℕ → ℕ → ℕ → ℕ → Type 0
CountsOn s p d q = (n : ℕ) → n + d ≤ brackets_open → opens_too_many (drop p s) n ≡ opens_too_many (drop q s) n

-- w has a place: what it says is in the grammar
abbrev pub InGrammar : ℕ → Type 0
InGrammar w = next_of w ≡ 0 → ⊥

-- w was read from p on: from p to its place the count goes on, at its depth
pub record Counted (s : List ℕ) (p w : ℕ) : Type 0 where
  pub counts : InGrammar w → CountsOn s p (depth_of w) (next_of w)

-- x is w and what was read behind it: what w was read from, x was read from too
pub record Onward (s : List ℕ) (w x : ℕ) : Type 0 where
  pub goes : (p : ℕ) → Counted s p w → Counted s p x

-- x is w with a ( before it and a ) behind it
pub record InBrackets (s : List ℕ) (w x : ℕ) : Type 0 where
  pub goes : (p : ℕ) → get_or s p 0 ≡ OPEN → Counted s (p + 1) w → Counted s p x

-- x ends where w ends, and is as deep
pub record SameEnd (w x : ℕ) : Type 0 where
  pub next : next_of x ≡ next_of w
  pub depth : depth_of x ≡ depth_of w

-- x ends where b ends, and is at least as deep as a and as b
pub record Joined (a b x : ℕ) : Type 0 where
  pub next : next_of x ≡ next_of b
  pub first : InGrammar x → depth_of a ≤ depth_of x
  pub second : InGrammar x → depth_of b ≤ depth_of x
