-- The parts of SYNFCT(n,target,variable) at a place, and what an action leaves: the words of the theorem that SYNFCT assigns (SynfctAssigns). Definitions only.
use Rattle.std.specs.Prelude.{◌≡◌, List, [], ◌∷◌, ℕ, suc, ◌+◌, ◌*◌, ℤ, pos, negsuc, Result}
use Rattle.values.specs.declared.codes.Alarm.{Alarm}
use Rattle.values.specs.declared.curve.Curve.{Curve}
use Rattle.tokens.specs.Token.{LEFT, RIGHT, EQUALS, MINUS, NUMBER, whole}
use Rattle.tokens.specs.Descent.{token, Answer, good, ◌>>=◌, index_at}
use Rattle.working.specs.Working.{variable_at}
use Rattle.engine.specs.Set.{defined_curve}
use Rattle.engine.specs.Write.{write_to}
use Rattle.engine.specs.Action.{World, Note, Did, with_vars, taken_at}

-- ---- SYNFCT at p

-- what the variable reads
abbrev pub variable_read : List ℕ → World → ℕ → Result ℤ Alarm
variable_read s x p = variable_at s x.vars.r x.vars.cells (p + 9)

-- the curve that n names
abbrev pub curve_used : List ℕ → ℕ → Curve
curve_used s p = defined_curve s (whole (token s (p + 2)))

-- the target's word and its index
abbrev pub target_word : List ℕ → ℕ → ℕ
target_word s p = token s (p + 4)

abbrev pub target_index : List ℕ → ℕ → ℕ
target_index s p = index_at s (target_word s p) (p + 4)

-- the token of that index
abbrev pub target_index_token : List ℕ → ℕ → ℕ
target_index_token s p = token s (p + 4 + 2)

-- ---- what an action leaves

-- the beat under way, and the locks and releases that it gave, or its alarm; not the place behind it
abbrev pub left : Answer Did → Answer (World × List Note)
left a = a >>= λ d. good (d.world, d.notes)

-- w[i] = y: y written by the rule of w, and nothing else
abbrev pub assigned : World → ℕ → ℕ → ℤ → Answer (World × List Note)
assigned x w i y = write_to x.vars w i y >>= λ v. good (with_vars x v, [])

-- the tokens of w[..]=y, where t is the token of the index: y is written as a number, with a minus if it is below 0
abbrev pub assignment_tokens : ℕ → ℕ → ℤ → List ℕ
assignment_tokens w t (pos n) = w ∷ LEFT ∷ t ∷ RIGHT ∷ EQUALS ∷ (NUMBER + 2 * n) ∷ []
assignment_tokens w t (negsuc n) = w ∷ LEFT ∷ t ∷ RIGHT ∷ EQUALS ∷ MINUS ∷ (NUMBER + 2 * suc n) ∷ []

-- at q of a set stands w with the index i, and five places on a right side that has the value y and changes no variable
pub record Assigns (s : List ℕ) (x : World) (q w i : ℕ) (y : ℤ) : Type 0 where
  pub word : token s q ≡ w
  pub index : index_at s w q ≡ i
  pub behind : ℕ
  pub value : taken_at s x.vars (q + 5) ≡ good (record { value = y; vars = x.vars; next = behind })
