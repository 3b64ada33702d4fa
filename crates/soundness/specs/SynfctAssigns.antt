-- SYNFCT ASSIGNS: what it leaves is what the assignment of the curve's limited result to its target leaves, whatever the target (document 02, Req 03). Theorems; nothing is assumed.
use Rattle.std.specs.Prelude.{◌≡◌, refl, Bool, true, List, ◌∷◌, ℕ, ◌+◌, ℤ, is_some, Ok, Err}
use Rattle.std.proofs.Common.{sym, ap, ◌∙◌, inl, inr}
use Rattle.values.specs.Codes.{unsound, code_of}
use Rattle.values.specs.Value.{in_range}
use Rattle.values.specs.Curve.{curve_of}
use Rattle.values.specs.CurveLaws.{Between, curve-limited, curve-in-range}
use Rattle.values.specs.declared.codes.Alarm.{Alarm}
use Rattle.tokens.specs.Token.{SYNFCT, is_variable, whole}
use Rattle.tokens.specs.Descent.{token, Answer, good, stop, Read, read, ends, index_at}
use Rattle.checking.specs.Fault.{synfct_at}
use Rattle.engine.specs.Set.{curves_in, is_defined, sound_lines, lines_of}
use Rattle.engine.specs.Write.{write_to}
use Rattle.engine.specs.Action.{World, Did, assignment_of, curve_assigned, synfct_of, action_of}
use Rattle.soundness.specs.CurveSoundLaws.{CurveRanged, definition-ranged}
use Rattle.soundness.specs.GoodAnswers.{Holds}
use Rattle.soundness.specs.ActionSoundLaws.{Runs, Clear, WorldSound, synfct-runs}
use Rattle.soundness.specs.AnswerCodes.{OneOf, synfct_codes}
use Rattle.soundness.specs.VariableCodeLaws.{StopsBy, Such, synfct-by}
use Rattle.soundness.specs.SynfctLaws.{written-left, number-assigns, is-synfct, is-assignment}
use Rattle.soundness.specs.Synfct.{variable_read, curve_used, target_word, target_index, target_index_token, left, assigned, assignment_tokens, Assigns}

-- ---- over the write

-- where the variable reads a and the curve gives y there, y is written to the target
pub synfct-writes : (s : List ℕ) (x : World) (p : ℕ) (a y : ℤ) → variable_read s x p ≡ Ok a → curve_of (curve_used s p) a ≡ Ok y → left (synfct_of s x p) ≡ assigned x (target_word s p) (target_index s p) y
unfolding synfct_of curve_assigned
synfct-writes s x p a y h k = rw (h, k) (written-left x (p + 14) (write_to x.vars (target_word s p) (target_index s p) y))

-- an assignment of the value y writes y
pub assignment-writes : (s : List ℕ) (x : World) (q w i : ℕ) (y : ℤ) → Assigns s x q w i y → left (assignment_of s x w q) ≡ assigned x w i y
unfolding assignment_of
assignment-writes s x q w i y h = rw (h.value, h.index) (written-left x h.behind (write_to x.vars w i y))

-- ---- over the assignment

-- SYNFCT ASSIGNS: in any set, whatever its target, it leaves what an assignment to that target leaves whose right side has the value that the curve gives, in whichever set that stands
pub synfct-assigns : (s t : List ℕ) (x : World) (p q : ℕ) (a y : ℤ) → variable_read s x p ≡ Ok a → curve_of (curve_used s p) a ≡ Ok y → Assigns t x q (target_word s p) (target_index s p) y →
    left (synfct_of s x p) ≡ left (assignment_of t x (target_word s p) q)
synfct-assigns s t x p q a y h k e = synfct-writes s x p a y h k ∙ sym (assignment-writes t x q (target_word s p) (target_index s p) y e)

-- ---- over an assignment of a number

-- SYNFCT leaves what the assignment of that number to its target leaves, as it is written
pub synfct-as-written : (s : List ℕ) (x : World) (p : ℕ) (a y : ℤ) → variable_read s x p ≡ Ok a → curve_of (curve_used s p) a ≡ Ok y → in_range y ≡ true →
    left (synfct_of s x p) ≡ left (assignment_of (assignment_tokens (target_word s p) (target_index_token s p) y) x (target_word s p) 0)
unfolding index_at
synfct-as-written s x p a y h k r = synfct-assigns s (assignment_tokens (target_word s p) (target_index_token s p) y) x p 0 a y h k (number-assigns x (target_word s p) (target_index_token s p) y r)

-- ---- over actions

-- so it is of the two as actions, of whichever lines
pub synfct-acts : (s t ns ms : List ℕ) (cs ds : List Bool) (m n : ℕ) (x : World) (p q : ℕ) (a y : ℤ) →
    token s p ≡ SYNFCT →
    is_variable (target_word s p) ≡ true →
    variable_read s x p ≡ Ok a →
    curve_of (curve_used s p) a ≡ Ok y →
    Assigns t x q (target_word s p) (target_index s p) y →
    left (action_of s ns cs m x p) ≡ left (action_of t ms ds n x q)
synfct-acts s t ns ms cs ds m n x p q a y f v h k e =
    ap (λ (d : Answer Did). left d) (is-synfct s ns cs m x p f) ∙ synfct-assigns s t x p q a y h k e ∙ sym (ap (λ (d : Answer Did). left d) (is-assignment t ms ds n x q (target_word s p) e.word v))

-- ---- its alarms

-- the variable's alarm is its alarm
pub synfct-unread : (s : List ℕ) (x : World) (p : ℕ) (k : Alarm) → variable_read s x p ≡ Err k → synfct_of s x p ≡ stop (code_of k)
unfolding synfct_of
synfct-unread s x p k h = rw h

-- and so is the curve's
pub synfct-unworked : (s : List ℕ) (x : World) (p : ℕ) (k : Alarm) (a : ℤ) → variable_read s x p ≡ Ok a → curve_of (curve_used s p) a ≡ Err k → synfct_of s x p ≡ stop (code_of k)
unfolding synfct_of curve_assigned
synfct-unworked s x p k a h e = rw (h, e)

-- ---- in a sound set

-- what stops by 22 or an alarm, and not by 22, stops by an alarm
not-22 : (a : Answer Did) (P : Did → Type 0) → StopsBy (λ c. OneOf c (unsound ∷ synfct_codes)) a → Holds P a → StopsBy (λ c. OneOf c synfct_codes) a
not-22 (good d) P h k = tt
not-22 (stop c) P (inl e) k = absurd (k (sym e))
not-22 (stop c) P (inr o) k = o

-- these codes are those of reading, working and writing
among : Such (λ c. OneOf c (unsound ∷ synfct_codes))
among = record { is-22 = inl refl; is-30 = inr (inl refl); is_32 = inr (inr (inl refl)); is-33 = inr (inr (inr (inl refl))); is-34 = inr (inr (inr (inr (inl refl)))) }

module _ (s : List ℕ) (sound : is_some (sound_lines s) ≡ true) (p : ℕ) (defined : is_defined (curves_in s) (whole (token s (p + 2))) ≡ true) where
  -- the curve that is named, as a sound set has it
  ranged : CurveRanged (curve_used s p)
  ranged = definition-ranged s _

  -- what is assigned lies between the limits of the curve that is named, and is assigned as it is written
  pub synfct-limited : (x : World) (a y : ℤ) → variable_read s x p ≡ Ok a → curve_of (curve_used s p) a ≡ Ok y →
      Between (curve_used s p).lower (curve_used s p).upper y
      × (left (synfct_of s x p) ≡ left (assignment_of (assignment_tokens (target_word s p) (target_index_token s p) y) x (target_word s p) 0))
  synfct-limited x a y h k = (curve-limited (curve_used s p) a y ranged.ordered k, synfct-as-written s x p a y h k (curve-in-range (curve_used s p) a ranged.lower ranged.upper y k))

  -- SYNFCT without a fault, in a sound beat, stops only by an alarm 30, 32, 33 or 34
  pub synfct-code : (x : World) (cancelled : List Bool) → WorldSound (lines_of s).count cancelled x → Clear (synfct_at s p) → StopsBy (λ c. OneOf c synfct_codes) (synfct_of s x p)
  synfct-code x cancelled h clear = by-check (synfct_at s p) clear (synfct-runs s sound cancelled 0 x p h defined)
    where
      Fine : Did → Type 0
      Fine d = WorldSound (lines_of s).count cancelled d.world

      by-check : (y : Read ℕ) → Clear y → Runs Fine (λ d. d.next) (synfct_of s x p) y → StopsBy (λ c. OneOf c synfct_codes) (synfct_of s x p)
      by-check (read f q) e r = not-22 (synfct_of s x p) (λ d. (d.next ≡ q) × Fine d) (synfct-by _ among s x p) (r e)
      by-check (ends k) e r = absurd e
