-- Laws of lines: what a line without a fault has, and that all its actions keep the beat under way sound and stop only by an alarm. Nothing is assumed.
use Rattle.std.specs.Prelude.{Result, Ok, Err, ◌≡◌, Bool, ◌&&◌, eqb, leb, length, get_or, drop, is_some}
use Rattle.std.proofs.Math.Path.{refl}
use Rattle.std.proofs.Common.{subst}
use Rattle.std.proofs.Math.Bool.{true, false}
use mathlib.Core.List.{List, [], ◌++◌}
use Prim.Native.Nat.{ℕ, zero, suc, ◌+◌, ◌≤◌, ◌<◌}
use native.Mathlib.Omega.{arith}
use borrow.Author.Tests.{eqb-true, leb-true}
use Rattle.values.specs.Codes.{too_many_actions}
use Rattle.values.specs.Choice.{either, if_not, both}
use Rattle.values.specs.Numbers.{clash}
use Rattle.tokens.specs.Token.{END, EQUALS, DO, ID, IDS, WHEN, EVERY, is_number, is_keyword, is_id, is_whole, set_size, max_actions}
use Rattle.tokens.specs.Descent.{token, good, ◌>>=◌, Read, read, ends, then, expression_at}
use Rattle.tokens.specs.SingleFault.{lower, opens_too_many}
use Rattle.checking.specs.Fault.{sight, fault_for, count_fault, moves_fault, action_at, moves_at, actions_at, line_parts, body_at, rest_at, line_at}
use Rattle.checking.specs.declared.line.Line.{Line}
use Rattle.engine.specs.Set.{names_known, set_table, sound_lines, lines_of}
use Rattle.engine.specs.Action.{World, Did, action_of}
use Rattle.engine.specs.Actions.{actions_of}
use Rattle.soundness.specs.GoodAnswers.{Holds, holds_then}
use Rattle.soundness.specs.WriteSoundLaws.{lower-zero, unless-zero}
use Rattle.soundness.specs.PassLaws.{between-some, equal-some, number-some, Passed, passed_none, passed-next, passed_on, Past, expression_at-past, fault_past, action-past, names-known}
use Rattle.soundness.specs.ActionSoundLaws.{Runs, Clear, WorldSound, action-runs}

-- ---- the actions of a line, as the check reads them

-- the second case of a test that is false
clear_next : (b : Bool) (x y : Read ℕ) → b ≡ false → Clear (elim b [ true ↦ x | false ↦ y ]) → Clear y
clear_next true x y e c = clash (cc)
clear_next false x y e c = c

module _ (s : List ℕ) (kw k : ℕ) where
  -- behind an action with the fault g that ended at q, where f is the lowest fault before it and z are the axes moved with it
  abbrev after_action : ℕ → ℕ → List ℕ → ℕ → ℕ → ℕ → Read ℕ
  after_action m n z f g q = elim (eqb (token s q) END) [ true ↦ read (lower (lower f g) (lower (count_fault (n + 1)) (moves_fault z))) q | false ↦ actions_at s kw k m (n + 1) z (lower f g) q ]

  -- actions without a fault had none before them, and were fewer than eight
  abbrev Before : ℕ → ℕ → Type 0
  Before n f = (f ≡ 0) × (n < max_actions)

  few-before : (n : ℕ) → count_fault (n + 1) ≡ 0 → n < max_actions
  unfolding count_fault
  few-before n e = let l = leb-true (n + 1) max_actions (unless-zero (leb (n + 1) max_actions) too_many_actions e (omega arith)) in omega arith

  after-clear : (m n : ℕ) (z : List ℕ) (f g q : ℕ) → (Clear (actions_at s kw k m (n + 1) z (lower f g) q) → Before (n + 1) (lower f g)) → Clear (after_action m n z f g q) → Before n (lower f g)
  after-clear m n z f g q rest =
      either (λ y. Clear y → Before n (lower f g)) (eqb (token s q) END)
      (λ e c. let y = lower-zero (lower f g) (lower (count_fault (n + 1)) (moves_fault z)) c in (y.0, few-before n (lower-zero (count_fault (n + 1)) (moves_fault z) y.1).0))
      (λ e c. let y = rest c in (y.0, omega (arith, y.1)))

  first-clear : (m n : ℕ) (z : List ℕ) (f p : ℕ) → Clear (actions_at s kw k m n z f p) → Before n f
  unfolding actions_at
  first-clear zero n z f p c = absurd c
  first-clear (suc m) n z f p c = by-action (action_at s kw k p) c (λ g q. first-clear m (n + 1) (z ++ moves_at s p) (lower f g) q)
    where
      by-action : (y : Read ℕ) → Clear (then y (λ g q. after_action m n (z ++ moves_at s p) f g q)) → ((g q : ℕ) → Clear (actions_at s kw k m (n + 1) (z ++ moves_at s p) (lower f g) q) → Before (n + 1) (lower f g)) → Before n f
      by-action (read g q) c rest = let y = after-clear m n (z ++ moves_at s p) f g q (rest g q) c in ((lower-zero f g y.0).0, y.1)
      by-action (ends e) c rest = absurd c

-- ---- and as they are done

-- in a line that begins at `start` and names only lines and curves of the set
module _ (s : List ℕ) (sound : is_some (sound_lines s) ≡ true) (size : length s ≤ set_size) (cancelled : List Bool) (number kw start : ℕ)
    (names : names_known s (set_table s (lines_of s).numbers) set_size start ≡ true) where
  abbrev DidFine : Did → Type 0
  DidFine d = WorldSound (lines_of s).count cancelled d.world

  -- actions that the check found without a fault keep the beat under way sound
  pub actions-keep : (j m n : ℕ) (z : List ℕ) (f : ℕ) (x : World) (p : ℕ) → j + n ≡ max_actions → WorldSound (lines_of s).count cancelled x → Passed s start p → Clear (actions_at s kw set_size m n z f p) →
      Holds DidFine (actions_of s (lines_of s).numbers cancelled number j x p)
  unfolding actions_of actions_at
  actions-keep zero m n z f x p t h k c = absurd (omega (arith, (first-clear s kw set_size m n z f p c).1))
  actions-keep (suc j) zero n z f x p t h k c = absurd c
  actions-keep (suc j) (suc m) n z f x p t h k c =
      by-action (action_at s kw set_size p) (action-runs s sound cancelled number kw x p h (names-known s (set_table s (lines_of s).numbers) start p size names k)) (action-past s kw set_size p) c
      (λ g x q. actions-keep j m (n + 1) (z ++ moves_at s p) (lower f g) x q (omega arith))
    where
      by-action : (y : Read ℕ) → Runs DidFine (λ d. d.next) (action_of s (lines_of s).numbers cancelled number x p) y → Past s p y → Clear (then y (λ g q. after_action s kw set_size m n (z ++ moves_at s p) f g q)) →
          ((g : ℕ) (x : World) (q : ℕ) → WorldSound (lines_of s).count cancelled x → Passed s start q → Clear (actions_at s kw set_size m (n + 1) (z ++ moves_at s p) (lower f g) q) →
          Holds DidFine (actions_of s (lines_of s).numbers cancelled number j x q)) →
          Holds DidFine (action_of s (lines_of s).numbers cancelled number x p >>= λ d.
          elim (eqb (get_or s d.next 0) END) [
            | true ↦ good d
            | false ↦ actions_of s (lines_of s).numbers cancelled number j d.world d.next >>= λ e. good (record { world = e.world; next = e.next; notes = d.notes ++ e.notes })
          ])
      by-action (read g q) runs past c rest =
          let y = after-clear s kw set_size m n (z ++ moves_at s p) f g q (first-clear s kw set_size m (n + 1) (z ++ moves_at s p) (lower f g) q) c in
          holds_then (λ (d : Did). (d.next ≡ q) × DidFine d) DidFine (action_of s (lines_of s).numbers cancelled number x p) _ (runs (lower-zero f g y.0).1) λ d t.
          either (Holds DidFine) (eqb (get_or s d.next 0) END) (λ e. t.1) λ e.
          let next = clear_next (eqb (get_or s q 0) END) (read (lower (lower f g) (lower (count_fault (n + 1)) (moves_fault (z ++ moves_at s p)))) q) (actions_at s kw set_size m (n + 1) (z ++ moves_at s p) (lower f g) q) (rw t.0 at e) c in
          holds_then DidFine DidFine (actions_of s (lines_of s).numbers cancelled number j d.world d.next) _
          (rest g d.world d.next t.1 (rw t.0 (passed_on s start p q k past)) (rw t.0 next)) (λ e u. u)
      by-action (ends e) runs past c rest = absurd c

-- ---- a line without a fault

-- of a line that begins at p: its actions have no fault and stand in it; so has its condition, if it has one
pub record LineClear (s : List ℕ) (p : ℕ) (l : Line) : Type 0 where
  pub actions : Clear (actions_at s l.keyword set_size set_size 0 [] 0 l.actions)
  pub passed : Passed s p l.actions
  pub condition : is_keyword l.keyword ≡ true → Clear (fault_for true (expression_at s sight set_size l.condition))

module _ (s : List ℕ) (p : ℕ) where
  abbrev Sure : Result Line ℕ → Type 0
  Sure (Ok l) = 1 ≤ l.number → LineClear s p l
  Sure (Err k) = Unit {0}

  module _ (kw cp f q : ℕ) (passed : Passed s p q) (clear : f ≡ 0 → is_keyword kw ≡ true → Clear (fault_for true (expression_at s sight set_size cp))) where
    parts-clear : (x : Read ℕ) → eqb (get_or s q 0) DO ≡ true → actions_at s kw set_size set_size 0 [] f (q + 1) ≡ x → Sure (line_parts s p kw cp (q + 1) x)
    unfolding line_parts
    parts-clear (read g e) d z =
        if_not Sure (eqb g 0) (λ y. tt) λ y l.
        let c : Clear (actions_at s kw set_size set_size 0 [] f (q + 1)) = rw z (eqb-true g 0 y) in
        let b = first-clear s kw set_size set_size 0 [] f (q + 1) c in
        record {
          actions = rw b.0 at c;
          passed = passed-next s p q (q + 1) passed refl (equal-some (get_or s q 0) DO (omega arith) d);
          condition = clear b.0;
        }
    parts-clear (ends k) d z = tt

    body-clear : Sure (body_at s p kw cp f q)
    unfolding body_at
    body-clear = either Sure (eqb (get_or s q 0) DO) (λ e. parts-clear (actions_at s kw set_size set_size 0 [] f (q + 1)) e refl) (λ e. tt)

  rest-clear : (f : ℕ) → Passed s p (p + 3) → Sure (rest_at s p f)
  unfolding rest_at
  rest-clear f h =
      if_not Sure (is_keyword (get_or s (p + 3) 0)) (λ e. body-clear 0 0 f (p + 3) h (λ z y. clash (cc))) λ e.
      by_condition (passed-next s p (p + 3) (p + 4) h (omega arith) (between-some WHEN EVERY (get_or s (p + 3) 0) (omega arith) e))
      (fault_for true (expression_at s sight set_size (p + 4))) refl (fault_past s (p + 4) true (expression_at s sight set_size (p + 4)) (expression_at-past s sight set_size (p + 4)))
    where
      by_condition : Passed s p (p + 4) → (y : Read ℕ) → fault_for true (expression_at s sight set_size (p + 4)) ≡ y → Past s (p + 4) y →
          Sure (elim y [ read g q ↦ body_at s p (get_or s (p + 3) 0) (p + 4) (lower f g) q | ends k ↦ Err k ])
      by_condition k (read g q) z past = body-clear (get_or s (p + 3) 0) (p + 4) (lower f g) q (passed_on s p (p + 4) q k past) (λ y e. rw z (lower-zero f g y).1)
      by_condition k (ends c) z past = tt

  -- every line with no fault and a number
  sure : Sure (line_at s p)
  unfolding line_at
  sure =
      either Sure (opens_too_many (drop p s) 0) (λ e. tt) λ e.
      if_not Sure (is_id (get_or s p 0) && (eqb (get_or s (p + 1) 0) EQUALS && is_whole (get_or s (p + 2) 0))) (λ i. tt) λ i.
      let j = (both (is_id (get_or s p 0)) _ i).1 in
      let a = passed-next s p p (p + 1) (passed_none s p) refl (between-some ID IDS (get_or s p 0) (omega arith) (both (is_id (get_or s p 0)) _ i).0) in
      let b = passed-next s p (p + 1) (p + 2) a (omega arith) (equal-some (get_or s (p + 1) 0) EQUALS (omega arith) (both (eqb (get_or s (p + 1) 0) EQUALS) _ j).0) in
      let n = (both (is_number (get_or s (p + 2) 0)) _ (both (eqb (get_or s (p + 1) 0) EQUALS) _ j).1).0 in
      rest-clear _ (passed-next s p (p + 2) (p + 3) b (omega arith) (number-some (get_or s (p + 2) 0) n))

  pub line_clear : (l : Line) → line_at s p ≡ Ok l → 1 ≤ l.number → LineClear s p l
  line_clear l e = subst Sure e sure
