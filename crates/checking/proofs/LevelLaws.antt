-- The operators of each level of the check's walk: what they want and give; and a loop of the walk at its begin and after a round, for any level.
use mathlib.Core.Path.{◌≡◌, refl, sym, ap, ◌∙◌}
use mathlib.Core.Bool.{Bool, true, false, not}
use mathlib.Core.List.{List}
use Prim.Native.Nat.{ℕ, ◌+◌, ◌-◌, ◌<◌, ◌≤◌}
use native.Mathlib.Omega.{arith}
use borrow.Author.Tests.{not-false}
use Rattle.values.specs.Choice.{both}
use Rattle.tokens.specs.Token.{OPEN, SAME, ATLEAST, PLUS, MINUS, TIMES, OVER, AND, XOR, between, is_factor, is_term, is_arithmetic, is_compare, is_logic}
use Rattle.tokens.specs.Descent.{Read, read, ends, then, is_row, token}
use Rattle.tokens.specs.BetweenLaws.{inside, outside, is-inside, arithmetic-range}
use Rattle.tokens.specs.RowLaws.{Loop, loop-begins, loop-goes}
use Rattle.checking.specs.Fault.{Sight, sight, join_sights, lowest}
use Rattle.checking.specs.SightNumber.{next_of, sight_of, seen}
use Rattle.checking.specs.Brackets.{NoBracket, Counted, Onward, Joined}
use Rattle.checking.proofs.SightNumberLaws.{sights-say}
use Rattle.checking.proofs.BracketCountLaws.{other-above, other-below, onward-same, joined-on, onward_then}

-- the operators want and give yes/no (true) or numbers (false), and the count of brackets passes over them
pub record Level (is_op : ℕ → Bool) (wanted gives : Bool) : Type 0 where
  pub wants : (o : ℕ) → is_op o ≡ true → is_logic o ≡ wanted
  pub yields : (o : ℕ) → is_op o ≡ true → not (is_arithmetic o) ≡ gives
  pub no-bracket : (o : ℕ) → is_op o ≡ true → NoBracket o

-- those of a range before the brackets want numbers
range-level : (low high : ℕ) {gives : Bool} → 0 < low → high < OPEN → ((o : ℕ) → low ≤ o → o ≤ high → not (is_arithmetic o) ≡ gives) → Level (λ t. between low high t) false gives
range-level low high l m f =
    record {
      wants = λ o h. let i = inside low high o h in outside AND XOR o (λ x y. omega (arith, i.1));
      yields = λ o h. let i = inside low high o h in f o i.0 i.1;
      no-bracket = λ o h. let i = inside low high o h in other-below o (omega (arith, i.0)) (omega (arith, i.1));
    }

-- + - * / give a number, each other operator a yes/no
gives-number : (o : ℕ) → PLUS ≤ o → o ≤ OVER → not (is_arithmetic o) ≡ false
gives-number o l m = ap not (sym (arithmetic-range o) ∙ is-inside PLUS OVER o l m)

gives-truth : (o : ℕ) → (PLUS ≤ o → o ≤ OVER → ⊥) → not (is_arithmetic o) ≡ true
gives-truth o h = ap not (sym (arithmetic-range o) ∙ outside PLUS OVER o h)

pub factor-level : Level (λ t. is_factor t) false false
factor-level = range-level TIMES OVER (omega arith) (omega arith) (λ o l m. gives-number o (omega arith) m)

pub term-level : Level (λ t. is_term t) false false
term-level = range-level PLUS MINUS (omega arith) (omega arith) (λ o l m. gives-number o l (omega arith))

pub compare-level : Level (λ t. is_compare t) false true
compare-level = range-level SAME ATLEAST (omega arith) (omega arith) (λ o l m. gives-truth o (λ x y. omega arith))

pub row-level : (first : ℕ) → Level (is_row first) true true
row-level first =
    record {
      wants = λ o h. (both _ _ h).0;
      yields = λ o h. let i = inside AND XOR o (both _ _ h).0 in gives-truth o (λ x y. omega (arith, i.0));
      no-bracket = λ o h. let i = inside AND XOR o (both _ _ h).0 in other-above o (omega (arith, i.0));
    }

then_same : {f g : Sight → ℕ → Read Sight} (x : Read Sight) → ((y : Sight) (q : ℕ) → f y q ≡ g y q) → then x f ≡ then x g
then_same (read y q) h = h y q
then_same (ends k) h = refl

-- before the first round all are left
pub begins : {is_op : ℕ → Bool} {s : List ℕ} {sub : ℕ → Read Sight} {left w : ℕ} → Loop s sight is_op sub seen left w (left - 0) w × Onward s w w
begins {left = left} = let all : left - 0 ≡ left = omega arith in (rw all loop-begins, onward-same _ _)

module _ {is_op : ℕ → Bool} {wanted gives : Bool} (level : Level is_op wanted gives) where
  -- x is a, the operator o behind it, and r
  pub level-joins : (o : ℕ) (a : Sight) {x : Read Sight} (r : Read Sight) → is_op o ≡ true → x ≡ then r (λ y q. read (record { truth = gives; fault = lowest wanted a y }) q) → x ≡ then r (λ y q. read (join_sights o a y) q)
  unfolding join_sights
  level-joins o a r h j = j ∙ then_same r (λ y q. rw (sym (level.wants o h), sym (level.yields o h)) refl)

  -- a round of the loop, behind which `next` are left: b is what stands behind the operator t, x is a and it joined
  pub round : {s : List ℕ} {sub : ℕ → Read Sight} {left w k next a : ℕ} → Loop s sight is_op sub seen left w k a × Onward s w a → {i t b x : ℕ} {o : Bool} → i ≡ next_of a → (i ≡ 0 → ⊥) → t ≡ token s i → o ≡ is_op t → not o ≡ false → next + 1 ≡ k → (seen b ≡ sub (i + 1)) × Counted s (i + 1) b → (seen x ≡ then (seen b) (λ y q. read (record { truth = gives; fault = lowest wanted (sight_of a) y }) q)) × Joined a b x → Loop s sight is_op sub seen left w next x × Onward s w x
  unfolding sight
  round {s} {k = k} {next = next} {a = a} g {t = t} {b = b} {o = o} e ne q f h l m j =
      let p = sym f ∙ not-false o h in
      let fewer : k - 1 ≡ next = omega arith in
      (rw (sym fewer) (loop-goes g.0 sights-say e ne q f h (omega arith) refl m.0 (level-joins t (sight_of a) (seen b) p j.0)), onward_then s g.1 (joined-on s e ne q (level.no-bracket t p) m.1 j.1))
