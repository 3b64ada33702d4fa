-- Laws of how often each line acted: a good beat and a control reset keep these counts right. Nothing is assumed.
use Rattle.std.specs.Prelude.{◌≡◌, Bool, cond, List, eqb, leb, ltb}
use Rattle.std.proofs.Math.Path.{refl}
use Rattle.std.proofs.Math.Bool.{true, false}
use Prim.Native.Nat.{ℕ, zero, suc, ◌+◌, ◌≤◌, ◌<◌}
use Rattle.std.proofs.Common.{arith, nltb→le, le-leb, leb-true, ltb-true}
use Rattle.std.proofs.Math.ListN.{get_or}
use Rattle.values.specs.FifoLaws.{set-each}
use Rattle.tokens.specs.Token.{max_lines}
use Rattle.engine.specs.ActCount.{acts_top, is_acted, one_more, counted_acts, reset_acts, is_act_count}
use Rattle.soundness.specs.CellSoundLaws.{CountsRight, count_none}

-- one more is at most the top where the count before is
pub more_within : (a : ℕ) (b : Bool) → a ≤ acts_top → one_more a b ≤ acts_top
unfolding one_more
more_within a true h = by-test (ltb a acts_top) refl
  where
    by-test : (c : Bool) → ltb a acts_top ≡ c → cond c (a + 1) a ≤ acts_top
    by-test true e = omega (arith, ltb-true a acts_top e)
    by-test false e = h
more_within a false h = h

module _ (count : ℕ) (acts : List ℕ) (h : CountsRight count acts) where
  -- after a beat in which no rank beyond the set's acted
  module _ (word : ℕ) (none : (k : ℕ) → count ≤ k → is_acted word k ≡ false) where
    more-right : (k : ℕ) → k < max_lines → is_act_count count k (one_more (get_or acts k 0) (is_acted word k)) ≡ true
    unfolding is_act_count one_more
    more-right k l = by_rank_lem (ltb k count) refl (h k l)
      where
        a : ℕ
        a = get_or acts k 0

        by_rank_lem : (b : Bool) → ltb k count ≡ b → cond b (leb a acts_top) (eqb a 0) ≡ true → cond b (leb (one_more a (is_acted word k)) acts_top) (eqb (one_more a (is_acted word k)) 0) ≡ true
        by_rank_lem true e g = le-leb (one_more a (is_acted word k)) acts_top (more_within a (is_acted word k) (leb-true a acts_top g))
        by_rank_lem false e g = rw (none k (nltb→le k count (rw e tt))) g

    pub counted-keeps : (n : ℕ) → CountsRight count (counted_acts acts word n)
    unfolding counted_acts
    counted-keeps zero = h
    counted-keeps (suc n) = set-each (λ k a. k < max_lines → is_act_count count k a ≡ true) (counted_acts acts word n) n (one_more (get_or acts n 0) (is_acted word n)) 0 (more-right n) (counted-keeps n)

  -- after a control reset
  pub reset-keeps-counts : (cancelled : List Bool) (n : ℕ) → CountsRight count (reset_acts cancelled acts n)
  unfolding reset_acts
  reset-keeps-counts cancelled zero = h
  reset-keeps-counts cancelled (suc n) =
      set-each (λ k a. k < max_lines → is_act_count count k a ≡ true) (reset_acts cancelled acts n) n (cond (get_or cancelled n false) (get_or acts n 0) 0) 0 (λ l. kept (get_or cancelled n false) l) (reset-keeps-counts cancelled n)
    where
      kept : (c : Bool) → n < max_lines → is_act_count count n (cond c (get_or acts n 0) 0) ≡ true
      kept true l = h n l
      kept false l = count_none count n
