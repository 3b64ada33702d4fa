-- Laws of what a line names: the numbers that the check found known are those of the tree's LOCK, UNLOCK and SYNFCT, and where lists begin alike a number has one rank in both. Nothing is assumed.
use Rattle.std.specs.Prelude.{◌≡◌, ℕ, suc, ◌+◌, ◌≤◌, ◌<◌, T, eqb, leb, length, get_or}
use Rattle.std.proofs.Common.{sym, ◌∙◌, arith}
use Rattle.std.proofs.Math.Path.{ap}
use Rattle.std.proofs.Math.Bool.{true}
use mathlib.Core.List.{List, [], ◌∷◌}
use borrow.Author.Tests.{leb-true, eqb-true}
use Rattle.values.specs.Choice.{decide, both, chosen}
use Rattle.values.specs.Codes.{outside}
use Rattle.tokens.specs.Token.{LOCK, SETAL, UNLOCK, between, set_size, is_call, is_lock, is_naming}
use Rattle.tokens.specs.SingleFault.{call_fault, id_fault}
use Rattle.grammar.specs.Tree.{Action, assign, assign_position, drive, code, call, synfct, Line, line, line_tokens}
use Rattle.grammar.specs.Meaning.{Stands}
use Rattle.grammar.specs.TreeNames.{action_names, actions_names, names_in, each_known}
use Rattle.grammar.specs.TreeFault.{action_fault, actions_fault, parts_fault, line_fault, keyword_of}
use Rattle.engine.specs.Set.{rank_in, is_known, names_known, is_defined, curves_in, set_table}
use Rattle.engine.specs.NamesByTreeLaws.{each_append, names-by-tree}
use Rattle.soundness.specs.WriteSoundLaws.{lower-zero, unless-zero}
use Rattle.soundness.specs.SetSoundLaws.{rank-least}
use Rattle.turn_trees.specs.LineNames.{ActionNames, ActionsName, LineNames}

-- ---- the numbers that are known

-- the number of a line that is known, from 1 on
abbrev pub Known : List ℕ → ℕ → Type 0
Known ns m = (is_known ns m ≡ true) × (1 ≤ m)

-- the number of a curve that the set has
abbrev pub Defined : List ℕ → ℕ → Type 0
Defined s m = is_defined (curves_in s) m ≡ true

module _ (s ns : List ℕ) where
  -- a LOCK or UNLOCK whose name is known
  lock-known : (w : ℕ) (v : T (is_call w)) (m : ℕ) → is_lock w ≡ true → each_known (set_table s ns) (action_names (call w v m)) ≡ true → is_known ns m ≡ true
  unfolding each_known
  lock-known w v m g k =
      let naming : is_naming w ≡ true = rw g in
      let one = ap (each_known (set_table s ns)) (chosen (is_naming w) (record { word = w; number = m } ∷ []) [] naming) in
      rw g at (both (set_table s ns w m) true (sym one ∙ k)).0

  -- an action without a fault
  action-names : (kw : ℕ) (a : Action) → action_fault kw a ≡ 0 → each_known (set_table s ns) (action_names a) ≡ true → ActionNames (Known ns) (Defined s) a
  unfolding action_fault call_fault id_fault each_known
  action-names kw (assign w v i a) f k = tt
  action-names kw (assign_position x v a) f k = tt
  action-names kw (drive w v x u a) f k = tt
  action-names kw (code m) f k = tt
  action-names kw (call w v m) f k = λ g.
      let lock : LOCK ≤ w = leb-true LOCK w (both (leb LOCK w) (leb w UNLOCK) g).0 in (
        lock-known w v m g k,
        decide _ (eqb w SETAL) (λ e. let z = eqb-true w SETAL e in absurd (omega arith))
            (λ e. let y = rw e at f in leb-true 1 m (both (leb 1 m) (leb m 255) (unless-zero (between 1 255 m) outside y (omega arith))).0),
      )
  action-names kw (synfct m y z) f k = (both (is_defined (curves_in s) m) true k).0

  actions-name : (kw : ℕ) (r : List Action) (a : Action) → actions_fault kw a r ≡ 0 → each_known (set_table s ns) (actions_names a r) ≡ true → ActionsName (Known ns) (Defined s) a r
  unfolding actions_fault actions_names
  actions-name kw [] a f k = action-names kw a f k
  actions-name kw (b ∷ r) a f k =
      let z = lower-zero (action_fault kw a) (actions_fault kw b r) f in
      let known = set_table s ns in
      let h = both (each_known known (action_names a)) (each_known known (actions_names b r)) (sym (each_append known (action_names a) (actions_names b r)) ∙ k) in
      (action-names kw a z.0 h.0, actions-name kw r b z.1 h.1)

  of_tree : (l : Line) → line_fault l ≡ 0 → each_known (set_table s ns) (names_in l) ≡ true → LineNames (Known ns) (Defined s) l
  unfolding line_fault parts_fault names_in
  of_tree (line w v n c a r) f k = actions-name (keyword_of c) r a (lower-zero _ _ (lower-zero _ _ (lower-zero _ _ f).0).1).0 k

  -- a line without a fault of 6 to 10 or 14, in which the check found each name known
  pub line-names : (l : Line) (p q : ℕ) → length (line_tokens l) ≤ suc set_size → line_fault l ≡ 0 → Stands s p (line_tokens l) q → names_known s (set_table s ns) set_size p ≡ true →
      LineNames (Known ns) (Defined s) l
  line-names l p q m f h k = of_tree l f (sym (names-by-tree s (set_table s ns) l p q m h) ∙ k)

-- what holds of each number that is named, by what follows from it
module _ (P Q R S : ℕ → Type 0) (h : (m : ℕ) → P m → R m) (i : (m : ℕ) → Q m → S m) where
  action-so : (a : Action) → ActionNames P Q a → ActionNames R S a
  action-so (assign w v i a) g = tt
  action-so (assign_position x v a) g = tt
  action-so (drive w v x u a) g = tt
  action-so (code m) g = tt
  action-so (call w v m) g = λ e. h m (g e)
  action-so (synfct m y z) g = i m g

  actions-so : (r : List Action) (a : Action) → ActionsName P Q a r → ActionsName R S a r
  actions-so [] a g = action-so a g
  actions-so (b ∷ r) a g = (action-so a g.0, actions-so r b g.1)

  pub names-so : (l : Line) → LineNames P Q l → LineNames R S l
  names-so (line w v n c a r) g = actions-so r a g

-- ---- ranks

-- a number whose rank in ns is one of the places of xs, which begin as ns does, has that rank in xs
pub rank_same : (xs ns : List ℕ) (m k : ℕ) → length xs ≤ length ns → ((j : ℕ) → j < length xs → get_or xs j 0 ≡ get_or ns j 0) → rank_in ns m k < k + length xs → rank_in ns m k ≡ rank_in xs m k
unfolding rank_in
rank_same [] ns m k l a h = let z = rank-least ns m k in absurd (omega arith)
rank_same (x ∷ xs) [] m k l a h = absurd (omega arith)
rank_same (x ∷ xs) (y ∷ ns) m k l a h =
    let e : x ≡ y = a 0 (omega arith) in
    decide _ (eqb y m)
    (λ t. rw (e, t, rank_in))
    (λ t. let g = rw (t, rank_in) at h in rw (e, t, rank_in) (rank_same xs ns m (k + 1) (omega arith) (λ j i. a (suc j) (omega arith)) (omega arith)))
