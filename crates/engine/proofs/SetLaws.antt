-- Laws of the lines of a set: a turn of each loop over them or over the tokens of one, and over its curves.
use Rattle.std.specs.Prelude.{Ok, Err}
use mathlib.Core.Path.{◌≡◌, refl, sym, ap, ◌∙◌}
use mathlib.Core.Bool.{Bool, true, false}
use mathlib.Core.List.{List}
use Prim.Native.Nat.{ℕ, zero, suc, ◌+◌, ◌-◌, ◌<◌, ◌≤◌}
use native.Mathlib.Omega.{arith}
use native.Mathlib.Numerals.{add-one}
use lib.Dec.{eqb}
use Rattle.std.specs.Prelude.{[], ◌∷◌, Some, None, unwrap_or, nat_eq, nat_lt, cond, not}
use Rattle.std.specs.List.{position, position_or_len}
use Rattle.std.proofs.lemmas.List.Sums.{prefix_len-le-length}
use Rattle.std.proofs.Common.{ltb-false}
use lib.ListN.{length, drop, get_or, set, drop_of_length-le, get_or-eq_default}
use lib.Seq.{drop-cons}
use borrow.Author.Tests.{lt-ltb, le-ltb, eq-eqb, ne_eqb}
use Rattle.checking.specs.declared.line.Line.{Line}
use Rattle.tokens.specs.Token.{END, is_naming, whole, set_size, max_curves}
use Rattle.checking.specs.Fault.{line_at}
use Rattle.engine.specs.declared.set.Lines.{Lines}
use Rattle.engine.specs.SetLinesLaws.{Lined, read-lined}
use Rattle.engine.specs.NamesByTreeLaws.{no_names}
use Rattle.engine.specs.Set.{start_of, line_of, no_line, lines_from, lines_read, curve_start, rank_in, names_known, all_known, is_curve, curves_sound}

one_less : (k : ℕ) → suc k - 1 ≡ k
one_less k = omega arith

-- what is left of n before rank k
pub turn : (n k : ℕ) → k < n → n - k ≡ suc (n - (k + 1))
turn n k h = omega arith

-- ---- the names of a line, from place p on with `left` places left; t is the token at p

module _ (s : List ℕ) (known : ℕ → ℕ → Bool) (p t : ℕ) (e : t ≡ get_or s p 0) where
  pub names-end : t ≡ END → (left : ℕ) → 0 < left → names_known s known left p ≡ true
  unfolding names_known
  names-end z zero l = absurd (omega arith)
  names-end z (suc m) l = rw (names_known, eq-eqb (get_or s p 0) END (sym e ∙ z))

  module _ (f : t ≡ END → ⊥) where
    pub names-other : is_naming t ≡ false → (left : ℕ) → 0 < left → names_known s known left p ≡ names_known s known (left - 1) (p + 1)
    unfolding names_known
    names-other h zero l = absurd (omega arith)
    names-other h (suc m) l = rw (one_less m) (simp (names_known, ne_eqb (get_or s p 0) END (λ z. f (e ∙ z)), ap is_naming (sym e) ∙ h))

    -- the table says x of the word and of the number v that y has, two places on
    module _ (h : is_naming t ≡ true) (y v : ℕ) (u : y ≡ get_or s (p + 2) 0) (w : v ≡ whole y) (x : Bool) (g : x ≡ known t v) where
      told : known (get_or s p 0) (whole (get_or s (p + 2) 0)) ≡ x
      told = sym (g ∙ ap (λ (a : ℕ). known a v) e ∙ ap (known (get_or s p 0)) (w ∙ ap whole u))

      pub names-not : x ≡ false → (left : ℕ) → 0 < left → names_known s known left p ≡ false
      unfolding names_known
      names-not z zero l = absurd (omega arith)
      names-not z (suc m) l = simp (names_known, ne_eqb (get_or s p 0) END (λ z. f (e ∙ z)), ap is_naming (sym e) ∙ h, told ∙ z)

      pub names-on : x ≡ true → (left : ℕ) → 0 < left → names_known s known left p ≡ names_known s known (left - 1) (p + 1)
      unfolding names_known
      names-on z zero l = absurd (omega arith)
      names-on z (suc m) l = rw (one_less m) (simp (names_known, ne_eqb (get_or s p 0) END (λ z. f (e ∙ z)), ap is_naming (sym e) ∙ h, told ∙ z))

pub names-past : (s : List ℕ) (known : ℕ → ℕ → Bool) (p : ℕ) → length s ≤ p → (left : ℕ) → names_known s known left p ≡ true
unfolding names_known
names-past s known p h zero = refl
names-past s known p h (suc m) = let e : get_or s p 0 ≡ END = get_or-eq_default s 0 {n = p} h in rw (names_known, eq-eqb (get_or s p 0) END e)

-- ---- the names of the lines of n from rank k on; p is where that line begins

module _ (s : List ℕ) (known : ℕ → ℕ → Bool) (k n p : ℕ) (x : Bool) (e : p ≡ start_of s k) (g : x ≡ names_known s known set_size p) (l : k < n) where
  names : names_known s known set_size (start_of s k) ≡ x
  names = ap (names_known s known set_size) (sym e) ∙ sym g

  pub known-not : x ≡ false → all_known s known (n - k) k ≡ false
  unfolding all_known
  known-not z = rw (turn n k l) (simp (all_known, names, z))

  pub known_on : x ≡ true → all_known s known (n - k) k ≡ all_known s known (n - (k + 1)) (k + 1)
  unfolding all_known
  known_on z = rw (turn n k l) (simp (all_known, names, z))

-- a line in which no action names a line
pub known-unnamed : (s : List ℕ) (known : ℕ → ℕ → Bool) {l : Lines} → length s ≤ set_size → Lined s l → (k : ℕ) → k < l.count → {p : ℕ} → p ≡ start_of s k → (get_or l.items k no_line).names ≡ false → names_known s known set_size p ≡ true
known-unnamed s known {l} size h k b e z = rw e (no_names s known (start_of s k) size (get_or l.items k no_line) (h.listed.item k b) z)

pub known-none : (s : List ℕ) (known : ℕ → ℕ → Bool) (k m : ℕ) → m ≤ 0 → all_known s known m k ≡ true
unfolding all_known
known-none s known k zero h = refl
known-none s known k (suc m) h = absurd (omega arith)

-- ---- the lines of n from rank k on; x is that line, which begins at p

module _ (s : List ℕ) (k last n : ℕ) (ns : List ℕ) (ls : List Line) where
  module _ (p : ℕ) (q : p ≡ start_of s k) (l : k < n) where
    pub lines-fault : (c : ℕ) → Err c ≡ line_at s p → lines_from s (n - k) k last ns ls ≡ None
    unfolding lines_from
    lines-fault c g = let this : line_of s k ≡ Err c = rw (← q) (sym g) in rw (turn n k l) (simp (lines_from, this))

    module _ (x : Line) (g : Ok x ≡ line_at s p) where
      this : line_of s k ≡ Ok x
      this = rw (← q) (sym g)

      pub lines-order : x.number ≤ last → lines_from s (n - k) k last ns ls ≡ None
      unfolding lines_from
      lines-order h = rw (turn n k l) (simp (lines_from, this, le-ltb last x.number h))

      pub lines-on : last < x.number → lines_from s (n - k) k last ns ls ≡ lines_from s (n - (k + 1)) (k + 1) x.number (set ns k x.number) (set ls k x)
      unfolding lines_from
      lines-on h = rw (turn n k l) (simp (lines_from, this, lt-ltb last x.number h))

-- ---- the curves from curve n on, where the set has k lines before them; it begins at p

module _ (s : List ℕ) (n k p : ℕ) (l : n ≤ max_curves) (e : p ≡ curve_start s n) where
  next : suc max_curves - n ≡ suc (suc max_curves - (n + 1))
  next = turn (suc max_curves) n (omega arith)

  pub curves-none : p ≤ 0 → curves_sound s (suc max_curves - n) n k ≡ curves_sound s (suc max_curves - (n + 1)) (n + 1) k
  unfolding curves_sound
  curves-none h = rw next (simp (curves_sound, le-ltb 0 (curve_start s n) (rw e at h)))

  module _ (h : 0 < p) (x : Bool) (g : x ≡ is_curve s n) where
    pub curves-on : x ≡ true → curves_sound s (suc max_curves - n) n k ≡ curves_sound s (suc max_curves - (n + 1)) (n + 1) (k + 1)
    unfolding curves_sound
    curves-on z = rw next (simp (curves_sound, lt-ltb 0 (curve_start s n) (rw e at h), sym g ∙ z))

-- ---- the lines of a set that are read

pub some-lined : (s : List ℕ) (l : Lines) → Some l ≡ lines_read s → Lined s l
some-lined s l e = rw (sym e) at (read-lined s)

-- ---- the rank of a number

module _ (ns : List ℕ) (n k : ℕ) where
  pub rank-here : k < length ns → get_or ns k 0 ≡ n → rank_in (drop k ns) n k ≡ k
  unfolding rank_in
  rank-here h e = rw (drop-cons ns k 0 h, rank_in, eq-eqb (get_or ns k 0) n e)

  pub rank-on : k < length ns → (get_or ns k 0 ≡ n → ⊥) → rank_in (drop k ns) n k ≡ rank_in (drop (k + 1) ns) n (k + 1)
  unfolding rank_in
  rank-on h f = rw (drop-cons ns k 0 h, rank_in, ne_eqb (get_or ns k 0) n f, add-one k)

  pub rank-none : length ns ≤ k → rank_in (drop k ns) n k ≡ k
  unfolding rank_in
  rank-none h = rw (drop_of_length-le ns {i = k} h)

-- it is its position, past the last if there is none
position-from : (ns : List ℕ) (n k : ℕ) → rank_in ns n k ≡ k + position_or_len (λ x. nat_eq x n) ns
unfolding rank_in
position-from [] n k = omega arith
position-from (x ∷ ns) n k = go (eqb x n) (position-from ns n (k + 1))
  where
    go : (b : Bool) → rank_in ns n (k + 1) ≡ k + 1 + position_or_len (λ y. nat_eq y n) ns → elim b [ true ↦ k | false ↦ rank_in ns n (k + 1) ] ≡ k + cond (not b) (1 + position_or_len (λ y. nat_eq y n) ns) 0
    go true e = omega arith
    go false e = e ∙ omega arith

pub rank_position : (ns : List ℕ) (n k : ℕ) → length ns ≡ k → unwrap_or (position (λ x. nat_eq x n) ns) k ≡ rank_in ns n 0
rank_position ns n k e =
    ap (λ (j : ℕ). unwrap_or (position (λ x. nat_eq x n) ns) j) (sym e) ∙ go (position_or_len (λ x. nat_eq x n) ns) (prefix_len-le-length _ ns) ∙ sym (position-from ns n 0 ∙ omega arith)
  where
    by_test : (p : ℕ) → p ≤ length ns → (b : Bool) → nat_lt p (length ns) ≡ b → unwrap_or (cond b (Some p) None) (length ns) ≡ p
    by_test p h true e = refl
    by_test p h false e = let n = ltb-false p (length ns) e in omega arith

    go : (p : ℕ) → p ≤ length ns → unwrap_or (cond (nat_lt p (length ns)) (Some p) None) (length ns) ≡ p
    go p h = by_test p h (nat_lt p (length ns)) refl
