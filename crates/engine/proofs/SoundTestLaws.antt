-- Laws of soundness: a turn of a loop that tests each element of a list, and of one that counts, over the ranks or the FIFOs.
use mathlib.Core.Path.{◌≡◌, refl, sym, ap, ◌∙◌}
use mathlib.Core.Bool.{Bool, true, false, ◌&&◌}
use mathlib.Core.List.{List, ◌∷◌}
use Prim.Native.Nat.{ℕ, zero, suc, ◌+◌, ◌-◌, ◌<◌, ◌≤◌}
use native.Mathlib.Omega.{arith}
use native.Mathlib.Numerals.{add-one}
use lib.IntN.{ℤ, pos}
use lib.ListN.{length, drop, get_or, drop_of_length-le}
use lib.Seq.{drop-cons}
use Rattle.values.specs.Value.{in_range, equal_to}
use Rattle.engine.specs.ActCount.{is_act_count, are_act_counts}
use Rattle.engine.specs.Sound.{all_ranged, is_cell, are_cells, all_zero, is_fifo_sound, are_fifos, is_flag, are_flags}
use Rattle.tokens.specs.Token.{max_lines}
use Rattle.working.specs.Variables.{fifos}
use Rattle.engine.proofs.SetLaws.{turn}

-- what was said so far, and what is said of the rest
and-next : (g x t : Bool) → ((g && x) && t) ≡ (g && (x && t))
and-next true x t = refl
and-next false x t = refl

and-done : (g : Bool) {t : Bool} → t ≡ true → g ≡ (g && t)
and-done true e = sym e
and-done false e = refl

-- a rule f for a list, from place i on: the test p of its first element, and the rule for the rest; x is what the test of the element at i said
module _ (p : ℕ → ℤ → Bool) (f : List ℤ → ℕ → Bool) (some : (v : ℤ) (vs : List ℤ) (i : ℕ) → f (v ∷ vs) i ≡ (p i v && f vs (i + 1))) (xs : List ℤ) (i : ℕ) (l : i < length xs) (x : Bool) (e : x ≡ p i (get_or xs i (pos 0))) where
  falls : f (drop i xs) i ≡ (x && f (drop (i + 1) xs) (i + 1))
  falls = rw (drop-cons xs i (pos 0) l, add-one i, e) (some (get_or xs i (pos 0)) (drop (suc i) xs) i ∙ rw add-one)

  each_next : (g : Bool) → ((g && x) && f (drop (i + 1) xs) (i + 1)) ≡ (g && f (drop i xs) i)
  each_next g = and-next g x (f (drop (i + 1) xs) (i + 1)) ∙ ap (λ (t : Bool). g && t) (sym falls)

module _ (xs : List ℤ) (i : ℕ) where
  module _ (l : i < length xs) (x : Bool) where
    pub ranged-next : x ≡ in_range (get_or xs i (pos 0)) → (g : Bool) → ((g && x) && all_ranged (drop (i + 1) xs)) ≡ (g && all_ranged (drop i xs))
    unfolding all_ranged
    ranged-next = each_next (λ _ v. in_range v) (λ vs _. all_ranged vs) (λ v vs _. refl) xs i l x

    pub zero-next : x ≡ equal_to (get_or xs i (pos 0)) (pos 0) → (g : Bool) → ((g && x) && all_zero (drop (i + 1) xs)) ≡ (g && all_zero (drop i xs))
    unfolding all_zero
    zero-next = each_next (λ _ v. equal_to v (pos 0)) (λ vs _. all_zero vs) (λ v vs _. refl) xs i l x

    pub cells-next : x ≡ is_cell i (get_or xs i (pos 0)) → (g : Bool) → ((g && x) && are_cells (drop (i + 1) xs) (i + 1)) ≡ (g && are_cells (drop i xs) i)
    unfolding are_cells
    cells-next = each_next is_cell are_cells (λ v vs _. refl) xs i l x

  module _ (l : length xs ≤ i) (g : Bool) where
    pub ranged-done : g ≡ (g && all_ranged (drop i xs))
    unfolding all_ranged
    ranged-done = and-done g (rw (drop_of_length-le xs {i = i} l))

    pub zero-done : g ≡ (g && all_zero (drop i xs))
    unfolding all_zero
    zero-done = and-done g (rw (drop_of_length-le xs {i = i} l))

    pub cells-done : g ≡ (g && are_cells (drop i xs) i)
    unfolding are_cells
    cells-done = and-done g (rw (drop_of_length-le xs {i = i} l))

-- ---- a rule f for m numbers from k on: the test p of the first, and the rule for the rest; x is what the test of k said

module _ (p : ℕ → Bool) (f : ℕ → ℕ → Bool) (some : (m k : ℕ) → f (suc m) k ≡ (p k && f m (k + 1))) (n k : ℕ) (l : k < n) (x : Bool) (e : x ≡ p k) where
  counts : f (n - k) k ≡ (x && f (n - (k + 1)) (k + 1))
  counts = rw (turn n k l, e) (some (n - (k + 1)) k)

  number-next : (g : Bool) → ((g && x) && f (n - (k + 1)) (k + 1)) ≡ (g && f (n - k) k)
  number-next g = and-next g x (f (n - (k + 1)) (k + 1)) ∙ ap (λ (t : Bool). g && t) (sym counts)

module _ (r c : List ℤ) (k : ℕ) where
  pub fifos-next : k < fifos → (x : Bool) → x ≡ is_fifo_sound r c k → (g : Bool) → ((g && x) && are_fifos r c (fifos - (k + 1)) (k + 1)) ≡ (g && are_fifos r c (fifos - k) k)
  unfolding are_fifos
  fifos-next l x = number-next (is_fifo_sound r c) (are_fifos r c) (λ m k. refl) fifos k l x

  pub fifos-done : (m : ℕ) → m ≤ 0 → (g : Bool) → g ≡ (g && are_fifos r c m k)
  unfolding are_fifos
  fifos-done zero h g = and-done g refl
  fifos-done (suc m) h g = absurd (omega arith)

module _ (count : ℕ) (locked cancelled memory : List Bool) (k : ℕ) where
  -- what is tested of a rank
  abbrev flag : ℕ → Bool
  flag i = is_flag count i (get_or locked i false) (get_or cancelled i false) (get_or memory i false)

  pub flags-next : k < max_lines → (x : Bool) → x ≡ flag k → (g : Bool) → ((g && x) && are_flags count locked cancelled memory (max_lines - (k + 1)) (k + 1)) ≡ (g && are_flags count locked cancelled memory (max_lines - k) k)
  unfolding are_flags
  flags-next l x = number-next flag (are_flags count locked cancelled memory) (λ m k. refl) max_lines k l x

  pub flags-done : (m : ℕ) → m ≤ 0 → (g : Bool) → g ≡ (g && are_flags count locked cancelled memory m k)
  unfolding are_flags
  flags-done zero h g = and-done g refl
  flags-done (suc m) h g = absurd (omega arith)

module _ (count : ℕ) (acts : List ℕ) (k : ℕ) where
  pub counts-next : k < max_lines → (x : Bool) → x ≡ is_act_count count k (get_or acts k 0) → (g : Bool) → ((g && x) && are_act_counts count acts (max_lines - (k + 1)) (k + 1)) ≡ (g && are_act_counts count acts (max_lines - k) k)
  unfolding are_act_counts
  counts-next l x = number-next (λ i. is_act_count count i (get_or acts i 0)) (are_act_counts count acts) (λ m k. refl) max_lines k l x

  pub counts-done : (m : ℕ) → m ≤ 0 → (g : Bool) → g ≡ (g && are_act_counts count acts m k)
  unfolding are_act_counts
  counts-done zero h g = and-done g refl
  counts-done (suc m) h g = absurd (omega arith)
