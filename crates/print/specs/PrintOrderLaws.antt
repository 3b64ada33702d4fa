-- Laws of the rows of a set slot by slot: what is put at each, and that all of them are the curves, then the lines. Assumes nothing.
use Rattle.std.specs.Prelude.{◌≡◌, Bool, ◌||◌, ltb}
use Rattle.std.proofs.Math.Path.{refl, ap}
use Rattle.std.proofs.Common.{◌∙◌, lt-ltb, le-ltb, le-leb}
use Rattle.std.proofs.Math.Bool.{true, false, or-true, or-false}
use mathlib.Core.List.{List, [], ◌∷◌, ◌++◌}
use Prim.Native.Nat.{ℕ, zero, suc, ◌+◌, ◌-◌, ◌≤◌, ◌<◌}
use native.Mathlib.Omega.{arith}
use Rattle.std.proofs.Math.ListN.{get_or}
use Rattle.std.proofs.lemmas.Bool.{lt-leb}
use Rattle.values.specs.Choice.{decide, chosen, refused}
use Rattle.tokens.specs.Token.{max_curves}
use Rattle.engine.specs.Set.{start_place, curve_place, start_of, curve_start}
use Rattle.text.specs.Byte.{LF}
use Rattle.print.specs.TokenText.{line_text}
use Rattle.print.specs.PrintText.{row_at, curve_rows, line_rows, behind_text, rows_text}
use Rattle.print.specs.PrintOrder.{slot_at, slot_start, has_row, slot_rows, rows_behind, row_behind, slot_text}

-- ---- slots

-- those of the curves
module _ (k : ℕ) (h : k < max_curves) where
  pub slot-curve : slot_at k ≡ curve_place (k + 1)
  unfolding slot_at
  slot-curve = chosen _ _ _ (lt-ltb k max_curves h)

  pub curve-there : (s : List ℕ) → has_row s k ≡ ltb 0 (slot_start s k)
  unfolding has_row
  curve-there s = rw (lt-leb max_curves k h)

-- and those of the lines
module _ (k : ℕ) (h : max_curves ≤ k) where
  pub slot-line : slot_at k ≡ start_place (k - max_curves)
  unfolding slot_at
  slot-line = refused _ _ _ (le-ltb k max_curves h)

  pub line-there : (s : List ℕ) → has_row s k ≡ true
  unfolding has_row
  line-there s = rw (le-leb max_curves k h)

-- ---- all rows

module _ (s : List ℕ) where
  lines-slots : (m k : ℕ) → slot_rows s m (max_curves + k) ≡ line_rows s m k
  unfolding slot_rows line_rows
  lines-slots zero k = refl
  lines-slots (suc m) k =
      let e : max_curves + k - max_curves ≡ k = omega arith in
      let f : max_curves + k + 1 ≡ max_curves + (k + 1) = omega arith in
      let g : slot_start s (max_curves + k) ≡ start_of s k = ap (λ (p : ℕ). get_or s p 0) (slot-line (max_curves + k) (omega arith) ∙ ap start_place e) in
      rw (slot_rows, line-there (max_curves + k) (omega arith) s, g, f, lines-slots m (k + 1))

  curves-slots : (m k n : ℕ) → k + m ≡ max_curves → slot_rows s (m + n) k ≡ curve_rows s m (k + 1) ++ line_rows s n 0
  unfolding slot_rows curve_rows
  curves-slots zero k n h = let e : k ≡ max_curves + 0 = omega arith in let z : 0 + n ≡ n = omega arith in rw (e, z) (lines-slots n 0)
  curves-slots (suc m) k n h =
      let i = curves-slots m (k + 1) n (omega arith) in
      let z : suc m + n ≡ suc (m + n) = omega arith in
      let e = curve-there k (omega arith) s in
      let f : slot_start s k ≡ curve_start s (k + 1) = ap (λ (p : ℕ). get_or s p 0) (slot-curve k (omega arith)) in
      decide _ (ltb 0 (curve_start s (k + 1)))
      (λ t. rw (z, slot_rows, curve_rows, e, f, t, f, i))
      (λ t. rw (z, slot_rows, curve_rows, e, f, t, i))

  -- THE ROWS OF ALL SLOTS are the curves, then the lines
  pub slots-rows : (count : ℕ) → slot_rows s (max_curves + count) 0 ≡ curve_rows s max_curves 1 ++ line_rows s count 0
  slots-rows count = curves-slots max_curves 0 count refl

-- ---- what is put

module _ (s : List ℕ) (b : Bool) where
  behind-line : (p : ℕ) (rs : List (List ℕ)) → rows_behind b (row_at s p ∷ rs) ≡ row_behind s b p ++ behind_text rs
  unfolding behind_text rows_text row_behind
  behind-line p rs = go b
    where
      go : (b : Bool) → rows_behind b (row_at s p ∷ rs) ≡ row_behind s b p ++ behind_text rs
      go true = refl
      go false = refl

  module _ (count k : ℕ) where
    pub slots_next : k < count → rows_behind b (slot_rows s (count - k) k) ≡ slot_text s b k ++ rows_behind (b || has_row s k) (slot_rows s (count - (k + 1)) (k + 1))
    unfolding slot_rows slot_text
    slots_next h =
        let e : count - k ≡ suc (count - (k + 1)) = omega arith in
        decide _ (has_row s k)
        (λ t. rw (e, slot_rows, slot_text, t, or-true b) (behind-line (slot_start s k) (slot_rows s (count - (k + 1)) (k + 1))))
        (λ t. rw (e, slot_rows, slot_text, t, or-false b))

    pub slots-over : count ≤ k → rows_behind b (slot_rows s (count - k) k) ≡ []
    unfolding slot_rows behind_text rows_text
    slots-over h = let e : count - k ≡ 0 = omega arith in rw e (go b)
      where
        go : (b : Bool) → rows_behind b (slot_rows s 0 k) ≡ []
        go true = refl
        go false = refl

-- ---- what is put at a slot, by its tests

module _ (s : List ℕ) (b : Bool) (p : ℕ) where
  pub row_first : b ≡ false → row_behind s b p ≡ line_text (row_at s p)
  unfolding row_behind
  row_first h = refused _ _ _ h

  pub row_next : b ≡ true → row_behind s b p ≡ (LF ∷ []) ++ line_text (row_at s p)
  unfolding row_behind
  row_next h = chosen _ _ _ h

module _ (s : List ℕ) (b : Bool) (k : ℕ) where
  pub slot-none : has_row s k ≡ false → slot_text s b k ≡ []
  unfolding slot_text
  slot-none h = refused _ _ _ h

  pub slot-some : has_row s k ≡ true → slot_text s b k ≡ row_behind s b (slot_start s k)
  unfolding slot_text
  slot-some h = chosen _ _ _ h
