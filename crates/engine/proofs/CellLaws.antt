-- Laws of cells that a loop writes: a list copied into another, inputs put in front; and the cells of a beat, part by part.
use mathlib.Core.Path.{◌≡◌, sym, ap, ◌∙◌}
use mathlib.Core.Bool.{cond}
use mathlib.Core.List.{List, [], ◌++◌, append_assoc, append-nil}
use Prim.Native.Nat.{ℕ, ◌+◌, ◌-◌, ◌/◌, ◌%◌, ◌^◌, ◌<◌}
use native.Mathlib.Omega.{arith}
use native.Mathlib.Numerals.{add-one}
use native.Mathlib.Nat.{pow-suc, div-div-eq-div-mul}
use lib.Dec.{eqb}
use lib.IntN.{ℤ, pos}
use lib.ListN.{length, take, drop, set, length-drop, length-append, drop_of_length-le}
use lib.Seq.{length-take-le, take_all, take_at, drop_at, drop-drop, append_snoc}
use Rattle.values.specs.Value.{unit}
use Rattle.values.specs.ListLaws.{put}
use Rattle.engine.specs.Cells.{input_cell, input_cells}
use Rattle.engine.specs.InputLaws.{length-inputs}

-- ---- inputs

module _ (word i rest : ℕ) (r : rest ≡ word / 2 ^ i) where
  pub input-rest : rest / 2 ≡ word / 2 ^ (i + 1)
  input-rest = rw (r, add-one i, pow-suc) (div-div-eq-div-mul word (2 ^ i) 2)

  pub input-turn : (d cs : List ℤ) (v : ℤ) → cs ≡ input_cells word i ++ drop i d → i < length d → v ≡ cond (eqb (rest % 2) 1) (pos unit) (pos 0) → set cs i v ≡ input_cells word (i + 1) ++ drop (i + 1) d
  unfolding input_cells
  input-turn d cs v e h q = rw (e, q, r) (put (input_cells word i) i (length-inputs word i) d h (input_cell word i) (pos 0) ∙ sym (rw (add-one i, append_snoc)))

-- ---- the cells of a beat, part by part: the input bits, the analogues, the positions and the cells of the state

-- m cells are copied behind n that stand in front of d
pub behind : (a b d x y : List ℤ) (n m : ℕ) → length a ≡ n → length b ≡ m → x ≡ a ++ drop n d → y ≡ take n x ++ (b ++ drop (n + length b) x) → y ≡ (a ++ b) ++ drop (n + m) d
behind a b d x y n m la lb ex ey =
    let t : take n x ≡ a = rw ex (take_at a (drop n d) n la) in
    let r : drop (n + m) x ≡ drop (n + m) d = sym (drop-drop m n x) ∙ ap (λ (l : List ℤ). drop m l) (ap (λ (l : List ℤ). drop n l) ex ∙ drop_at a (drop n d) n la) ∙ drop-drop m n d in
    ey ∙ rw (t, lb, r) (sym (append_assoc a b (drop (n + m) d)))

-- the inputs are put in front of d, then the analogues are copied behind them, and the positions behind these
pub begun : (a v b g d x y z : List ℤ) → length a ≡ 16 → length v ≡ 8 → length b ≡ 6 → drop 30 d ≡ g → x ≡ a ++ drop 16 d → y ≡ take 16 x ++ (v ++ drop (16 + length v) x) → z ≡ take 24 y ++ (b ++ drop (24 + length b) y) → z ≡ a ++ (v ++ (b ++ g))
begun a v b g d x y z la lv lb e ex ey ez =
    behind (a ++ v) b d y z 24 6 (omega (arith, length-append a v)) lb (behind a v d x y 16 8 la lv ex ey) ez
    ∙ rw (e) (append_assoc (a ++ v) b g ∙ append_assoc a v (b ++ g))

-- a part of 92 cells behind the first 30 is replaced
pub replaced : (d g x : List ℤ) → length d ≡ 122 → x ≡ take 30 d ++ (g ++ drop 92 (drop 30 d)) → drop 30 x ≡ g
replaced d g x l e =
    let n : drop 92 (drop 30 d) ≡ [] = drop_of_length-le (drop 30 d) {i = 92} (rw length-drop (omega arith)) in
    ap (λ (l : List ℤ). drop 30 l) (e ∙ ap (λ (l : List ℤ). take 30 d ++ l) (ap (λ (l : List ℤ). g ++ l) n ∙ append-nil g)) ∙ drop_at (take 30 d) g 30 (length-take-le 30 d (omega arith))

-- all behind the first 30 cells, as a part of them
pub behind-inputs : (d : List ℤ) → take (length d - 30) (drop 30 d) ≡ drop 30 d
behind-inputs d = take_all (length d - 30) (drop 30 d) (rw length-drop (omega arith))

pub all-behind : (d : List ℤ) → length d ≡ 122 → take 92 (drop 30 d) ≡ drop 30 d
all-behind d l = take_all 92 (drop 30 d) (rw length-drop (omega arith))
