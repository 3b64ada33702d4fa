-- The names that the code has in its tables are those by which tokens are read, row by row. Assumes nothing.
use Rattle.std.specs.Prelude.{◌≡◌, Bool, true, false, ◌&&◌, List, [], ◌∷◌, ℕ, zero, suc, ◌+◌, ◌-◌, ◌*◌, ◌≤◌, ◌<◌, eqb, leb}
use Rattle.std.proofs.Math.Path.{refl}
use native.Mathlib.Omega.{arith}
use Rattle.std.proofs.Common.{eqb-true}
use Rattle.std.proofs.lemmas.Bool.{eqb-false, lt-leb}
use Rattle.values.specs.Choice.{decide, both, contrary}
use Rattle.tokens.specs.Token.{ID, IN, POS, W}
use Rattle.text.specs.Byte.{bytes, run}
use Rattle.text.specs.Word.{Words, names, name_in, same_bytes}
use Rattle.text.specs.WordLaws.{same-is, rows}
use Rattle.print.specs.TokenText.{name_text}
use Rattle.print.specs.NameRows.{row_in}

-- ---- a test of n numbers from low on

-- computed
abbrev pub in_row : (ℕ → Bool) → ℕ → ℕ → Bool
in_row f low zero = true
in_row f low (suc n) = f low && in_row f (suc low) n

-- what it says of each it says of one of them
pub row_at : (f : ℕ → Bool) (n low t : ℕ) → in_row f low n ≡ true → low ≤ t → t < low + n → f t ≡ true
row_at f zero low t h l u = absurd (omega arith)
row_at f (suc n) low t h l u =
    let (a, b) = both (f low) (in_row f (suc low) n) h in
    decide _ (eqb low t) (λ e. rw (← (eqb-true low t e)) a) (λ e. row_at f n (suc low) t b (below e) (omega arith))
  where
    below : eqb low t ≡ false → suc low ≤ t
    below e = let n = eqb-false low t e in omega (arith, n)

-- ---- the tables

-- the row of a table that begins with the token `low` is the token's name
is_row : List ℕ → ℕ → ℕ → ℕ → Bool
is_row table width low t = same_bytes (name_text t) (row_in table width ((t - low) * width))

row_is : (table : List ℕ) (width low n t : ℕ) → in_row (is_row table width low) low n ≡ true → low ≤ t → t < low + n → name_text t ≡ row_in table width ((t - low) * width)
unfolding is_row
row_is table width low n t h l u = same-is (name_text t) (row_in table width ((t - low) * width)) (row_at (is_row table width low) n low t h l u)

abbrev pub sign_rows : List ℕ
sign_rows = bytes "  = ==<>< > <=>=+ - * / ( ) [ ] "

abbrev pub keyword_rows : List ℕ
keyword_rows = bytes "ID      IDS     WHEN    WHENEVERFROM    EVERY   DO      TRUE    FALSE   NOT     AND     OR      XOR     ,       FCTDEF          "

abbrev pub variable_rows : List ℕ
variable_rows = bytes "$A_IN     $A_INA    $A_OUT    $AC_MARKER$AC_PARAM $R        $AC_TIMER $AC_FIFO1 $AC_FIFO2 $AC_FIFO3 $AC_FIFO4 $AA_IM                                            "

abbrev pub action_rows : List ℕ
action_rows = bytes "POS   FA    MOV   M     SETAL LOCK  UNLOCK      SYNFCTX     Y     Z     U     V     W     "

module _ (t : ℕ) where
  pub sign-row : t < ID → name_text t ≡ row_in sign_rows 2 (t * 2)
  unfolding is_row name_text row_in run
  sign-row h = let e : t - 0 ≡ t = omega arith in rw e at (row_is sign_rows 2 0 16 t refl (omega arith) (omega arith))

  pub keyword-row : ID ≤ t → t < IN → name_text t ≡ row_in keyword_rows 8 ((t - ID) * 8)
  unfolding is_row name_text row_in run
  keyword-row l u = row_is keyword_rows 8 ID 16 t refl l (omega arith)

  pub variable-row : IN ≤ t → t < POS → name_text t ≡ row_in variable_rows 10 ((t - IN) * 10)
  unfolding is_row name_text row_in run
  variable-row l u = row_is variable_rows 10 IN 16 t refl l (omega arith)

  pub action-row : POS ≤ t → t ≤ W → name_text t ≡ row_in action_rows 6 ((t - POS) * 6)
  unfolding is_row name_text row_in run
  action-row l u = row_is action_rows 6 POS 15 t refl l (omega arith)

-- ---- tokens behind all names

none_named : (ws : Words) (t : ℕ) → rows (λ x k. leb k W) ws ≡ true → W < t → name_in ws t ≡ []
none_named [] t h g = refl
none_named (w ∷ ws) t h g =
    let (a, b) = both (leb w.1 W) (rows (λ x k. leb k W) ws) h in
    decide _ (eqb w.1 t)
    (λ e. contrary (rw (eqb-true w.1 t e) at a) (lt-leb t W g))
    (λ e. rw (name_in, e) (none_named ws t b g))

pub no_name : (t : ℕ) → W < t → name_text t ≡ []
unfolding name_text
no_name t h = none_named names t refl h
