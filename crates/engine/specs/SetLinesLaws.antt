-- The lines of a set as they are read: how many, in which order, and that they are the set's. Assumes nothing.
use Rattle.std.specs.Prelude.{Result, Ok, Err, true, false, ◌≡◌, refl, List, ℕ, zero, suc, ◌+◌, ◌≤◌, ◌<◌, ltb, length, get_or, set, replicate, Option, Some, None, unwrap_or, option_and_then}
use Rattle.std.proofs.Common.{◌∙◌, arith, length-set, get_or-set_same, get_or-set_other, ltb-true, ltb-false}
use Rattle.std.proofs.Math.Decide.{ℕ_discrete, dec_lt}
use Rattle.std.proofs.lemmas.List.{get_or-replicate}
use Rattle.std.proofs.Math.ListN.{get_or-eq_default}
use Rattle.values.specs.Choice.{either, if_not}
use Rattle.tokens.specs.Token.{max_lines, max_curves}
use Rattle.checking.specs.declared.line.Line.{Line}
use Rattle.engine.specs.declared.set.Lines.{Lines}
use Rattle.engine.specs.Set.{line_count, line_of, no_line, no_lines, lines_from, lines_read, set_table, all_known, curves_sound, named_lines, sound_lines, lines_of}

-- the lines of a set before its curves and its names are looked at
abbrev pub first_lines : List ℕ → Lines
first_lines s = unwrap_or (lines_read s) no_lines

-- the lines of a set are those that are read, or none
pub by-sound : (P : Lines → Type 0) (s : List ℕ) → P no_lines → P (first_lines s) → P (lines_of s)
unfolding sound_lines named_lines
by-sound P s n = go (lines_read s)
  where
    go : (o : Option Lines) → P (unwrap_or o no_lines) → P (unwrap_or (option_and_then (λ (l : Lines). elim (curves_sound s max_curves 1 l.count) [ true ↦ named_lines s l | false ↦ None ]) o) no_lines)
    go None r = n
    go (Some l) r =
        if_not (λ (o : Option Lines). P (unwrap_or o no_lines)) (curves_sound s max_curves 1 l.count) (λ _. n) λ _.
        if_not (λ (o : Option Lines). P (unwrap_or o no_lines)) (all_known s (set_table s l.numbers) l.count 0) (λ _. n) (λ _. r)

-- of the lines from rank k on: the first is told and its number rises, with those behind it, or they are none
pub by-first : (P : Lines → Type 0) (s : List ℕ) (m k last : ℕ) (ns : List ℕ) (ls : List Line) → P no_lines →
    ((l : Line) → line_of s k ≡ Ok l → last < l.number → P (unwrap_or (lines_from s m (k + 1) l.number (set ns k l.number) (set ls k l)) no_lines)) → P (unwrap_or (lines_from s (suc m) k last ns ls) no_lines)
unfolding lines_from
by-first P s m k last ns ls none some = go (line_of s k) refl
  where
    go : (r : Result Line ℕ) → line_of s k ≡ r → P (unwrap_or (elim r as (λ _. Option Lines) [ Ok l ↦ elim (ltb last l.number) as (λ _. Option Lines) [ true ↦ lines_from s m (k + 1) l.number (set ns k l.number) (set ls k l) | false ↦ None ] | Err c ↦ None ]) no_lines)
    go (Ok l) e = if_not (λ (o : Option Lines). P (unwrap_or o no_lines)) (ltb last l.number) (λ q. none) (λ q. some l e (ltb-true last l.number q))
    go (Err c) e = none

-- the first k lines of a set, as they stand in lists of 32
pub record Listed (s : List ℕ) (k : ℕ) (ns : List ℕ) (ls : List Line) : Type 0 where
  pub item : (j : ℕ) → j < k → line_of s j ≡ Ok (get_or ls j no_line)
  pub number : (j : ℕ) → j < k → get_or ns j 0 ≡ (get_or ls j no_line).number
  pub rising : (i j : ℕ) → i < j → j < k → (get_or ls i no_line).number < (get_or ls j no_line).number
  pub positive : (j : ℕ) → j < k → 1 ≤ (get_or ls j no_line).number
  pub none : (j : ℕ) → k ≤ j → get_or ns j 0 ≡ 0

-- what is always so of the lines read: at most 32, in lists of 32; and they are the set's
pub record Lined (s : List ℕ) (l : Lines) : Type 0 where
  pub few : l.count ≤ max_lines
  pub numbers_length : length l.numbers ≡ max_lines
  pub items_length : length l.items ≡ max_lines
  pub listed : Listed s l.count l.numbers l.items

-- one more line
module _ (s : List ℕ) (k last : ℕ) (ns : List ℕ) (ls : List Line) (few : k < max_lines) (nl : length ns ≡ max_lines) (il : length ls ≡ max_lines)
    (h : Listed s k ns ls) (below : (j : ℕ) → j < k → (get_or ls j no_line).number ≤ last) (l : Line) (found : line_of s k ≡ Ok l) (more : last < l.number) where
  here : get_or (set ls k l) k no_line ≡ l
  here = get_or-set_same ls k l no_line (omega arith)

  there : (j : ℕ) → (j ≡ k → ⊥) → get_or (set ls k l) j no_line ≡ get_or ls j no_line
  there j n = get_or-set_other ls k j l no_line n

  one_more_lem : Listed s (k + 1) (set ns k l.number) (set ls k l)
  one_more_lem = record {
    item = λ j m. item' j m (ℕ_discrete j k);
    number = λ j m. number' j m (ℕ_discrete j k);
    rising = λ i j m o. rising' i j m o (ℕ_discrete j k);
    positive = λ j m. positive' j m (ℕ_discrete j k);
    none = λ j m. get_or-set_other ns k j _ 0 (λ e. omega arith) ∙ h.none j (omega arith);
  }
    where
      item' : (j : ℕ) → j < k + 1 → Dec (j ≡ k) → line_of s j ≡ Ok (get_or (set ls k l) j no_line)
      item' j m (yes e) = rw (e, here) found
      item' j m (no n) = rw (there j n) (h.item j (omega (arith, n)))

      number' : (j : ℕ) → j < k + 1 → Dec (j ≡ k) → get_or (set ns k l.number) j 0 ≡ (get_or (set ls k l) j no_line).number
      number' j m (yes e) = rw (e, here) (get_or-set_same ns k l.number 0 (omega arith))
      number' j m (no n) = rw (there j n) (get_or-set_other ns k j _ 0 n ∙ h.number j (omega (arith, n)))

      rising' : (i j : ℕ) → i < j → j < k + 1 → Dec (j ≡ k) → (get_or (set ls k l) i no_line).number < (get_or (set ls k l) j no_line).number
      rising' i j m o (yes e) = let b = below i (omega arith) in rw (e, here, there i (λ z. omega arith)) (omega arith)
      rising' i j m o (no n) = rw (there j n, there i (λ z. omega arith)) (h.rising i j m (omega (arith, n)))

      positive' : (j : ℕ) → j < k + 1 → Dec (j ≡ k) → 1 ≤ (get_or (set ls k l) j no_line).number
      positive' j m (yes e) = rw (e, here) (omega arith)
      positive' j m (no n) = rw (there j n) (h.positive j (omega (arith, n)))

  still-below : (j : ℕ) → j < k + 1 → (get_or (set ls k l) j no_line).number ≤ l.number
  still-below j m = by_place (ℕ_discrete j k)
    where
      by_place : Dec (j ≡ k) → (get_or (set ls k l) j no_line).number ≤ l.number
      by_place (yes e) = rw (e, here) (omega arith)
      by_place (no n) = let b = below j (omega (arith, n)) in rw (there j n) (omega arith)

at_zero : (i : ℕ) → get_or {A = ℕ} (replicate max_lines 0) i 0 ≡ 0
at_zero i = by_place (dec_lt i max_lines)
  where
    by_place : Dec (i < max_lines) → get_or {A = ℕ} (replicate max_lines 0) i 0 ≡ 0
    by_place (yes l) = get_or-replicate max_lines i 0 0 l
    by_place (no l) = get_or-eq_default (replicate max_lines 0) 0 {n = i} (omega (arith, l))

none-listed : (s : List ℕ) → Listed s 0 (replicate max_lines 0) (replicate max_lines no_line)
none-listed s = record {
  item = λ j l. absurd (omega arith);
  number = λ j l. absurd (omega arith);
  rising = λ i j m l. absurd (omega arith);
  positive = λ j l. absurd (omega arith);
  none = λ j l. at_zero j;
}

none-lined : (s : List ℕ) → Lined s no_lines
none-lined s = record { few = omega arith; numbers_length = refl; items_length = refl; listed = none-listed s }

abbrev LinedIf : List ℕ → Option Lines → Type 0
LinedIf s o = Lined s (unwrap_or o no_lines)

from-lined : (s : List ℕ) (m k last : ℕ) (ns : List ℕ) (ls : List Line) → k + m ≤ max_lines → length ns ≡ max_lines → length ls ≡ max_lines →
    Listed s k ns ls → ((j : ℕ) → j < k → (get_or ls j no_line).number ≤ last) → LinedIf s (lines_from s m k last ns ls)
unfolding lines_from
from-lined s zero k last ns ls few nl il h below = record { few = omega arith; numbers_length = nl; items_length = il; listed = h }
from-lined s (suc m) k last ns ls few nl il h below =
    by-first (Lined s) s m k last ns ls (none-lined s) λ l e t.
    from-lined s m (k + 1) l.number _ _ (omega arith) (length-set ns k _ ∙ nl) (length-set ls k _ ∙ il)
    (one_more_lem s k last ns ls (omega arith) nl il h below l e t) (still-below s k last ns ls (omega arith) nl il h below l e t)

-- the lines of any set, before their names are looked at
pub read-lined : (s : List ℕ) → Lined s (first_lines s)
unfolding lines_read
read-lined s =
    either (LinedIf s) (ltb max_lines (line_count s)) (λ p. none-lined s) λ p.
    from-lined s (line_count s) 0 0 _ _ (omega (arith, ltb-false max_lines (line_count s) p)) refl refl (none-listed s) (λ j l. absurd (omega arith))

-- and behind
pub lines-lined : (s : List ℕ) → Lined s (lines_of s)
lines-lined s = by-sound (Lined s) s (none-lined s) (read-lined s)
