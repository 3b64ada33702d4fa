-- Laws of how many lines are read from a set: no more than it may have.
use Rattle.std.specs.Prelude.{◌≡◌, refl, Option, Some, None, unwrap_or, Bool, true, false, List, ℕ, zero, suc, ◌+◌, ◌≤◌, ltb, set, replicate}
use Rattle.std.proofs.Common.{arith, ltb-false}
use Rattle.tokens.specs.Token.{max_lines}
use Rattle.checking.specs.declared.line.Line.{Line}
use Rattle.engine.specs.declared.set.Lines.{Lines}
use Rattle.engine.specs.Set.{line_count, no_line, no_lines, lines_from, lines_read, sound_lines, lines_of}
use Rattle.engine.specs.SetLinesLaws.{by-sound, by-first, first_lines}

abbrev choose : Bool → Option Lines → Option Lines → Option Lines
choose b x y = elim b [ true ↦ x | false ↦ y ]

abbrev count_in : Option Lines → ℕ
count_in o = (unwrap_or o no_lines).count

from-count : (s : List ℕ) (m k last : ℕ) (ns : List ℕ) (ls : List Line) → k + m ≤ max_lines → count_in (lines_from s m k last ns ls) ≤ max_lines
unfolding lines_from
from-count s zero k last ns ls h = omega arith
from-count s (suc m) k last ns ls h = by-first (λ (x : Lines). x.count ≤ max_lines) s m k last ns ls (omega arith) (λ l _ _. from-count s m (k + 1) l.number (set ns k l.number) (set ls k l) (omega arith))

pub read_count : (s : List ℕ) → (first_lines s).count ≤ max_lines
unfolding lines_read
read_count s = go (ltb max_lines (line_count s)) refl
  where
    go : (b : Bool) → ltb max_lines (line_count s) ≡ b → count_in (choose b None (lines_from s (line_count s) 0 0 (replicate max_lines 0) (replicate max_lines no_line))) ≤ max_lines
    go true e = omega arith
    go false e = from-count s (line_count s) 0 0 (replicate max_lines 0) (replicate max_lines no_line) (omega (arith, ltb-false max_lines (line_count s) e))

pub sound-count : (s : List ℕ) → (lines_of s).count ≤ max_lines
sound-count s = by-sound (λ l. l.count ≤ max_lines) s (omega arith) (read_count s)

pub some-count : (s : List ℕ) (l : Lines) → sound_lines s ≡ Some l → l.count ≤ max_lines
some-count s l e = rw e at (sound-count s)
