-- In the loop of `lines::read_lines` what becomes of the lines from place `i` on, below those that are kept, is what becomes of all.
use Rattle.std.proofs.Common.{◌≡◌, ◌+◌, ◌-◌, ◌≤◌, length, drop}
use Rattle.tokens.specs.Token.{max_lines}
use Rattle.engine.specs.Set.{empty_set}
use Rattle.text.specs.Lines.{text_lines, bodies, numbered, token_lines}
use Rattle.reader.specs.Row.{nothing}
use Rattle.reader.specs.Load.{rows_from}
use Rattle.reader.specs.Draft.{kept_in, Held}
use Rattle.reader.proofs.lines.read_lines.Given as goal

abbrev pub invariant-loop-i : goal.invariant-loop-i
invariant-loop-i l = record {
  all : rows_from (kept_in l.s l.d) (numbered l.k (bodies (text_lines (drop l.i l.text)))) ≡ rows_from nothing (token_lines l.text);
  held : Held l.s l.d;
  empty : l.row ≡ empty_set;
  few : l.d.count + length (numbered l.k (bodies (text_lines (drop l.i l.text)))) ≤ max_lines;
  room : l.d.at ≤ l.i;
  behind : l.k ≤ l.i + 1;
  within : l.i ≤ length l.text + 1;
}

abbrev pub decreases-loop-i : goal.decreases-loop-i
decreases-loop-i l = length l.text + 1 - l.i
