-- In the loop of `draft::numbers_in` the numbers before `k` are there.
use Rattle.std.proofs.Common.{◌≡◌, ℕ, ◌<◌, length, get_or}
use Rattle.tokens.specs.Token.{max_lines}
use Rattle.reader.specs.Draft.{no_draft_line}
use Rattle.reader.proofs.draft.numbers_in.Given as goal

abbrev pub invariant-loop-k : goal.invariant-loop-k
invariant-loop-k l = record {
  long : length l.numbers ≡ max_lines;
  before : (j : ℕ) → j < l.k → get_or l.numbers j 0 ≡ (get_or l.lines j no_draft_line).number;
}
