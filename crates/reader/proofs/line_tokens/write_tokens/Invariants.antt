-- `line_tokens::write_tokens`: the tokens from byte `i` on, put behind the n that are written, come to all tokens.
use Rattle.std.proofs.Common.{◌≡◌, ◌+◌, ◌-◌, ◌≤◌, length, drop}
use Rattle.text.specs.Tokens.{tokens_of}
use Rattle.values.specs.PutAt.{put_at}
use Rattle.reader.proofs.line_tokens.write_tokens.Given as goal

abbrev pub invariant-loop-i : goal.invariant-loop-i
invariant-loop-i l =
    record {
      put : put_at l.s (l.at + l.n) (tokens_of (drop l.i l.body)).list ≡ put_at l.initial.s l.at (tokens_of l.body).list;
      good : (tokens_of (drop l.i l.body)).good ≡ (tokens_of l.body).good;
      count : l.n + length (tokens_of (drop l.i l.body)).list ≡ length (tokens_of l.body).list;
      behind : l.n ≤ l.i;
      inside : l.i ≤ length l.body;
    }

abbrev pub decreases-loop-i : goal.decreases-loop-i
decreases-loop-i l = length l.body - l.i
