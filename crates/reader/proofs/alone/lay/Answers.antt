-- `alone::lay` meets its contract: what is copied stands at the beginning, and the rest stays.
use native.Mathlib.Omega.{arith}
use mathlib.Core.Path.{ap, ◌∙◌}
use mathlib.Core.List.{List, ◌++◌}
use Prim.Native.Nat.{ℕ}
use lib.ListN.{length, drop}
use Rattle.reader.proofs.AloneLaws.{put-front}
use Rattle.reader.proofs.alone.lay.Goals as goal

pub returns : goal.returns
returns c = let a = c.args in ap (λ (x : List ℕ). x ++ drop (length a.tokens.now) a.row.now) c.copy_from_slice.ensures.after ∙ put-front a.tokens.now a.row.now (omega arith)
