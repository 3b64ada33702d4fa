-- `alone::curve_alone` meets its contract: the array holds the line alone while it is looked at; AloneLaws has that nothing of it is left.
use mathlib.Core.Path.{◌≡◌, ap, ◌∙◌}
use mathlib.Core.List.{List}
use Prim.Native.Nat.{ℕ}
use lib.ListN.{length, replicate}
use Rattle.values.specs.PutAt.{put_at}
use Rattle.reader.specs.Draft.{alone}
use Rattle.reader.proofs.AloneLaws.{wiped}
use Rattle.reader.proofs.alone.curve_alone.Goals as goal

pub returns : goal.returns
returns c =
    let ts = c.args.tokens.now in
    let laid : c.lay.new.row ≡ alone ts = c.lay.ensures ∙ ap (λ (x : List ℕ). put_at x 0 ts) c.requires.0 in
    (rw laid at c.definition_at-d.ensures, c.wipe.ensures ∙ ap (λ (x : List ℕ). put_at x 0 (replicate (length ts) 0)) laid ∙ wiped ts)
