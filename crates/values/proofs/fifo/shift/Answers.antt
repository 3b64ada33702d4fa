-- What is copied, then the 0 at its end, then the rest as it was.
use Rattle.values.specs.Fifo.{shifted}
use Rattle.values.specs.ListLaws.{put-last}
use Rattle.values.proofs.fifo.shift.Goals as goal

pub returns : goal.returns
unfolding shifted
returns c = rw c.copy_within.ensures.after (put-last c.args.part.now c.args.n c.requires.0 c.requires.1)
