-- What is printed at the end fits in the buffer.
use Rattle.std.proofs.Common.{ℕ, sym, length-take-le}
use lib.ListN.{length-replicate}
use Rattle.transcript.specs.Output.{out_size}
use Rattle.piping.proofs.ProgramLaws.{end-room}
use Rattle.piping.proofs.pipe.Goals as goal

pub slice_bounds-out-end : goal.slice_bounds-out-end
slice_bounds-out-end g c = end-room _ _ c.finish-n.ensures.value c.finish-n.ensures.out_after (length-replicate {A = ℕ} out_size 0)

pub slice_bounds-write-end : goal.slice_bounds-write-end
slice_bounds-write-end g c =
    let h = end-room _ _ c.finish-n.ensures.value c.finish-n.ensures.out_after (length-replicate {A = ℕ} out_size 0) in
    sym (length-take-le _ _ h)
