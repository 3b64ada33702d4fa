-- The word stands behind the space.
use Rattle.std.proofs.Common.{refl}
use Rattle.values.specs.PutLaws.{put_byte, put-sized, put_both, put_as}
use Rattle.transcript.proofs.OutLaws.{field-alone}
use Rattle.transcript.proofs.printing.put_word.Goals as goal

pub returns : goal.returns
returns c = let w = c.args.word.now in put_as (field-alone w) (put_both (put_byte c.put.ensures) (put-sized w c.put_bytes.ensures refl))
