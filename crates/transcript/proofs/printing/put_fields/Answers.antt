-- The numbers stand behind the word.
use Rattle.std.proofs.Common.{refl}
use Rattle.values.specs.PutLaws.{put-sized, put_both}
use Rattle.transcript.proofs.printing.put_fields.Goals as goal

pub returns : goal.returns
returns c = put_both (put-sized c.args.word.now c.put_bytes.ensures refl) c.put_numbers.ensures
