-- One more number is put behind those before it.
use Rattle.std.proofs.Common.{[], ◌∷◌, ◌+◌, arith, get_or, drop}
use Rattle.values.specs.PutLaws.{left_after, left-none}
use Rattle.transcript.specs.Output.{spaced, decimals}
use Rattle.transcript.specs.OutputLaws.{fields-room}
use Rattle.transcript.proofs.OutLaws.{field_next, fields-over}
use Rattle.transcript.proofs.printing.put_numbers.Goals as goal

pub loop-n-preserved : goal.loop-n-preserved
loop-n-preserved c =
    let l = c.loop-n in
    let ns = c.args.numbers.now in
    record {
      left = left_after (spaced (decimals (drop (l.n-index + 1) ns))) l.invariant.left (field_next ns l.n-index (omega arith)) c.put_field-p.ensures;
      near = omega (arith, c.put_field-p.ensures.behind, fields-room (get_or ns l.n-index 0 ∷ []), l.invariant.near);
    }

pub returns : goal.returns
returns c = let l = c.loop-n in left-none l.invariant.left (fields-over c.args.numbers.now l.n-index (omega arith))
