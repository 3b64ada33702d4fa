-- The rows of the picture; refused, there are none.
use Rattle.std.proofs.Common.{◌≤◌, ℕ, Result, sym, ap, arith}
use Rattle.std.proofs.lemmas.Result.{IfOk-at_ok}
use Rattle.tokens.specs.Token.{max_lines}
use Rattle.engine.specs.declared.status.Status.{Status}
use Rattle.values.specs.PutLaws.{put_as, put-nothing}
use Rattle.transcript.specs.Totals.{rows_in}
use Rattle.transcript.specs.SessionRoomLaws.{status-count}
use Rattle.transcript.proofs.totals.put_picture.Goals as goal

pub returns-in_default : goal.returns-in_default
returns-in_default c = put_as (ap (λ (x : Result Status ℕ). rows_in x) (sym c.in_default.ensures)) put-nothing

pub status_rows-requires : goal.status_rows-requires
status_rows-requires c =
    let few : c.in-Ok.x.count ≤ max_lines = IfOk-at_ok (λ (x : Status). x.count ≤ max_lines) (sym c.in-Ok.ensures) (status-count c.args.set.now c.args.state) in
    (omega arith, few)

pub returns : goal.returns
returns c = put_as (ap (λ (x : Result Status ℕ). rows_in x) (sym c.in-Ok.ensures)) c.status_rows.ensures
