-- What lies behind what is kept is left off, from wherever it is put.
use Rattle.std.specs.Prelude.{◌≡◌, ℕ, min}
use Rattle.std.proofs.Common.{ap, sym, ◌∙◌}
use Rattle.values.specs.PutAt.{put_at}
use Rattle.values.specs.PutLaws.{put-within}
use Rattle.transcript.specs.SetText.{kept_size}
use Rattle.transcript.specs.Intake.{bytes_kept}
use Rattle.transcript.specs.declared.intake.Intake.{Intake}
use Rattle.transcript.proofs.intake.Intake.take_in.Goals as goal

pub returns-in-Text-clause-text_after : goal.returns-in-Text-clause-text_after
unfolding bytes_kept
returns-in-Text-clause-text_after c =
    let t = c.args.text.now in
    let part = c.args.part.now in
    let size = c.args.self.place.size in
    let within : c.kept.result.place.size ≡ min kept_size size = ap (λ (x : Intake). x.place.size) c.kept.ensures in
    let at : ℕ → _ = λ n. put_at t n part in
    rw (c.take_in_kept-taken.ensures.text_after, c.kept.ensures, c.in-Text.is)
    (ap at within ∙ (ap (λ (n : ℕ). at (min n size)) (sym c.told-text) ∙ put-within part t size))
