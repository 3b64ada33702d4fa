-- The bytes that are left, behind what the line is so far, come to what all of them come to.
use Rattle.std.proofs.Common.{◌≡◌, drop}
use Rattle.transcript.specs.SetText.{star_on}
use Rattle.transcript.proofs.set_text.Star.on.Given as goal

abbrev pub invariant-loop-b : goal.invariant-loop-b
invariant-loop-b l = star_on l.star (drop l.b-index l.part) ≡ star_on l.fn.self l.part
