-- `arithmetic::output` meets its contract: each return by the tests that led to it.
use mathlib.Core.Path.{ap}
use lib.IntN.{pos}
use mir.Syntax.{w32}
use Rattle.values.specs.Value.{unit, output_of}
use Rattle.std.specs.Prelude.{Ok}
use Rattle.values.specs.SignedLaws.{back, zero-fits, unit-fits, bits-equal, bits-other}
use Rattle.values.proofs.arithmetic.output.Statement.{statement}
use Rattle.values.proofs.arithmetic.output.Tie as tie

returns-2 : tie.Need-returns-then-v-eq-UNIT
unfolding output_of
returns-2 c =
    let s = c.before.before in
    rw (bits-other s.args.v (pos 0) c.if-v-eq0.false, bits-equal s.ranges.v unit-fits c.if-v-eq-UNIT.true) (ap Ok (back w32 s.ranges.v))

returns-3 : tie.Need-returns
unfolding output_of
returns-3 c =
    let v = c.args.v in
    rw (bits-other v (pos 0) c.if-v-eq0.false, bits-other v (pos unit) c.if-v-eq-UNIT.false)

pub output_spec : {M : Type 1} → statement M
unfolding output_of
output_spec =
    tie.close
    (tie.spec
    (λ c. let f = c.ranges.v in rw (bits-equal f zero-fits c.if-v-eq0.true) (ap Ok (back w32 f)))
    returns-2
    returns-3)
