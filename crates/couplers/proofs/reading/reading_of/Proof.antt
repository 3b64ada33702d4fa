-- `reading::reading_of` meets its contract: a NaN's pattern is above that of the infinity.
use mathlib.Core.Path.{sym, subst, ◌∙◌}
use borrow.Author.Tests.{lt-ltb, le-ltb}
use lib.Dec.{T}
use mathlib.Core.Bool.{Bool, not}
use lib.Ieee.{binary32}
use lib.Ieee.Bits.{nan_bits_above}
use Rattle.couplers.specs.Conversion.{reading_of}
use Rattle.couplers.proofs.reading.reading_of.Statement.{statement}
use Rattle.couplers.proofs.reading.reading_of.Tie as tie

pub reading_of_spec : {M : Type 1} → statement M
unfolding reading_of
reading_of_spec =
    tie.close
    (tie.spec
    (λ c. rw (nan_bits_above binary32 c.args.bits, lt-ltb _ _ c.if-bits-gt-INFINITY.true))
    (λ c. subst (λ (b : Bool). T (not b)) (sym (nan_bits_above binary32 c.args.bits ∙ le-ltb _ _ c.if-bits-gt-INFINITY.false)) tt)
    (λ c. rw (nan_bits_above binary32 c.args.bits, le-ltb _ _ c.if-bits-gt-INFINITY.false)))
