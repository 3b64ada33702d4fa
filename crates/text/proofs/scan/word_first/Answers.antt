-- `scan::word_first`: a word does not reach beyond the bytes.
use Rattle.std.proofs.Common.{sym, length-take-le, arith}
use Rattle.text.specs.Byte.{is_word_byte}
use Rattle.text.specs.ByteLaws.{run_fits}
use Rattle.text.proofs.scan.word_first.Goals as goal

pub slice_bounds-word_token-end : goal.slice_bounds-word_token-end
slice_bounds-word_token-end c = sym (length-take-le c.run_end-size.result c.args.part.now (omega (arith, run_fits is_word_byte c.args.part.now 1 c.requires, c.run_end-size.ensures)))
