-- `word::keyword` meets its contract: the long names byte by byte.
use native.Mathlib.Omega.{arith}
use Rattle.std.proofs.Common.{rules}
use Rattle.text.specs.Byte.{bytes}
use Rattle.text.specs.Word.{keywords}
use Rattle.text.proofs.WordReadLaws.{token-read}
use Rattle.text.proofs.word.keyword.Goals as goal

pub returns-in-WHENEVER : goal.returns-in-WHENEVER
returns-in-WHENEVER c = token-read keywords c.args.word.now (bytes "WHENEVER") (omega arith) (search rules)

pub returns-in-FCTDEF : goal.returns-in-FCTDEF
returns-in-FCTDEF c = token-read keywords c.args.word.now (bytes "FCTDEF") (omega arith) (search rules)
