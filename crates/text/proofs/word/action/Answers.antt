-- `word::action` meets its contract: a long name byte by byte.
use native.Mathlib.Omega.{arith}
use Rattle.std.proofs.Common.{rules}
use Rattle.text.specs.Byte.{bytes}
use Rattle.text.specs.Word.{actions}
use Rattle.text.proofs.WordReadLaws.{token-read}
use Rattle.text.proofs.word.action.Goals as goal

pub returns-in-SYNFCT : goal.returns-in-SYNFCT
returns-in-SYNFCT c = token-read actions c.args.word.now (bytes "SYNFCT") (omega arith) (search rules)
