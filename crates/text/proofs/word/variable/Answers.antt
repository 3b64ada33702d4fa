-- `word::variable` meets its contract: the long names byte by byte.
use native.Mathlib.Omega.{arith}
use Rattle.std.proofs.Common.{rules}
use Rattle.text.specs.Byte.{bytes}
use Rattle.text.specs.Word.{variables}
use Rattle.text.proofs.WordReadLaws.{token-read}
use Rattle.text.proofs.word.variable.Goals as goal

pub returns-in-36-2 : goal.returns-in-36-2
returns-in-36-2 c = token-read variables c.args.word.now (bytes "$A_INA") (omega arith) (search rules)

pub returns-in-36-3 : goal.returns-in-36-3
returns-in-36-3 c = token-read variables c.args.word.now (bytes "$A_OUT") (omega arith) (search rules)

pub returns-in-36-4 : goal.returns-in-36-4
returns-in-36-4 c = token-read variables c.args.word.now (bytes "$AC_MARKER") (omega arith) (search rules)

pub returns-in-36-5 : goal.returns-in-36-5
returns-in-36-5 c = token-read variables c.args.word.now (bytes "$AC_PARAM") (omega arith) (search rules)

pub returns-in-36-7 : goal.returns-in-36-7
returns-in-36-7 c = token-read variables c.args.word.now (bytes "$AC_TIMER") (omega arith) (search rules)

pub returns-in-36-8 : goal.returns-in-36-8
returns-in-36-8 c = token-read variables c.args.word.now (bytes "$AC_FIFO1") (omega arith) (search rules)

pub returns-in-36-9 : goal.returns-in-36-9
returns-in-36-9 c = token-read variables c.args.word.now (bytes "$AC_FIFO2") (omega arith) (search rules)

pub returns-in-36-10 : goal.returns-in-36-10
returns-in-36-10 c = token-read variables c.args.word.now (bytes "$AC_FIFO3") (omega arith) (search rules)

pub returns-in-36-11 : goal.returns-in-36-11
returns-in-36-11 c = token-read variables c.args.word.now (bytes "$AC_FIFO4") (omega arith) (search rules)

pub returns-in-36-12 : goal.returns-in-36-12
returns-in-36-12 c = token-read variables c.args.word.now (bytes "$AA_IM") (omega arith) (search rules)
