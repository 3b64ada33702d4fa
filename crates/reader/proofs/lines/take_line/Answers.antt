-- `lines::take_line` meets its contract: a line of spaces and comment is none of those that are numbered.
use native.Mathlib.Omega.{arith}
use mathlib.Core.List.{[]}
use mathlib.Core.Path.{refl, sym, ap, ◌∙◌}
use Prim.Native.Nat.{◌<◌}
use lib.ListN.{length}
use Rattle.tokens.specs.Token.{max_lines}
use Rattle.text.specs.Lines.{numbered}
use Rattle.reader.specs.Load.{rows_from}
use Rattle.reader.proofs.TokenLineLaws.{line-blank, line-full}
use Rattle.reader.proofs.lines.take_line.Goals as goal

pub returns-then-is_blank : goal.returns-then-is_blank
unfolding rows_from numbered
returns-then-is_blank c = rw (line-blank c.args.body.now [] c.args.k (sym c.is_blank.ensures ∙ c.if-is_blank.true)) ((refl, c.requires.0), c.requires.1)

pub add_line-requires : goal.add_line-requires
add_line-requires c =
    let e = ap length (line-full c.args.body.now [] c.args.k (sym c.is_blank.ensures ∙ c.if-is_blank.false)) in
    let few : c.args.d.now.count < max_lines = let p = c.requires.2 in omega arith in
    (c.requires.0, c.requires.1, few, c.requires.3)

pub returns : goal.returns
unfolding rows_from numbered
returns c = rw (line-full c.args.body.now [] c.args.k (sym c.is_blank.ensures ∙ c.if-is_blank.false)) c.add_line.ensures
