-- `load_text::take_text` meets its contract, by its tests; LoadLaws has what a text comes to.
use native.Mathlib.Omega.{arith}
use mathlib.Core.Path.{◌∙◌}
use Rattle.std.proofs.lemmas.Result.{err_from_is_err_and}
use Rattle.reader.specs.Draft.{kept_in}
use Rattle.reader.proofs.LoadLaws.{text-long, text-many, text-faulty, text-kept, text-unknown, text-good}
use Rattle.reader.proofs.load_text.take_text.Goals as goal

pub returns-then-text-gt-TEXT_SIZE : goal.returns-then-text-gt-TEXT_SIZE
returns-then-text-gt-TEXT_SIZE c = let w = text-long c.args.text.now c.if-text-gt-TEXT_SIZE.true in (w.0, c.requires ∙ w.1)

pub returns-then-count_lines-gt-LINES : goal.returns-then-count_lines-gt-LINES
returns-then-count_lines-gt-LINES c =
    let e = c.count_lines.ensures in
    let m = c.if-count_lines-gt-LINES.true in
    let w = text-many c.args.text.now c.if-text-gt-TEXT_SIZE.false (omega arith) in
    (w.0, c.requires ∙ w.1)

pub returns-in_err-read_lines : goal.returns-in_err-read_lines
returns-in_err-read_lines c =
    let e = c.count_lines.ensures in
    let m = c.if-count_lines-gt-LINES.false in
    let p = err_from_is_err_and c.from_residual.result c.from_residual.ensures.1 in
    let w = text-faulty c.args.text.now c.if-text-gt-TEXT_SIZE.false (omega arith) c.read_lines.new.s _ c.in_err-read_lines.ensures.0 in
    (rw (p.1, p.2) w.0, c.read_lines.ensures.1 ∙ w.1)

pub returns-then-k-ne0 : goal.returns-then-k-ne0
returns-then-k-ne0 c =
    let e = c.count_lines.ensures in
    let m = c.if-count_lines-gt-LINES.false in
    let k = text-kept c.args.text.now c.if-text-gt-TEXT_SIZE.false (omega arith) c.read_lines.new.s c.read_lines.new.d c.in_ok-read_lines.ensures.0 in
    let w = text-unknown c.args.text.now c.if-text-gt-TEXT_SIZE.false (omega arith) (kept_in c.read_lines.new.s c.read_lines.new.d) k.0 _ c.first_unknown-k.ensures.0 c.if-k-ne0.true in
    (w.0, c.first_unknown-k.ensures.1 ∙ w.1)

pub put_rows-requires : goal.put_rows-requires
put_rows-requires c =
    let e = c.count_lines.ensures in
    let m = c.if-count_lines-gt-LINES.false in
    let k = text-kept c.args.text.now c.if-text-gt-TEXT_SIZE.false (omega arith) c.read_lines.new.s c.read_lines.new.d c.in_ok-read_lines.ensures.0 in
    (k.1, k.2)

pub returns : goal.returns
returns c =
    let e = c.count_lines.ensures in
    let m = c.if-count_lines-gt-LINES.false in
    let k = text-kept c.args.text.now c.if-text-gt-TEXT_SIZE.false (omega arith) c.read_lines.new.s c.read_lines.new.d c.in_ok-read_lines.ensures.0 in
    let w = text-good c.args.text.now c.if-text-gt-TEXT_SIZE.false (omega arith) (kept_in c.read_lines.new.s c.read_lines.new.d) k.0 _ c.first_unknown-k.ensures.0 c.if-k-ne0.false _ (rw c.first_unknown-k.ensures.1 at c.put_rows.ensures) in
    (w.0, w.1)
